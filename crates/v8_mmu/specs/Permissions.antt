-- What the ACC field of a page's entry allows (appendix H, "access permissions"), and which fault it is where it
-- doesn't: what an access may do at a page, wherever that lies.
use Rattle.std.specs.Prelude.{ℕ, ◌+◌, ◌/◌, ◌%◌, ◌==◌, ◌&&◌, Bool, true, false, nat_le, Option, Some, None}
use Rattle.std.specs.Prelude.{if◌then◌else◌}
use Rattle.v8_mmu.specs.declared.access.AccessKind.{AccessKind}
use Rattle.v8_mmu.specs.declared.access.AccessKind.TheVariants.{Load, Fetch, Store, StoreCode}
use Rattle.v8_mmu.specs.declared.access.Access.{Access}
use Rattle.v8_mmu.specs.declared.access.Rights.{Rights}

abbrev pub may : Bool → Bool → Bool → Rights
may read write run = record { read = read; write = write; run = run }

-- read, write, execute: what ACC allows a user or a supervisor
abbrev pub rights_of : ℕ → Bool → Rights
rights_of acc user =
    if acc == 0 then (if user then may true false false else may true false false) else
    (if acc == 1 then (if user then may true true false else may true true false) else
    (if acc == 2 then (if user then may true false true else may true false true) else
    (if acc == 3 then (if user then may true true true else may true true true) else
    (if acc == 4 then (if user then may false false true else may false false true) else
    (if acc == 5 then (if user then may true false false else may true true false) else
    (if acc == 6 then (if user then may false false false else may true false true) else
    (if user then may false false false else may true true true)))))))

-- what an access asks for; a store to an instruction space asks for both
abbrev pub permits : Rights → AccessKind → Bool
permits r Load = r.read
permits r Fetch = r.run
permits r Store = r.write
permits r StoreCode = r.write && r.run

-- the ACC field, bits 4 to 2
abbrev pub acc_of : ℕ → ℕ
acc_of w = w / 4 % 8

unfoldable pub allows : ℕ → Access → Bool
allows w a = permits (rights_of (acc_of w) a.user) a.kind

-- The fault type of an access that a page's entry refuses, None where it allows it. 2: forbidden. 3: forbidden to users
-- whatever the access.
abbrev pub refusal_of : ℕ → Access → Option ℕ
refusal_of w a = if allows w a then None else (if a.user && nat_le 6 (acc_of w) then Some 3 else Some 2)

-- the access type of the fault status register
abbrev pub access_type : Access → ℕ
access_type a = kind_number a.kind + (if a.user then 0 else 1)
  where
    kind_number : AccessKind → ℕ
    kind_number Load = 0
    kind_number Fetch = 2
    kind_number Store = 4
    kind_number StoreCode = 6
