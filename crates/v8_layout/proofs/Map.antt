-- The tables of a loaded board spell its address map.
use Rattle.std.proofs.Common.{◌≡◌, ℕ, zero, suc, ◌+◌, ◌-◌, ◌*◌, ◌/◌, ◌%◌, ◌^◌, ◌<◌, ◌≤◌, ◌⊎◌, inl, inr, Bool, true, false, cond, List, Some, None, Ok, Err, refl, sym, ap, ◌∙◌, subst, arith}
use Rattle.std.specs.Prelude.{◌&&◌, nat_le, nat_lt}
use Rattle.std.proofs.lemmas.Bool.Decides.{nat_tests}
use Rattle.v8_mmu.specs.Ram.{entry_of}
use Rattle.v8_mmu.specs.Paths.{named_place}
use Rattle.v8_mmu.specs.Permissions.{allows, acc_of, permits, rights_of, access_type}
use Rattle.v8_mmu.specs.Walked.{target_of, used, walked}
use Rattle.v8_mmu.specs.declared.access.Access.{Access}
use Rattle.v8_mmu.proofs.WalkedIs.{down_one, goes_from}
use Rattle.v8_layout.specs.Layout.{Pages, AreFew, HasTables, HasEntry, region_entry, program_entry, system_region_entry, code_entry, data_acc, data_count, stack_entry, system_entry}
use Rattle.v8_layout.specs.AddressMap.{mapped, within, page_at, missing_level, through, reached, translated}
use Rattle.v8_layout.specs.Laws.{IsMapped}
use Rattle.v8_layout.proofs.Entries.{PageEntry, acc_small, data_entry_is, data_entry_word, entry_from, like, no_data_entry, no_entry}

-- ---- where a walk ends

-- at an entry 0
pub missing_ends : (ram : List ℕ) (va : ℕ) (a : Access) (left level place : ℕ) → entry_of ram place ≡ Some 0 →
    goes_from ram va a left level place (entry_of ram place) ≡ Err (record { ft = 1; level = level; at = access_type a })
missing_ends ram va a zero level place e = rw e refl
missing_ends ram va a (suc left) level place e = rw e refl

-- at a page's entry of level 3
ends_either : (va : ℕ) (a : Access) (w place : ℕ) (b c : Bool) →
    used a (record { pa = w / 256 * 4096 + va % 2 ^ 12; level = 3; place = place }) (cond b None (cond c (Some 3) (Some 2)))
    ≡ cond b (Ok (record { pa = w / 256 * 4096 + va % 2 ^ 12; level = 3; place = place })) (Err (record { ft = cond c 3 2; level = 3; at = access_type a }))
ends_either va a w place true c = refl
ends_either va a w place false true = refl
ends_either va a w place false false = refl

ends_at_page : (ram : List ℕ) (va : ℕ) (a : Access) (w place : ℕ) → entry_of ram place ≡ Some w → w % 4 ≡ 2 →
    goes_from ram va a 0 3 place (entry_of ram place) ≡ through a (mapped (w / 256 * 4096 + va % 2 ^ 12) (acc_of w) place)
unfolding allows
ends_at_page ram va a w place e two = rw e (rw two (ends_either va a w place (permits (rights_of (acc_of w) a.user) a.kind) (a.user && nat_le 6 (acc_of w))))

-- at an entry that is t but for marks
pub page_reached : (ram : List ℕ) (va : ℕ) (a : Access) (place t pa acc : ℕ) → PageEntry ram place t → t % 4 ≡ 2 → t / 256 * 4096 + va % 2 ^ 12 ≡ pa → acc_of t ≡ acc →
    goes_from ram va a 0 3 place (entry_of ram place) ≡ through a (mapped pa acc place)
page_reached ram va a place t pa acc entry page at rights =
    let l = like entry.word t entry.is page in
    ends_at_page ram va a entry.word place entry.there l.kind
    ∙ ap (λ x. through a (mapped (x * 4096 + va % 2 ^ 12) (acc_of entry.word) place)) l.page
    ∙ ap (λ x. through a (mapped x (acc_of entry.word) place)) at
    ∙ ap (λ x. through a (mapped pa x place)) (l.rights ∙ rights)

pub page_missing : (ram : List ℕ) (va : ℕ) (a : Access) (place : ℕ) → PageEntry ram place 0 → goes_from ram va a 0 3 place (entry_of ram place) ≡ Err (record { ft = 1; level = 3; at = access_type a })
page_missing ram va a place entry = missing_ends ram va a 0 3 place (entry.there ∙ ap Some (no_entry entry.word entry.is))

-- ---- the way down

-- to the table of 16 MB regions
from_root : (g : Pages) (ram : List ℕ) → HasTables g ram → (va : ℕ) (a : Access) (i w : ℕ) → va / 2 ^ 24 ≡ i → i < 256 → region_entry i ≡ w →
    (walked ram 0x2000 va a ≡ goes_from ram va a 2 1 (0x2400 + 4 * i) (entry_of ram (0x2400 + 4 * i))) × (entry_of ram (0x2400 + 4 * i) ≡ Some w)
unfolding walked target_of
from_root g ram t va a i w one small is =
    let at : named_place va 0 0x241 ≡ 0x2400 + 4 * i = omega (arith, one) in
    (down_one ram va a 2 0 0x2000 0x241 t.context refl ∙ ap (λ p. goes_from ram va a 2 1 p (entry_of ram p)) at, t.regions i small ∙ ap Some is)

-- no region there
pub no_region : (g : Pages) (ram : List ℕ) → HasTables g ram → (va : ℕ) (a : Access) (i : ℕ) → va / 2 ^ 24 ≡ i → i < 256 → region_entry i ≡ 0 →
    walked ram 0x2000 va a ≡ Err (record { ft = 1; level = 1; at = access_type a })
no_region g ram t va a i one small is =
    let r = from_root g ram t va a i 0 one small is in
    r.0 ∙ missing_ends ram va a 2 1 (0x2400 + 4 * i) r.1

-- to a table of 256 KB regions, which stands at a place and is the program's or the system's
to_second : (g : Pages) (ram : List ℕ) → HasTables g ram → (va : ℕ) (a : Access) (i w second j x : ℕ) → va / 2 ^ 24 ≡ i → i < 256 → region_entry i ≡ w →
    w % 4 ≡ 1 → w / 4 * 64 ≡ second → second < 0x10000 → va / 2 ^ 18 % 64 ≡ j → entry_of ram (second + 4 * j) ≡ Some x →
    (walked ram 0x2000 va a ≡ goes_from ram va a 1 2 (second + 4 * j) (entry_of ram (second + 4 * j)))
to_second g ram t va a i w second j x one small is kind place low two there =
    let r = from_root g ram t va a i w one small is in
    let at : named_place va 1 w ≡ second + 4 * j = omega (arith, two) in
    r.0 ∙ down_one ram va a 1 1 (0x2400 + 4 * i) w r.1 kind ∙ ap (λ p. goes_from ram va a 1 2 p (entry_of ram p)) at

-- to a table of pages
to_third : (g : Pages) (ram : List ℕ) → HasTables g ram → (va : ℕ) (a : Access) (i w second j x third k : ℕ) → va / 2 ^ 24 ≡ i → i < 256 → region_entry i ≡ w →
    w % 4 ≡ 1 → w / 4 * 64 ≡ second → second < 0x10000 → va / 2 ^ 18 % 64 ≡ j → entry_of ram (second + 4 * j) ≡ Some x →
    x % 4 ≡ 1 → x / 4 * 64 ≡ third → third < 0x10000 → va / 2 ^ 12 % 64 ≡ k → (walked ram 0x2000 va a ≡ goes_from ram va a 0 3 (third + 4 * k) (entry_of ram (third + 4 * k)))
to_third g ram t va a i w second j x third k one small is kind place low two there kind2 place2 low2 three =
    let at : named_place va 2 x ≡ third + 4 * k = omega (arith, three) in
    to_second g ram t va a i w second j x one small is kind place low two there
    ∙ down_one ram va a 0 2 (second + 4 * j) x there kind2 ∙ ap (λ p. goes_from ram va a 0 3 p (entry_of ram p)) at

-- ---- the pages, by what the address map says of an address

abbrev Ends : List ℕ → Pages → ℕ → Access → Type 0
Ends ram g va a = walked ram 0x2000 va a ≡ translated g va a

to_page : (g : Pages) (ram : List ℕ) (va : ℕ) (a : Access) (place pa acc : ℕ) → page_at g va ≡ Some (mapped pa acc place) →
    walked ram 0x2000 va a ≡ goes_from ram va a 0 3 place (entry_of ram place) → goes_from ram va a 0 3 place (entry_of ram place) ≡ through a (mapped pa acc place) → Ends ram g va a
unfolding translated
to_page g ram va a place pa acc is walk ends = walk ∙ ends ∙ sym (ap (reached va a) is)

to_nothing : (g : Pages) (ram : List ℕ) (va : ℕ) (a : Access) (level : ℕ) → page_at g va ≡ None → missing_level va ≡ level →
    walked ram 0x2000 va a ≡ Err (record { ft = 1; level = level; at = access_type a }) → Ends ram g va a
unfolding translated
to_nothing g ram va a level is at walk =
    walk ∙ sym (ap (reached va a) is ∙ ap (λ l. Err (record { ft = 1; level = l; at = access_type a })) at)

pub inside : (first end va : ℕ) → first ≤ va → va < end → within first end va ≡ true
inside first end va low high = grind (arith, nat_tests)

pub outside : (first end va : ℕ) → (va < first) ⊎ (end ≤ va) → within first end va ≡ false
outside first end va (inl low) = grind (arith, nat_tests)
outside first end va (inr high) = grind (arith, nat_tests)

pub inside_is : (first end va : ℕ) → within first end va ≡ true → (first ≤ va) × (va < end)
inside_is first end va e = (grind (arith, nat_tests), grind (arith, nat_tests))

nothing_at : (g : Pages) (va : ℕ) →
    (va < 0x40000) ⊎ (0x40000 + 4096 * g.code_count ≤ va) → (va < 0x80000) ⊎ (0x80000 + 4096 * data_count g ≤ va) → (va < 0x100000 - 4096 * g.stack_count) ⊎ (0x100000 ≤ va) →
    (va < 0xF0000000) ⊎ (0xF0001000 ≤ va) → (va < 0xF0001000) ⊎ (0xF0002000 ≤ va) → (va < 0xF0010000) ⊎ (0xF0011000 ≤ va) → page_at g va ≡ None
unfolding page_at
nothing_at g va code words stack table handlers device =
    rw (outside 0x40000 (0x40000 + 4096 * g.code_count) va code)
    (rw (outside 0x80000 (0x80000 + 4096 * data_count g) va words)
    (rw (outside (0x100000 - 4096 * g.stack_count) 0x100000 va stack)
    (rw (outside 0xF0000000 0xF0001000 va table)
    (rw (outside 0xF0001000 0xF0002000 va handlers)
    (rw (outside 0xF0010000 0xF0011000 va device) refl)))))

-- ---- code

pub code_at : (g : Pages) (va : ℕ) → 0x40000 ≤ va → va < 0x40000 + 4096 * g.code_count → page_at g va ≡ Some (mapped (va - 0x30000) 4 (0x2A00 + 4 * ((va - 0x40000) / 4096)))
unfolding page_at
code_at g va low high = rw (inside 0x40000 (0x40000 + 4096 * g.code_count) va low high) refl

code_walk : (g : Pages) (ram : List ℕ) → HasTables g ram → (va : ℕ) (a : Access) (i : ℕ) → 0x40000 ≤ va → va < 0x80000 → va / 2 ^ 12 % 64 ≡ i →
    walked ram 0x2000 va a ≡ goes_from ram va a 0 3 (0x2A00 + 4 * i) (entry_of ram (0x2A00 + 4 * i))
code_walk g ram t va a i low high three =
    to_third g ram t va a 0 0x281 0x2800 1 0x2A1 0x2A00 i (omega arith) (omega arith) refl refl refl (omega arith) (omega arith)
    (t.programs 1 (omega arith)) refl refl (omega arith) three

code_entry_is : (g : Pages) (i : ℕ) → i < g.code_count → code_entry g i ≡ 0x1012 + 0x100 * i
code_entry_is g i less = grind (arith, nat_tests)

no_code_entry : (g : Pages) (i : ℕ) → g.code_count ≤ i → code_entry g i ≡ 0
no_code_entry g i past = grind (arith, nat_tests)

code_maps : (g : Pages) (ram : List ℕ) → AreFew g → HasTables g ram → (va : ℕ) (a : Access) → 0x40000 ≤ va → va < 0x80000 → Ends ram g va a
code_maps g ram few t va a low high = by_count (nat_lt i g.code_count) refl
  where
    i : ℕ
    i = (va - 0x40000) / 4096

    third : va / 2 ^ 12 % 64 ≡ i
    third = omega arith

    walk : walked ram 0x2000 va a ≡ goes_from ram va a 0 3 (0x2A00 + 4 * i) (entry_of ram (0x2A00 + 4 * i))
    walk = code_walk g ram t va a i low high third

    by_count : (b : Bool) → nat_lt i g.code_count ≡ b → Ends ram g va a
    by_count true e =
        let less : i < g.code_count = grind (arith, nat_tests) in
        let entry = entry_from ram (0x2A00 + 4 * i) (0x1012 + 0x100 * i) (subst (HasEntry ram (0x2A00 + 4 * i)) (code_entry_is g i less) (t.code_pages i (omega arith))) in
        to_page g ram va a (0x2A00 + 4 * i) (va - 0x30000) 4 (code_at g va low (omega arith)) walk
        (page_reached ram va a (0x2A00 + 4 * i) (0x1012 + 0x100 * i) (va - 0x30000) 4 entry (omega arith) (omega arith) (omega arith))
    by_count false e =
        let past : g.code_count ≤ i = grind (arith, nat_tests) in
        let entry = entry_from ram (0x2A00 + 4 * i) 0 (subst (HasEntry ram (0x2A00 + 4 * i)) (no_code_entry g i past) (t.code_pages i (omega arith))) in
        let stack = few.stack in
        to_nothing g ram va a 3
        (nothing_at g va (inr (omega arith)) (inl (omega arith)) (inl (omega arith)) (inl (omega arith)) (inl (omega arith)) (inl (omega arith)))
        (grind (arith, nat_tests)) (walk ∙ page_missing ram va a (0x2A00 + 4 * i) entry)

-- ---- data

pub data_at : (g : Pages) (va : ℕ) → AreFew g → 0x80000 ≤ va → va < 0x80000 + 4096 * data_count g →
    page_at g va ≡ Some (mapped (va - 0x30000) (data_acc g ((va - 0x80000) / 4096)) (0x2B00 + 4 * ((va - 0x80000) / 4096)))
unfolding page_at
data_at g va few low high =
    let code = few.code in
    rw (outside 0x40000 (0x40000 + 4096 * g.code_count) va (inr (omega arith))) (rw (inside 0x80000 (0x80000 + 4096 * data_count g) va low high) refl)

data_maps : (g : Pages) (ram : List ℕ) → AreFew g → HasTables g ram → (va : ℕ) (a : Access) → 0x80000 ≤ va → va < 0xC0000 → Ends ram g va a
data_maps g ram few t va a low high = by_count (nat_lt i (data_count g)) refl
  where
    i : ℕ
    i = (va - 0x80000) / 4096

    walk : walked ram 0x2000 va a ≡ goes_from ram va a 0 3 (0x2B00 + 4 * i) (entry_of ram (0x2B00 + 4 * i))
    walk = to_third g ram t va a 0 0x281 0x2800 2 0x2B1 0x2B00 i (omega arith) (omega arith) refl refl refl (omega arith) (omega arith)
        (t.programs 2 (omega arith)) refl refl (omega arith) (omega arith)

    by_count : (b : Bool) → nat_lt i (data_count g) ≡ b → Ends ram g va a
    by_count true e =
        let less : i < data_count g = grind (arith, nat_tests) in
        let acc = acc_small g i in
        let entry = entry_from ram (0x2B00 + 4 * i) (data_entry_word g i) (subst (HasEntry ram (0x2B00 + 4 * i)) (data_entry_is g i less) (t.data_pages i (omega arith))) in
        to_page g ram va a (0x2B00 + 4 * i) (va - 0x30000) (data_acc g i) (data_at g va few low (omega arith)) walk
        (page_reached ram va a (0x2B00 + 4 * i) (data_entry_word g i) (va - 0x30000) (data_acc g i) entry (omega arith) (omega arith) (omega arith))
    by_count false e =
        let past : data_count g ≤ i = grind (arith, nat_tests) in
        let entry = entry_from ram (0x2B00 + 4 * i) 0 (subst (HasEntry ram (0x2B00 + 4 * i)) (no_data_entry g i past) (t.data_pages i (omega arith))) in
        let code = few.code in
        let stack = few.stack in
        to_nothing g ram va a 3
        (nothing_at g va (inr (omega arith)) (inr (omega arith)) (inl (omega arith)) (inl (omega arith)) (inl (omega arith)) (inl (omega arith)))
        (grind (arith, nat_tests)) (walk ∙ page_missing ram va a (0x2B00 + 4 * i) entry)

-- ---- the stack

pub stack_at : (g : Pages) (va : ℕ) → AreFew g → 0x100000 - 4096 * g.stack_count ≤ va → va < 0x100000 → page_at g va ≡ Some (mapped (va - 0x60000) 1 (0x2C00 + 4 * ((va - 0xC0000) / 4096)))
unfolding page_at
stack_at g va few low high =
    let code = few.code in
    let words = few.data_pages in
    let stack = few.stack in
    rw (outside 0x40000 (0x40000 + 4096 * g.code_count) va (inr (omega arith)))
    (rw (outside 0x80000 (0x80000 + 4096 * data_count g) va (inr (omega arith))) (rw (inside (0x100000 - 4096 * g.stack_count) 0x100000 va low high) refl))

stack_entry_is : (g : Pages) (i : ℕ) → 64 - g.stack_count ≤ i → i < 64 → stack_entry g i ≡ 0x9006 + 0x100 * (i - 48)
stack_entry_is g i low less = grind (arith, nat_tests)

no_stack_entry : (g : Pages) (i : ℕ) → i < 64 - g.stack_count → stack_entry g i ≡ 0
no_stack_entry g i before = grind (arith, nat_tests)

stack_maps : (g : Pages) (ram : List ℕ) → AreFew g → HasTables g ram → (va : ℕ) (a : Access) → 0xC0000 ≤ va → va < 0x100000 → Ends ram g va a
stack_maps g ram few t va a low high = by_count (nat_le (64 - g.stack_count) i) refl
  where
    i : ℕ
    i = (va - 0xC0000) / 4096

    walk : walked ram 0x2000 va a ≡ goes_from ram va a 0 3 (0x2C00 + 4 * i) (entry_of ram (0x2C00 + 4 * i))
    walk = to_third g ram t va a 0 0x281 0x2800 3 0x2C1 0x2C00 i (omega arith) (omega arith) refl refl refl (omega arith) (omega arith)
        (t.programs 3 (omega arith)) refl refl (omega arith) (omega arith)

    by_count : (b : Bool) → nat_le (64 - g.stack_count) i ≡ b → Ends ram g va a
    by_count true e =
        let above : 64 - g.stack_count ≤ i = grind (arith, nat_tests) in
        let stack = few.stack in
        let small : i < 64 = omega arith in
        let entry = entry_from ram (0x2C00 + 4 * i) (0x9006 + 0x100 * (i - 48)) (subst (HasEntry ram (0x2C00 + 4 * i)) (stack_entry_is g i above small) (t.stack_pages i small)) in
        to_page g ram va a (0x2C00 + 4 * i) (va - 0x60000) 1 (stack_at g va few (omega arith) high) walk
        (page_reached ram va a (0x2C00 + 4 * i) (0x9006 + 0x100 * (i - 48)) (va - 0x60000) 1 entry (omega arith) (omega arith) (omega arith))
    by_count false e =
        let before : i < 64 - g.stack_count = grind (arith, nat_tests) in
        let entry = entry_from ram (0x2C00 + 4 * i) 0 (subst (HasEntry ram (0x2C00 + 4 * i)) (no_stack_entry g i before) (t.stack_pages i (omega arith))) in
        let code = few.code in
        let words = few.data_pages in
        to_nothing g ram va a 3
        (nothing_at g va (inr (omega arith)) (inr (omega arith)) (inl (omega arith)) (inl (omega arith)) (inl (omega arith)) (inl (omega arith)))
        (grind (arith, nat_tests)) (walk ∙ page_missing ram va a (0x2C00 + 4 * i) entry)

-- ---- the system

system_walk : (g : Pages) (ram : List ℕ) → HasTables g ram → (va : ℕ) (a : Access) (i : ℕ) → 0xF0000000 ≤ va → va < 0xF0040000 → va / 2 ^ 12 % 64 ≡ i →
    walked ram 0x2000 va a ≡ goes_from ram va a 0 3 (0x2D00 + 4 * i) (entry_of ram (0x2D00 + 4 * i))
system_walk g ram t va a i low high three =
    to_third g ram t va a 0xF0 0x291 0x2900 0 0x2D1 0x2D00 i (omega arith) (omega arith) refl refl refl (omega arith) (omega arith)
    (t.systems 0 (omega arith)) refl refl (omega arith) three

pub below_system : (g : Pages) → AreFew g → (va : ℕ) → 0x100000 ≤ va → ((0x40000 + 4096 * g.code_count ≤ va) × (0x80000 + 4096 * data_count g ≤ va))
below_system g few va low =
    let code = few.code in
    let words = few.data_pages in
    (omega arith, omega arith)

pub table_at : (g : Pages) (va : ℕ) → AreFew g → 0xF0000000 ≤ va → va < 0xF0001000 → page_at g va ≡ Some (mapped (va - 0xF0000000) 6 0x2D00)
unfolding page_at
table_at g va few low high =
    let past = below_system g few va (omega arith) in
    rw (outside 0x40000 (0x40000 + 4096 * g.code_count) va (inr past.0)) (rw (outside 0x80000 (0x80000 + 4096 * data_count g) va (inr past.1))
    (rw (outside (0x100000 - 4096 * g.stack_count) 0x100000 va (inr (omega arith))) (rw (inside 0xF0000000 0xF0001000 va low high) refl)))

pub handlers_at : (g : Pages) (va : ℕ) → AreFew g → 0xF0001000 ≤ va → va < 0xF0002000 → page_at g va ≡ Some (mapped (va - 0xF0000000) 6 0x2D04)
unfolding page_at
handlers_at g va few low high =
    let past = below_system g few va (omega arith) in
    rw (outside 0x40000 (0x40000 + 4096 * g.code_count) va (inr past.0)) (rw (outside 0x80000 (0x80000 + 4096 * data_count g) va (inr past.1))
    (rw (outside (0x100000 - 4096 * g.stack_count) 0x100000 va (inr (omega arith))) (rw (outside 0xF0000000 0xF0001000 va (inr low)) (rw (inside 0xF0001000 0xF0002000 va low high) refl))))

pub device_at : (g : Pages) (va : ℕ) → AreFew g → 0xF0010000 ≤ va → va < 0xF0011000 → page_at g va ≡ Some (mapped (va - 0xF0010000 + 0x100000000) 7 0x2D40)
unfolding page_at
device_at g va few low high =
    let past = below_system g few va (omega arith) in
    rw (outside 0x40000 (0x40000 + 4096 * g.code_count) va (inr past.0)) (rw (outside 0x80000 (0x80000 + 4096 * data_count g) va (inr past.1))
    (rw (outside (0x100000 - 4096 * g.stack_count) 0x100000 va (inr (omega arith))) (rw (outside 0xF0000000 0xF0001000 va (inr (omega arith)))
    (rw (outside 0xF0001000 0xF0002000 va (inr (omega arith))) (rw (inside 0xF0010000 0xF0011000 va low high) refl)))))

no_system_entry : (i : ℕ) → (1 < i) → (i < 16) ⊎ (16 < i) → system_entry i ≡ 0
no_system_entry i one (inl low) = grind (arith, nat_tests)
no_system_entry i one (inr high) = grind (arith, nat_tests)

no_system : (g : Pages) (ram : List ℕ) → AreFew g → HasTables g ram → (va : ℕ) (a : Access) → 0xF0002000 ≤ va → va < 0xF0040000 → (va < 0xF0010000) ⊎ (0xF0011000 ≤ va) → Ends ram g va a
no_system g ram few t va a low high sides =
    let i : ℕ = va / 2 ^ 12 % 64 in
    let past = below_system g few va (omega arith) in
    let apart : (i < 16) ⊎ (16 < i) = elim sides [ inl l ↦ inl (omega arith) | inr h ↦ inr (omega arith) ] in
    let entry = entry_from ram (0x2D00 + 4 * i) 0 (subst (HasEntry ram (0x2D00 + 4 * i)) (no_system_entry i (omega arith) apart) (t.system_pages i (omega arith))) in
    to_nothing g ram va a 3
    (nothing_at g va (inr past.0) (inr past.1) (inr (omega arith)) (inr (omega arith)) (inr (omega arith)) sides)
    (grind (arith, nat_tests)) (system_walk g ram t va a i (omega arith) high refl ∙ page_missing ram va a (0x2D00 + 4 * i) entry)

system_maps : (g : Pages) (ram : List ℕ) → AreFew g → HasTables g ram → (va : ℕ) (a : Access) → 0xF0000000 ≤ va → va < 0xF0040000 → Ends ram g va a
system_maps g ram few t va a low high =
    let parts : (va < 0xF0001000) ⊎ (0xF0001000 ≤ va) = search arith in
    elim parts [
      | inl table ↦ to_page g ram va a 0x2D00 (va - 0xF0000000) 6 (table_at g va few low table) (system_walk g ram t va a 0 low high (omega arith))
          (page_reached ram va a 0x2D00 0x1A (va - 0xF0000000) 6 (entry_from ram 0x2D00 0x1A (t.system_pages 0 (omega arith))) refl (omega arith) refl)
      | inr rest ↦
          let more : (va < 0xF0002000) ⊎ (0xF0002000 ≤ va) = search arith in
          elim more [
            | inl handlers ↦ to_page g ram va a 0x2D04 (va - 0xF0000000) 6 (handlers_at g va few rest handlers) (system_walk g ram t va a 1 low high (omega arith))
                (page_reached ram va a 0x2D04 0x11A (va - 0xF0000000) 6 (entry_from ram 0x2D04 0x11A (t.system_pages 1 (omega arith))) refl (omega arith) refl)
            | inr past ↦
                let third : (va < 0xF0010000) ⊎ (0xF0010000 ≤ va) = search arith in
                elim third [
                  | inl before ↦ no_system g ram few t va a past high (inl before)
                  | inr from ↦
                      let last : (va < 0xF0011000) ⊎ (0xF0011000 ≤ va) = search arith in
                      elim last [
                        | inl device ↦ to_page g ram va a 0x2D40 (va - 0xF0010000 + 0x100000000) 7 (device_at g va few from device) (system_walk g ram t va a 16 low high (omega arith))
                            (page_reached ram va a 0x2D40 0x1000001E (va - 0xF0010000 + 0x100000000) 7 (entry_from ram 0x2D40 0x1000001E (t.system_pages 16 (omega arith))) refl (omega arith) refl)
                        | inr after ↦ no_system g ram few t va a past high (inr after)
                      ]
                ]
          ]
    ]

-- ---- addresses of no table of pages

no_entry_second : (i : ℕ) → (i ≡ 0) ⊎ (3 < i) → program_entry i ≡ 0
no_entry_second i (inl zero_is) = grind (arith, nat_tests)
no_entry_second i (inr high) = grind (arith, nat_tests)

no_program : (g : Pages) (ram : List ℕ) → AreFew g → HasTables g ram → (va : ℕ) (a : Access) → va < 0x1000000 → (va < 0x40000) ⊎ (0x100000 ≤ va) → Ends ram g va a
no_program g ram few t va a high sides =
    let j : ℕ = va / 2 ^ 18 % 64 in
    let code = few.code in
    let words = few.data_pages in
    let stack = few.stack in
    let none : program_entry j ≡ 0 = no_entry_second j (elim sides [ inl low ↦ inl (omega arith) | inr above ↦ inr (omega arith) ]) in
    let there : entry_of ram (0x2800 + 4 * j) ≡ Some 0 = t.programs j (omega arith) ∙ ap Some none in
    let level : missing_level va ≡ 2 = elim sides [ inl low ↦ grind (arith, nat_tests) | inr above ↦ grind (arith, nat_tests) ] in
    to_nothing g ram va a 2
    (nothing_at g va (elim sides [ inl low ↦ inl low | inr above ↦ inr (omega arith) ])
    (elim sides [ inl low ↦ inl (omega arith) | inr above ↦ inr (omega arith) ]) (elim sides [ inl low ↦ inl (omega arith) | inr above ↦ inr above ])
    (inl (omega arith)) (inl (omega arith)) (inl (omega arith)))
    level
    (to_second g ram t va a 0 0x281 0x2800 j 0 (omega arith) (omega arith) refl refl refl (omega arith) refl there ∙ missing_ends ram va a 1 2 (0x2800 + 4 * j) there)

no_system_region : (g : Pages) (ram : List ℕ) → AreFew g → HasTables g ram → (va : ℕ) (a : Access) → 0xF0040000 ≤ va → va < 0xF1000000 → Ends ram g va a
no_system_region g ram few t va a low high =
    let j : ℕ = va / 2 ^ 18 % 64 in
    let past = below_system g few va (omega arith) in
    let none : system_region_entry j ≡ 0 = (let one : 0 < j = omega arith in grind (arith, nat_tests)) in
    let there : entry_of ram (0x2900 + 4 * j) ≡ Some 0 = t.systems j (omega arith) ∙ ap Some none in
    to_nothing g ram va a 2
    (nothing_at g va (inr past.0) (inr past.1) (inr (omega arith)) (inr (omega arith)) (inr (omega arith)) (inr (omega arith)))
    (grind (arith, nat_tests))
    (to_second g ram t va a 0xF0 0x291 0x2900 j 0 (omega arith) (omega arith) refl refl refl (omega arith) refl there ∙ missing_ends ram va a 1 2 (0x2900 + 4 * j) there)

no_other_region : (i : ℕ) → 0 < i → (i < 0xF0) ⊎ (0xF0 < i) → region_entry i ≡ 0
no_other_region i one (inl low) = grind (arith, nat_tests)
no_other_region i one (inr high) = grind (arith, nat_tests)

no_other : (g : Pages) (ram : List ℕ) → AreFew g → HasTables g ram → (va : ℕ) (a : Access) → va < 2 ^ 32 → 0x1000000 ≤ va → (va < 0xF0000000) ⊎ (0xF1000000 ≤ va) → Ends ram g va a
no_other g ram few t va a word low sides =
    let i : ℕ = va / 2 ^ 24 in
    let past = below_system g few va (omega arith) in
    let none : region_entry i ≡ 0 = no_other_region i (omega arith) (elim sides [ inl l ↦ inl (omega arith) | inr h ↦ inr (omega arith) ]) in
    let level : missing_level va ≡ 1 = elim sides [ inl l ↦ grind (arith, nat_tests) | inr h ↦ grind (arith, nat_tests) ] in
    to_nothing g ram va a 1
    (nothing_at g va (inr past.0) (inr past.1) (inr (omega arith)) (elim sides [ inl l ↦ inl l | inr h ↦ inr (omega arith) ])
    (elim sides [ inl l ↦ inl (omega arith) | inr h ↦ inr (omega arith) ]) (elim sides [ inl l ↦ inl (omega arith) | inr h ↦ inr (omega arith) ]))
    level
    (no_region g ram t va a i refl (omega arith) none)

-- ---- every address

programs_map : (g : Pages) (ram : List ℕ) → AreFew g → HasTables g ram → (va : ℕ) (a : Access) → va < 0x1000000 → Ends ram g va a
programs_map g ram few t va a high =
    let first : (va < 0x40000) ⊎ (0x40000 ≤ va) = search arith in
    elim first [
      | inl before ↦ no_program g ram few t va a high (inl before)
      | inr low ↦
          let second : (va < 0x80000) ⊎ (0x80000 ≤ va) = search arith in
          elim second [
            | inl code ↦ code_maps g ram few t va a low code
            | inr past ↦
                let third : (va < 0xC0000) ⊎ (0xC0000 ≤ va) = search arith in
                elim third [
                  | inl words ↦ data_maps g ram few t va a past words
                  | inr above ↦
                      let last : (va < 0x100000) ⊎ (0x100000 ≤ va) = search arith in
                      elim last [ inl stack ↦ stack_maps g ram few t va a above stack | inr after ↦ no_program g ram few t va a high (inr after) ]
                ]
          ]
    ]

pub tables_map : (g : Pages) (ram : List ℕ) → AreFew g → HasTables g ram → IsMapped g ram
tables_map g ram few t va a word =
    let first : (va < 0x1000000) ⊎ (0x1000000 ≤ va) = search arith in
    elim first [
      | inl programs ↦ programs_map g ram few t va a programs
      | inr low ↦
          let second : (va < 0xF0000000) ⊎ (0xF0000000 ≤ va) = search arith in
          elim second [
            | inl between ↦ no_other g ram few t va a word low (inl between)
            | inr system ↦
                let third : (va < 0xF0040000) ⊎ (0xF0040000 ≤ va) = search arith in
                elim third [
                  | inl pages ↦ system_maps g ram few t va a system pages
                  | inr past ↦
                      let last : (va < 0xF1000000) ⊎ (0xF1000000 ≤ va) = search arith in
                      elim last [ inl region ↦ no_system_region g ram few t va a past region | inr after ↦ no_other g ram few t va a word low (inr after) ]
                ]
          ]
    ]
