-- Bytes that are appended value by value.
use Rattle.std.proofs.Common.{◌≡◌, ℕ, ◌+◌, ◌≤◌, Bool, true, false, List, [], ◌∷◌, ◌++◌, length, take, Result, Ok, Err, sym, subst, ap, ◌∙◌, arith}
use Rattle.std.specs.Prelude.{◌&&◌, OnErr}
use Rattle.std.specs.List.{flat_map, list_all}
use Rattle.std.proofs.lemmas.List.{append_assoc, append-nil, take-append-le, length-append}
use Rattle.std.proofs.lemmas.Bool.{false≢true}
use Rattle.std.proofs.Math.Seq.{take-append_seam}
use Rattle.sbx_directives.specs.declared.operand.Operand.{Operand}

module _ (bytes : Operand → List ℕ) where
  pub goes_on : (out new total : List ℕ) (left after : List Operand) (o : Operand) → left ≡ o ∷ after → new ≡ out ++ bytes o
      → out ++ flat_map bytes left ≡ total → new ++ flat_map bytes after ≡ total
  goes_on out new total left after o split grown so_far =
      let all : out ++ flat_map bytes (o ∷ after) ≡ total = subst (λ xs. out ++ flat_map bytes xs ≡ total) split so_far in
      rw grown (append_assoc out (bytes o) (flat_map bytes after) ∙ all)

  pub is_done : (out total : List ℕ) (left : List Operand) → left ≡ [] → out ++ flat_map bytes left ≡ total → out ≡ total
  is_done out total left split so_far =
      let all : out ++ [] ≡ total = subst (λ xs. out ++ flat_map bytes xs ≡ total) split so_far in
      sym (append-nil out) ∙ all

-- what was there first still is
pub still_begins : (old out rest all : List ℕ) → out ++ rest ≡ old ++ all → length old ≤ length out → take (length old) out ≡ old
still_begins old out rest all e le = sym (take-append-le (length old) out rest le) ∙ (ap (take (length old)) e ∙ take-append_seam old all)

pub longer : (old out new more : List ℕ) → new ≡ out ++ more → length old ≤ length out → length old ≤ length new
longer old out new more grown le =
    let len : length (out ++ more) ≡ length out + length more = length-append out more in
    rw grown (omega (arith, len, le))

both : (s t : Bool) → (s && t) ≡ true → t ≡ true
both true t h = h
both false t h = absurd (false≢true h)

pub rest_fits : (fit : Operand → Bool) (left after : List Operand) (o : Operand) → left ≡ o ∷ after → list_all fit left ≡ true → list_all fit after ≡ true
rest_fits fit left after o split all =
    both (fit o) (list_all fit after) (subst (λ xs. list_all fit xs ≡ true) split all)

pub on_err : {A E : Type 0} (r : Result A E) (P : Type 0) → P → OnErr r P
on_err (Ok x) P p = tt
on_err (Err e) P p = p
