-- What a table knows after a write of one of its entries.
use Rattle.std.proofs.Common.{◌≡◌, ℕ, suc, add-one, ◌+◌, ◌-◌, ◌<◌, ◌≤◌, Bool, true, false, List, ◌∷◌, length, drop, Option, Some, None, slice_index_or, slice_set, ap, refl, sym, arith, ◌∙◌}
use Rattle.std.specs.Prelude.{◌==◌, if◌then◌else◌}
use Rattle.std.proofs.Math.Path.{fun_ext}
use Rattle.std.proofs.Math.Seq.{drop-cons}
use Rattle.std.proofs.lemmas.Bool.Decides.{nat_tests}
use Rattle.std.proofs.lemmas.Grind.{get_or-set_at}
use Rattle.std.proofs.lemmas.List.{get_or-set_other, get_or_past, drop_all}
use Rattle.sbx_range.specs.Range.{Range}
use Rattle.sbx_flat.specs.Three.{Three}
use Rattle.sbx_flat.specs.Operation.TheVariants.{Save}
use Rattle.sbx_domain.specs.Transfer.{called, is_global, is_in, is_kept_by_calls, is_out, restored, result_entry, saved, transferred}
use Rattle.sbx_domain.specs.declared.entry.Entry.{Entry}
use Rattle.sbx_domain.specs.declared.relation.Relation.{Relation}
use Rattle.sbx_domain.specs.Known.{Known, Table, cell_entry, entry_of_cell, is_location, known, nothing_known, started, with_entry, without_location}
use Rattle.sbx_range.specs.Cell.{Cell}
use Rattle.sbx_domain.specs.Refining.{narrowed_at, with_range_of}

at_written : (xs : List (Option Entry)) (l : ℕ) (e : Option Entry) (k : ℕ) → l < length xs → slice_index_or (slice_set xs l e) k None ≡ (if k == l then e else slice_index_or xs k None)
at_written xs l e k within = by_test (k == l) refl
  where
    by_test : (t : Bool) → (k == l) ≡ t → slice_index_or (slice_set xs l e) k None ≡ (if t then e else slice_index_or xs k None)
    by_test true h = get_or-set_at xs l k e None (grind (arith, nat_tests)) within
    by_test false h = get_or-set_other xs l k e None (λ p. grind (arith, nat_tests))

-- the entries, by location
abbrev pub Entries : Type 0
Entries = ℕ → Option Entry

abbrev pub entries_of : List (Option Entry) → Entries
entries_of xs k = slice_index_or xs k None

abbrev pub entries_with : Entries → ℕ → Option Entry → Entries
entries_with f l e k = if k == l then e else f k

abbrev pub knowing : Option Range → Bool → Option Relation → Entries → Known
knowing y icc relation f = record { entry = f; y = y; icc = icc; relation = relation }

entries_written : (xs : List (Option Entry)) (l : ℕ) (e : Option Entry) → l < length xs → entries_of (slice_set xs l e) ≡ entries_with (entries_of xs) l e
entries_written xs l e within = fun_ext (λ k. at_written xs l e k within)

-- what stands in the place of what was known, by whether the number is a location
abbrev pub written_if : Bool → ℕ → Option Entry → Known → Known
written_if t l e d = if t then record d { entry = entries_with d.entry l e; relation = without_location l d.relation } else d

written_by : (l : ℕ) (e : Option Entry) (d : Known) (t : Bool) → is_location l ≡ t → with_entry l e d ≡ written_if t l e d
unfolding with_entry
written_by l e d t here = ap (λ (t : Bool). written_if t l e d) here

room : (n l : ℕ) → n ≡ 1040 → is_location l ≡ true → l < n
room n l size here = grind (arith, nat_tests)

-- a location's entry and the relation are written
pub known_written : (s : Table) (l : ℕ) (e : Option Entry) (r : Option Relation) → length s.entries ≡ 1040 → is_location l ≡ true → r ≡ without_location l s.relation
    → known (record s { entries = slice_set s.entries l e; relation = r }) ≡ with_entry l e (known s)
unfolding known
known_written s l e r size here is =
    ap (λ (q : Option Relation). knowing s.y s.icc q (entries_of (slice_set s.entries l e))) is
    ∙ (ap (knowing s.y s.icc (without_location l s.relation)) (entries_written s.entries l e (room (length s.entries) l size here))
    ∙ sym (written_by l e (known s) true here))

pub known_unwritten : (s : Table) (l : ℕ) (e : Option Entry) → is_location l ≡ false → known s ≡ with_entry l e (known s)
known_unwritten s l e here = sym (written_by l e (known s) false here)

abbrev none : Option Entry
none = None

-- a range in the place of an entry's
narrowed_entries : (f : Entries) (l : ℕ) (r : Range) → entries_with f l (with_range_of r (f l)) ≡ (λ k. if k == l then with_range_of r (f k) else f k)
narrowed_entries f l r = fun_ext (λ k. by_test k (k == l) refl)
  where
    by_test : (k : ℕ) (t : Bool) → (k == l) ≡ t → (if t then with_range_of r (f l) else f k) ≡ (if t then with_range_of r (f k) else f k)
    by_test k true h = (let same : l ≡ k = grind (arith, nat_tests) in ap (λ j. with_range_of r (f j)) same)
    by_test k false h = refl

pub known_narrowed : (s : Table) (l : ℕ) (r : Range) (e : Option Entry) → length s.entries ≡ 1040 → l < 1040 → e ≡ with_range_of r ((known s).entry l)
    → known (record s { entries = slice_set s.entries l e }) ≡ narrowed_at l r (known s)
unfolding known narrowed_at
known_narrowed s l r e size here is =
    ap (λ (x : Option Entry). knowing s.y s.icc s.relation (entries_of (slice_set s.entries l x))) is
    ∙ (ap (knowing s.y s.icc s.relation) (entries_written s.entries l (with_range_of r (entries_of s.entries l)) (omega (arith, size, here)))
    ∙ ap (knowing s.y s.icc s.relation) (narrowed_entries (entries_of s.entries) l r))

-- past the end nothing is known
pub known_unnarrowed : (s : Table) (l : ℕ) (r : Range) → length s.entries ≡ 1040 → 1040 ≤ l → known s ≡ narrowed_at l r (known s)
unfolding known narrowed_at
known_unnarrowed s l r size past = ap (knowing s.y s.icc s.relation) (fun_ext (λ k. by_test k (k == l) refl))
  where
    f : Entries
    f = entries_of s.entries

    by_test : (k : ℕ) (t : Bool) → (k == l) ≡ t → f k ≡ (if t then with_range_of r (f k) else f k)
    by_test k true h =
        let blank_there : f k ≡ none = get_or_past s.entries k none (grind (arith, nat_tests, size)) in
        blank_there ∙ ap (with_range_of r) (sym blank_there)
    by_test k false h = refl

-- after a SAVE
pub known_saved : (s : Table) (ys : List (Option Entry)) → ((k : ℕ) → slice_index_or ys k None ≡ (if is_in k then slice_index_or s.entries (k - 16) None else None))
    → (frame : ℕ) (fields : Three) → known (record { entries = ys; y = None; icc = false; relation = None }) ≡ transferred frame (Save fields) (known s)
unfolding known saved transferred
known_saved s ys moved frame fields = ap (knowing None false None) (fun_ext moved)

-- after the window moves back
pub known_popped : (s : Table) (ys : List (Option Entry))
    → ((k : ℕ) → slice_index_or ys k None ≡ (if is_global k then slice_index_or s.entries k None else (if is_out k then slice_index_or s.entries (k + 16) None else None)))
    → known (record { entries = ys; y = s.y; icc = s.icc; relation = None }) ≡ restored (known s)
unfolding known restored
known_popped s ys moved = ap (knowing s.y s.icc None) (fun_ext moved)

-- after a call
pub known_returned : (s : Table) (results : List Range) (ys : List (Option Entry))
    → ((k : ℕ) → slice_index_or ys k None ≡ (if is_kept_by_calls k then slice_index_or s.entries k None else result_entry results k))
    → known (record { entries = ys; y = None; icc = false; relation = None }) ≡ called results (known s)
unfolding known called
known_returned s results ys moved = ap (knowing None false None) (fun_ext moved)

pub nothing_in_cleared : (ys : List (Option Entry)) → ((k : ℕ) → slice_index_or ys k None ≡ None) → known (record { entries = ys; y = None; icc = false; relation = None }) ≡ nothing_known
unfolding known
nothing_in_cleared ys cleared = ap (knowing None false None) (fun_ext cleared)

-- ---- where a block starts

same_if : (t : Bool) (e : Option Entry) → (if t then e else e) ≡ e
same_if true e = refl
same_if false e = refl

pub nothing_started : (cs : List Cell) (n : ℕ) → length cs ≤ n → nothing_known ≡ started (drop n cs)
unfolding started cell_entry
nothing_started cs n past =
    ap (knowing None false None) (fun_ext (λ k. sym (same_if (is_location k) None)))
    ∙ ap (λ (ds : List Cell). knowing None false None (λ l. if is_location l then cell_entry ds l else None)) (sym (drop_all n cs past))

cell_before : (c : Cell) (cs : List Cell) (k : ℕ) (here : is_location c.location ≡ true)
    → (if k == c.location then Some (entry_of_cell c) else (if is_location k then cell_entry cs k else None)) ≡ (if is_location k then cell_entry (c ∷ cs) k else None)
unfolding cell_entry
cell_before c cs k here = by_test (k == c.location) (is_location k) (c.location == k) refl refl refl
  where
    e : Option Entry
    e = Some (entry_of_cell c)

    by_test : (s t u : Bool) → (k == c.location) ≡ s → is_location k ≡ t → (c.location == k) ≡ u
        → (if s then e else (if t then cell_entry cs k else None)) ≡ (if t then (if u then e else cell_entry cs k) else None)
    by_test true true true p q r = refl
    by_test false true false p q r = refl
    by_test false false u p q r = refl
    by_test true true false p q r = absurd (let at : (c.location == k) ≡ true = grind (arith, nat_tests) in cc)
    by_test false true true p q r = absurd (let at : (k == c.location) ≡ true = grind (arith, nat_tests) in cc)
    by_test true false u p q r = absurd (let at : k ≡ c.location = grind (arith, nat_tests) in let z = ap is_location at in cc)

no_cell_before : (c : Cell) (cs : List Cell) (k : ℕ) → is_location c.location ≡ false → (if is_location k then cell_entry cs k else None) ≡ (if is_location k then cell_entry (c ∷ cs) k else None)
unfolding cell_entry
no_cell_before c cs k here = by_test (is_location k) (c.location == k) refl refl
  where
    e : Option Entry
    e = Some (entry_of_cell c)

    by_test : (t u : Bool) → is_location k ≡ t → (c.location == k) ≡ u → (if t then cell_entry cs k else None) ≡ (if t then (if u then e else cell_entry cs k) else None)
    by_test false u q r = refl
    by_test true false q r = refl
    by_test true true q r = absurd (let at : c.location ≡ k = grind (arith, nat_tests) in let z = ap is_location at in cc)

pub one_more_cell : (c : Cell) (cs : List Cell) → with_entry c.location (Some (entry_of_cell c)) (started cs) ≡ started (c ∷ cs)
unfolding started
one_more_cell c cs = by_test (is_location c.location) refl
  where
    by_test : (t : Bool) → is_location c.location ≡ t → with_entry c.location (Some (entry_of_cell c)) (started cs) ≡ started (c ∷ cs)
    by_test true h = written_by c.location (Some (entry_of_cell c)) (started cs) true h ∙ ap (knowing None false None) (fun_ext (λ k. cell_before c cs k h))
    by_test false h = written_by c.location (Some (entry_of_cell c)) (started cs) false h ∙ ap (knowing None false None) (fun_ext (λ k. no_cell_before c cs k h))

pub cell_more : (cs : List Cell) (n m : ℕ) (c : Cell) (d : Known) → n < length cs → m ≡ n + 1 → d ≡ started (drop m cs)
    → with_entry (slice_index_or cs n c).location (Some (entry_of_cell (slice_index_or cs n c))) d ≡ started (drop n cs)
cell_more cs n m c d room next is =
    let cell = slice_index_or cs n c in
    ap (with_entry cell.location (Some (entry_of_cell cell))) (is ∙ ap (λ k. started (drop k cs)) (next ∙ add-one n))
    ∙ (one_more_cell cell (drop (suc n) cs) ∙ ap started (sym (drop-cons cs n c room)))
