-- Paths that stand higher.
use Rattle.std.proofs.Common.{◌≡◌, ℕ, ◌+◌, ◌*◌, ◌/◌, ◌%◌, ◌^◌, ◌<◌, ◌≤◌, Bool, true, false, List, Some, IsSomeAnd, Ok, refl, sym, ap, ◌∙◌, arith}
use Rattle.std.specs.Prelude.{slice_index, ◌==◌, nat_le, ◌++◌, length, drop, take, if◌then◌else◌}
use Rattle.std.specs.Int.{w32, to_be_bytes}
use Rattle.std.proofs.lemmas.Bool.Decides.{nat_tests}
use Rattle.std.proofs.Math.Seq.{drop-append-add, take-append-add}
use Rattle.std.proofs.lemmas.List.{append_assoc, length-append}
use Rattle.v8_mmu.specs.Ram.{entry_of, with_entry}
use Rattle.v8_mmu.specs.Permissions.{acc_of, allows}
use Rattle.v8_mmu.specs.Paths.{LeadsTo, Names, Translates, index_at, last_place, marked, named_place, physical}
use Rattle.v8_mmu.specs.Walked.{page_of, walked}
use Rattle.v8_mmu.specs.declared.access.Access.{Access}
use Rattle.v8_mmu.specs.declared.translation.Found.{Found}
use Rattle.v8_mmu.proofs.RamMore.{marked_high, marked_low, marked_referenced, marked_modified}
use Rattle.v8_mmu.proofs.WalkedIs.{some_of, translates_walked}
use Rattle.leon_moved.specs.Moved.{IsMoved, IsDistance, moved}

-- ---- a word

kind_moves : (b w : ℕ) → IsDistance b → moved b w % 4 ≡ w % 4
kind_moves b w d = omega (arith, d)

acc_moves : (b w : ℕ) → IsDistance b → acc_of (moved b w) ≡ acc_of w
acc_moves b w d = omega (arith, d)

sum_moves : (b x i : ℕ) → IsDistance b → (x / 4 * 64 + i) % 2 ^ 36 + b < 2 ^ 36 →
    ((x + b / 16) / 4 * 64 + i) % 2 ^ 36 ≡ (x / 4 * 64 + i) % 2 ^ 36 + b
sum_moves b x i d fit = omega (arith, d, fit)

place_moves : (b va level w : ℕ) → IsDistance b → named_place va level w + b < 2 ^ 36 → named_place va level (moved b w) ≡ named_place va level w + b
place_moves b va level w d fit = sum_moves b w (4 * index_at va (level + 1)) d fit

page_moves : (b w level va : ℕ) → IsDistance b → 1 ≤ level → physical (moved b w) level va ≡ physical w level va + b
page_moves b w level va d some = by_cases (level == 0) (level == 1) (level == 2) refl refl refl
  where
    by_cases : (z o t : Bool) → (level == 0) ≡ z → (level == 1) ≡ o → (level == 2) ≡ t → physical (moved b w) level va ≡ physical w level va + b
    by_cases true o t e0 e1 e2 = let none : level ≡ 0 = grind (arith, nat_tests) in absurd (omega (arith, none, some))
    by_cases false true t e0 e1 e2 = rw e0 (rw e1 (omega (arith, d)))
    by_cases false false true e0 e1 e2 = rw e0 (rw e1 (rw e2 (omega (arith, d))))
    by_cases false false false e0 e1 e2 = rw e0 (rw e1 (rw e2 (omega (arith, d))))

-- what R and M are of a word, whatever its other bits are
marks_of : (w : ℕ) (store : Bool) → (marked w store / 2 ^ 7 ≡ w / 2 ^ 7) × (marked w store % 2 ^ 5 ≡ w % 2 ^ 5)
    × (marked w store / 2 ^ 5 % 2 ≡ 1) × (marked w store / 2 ^ 6 % 2 ≡ (if store then 1 else w / 2 ^ 6 % 2))
marks_of w store = (marked_high w store, marked_low w store, marked_referenced w store, marked_modified w store)

pub mark_moves : (b w : ℕ) (store : Bool) → IsDistance b → marked (moved b w) store ≡ moved b (marked w store)
mark_moves b w true d = omega (arith, d, marks_of w true, marks_of (moved b w) true)
mark_moves b w false d = omega (arith, d, marks_of w false, marks_of (moved b w) false)

-- ---- RAM above other bytes

pub entry_moves : (lower ram : List ℕ) (p : ℕ) → length lower % 4 ≡ 0 → entry_of (lower ++ ram) (length lower + p) ≡ entry_of ram p
unfolding entry_of
entry_moves lower ram p four =
    let bytes : drop (length lower + p) (lower ++ ram) ≡ drop p ram = drop-append-add lower ram p in
    let whole : ((length lower + p) % 4 == 0) ≡ (p % 4 == 0) = grind (arith, nat_tests) in
    let size : length (lower ++ ram) ≡ length lower + length ram = length-append lower ram in
    let fits : nat_le (length lower + p + 4) (length (lower ++ ram)) ≡ nat_le (p + 4) (length ram) = grind (arith, nat_tests) in
    rw whole (rw fits (rw bytes refl))

pub with_entry_moves : (lower ram : List ℕ) (p w : ℕ) → with_entry (lower ++ ram) (length lower + p) w ≡ lower ++ with_entry ram p w
unfolding with_entry
with_entry_moves lower ram p w =
    let front : take (length lower + p) (lower ++ ram) ≡ lower ++ take p ram = take-append-add lower ram p in
    let next : length lower + p + 4 ≡ length lower + (p + 4) = omega arith in
    let back : drop (length lower + p + 4) (lower ++ ram) ≡ drop (p + 4) ram = ap (λ n. drop n (lower ++ ram)) next ∙ drop-append-add lower ram (p + 4) in
    ap (λ (l : List ℕ). l ++ to_be_bytes w32 w ++ drop (length lower + p + 4) (lower ++ ram)) front
    ∙ ap (λ (l : List ℕ). (lower ++ take p ram) ++ to_be_bytes w32 w ++ l) back ∙ ap (λ (l : List ℕ). l ++ drop (p + 4) ram) (append_assoc lower (take p ram) (to_be_bytes w32 w))
    ∙ append_assoc lower (take p ram ++ to_be_bytes w32 w) (drop (p + 4) ram)

-- ---- a word of the path, and the one that is moved

record Both (b : ℕ) (old new : List ℕ) (place : ℕ) : Type 0 where
  word : ℕ
  here : entry_of old place ≡ Some word
  there : entry_of new (place + b) ≡ Some (moved b word)

both : (b : ℕ) (old new : List ℕ) (f g : Found) → IsMoved b old new f g → (k : ℕ) → k ≤ f.level → Both b old new (slice_index f.places k)
both b old new f g m k below =
    let found = some_of (entry_of old (slice_index f.places k)) (λ w. entry_of new (slice_index f.places k + b) ≡ Some (moved b w)) (m.words k below) in
    record { word = found.0; here = found.1; there = found.2 }

names_move : (b : ℕ) (old new : List ℕ) (va : ℕ) (f g : Found) → IsMoved b old new f g → (k : ℕ) → k < f.level →
    Names old va k (slice_index f.places k) (slice_index f.places (k + 1)) → Names new va k (slice_index g.places k) (slice_index g.places (k + 1))
names_move b old new va f g m k below names =
    let w = both b old new f g m k (omega (arith, below)) in
    let is : (w.word % 4 ≡ 1) × (slice_index f.places (k + 1) ≡ named_place va k w.word) = rw w.here at names in
    let fit : slice_index f.places (k + 1) + b < 2 ^ 36 = m.fit (k + 1) (omega (arith, below)) in
    let fits : named_place va k w.word + b < 2 ^ 36 = rw is.1 at fit in
    let to : slice_index g.places (k + 1) ≡ named_place va k (moved b w.word) =
    m.places (k + 1) (omega (arith, below)) ∙ ap (λ p. p + b) is.1 ∙ sym (place_moves b va k w.word m.distance fits) in
    let from : slice_index g.places k ≡ slice_index f.places k + b = m.places k (omega (arith, below)) in
    rw from (rw w.there (kind_moves b w.word m.distance ∙ is.0, to))

page_there : (b : ℕ) (old new : List ℕ) (va : ℕ) (f g : Found) → IsMoved b old new f g →
    IsSomeAnd (entry_of old (last_place f)) (λ w. (w % 4 ≡ 2) × (f.pa ≡ physical w f.level va)) →
    IsSomeAnd (entry_of new (slice_index f.places f.level + b)) (λ w. (w % 4 ≡ 2) × (g.pa ≡ physical w f.level va))
page_there b old new va f g m page =
    let w = both b old new f g m f.level (omega arith) in
    let is : (w.word % 4 ≡ 2) × (f.pa ≡ physical w.word f.level va) = rw w.here at page in
    rw w.there (kind_moves b w.word m.distance ∙ is.0, m.pa ∙ ap (λ p. p + b) is.1 ∙ sym (page_moves b w.word f.level va m.distance m.some))

last_moves : (b : ℕ) (old new : List ℕ) (f g : Found) → IsMoved b old new f g → last_place g ≡ slice_index f.places f.level + b
last_moves b old new f g m = ap (λ k. slice_index g.places k) m.level ∙ m.places f.level (omega arith)

pub path_moves : (b : ℕ) (old new : List ℕ) (root va : ℕ) (f g : Found) → IsMoved b old new f g → LeadsTo old root va f → LeadsTo new (root + b) va g
path_moves b old new root va f g m t = record {
  down = record {
    first = m.places 0 (omega arith) ∙ ap (λ p. p + b) t.down.first;
    each = λ k below. let low : k < f.level = rw m.level at below in names_move b old new va f g m k low (t.down.each k low);
  };
  level = rw m.level t.level;
  page = let last : last_place g ≡ slice_index f.places f.level + b = last_moves b old new f g m in rw last (rw m.level (page_there b old new va f g m t.page));
}

allows_there : (b : ℕ) (old new : List ℕ) (a : Access) (f g : Found) → IsMoved b old new f g →
    IsSomeAnd (entry_of old (last_place f)) (λ w. allows w a ≡ true) → IsSomeAnd (entry_of new (slice_index f.places f.level + b)) (λ w. allows w a ≡ true)
unfolding allows
allows_there b old new a f g m ok =
    let w = both b old new f g m f.level (omega arith) in
    let is : allows w.word a ≡ true = rw w.here at ok in
    rw w.there (by_acc w.word is)
  where
    by_acc : (w : ℕ) → allows w a ≡ true → allows (moved b w) a ≡ true
    by_acc w is = let same : acc_of (moved b w) ≡ acc_of w = acc_moves b w m.distance in rw same is

pub walk_moves : (b : ℕ) (old new : List ℕ) (root va : ℕ) (a : Access) (f g : Found) → IsMoved b old new f g → Translates old root va a f →
    walked new (root + b) va a ≡ Ok (page_of g)
walk_moves b old new root va a f g m t = translates_walked new (root + b) va a g (record {
  path = path_moves b old new root va f g m t.path;
  allowed = let last : last_place g ≡ slice_index f.places f.level + b = last_moves b old new f g m in rw last (allows_there b old new a f g m t.allowed);
})
