-- Marks of labels.
use Rattle.std.proofs.Common.{◌≡◌, ℕ, zero, suc, ◌+◌, ◌<◌, ◌≤◌, Bool, true, false, List, length, drop, get_or, set, refl, sym, ap, ◌∙◌, arith}
use Rattle.std.specs.Prelude.{◌==◌, ◌||◌, ◌&&◌, replicate}
use Rattle.std.proofs.lemmas.Bool.{eqb-true, eqb-false, le-leb, lt-leb, ne_eqb}
use Rattle.std.proofs.lemmas.List.{at_drop_more, get_or-set_other, get_or-set_same, length-replicate, length-set}
use Rattle.native_lang.specs.declared.program.Arm.{Arm}
use Rattle.native_text.specs.Pauses.{MarksMore, goes_back, returns_to}

or_false : (b : Bool) → (b || false) ≡ b
or_false true = refl
or_false false = refl

or_true : (b : Bool) → (b || true) ≡ true
or_true true = refl
or_true false = refl

or_assoc : (a b c : Bool) → ((a || b) || c) ≡ (a || (b || c))
or_assoc true b c = refl
or_assoc false b c = refl

and_true : (b : Bool) → (b && true) ≡ b
and_true true = refl
and_true false = refl

and_false : (b : Bool) → (b && false) ≡ false
and_false true = refl
and_false false = refl

set_at : (xs : List Bool) (i k : ℕ) (b : Bool) → (i == k) ≡ b → k < length xs → get_or (set xs i true) k false ≡ (get_or xs k false || b)
set_at xs i k true e lt =
    let same : i ≡ k = eqb-true i k e in
    ap (λ (j : ℕ). get_or (set xs i true) j false) (sym same) ∙ get_or-set_same xs i true false (omega arith) ∙ sym (or_true (get_or xs k false))
set_at xs i k false e lt =
    get_or-set_other xs i k true false (λ same. eqb-false i k e (sym same)) ∙ sym (or_false (get_or xs k false))

pub marks_set : (xs : List Bool) (i : ℕ) → MarksMore xs (set xs i true) (λ k. i == k)
marks_set xs i = record { count = length-set xs i true; marks = λ k lt. set_at xs i k (i == k) refl lt }

-- none is marked
pub marks_same : (xs : List Bool) (more : ℕ → Bool) → ((k : ℕ) → k < length xs → more k ≡ false) → MarksMore xs xs more
marks_same xs more none =
    record { count = refl; marks = λ k lt. sym (ap (λ (b : Bool). get_or xs k false || b) (none k lt) ∙ or_false (get_or xs k false)) }

-- a label behind all of them
pub marks_beyond : (xs : List Bool) (i : ℕ) → length xs ≤ i → MarksMore xs xs (λ k. i == k)
marks_beyond xs i far = marks_same xs (λ k. i == k) (λ k lt. ne_eqb i k (λ same. absurd (omega arith)))

-- marked for one reason, and so for another that is the same
pub marks_as : (old new : List Bool) (more other : ℕ → Bool) → ((k : ℕ) → more k ≡ other k) → MarksMore old new more → MarksMore old new other
marks_as old new more other same m =
    record { count = m.count; marks = λ k lt. m.marks k lt ∙ ap (λ (b : Bool). get_or old k false || b) (same k) }

pub noted : (old new : List Bool) (from to : ℕ) → to ≤ from → MarksMore old new (λ k. to == k) → MarksMore old new (λ k. goes_back k from to)
noted old new from to le m =
    marks_as old new (λ k. to == k) (λ k. goes_back k from to)
    (λ k. sym (ap (λ (b : Bool). (to == k) && b) (le-leb to from le) ∙ and_true (to == k))) m

pub not_noted : (xs : List Bool) (from to : ℕ) → from < to → MarksMore xs xs (λ k. goes_back k from to)
not_noted xs from to lt =
    marks_same xs (λ k. goes_back k from to) (λ k _. ap (λ (b : Bool). (to == k) && b) (lt-leb to from lt) ∙ and_false (to == k))

-- marked for two reasons, one after the other
pub marks_both : (old mid new : List Bool) (first second : ℕ → Bool) → MarksMore old mid first → MarksMore mid new second
    → MarksMore old new (λ k. first k || second k)
marks_both old mid new first second m n =
    record {
      count = n.count ∙ m.count;
      marks = λ k lt.
          let lt' : k < length mid = omega (arith, m.count) in
          n.marks k lt' ∙ ap (λ (b : Bool). b || second k) (m.marks k lt) ∙ or_assoc (get_or old k false) (first k) (second k);
    }

-- what is left to be marked makes it whole
pub record Left (now : List Bool) (size : ℕ) (rest whole : ℕ → Bool) : Type 0 where
  pub count : length now ≡ size
  pub marks : (k : ℕ) → k < size → (get_or now k false || rest k) ≡ whole k

pub left_less : (old new : List Bool) (size : ℕ) (first rest left whole : ℕ → Bool) → ((k : ℕ) → left k ≡ (first k || rest k))
    → MarksMore old new first → Left old size left whole → Left new size rest whole
left_less old new size first rest left whole parts m l =
    record {
      count = m.count ∙ l.count;
      marks = λ k lt.
          let lt' : k < length old = omega (arith, l.count) in
          ap (λ (b : Bool). b || rest k) (m.marks k lt') ∙ or_assoc (get_or old k false) (first k) (rest k)
          ∙ ap (λ (b : Bool). get_or old k false || b) (sym (parts k)) ∙ l.marks k lt;
    }

pub left_none : (now : List Bool) (size : ℕ) (rest whole : ℕ → Bool) → ((k : ℕ) → rest k ≡ false) → Left now size rest whole
    → (k : ℕ) → k < size → get_or now k false ≡ whole k
left_none now size rest whole none l k lt =
    sym (or_false (get_or now k false)) ∙ ap (λ (b : Bool). get_or now k false || b) (sym (none k)) ∙ l.marks k lt

pub left_all : (now : List Bool) (rest : ℕ → Bool) → Left now (length now) rest (λ k. get_or now k false || rest k)
left_all now rest = record { count = refl; marks = λ k lt. refl }

-- none is marked of so many
all_false : (n k : ℕ) → get_or (replicate n false) k false ≡ false
all_false zero k = refl
all_false (suc n) zero = refl
all_false (suc n) (suc k) = all_false n k

pub left_begun : (n : ℕ) (whole : ℕ → Bool) → Left (replicate n false) n whole whole
left_begun n whole = record { count = length-replicate n false; marks = λ k lt. ap (λ (b : Bool). b || whole k) (all_false n k) }

pub ruleset marking = (marks_set, marks_beyond)

pub ruleset noting = (noted, not_noted)

pub ruleset ending = (marks_both, marks_same)

pub arms_first : (arms : List Arm) (i : ℕ) (d : Arm) (k : ℕ) → i < length arms
    → returns_to k (drop i arms) ≡ ((get_or arms i d).label == k || returns_to k (drop (i + 1) arms))
arms_first arms i d k lt = at_drop_more (returns_to k) arms i d lt
