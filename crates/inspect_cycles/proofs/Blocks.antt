-- The walk over a block: what the piece took so far, and that none that has ended is dearer than the dearest.
use Rattle.std.proofs.Common.{◌≡◌, ℕ, suc, ◌+◌, ◌*◌, ◌<◌, ◌≤◌, Bool, true, false, refl, sym, ap, ◌∙◌, subst, inl, inr, arith}
use Rattle.std.specs.Prelude.{◌⊎◌, if◌then◌else◌, nat_lt}
use Rattle.std.proofs.lemmas.Bool.Decides.{nat_tests}
use Rattle.std.proofs.Math.Nat.{le_of_mul-le-mul_right, mul-le-mul_right}
use Rattle.v8_meaning.specs.declared.operation.Operation.{Operation}
use Rattle.sbx_image.specs.Parts.{Parts}
use Rattle.sbx_image.specs.Order.{words_in}
use Rattle.sbx_flat.specs.Runs.{weight_of}
use Rattle.sbx_rules.specs.Places.{op_at, op_before}
use Rattle.inspect_cycles.specs.Cycles.{cycles_of}
use Rattle.inspect_cycles.specs.Pieces.{Ends, EndsAt, EndsWithin, IsWithin, kept_on, least, longer, no_words, piece_before, turns_off}
use Rattle.inspect_cycles.specs.declared.pieces.Piece.{Piece}
use Rattle.inspect_cycles.specs.declared.table.CycleTable.{CycleTable}

-- ---- ratios

-- what is within a ratio is within a greater one
pub within_more : (next most piece : Piece) → 1 ≤ most.turns → IsWithin next most → IsWithin most piece → IsWithin next piece
within_more next most piece some more within =
    let p = mul-le-mul_right next.turns within in
    let q = mul-le-mul_right piece.turns more in
    let all : (piece.cycles * next.turns) * most.turns ≤ (next.cycles * piece.turns) * most.turns = omega (arith, p, q) in
    le_of_mul-le-mul_right all some

pub keeps : (t : CycleTable) (parts : Parts) (most next : Piece) (f b i : ℕ) → 1 ≤ most.turns → IsWithin next most → EndsWithin t parts most f b i → EndsWithin t parts next f b i
keeps t parts most next f b i some more ends ended at = within_more next most ended some more (ends ended at)

-- of two pieces one is taken: what is known of both is known of it
pub one_of : (P : Piece → Type 0) (one other next : Piece) → (next ≡ one) ⊎ (next ≡ other) → (one ≡ least) ⊎ P one → (other ≡ least) ⊎ P other → (next ≡ least) ⊎ P next
one_of P one other next (inl e) p q = subst (λ x. (x ≡ least) ⊎ P x) (sym e) p
one_of P one other next (inr e) p q = subst (λ x. (x ≡ least) ⊎ P x) (sym e) q

pub weaker : (P Q : Piece → Type 0) (piece : Piece) → (P piece → Q piece) → (piece ≡ least) ⊎ P piece → (piece ≡ least) ⊎ Q piece
weaker P Q piece h (inl e) = inl e
weaker P Q piece h (inr p) = inr (h p)

pub some_of_least : (piece : Piece) → piece ≡ least → 1 ≤ piece.turns
some_of_least piece e = let turns = ap (λ (p : Piece). p.turns) e in omega (arith, turns)

-- the last one, and those before it
pub or_last : (P : ℕ → Type 0) (n i : ℕ) → i < n + 1 → P n → (i < n → P i) → P i
or_last P n i less last before = by_test (nat_lt i n) refl
  where
    by_test : (x : Bool) → nat_lt i n ≡ x → P i
    by_test true e = before (grind (arith, nat_tests))
    by_test false e = let same : n ≡ i = grind (arith, nat_tests) in subst P same last

-- ---- a word

-- What is known of a piece and of the word behind it.
pub record IsBefore (t : CycleTable) (parts : Parts) (piece : Piece) (before op : Operation) (count f b i : ℕ) : Type 0 where
  pub piece_is : piece ≡ piece_before t parts f b i
  pub before_is : before ≡ op_before parts f b i
  pub op_is : op ≡ op_at parts f b i
  pub count_is : count ≡ words_in parts f b

module _ (t : CycleTable) (parts : Parts) (piece : Piece) (before op : Operation) (count f b i : ℕ) (is : IsBefore t parts piece before op count f b i) where
  -- what ends with it is what ends there
  pub same_ends : (ended : Piece) → Ends t piece before op i count ended ≡ EndsAt t parts f b i ended
  same_ends ended =
      ap (λ x. Ends t x before op i count ended) is.piece_is
      ∙ ap (λ x. Ends t (piece_before t parts f b i) x op i count ended) is.before_is
      ∙ ap (λ x. Ends t (piece_before t parts f b i) (op_before parts f b i) x i count ended) is.op_is
      ∙ ap (λ x. Ends t (piece_before t parts f b i) (op_before parts f b i) (op_at parts f b i) i x ended) is.count_is

  pub ends_at : (ended : Piece) → Ends t piece before op i count ended → EndsAt t parts f b i ended
  ends_at ended h = subst (λ (A : Type 0). A) (same_ends ended) h

  pub at_ends : (ended : Piece) → EndsAt t parts f b i ended → Ends t piece before op i count ended
  at_ends ended h = subst (λ (A : Type 0). A) (sym (same_ends ended)) h

  -- what the piece has behind it
  pub piece_on : (next : Piece) → next ≡ kept_on (turns_off before op) (longer piece (cycles_of t op) (weight_of op)) → next ≡ piece_before t parts f b (suc i)
  unfolding piece_before
  piece_on next e =
      e ∙ ap (λ x. kept_on (turns_off x op) (longer piece (cycles_of t op) (weight_of op))) is.before_is
      ∙ ap (λ x. kept_on (turns_off (op_before parts f b i) x) (longer piece (cycles_of t x) (weight_of x))) is.op_is
      ∙ ap (λ x. kept_on (turns_off (op_before parts f b i) (op_at parts f b i)) (longer x (cycles_of t (op_at parts f b i)) (weight_of (op_at parts f b i)))) is.piece_is

pub nothing_before : (t : CycleTable) (parts : Parts) (f b : ℕ) → no_words ≡ piece_before t parts f b 0
unfolding piece_before
nothing_before t parts f b = refl

-- ---- the pieces that end with a word

-- what is chosen by a test
chosen : (x : Bool) (piece ended : Piece) → ended ≡ (if x then piece else least) → (ended ≡ least) ⊎ ((x ≡ true) × (ended ≡ piece))
chosen true piece ended e = inr (refl, e)
chosen false piece ended e = inl e

pub chosen_some : (x : Bool) (piece ended : Piece) → 1 ≤ piece.turns → ended ≡ (if x then piece else least) → 1 ≤ ended.turns
chosen_some true piece ended some e = let turns = ap (λ (p : Piece). p.turns) e in omega (arith, turns, some)
chosen_some false piece ended some e = some_of_least ended e

pub one_chosen : (x y : Bool) (whole slot one other next : Piece) → one ≡ (if x then whole else least) → other ≡ (if y then slot else least) →
    (next ≡ one) ⊎ (next ≡ other)
    → (next ≡ least) ⊎ (((x ≡ true) × (next ≡ whole)) ⊎ ((y ≡ true) × (next ≡ slot)))
one_chosen x y whole slot one other next e f is =
    let P : Piece → Type 0 = λ p. ((x ≡ true) × (p ≡ whole)) ⊎ ((y ≡ true) × (p ≡ slot)) in
    one_of P one other next is
    (weaker (λ p. (x ≡ true) × (p ≡ whole)) P one (λ h. inl h) (chosen x whole one e))
    (weaker (λ p. (y ≡ true) × (p ≡ slot)) P other (λ h. inr h) (chosen y slot other f))
