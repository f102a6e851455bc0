-- Fuel stays positive: wherever words lie in the intervals, whatever their alignment, some fuel is left.
use Rattle.sbx_sound.proofs.Entries.{result_at}
use Rattle.sbx_rules.specs.Entry.{Entry}
use Rattle.std.proofs.Common.{◌≡◌, ℕ, zero, suc, ◌+◌, ◌-◌, ◌^◌, ◌<◌, ◌≤◌, ℤ, Bool, true, false, List, Option, Some, None, refl, sym, ap, ◌∙◌, subst, inl, inr, ⊎_elim, arith}
use Rattle.std.specs.Prelude.{pos, negsuc, ◌+ℤ◌, ◌-ℤ◌, ◌≤ℤ◌, ◌<ℤ◌, ◌⊎◌, nat_le, if◌then◌else◌, slice_get}
use Rattle.std.proofs.lemmas.Int.{ints}
use Rattle.v8_word.specs.declared.Icc.{Icc}
use Rattle.sbx_image.specs.Parts.{Parts}
use Rattle.sbx_image.specs.Range.{Range}
use Rattle.sbx_flat.specs.Registers.{Words}
use Rattle.sbx_flat.proofs.Turns.{operation_weighs}
use Rattle.sbx_rules.specs.Fuel.{InCells, IsEnough, IsPaid}
use Rattle.sbx_rules.specs.Fits.{HasForm, HasInterval, Near}
use Rattle.sbx_rules.specs.Known.{Known, form_of_entry, plain_entry_of, range_of_entry}
use Rattle.sbx_rules.specs.Forms.{form_value}
use Rattle.sbx_rules.specs.Ways.{Visit, fuel_at, state_at, weight_to}
use Rattle.sbx_rules.specs.Places.{IsPlace, op_at}
use Rattle.sbx_sound.specs.Positive.{left_at}
use Rattle.sbx_sound.proofs.Running.{IsVisit}
use Rattle.sbx_form.specs.Forms.{Cells}
use Rattle.sbx_rules.specs.Transfer.{called, is_out}
use Rattle.sbx_sound.proofs.Ledger.{edge_pays, numbers}

-- ---- descent

-- a number that falls at each step, and is bounded below, was positive
module _ (X : Type 0) (fuel : X → ℤ) (low : ℕ) (bounded : (x : X) → pos 0 ≤ℤ (fuel x +ℤ pos low)) (on : (x : X) → (pos 1 ≤ℤ fuel x) ⊎ ((y : X) × ((fuel y +ℤ pos 1) ≤ℤ fuel x))) where
  below : (n : ℕ) (x : X) → (fuel x +ℤ pos low) <ℤ pos n → pos 1 ≤ℤ fuel x
  below zero x h = absurd (let b = bounded x in omega (arith, ints))
  below (suc n) x h = ⊎_elim (λ p. p) (λ q. let r = below n q.0 (less q.0 x q.1 h) in let s = q.1 in more (fuel q.0) (fuel x) s r) (on x)
    where
      less : (y x : X) → (fuel y +ℤ pos 1) ≤ℤ fuel x → (fuel x +ℤ pos low) <ℤ pos (suc n) → (fuel y +ℤ pos low) <ℤ pos n
      less y x a b = omega (arith, ints)

      more : (a b : ℤ) → (a +ℤ pos 1) ≤ℤ b → pos 1 ≤ℤ a → pos 1 ≤ℤ b
      more a b p q = omega (arith, ints)

  pub always : (n : ℕ) → (x : X) → (fuel x +ℤ pos low) <ℤ pos n → pos 1 ≤ℤ fuel x
  always = below

module _ (parts : Parts) where
  -- Words in the intervals at a place, with the numbers that the block began with.
  pub record Point : Type 0 where
    pub f : ℕ
    pub b : ℕ
    pub i : ℕ
    pub v : Visit
    pub start : Cells
    pub words : Words
    pub icc : Icc
    pub y : ℕ
    pub there : IsPlace parts f b i
    pub is_visit : IsVisit parts f b i v
    pub begun : InCells (state_at parts f b 0) start
    pub near : Near start v.known words icc y

  abbrev pub left_of : Point → ℤ
  left_of p = left_at parts p.f p.b p.i p.start

  -- From a point the run ends there, within the fuel, or goes on to the next word, or along an edge that is paid.
  pub record EndsHere (p : Point) : Type 0 where
    pub enough : IsEnough (state_at parts p.f p.b 0) (fuel_at parts p.f p.b) (weight_to parts p.f p.b (suc p.i))

  pub record NextWord (p : Point) : Type 0 where
    pub next : Point
    pub function : next.f ≡ p.f
    pub block : next.b ≡ p.b
    pub place : next.i ≡ suc p.i
    pub start_is : next.start ≡ p.start

  pub record NextBlock (p : Point) : Type 0 where
    pub next : Point
    pub now : Known
    pub words : Words
    pub icc : Icc
    pub y : ℕ
    pub near : Near p.start now words icc y
    pub function : next.f ≡ p.f
    pub place : next.i ≡ 0
    pub start_is : next.start ≡ numbers words
    pub paid : IsPaid (state_at parts p.f p.b 0) (fuel_at parts p.f p.b) (weight_to parts p.f p.b (suc p.i)) now (fuel_at parts p.f next.b)

  weighs_more : (f b i : ℕ) → weight_to parts f b i + 1 ≤ weight_to parts f b (suc i)
  unfolding weight_to
  weighs_more f b i = let h = operation_weighs (op_at parts f b i) in omega (arith, h)

  enough_left : (fuel : ℤ) (t u : ℕ) → t + 1 ≤ u → pos u ≤ℤ fuel → pos 1 ≤ℤ (fuel -ℤ pos t)
  enough_left fuel t u h e = omega (arith, ints)

  falls_by_word : (fuel : ℤ) (t u : ℕ) → t + 1 ≤ u → ((fuel -ℤ pos u) +ℤ pos 1) ≤ℤ (fuel -ℤ pos t)
  falls_by_word fuel t u h = omega (arith, ints)

  falls_by_edge : (fuel next : ℤ) (t u : ℕ) → t + 1 ≤ u → (pos u +ℤ next) ≤ℤ fuel → ((next -ℤ pos 0) +ℤ pos 1) ≤ℤ (fuel -ℤ pos t)
  falls_by_edge fuel next t u h paid = omega (arith, ints)

  same_left : (f g b c i j : ℕ) (s t : Cells) → f ≡ g → b ≡ c → i ≡ j → s ≡ t → left_at parts f b i s ≡ left_at parts g c j t
  same_left f g b c i j s t p q r e = ap (λ x. left_at parts x b i s) p ∙ ap (λ x. left_at parts g x i s) q ∙ ap (λ x. left_at parts g c x s) r ∙ ap (left_at parts g c j) e

  at_start : (f b : ℕ) (start : Cells) → left_at parts f b 0 start ≡ form_value start (fuel_at parts f b) -ℤ pos 0
  unfolding weight_to
  at_start f b start = refl

  goes_down : (p : Point) → EndsHere p ⊎ (NextWord p ⊎ NextBlock p) → (pos 1 ≤ℤ left_of p) ⊎ ((q : Point) × ((left_of q +ℤ pos 1) ≤ℤ left_of p))
  goes_down p (inl e) =
      inl (enough_left (form_value p.start (fuel_at parts p.f p.b)) (weight_to parts p.f p.b p.i) (weight_to parts p.f p.b (suc p.i)) (weighs_more p.f p.b p.i)
      (e.enough p.start p.begun))
  goes_down p (inr (inl n)) = inr (
    n.next,
    (let same = same_left n.next.f p.f n.next.b p.b n.next.i (suc p.i) n.next.start p.start n.function n.block n.place n.start_is in
        subst (λ x. (x +ℤ pos 1) ≤ℤ left_of p) (sym same)
        (falls_by_word (form_value p.start (fuel_at parts p.f p.b)) (weight_to parts p.f p.b p.i) (weight_to parts p.f p.b (suc p.i))
        (weighs_more p.f p.b p.i))),
  )
  goes_down p (inr (inr n)) = inr (
    n.next,
    (let same = same_left n.next.f p.f n.next.b n.next.b n.next.i 0 n.next.start (numbers n.words) n.function refl n.place n.start_is ∙ at_start p.f n.next.b (numbers n.words) in
        let pays = edge_pays (state_at parts p.f p.b 0) n.now (fuel_at parts p.f p.b) (fuel_at parts p.f n.next.b)
        (weight_to parts p.f p.b (suc p.i)) p.start n.words n.icc n.y n.paid p.begun n.near in
        subst (λ x. (x +ℤ pos 1) ≤ℤ left_of p) (sym same)
        (falls_by_edge (form_value p.start (fuel_at parts p.f p.b)) (form_value (numbers n.words) (fuel_at parts p.f n.next.b))
        (weight_to parts p.f p.b p.i) (weight_to parts p.f p.b (suc p.i)) (weighs_more p.f p.b p.i) pays)),
  )

  some_bound : (z : ℤ) → (n : ℕ) × (z <ℤ pos n)
  some_bound (pos k) = (suc k, omega (arith, ints))
  some_bound (negsuc k) = (0, omega (arith, ints))

  pub positive : (low : ℕ) → ((p : Point) → pos 0 ≤ℤ (left_of p +ℤ pos low)) → ((p : Point) → EndsHere p ⊎ (NextWord p ⊎ NextBlock p)) → (p : Point) → pos 1 ≤ℤ left_of p
  positive low bounded on p =
      let n = some_bound (left_of p +ℤ pos low) in
      always Point left_of low bounded (λ q. goes_down q (on q)) n.0 p n.1

  -- ---- what a caller is left with, although the callee may never return

  -- words for the results
  pub record HasWord (r : Range) : Type 0 where
    pub word : ℕ
    pub small : word < 2 ^ 32
    pub within : HasInterval (Some r) word

  pub any_word : (results : List Range) → ((n : ℕ) (r : Range) → slice_get results n ≡ Some r → HasWord r) → (l : ℕ) → (w : ℕ) × (w < 2 ^ 32) × HasInterval (result_at results l) w
  any_word results has l = by_test (is_out l) (slice_get results (l - 8)) (λ r e. has (l - 8) r e)
    where
      by_test : (t : Bool) (o : Option Range) → ((r : Range) → o ≡ Some r → HasWord r) → (w : ℕ) × (w < 2 ^ 32) × HasInterval (if t then o else None) w
      by_test false o h = (0, omega arith, tt)
      by_test true None h = (0, omega arith, tt)
      by_test true (Some r) h = (let x = h r refl in (x.word, x.small, x.within))

  -- after a call with any results some words lie in the intervals
  pub near_after_call : (start : Cells) (d : Known) (words : Words) (icc : Icc) (y : ℕ) (results : List Range) →
      ((n : ℕ) (r : Range) → slice_get results n ≡ Some r → HasWord r) → Near start d words icc y
      → (now : Words) × Near start (called results d) now icc y
  unfolding any_word called
  near_after_call start d words icc y results has near =
      let word = any_word results has in (
        λ l. if nat_le 16 l then words l else (word l).0,
        record {
          are_words = λ l. small (nat_le 16 l) (words l) (word l).0 (near.are_words l) (word l).1;
          zero = refl;
          intervals = λ l. range (nat_le 16 l) (d.entry l) (slice_get results (l - 8)) (is_out l) (words l) (word l).0 (near.intervals l) (word l).2;
          forms = λ l. form (nat_le 16 l) (d.entry l) (slice_get results (l - 8)) (is_out l) (words l) (word l).0 (near.forms l);
          y_word = near.y_word;
          y_interval = tt;
          relates = tt;
        },
      )
    where
      small : (t : Bool) (a b : ℕ) → a < 2 ^ 32 → b < 2 ^ 32 → (if t then a else b) < 2 ^ 32
      small true a b p q = p
      small false a b p q = q

      plain : (o : Option Range) (u : Bool) (b : ℕ) → HasInterval (if u then o else None) b → HasInterval (range_of_entry (if u then plain_entry_of o else None)) b
      plain None true b h = tt
      plain (Some r) true b h = h
      plain o false b h = tt

      formless : (o : Option Range) (u : Bool) (b : ℕ) → HasForm start (form_of_entry (if u then plain_entry_of o else None)) b
      formless None true b = tt
      formless (Some r) true b = tt
      formless o false b = tt

      range : (t : Bool) (o : Option Entry) (p : Option Range) (u : Bool) (a b : ℕ) → HasInterval (range_of_entry o) a → HasInterval (if u then p else None) b →
          HasInterval (range_of_entry (if t then o else (if u then plain_entry_of p else None))) (if t then a else b)
      range true o p u a b x y = x
      range false o p u a b x y = plain p u b y

      form : (t : Bool) (o : Option Entry) (p : Option Range) (u : Bool) (a b : ℕ) → HasForm start (form_of_entry o) a →
          HasForm start (form_of_entry (if t then o else (if u then plain_entry_of p else None))) (if t then a else b)
      form true o p u a b x = x
      form false o p u a b x = formless p u b
