-- What is least is below all values, and values come as low: where something is least they reach it, else they pass every bound.
use Rattle.std.proofs.Common.{◌≡◌, ℕ, zero, suc, ◌+◌, List, [], ◌∷◌, Some, None, refl, ap, subst, ◌∙◌, inl, inr, arith}
use Rattle.std.proofs.Math.IntN.{*ℤ_comm}
use Rattle.std.specs.Prelude.{◌⊎◌, Option, ℤ, pos, negsuc, neg_ℤ, ◌+ℤ◌, ◌*ℤ◌, ◌≤ℤ◌, unsigned_abs}
use Rattle.std.specs.Int.{int_min}
use Rattle.std.proofs.lemmas.Int.{ints, clamps}
use Rattle.sbx_image.specs.Range.{Range}
use Rattle.sbx_form.specs.declared.terms.FormTerm.{FormTerm}
use Rattle.sbx_form.specs.Forms.{AscendFrom, Cells, Ends, Within, least_term, least_terms, terms_value}
use Rattle.sbx_form.proofs.Values.{least-reached}
use Rattle.sbx_range.proofs.Products.{between-first}
use Rattle.sbx_rules.specs.Known.{Known, range_at}
use Rattle.sbx_rules.specs.Fuel.{InCells}
use Rattle.sbx_fuel.specs.Margins.{AreSome}
use Rattle.sbx_fuel.proofs.Products.{times_neg}
use Rattle.sbx_fuel.specs.Least.{AreNonzero, both, least_in, least_over}

-- ---- below all values

pub below : (d : Known) (cells : Cells) (ts : List FormTerm) (m : ℤ) → InCells d cells → least_over (range_at d) ts ≡ Some m → m ≤ℤ terms_value cells ts
unfolding least_over
below d cells [] m a e = let z : pos 0 ≡ m = cc in omega (arith, ints)
below d cells (t ∷ ts) m a e = by_range (range_at d t.location) (least_over (range_at d) ts) (a t.location) (λ n. below d cells ts n a) e
  where
    by_range : (o : Option Range) (rest : Option ℤ) → ((r : Range) → o ≡ Some r → (r.lo ≤ℤ cells t.location) × (cells t.location ≤ℤ r.hi))
        → ((n : ℤ) → rest ≡ Some n → n ≤ℤ terms_value cells ts) → both (least_in o t.coefficient) rest ≡ Some m → m ≤ℤ terms_value cells (t ∷ ts)
    by_range None rest in_range after e = absurd cc
    by_range (Some r) None in_range after e = absurd cc
    by_range (Some r) (Some n) in_range after e =
        let is : int_min (r.lo *ℤ t.coefficient) (r.hi *ℤ t.coefficient) +ℤ n ≡ m = cc in
        let i = in_range r refl in
        let b = (between-first r.lo r.hi (cells t.location) t.coefficient i.0 i.1).0 in
        let c = after n refl in
        omega (arith, ints)

-- ---- numbers that come low: those without a range lie as far out as one likes

wide_lo : ℕ → Option Range → ℤ
wide_lo n None = neg_ℤ (pos n)
wide_lo n (Some r) = r.lo

wide_hi : ℕ → Option Range → ℤ
wide_hi n None = pos n
wide_hi n (Some r) = r.hi

wide : ℕ → Known → Ends
wide n d = record { lo = λ l. wide_lo n (range_at d l); hi = λ l. wide_hi n (range_at d l) }

wide_some : (n : ℕ) (o : Option Range) → ((r : Range) → o ≡ Some r → r.lo ≤ℤ r.hi) → wide_lo n o ≤ℤ wide_hi n o
unfolding wide_lo wide_hi
wide_some n None h = omega (arith, ints)
wide_some n (Some r) h = h r refl

in_cells : (n : ℕ) (d : Known) (cells : Cells) → Within (wide n d) cells → InCells d cells
unfolding wide wide_lo wide_hi
in_cells n d cells w l r e =
    (subst (λ o. wide_lo n o ≤ℤ cells l) e (w.low l), subst (λ o. cells l ≤ℤ wide_hi n o) e (w.high l))

-- a term over ends that may be far out
at_most : ℕ → Option Range → ℤ → ℤ
at_most n o c = int_min (wide_lo n o *ℤ c) (wide_hi n o *ℤ c)

term_is : (n : ℕ) (d : Known) (t : FormTerm) → least_term (wide n d) t ≡ at_most n (range_at d t.location) t.coefficient
unfolding wide at_most
term_is n d t = refl

terms_are : (n : ℕ) (d : Known) (t : FormTerm) (ts : List FormTerm) → least_terms (wide n d) (t ∷ ts) ≡ at_most n (range_at d t.location) t.coefficient +ℤ least_terms (wide n d) ts
unfolding least_terms
terms_are n d t ts = ap (λ z. z +ℤ least_terms (wide n d) ts) (term_is n d t)

neg_times : (a c : ℤ) → (neg_ℤ a *ℤ c) +ℤ (a *ℤ c) ≡ pos 0
neg_times a c =
    let p = *ℤ_comm (neg_ℤ a) c in
    let q = *ℤ_comm a c in
    let r = times_neg c a in
    omega (arith, ints)

-- the one of two opposite numbers that is below 0
least_of_opposite : (a b : ℤ) (n : ℕ) → a +ℤ b ≡ pos 0 → (pos n ≤ℤ a) ⊎ (pos n ≤ℤ b) → (int_min a b +ℤ pos n) ≤ℤ pos 0
least_of_opposite a b n e (inl h) = omega (arith, ints, clamps)
least_of_opposite a b n e (inr h) = omega (arith, ints, clamps)

none_of_opposite : (a b : ℤ) → a +ℤ b ≡ pos 0 → int_min a b ≤ℤ pos 0
none_of_opposite a b e = omega (arith, ints, clamps)

up_times : (n k : ℕ) → pos n ≤ℤ (pos n *ℤ pos (suc k))
up_times n k = omega (arith, ints)

down_times : (n k : ℕ) (a : ℤ) → a +ℤ (pos n *ℤ negsuc k) ≡ pos 0 → pos n ≤ℤ a
down_times n k a e = omega (arith, ints)

falls : (n : ℕ) (c : ℤ) → (c ≡ pos 0 → ⊥) → (int_min (neg_ℤ (pos n) *ℤ c) (pos n *ℤ c) +ℤ pos n) ≤ℤ pos 0
falls n (pos zero) h = absurd (h refl)
falls n (pos (suc k)) h = least_of_opposite (neg_ℤ (pos n) *ℤ pos (suc k)) (pos n *ℤ pos (suc k)) n (neg_times (pos n) (pos (suc k))) (inr (up_times n k))
falls n (negsuc k) h =
    let e = neg_times (pos n) (negsuc k) in
    least_of_opposite (neg_ℤ (pos n) *ℤ negsuc k) (pos n *ℤ negsuc k) n e (inl (down_times n k (neg_ℤ (pos n) *ℤ negsuc k) e))

no_more : (n : ℕ) (c : ℤ) → int_min (neg_ℤ (pos n) *ℤ c) (pos n *ℤ c) ≤ℤ pos 0
no_more n c = none_of_opposite (neg_ℤ (pos n) *ℤ c) (pos n *ℤ c) (neg_times (pos n) c)

at_range : (n : ℕ) (r : Range) (c : ℤ) → at_most n (Some r) c ≡ int_min (r.lo *ℤ c) (r.hi *ℤ c)
unfolding at_most wide_lo wide_hi
at_range n r c = refl

at_none : (n : ℕ) (c : ℤ) → at_most n None c ≡ int_min (neg_ℤ (pos n) *ℤ c) (pos n *ℤ c)
unfolding at_most wide_lo wide_hi
at_none n c = refl

abs_above : (z : ℤ) → z ≤ℤ pos (unsigned_abs z)
abs_above (pos n) = omega (arith, ints)
abs_above (negsuc n) = omega (arith, ints)

-- how high the least can be, whatever lies how far out
abbrev Caps : ℕ → Known → List FormTerm → Type 0
Caps k d ts = (n : ℕ) → least_terms (wide n d) ts ≤ℤ pos k

capped : (d : Known) (ts : List FormTerm) → (k : ℕ) × Caps k d ts
unfolding least_terms
capped d [] = (0, λ n. omega (arith, ints))
capped d (t ∷ ts) = let rest = capped d ts in by_range (range_at d t.location) refl rest.0 rest.1
  where
    by_range : (o : Option Range) → range_at d t.location ≡ o → (k : ℕ) → Caps k d ts → (j : ℕ) × Caps j d (t ∷ ts)
    by_range None e k cap = (
      k,
      λ n. (let i = terms_are n d t ts in let a = ap (λ o. at_most n o t.coefficient) e in let b = at_none n t.coefficient in let m = no_more n t.coefficient in let c = cap n in omega (arith, ints)),
    )
    by_range (Some r) e k cap = (
      unsigned_abs (int_min (r.lo *ℤ t.coefficient) (r.hi *ℤ t.coefficient)) + k,
      λ n. (let i = terms_are n d t ts in let a = ap (λ o. at_most n o t.coefficient) e in let b = at_range n r t.coefficient in let c = cap n in
          let s = abs_above (int_min (r.lo *ℤ t.coefficient) (r.hi *ℤ t.coefficient)) in omega (arith, ints)),
    )

-- the same less how far out they lie
abbrev Drops : ℕ → Known → List FormTerm → Type 0
Drops k d ts = (n : ℕ) → (least_terms (wide n d) ts +ℤ pos n) ≤ℤ pos k

both_none : (r : Range) (c : ℤ) (o : Option ℤ) → both (least_in (Some r) c) o ≡ None → o ≡ None
both_none r c None e = refl
both_none r c (Some m) e = absurd cc

drops : (d : Known) (ts : List FormTerm) → AreNonzero ts → least_over (range_at d) ts ≡ None → (k : ℕ) × Drops k d ts
unfolding least_over
drops d [] some e = absurd cc
drops d (t ∷ ts) some e = by_range (range_at d t.location) refl (drops d ts some.1) e
  where
    by_range : (o : Option Range) → range_at d t.location ≡ o → (least_over (range_at d) ts ≡ None → (j : ℕ) × Drops j d ts)
        → both (least_in o t.coefficient) (least_over (range_at d) ts) ≡ None → (j : ℕ) × Drops j d (t ∷ ts)
    by_range None s after none = let rest = capped d ts in (
      rest.0,
      λ n. (let i = terms_are n d t ts in let a = ap (λ o. at_most n o t.coefficient) s in let b = at_none n t.coefficient in
          let m = falls n t.coefficient some.0 in let c = rest.1 n in omega (arith, ints)),
    )
    by_range (Some r) s after none = let rest = after (both_none r t.coefficient (least_over (range_at d) ts) none) in (
      unsigned_abs (int_min (r.lo *ℤ t.coefficient) (r.hi *ℤ t.coefficient)) + rest.0,
      λ n. (let i = terms_are n d t ts in let a = ap (λ o. at_most n o t.coefficient) s in let b = at_range n r t.coefficient in let c = rest.1 n in
          let z = abs_above (int_min (r.lo *ℤ t.coefficient) (r.hi *ℤ t.coefficient)) in omega (arith, ints)),
    )

-- where each location has a range, nothing lies out
stays : (d : Known) (ts : List FormTerm) (m : ℤ) (n : ℕ) → least_over (range_at d) ts ≡ Some m → least_terms (wide n d) ts ≡ m
unfolding least_over least_terms
stays d [] m n e = cc
stays d (t ∷ ts) m n e = terms_are n d t ts ∙ by_range (range_at d t.location) (least_over (range_at d) ts) (λ k. stays d ts k n) e
  where
    by_range : (o : Option Range) (rest : Option ℤ) → ((k : ℤ) → rest ≡ Some k → least_terms (wide n d) ts ≡ k)
        → both (least_in o t.coefficient) rest ≡ Some m → at_most n o t.coefficient +ℤ least_terms (wide n d) ts ≡ m
    by_range None rest after so = absurd cc
    by_range (Some r) None after so = absurd cc
    by_range (Some r) (Some k) after so =
        let is : int_min (r.lo *ℤ t.coefficient) (r.hi *ℤ t.coefficient) +ℤ k ≡ m = cc in
        let a = after k refl in
        let b = at_range n r t.coefficient in
        omega (arith, ints)

-- ---- two kinds of numbers

-- whatever the numbers of the two are, this much is left
abbrev pub IsLeft : Known → Known → List FormTerm → List FormTerm → ℤ → Type 0
IsLeft d e ts us z = (start others : Cells) → InCells d start → InCells e others → pos 0 ≤ℤ (z +ℤ (terms_value start ts +ℤ terms_value others us))

-- both have a least, and it is left
pub record HasLeast (d e : Known) (ts us : List FormTerm) (z : ℤ) : Type 0 where
  pub one : ℤ
  pub other : ℤ
  pub one_is : least_over (range_at d) ts ≡ Some one
  pub other_is : least_over (range_at e) us ≡ Some other
  pub left : pos 0 ≤ℤ (z +ℤ (one +ℤ other))

pub is_left : (d e : Known) (ts us : List FormTerm) (z : ℤ) → HasLeast d e ts us z → IsLeft d e ts us z
is_left d e ts us z h start others a b =
    let p = below d start ts h.one a h.one_is in
    let q = below e others us h.other b h.other_is in
    let l = h.left in
    omega (arith, ints)

module _ (d e : Known) (ts us : List FormTerm) (z : ℤ) (some_d : AreSome d) (some_e : AreSome e) (ascend : AscendFrom 0 ts) (ascend_others : AscendFrom 0 us)
    (nonzero : AreNonzero ts) (nonzero_others : AreNonzero us) (left : IsLeft d e ts us z) where
  reached : (n : ℕ) → pos 0 ≤ℤ (z +ℤ (least_terms (wide n d) ts +ℤ least_terms (wide n e) us))
  unfolding wide wide_lo wide_hi
  reached n =
      let one = least-reached (wide n d) 0 ts (λ l. wide_some n (range_at d l) (some_d l)) ascend in
      let two = least-reached (wide n e) 0 us (λ l. wide_some n (range_at e l) (some_e l)) ascend_others in
      let h = left one.0 two.0 (in_cells n d one.0 one.1) (in_cells n e two.0 two.1) in
      let p = one.2 in
      let q = two.2 in
      omega (arith, ints)

  pub has_least : HasLeast d e ts us z
  has_least = by_least (least_over (range_at d) ts) (least_over (range_at e) us) refl refl
    where
      by_least : (o p : Option ℤ) → least_over (range_at d) ts ≡ o → least_over (range_at e) us ≡ p → HasLeast d e ts us z
      by_least None p a b =
          let k = drops d ts nonzero a in
          let j = capped e us in
          let n = suc (unsigned_abs z + (k.0 + j.0)) in
          let h = reached n in
          let x = k.1 n in
          let y = j.1 n in
          let s = abs_above z in
          absurd (omega (arith, ints))
      by_least (Some m) None a b =
          let k = capped d ts in
          let j = drops e us nonzero_others b in
          let n = suc (unsigned_abs z + (k.0 + j.0)) in
          let h = reached n in
          let x = k.1 n in
          let y = j.1 n in
          let s = abs_above z in
          absurd (omega (arith, ints))
      by_least (Some m) (Some k) a b =
          let h = reached 0 in
          let x = stays d ts m 0 a in
          let y = stays e us k 0 b in
          record { one = m; other = k; one_is = a; other_is = b; left = omega (arith, ints) }
