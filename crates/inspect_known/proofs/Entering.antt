-- From word to word of a block up to one, or to the branch in whose slot it stands.
use Rattle.std.proofs.Common.{◌≡◌, ℕ, zero, suc, ◌+◌, ◌-◌, ◌<◌, Bool, true, false, ◌++◌, refl, sym, ap, ◌∙◌, arith}
use Rattle.std.specs.Prelude.{◌&&◌, ◌==◌, if◌then◌else◌}
use Rattle.std.proofs.lemmas.Bool.Decides.{nat_tests}
use Rattle.v8_meaning.specs.declared.operation.Operation.{Operation}
use Rattle.v8_meaning.specs.declared.operation.Operation.TheVariants.{BranchOnCondition, JumpAndLink}
use Rattle.sbx_image.specs.Parts.{Parts}
use Rattle.sbx_domain.specs.Known.{Known}
use Rattle.sbx_rules.specs.Places.{op_at, op_before}
use Rattle.sbx_rules.specs.Ways.{after_word, branch_way, falls, state_at, taken_visit, untaken_visit, visits_after, visits_at}
use Rattle.sbx_known.specs.Courses.{is_branch}
use Rattle.sbx_known.specs.Spots.{visits_from}
use Rattle.sbx_known.proofs.Stepping.{next_known}
use Rattle.inspect_known.specs.Sights.{entered}

-- ---- the ways of a word

same_ways : (parts : Parts) (f b i : ℕ) (op : Operation) (here there : Known) → visits_after parts f b i op here there ≡ visits_from parts f b (suc i) op (if is_branch op then here else there)
same_ways parts f b i (BranchOnCondition c) here there =
    ap (λ n. taken_visit c (branch_way parts f b n c.displacement) here ++ untaken_visit c (falls parts f b (suc i)) here) (let e : i ≡ suc i - 1 = omega arith in e)
same_ways parts f b i (JumpAndLink j) here there = refl
same_ways parts f b i _ here there = refl

pub ways_are : (parts : Parts) (f b i : ℕ) → visits_at parts f b i ≡ visits_from parts f b i (op_before parts f b i) (entered parts f b i)
unfolding visits_at
ways_are parts f b zero = refl
ways_are parts f b (suc i) = same_ways parts f b i (op_at parts f b i) (state_at parts f b i) (state_at parts f b (suc i))

-- ---- on to it

module _ (parts : Parts) (f b i : ℕ) where
  -- what a pass that is to end at word `end` knows before a word
  pub record Knows (end : ℕ) (d : Known) : Type 0 where
    pub before : i < end → d ≡ state_at parts f b i
    pub last : i ≡ end → d ≡ entered parts f b i

pub starts : (parts : Parts) (f b end : ℕ) (d : Known) → d ≡ state_at parts f b 0 → Knows parts f b 0 end d
starts parts f b end d is = record { before = λ _. is; last = λ _. is }

module _ (parts : Parts) (f b i end : ℕ) (less : i < end) (d x : Known) (is : d ≡ state_at parts f b i) where
  went : (t : Bool) → ((i + 1) == end) ≡ t → x ≡ (if t && is_branch (op_at parts f b i) then d else after_word parts f b i d) → Knows parts f b (suc i) end x
  went false e moved = record {
    before = λ _. next_known parts f b i x (moved ∙ ap (after_word parts f b i) is);
    last = λ same. absurd (grind (arith, nat_tests, e, same));
  }
  went true e moved = record { before = λ more. absurd (grind (arith, nat_tests, e, more)); last = λ same. at_last (is_branch (op_at parts f b i)) refl moved }
    where
      at_last : (t : Bool) → is_branch (op_at parts f b i) ≡ t → x ≡ (if t then d else after_word parts f b i d) → x ≡ entered parts f b (suc i)
      at_last true h m = m ∙ is ∙ ap (λ (s : Bool). if s then state_at parts f b i else state_at parts f b (suc i)) (sym h)
      at_last false h m = next_known parts f b i x (m ∙ ap (after_word parts f b i) is) ∙ ap (λ (s : Bool). if s then state_at parts f b i else state_at parts f b (suc i)) (sym h)

  pub goes_on : x ≡ (if ((i + 1) == end) && is_branch (op_at parts f b i) then d else after_word parts f b i d) → Knows parts f b (suc i) end x
  goes_on moved = went ((i + 1) == end) refl moved
