-- The examples, computed: the calls of an image by a test of each of its words.
use Rattle.std.proofs.Common.{◌≡◌, ℕ, zero, suc, ◌+◌, ◌<◌, ◌-◌, ◌≤◌, Bool, true, false, length, Some, refl, ap, ◌∙◌, inl, inr, arith}
use Rattle.std.specs.Prelude.{pos, ◌⊎◌, ◌&&◌, not}
use Rattle.v8_formats.specs.Table.{meaning}
use Rattle.v8_meaning.specs.Operations.{operation_of}
use Rattle.sbx_image.specs.Order.{address_of, function_at, words_in}
use Rattle.sbx_image.specs.Parts.{Parts}
use Rattle.sbx_flat.specs.Traffic.{after_place, traffic}
use Rattle.sbx_flat.specs.Turns.{word_at}
use Rattle.sbx_range.proofs.Words.{both_true}
use Rattle.sbx_rules.specs.Examples.{adding, echo}
use Rattle.sbx_rules.specs.Places.{IsPlace, callee_at, word_of_place}
use Rattle.sbx_rules.proofs.Examples.{echo_is_checked}
use Rattle.sbx_sound.proofs.Examples.{echo_formed}
use Rattle.sbx_depth.specs.Law.{Deep}
use Rattle.sbx_depth.specs.Examples.{DepthsAreThese, chain, chain_path, one_each, one_less_each, short_of_one}
use Rattle.sbx_depth.proofs.Asked.{asked_everywhere, lacks_depth}
use Rattle.sbx_depth.proofs.Quiet.{depth_bounds_traffic}

-- ---- tests

abbrev all_below : ℕ → (ℕ → Bool) → Bool
all_below zero test = true
all_below (suc n) test = test n && all_below n test

or_last : (n i : ℕ) → i < suc n → (i ≡ n) ⊎ (i < n)
or_last n i less = grind arith

each_below : (n : ℕ) (test : ℕ → Bool) → all_below n test ≡ true → (i : ℕ) → i < n → test i ≡ true
each_below zero test h i less = absurd (omega arith)
each_below (suc n) test h i less = by_order (or_last n i less) (λ lower. each_below n test (both_true (test n) (all_below n test) h).1 i lower)
  where
    by_order : (i ≡ n) ⊎ (i < n) → (i < n → test i ≡ true) → test i ≡ true
    by_order (inl same) before = ap test same ∙ (both_true (test n) (all_below n test) h).0
    by_order (inr lower) before = before lower

-- no word of the image lacks depth
abbrev none_lacks : Parts → (ℕ → ℕ) → Bool
none_lacks parts depth = all_below (length parts.functions) (λ f. all_below (length (function_at parts f).blocks) (λ b. all_below (words_in parts f b) (λ i. not (lacks_depth parts depth f b i))))

deep : (parts : Parts) (depth : ℕ → ℕ) → none_lacks parts depth ≡ true → Deep parts depth
deep parts depth h = asked_everywhere parts depth (λ f b i place.
    not_so (lacks_depth parts depth f b i)
    (each_below (words_in parts f b) (λ k. not (lacks_depth parts depth f b k))
    (each_below (length (function_at parts f).blocks) (λ c. all_below (words_in parts f c) (λ k. not (lacks_depth parts depth f c k)))
    (each_below (length parts.functions) (λ g. all_below (length (function_at parts g).blocks) (λ c. all_below (words_in parts g c) (λ k. not (lacks_depth parts depth g c k)))) h f place.function)
    b place.block) i place.word))
  where
    not_so : (x : Bool) → not x ≡ true → x ≡ false
    not_so false e = refl
    not_so true e = absurd (cc)

-- ---- depths that hold

loop_holds : none_lacks echo one_each ≡ true
unfolding meaning operation_of address_of words_in callee_at word_of_place
loop_holds = refl

leaf_holds : none_lacks (adding (pos 254) (pos 255) 39) (λ f. 1 - f) ≡ true
unfolding meaning operation_of address_of words_in callee_at word_of_place
leaf_holds = refl

chain_holds : none_lacks chain one_less_each ≡ true
unfolding meaning operation_of address_of words_in callee_at word_of_place
chain_holds = refl

-- ---- depths that don't

leaf_callee : callee_at (adding (pos 254) (pos 255) 39) 0 0 2 ≡ Some 1
unfolding meaning operation_of address_of words_in callee_at word_of_place
leaf_callee = refl

leaf_place : IsPlace (adding (pos 254) (pos 255) 39) 0 0 2
unfolding words_in address_of
leaf_place = record { function = omega arith; block = omega arith; word = omega arith }

chain_callee : callee_at chain 0 0 1 ≡ Some 1
unfolding meaning operation_of address_of words_in callee_at word_of_place
chain_callee = refl

chain_place : IsPlace chain 0 0 1
unfolding words_in address_of
chain_place = record { function = omega arith; block = omega arith; word = omega arith }

leaf_counts : Deep (adding (pos 254) (pos 255) 39) one_each → ⊥
leaf_counts d = absurd (let h : 1 + 1 ≤ 1 = d.calls 0 0 2 1 leaf_place leaf_callee in omega (arith, h))

chain_is_deeper : Deep chain short_of_one → ⊥
chain_is_deeper d = absurd (let h : 39 + 1 ≤ 39 = d.calls 0 0 1 1 chain_place chain_callee in omega (arith, h))

-- ---- what the chain costs

on_4 : traffic chain 4 chain_path ≡ record { windows = 1; overflows = 38; underflows = 37; turns = 2006 }
unfolding after_place word_at meaning operation_of
on_4 = refl

on_32 : traffic chain 32 chain_path ≡ record { windows = 1; overflows = 10; underflows = 9; turns = 662 }
unfolding after_place word_at meaning operation_of
on_32 = refl

on_41 : traffic chain 41 chain_path ≡ record { windows = 1; overflows = 1; underflows = 0; turns = 230 }
unfolding after_place word_at meaning operation_of
on_41 = refl

on_42 : traffic chain 42 chain_path ≡ record { windows = 2; overflows = 0; underflows = 0; turns = 206 }
unfolding after_place word_at meaning operation_of
on_42 = refl

pub depths_are_these : DepthsAreThese
depths_are_these = record {
  a_loop = deep echo one_each loop_holds;
  a_loop_is_quiet = depth_bounds_traffic echo one_each echo_formed echo_is_checked (deep echo one_each loop_holds) 4 (omega arith);
  a_leaf = deep (adding (pos 254) (pos 255) 39) (λ f. 1 - f) leaf_holds;
  a_leaf_counts = leaf_counts;
  a_chain = deep chain one_less_each chain_holds;
  a_chain_is_deeper = chain_is_deeper;
  on_4 = on_4;
  on_32 = on_32;
  on_41 = on_41;
  on_42 = on_42;
}
