-- A loop and a call are images, and no word of theirs breaks a rule: they are safe.
use Rattle.std.proofs.Common.{◌≡◌, ℕ, ◌^◌, ◌<◌, Bool, true, List, [], ◌∷◌, Ok, refl, arith}
use Rattle.std.specs.Prelude.{pos, negsuc, ◌&&◌, nat_lt}
use Rattle.std.specs.List.{AllByRecursion}
use Rattle.std.proofs.lemmas.Bool.Decides.{nat_tests}
use Rattle.sbx_image.specs.Rules.{block_keeps, cell_keeps, each, function_keeps, parts_keep, range_keeps, term_keeps}
use Rattle.sbx_image.specs.Spelling.{IsTyped, IsTypedBlock, IsTypedRange}
use Rattle.sbx_image.specs.Parts.{Parts}
use Rattle.sbx_range.proofs.Words.{both_true}
use Rattle.sbx_range.specs.Ranges.{range}
use Rattle.sbx_rules.specs.Examples.{adding, bare_block, cell, echo, sixteen_turns}
use Rattle.sbx_rules.proofs.Examples.{adding_is_checked, echo_is_checked}
use Rattle.sbx_sound.specs.Examples.{ExamplesAreSafe}
use Rattle.sbx_sound.specs.Law.{IsFormed}
use Rattle.sbx_sound.proofs.Whole.{checked_is_safe}

range_typed : (lo hi : ℕ) → lo < 2 ^ 31 → hi < 2 ^ 31 → IsTypedRange (range (pos lo) (pos hi) 0)
range_typed lo hi p q = record { lo = record { sfits = p }; hi = record { sfits = q } }

block_typed : (address fuel : ℕ) → address < 2 ^ 32 → fuel < 2 ^ 63 → IsTypedBlock (bare_block address (pos fuel))
block_typed address fuel p q = record { address = p; fuel = record { sfits = q }; cells = tt; terms = tt }

abbrev call : Parts
call = adding (pos 254) (pos 255) 39

echo_kept : parts_keep echo ≡ Ok tt
unfolding parts_keep each function_keeps block_keeps cell_keeps term_keeps range_keeps
echo_kept = refl

call_kept : parts_keep call ≡ Ok tt
unfolding parts_keep each function_keeps block_keeps cell_keeps term_keeps range_keeps
call_kept = refl

abbrev are_small : List ℕ → Bool
are_small [] = true
are_small (w ∷ ws) = nat_lt w (2 ^ 32) && are_small ws

words_typed : (ws : List ℕ) → are_small ws ≡ true → AllByRecursion (λ w. w < 2 ^ 32) ws
words_typed [] h = tt
words_typed (w ∷ ws) h = let both = both_true (nat_lt w (2 ^ 32)) (are_small ws) h in (small w both.0, words_typed ws both.1)
  where
    small : (n : ℕ) → nat_lt n (2 ^ 32) ≡ true → n < 2 ^ 32
    small n e = grind (arith, nat_tests)

loop_typed : IsTypedBlock (record { address = 0x40008; fuel = pos 4; cells = cell 16 (pos 1) (pos 1000) ∷ []; terms = sixteen_turns })
loop_typed = record { address = omega arith; fuel = record { sfits = omega arith }; cells = (range_typed 1 1000 (omega arith) (omega arith), tt); terms = (record { sfits = omega arith }, tt) }

body_typed : IsTypedBlock (record { address = 0x40018; fuel = negsuc 3; cells = cell 8 (pos 0) (pos 255) ∷ cell 16 (pos 1) (pos 1000) ∷ []; terms = sixteen_turns })
body_typed = record {
  address = omega arith;
  fuel = record { sfits = omega arith };
  cells =
      (range_typed 0 255 (omega arith) (omega arith), (range_typed 1 1000 (omega arith) (omega arith), tt));
  terms = (record { sfits = omega arith }, tt);
}

echo_typed : IsTyped echo
echo_typed = record {
  version = omega arith;
  services = omega arith;
  words = words_typed echo.words refl;
  regions = tt;
  functions = (
    record {
      entry = omega arith;
      params = tt;
      results = tt;
      depth = omega arith;
      blocks = (block_typed 0x40000 16030 (omega arith) (omega arith), (loop_typed, (body_typed, (block_typed 0x40028 4 (omega arith) (omega arith), tt))));
    },
    tt,
  );
}

call_typed : IsTyped call
call_typed = record {
  version = omega arith;
  services = omega arith;
  words = words_typed call.words refl;
  regions = tt;
  functions = (
    record { entry = omega arith; params = tt; results = tt; depth = omega arith; blocks = (block_typed 0x40000 39 (omega arith) (omega arith), tt) },
    (
      record {
        entry = omega arith;
        params = (range_typed 0 254 (omega arith) (omega arith), tt);
        results =
            (range_typed 1 255 (omega arith) (omega arith), tt);
        depth = omega arith;
        blocks = (block_typed 0x4001C 2 (omega arith) (omega arith), tt);
      },
      tt,
    ),
  );
}

pub echo_formed : IsFormed echo
echo_formed = record { kept = echo_kept; typed = echo_typed }

pub examples_are_safe : ExamplesAreSafe
examples_are_safe = record {
  a_loop = checked_is_safe echo echo_formed echo_is_checked;
  a_call = checked_is_safe call (record { kept = call_kept; typed = call_typed }) adding_is_checked;
}
