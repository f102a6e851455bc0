-- Where a program's run starts, its world shows a start of the flat machine.
use Rattle.std.proofs.Common.{◌≡◌, ℕ, zero, suc, ◌-◌, ◌<◌, ◌^◌, Bool, true, false, List, [], ◌∷◌, ◌++◌, length, replicate, Some, refl, sym, ap, ◌∙◌, subst, slice_index, arith}
use Rattle.std.specs.Prelude.{◌==◌, nat_lt, if◌then◌else◌}
use Rattle.std.proofs.lemmas.Bool.Decides.{nat_tests}
use Rattle.std.proofs.lemmas.Grind.{get_or-set_at}
use Rattle.std.proofs.lemmas.List.{get_or-set_other, length-append, length-set}
use Rattle.sbx_image.specs.Parts.{Parts}
use Rattle.sbx_image.specs.Regions.{data_at}
use Rattle.sbx_image.proofs.Fields.{is_between}
use Rattle.sbx_image.proofs.Limits.{data_within, parts_kept}
use Rattle.sbx_image.proofs.Within.{data_lies_at}
use Rattle.sbx_flat.specs.Calls.{slot}
use Rattle.sbx_flat.specs.Registers.{word_in}
use Rattle.sbx_flat.specs.Runs.{IsStart}
use Rattle.sbx_flat.specs.States.{State}
use Rattle.sbx_sound.specs.Law.{IsFormed}
use Rattle.sbx_sound.proofs.Shared.{stack_start}
use Rattle.sbx_sound.proofs.Start.{calm_start}
use Rattle.native_lang.specs.Runs.{start}
use Rattle.native_lang.specs.World.{World, sets}
use Rattle.native_lang.specs.declared.program.NativeProgram.{NativeProgram}
use Rattle.native_results.specs.ShowsState.{IsBlockByte, ShowsState}
use Rattle.native_ends.specs.Translations.{IsTranslation}

-- ---- zeros

all_zero : (m k : ℕ) → slice_index (replicate m 0) k ≡ 0
all_zero zero k = refl
all_zero (suc m) zero = refl
all_zero (suc m) (suc k) = all_zero m k

padded : (xs : List ℕ) (m k : ℕ) → slice_index (xs ++ replicate m 0) k ≡ slice_index xs k
padded [] m k = all_zero m k
padded (x ∷ xs) m zero = refl
padded (x ∷ xs) m (suc k) = padded xs m k

abbrev zeros_of : ℕ → List ℕ
zeros_of m = replicate m 0

so_many : (m : ℕ) → length (zeros_of m) ≡ m
so_many zero = refl
so_many (suc m) = let e = so_many m in omega (arith, e)

-- ---- a start

out_word : (n : ℕ) → (if n == 14 then stack_start else 0) < 2 ^ 32
out_word n = grind (arith, nat_tests)

pub calm_starts : (parts : Parts) (input : List ℕ) → IsStart parts input (calm_start parts input)
calm_starts parts input =
    record {
      pc = refl;
      npc = refl;
      annulled = refl;
      icc = refl;
      y = omega arith;
      one_frame = refl;
      base = refl;
      slots = λ a. refl;
      globals =
          λ n. omega arith;
      locals = λ n. omega arith;
      outs = out_word;
      ins = λ n. omega arith;
      memory = λ a. refl;
      input = refl;
      output = refl;
      exit = refl;
    }

module _ (parts : Parts) (formed : IsFormed parts) (program : NativeProgram) (made_of : IsTranslation parts program) (input : List ℕ) where
  abbrev pub first_world : World
  first_world = sets 14 0xFFFC0 (start program input)

  abbrev first_state : State
  first_state = calm_start parts input

  abbrev none_of : (a b c d : Bool) → ℕ
  none_of a b c d = if a then 0 else (if b then 0 else (if c then 0 else (if d then 0 else 0)))

  by_tests : (a b c d : Bool) → none_of a b c d ≡ 0
  by_tests true b c d = refl
  by_tests false true c d = refl
  by_tests false false true d = refl
  by_tests false false false true = refl
  by_tests false false false false = refl

  read_by : (r : ℕ) (t : Bool) → (r == 14) ≡ t → word_in first_state.registers r ≡ (if t then stack_start else 0)
  read_by r true e = let same : r ≡ 14 = grind (arith, nat_tests) in ap (word_in first_state.registers) same
  read_by r false e =
      ap (λ (t : Bool). if r == 0 then 0 else (if nat_lt r 8 then 0 else (if nat_lt r 16 then (if t then stack_start else 0) else (if nat_lt r 24 then 0 else 0)))) e
      ∙ by_tests (r == 0) (nat_lt r 8) (nat_lt r 16) (nat_lt r 24)

  set_by : (r : ℕ) (t : Bool) → (r == 14) ≡ t → slice_index first_world.variables r ≡ (if t then stack_start else 0)
  set_by r true e = let same : r ≡ 14 = grind (arith, nat_tests) in get_or-set_at (replicate 256 0) 14 r 0xFFFC0 0 same (let size = so_many 256 in omega (arith, size))
  set_by r false e = get_or-set_other (replicate 256 0) 14 r 0xFFFC0 0 (λ same. let x : r ≡ 14 = same in grind (arith, nat_tests)) ∙ all_zero 256 r

  other_zero : (r : ℕ) → 31 < r → slice_index first_world.variables r ≡ 0
  other_zero r high = get_or-set_other (replicate 256 0) 14 r 0xFFFC0 0 (λ same. omega (arith, same, high)) ∙ all_zero 256 r

  no_slots : (k a word : ℕ) → slot first_state.registers k a ≡ Some word → ⊥
  unfolding slot
  no_slots zero a word e = cc
  no_slots (suc k) a word e = cc

  byte_lies : (a byte : ℕ) → data_at parts.regions a ≡ Some byte → IsBlockByte first_world.block a byte
  byte_lies a byte e =
      let lies = data_lies_at parts.regions a byte e in
      let few = (data_within parts formed.kept).pages in
      let from = lies.from in
      let to = lies.to in
      record { from = from; to = omega (arith, few, to); is = padded program.data.items (524288 - length program.data.items) (a - 0x80000) ∙ made_of.data_are a byte e }

  pub start_shows : ShowsState parts first_world first_state
  start_shows = record {
    variables = length-set (zeros_of 256) 14 0xFFFC0 ∙ so_many 256;
    registers = λ r low. read_by r (r == 14) refl ∙ sym (set_by r (r == 14) refl);
    icc = record {
      n = other_zero 32 (omega arith);
      z = other_zero 33 (omega arith);
      v = other_zero 34 (omega arith);
      c = other_zero 35 (omega arith);
    };
    y = other_zero 36 (omega arith);
    windows = tt;
    block = (let few = program.few in let all = so_many (524288 - length program.data.items) in let both = length-append program.data.items (replicate (524288 - length program.data.items) 0) in omega (arith, few, all, both));
    block_bytes = λ k. subst (λ x. x < 2 ^ 8) (sym (padded program.data.items (524288 - length program.data.items) k)) (made_of.bytes k);
    slots = λ k a word e. absurd (no_slots k a word e);
    memory = byte_lies;
    input = refl;
    output = refl;
    pages = (is_between 1 16 parts.stack_pages (parts_kept parts formed.kept).stack_pages).1;
  }
