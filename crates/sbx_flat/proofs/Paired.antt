-- An invariant of two runs makes an image safe, and holds along both.
use Rattle.std.proofs.Common.{◌≡◌, ℕ, ◌+◌, ◌<◌, ◌^◌, List, [], ◌∷◌, None, refl, sym, ap, ◌∙◌, subst, arith, false}
use Rattle.std.specs.Prelude.{◌==◌, if◌then◌else◌}
use Rattle.std.proofs.lemmas.Bool.Decides.{nat_tests}
use Rattle.sbx_image.specs.Rules.{code_start}
use Rattle.sbx_image.specs.Parts.{Parts}
use Rattle.sbx_image.specs.Regions.{data_at}
use Rattle.sbx_flat.specs.Invariants.{IsInvariant}
use Rattle.sbx_flat.specs.Registers.{still}
use Rattle.sbx_flat.specs.Runs.{AreBytes, FlatRun, FlatSafe, IsStart, Place, Run, place_of, weight, weight_at}
use Rattle.sbx_flat.specs.States.{State}
use Rattle.sbx_flat.proofs.Goes.{goes}
use Rattle.sbx_flat.proofs.Law.{Moves, safe, still_is_fresh}
use Rattle.sbx_flat.proofs.Turns.{weighs_some}

-- the start whose open words are zeros
abbrev calm_start : Parts → List ℕ → State
calm_start parts input = record {
  pc = code_start;
  npc = code_start + 4;
  annulled = false;
  icc = record { n = false; z = false; v = false; c = false };
  y = 0;
  registers = record { globals = λ _. 0; newest = record { locals = λ _. 0; outs = λ n. if n == 14 then 0x000FFFC0 else 0; slots = λ _. None }; older = []; oldest_ins = λ _. 0 };
  memory = data_at parts.regions;
  input = input;
  output = [];
  exit = None;
}

out_word : (n : ℕ) → (if n == 14 then 0x000FFFC0 else 0) < 2 ^ 32
out_word n = grind (arith, nat_tests)

calm_is_start : (parts : Parts) (input : List ℕ) → IsStart parts input (calm_start parts input)
calm_is_start parts input =
    record {
      pc = refl;
      npc = refl;
      annulled = refl;
      icc = refl;
      y = omega arith;
      one_frame = refl;
      base = refl;
      slots = λ a. refl;
      globals =
          λ n. omega arith;
      locals = λ n. omega arith;
      outs = out_word;
      ins = λ n. omega arith;
      memory = λ a. refl;
      input = refl;
      output = refl;
      exit = refl;
    }

module _ (parts : Parts) (I : ℕ → State → State → Type 0) (inv : IsInvariant parts I) where
  moves : (w : ℕ) (s calm : State) → I w s calm → s.exit ≡ None → Moves parts I w s calm
  moves w s calm i going =
      let fine = inv.never_wrong w s calm i in
      let calm_on = goes parts still calm still_is_fresh (sym (inv.one_end w s calm i).0 ∙ going) fine.1 in
      record {
        place = inv.one_place w s calm i going;
        weighs = weighs_some parts (place_of parts s);
        next_calm = calm_on.0;
        calm_goes = calm_on.1;
        each = λ fresh is_fresh.
            let on = goes parts fresh s is_fresh going fine.0 in
            (on.0, on.1, inv.steps w s calm on.0 calm_on.0 i (fresh, is_fresh, on.1) (still, still_is_fresh, calm_on.1));
      }

  pub invariant_is_safe : FlatSafe parts
  invariant_is_safe =
      safe parts I
      (record { bound = inv.within; exits = λ w s calm i. (inv.one_end w s calm i).0; outputs = λ w s calm i. (inv.one_end w s calm i).1; moves = moves })
      (calm_start parts)
      (λ input s bytes start. inv.begins input s (calm_start parts input) bytes start (calm_is_start parts input))

  along : (path : List Place) (w : ℕ) (s t u v : State) → I w s t → Run parts s path u → Run parts t path v → I (w + weight parts path) u v
  along [] w s t u v i run other =
      let none : w ≡ w + 0 = omega arith in
      subst (λ k. I k u v) none (subst (λ x. I w u x) other (subst (λ x. I w x t) run i))
  along (p ∷ path) w s t u v i run other =
      let on = inv.steps w s t run.0 other.0 i run.2 other.2 in
      let rest = along path (w + weight_at parts (place_of parts s)) run.0 other.0 u v on run.3 other.3 in
      let same : weight_at parts p ≡ weight_at parts (place_of parts s) = ap (weight_at parts) run.1 in
      let sum : w + weight_at parts (place_of parts s) + weight parts path ≡ w + (weight_at parts p + weight parts path) = omega (arith, same) in
      subst (λ k. I k u v) sum rest

  pub invariant_along : (input : List ℕ) (path : List Place) (s t : State) → AreBytes input → FlatRun parts input path s → FlatRun parts input path t → I (weight parts path) s t
  invariant_along input path s t bytes run other =
      let none : 0 + weight parts path ≡ weight parts path = omega arith in
      subst (λ k. I k s t) none (along path 0 run.0 other.0 s t (inv.begins input run.0 other.0 bytes run.1 other.1) run.2 other.2)
