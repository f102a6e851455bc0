-- From where a program's run ends back over its steps.
use Rattle.std.proofs.Common.{◌≡◌, ℕ, zero, suc, ◌+◌, ◌≤◌, List, [], ◌∷◌, ◌++◌, drop, length, Option, Some, None, Vec, refl, sym, ap, ◌∙◌, subst, arith}
use Rattle.std.specs.Global.{Global}
use Rattle.std.specs.Prelude.{◌==◌, Bool, true, false, slice_get, slice_index, if◌then◌else◌}
use Rattle.native_lang.specs.Arms.{arm_of}
use Rattle.native_lang.specs.Runs.{Goes, Over, dispatched, ends, onto, onward, run, step, step_in, step_of}
use Rattle.native_lang.specs.Values.{value}
use Rattle.native_lang.specs.World.{World, does}
use Rattle.native_lang.specs.declared.expr.Expr.{Expr}
use Rattle.native_lang.specs.declared.program.Arm.{Arm}
use Rattle.native_lang.specs.declared.program.BlockEnd.{BlockEnd}
use Rattle.native_lang.specs.declared.program.BlockEnd.TheVariants.{Dispatch, Exit, Goto, If}
use Rattle.native_lang.specs.declared.program.NativeProgram.{NativeProgram}
use Rattle.native_lang.specs.declared.program.ProgramBlock.{ProgramBlock}
use Rattle.native_lang.specs.declared.stmt.Stmt.{Stmt}
use Rattle.native_results.specs.DoesAll.{does_all, then_on}
use Rattle.native_ends.specs.Translations.{HasBlock}

-- ---- what is left of a list

none_left : {A : Type 0} (k : ℕ) (xs : List A) → drop k xs ≡ [] → slice_get xs k ≡ None
none_left zero [] e = refl
none_left zero (x ∷ xs) e = absurd (cc)
none_left (suc k) [] e = refl
none_left (suc k) (x ∷ xs) e = none_left k xs e

first_left : {A : Type 0} (k : ℕ) (xs rest : List A) (x : A) → drop k xs ≡ x ∷ rest → slice_get xs k ≡ Some x
first_left zero [] rest x e = absurd (cc)
first_left zero (y ∷ xs) rest x e = cc
first_left (suc k) [] rest x e = absurd (cc)
first_left (suc k) (y ∷ xs) rest x e = first_left k xs rest x e

others_left : {A : Type 0} (k : ℕ) (xs rest : List A) (x : A) → drop k xs ≡ x ∷ rest → drop (suc k) xs ≡ rest
others_left zero [] rest x e = absurd (cc)
others_left zero (y ∷ xs) rest x e = cc
others_left (suc k) [] rest x e = absurd (cc)
others_left (suc k) (y ∷ xs) rest x e = others_left k xs rest x e

pub few_left : {A : Type 0} (k : ℕ) (xs : List A) → length (drop k xs) ≤ length xs
few_left zero xs = omega arith
few_left (suc k) [] = omega arith
few_left (suc k) (x ∷ xs) = let h = few_left k xs in omega (arith, h)

-- ---- ends

module _ (program : NativeProgram) (n status : ℕ) (Good : World → Type 0) where
  -- From a point with a world the run is over after so many steps or fewer.
  pub record EndsFrom (most label at : ℕ) (w : World) : Type 0 where
    pub steps : ℕ
    pub few : steps ≤ most
    pub last : World
    pub over : run program n steps label at w ≡ Over status last
    pub good : Good last

  pub more : (most many label at : ℕ) (w : World) → most ≤ many → EndsFrom most label at w → EndsFrom many label at w
  more most many label at w less h = record { steps = h.steps; few = (let few = h.few in omega (arith, few, less)); last = h.last; over = h.over; good = h.good }

  one_step : (most label at to place : ℕ) (w v : World) → step program n label at w ≡ Goes to place v → EndsFrom most to place v → EndsFrom (suc most) label at w
  one_step most label at to place w v e h = record {
    steps = suc h.steps;
    few = (let few = h.few in omega (arith, few));
    last = h.last;
    over = ap (onward (run program n h.steps)) e ∙ h.over;
    good = h.good;
  }

  last_step : (label at : ℕ) (w v : World) → step program n label at w ≡ Over status v → Good v → EndsFrom 1 label at w
  last_step label at w v e good = record { steps = 1; few = omega arith; last = v; over = ap (onward (run program n 0)) e; good = good }

  -- ---- points

  -- A point of a block, with the statements that are left.
  pub record IsAt (label at : ℕ) (rest : List Stmt) (end : BlockEnd) : Type 0 where
    pub all : List Stmt
    pub block : HasBlock program label all end
    pub here : drop at all ≡ rest

  pub at_first : (label : ℕ) (made : List Stmt) (end : BlockEnd) → HasBlock program label made end → IsAt label 0 made end
  at_first label made end has = record { all = made; block = has; here = refl }

  step_here : (label at : ℕ) (all : List Stmt) (end : BlockEnd) (w : World) → HasBlock program label all end → step program n label at w ≡ step_of n label at (slice_get all at) end w
  step_here label at all end w has =
      ap (λ (o : Option ProgramBlock). step_in n label at o w) has.there
      ∙ ap (λ (xs : List Stmt). step_of n label at (slice_get xs at) has.block.end w) has.statements
      ∙ ap (λ (e : BlockEnd). step_of n label at (slice_get all at) e w) has.ends

  -- a statement
  pub after_one : (most label at : ℕ) (s : Stmt) (rest : List Stmt) (end : BlockEnd) (w v : World) → IsAt label at (s ∷ rest) end → does n s w ≡ Some v →
      ((to : ℕ) → IsAt label to rest end → EndsFrom most label to v) → EndsFrom (suc most) label at w
  after_one most label at s rest end w v here e goes =
      one_step most label at label (at + 1) w v
      (step_here label at here.all end w here.block ∙ ap (λ (o : Option Stmt). step_of n label at o end w) (first_left at here.all rest s here.here)
      ∙ ap (onto label at) e)
      (goes (at + 1) (record {
        all = here.all;
        block = here.block;
        here = (let next : at + 1 ≡ suc at = omega arith in ap (λ (k : ℕ). drop k here.all) next ∙ others_left at here.all rest s here.here);
      }))

  -- statements one after another
  pub after_all : (most label at : ℕ) (made rest : List Stmt) (end : BlockEnd) (w v : World) → IsAt label at (made ++ rest) end → does_all n made w ≡ Some v →
      ((to : ℕ) → IsAt label to rest end → EndsFrom most label to v) → EndsFrom (length made + most) label at w
  after_all most label at [] rest end w v here e goes =
      let same : w ≡ v = cc in
      more most (0 + most) label at w (omega arith) (then_from same)
    where
      then_from : w ≡ v → EndsFrom most label at w
      then_from same = subst (λ (x : World). EndsFrom most label at x) (sym same) (goes at here)
  after_all most label at (s ∷ made) rest end w v here e goes =
      by_first (does n s w) refl e (λ u to there f. after_all most label to made rest end u v there f goes)
    where
      by_first : (o : Option World) → does n s w ≡ o → then_on o (does_all n made) ≡ Some v
          → ((u : World) (to : ℕ) → IsAt label to (made ++ rest) end → does_all n made u ≡ Some v → EndsFrom (length made + most) label to u)
          → EndsFrom (length (s ∷ made) + most) label at w
      by_first None is f again = absurd (cc)
      by_first (Some u) is f again =
          more (suc (length made + most)) (length (s ∷ made) + most) label at w (omega arith)
          (after_one (length made + most) label at s (made ++ rest) end w u here is (λ to there. again u to there f))

  -- ---- the end of a block

  step_end : (label at : ℕ) (end : BlockEnd) (w : World) → IsAt label at [] end → step program n label at w ≡ ends end w
  step_end label at end w here =
      step_here label at here.all end w here.block ∙ ap (λ (o : Option Stmt). step_of n label at o end w) (none_left at here.all here.here)

  pub after_goto : (most label at to : ℕ) (w : World) → IsAt label at [] (Goto to) → EndsFrom most to 0 w → EndsFrom (suc most) label at w
  after_goto most label at to w here h = one_step most label at to 0 w w (step_end label at (Goto to) w here) h

  if_some : (b : Bool) (first second : ℕ) (w : World) → b ≡ false → (if b then Goes second 0 w else Goes first 0 w) ≡ Goes first 0 w
  if_some false first second w e = refl
  if_some true first second w e = absurd (cc)

  if_none : (b : Bool) (first second : ℕ) (w : World) → b ≡ true → (if b then Goes second 0 w else Goes first 0 w) ≡ Goes second 0 w
  if_none true first second w e = refl
  if_none false first second w e = absurd (cc)

  pub after_if : (most label at first second : ℕ) (e : Expr) (w : World) → IsAt label at [] (If e first second) → (value w.variables e == 0) ≡ false → EndsFrom most first 0 w → EndsFrom (suc most) label at w
  after_if most label at first second e w here some h =
      one_step most label at first 0 w w (step_end label at (If e first second) w here ∙ if_some (value w.variables e == 0) first second w some) h

  pub after_if_not : (most label at first second : ℕ) (e : Expr) (w : World) → IsAt label at [] (If e first second) → (value w.variables e == 0) ≡ true → EndsFrom most second 0 w → EndsFrom (suc most) label at w
  after_if_not most label at first second e w here none h =
      one_step most label at second 0 w w (step_end label at (If e first second) w here ∙ if_none (value w.variables e == 0) first second w none) h

  pub after_dispatch : (most label at x to : ℕ) (arms : Vec Arm Global) (w : World) → IsAt label at [] (Dispatch x arms) → arm_of arms.items (slice_index w.variables x) ≡ Some to
      → EndsFrom most to 0 w → EndsFrom (suc most) label at w
  after_dispatch most label at x to arms w here e h =
      one_step most label at to 0 w w (step_end label at (Dispatch x arms) w here ∙ ap (λ (o : Option ℕ). dispatched o w) e) h

  pub after_exit : (label at : ℕ) (e : Expr) (w : World) → IsAt label at [] (Exit e) → value w.variables e ≡ status → Good w → EndsFrom 1 label at w
  after_exit label at e w here is good = last_step label at w w (step_end label at (Exit e) w here ∙ ap (λ (x : ℕ). Over x w) is) good
