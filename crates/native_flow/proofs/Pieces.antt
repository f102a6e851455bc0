-- A run in pieces is the run on all of the input, and what is put out stays.
use Rattle.std.proofs.Common.{◌≡◌, ℕ, zero, suc, ◌+◌, ◌%◌, ◌^◌, Bool, true, false, List, [], ◌∷◌, ◌++◌, Option, Some, None, append_assoc, refl, sym, ap, ◌∙◌, subst, arith}
use Rattle.std.specs.Prelude.{◌==◌, slice_get, slice_index, if◌then◌else◌}
use Rattle.std.proofs.lemmas.List.{append-nil}
use Rattle.v8_alu.specs.Outcomes.{division_of}
use Rattle.v8_alu.specs.declared.AluOut.{AluOut}
use Rattle.native_lang.specs.Arms.{arm_of}
use Rattle.native_lang.specs.Memory.{bytes_of_width, loaded, stored}
use Rattle.native_lang.specs.Runs.{Turn, Goes, Over, Lost, dispatched, ends, onto, onward, run, step, step_in, step_of}
use Rattle.native_lang.specs.Values.{value}
use Rattle.native_lang.specs.World.{World, divides, division, does, gets, loads, no_codes, popped, stores}
use Rattle.native_lang.specs.declared.program.BlockEnd.{BlockEnd}
use Rattle.native_lang.specs.declared.program.BlockEnd.TheVariants.{Dispatch, Exit, Goto, If}
use Rattle.native_lang.specs.declared.program.NativeProgram.{NativeProgram}
use Rattle.native_lang.specs.declared.program.ProgramBlock.{ProgramBlock}
use Rattle.native_lang.specs.declared.state.SavedWindow.{SavedWindow}
use Rattle.native_lang.specs.declared.stmt.Stmt.{Stmt}
use Rattle.native_lang.specs.declared.stmt.Stmt.TheVariants.{Divide, Enter, Get, Leave, Load, Pop, Push, Put, Set, Store, Turns}
use Rattle.native_flow.specs.Pieces.{AreFirstOf, Piece, bytes_of_all, given, in_pieces, paced, statement_at, waits, wants}

-- ---- bytes that come later change no step that doesn't wait

abbrev with_more : List ℕ → World → World
with_more more w = record w { input = w.input ++ more }

abbrev with_more_if : List ℕ → Option World → Option World
with_more_if more None = None
with_more_if more (Some w) = Some (with_more more w)

module _ (more : List ℕ) where
  loads_more : (x : ℕ) (o : Option ℕ) (w : World) → loads x o (with_more more w) ≡ with_more_if more (loads x o w)
  loads_more x None w = refl
  loads_more x (Some number) w = refl

  stores_more : (o : Option (List ℕ)) (w : World) → stores o (with_more more w) ≡ with_more_if more (stores o w)
  stores_more None w = refl
  stores_more (Some block) w = refl

  divides_more : (x over : ℕ) (o : Option AluOut) (w : World) → divides x over o (with_more more w) ≡ with_more_if more (divides x over o w)
  divides_more x over None w = refl
  divides_more x over (Some result) w = refl

  popped_more : (saved : List SavedWindow) (w : World) → popped saved (with_more more w) ≡ with_more_if more (popped saved w)
  popped_more [] w = refl
  popped_more (s ∷ rest) w = refl

  gets_more : (x : ℕ) (input : List ℕ) (w : World) → wants (Some (Get x)) input ≡ false → gets x (input ++ more) (with_more more w) ≡ with_more more (gets x input w)
  gets_more x [] w goes = absurd (cc)
  gets_more x (byte ∷ rest) w goes = refl

  does_more : (n : ℕ) (s : Stmt) (w : World) → wants (Some s) w.input ≡ false → does n s (with_more more w) ≡ with_more_if more (does n s w)
  does_more n (Set x e) w goes = refl
  does_more n (Load x width e) w goes = loads_more x (loaded w.block (value w.variables e) (bytes_of_width width)) w
  does_more n (Store width a e) w goes = stores_more (stored w.block (value w.variables a) (bytes_of_width width) (value w.variables e)) w
  does_more n (Divide x over sign y a b) w goes =
      divides_more x over (division_of (division sign) (value w.variables a) (value w.variables b) no_codes (value w.variables y)) w
  does_more n (Get x) w goes = ap Some (gets_more x w.input w goes)
  does_more n (Put e) w goes = refl
  does_more n (Turns k) w goes = refl
  does_more n Enter w goes = refl
  does_more n Leave w goes = refl
  does_more n Push w goes = refl
  does_more n Pop w goes = popped_more w.saved w

  one_of : (b : Bool) (t u : Turn) → (if b then given more t else given more u) ≡ given more (if b then t else u)
  one_of true t u = refl
  one_of false t u = refl

  dispatched_more : (o : Option ℕ) (w : World) → dispatched o (with_more more w) ≡ given more (dispatched o w)
  dispatched_more None w = refl
  dispatched_more (Some label) w = refl

  ends_more : (end : BlockEnd) (w : World) → ends end (with_more more w) ≡ given more (ends end w)
  ends_more (Goto label) w = refl
  ends_more (If e first second) w = one_of (value w.variables e == 0) (Goes second 0 w) (Goes first 0 w)
  ends_more (Exit e) w = refl
  ends_more (Dispatch x arms) w = dispatched_more (arm_of arms.items (slice_index w.variables x)) w

  onto_more : (label at : ℕ) (o : Option World) → onto label at (with_more_if more o) ≡ given more (onto label at o)
  onto_more label at None = refl
  onto_more label at (Some w) = refl

  step_of_more : (n label at : ℕ) (o : Option Stmt) (end : BlockEnd) (w : World) → wants o w.input ≡ false → step_of n label at o end (with_more more w) ≡ given more (step_of n label at o end w)
  step_of_more n label at None end w goes = ends_more end w
  step_of_more n label at (Some s) end w goes = ap (onto label at) (does_more n s w goes) ∙ onto_more label at (does n s w)

  step_in_more : (n label at : ℕ) (o : Option ProgramBlock) (w : World) → wants (statement_at o at) w.input ≡ false → step_in n label at o (with_more more w) ≡ given more (step_in n label at o w)
  step_in_more n label at None w goes = refl
  step_in_more n label at (Some block) w goes = step_of_more n label at (slice_get block.statements.items at) block.end w goes

  step_more : (p : NativeProgram) (n : ℕ) (turn : Turn) → waits p turn ≡ false → onward (step p n) (given more turn) ≡ given more (onward (step p n) turn)
  step_more p n (Goes label at w) goes = step_in_more n label at (slice_get p.blocks.items label) w goes
  step_more p n (Over word w) goes = refl
  step_more p n Lost goes = refl

pub twice_given : (a b : List ℕ) (turn : Turn) → given b (given a turn) ≡ given (a ++ b) turn
twice_given a b (Goes label at w) = ap (λ (input : List ℕ). Goes label at (record w { input = input })) (append_assoc w.input a b)
twice_given a b (Over word w) = ap (λ (input : List ℕ). Over word (record w { input = input })) (append_assoc w.input a b)
twice_given a b Lost = refl

pub nothing_given : (turn : Turn) → given [] turn ≡ turn
nothing_given (Goes label at w) = ap (λ (input : List ℕ). Goes label at (record w { input = input })) (append-nil w.input)
nothing_given (Over word w) = ap (λ (input : List ℕ). Over word (record w { input = input })) (append-nil w.input)
nothing_given Lost = refl

-- ---- steps that are made in pieces are steps of the run on all of the input

module _ (p : NativeProgram) (n : ℕ) where
  abbrev pub further : ℕ → Turn → Turn
  further k turn = onward (run p n k) turn

  none_made : (turn : Turn) → further 0 turn ≡ turn
  none_made (Goes label at w) = refl
  none_made (Over word w) = refl
  none_made Lost = refl

  one_made : (k : ℕ) (turn : Turn) → further k (onward (step p n) turn) ≡ further (suc k) turn
  one_made k (Goes label at w) = refl
  one_made k (Over word w) = refl
  one_made k Lost = refl

  pub both_made : (j k : ℕ) (turn : Turn) → further k (further j turn) ≡ further (j + k) turn
  both_made zero k turn = let e : k ≡ 0 + k = omega arith in ap (further k) (none_made turn) ∙ ap (λ i. further i turn) e
  both_made (suc j) k turn =
      let e : suc (j + k) ≡ suc j + k = omega arith in
      ap (further k) (sym (one_made j turn)) ∙ both_made j k (onward (step p n) turn) ∙ one_made (j + k) turn ∙ ap (λ i. further i turn) e

  -- from one turn to another one, with more bytes behind the input of both
  abbrev Comes : List ℕ → Turn → Turn → Type 0
  Comes more from to = (k : ℕ) × (given more to ≡ further k (given more from))

  by_both : (more : List ℕ) (a b c : Turn) → Comes more a b → Comes more b c → Comes more a c
  by_both more a b c f g = (f.0 + g.0, g.1 ∙ ap (further g.0) f.1 ∙ both_made f.0 g.0 (given more a))

  by_one : (more : List ℕ) (turn : Turn) (f : Bool) → waits p turn ≡ f → Comes more turn (if f then turn else onward (step p n) turn)
  by_one more turn true waiting = (0, sym (none_made (given more turn)))
  by_one more turn false goes = (1, sym (step_more more p n turn goes) ∙ sym (none_made (onward (step p n) (given more turn))) ∙ one_made 0 (given more turn))

  by_paced : (more : List ℕ) (k : ℕ) (turn : Turn) → Comes more turn (paced p n k turn)
  by_paced more zero turn = (0, sym (none_made (given more turn)))
  by_paced more (suc k) turn =
      let next = if waits p turn then turn else onward (step p n) turn in
      by_both more turn next (paced p n k next) (by_one more turn (waits p turn) refl) (by_paced more k next)

  pub by_pieces : (pieces : List Piece) (later : List ℕ) (turn : Turn) → (k : ℕ) × (given later (in_pieces p n pieces turn) ≡ further k (given (bytes_of_all pieces ++ later) turn))
  by_pieces [] later turn = (0, sym (none_made (given later turn)))
  by_pieces (piece ∷ pieces) later turn =
      let rest = bytes_of_all pieces ++ later in
      let came = given piece.bytes turn in
      let here = by_paced rest piece.steps came in
      let there = by_pieces pieces later (paced p n piece.steps came) in
      let all = twice_given piece.bytes rest turn ∙ ap (λ (bytes : List ℕ). given bytes turn) (sym (append_assoc piece.bytes (bytes_of_all pieces) later)) in
      (here.0 + there.0, there.1 ∙ ap (further there.0) here.1 ∙ both_made here.0 there.0 (given rest came) ∙ ap (further (here.0 + there.0)) all)

-- ---- what is put out stays

abbrev GrownIf : List ℕ → Option World → Type 0
GrownIf out None = Unit {0}
GrownIf out (Some w) = AreFirstOf out w.output

abbrev pub Grown : List ℕ → Turn → Type 0
Grown out (Goes label at w) = AreFirstOf out w.output
Grown out (Over word w) = AreFirstOf out w.output
Grown out Lost = Unit {0}

same : (out : List ℕ) → AreFirstOf out out
same out = ([], sym (append-nil out))

longer : (a b : List ℕ) (turn : Turn) → AreFirstOf a b → Grown b turn → Grown a turn
longer a b (Goes label at w) f g = (f.0 ++ g.0, g.1 ∙ ap (λ (xs : List ℕ). xs ++ g.0) f.1 ∙ append_assoc a f.0 g.0)
longer a b (Over word w) f g = (f.0 ++ g.0, g.1 ∙ ap (λ (xs : List ℕ). xs ++ g.0) f.1 ∙ append_assoc a f.0 g.0)
longer a b Lost f g = tt

loads_grown : (x : ℕ) (o : Option ℕ) (w : World) → GrownIf w.output (loads x o w)
loads_grown x None w = tt
loads_grown x (Some number) w = same w.output

stores_grown : (o : Option (List ℕ)) (w : World) → GrownIf w.output (stores o w)
stores_grown None w = tt
stores_grown (Some block) w = same w.output

divides_grown : (x over : ℕ) (o : Option AluOut) (w : World) → GrownIf w.output (divides x over o w)
divides_grown x over None w = tt
divides_grown x over (Some result) w = same w.output

popped_grown : (saved : List SavedWindow) (w : World) → GrownIf w.output (popped saved w)
popped_grown [] w = tt
popped_grown (s ∷ rest) w = same w.output

gets_grown : (x : ℕ) (input : List ℕ) (w : World) → AreFirstOf w.output (gets x input w).output
gets_grown x [] w = same w.output
gets_grown x (byte ∷ rest) w = same w.output

does_grown : (n : ℕ) (s : Stmt) (w : World) → GrownIf w.output (does n s w)
does_grown n (Set x e) w = same w.output
does_grown n (Load x width e) w = loads_grown x (loaded w.block (value w.variables e) (bytes_of_width width)) w
does_grown n (Store width a e) w = stores_grown (stored w.block (value w.variables a) (bytes_of_width width) (value w.variables e)) w
does_grown n (Divide x over sign y a b) w =
    divides_grown x over (division_of (division sign) (value w.variables a) (value w.variables b) no_codes (value w.variables y)) w
does_grown n (Get x) w = gets_grown x w.input w
does_grown n (Put e) w = ((value w.variables e % 2 ^ 8) ∷ [], refl)
does_grown n (Turns k) w = same w.output
does_grown n Enter w = same w.output
does_grown n Leave w = same w.output
does_grown n Push w = same w.output
does_grown n Pop w = popped_grown w.saved w

one_grown : (out : List ℕ) (b : Bool) (t u : Turn) → Grown out t → Grown out u → Grown out (if b then t else u)
one_grown out true t u f g = f
one_grown out false t u f g = g

dispatched_grown : (o : Option ℕ) (w : World) → Grown w.output (dispatched o w)
dispatched_grown None w = tt
dispatched_grown (Some label) w = same w.output

ends_grown : (end : BlockEnd) (w : World) → Grown w.output (ends end w)
ends_grown (Goto label) w = same w.output
ends_grown (If e first second) w = one_grown w.output (value w.variables e == 0) (Goes second 0 w) (Goes first 0 w) (same w.output) (same w.output)
ends_grown (Exit e) w = same w.output
ends_grown (Dispatch x arms) w = dispatched_grown (arm_of arms.items (slice_index w.variables x)) w

onto_grown : (out : List ℕ) (label at : ℕ) (o : Option World) → GrownIf out o → Grown out (onto label at o)
onto_grown out label at None f = tt
onto_grown out label at (Some w) f = f

step_of_grown : (n label at : ℕ) (o : Option Stmt) (end : BlockEnd) (w : World) → Grown w.output (step_of n label at o end w)
step_of_grown n label at None end w = ends_grown end w
step_of_grown n label at (Some s) end w = onto_grown w.output label at (does n s w) (does_grown n s w)

step_in_grown : (n label at : ℕ) (o : Option ProgramBlock) (w : World) → Grown w.output (step_in n label at o w)
step_in_grown n label at None w = tt
step_in_grown n label at (Some block) w = step_of_grown n label at (slice_get block.statements.items at) block.end w

module _ (p : NativeProgram) (n : ℕ) where
  further_grown : (k : ℕ) → ((label at : ℕ) (w : World) → Grown w.output (run p n k label at w)) → (out : List ℕ) (turn : Turn) → Grown out turn → Grown out (further p n k turn)
  further_grown k grows out (Goes label at w) f = longer out w.output (run p n k label at w) f (grows label at w)
  further_grown k grows out (Over word w) f = f
  further_grown k grows out Lost f = tt

  pub run_grown : (k label at : ℕ) (w : World) → Grown w.output (run p n k label at w)
  run_grown zero label at w = same w.output
  run_grown (suc k) label at w =
      further_grown k (λ to next v. run_grown k to next v) w.output (step p n label at w) (step_in_grown n label at (slice_get p.blocks.items label) w)
