-- The law: a translation of a checked image runs as the image does.
use Rattle.std.proofs.Common.{◌≡◌, ℕ, zero, suc, ◌+◌, ◌-◌, ◌*◌, ◌<◌, ◌≤◌, Bool, true, false, List, [], ◌∷◌, ◌++◌, length, Option, Some, refl, sym, ap, ◌∙◌, subst, inl, inr, arith}
use Rattle.std.specs.Prelude.{◌⊎◌, slice_get}
use Rattle.std.proofs.Math.Nat.{mul-le-mul_left}
use Rattle.v8_meaning.specs.Operands.{following}
use Rattle.sbx_image.specs.Order.{code_end}
use Rattle.sbx_image.specs.Parts.{Parts}
use Rattle.sbx_image.specs.Rules.{code_start}
use Rattle.sbx_image.proofs.Ordered.{in_order}
use Rattle.sbx_flat.specs.declared.path.Place.{Place}
use Rattle.sbx_flat.specs.Runs.{AreBytes, Behaves, budget, weight}
use Rattle.sbx_flat.specs.States.{State}
use Rattle.sbx_flat.specs.Traffic.{no_traffic}
use Rattle.sbx_rules.specs.Verdicts.{Checked}
use Rattle.sbx_sound.specs.Law.{IsFormed}
use Rattle.sbx_sound.proofs.Start.{calm_start}
use Rattle.sbx_sound.proofs.Whole.{safe}
use Rattle.native_lang.specs.Counts.{makes}
use Rattle.native_lang.specs.Runs.{start}
use Rattle.native_lang.specs.World.{World}
use Rattle.native_lang.specs.declared.expr.Expr.TheVariants.{Number}
use Rattle.native_lang.specs.declared.program.BlockEnd.{BlockEnd}
use Rattle.native_lang.specs.declared.program.BlockEnd.TheVariants.{Goto}
use Rattle.native_lang.specs.declared.program.NativeProgram.{NativeProgram}
use Rattle.native_lang.specs.declared.program.ProgramBlock.{ProgramBlock}
use Rattle.native_lang.specs.declared.stmt.Stmt.{Stmt}
use Rattle.native_lang.specs.declared.stmt.Stmt.TheVariants.{Set, Turns}
use Rattle.native_ends.specs.Answers.{EndsAs, TranslationsRun, longest}
use Rattle.native_ends.specs.Translations.{Begins, DetachedSlot, HasBlock, HasDetached, IsTranslation, Makes}
use Rattle.native_ends.specs.Translations as kinds
use Rattle.native_ends.proofs.Along.{spot_at}
use Rattle.native_ends.proofs.Backward.{after_goto, after_one, at_first, more}
use Rattle.native_ends.proofs.Cases.{At, Ends, Enters, GoesOn, Good, Point, asks_case, calls_case, counted, detaches_case, exits_case, gets_case, jumps_case, left, passes_case, pay}
use Rattle.native_ends.proofs.Cases.{puts_case, returns_case, word_case}
use Rattle.native_ends.proofs.Counts.{makes_none}
use Rattle.native_ends.proofs.Spots.{within_code}
use Rattle.native_ends.proofs.Started.{calm_starts, first_world, start_shows}
use Rattle.native_ends.proofs.Worlds.{counted_shows}

-- ---- how many statements blocks have

no_block : (k : ℕ) (b : ProgramBlock) → slice_get [] k ≡ Some b → ⊥
no_block k b e = cc

one_block : (a b : ProgramBlock) → Some a ≡ Some b → a ≡ b
one_block a b e = cc

as_long : (blocks : List ProgramBlock) (k : ℕ) (b : ProgramBlock) → slice_get blocks k ≡ Some b → length b.statements.items ≤ longest blocks
as_long [] k b e = absurd (no_block k b e)
as_long (c ∷ blocks) zero b e = let same = ap (λ (x : ProgramBlock). length x.statements.items) (one_block c b e) in omega (arith, same)
as_long (c ∷ blocks) (suc k) b e = let h = as_long blocks k b e in omega (arith, h)

shorter : (program : NativeProgram) (label : ℕ) (made : List Stmt) (end : BlockEnd) → HasBlock program label made end → length made ≤ longest program.blocks.items
shorter program label made end has =
    let h = as_long program.blocks.items label has.block has.there in
    let same = ap (λ (xs : List Stmt). length xs) has.statements in
    omega (arith, h, same)

module _ (parts : Parts) (formed : IsFormed parts) (checked : Checked parts) (input output : List ℕ) (bytes : AreBytes input) (status : ℕ) (path : List Place)
    (behaves : Behaves parts input output status path) (n : ℕ) (program : NativeProgram) (made_of : IsTranslation parts program) where
  abbrev most : ℕ
  most = longest program.blocks.items

  abbrev EndsAt : (allowed label at : ℕ) → World → Type 0
  EndsAt allowed label at w = Ends parts formed checked input output bytes status path behaves n program made_of most allowed label at w

  abbrev PointAt : (label at : ℕ) → List Stmt → BlockEnd → Type 0
  PointAt label at rest end = Point parts formed checked input output bytes status path behaves n program made_of most label at rest end

  abbrev AtWord : List Place → State → World → ℕ → Type 0
  AtWord way s w turns = At parts formed checked input output bytes status path behaves n program made_of most way s w turns

  abbrev Later : ℕ → Type 0
  Later fuel = GoesOn parts formed checked input output bytes status path behaves n program made_of most fuel

  abbrev Begun : ℕ → Type 0
  Begun fuel = Enters parts formed checked input output bytes status path behaves n program made_of most fuel

  abbrev left_of : List Place → ℕ
  left_of way = left parts formed checked input output bytes status path behaves n program made_of most way

  abbrev paid : ℕ
  paid = pay parts formed checked input output bytes status path behaves n program made_of most

  abbrev goal : World → Type 0
  goal = Good parts formed checked input output bytes status path behaves n program made_of most

  abbrev label_of : ℕ → ℕ
  label_of a = made_of.labels.at a

  allow : (r extra allowed label at : ℕ) (w : World) → 1 + allowed ≤ extra → EndsAt (r + 1 + allowed) label at w → EndsAt (r + extra) label at w
  allow r extra allowed label at w less h = more program n status goal (r + 1 + allowed) (r + extra) label at w (omega (arith, less)) h

  count_now : (way : List Place) (s : State) (w : World) (turns : ℕ) → AtWord way s w turns → AtWord way s (counted turns w) 0
  count_now way s w turns h = record {
    beside = record {
      run = h.beside.run;
      open_now = h.beside.open_now;
      shows = counted_shows parts w s (makes turns w.counts) h.beside.shows;
      counted = h.beside.counted ∙ sym (makes_none (makes turns w.counts));
    };
    runs = h.runs;
    npc = h.npc;
  }

  module _ (fuel : ℕ) (later : Later fuel) (begun : Begun fuel) (way : List Place) (s : State) (few : budget parts < weight parts way + suc fuel) (label extra : ℕ)
      (enough : 1 + (left_of way - paid) ≤ extra) where
    -- what is owed where a block falls into the next one
    abbrev FallsOn : Bool → Type 0
    FallsOn some = some ≡ true → (a : ℕ) → Begins parts a ⊎ (code_end parts ≤ a) → (w : World) (at : ℕ) → s.pc ≡ a → AtWord way s w 0 → PointAt label at [] (Goto (label_of a)) → EndsAt extra label at w

    by_word : (f : ℕ) (some : Bool) (a turns : ℕ) (rest : List Stmt) (end : BlockEnd) (slot : Option DetachedSlot) → Makes parts made_of.labels f some a turns rest end slot → HasDetached program slot
        → FallsOn some → (w : World) (at : ℕ) → s.pc ≡ a → AtWord way s w turns → PointAt label at rest end → EndsAt (length rest + extra) label at w
    by_word f _ _ _ _ _ _ (kinds.counts some a turns rest end slot m) has falls_on w at here h point =
        more program n status goal (suc (length rest + extra)) (length (Turns turns ∷ rest) + extra) label at w (omega arith)
        (after_one program n status goal (length rest + extra) label at (Turns turns) rest end w (counted turns w) point refl
        (λ to stands. by_word f some a 0 rest end slot m has falls_on (counted turns w) to here (count_now way s w turns h) stands))
    by_word f _ _ _ _ _ _ (kinds.word some a turns op made rest end slot asks straight is m) has falls_on w at here h point =
        allow (length (made ++ rest)) extra (left_of way - paid) label at w enough
        (word_case parts formed checked input output bytes status path behaves n program made_of most fuel later f a turns op made rest end slot asks straight is m has way s w label at here h point few)
    by_word f _ _ _ _ _ _ (kinds.gets some a t rest end slot asks service m) has falls_on w at here h point =
        allow _ extra (left_of way - paid) label at w enough
        (gets_case parts formed checked input output bytes status path behaves n program made_of most fuel later f a t rest end slot asks service m has way s w label at here h point few)
    by_word f _ _ _ _ _ _ (kinds.puts some a t rest end slot asks service m) has falls_on w at here h point =
        allow _ extra (left_of way - paid) label at w enough
        (puts_case parts formed checked input output bytes status path behaves n program made_of most fuel later f a t rest end slot asks service m has way s w label at here h point few)
    by_word f _ _ _ _ _ _ (kinds.exits some a turns t asks service) has falls_on w at here h point =
        more program n status goal 2 (length (Turns (turns + 3) ∷ []) + extra) label at w (omega (arith, enough))
        (exits_case parts formed checked input output bytes status path behaves n program made_of most f a turns t asks service way s w label at here h point)
    by_word f _ _ _ _ _ _ (kinds.falls a begins) has falls_on w at here h point =
        more program n status goal extra (0 + extra) label at w (omega arith) (falls_on refl a begins w at here h point)
    by_word f _ _ _ _ _ _ (kinds.jumps some a turns b slot made asks always has_slot is) has falls_on w at here h point =
        allow _ extra (left_of way - paid) label at w enough
        (jumps_case parts formed checked input output bytes status path behaves n program made_of most fuel begun a turns b slot made asks always has_slot is way s w label at here h point few)
    by_word f _ _ _ _ _ _ (kinds.passes some a turns b slot made asks never has_slot is) has falls_on w at here h point =
        absurd (passes_case parts formed checked input output bytes status path behaves n program made_of most a turns b asks never way s w here h)
    by_word f _ _ _ _ _ _ (kinds.asks some a turns b slot made asked asks_for open_still annul condition has_slot is) has falls_on w at here h point =
        allow _ extra (left_of way - paid) label at w enough
        (asks_case parts formed checked input output bytes status path behaves n program made_of most fuel begun a turns b slot made asked asks_for annul condition has_slot is way s w label at here h point few)
    by_word f _ _ _ _ _ _ (kinds.detaches some a turns other b slot made asked asks_for open_still annul condition has_slot is) has falls_on w at here h point =
        allow _ extra (left_of way - paid) label at w enough
        (detaches_case parts formed checked input output bytes status path behaves n program made_of most fuel begun (shorter program) a turns other b slot made asked asks_for open_still annul condition has_slot is has way s w label at here h point few)
    by_word f _ _ _ _ _ _ (kinds.calls some a turns displacement slot made asks has_slot is) has falls_on w at here h point =
        allow _ extra (left_of way - paid) label at w enough
        (calls_case parts formed checked input output bytes status path behaves n program made_of most fuel begun a turns displacement slot made asks has_slot is way s w label at here h point few)
    by_word f _ _ _ _ _ _ (kinds.returns some a turns jump slot made asks lies has_slot is) has falls_on w at here h point =
        allow _ extra (left_of way - paid) label at w enough
        (returns_case parts formed checked input output bytes status path behaves n program made_of most fuel begun f a turns jump slot made asks lies has_slot is way s w label at here h point few)

  -- ---- from where a block begins, and from within one

  mul_some : (k y : ℕ) → 1 ≤ y → k ≤ k * y
  mul_some k y some = let h = mul-le-mul_left k some in omega (arith, h)

  none_before : (f : Bool) → f ≡ false → f ≡ true → ⊥
  none_before f e g = cc

  begun_next : (fuel : ℕ) → Later fuel → Begun fuel → Begun (suc fuel)
  begun_next fuel later begun way s w h begins few =
      let block = made_of.words s.pc begins in
      let there = at_first program n status goal (label_of s.pc) block.made block.end block.there in
      let short = shorter program (label_of s.pc) block.made block.end block.there in
      let within = behaves.within_budget way s h.beside.run in
      let some = mul_some paid (budget parts + 1 - weight parts way) (omega (arith, within)) in
      more program n status goal (length block.made + (1 + (left_of way - paid))) (left_of way) (label_of s.pc) 0 w (omega (arith, short, some))
      (by_word fuel later begun way s few (label_of s.pc) (1 + (left_of way - paid)) (omega arith) block.function false s.pc 0 block.made block.end block.detached block.makes block.has
      (λ some. absurd (cc)) w 0 refl h there)

  later_next : (fuel : ℕ) → Later fuel → Begun fuel → Later (suc fuel)
  later_next fuel later begun f a turns some rest end slot makes has way s w label at here h point few =
      more program n status goal (length rest + (1 + left_of way)) (length rest + 1 + left_of way) label at w (omega arith)
      (by_word fuel later begun way s few label (1 + left_of way) (omega arith) f some a turns rest end slot makes has (λ e. falls_on) w at here h point)
    where
      by_begins : (b : ℕ) → Begins parts b ⊎ (code_end parts ≤ b) → (v : World) (to : ℕ) → s.pc ≡ b → AtWord way s v 0 → PointAt label to [] (Goto (label_of b)) → EndsAt (1 + left_of way) label to v
      by_begins b (inl begins) v to at_b g stands =
          (let there = begun_next fuel later begun way s v g (subst (Begins parts) (sym at_b) begins) few in
          let goes : EndsAt (left_of way) (label_of b) 0 v = subst (λ x. EndsAt (left_of way) (label_of x) 0 v) at_b there in
          more program n status goal (suc (left_of way)) (1 + left_of way) label to v (omega arith)
          (after_goto program n status goal (left_of way) label to (label_of b) v stands goes))
      by_begins b (inr past) v to at_b g stands =
          absurd (within_code parts formed checked s (spot_at parts formed checked input output bytes status path behaves n way s v v.counts 0 g.beside) (subst (λ x. code_end parts ≤ x) (sym at_b) past))

      falls_on : (b : ℕ) → Begins parts b ⊎ (code_end parts ≤ b) → (v : World) (to : ℕ) → s.pc ≡ b → AtWord way s v 0 → PointAt label to [] (Goto (label_of b)) → EndsAt (1 + left_of way) label to v
      falls_on b begins v to at_b g stands = by_begins b begins v to at_b g stands

  all_later : (fuel : ℕ) → Later fuel × Begun fuel
  all_later zero = (
    λ f a turns some rest end slot makes has way s w label at here h point few. absurd (let within = behaves.within_budget way s h.beside.run in omega (arith, within, few)),
    λ way s w h begins few. absurd (let within = behaves.within_budget way s h.beside.run in omega (arith, within, few)),
  )
  all_later (suc fuel) = let below = all_later fuel in (later_next fuel below.0 below.1, begun_next fuel below.0 below.1)

  -- ---- a run

  first_begins : Begins parts code_start
  first_begins = let order = in_order parts formed.kept in inl (record { function = 0; block = 0; is = order.first.0; there = order.first.1 })

  first_here : AtWord [] (calm_start parts input) (first_world parts formed program made_of input) 0
  first_here = record {
    beside = record {
      run = (calm_start parts input, calm_starts parts input, refl);
      open_now = refl;
      shows = start_shows parts formed program made_of input;
      counted = sym (makes_none no_traffic);
    };
    runs = refl;
    npc = (let e : code_start + 4 ≡ following code_start = omega arith in e);
  }

  many : (k b : ℕ) → 2 + (k + 2) * (b + 1 - 0) ≤ (k + 4) * (b + 1)
  many k b = let e : b + 1 - 0 ≡ b + 1 = omega arith in let h : (k + 2) * (b + 1 - 0) ≡ (k + 2) * (b + 1) = ap (λ x. (k + 2) * x) e in omega (arith, h)

  pub ends_as : EndsAs parts program n input
  ends_as =
      let begun = (all_later (suc (budget parts))).1 in
      let there = begun [] (calm_start parts input) (first_world parts formed program made_of input) first_here first_begins (omega arith) in
      let first = at_first program n status goal 0 (Set 14 (Number 0xFFFC0) ∷ []) (Goto (label_of code_start)) made_of.start in
      let all = after_one program n status goal (suc (left_of [])) 0 0 (Set 14 (Number 0xFFFC0)) [] (Goto (label_of code_start)) (start program input) (first_world parts formed program made_of input) first refl
      (λ to stands. after_goto program n status goal (left_of []) 0 to (label_of code_start) (first_world parts formed program made_of input) stands there) in
      let few = all.few in
      let enough = many most (budget parts) in
      record {
        output = output;
        status = status;
        path = path;
        behaves = behaves;
        steps = all.steps;
        world = all.last;
        ends = all.over;
        within = omega (arith, few, enough);
        is_output = all.good.0;
        is_traffic = all.good.1;
      }

pub translations_run : TranslationsRun
translations_run parts program formed checked made_of n input two bytes =
    let behaves = safe parts formed checked input bytes in
    ends_as parts formed checked input behaves.0 bytes behaves.1 behaves.2 behaves.3 n program made_of
