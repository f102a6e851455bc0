-- What an answer of the plain machine says, by the test that decides it.
use Rattle.std.proofs.Common.{◌≡◌, ℕ, ◌+◌, ◌%◌, ◌≤◌, Bool, true, false, List, ◌∷◌, Option, Some, None, refl, sym, ap, ◌∙◌, subst, arith}
use Rattle.std.specs.Prelude.{◌==◌, ◌&&◌, if◌then◌else◌}
use Rattle.std.proofs.lemmas.Bool.Decides.{nat_tests}
use Rattle.v8_word.specs.declared.Icc.{Icc}
use Rattle.v8_formats.specs.declared.instr.Branch.{Branch}
use Rattle.v8_meaning.specs.Operands.{annuls, target}
use Rattle.sbx_image.specs.Parts.{Parts}
use Rattle.sbx_flat.specs.Effects.{branched, branches, gets, is_base, jumps, restores, saves, writes}
use Rattle.sbx_flat.specs.Registers.{Fresh, Registers, pushed}
use Rattle.sbx_flat.specs.States.{State, Turn, advanced, reg, transferred, with_reg}
use Rattle.sbx_flat.specs.Turns.{goes_on, turn}
use Rattle.flat_plain.specs.Comes.{Becomes, Comes}
use Rattle.flat_plain.specs.Shows.{Pops, Shows, ShowsFrames}
use Rattle.flat_plain.specs.declared.frames.Frames.{Frames}
use Rattle.flat_plain.specs.declared.machine.Plain.{Plain}
use Rattle.flat_plain.specs.declared.turned.Turned.{Turned}
use Rattle.flat_plain.specs.declared.turned.Turned.TheVariants as turned

-- the branch that a test takes
pub if_true : (b : Bool) (t u : Turn) (new : Plain) (told : Turned) → b ≡ true → Comes t new told → Comes (if b then t else u) new told
if_true true t u new told e h = h
if_true false t u new told e h = absurd (cc)

pub if_false : (b : Bool) (t u : Turn) (new : Plain) (told : Turned) → b ≡ false → Comes u new told → Comes (if b then t else u) new told
if_false true t u new told e h = absurd (cc)
if_false false t u new told e h = h

-- the turn, where it is known
pub as_turn : (t u : Turn) (new : Plain) (told : Turned) → t ≡ u → Comes u new told → Comes t new told
as_turn t u new told e h = subst (λ x. Comes x new told) (sym e) h

pub coded : (m : Plain) (s : State) (i : Icc) (y : ℕ) → Shows m s → Shows (record m { icc = i; y = y }) (record s { icc = i; y = y })
coded m s i y h = record { pc = h.pc; npc = h.npc; annulled = h.annulled; icc = refl; y = refl; frames = h.frames; memory = h.memory; input = h.input; output = h.output; exit = h.exit }

-- ---- parts of the machine changed

pub framed : (m : Plain) (s : State) (f : Frames) (file : Registers) → Shows m s → ShowsFrames f file → Shows (record m { frames = f }) (record s { registers = file })
framed m s f file h shown = record { pc = h.pc; npc = h.npc; annulled = h.annulled; icc = h.icc; y = h.y; frames = shown; memory = h.memory; input = h.input; output = h.output; exit = h.exit }

pub flagged : (m : Plain) (s : State) (a : Bool) → Shows m s → Shows (record m { annulled = a }) (record s { annulled = a })
flagged m s a h = record { pc = h.pc; npc = h.npc; annulled = refl; icc = h.icc; y = h.y; frames = h.frames; memory = h.memory; input = h.input; output = h.output; exit = h.exit }

pub branch_shows : (m new : Plain) (s : State) (b : Branch) (a : Bool) (to : ℕ) → Shows m s → a ≡ annuls b m.icc → to ≡ branched b s →
    Becomes (transferred to) (record m { annulled = a }) new → Shows new (branches b s)
branch_shows m new s b a to h same e go =
    let P : Bool → ℕ → Type 0 = λ a t. Shows new (record (transferred t s) { annulled = a }) in
    let base : P a to = go (record s { annulled = a }) (flagged m s a h) in
    subst (λ t. P (annuls b s.icc) t) e (subst (λ x. P x to) (same ∙ ap (annuls b) (sym h.icc)) base)

pub call_shows : (m new : Plain) (s : State) (d to : ℕ) → Shows m s → to ≡ target m.pc d → Shows new (transferred to (with_reg 15 m.pc s)) →
    Shows new (transferred (target s.pc d) (with_reg 15 s.pc s))
call_shows m new s d to h e shown = subst (λ p. Shows new (transferred (target p d) (with_reg 15 p s))) (sym h.pc) (subst (λ t. Shows new (transferred t (with_reg 15 m.pc s))) e shown)

pub jump_comes : (m new : Plain) (s : State) (rd t to : ℕ) → Shows m s → to ≡ t → to % 4 ≡ 0 → Shows new (transferred to (with_reg rd m.pc s)) → Comes (jumps rd t s) new turned.Went
jump_comes m new s rd t to h e whole shown =
    let test : (to % 4 == 0) ≡ true = grind (arith, nat_tests) in
    subst (λ x. Comes (jumps rd x s) new turned.Went) e
    (if_true (to % 4 == 0) _ _ new turned.Went test (subst (λ p. Shows new (transferred to (with_reg rd p s))) (sym h.pc) shown))

pub get_shows : (m new : Plain) (s : State) (byte r v : ℕ) (rest : List ℕ) → Shows m s → m.input.now ≡ byte ∷ rest → r ≡ 8 → v ≡ byte →
    Shows new (with_reg r v (record s { input = rest })) → Shows new (gets s.input s)
get_shows m new s byte r v rest h e first same shown =
    subst (λ l. Shows new (gets l s)) (sym (h.input ∙ e))
    (subst (λ k. Shows new (with_reg k byte (record s { input = rest }))) first
    (subst (λ w. Shows new (with_reg r w (record s { input = rest }))) same shown))

-- ---- frames

pub base_fits : (parts : Parts) (top b : ℕ) → is_base parts top b ≡ true → (b % 8 ≡ 0) × (b + 64 ≤ top)
base_fits parts top b e = (grind (arith, nat_tests), grind (arith, nat_tests))

pub saves_comes : (parts : Parts) (fresh : Fresh) (new : Plain) (s : State) (rd b base top : ℕ) → rd ≡ 14 → base ≡ b → top ≡ reg s 14 →
    is_base parts top base ≡ true → Shows new (advanced (record s { registers = pushed fresh base s.registers })) →
    Comes (saves parts fresh rd b s) new turned.Went
saves_comes parts fresh new s rd b base top sp e same fits shown =
    let first : (rd == 14) ≡ true = grind (arith, nat_tests) in
    let second : is_base parts (reg s 14) base ≡ true = subst (λ t. is_base parts t base ≡ true) same fits in
    subst (λ x. Comes (saves parts fresh rd x s) new turned.Went) e
    (if_true ((rd == 14) && is_base parts (reg s 14) base) _ _ new turned.Went (ap (λ (x : Bool). x && is_base parts (reg s 14) base) first ∙ second) shown)

pub restore_comes : (o : Option Registers) (old now : Frames) (new : Plain) (told : Turned) (s : State) (rd v : ℕ) → Pops true o old now →
    ((file : Registers) → ShowsFrames now file → Comes (writes rd v (record s { registers = file })) new told) → Comes (restores rd v o s) new told
restore_comes None old now new told s rd v pops go = absurd pops
restore_comes (Some file) old now new told s rd v pops go = go file pops

pub annulled_comes : (parts : Parts) (fresh : Fresh) (m new : Plain) (s : State) → Shows m s → m.exit ≡ None → m.annulled ≡ true →
    Shows new (advanced (record s { annulled = false })) → Comes (turn parts fresh s) new turned.Went
unfolding turn
annulled_comes parts fresh m new s h no_exit annulled shown =
    subst (λ o. Comes (goes_on parts fresh s o s.annulled) new turned.Went) (sym (h.exit ∙ no_exit))
    (subst (λ b. Comes (goes_on parts fresh s None b) new turned.Went) (sym (h.annulled ∙ annulled)) shown)
