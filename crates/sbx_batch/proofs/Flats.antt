-- Two flat runs of a checked image on one input, whatever their open words: they stand at the same place, and their calls at the same bases.
use Rattle.std.proofs.Common.{◌≡◌, ℕ, zero, suc, ◌+◌, ◌<◌, ◌≤◌, inl, inr, Bool, List, [], ◌∷◌, length, Option, Some, None, sym, ap, ◌∙◌, subst, arith}
use Rattle.sbx_image.specs.Parts.{Parts}
use Rattle.sbx_flat.specs.Calls.{base, cell, cell_in, depth}
use Rattle.sbx_flat.specs.Registers.{Frame, Registers, Words, still}
use Rattle.sbx_flat.specs.Runs.{AreBytes, IsStart, budget, place_of, weight_at}
use Rattle.sbx_flat.specs.States.{State, Turn, Fails, Goes}
use Rattle.sbx_flat.specs.Turns.{IsWrong, Step, turn}
use Rattle.sbx_flat.specs.declared.path.Wrong.{Wrong}
use Rattle.sbx_flat.proofs.Law.{Keeps}
use Rattle.sbx_sound.specs.Law.{IsFormed}
use Rattle.sbx_sound.specs.Verdicts.{Checked}
use Rattle.sbx_sound.proofs.Safe.{Pair}
use Rattle.sbx_sound.proofs.Shared.{Lent, Open, Own, ShowsCalls, ShowsFile, Window}
use Rattle.sbx_sound.proofs.Start.{begins, calm_start}
use Rattle.sbx_sound.proofs.Whole.{rules}
use Rattle.sbx_batch.proofs.Places.{kept}

-- ---- bases

abbrev SameBases : List Frame → List Frame → Type 0
SameBases [] [] = Unit {0}
SameBases (f ∷ fs) (g ∷ gs) = (f.outs 14 ≡ g.outs 14) × SameBases fs gs
SameBases _ _ = ⊥

callers_same : (calls : List Open) (fs gs : List Frame) (a b : Words) → ShowsCalls calls fs a → ShowsCalls calls gs b → SameBases fs gs
callers_same [] [] gs a b h k = absurd h
callers_same [] (f ∷ []) [] a b h k = absurd k
callers_same [] (f ∷ []) (g ∷ []) a b h k = (h ∙ sym k, tt)
callers_same [] (f ∷ []) (g ∷ h2 ∷ gs) a b h k = absurd k
callers_same [] (f ∷ e ∷ fs) gs a b h k = absurd h
callers_same (c ∷ cs) [] gs a b h k = absurd h
callers_same (c ∷ cs) (f ∷ fs) [] a b h k = absurd k
callers_same (c ∷ cs) (f ∷ fs) (g ∷ gs) a b h k = (h.0.base ∙ sym k.0.base, callers_same cs fs gs a b h.1 k.1)

files_same : (window : Window) (known : ℕ → Bool) (at : ℕ) (words : Words) (calls : List Open) (a b : Registers) → ShowsFile window known at words calls a →
    ShowsFile window known at words calls b → SameBases (a.newest ∷ a.older) (b.newest ∷ b.older)
files_same (Own n) known at words calls a b h k = (h.base_is ∙ sym k.base_is, callers_same calls a.older b.older a.oldest_ins b.oldest_ins h.calls_are k.calls_are)
files_same Lent known at words calls a b h k = callers_same calls (a.newest ∷ a.older) (b.newest ∷ b.older) a.oldest_ins b.oldest_ins h.calls_are k.calls_are

one_base : (fs gs : List Frame) (a b : Words) (k : ℕ) → SameBases fs gs → k < length fs → cell_in fs a k 6 ≡ cell_in gs b k 6
one_base [] gs a b k same less = absurd (omega arith)
one_base (f ∷ fs) [] a b k same less = absurd same
one_base (f ∷ fs) (g ∷ gs) a b zero same less = same.0
one_base (f ∷ fs) (g ∷ gs) a b (suc k) same less = one_base fs gs a b k same.1 (omega arith)

base_same : (a b : Registers) (k : ℕ) → SameBases (a.newest ∷ a.older) (b.newest ∷ b.older) → k < depth a → base a k ≡ base b k
unfolding cell
base_same a b k same less = one_base (a.newest ∷ a.older) (b.newest ∷ b.older) a.oldest_ins b.oldest_ins k same less

-- ---- side by side

one_next : (t : Turn) (a b : State) → t ≡ Goes a → t ≡ Goes b → a ≡ b
one_next t a b e f = cc

no_failure : (t : Turn) (a : State) (why : Wrong) → t ≡ Goes a → t ≡ Fails why → ⊥
no_failure t a why e f = cc

is_open : (o : Option ℕ) (n : ℕ) → o ≡ Some n → o ≡ None → ⊥
is_open o n e f = cc

-- Two states, with a calm one that both stand beside.
pub record Beside (parts : Parts) (w : ℕ) (s t : State) : Type 0 where
  pub calm : State
  pub first : Pair parts w s calm
  pub second : Pair parts w t calm

module _ (parts : Parts) (formed : IsFormed parts) (checked : Checked parts) where
  all : Keeps parts (Pair parts)
  all = kept parts formed checked

  pub begin_beside : (input : List ℕ) (s t : State) → AreBytes input → IsStart parts input s → IsStart parts input t → Beside parts 0 s t
  begin_beside input s t bytes a b =
      record {
        calm = calm_start parts input;
        first = begins parts input s bytes (rules parts formed checked) a;
        second =
            begins parts input t bytes (rules parts formed checked) b;
      }

  module _ (w : ℕ) (s t : State) (h : Beside parts w s t) where
    pub bound : w ≤ budget parts
    bound = all.bound w s h.calm h.first

    pub same_exit : s.exit ≡ t.exit
    same_exit = all.exits w s h.calm h.first ∙ sym (all.exits w t h.calm h.second)

    pub same_place : s.exit ≡ None → place_of parts s ≡ place_of parts t
    same_place going = (all.moves w s h.calm h.first going).place ∙ sym (all.moves w t h.calm h.second (sym same_exit ∙ going)).place

    pub never_wrong : s.exit ≡ None → IsWrong parts s → ⊥
    never_wrong going (fresh, is_fresh, why, fails) =
        let next = (all.moves w s h.calm h.first going).each fresh is_fresh in
        no_failure (turn parts fresh s) next.0 why next.1 fails

  calm_bases : (w : ℕ) (s calm : State) → Pair parts w s calm → s.exit ≡ None → SameBases (s.registers.newest ∷ s.registers.older) (calm.registers.newest ∷ calm.registers.older)
  calm_bases w s calm (inl p, a, b) going = files_same _ _ p.k.base p.k.words p.k.calls s.registers calm.registers a.file b.file
  calm_bases w s calm (inr e, a, b) going = absurd (is_open s.exit e.status a.status going)

  bases_join : (fs gs hs : List Frame) → SameBases fs hs → SameBases gs hs → SameBases fs gs
  bases_join [] [] hs a b = tt
  bases_join [] (g ∷ gs) [] a b = absurd b
  bases_join [] (g ∷ gs) (h ∷ hs) a b = absurd a
  bases_join (f ∷ fs) [] [] a b = absurd a
  bases_join (f ∷ fs) [] (h ∷ hs) a b = absurd b
  bases_join (f ∷ fs) (g ∷ gs) [] a b = absurd a
  bases_join (f ∷ fs) (g ∷ gs) (h ∷ hs) a b = (a.0 ∙ sym b.0, bases_join fs gs hs a.1 b.1)

  pub same_bases : (w : ℕ) (s t : State) → Beside parts w s t → s.exit ≡ None → (k : ℕ) → k < depth s.registers → base s.registers k ≡ base t.registers k
  same_bases w s t h going k less =
      base_same s.registers t.registers k
      (bases_join (s.registers.newest ∷ s.registers.older) (t.registers.newest ∷ t.registers.older) (h.calm.registers.newest ∷ h.calm.registers.older)
      (calm_bases w s h.calm h.first going) (calm_bases w t h.calm h.second (sym (same_exit w s t h) ∙ going))) less

  -- each steps on, and they stand beside one another again
  pub step_beside : (w : ℕ) (s t a b : State) → Beside parts w s t → s.exit ≡ None → Step parts s a → Step parts t b → Beside parts (w + weight_at parts (place_of parts s)) a b
  step_beside w s t a b h going (f, is_f, to_a) (g, is_g, to_b) =
      let m = all.moves w s h.calm h.first going in
      let q = all.moves w t h.calm h.second (sym (same_exit w s t h) ∙ going) in
      let one = m.each f is_f in
      let two = q.each g is_g in
      let calm_same : q.next_calm ≡ m.next_calm = one_next (turn parts still h.calm) q.next_calm m.next_calm q.calm_goes m.calm_goes in
      let weights : w + weight_at parts (place_of parts t) ≡ w + weight_at parts (place_of parts s) = ap (λ p. w + weight_at parts p) (sym (same_place w s t h going)) in
      let v = w + weight_at parts (place_of parts s) in
      record {
        calm = m.next_calm;
        first = subst (λ z. Pair parts v z m.next_calm) (one_next (turn parts f s) one.0 a one.1 to_a) one.2;
        second = subst (λ z. Pair parts v z m.next_calm) (one_next (turn parts g t) two.0 b two.1 to_b)
            (subst (λ c. Pair parts v two.0 c) calm_same (subst (λ k. Pair parts k two.0 q.next_calm) weights two.2));
      }
