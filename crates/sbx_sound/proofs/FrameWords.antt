-- Loads and stores of frame words.
use Rattle.std.proofs.Common.{◌≡◌, ◌≢◌, ℕ, ◌+◌, ◌*◌, ◌%◌, ◌≤◌, Bool, true, List, [], ◌∷◌, Some, refl, sym, ap, ◌∙◌, subst, arith}
use Rattle.std.specs.Prelude.{◌==◌, ◌&&◌, ◌||◌, not, if◌then◌else◌}
use Rattle.std.proofs.lemmas.Bool.Decides.{nat_tests}
use Rattle.v8_meaning.specs.declared.operation.MemoryOperand.{MemoryOperand}
use Rattle.v8_meaning.specs.declared.operation.Operation.TheVariants.{Transfer}
use Rattle.v8_meaning.specs.Operands.{following}
use Rattle.sbx_image.specs.Parts.{Parts}
use Rattle.sbx_flat.specs.Effects.{address_in, aligned, does, transfers, transfers_in}
use Rattle.sbx_flat.specs.Registers.{Frame, Words, ins_of, with_slot}
use Rattle.sbx_flat.specs.Runs.{reached_by}
use Rattle.sbx_flat.specs.declared.path.Wrong.TheVariants.{Misaligned}
use Rattle.sbx_flat.specs.States.{State, Turn, Goes, Fails, advanced, reg}
use Rattle.sbx_rules.specs.Fits.{Fits}
use Rattle.sbx_rules.specs.Rules.{is_defined}
use Rattle.sbx_image.specs.Order.{function_at}
use Rattle.sbx_sound.proofs.Running.{tests, window_of}
use Rattle.sbx_sound.proofs.Shared.{KnownParts, Open, Own, Shared, Shows, ShowsCalls, base_below, slot_word, with_location}
use Rattle.sbx_rules.specs.Transfer.{transferred}
use Rattle.sbx_sound.proofs.Effects.{IsFewer, Reaches, load_reaches, moved_on, reaches_by, with_word_known}
use Rattle.sbx_sound.proofs.Frames.{IsFree, slot_shows}
use Rattle.sbx_sound.proofs.Safe.{ShowsSpot, Spot}
use Rattle.sbx_sound.proofs.Steps.{Does, linked_at, op_of}
use Rattle.v8_meaning.specs.declared.operation.Loading.TheVariants as loadings
use Rattle.v8_word.specs.declared.Size.TheVariants as sizes
use Rattle.v8_meaning.specs.declared.operation.Transfer.TheVariants as transfer

-- %fp is the base of the frame below
fp_of : (calls : List Open) (older : List Frame) (oldest : Words) → ShowsCalls calls older oldest → ins_of older oldest 30 ≡ base_below calls
fp_of [] [] oldest h = absurd h
fp_of (c ∷ cs) [] oldest h = absurd h
fp_of [] (f ∷ []) oldest h = h
fp_of [] (f ∷ g ∷ fs) oldest h = absurd h
fp_of (c ∷ cs) (f ∷ fs) oldest h = h.0.base

pub read_fp : (size : ℕ) (known : KnownParts) (k : Shared) (s : State) → Shows (Own size) known k s → reg s 30 ≡ base_below k.calls
unfolding reg
read_fp size known k s h = fp_of k.calls s.registers.older s.registers.oldest_ins h.file.calls_are

on_four : (base j : ℕ) → base % 8 ≡ 0 → (t : Turn) → aligned 4 (base + 64 + 4 * j) t ≡ t
on_four base j e t = let f : (base + 64 + 4 * j) % 4 == 0 ≡ true = grind (arith, nat_tests) in ap (λ (b : Bool). if b then t else Fails Misaligned) f

-- ST of a frame word: the slot takes the word
pub store_reaches : (parts : Parts) (size : ℕ) (known now : KnownParts) (j v : ℕ) (k : Shared) (s : State) → 4 * j + 68 ≤ size → k.base % 8 ≡ 0 →
    IsFewer known now (32 + j) → Shows (Own size) known k s
    → (m : MemoryOperand) → reg s m.rd ≡ v → Reaches (transfers parts (transfer.Store sizes.Word) m (k.base + 64 + 4 * j) s) (Shows (Own size) now (moved_on (with_word_known (32 + j) v k)))
store_reaches parts size known now j v k s within eight fewer shows m value =
    let a = k.base + 64 + 4 * j in
    let rest = shows.rest in
    let there : s.registers.newest.slots a ≡ Some (slot_word k.base s.registers.newest j) = shows.file.slots j within in
    record {
      next = advanced (record s { registers = with_slot a v s.registers });
      goes = on_four k.base j eight _ ∙ ap (λ x. transfers_in parts (transfer.Store sizes.Word) m.rd a x s) there
          ∙ ap (λ x. Goes (advanced (record s { registers = with_slot a x s.registers }))) value;
      is = record {
        rest = record { pc = rest.npc; npc = ap following rest.npc; annulled = rest.annulled; memory = rest.memory; input = rest.input; output = rest.output; exit = rest.exit };
        file = slot_shows size known.location now.location k.base j v k.words k.calls s.registers within fewer.none fewer.location shows.file;
        codes = λ h. shows.codes (fewer.codes h);
        y = λ h. shows.y (fewer.y h);
      };
    }

module _ (parts : Parts) (w : ℕ) (p : Spot parts w) where
  abbrev frame : ℕ
  frame = (function_at parts p.f).frame

  -- What the rules say of an LD or ST of frame word j.
  pub record NamesWord (m : MemoryOperand) (j : ℕ) : Type 0 where
    pub own : window_of (function_at parts p.f) p.b p.i ≡ Own frame
    pub within : 4 * j + 68 ≤ frame
    pub address : (s : State) → ShowsSpot parts w p s → address_in s m ≡ p.k.base + 64 + 4 * j

  pub stores_word : (m : MemoryOperand) (j v : ℕ) → op_of parts w p ≡ Transfer (transfer.Store sizes.Word) m → NamesWord m j → ((s : State) → ShowsSpot parts w p s → reg s m.rd ≡ v)
      → (let after = transferred frame (Transfer (transfer.Store sizes.Word) m) p.v.known in
      Fits p.start after (with_location (32 + j) v p.k.words) p.k.icc p.k.y → IsFewer (tests parts p.v.known (linked_at parts w p)) (tests parts after (linked_at parts w p)) (32 + j) → Does parts w p)
  stores_word m j v is names value fits fewer =
      let linked = linked_at parts w p in
      record {
        left = record { words = with_location (32 + j) v p.k.words; icc = p.k.icc; y = p.k.y; memory = p.k.memory; input = p.k.input; output = p.k.output };
        fits = subst (λ o. Fits p.start (transferred frame o p.v.known) (with_location (32 + j) v p.k.words) p.k.icc p.k.y) (sym is) fits;
        link = no_link j v p.k.words;
        stored = p.at.stored;
        reached = Some (p.k.base + 64 + 4 * j);
        reaches = λ s h. ap (λ o. reached_by o s) is ∙ ap Some (names.address s h);
        goes = λ fresh s h.
            (let mine = subst (λ x. Shows x (tests parts p.v.known linked) p.k s) names.own h in
            let made = store_reaches parts frame (tests parts p.v.known linked)
            (tests parts (transferred frame (Transfer (transfer.Store sizes.Word) m) p.v.known) linked) j v p.k s names.within p.at.eight fewer mine m
            (value s h) in
            let turn : does parts fresh (op_of parts w p) s ≡ transfers parts (transfer.Store sizes.Word) m (p.k.base + 64 + 4 * j) s =
            ap (λ o. does parts fresh o s) is ∙ ap (λ a. transfers parts (transfer.Store sizes.Word) m a s) (names.address s h) in
            let there = subst
            (λ x. Reaches (does parts fresh (op_of parts w p) s)
            (Shows x (tests parts (transferred frame (Transfer (transfer.Store sizes.Word) m) p.v.known) linked)
            (moved_on (with_word_known (32 + j) v p.k)))) (sym names.own) (reaches_by _ _ _ turn made) in
            subst (λ o. Reaches (does parts fresh (op_of parts w p) s)
            (Shows (window_of (function_at parts p.f) p.b p.i) (tests parts (transferred frame o p.v.known) linked)
            (moved_on (with_word_known (32 + j) v p.k)))) (sym is) there);
      }
    where
      no_link : (j v : ℕ) (words : Words) → with_location (32 + j) v words 15 ≡ words 15
      no_link j v words = grind (arith, nat_tests)

  pub loads_word : (m : MemoryOperand) (j : ℕ) → op_of parts w p ≡ Transfer (transfer.Load loadings.Word) m → NamesWord m j → is_defined p.v.known (32 + j) ≡ true → IsFree (Own frame) m.rd → 15 ≢ m.rd
      → (let after = transferred frame (Transfer (transfer.Load loadings.Word) m) p.v.known in
      Fits p.start after (with_location m.rd (p.k.words (32 + j)) p.k.words) p.k.icc p.k.y →
      IsFewer (tests parts p.v.known (linked_at parts w p)) (tests parts after (linked_at parts w p)) m.rd → Does parts w p)
  loads_word m j is names defined free apart fits fewer =
      let linked = linked_at parts w p in
      let v = p.k.words (32 + j) in
      record {
        left = record { words = with_location m.rd v p.k.words; icc = p.k.icc; y = p.k.y; memory = p.k.memory; input = p.k.input; output = p.k.output };
        fits = subst (λ o. Fits p.start (transferred frame o p.v.known) (with_location m.rd v p.k.words) p.k.icc p.k.y) (sym is) fits;
        link = no_link m.rd v p.k.words apart;
        stored = p.at.stored;
        reached = Some (p.k.base + 64 + 4 * j);
        reaches = λ s h. ap (λ o. reached_by o s) is ∙ ap Some (names.address s h);
        goes = λ fresh s h.
            (let mine = subst (λ x. Shows x (tests parts p.v.known linked) p.k s) names.own h in
            let made = load_reaches parts frame (tests parts p.v.known linked)
            (tests parts (transferred frame (Transfer (transfer.Load loadings.Word) m) p.v.known) linked) j m.rd p.k s names.within p.at.eight
            (slot_test j (is_defined p.v.known (32 + j)) linked defined) free fewer mine m refl in
            let turn : does parts fresh (op_of parts w p) s ≡ transfers parts (transfer.Load loadings.Word) m (p.k.base + 64 + 4 * j) s =
            ap (λ o. does parts fresh o s) is ∙ ap (λ a. transfers parts (transfer.Load loadings.Word) m a s) (names.address s h) in
            let there = subst
            (λ x. Reaches (does parts fresh (op_of parts w p) s)
            (Shows x (tests parts (transferred frame (Transfer (transfer.Load loadings.Word) m) p.v.known) linked) (moved_on (with_word_known m.rd v p.k))))
            (sym names.own) (reaches_by _ _ _ turn made) in
            subst (λ o. Reaches (does parts fresh (op_of parts w p) s)
            (Shows (window_of (function_at parts p.f) p.b p.i) (tests parts (transferred frame o p.v.known) linked)
            (moved_on (with_word_known m.rd v p.k)))) (sym is) there);
      }
    where
      no_link : (n v : ℕ) (words : Words) → 15 ≢ n → with_location n v words 15 ≡ words 15
      no_link n v words apart = grind (arith, nat_tests)

      slot_test : (j : ℕ) (x linked : Bool) → x ≡ true → (not (32 + j == 0) && (x || ((32 + j == 15) && linked))) ≡ true
      slot_test j x linked h = grind (arith, nat_tests)
