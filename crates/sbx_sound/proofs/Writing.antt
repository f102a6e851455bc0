-- A word that writes one register, and perhaps the codes, Y or the data: what it does, from its turn in each state.
use Rattle.std.proofs.Common.{◌≡◌, ◌≢◌, ℕ, true, Option, refl, sym, ap, ◌∙◌, subst}
use Rattle.v8_word.specs.declared.Icc.{Icc}
use Rattle.v8_meaning.specs.declared.operation.Operation.{Operation}
use Rattle.sbx_image.specs.Parts.{Parts}
use Rattle.sbx_image.specs.Range.{Range}
use Rattle.sbx_flat.specs.Effects.{does, writes}
use Rattle.sbx_flat.specs.Memory.{Bytes}
use Rattle.sbx_flat.specs.Registers.{Fresh}
use Rattle.sbx_flat.specs.Runs.{reached_by}
use Rattle.sbx_flat.specs.States.{State}
use Rattle.sbx_rules.specs.Entry.{Entry}
use Rattle.sbx_rules.specs.Fits.{Fits}
use Rattle.sbx_rules.specs.Known.{Known, with_entry}
use Rattle.sbx_rules.specs.Transfer.{transferred}
use Rattle.sbx_image.specs.Order.{function_at}
use Rattle.sbx_rules.specs.Rules.{is_defined, is_some}
use Rattle.sbx_sound.proofs.Running.{tests, window_of}
use Rattle.sbx_sound.proofs.Shared.{AreStored, KnownParts, Shared, Shows, Window, with_location}
use Rattle.sbx_sound.proofs.Effects.{IsFewer, Reaches, moved_on, reaches_by, with_word_known, writes_reach}
use Rattle.sbx_sound.proofs.Frames.{IsFree}
use Rattle.sbx_sound.proofs.Safe.{ShowsSpot, Spot}
use Rattle.sbx_sound.proofs.Steps.{Does, linked_at, op_of}
use Rattle.sbx_sound.proofs.Written.{entry_codes, entry_y, more_tests, other_defined, other_word}

module _ (parts : Parts) (w : ℕ) (p : Spot parts w) where
  abbrev window : Window
  window = window_of (function_at parts p.f) p.b p.i

  abbrev d : Known
  d = p.v.known

  abbrev pub then_knows : Operation → Known
  then_knows o = transferred (function_at parts p.f).frame o d

  abbrev before : KnownParts
  before = tests parts d (linked_at parts w p)

  abbrev after : Operation → KnownParts
  after o = tests parts (then_knows o) (linked_at parts w p)

  -- What is left for all states: this word in this register, these codes, this Y, these bytes.
  pub record Leaves (o : Operation) (rd v : ℕ) (icc : Icc) (y : ℕ) (memory : Bytes) : Type 0 where
    pub is : op_of parts w p ≡ o
    pub free : IsFree window rd
    pub apart : 15 ≢ rd
    pub fits : Fits p.start (then_knows o) (with_location rd v p.k.words) icc y
    pub stored : AreStored parts.regions memory p.k.input
    pub defined : (l : ℕ) → l ≢ rd → is_defined (then_knows o) l ≡ is_defined d l
    pub reached : Option ℕ
    pub reaches : (s : State) → ShowsSpot parts w p s → reached_by o s ≡ reached
    -- in a state: its codes, Y and bytes then, as far as they are known, and its turn
    pub icc_in : State → Icc
    pub y_in : State → ℕ
    pub memory_in : State → Bytes
    pub codes : (s : State) → ShowsSpot parts w p s → (then_knows o).icc ≡ true → icc_in s ≡ icc
    pub same_y : (s : State) → ShowsSpot parts w p s → is_some (then_knows o).y ≡ true → y_in s ≡ y
    pub same_bytes : (s : State) → ShowsSpot parts w p s → (a : ℕ) → memory_in s a ≡ memory a
    pub turn : (fresh : Fresh) (s : State) → ShowsSpot parts w p s → does parts fresh o s ≡ writes rd v (record s { icc = icc_in s; y = y_in s; memory = memory_in s })

  pub writes_one : (o : Operation) (rd v : ℕ) (icc : Icc) (y : ℕ) (memory : Bytes) → Leaves o rd v icc y memory → Does parts w p
  writes_one o rd v icc y memory leaves =
      let set : Shared = record p.k { icc = icc; y = y; memory = memory } in
      let mid : KnownParts = record { location = before.location; codes = (then_knows o).icc; y = is_some (then_knows o).y } in
      let fewer : IsFewer mid (after o) rd = record {
        none = refl;
        location = λ l r apart. more_tests l (is_defined (then_knows o) l) (is_defined d l) (linked_at parts w p) (leaves.defined l apart) r;
        codes = λ r. r;
        y = λ r. r;
      } in
      record {
        left = record { words = with_location rd v p.k.words; icc = icc; y = y; memory = memory; input = p.k.input; output = p.k.output };
        fits = subst (λ o. Fits p.start (then_knows o) (with_location rd v p.k.words) icc y) (sym leaves.is) leaves.fits;
        link = other_word rd v p.k.words leaves.apart;
        stored = leaves.stored;
        reached = leaves.reached;
        reaches = λ s h. ap (λ o. reached_by o s) leaves.is ∙ leaves.reaches s h;
        goes = λ fresh s h.
            (let rest = h.rest in
            let now : State = record s { icc = leaves.icc_in s; y = leaves.y_in s; memory = leaves.memory_in s } in
            let shown : Shows window mid set now = record {
              rest = record { pc = rest.pc; npc = rest.npc; annulled = rest.annulled; memory = leaves.same_bytes s h; input = rest.input; output = rest.output; exit = rest.exit };
              file = h.file;
              codes = leaves.codes s h;
              y = leaves.same_y s h;
            } in
            subst (λ o. Reaches (does parts fresh (op_of parts w p) s) (Shows window (after o) (moved_on (with_word_known rd v set)))) (sym leaves.is)
            (reaches_by _ _ _ (ap (λ o. does parts fresh o s) leaves.is ∙ leaves.turn fresh s h) (writes_reach window mid (after o) rd v set now leaves.free fewer shown)));
      }

  -- ---- what is known then, where only the register's entry changes

  module _ (o : Operation) (rd : ℕ) (e : Option Entry) (same : then_knows o ≡ with_entry rd e d) where
    pub entry_defined : (l : ℕ) → l ≢ rd → is_defined (then_knows o) l ≡ is_defined d l
    entry_defined l apart = ap (λ k. is_defined k l) same ∙ other_defined l rd e d apart

    pub keeps_codes : (s : State) → ShowsSpot parts w p s → (then_knows o).icc ≡ true → s.icc ≡ p.k.icc
    keeps_codes s h r = h.codes (sym (ap (λ (k : Known). k.icc) same ∙ entry_codes rd e d) ∙ r)

    pub keeps_y : (s : State) → ShowsSpot parts w p s → is_some (then_knows o).y ≡ true → s.y ≡ p.k.y
    keeps_y s h r = h.y (sym (ap (λ (k : Known). is_some k.y) same ∙ ap (λ (x : Option Range). is_some x) (entry_y rd e d)) ∙ r)

    pub is_fewer : IsFewer before (after o) rd
    is_fewer = record {
      none = refl;
      location = λ l r apart. more_tests l (is_defined (then_knows o) l) (is_defined d l) (linked_at parts w p) (entry_defined l apart) r;
      codes = λ r. sym (ap (λ (k : Known). k.icc) same ∙ entry_codes rd e d) ∙ r;
      y = λ r. sym (ap (λ (k : Known). is_some k.y) same ∙ ap (λ (x : Option Range). is_some x) (entry_y rd e d)) ∙ r;
    }

  -- where nothing changes
  pub unchanged_is_fewer : (o : Operation) → then_knows o ≡ d → IsFewer before (after o) 0
  unchanged_is_fewer o same = subst (λ k. IsFewer before (tests parts k (linked_at parts w p)) 0) (sym same) (record { none = refl; location = λ l r apart. r; codes = λ r. r; y = λ r. r })
