-- What each word does that neither transfers control, nor changes frames, nor ends the run, by the rules.
use Rattle.std.proofs.Common.{◌≡◌, ℕ, ◌<◌, ◌≤◌, ℤ, Bool, true, false, length, Option, Some, None, refl, arith}
use Rattle.std.specs.Prelude.{◌==◌, ◌&&◌, not, if◌then◌else◌}
use Rattle.std.proofs.lemmas.Bool.Decides.{nat_tests}
use Rattle.v8_word.specs.declared.Size.TheVariants as sizes
use Rattle.v8_meaning.specs.Admitted.{is_admitted}
use Rattle.v8_meaning.specs.declared.operation.Loading.TheVariants as loadings
use Rattle.v8_meaning.specs.declared.operation.MemoryOperand.{MemoryOperand}
use Rattle.v8_meaning.specs.declared.operation.Operation.{Operation}
use Rattle.v8_meaning.specs.declared.operation.Operation.TheVariants.{Compute, Divide, TaggedTrap, SetHigh, ReadY, WriteY, Transfer, Save, Restore, Call}
use Rattle.v8_meaning.specs.declared.operation.Operation.TheVariants.{BranchOnCondition, JumpAndLink, TrapOnCondition}
use Rattle.v8_meaning.specs.declared.operation.Transfer.{Transfer as Moving}
use Rattle.v8_meaning.specs.declared.operation.Transfer.TheVariants.{Load, Store, Exchange}
use Rattle.sbx_image.specs.Function.{Function}
use Rattle.sbx_image.specs.Parts.{Parts}
use Rattle.sbx_image.specs.Regions.{page_rights}
use Rattle.sbx_rules.specs.Known.{Known}
use Rattle.sbx_rules.specs.Transfer.{offset_from_sp}
use Rattle.sbx_rules.specs.Operations.{access_of, frame_offset, is_framed, is_restore, is_save, is_transfer, moves_word}
use Rattle.sbx_image.specs.Order.{function_at}
use Rattle.sbx_rules.specs.Places.{ends_run, op_at, service_asked, word_of_place}
use Rattle.sbx_rules.specs.Rules.{is_aligned_access, is_declared, is_entry, is_frame_size, is_placed_access, is_save_of, may_divide_by_zero, may_overflow, reads_undefined, touches_reserved}
use Rattle.sbx_rules.specs.Verdicts.{Checked}
use Rattle.sbx_sound.proofs.LowFields.{LowFields, low_fields}
use Rattle.sbx_sound.proofs.Order.{IsOrdered}
use Rattle.sbx_sound.proofs.Running.{bytes_of, window_of}
use Rattle.sbx_sound.proofs.Shared.{Lent}
use Rattle.sbx_sound.proofs.Asked.{admitted, asks_declared, divides_well, enters, fits_tagged, keeps_reserved, reaches_aligned, reaches_placed, reads_known}
use Rattle.sbx_sound.proofs.DataSteps.{accesses, exchanges_data, loads, stores}
use Rattle.sbx_sound.proofs.FrameSteps.{HasFrame, loads_frame_word, stores_frame_word}
use Rattle.sbx_sound.proofs.Goes.{begin_place}
use Rattle.sbx_sound.proofs.Moves.{divides, reads_the_y, sets_high, tags, writes_the_y}
use Rattle.sbx_sound.proofs.Read.{computes_checked}
use Rattle.sbx_sound.proofs.Safe.{Spot}
use Rattle.sbx_sound.proofs.Served.{serves}
use Rattle.sbx_sound.proofs.Steps.{Does, op_of}
use Rattle.sbx_sound.proofs.Straight.{inside, lent_leaf, own_inside}
use Rattle.sbx_sound.proofs.Wells.{enters_framed}
use Rattle.sbx_sound.proofs.Tests.{and_right}

-- ---- which words these are

-- the operations that change registers, codes, Y and data alone, and the services
abbrev pub is_effect : Operation → Bool
is_effect (Compute op f) = true
is_effect (Divide op f) = true
is_effect (TaggedTrap op f) = true
is_effect (SetHigh f) = true
is_effect (ReadY rd) = true
is_effect (WriteY f) = true
is_effect (Transfer t m) = true
is_effect (TrapOnCondition t) = true
is_effect _ = false

pub admitted_effect : (o : Operation) → is_admitted o ≡ true → is_transfer o ≡ false → is_save o ≡ false → is_restore o ≡ false → is_effect o ≡ true
unfolding is_admitted
admitted_effect (Compute op f) a t s r = refl
admitted_effect (Divide op f) a t s r = refl
admitted_effect (TaggedTrap op f) a t s r = refl
admitted_effect (SetHigh f) a t s r = refl
admitted_effect (ReadY rd) a t s r = refl
admitted_effect (WriteY f) a t s r = refl
admitted_effect (Transfer x m) a t s r = refl
admitted_effect (TrapOnCondition x) a t s r = refl
admitted_effect (Save f) a t s r = absurd (cc)
admitted_effect (Restore f) a t s r = absurd (cc)
admitted_effect (Call d) a t s r = absurd (cc)
admitted_effect (BranchOnCondition b) a t s r = absurd (cc)
admitted_effect (JumpAndLink f) a t s r = absurd (cc)
admitted_effect _ a t s r = absurd (cc)

-- ---- by operation

-- an offset is that of an LD or ST in a function with a frame
frame_form : (a b : Bool) (x : Option ℤ) (z : ℤ) → (if a && b then x else None) ≡ Some z → (a ≡ true) × (b ≡ true) × (x ≡ Some z)
frame_form true true x z h = (refl, refl, h)
frame_form true false x z h = absurd (cc)
frame_form false b x z h = absurd (cc)

module _ (parts : Parts) (w : ℕ) (p : Spot parts w) where
  abbrev function : Function
  function = function_at parts p.f

  abbrev d : Known
  d = p.v.known

  -- What the rules say of a word that runs.
  pub record Obeys (o : Operation) : Type 0 where
    pub is : op_of parts w p ≡ o
    pub effect : is_effect o ≡ true
    pub runs_on : ends_run o ≡ false
    pub admitted : is_admitted o ≡ true
    pub low : LowFields o
    pub known : reads_undefined function o d ≡ false
    pub kept : touches_reserved function o ≡ false
    pub aligned : is_aligned_access (access_of function o d) ≡ true
    pub placed : is_placed_access parts function.frame (access_of function o d) ≡ true
    pub no_zero : may_divide_by_zero o d ≡ false
    pub no_overflow : may_overflow o d ≡ false
    pub declared : is_declared parts.services (service_asked o) ≡ true
    pub lent : window_of function p.b p.i ≡ Lent → is_framed function.kind ≡ false
    pub has_frame : is_framed function.kind ≡ true → HasFrame parts w p lent

  moves : length (page_rights parts.regions) ≤ 64 → (t : Moving) (m : MemoryOperand) → Obeys (Transfer t m) → Does parts w p
  moves small t m r = by_offset (frame_offset function t m) refl
    where
      by_frame : (z : ℤ) → (t : Moving) → Obeys (Transfer t m) → frame_offset function t m ≡ Some z → is_framed function.kind ≡ true → moves_word t ≡ true →
          offset_from_sp function.frame m.rs1 m.operand2 ≡ Some z → Does parts w p
      by_frame z (Load loadings.Word) r e framed word is =
          loads_frame_word parts w p r.lent m
          (record {
            is = r.is;
            has = r.has_frame framed;
            low = r.low;
            offset = z;
            by_offset = e;
            offset_is = is;
            known = r.known;
            kept = r.kept;
            aligned =
                r.aligned;
            placed = r.placed;
          })
      by_frame z (Store sizes.Word) r e framed word is =
          stores_frame_word parts w p r.lent m
          (record {
            is = r.is;
            has = r.has_frame framed;
            low = r.low;
            offset = z;
            by_offset = e;
            offset_is = is;
            known = r.known;
            kept = r.kept;
            aligned =
                r.aligned;
            placed = r.placed;
          })
      by_frame z _ r e framed word is = absurd (cc)

      in_data : (t : Moving) → Obeys (Transfer t m) → frame_offset function t m ≡ None → Does parts w p
      in_data (Load l) r e = loads parts w p r.lent small l m (accesses parts w p r.lent small (Load l) m r.is r.low e r.known r.kept r.aligned r.placed)
      in_data (Store f) r e = stores parts w p r.lent small f m (accesses parts w p r.lent small (Store f) m r.is r.low e r.known r.kept r.aligned r.placed)
      in_data (Exchange x) r e = exchanges_data parts w p r.lent small x m (accesses parts w p r.lent small (Exchange x) m r.is r.low e r.known r.kept r.aligned r.placed)

      by_offset : (o : Option ℤ) → frame_offset function t m ≡ o → Does parts w p
      by_offset None e = in_data t r e
      by_offset (Some z) e = (let form = frame_form (is_framed function.kind) (moves_word t) (offset_from_sp function.frame m.rs1 m.operand2) z e in by_frame z t r e form.0 form.1 form.2)

  pub does_it : length (page_rights parts.regions) ≤ 64 → (o : Operation) → Obeys o → Does parts w p
  does_it small (Compute op t) r = computes_checked parts w p op t r.is r.low r.known r.kept r.lent
  does_it small (Divide op t) r = divides parts w p r.lent op t r.is r.low r.known r.kept r.no_zero
  does_it small (TaggedTrap op t) r = tags parts w p r.lent op t r.is r.low r.known r.kept r.no_overflow
  does_it small (SetHigh f) r = sets_high parts w p r.lent f r.is r.low r.known r.kept
  does_it small (ReadY rd) r = reads_the_y parts w p r.lent rd r.is r.low r.known r.kept
  does_it small (WriteY f) r = writes_the_y parts w p r.lent f r.is r.low.rs1_low r.low.operand_low r.known r.kept
  does_it small (Transfer t m) r = moves small t m r
  does_it small (TrapOnCondition t) r = serves parts w p r.lent t r.is r.admitted r.declared r.runs_on r.known r.kept
  does_it small _ r = absurd (let e = r.effect in cc)

-- ---- from the rules

bytes_inside : (function : Function) (b i : ℕ) → (is_framed function.kind && is_entry b i) ≡ false → is_framed function.kind ≡ true → bytes_of function b i ≡ function.frame
bytes_inside function b i h = by_kind (is_framed function.kind) ((b == 0) && (i == 0)) h
  where
    by_kind : (t e : Bool) → (t && e) ≡ false → t ≡ true → (if t && not e then function.frame else 0) ≡ function.frame
    by_kind false e h l = absurd (cc)
    by_kind true true h l = absurd (cc)
    by_kind true false h l = refl

frame_small : (frame : ℕ) → is_frame_size frame ≡ true → frame ≤ 4096
frame_small frame h = grind (arith, nat_tests)

module _ (parts : Parts) (checked : Checked parts) (ordered : IsOrdered parts) (pages : parts.stack_pages ≤ 16) where
  small_frame : (f : ℕ) → f < length parts.functions → is_framed (function_at parts f).kind ≡ true → (function_at parts f).frame ≤ 4096
  small_frame f in_f framed =
      let function = function_at parts f in
      let entry = begin_place parts checked ordered f 0 in_f (ordered.entries f in_f).0 in
      let shape = enters_framed function (op_at parts f 0 0) framed (enters parts checked f 0 0 entry refl) in
      frame_small function.frame (and_right (is_save_of function.frame (op_at parts f 0 0)) (is_frame_size function.frame) shape)

  pub obeys : (w : ℕ) (p : Spot parts w) → p.v.annulled ≡ false → is_transfer (op_of parts w p) ≡ false → is_save (op_of parts w p) ≡ false →
      is_restore (op_of parts w p) ≡ false → ends_run (op_of parts w p) ≡ false → Obeys parts w p (op_of parts w p)
  obeys w p runs no_transfer no_save no_restore runs_on =
      let f = p.f in let b = p.b in let i = p.i in let v = p.v in
      let place = p.at.place in
      let visit = p.at.is_visit in
      let within = inside parts checked ordered pages f b i place no_save in
      let may = admitted parts checked f b i place in
      record {
        is = refl;
        effect = admitted_effect (op_at parts f b i) may no_transfer no_save no_restore;
        runs_on = runs_on;
        admitted = may;
        low = low_fields (word_of_place parts f b i);
        known = reads_known parts checked f b i place v visit runs;
        kept = keeps_reserved parts checked f b i place v visit runs;
        aligned = reaches_aligned parts checked f b i place v visit runs;
        placed = reaches_placed parts checked f b i place v visit runs;
        no_zero = divides_well parts checked f b i place v visit runs;
        no_overflow = fits_tagged parts checked f b i place v visit runs;
        declared = asks_declared parts checked f b i place;
        lent = lent_leaf (function_at parts f) b i within;
        has_frame = λ framed. record {
          framed = framed;
          own = own_inside (function_at parts f) b i within framed;
          bytes =
              bytes_inside (function_at parts f) b i within framed;
          small = small_frame f place.function framed;
        };
      }

  -- a word that neither transfers control, nor changes frames, nor ends the run, wherever it runs
  pub does_at : length (page_rights parts.regions) ≤ 64 → (w : ℕ) (p : Spot parts w) → p.v.annulled ≡ false → is_transfer (op_of parts w p) ≡ false →
      is_save (op_of parts w p) ≡ false → is_restore (op_of parts w p) ≡ false → ends_run (op_of parts w p) ≡ false → Does parts w p
  does_at small w p runs no_transfer no_save no_restore runs_on = does_it parts w p small (op_of parts w p) (obeys w p runs no_transfer no_save no_restore runs_on)
