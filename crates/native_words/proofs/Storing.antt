-- Stores: a number that goes out, to the data or to a slot, and two words.
use Rattle.std.proofs.Common.{◌≡◌, ℕ, ◌+◌, ◌-◌, ◌*◌, ◌^◌, ◌<◌, ◌≤◌}
use Rattle.std.proofs.Common.{List, [], ◌∷◌, ◌++◌, Option, Some, None, slice_index, refl, sym, ap, ◌∙◌, subst, arith}
use Rattle.v8_word.specs.declared.Size.{Size}
use Rattle.v8_word.specs.declared.Size.TheVariants as sizes
use Rattle.v8_meaning.specs.declared.operation.Transfer.TheVariants as transfer
use Rattle.v8_meaning.specs.Transfers.{bytes_in, odd_of, stored as word_stored}
use Rattle.sbx_image.specs.Parts.{Parts}
use Rattle.sbx_flat.specs.Calls.{slot}
use Rattle.sbx_flat.specs.Effects.{found, slot_of, transfers_data, transfers_in}
use Rattle.sbx_flat.specs.Memory.{with_number}
use Rattle.sbx_flat.specs.Registers.{with_slot}
use Rattle.sbx_flat.specs.States.{State, Goes, advanced, reg}
use Rattle.sbx_flat.specs.WellFormed.{IsWellFormed}
use Rattle.sbx_flat.proofs.Kept.{word_small}
use Rattle.native_lang.specs.declared.expr.Expr.{Expr}
use Rattle.native_lang.specs.declared.expr.Expr.TheVariants.{Variable}
use Rattle.native_lang.specs.declared.operator.Operator.TheVariants as operators
use Rattle.native_lang.specs.declared.stmt.NumberWidth.{NumberWidth}
use Rattle.native_lang.specs.declared.stmt.NumberWidth.TheVariants as widths
use Rattle.native_lang.specs.declared.stmt.Stmt.{Stmt}
use Rattle.native_lang.specs.declared.stmt.Stmt.TheVariants.{Set, Store}
use Rattle.native_lang.specs.Memory.{bytes_of_width, put_in, stored}
use Rattle.native_lang.specs.Values.{applied, value}
use Rattle.native_lang.specs.World.{World, does, sets, stores}
use Rattle.native_results.specs.DoesAll.{does_all, then_on}
use Rattle.native_results.specs.ShowsState.{ShowsState}
use Rattle.native_words.specs.Accesses.{AddsAccess, GoesTo, HasWidth}
use Rattle.native_words.proofs.Doubles.{written_halves}
use Rattle.native_words.proofs.Loading.{in_order, set_kept, set_there, taken}
use Rattle.native_words.proofs.Numbers.{low_byte, low_half}
use Rattle.native_words.proofs.Reading.{found_read, slot_read}
use Rattle.native_words.proofs.Shown.{moved_shows, scratch_shows}
use Rattle.native_words.proofs.Writing.{data_shows, slot_shows, stored_number}

-- ---- the word of a register

pub word_of : (parts : Parts) (w : World) (s : State) (rd : ℕ) → rd < 32 → ShowsState parts w s → slice_index w.variables rd ≡ reg s rd
unfolding reg
word_of parts w s rd low h = sym (h.registers rd low)

pub word_below : (pages : ℕ) (s : State) (rd : ℕ) → IsWellFormed pages s → reg s rd < 2 ^ 32
unfolding reg
word_below pages s rd well = word_small s.registers rd well.calls.words

-- ---- the number that goes out

abbrev pub block_with : ℕ → ℕ → ℕ → World → World
block_with a count number w = record w { block = put_in w.block (a - 0x80000) count number count }

-- a statement that stores, where there is room
pub does_store : (windows : ℕ) (w : World) (width : NumberWidth) (at e : Expr) (a count number : ℕ) → value w.variables at ≡ a → value w.variables e ≡ number →
    bytes_of_width width ≡ count → 0x80000 ≤ a → a + count ≤ 0x100000 → does windows (Store width at e) w ≡ Some (block_with a count number w)
does_store windows w width at e a count number place is size from to =
    ap (λ p. stores (stored w.block p (bytes_of_width width) (value w.variables e)) w) place ∙ ap (λ k. stores (stored w.block a k (value w.variables e)) w) size
    ∙ ap (λ n. stores (stored w.block a count n) w) is ∙ ap (λ o. stores o w) (stored_number w.block a count number from to)

-- What a store to the data comes to.
pub record IsLeft (size : Size) (rd a : ℕ) (s next : State) : Type 0 where
  pub from : 0x80000 ≤ a
  pub to : a + bytes_in size ≤ 0xF0000
  pub goes : advanced (record s { memory = with_number s.memory a (bytes_in size) (word_stored (reg s) size rd) }) ≡ next

some_bytes : (size : Size) → 1 ≤ bytes_in size
some_bytes sizes.Byte = omega arith
some_bytes sizes.Half = omega arith
some_bytes sizes.Word = omega arith
some_bytes sizes.Double = omega arith

data_left : (parts : Parts) (w : World) (s next : State) (rd a : ℕ) (size : Size) (o : Option ℕ) → ShowsState parts w s → found parts (transfer.Store size) a s.memory ≡ o →
    transfers_data (transfer.Store size) rd a o s ≡ Goes next → IsLeft size rd a s next
data_left parts w s next rd a size None shows e g = absurd cc
data_left parts w s next rd a size (Some number) shows e g =
    let r = found_read parts (transfer.Store size) a number s.memory w.block shows.memory (some_bytes size) e in
    record { from = r.from; to = r.to; goes = taken [] (record s { memory = with_number s.memory a (bytes_in size) (word_stored (reg s) size rd) }) next g }

-- the data with a number of a register's low bytes
module _ (parts : Parts) (w : World) (s next : State) (rd a : ℕ) (well : IsWellFormed parts.stack_pages s) (shows : ShowsState parts w s) where
  left_shows : (size : Size) (number : ℕ) → with_number s.memory a (bytes_in size) (word_stored (reg s) size rd) ≡ with_number s.memory a (bytes_in size) number → IsLeft size rd a s next →
      ShowsState parts (block_with a (bytes_in size) number w) next
  left_shows size number same left =
      let h = data_shows parts w s shows well.calls a (bytes_in size) number left.from left.to in
      subst (λ t. ShowsState parts (block_with a (bytes_in size) number w) t) left.goes
      (moved_shows parts (block_with a (bytes_in size) number w) (record s { memory = with_number s.memory a (bytes_in size) (word_stored (reg s) size rd) })
      (subst (λ m. ShowsState parts (block_with a (bytes_in size) number w) (record s { memory = m })) (sym same) h))

  slot_left : (was : ℕ) → s.registers.newest.slots a ≡ Some was → transfers_in parts (transfer.Store sizes.Word) rd a (Some was) s ≡ Goes next →
      ShowsState parts (block_with a 4 (reg s rd) w) next
  unfolding slot
  slot_left was there g =
      let h = slot_shows parts w s shows well.calls a was (reg s rd) there (word_below parts.stack_pages s rd well) in
      subst (λ t. ShowsState parts (block_with a 4 (reg s rd) w) t) (taken [] (record s { registers = with_slot a (reg s rd) s.registers }) next g)
      (moved_shows parts (block_with a 4 (reg s rd) w) (record s { registers = with_slot a (reg s rd) s.registers }) h)

  slot_room : (was : ℕ) → s.registers.newest.slots a ≡ Some was → (0x80000 ≤ a) × (a + 4 ≤ 0x100000)
  unfolding slot
  slot_room was there =
      let r = slot_read parts.stack_pages 0 a was s.registers w.block shows.pages well.calls shows.slots (omega arith) there in
      let from = r.from in
      (omega (arith, from), r.to)

  -- a word, in a slot or in the data
  word_left : (o : Option ℕ) → s.registers.newest.slots a ≡ o → transfers_in parts (transfer.Store sizes.Word) rd a o s ≡ Goes next →
      (0x80000 ≤ a) × (a + 4 ≤ 0x100000) × ShowsState parts (block_with a 4 (reg s rd) w) next
  word_left None there g =
      let left = data_left parts w s next rd a sizes.Word (found parts (transfer.Store sizes.Word) a s.memory) shows refl g in
      let to = left.to in
      (left.from, omega (arith, to), left_shows sizes.Word (reg s rd) refl left)
  word_left (Some was) there g = let room = slot_room was there in (room.0, room.1, slot_left was there g)

-- Where a store of one number lies, and what it comes to.
record IsOut (parts : Parts) (size : Size) (rd a : ℕ) (w : World) (s next : State) : Type 0 where
  from : 0x80000 ≤ a
  to : a + bytes_in size ≤ 0x100000
  shows : ShowsState parts (block_with a (bytes_in size) (reg s rd) w) next

goes_out : (parts : Parts) (w : World) (s next : State) (rd a : ℕ) (size : Size) → (size ≡ sizes.Double → ⊥) → IsWellFormed parts.stack_pages s → ShowsState parts w s →
    transfers_in parts (transfer.Store size) rd a (slot_of (transfer.Store size) s a) s ≡ Goes next → IsOut parts size rd a w s next
goes_out parts w s next rd a sizes.Byte single well shows g =
    let left = data_left parts w s next rd a sizes.Byte (found parts (transfer.Store sizes.Byte) a s.memory) shows refl g in
    let to = left.to in
    record { from = left.from; to = omega (arith, to); shows = left_shows parts w s next rd a well shows sizes.Byte (reg s rd) (low_byte s.memory a (reg s rd)) left }
goes_out parts w s next rd a sizes.Half single well shows g =
    let left = data_left parts w s next rd a sizes.Half (found parts (transfer.Store sizes.Half) a s.memory) shows refl g in
    let to = left.to in
    record { from = left.from; to = omega (arith, to); shows = left_shows parts w s next rd a well shows sizes.Half (reg s rd) (low_half s.memory a (reg s rd)) left }
goes_out parts w s next rd a sizes.Word single well shows g =
    let out = word_left parts w s next rd a well shows (s.registers.newest.slots a) refl g in
    record { from = out.0; to = out.1; shows = out.2 }
goes_out parts w s next rd a sizes.Double single well shows g = absurd (single refl)

module _ (size : Size) (rd : ℕ) (address e : Expr) (width : NumberWidth) (low : rd < 32) (same : bytes_of_width width ≡ bytes_in size) (single : size ≡ sizes.Double → ⊥)
    (holds : (v : List ℕ) → value v e ≡ slice_index v rd) where
  plain_comes : (windows : ℕ) (parts : Parts) (s next : State) (w : World) (a : ℕ) → IsWellFormed parts.stack_pages s → ShowsState parts w s →
      value w.variables address ≡ a → transfers_in parts (transfer.Store size) rd a (slot_of (transfer.Store size) s a) s ≡ Goes next →
      GoesTo windows parts (Store width address e ∷ []) w next
  plain_comes windows parts s next w a well shows at g =
      let out = goes_out parts w s next rd a size single well shows g in
      record {
        new = block_with a (bytes_in size) (reg s rd) w;
        done = ap (λ o. then_on o (does_all windows []))
            (does_store windows w width address e a (bytes_in size) (reg s rd) at (holds w.variables ∙ word_of parts w s rd low shows) same out.from out.to);
        shows = out.shows;
        counts = refl;
        kept = λ x above below. refl;
      }

  pub plain_store : (old new : List Stmt) → new ≡ old ++ Store width address e ∷ [] → AddsAccess (transfer.Store size) rd address old new
  plain_store old new behind = record {
    made = Store width address e ∷ [];
    behind = behind;
    is = record { comes = λ windows parts s next w a well shows pair at g. plain_comes windows parts s next w a well shows at g };
  }

-- ---- two words

module _ (rd : ℕ) (address one other behind : Expr) (low : rd < 32) (holds_one : (v : List ℕ) → value v one ≡ slice_index v rd)
    (holds_other : (v : List ℕ) → value v other ≡ slice_index v (odd_of rd)) (next_word : (v : List ℕ) → value v behind ≡ applied operators.Sum (slice_index v 40) 4) where
  abbrev statements : List Stmt
  statements = Set 40 address ∷ Store widths.Word (Variable 40) one ∷ Store widths.Word behind other ∷ []

  module _ (windows : ℕ) (parts : Parts) (s next : State) (w : World) (a : ℕ) (well : IsWellFormed parts.stack_pages s) (shows : ShowsState parts w s)
      (at : value w.variables address ≡ a) where
    abbrev high : ℕ
    high = reg s rd

    abbrev lower : ℕ
    lower = reg s (odd_of rd)

    abbrev first : World
    first = sets 40 (value w.variables address) w

    abbrev second : World
    second = block_with a 4 high first

    abbrev third : World
    third = block_with (a + 4) 4 lower second

    first_shows : ShowsState parts first s
    first_shows = scratch_shows parts w s 40 (value w.variables address) (omega arith) shows

    there : slice_index first.variables 40 ≡ a
    there = set_there parts w s 40 (value w.variables address) (omega arith) shows ∙ at

    third_shows : 0x80000 ≤ a → a + 8 ≤ 0xF0000 → ShowsState parts third (record s { memory = with_number s.memory a 8 (high * 2 ^ 32 + lower) })
    third_shows from to =
        let half = data_shows parts first s first_shows well.calls a 4 high from (omega (arith, to)) in
        let both = data_shows parts second (record s { memory = with_number s.memory a 4 high }) half well.calls (a + 4) 4 lower (omega (arith, from)) (omega (arith, to)) in
        subst (λ m. ShowsState parts third (record s { memory = m })) (sym (written_halves high lower (word_below parts.stack_pages s (odd_of rd) well) s.memory a)) both

    pair_comes : transfers_in parts (transfer.Store sizes.Double) rd a (slot_of (transfer.Store sizes.Double) s a) s ≡ Goes next → GoesTo windows parts statements w next
    pair_comes g =
        let left = data_left parts w s next rd a sizes.Double (found parts (transfer.Store sizes.Double) a s.memory) shows refl g in
        let from = left.from in
        let to = left.to in
        let odd_low : odd_of rd < 32 = omega (arith, low) in
        let behind_at : value first.variables behind ≡ a + 4 = next_word first.variables ∙ ap (λ n. applied operators.Sum n 4) there ∙ omega (arith, to) in
        record {
          new = third;
          done =
              ap (λ o. then_on o (does_all windows (Store widths.Word behind other ∷ [])))
              (does_store windows first widths.Word (Variable 40) one a 4 high there (holds_one first.variables ∙ word_of parts first s rd low first_shows) refl from (omega (arith, to)))
              ∙ ap (λ o. then_on o (does_all windows []))
              (does_store windows second widths.Word behind other (a + 4) 4 lower behind_at (holds_other first.variables ∙ word_of parts first s (odd_of rd) odd_low first_shows) refl
              (omega (arith, from)) (omega (arith, to)));
          shows = subst (λ t. ShowsState parts third t) left.goes
              (moved_shows parts third (record s { memory = with_number s.memory a 8 (high * 2 ^ 32 + lower) }) (third_shows from to));
          counts = refl;
          kept = λ x above below. set_kept w 40 (value w.variables address) x (λ e. omega (arith, e, above));
        }

  pub pair_store : (old new : List Stmt) → new ≡ old ++ statements → AddsAccess (transfer.Store sizes.Double) rd address old new
  pair_store old new stands = record {
    made = statements;
    behind = stands;
    is = record { comes = λ windows parts s next w a well shows pair at g. pair_comes windows parts s next w a well shows at g };
  }

pub store_made : (size : Size) (rd : ℕ) (address e : Expr) (width : NumberWidth) → HasWidth size width → rd < 32 → ((v : List ℕ) → value v e ≡ slice_index v rd) →
    (old new : List Stmt) → new ≡ old ++ Store width address e ∷ [] → AddsAccess (transfer.Store size) rd address old new
store_made sizes.Byte rd address e widths.Byte is low holds old new behind = plain_store sizes.Byte rd address e widths.Byte low refl (λ f. cc) holds old new behind
store_made sizes.Half rd address e widths.Half is low holds old new behind = plain_store sizes.Half rd address e widths.Half low refl (λ f. cc) holds old new behind
store_made sizes.Word rd address e widths.Word is low holds old new behind = plain_store sizes.Word rd address e widths.Word low refl (λ f. cc) holds old new behind
store_made _ rd address e width is low holds old new behind = absurd is

pub pair_made : (rd odd : ℕ) (address one other behind : Expr) → rd < 32 → odd ≡ odd_of rd → ((v : List ℕ) → value v one ≡ slice_index v rd) →
    ((v : List ℕ) → value v other ≡ slice_index v odd) → ((v : List ℕ) → value v behind ≡ applied operators.Sum (slice_index v 40) 4) →
    (old first second new : List Stmt) → first ≡ old ++ Set 40 address ∷ [] → second ≡ first ++ Store widths.Word (Variable 40) one ∷ [] →
    new ≡ second ++ Store widths.Word behind other ∷ [] → AddsAccess (transfer.Store sizes.Double) rd address old new
pair_made rd odd address one other behind low pair holds_one holds_other next_word old first second new a b c =
    pair_store rd address one other behind low holds_one (λ v. holds_other v ∙ ap (slice_index v) pair) next_word old new (in_order old first second new _ _ _ a b c)

pub store_as : (size one : Size) (rd : ℕ) (address : Expr) (old new : List Stmt) → size ≡ one → AddsAccess (transfer.Store one) rd address old new → AddsAccess (transfer.Store size) rd address old new
store_as size one rd address old new is h = subst (λ x. AddsAccess (transfer.Store x) rd address old new) (sym is) h
