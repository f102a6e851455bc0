-- What a world shows after a frame is pushed, and after it is popped.
use Rattle.std.proofs.Common.{◌≡◌, ◌≢◌, ℕ, zero, suc, ◌+◌, ◌-◌, ◌<◌, ◌≤◌, ◌⊎◌, inl, inr, Bool, true, false}
use Rattle.std.proofs.Common.{List, ◌∷◌, length, Some, None, slice_index, slice_set, refl, sym, ap, ◌∙◌, subst, arith}
use Rattle.std.specs.Prelude.{if◌then◌else◌}
use Rattle.std.proofs.lemmas.Bool.Decides.{nat_tests}
use Rattle.std.proofs.lemmas.Grind.{get_or-set_at}
use Rattle.std.proofs.lemmas.List.{get_or-set_other, length-set}
use Rattle.sbx_image.specs.Parts.{Parts}
use Rattle.sbx_flat.specs.Calls.{slot}
use Rattle.sbx_flat.specs.Registers.{Frame, Fresh, Registers, Words, ins_of, is_slot, pushed as frames_pushed, word_in}
use Rattle.sbx_flat.specs.States.{State}
use Rattle.sbx_flat.proofs.Registers.{base_pushed, globals_pushed, ins_pushed, locals_pushed, outs_pushed}
use Rattle.native_lang.specs.declared.state.SavedWindow.{SavedWindow}
use Rattle.native_lang.specs.World.{World, eight_of, pushed, put_words, restored, sets}
use Rattle.native_results.specs.ShowsState.{ShowsState, ShowsWindow, ShowsWindows, block_word}
use Rattle.native_words.proofs.Eights.{eight_at, words_at, words_else, words_length}
use Rattle.native_words.proofs.Shown.{codes_same}

-- ---- which part of the registers one is in

read_out : (file : Registers) (r : ℕ) → 8 ≤ r → r < 16 → word_in file r ≡ file.newest.outs r
read_out file r low high = grind (arith, nat_tests)

read_local : (file : Registers) (r : ℕ) → 16 ≤ r → r < 24 → word_in file r ≡ file.newest.locals r
read_local file r low high = grind (arith, nat_tests)

read_in : (file : Registers) (r : ℕ) → 24 ≤ r → word_in file r ≡ ins_of file.older file.oldest_ins r
read_in file r low = grind (arith, nat_tests)

-- ---- a frame pushed

-- The words that a new frame takes are those that the world has.
pub record IsLeft (w : World) (fresh : Fresh) : Type 0 where
  pub locals : (n : ℕ) → n < 32 → fresh.locals n ≡ slice_index w.variables n
  pub outs : (n : ℕ) → n < 32 → fresh.outs n ≡ slice_index w.variables n
  pub slots : (a : ℕ) → fresh.slots a ≡ block_word w.block a

module _ (parts : Parts) (w : World) (s : State) (fresh : Fresh) (b : ℕ) (shows : ShowsState parts w s) (left : IsLeft w fresh) where
  abbrev old : List ℕ
  old = w.variables

  abbrev turned : List ℕ
  turned = put_words old 24 (eight_of old 8) 8

  abbrev new : List ℕ
  new = slice_set turned 14 b

  turned_size : length turned ≡ 256
  turned_size = words_length old 24 (eight_of old 8) 8 ∙ shows.variables

  own : (r : ℕ) → r ≢ 14 → (r < 24) ⊎ (32 ≤ r) → slice_index new r ≡ slice_index old r
  own r other out = get_or-set_other turned 14 r b 0 other ∙ words_else old 24 (eight_of old 8) 8 r out

  ins : (r : ℕ) → 24 ≤ r → r < 32 → slice_index new r ≡ slice_index old (r - 16)
  ins r low high =
      let size = shows.variables in
      let e : 8 + (r - 24) ≡ r - 16 = omega (arith, low) in
      get_or-set_other turned 14 r b 0 (λ e. omega (arith, e, low)) ∙ words_at old 24 (eight_of old 8) 8 r low (omega (arith, high)) (omega (arith, size))
      ∙ eight_at old 8 (r - 24) (omega (arith, low, high)) ∙ ap (slice_index old) e

  top : slice_index new 14 ≡ b
  top = let size = turned_size in get_or-set_at turned 14 14 b 0 refl (omega (arith, size))

  abbrev file_after : Registers
  file_after = frames_pushed fresh b s.registers

  word_by : (r : ℕ) → r < 32 → (r < 8) ⊎ (8 ≤ r) → (r < 16) ⊎ (16 ≤ r) → (r < 24) ⊎ (24 ≤ r) → (r ≡ 14) ⊎ (r ≢ 14) → word_in file_after r ≡ slice_index new r
  word_by r less a c d (inl e) = subst (λ k. word_in file_after k ≡ slice_index new k) (sym e) (base_pushed fresh b s.registers ∙ sym top)
  word_by r less (inl low) c d (inr other) = globals_pushed fresh b s.registers r low ∙ shows.registers r less ∙ sym (own r other (inl (omega arith)))
  word_by r less (inr past) (inl low) d (inr other) = outs_pushed fresh b s.registers r past low other ∙ left.outs r less ∙ sym (own r other (inl (omega arith)))
  word_by r less (inr far) (inr past) (inl low) (inr other) = locals_pushed fresh b s.registers r past low ∙ left.locals r less ∙ sym (own r other (inl low))
  word_by r less (inr far) (inr farther) (inr past) (inr other) =
      ins_pushed fresh b s.registers r past less ∙ shows.registers (r - 16) (omega arith) ∙ sym (ins r past less)

  window_pushed : ShowsWindow (record { locals = eight_of old 16; ins = eight_of old 24 }) s.registers.newest (ins_of s.registers.older s.registers.oldest_ins)
  window_pushed = record {
    locals = λ k less. sym (read_local s.registers (16 + k) (omega arith) (omega arith)) ∙ shows.registers (16 + k) (omega arith) ∙ sym (eight_at old 16 k less);
    ins_read = λ k less. sym (read_in s.registers (24 + k) (omega arith)) ∙ shows.registers (24 + k) (omega arith) ∙ sym (eight_at old 24 k less);
  }

  pushed_slot : (c : Bool) (a word : ℕ) → (if c then Some (fresh.slots a) else None) ≡ Some word → block_word w.block a ≡ word
  pushed_slot true a word e = let is : fresh.slots a ≡ word = cc in sym (left.slots a) ∙ is
  pushed_slot false a word e = absurd cc

  slots_by : (k a word : ℕ) → slot file_after k a ≡ Some word → (slot s.registers (k - 1) a ≡ Some word → block_word w.block a ≡ word) → block_word w.block a ≡ word
  unfolding slot
  slots_by zero a word e before = pushed_slot (is_slot b (s.registers.newest.outs 14) a) a word e
  slots_by (suc k) a word e before = let less : k ≡ suc k - 1 = omega arith in before (subst (λ i. slot s.registers i a ≡ Some word) less e)

  pub push_shows : ShowsState parts (sets 14 b (pushed w)) (record s { registers = file_after })
  push_shows = record {
    variables = length-set turned 14 b ∙ turned_size;
    registers = λ r less. word_by r less (search arith) (search arith) (search arith) (search arith);
    icc = codes_same old new s.icc (λ r low less. own r (λ e. omega (arith, e, low)) (inr low)) shows.icc;
    y = own 36 (λ e. omega (arith, e)) (inr (omega arith)) ∙ shows.y;
    windows = (window_pushed, shows.windows);
    block = shows.block;
    block_bytes = shows.block_bytes;
    slots = λ k a word e. slots_by k a word e (shows.slots (k - 1) a word);
    memory = shows.memory;
    input = shows.input;
    output = shows.output;
    pages = shows.pages;
  }

-- ---- back to the caller

module _ (parts : Parts) (w : World) (s : State) (m : SavedWindow) (ms : List SavedWindow) (globals oldest : Words) (newest caller : Frame) (rest : List Frame) where
  abbrev before : Registers
  before = record { globals = globals; newest = newest; older = caller ∷ rest; oldest_ins = oldest }

  abbrev after : Registers
  after = record { globals = globals; newest = caller; older = rest; oldest_ins = oldest }

  abbrev outs_put : List ℕ
  outs_put = put_words w.variables 8 (eight_of w.variables 24) 8

  abbrev locals_put : List ℕ
  locals_put = put_words outs_put 16 m.locals 8

  module _ (shows : ShowsState parts w (record s { registers = before })) (window : ShowsWindow m caller (ins_of rest oldest)) (others : ShowsWindows ms rest oldest) where
    first_size : length outs_put ≡ 256
    first_size = words_length w.variables 8 (eight_of w.variables 24) 8 ∙ shows.variables

    second_size : length locals_put ≡ 256
    second_size = words_length outs_put 16 m.locals 8 ∙ first_size

    back_else : (r : ℕ) → (r < 8) ⊎ (32 ≤ r) → slice_index (restored w.variables m) r ≡ slice_index w.variables r
    back_else r out = words_else locals_put 24 m.ins 8 r (third out) ∙ words_else outs_put 16 m.locals 8 r (second out) ∙ words_else w.variables 8 (eight_of w.variables 24) 8 r (first out)
      where
        first : (r < 8) ⊎ (32 ≤ r) → (r < 8) ⊎ (8 + 8 ≤ r)
        first (inl low) = inl low
        first (inr high) = inr (omega arith)

        second : (r < 8) ⊎ (32 ≤ r) → (r < 16) ⊎ (16 + 8 ≤ r)
        second (inl low) = inl (omega arith)
        second (inr high) = inr (omega arith)

        third : (r < 8) ⊎ (32 ≤ r) → (r < 24) ⊎ (24 + 8 ≤ r)
        third (inl low) = inl (omega arith)
        third (inr high) = inr (omega arith)

    back_outs : (r : ℕ) → 8 ≤ r → r < 16 → slice_index (restored w.variables m) r ≡ slice_index w.variables (r + 16)
    back_outs r low high =
        let size = shows.variables in
        let e : 24 + (r - 8) ≡ r + 16 = omega (arith, low) in
        words_else locals_put 24 m.ins 8 r (inl (omega (arith, high))) ∙ words_else outs_put 16 m.locals 8 r (inl high)
        ∙ words_at w.variables 8 (eight_of w.variables 24) 8 r low (omega (arith, high)) (omega (arith, size)) ∙ eight_at w.variables 24 (r - 8) (omega (arith, low, high))
        ∙ ap (slice_index w.variables) e

    back_locals : (r : ℕ) → 16 ≤ r → r < 24 → slice_index (restored w.variables m) r ≡ slice_index m.locals (r - 16)
    back_locals r low high =
        let size = first_size in
        words_else locals_put 24 m.ins 8 r (inl high) ∙ words_at outs_put 16 m.locals 8 r low (omega (arith, high)) (omega (arith, size))

    back_ins : (r : ℕ) → 24 ≤ r → r < 32 → slice_index (restored w.variables m) r ≡ slice_index m.ins (r - 24)
    back_ins r low high = let size = second_size in words_at locals_put 24 m.ins 8 r low (omega (arith, high)) (omega (arith, size))

    same_low : (r : ℕ) → r < 8 → word_in after r ≡ word_in before r
    same_low r low = grind (arith, nat_tests)

    out_as_in : (r : ℕ) → 8 ≤ r → r < 16 → word_in after r ≡ word_in before (r + 16)
    out_as_in r low high =
        read_out after r low high ∙ (let e : r ≡ r + 16 - 16 = omega arith in ap caller.outs e) ∙ sym (read_in before (r + 16) (omega (arith, low)))

    word_back : (r : ℕ) → r < 32 → (r < 8) ⊎ (8 ≤ r) → (r < 16) ⊎ (16 ≤ r) → (r < 24) ⊎ (24 ≤ r) → word_in after r ≡ slice_index (restored w.variables m) r
    word_back r less (inl low) b d = same_low r low ∙ shows.registers r less ∙ sym (back_else r (inl low))
    word_back r less (inr past) (inl low) d = out_as_in r past low ∙ shows.registers (r + 16) (omega arith) ∙ sym (back_outs r past low)
    word_back r less (inr far) (inr past) (inl low) =
        let e : 16 + (r - 16) ≡ r = omega arith in
        read_local after r past low ∙ ap caller.locals (sym e) ∙ window.locals (r - 16) (omega arith) ∙ sym (back_locals r past low)
    word_back r less (inr far) (inr farther) (inr past) =
        let e : 24 + (r - 24) ≡ r = omega arith in
        read_in after r past ∙ ap (ins_of rest oldest) (sym e) ∙ window.ins_read (r - 24) (omega arith) ∙ sym (back_ins r past less)

    older_slot : (k a : ℕ) → slot after k a ≡ slot before (suc k) a
    unfolding slot
    older_slot k a = refl

    pub pop_shows : ShowsState parts (record w { variables = restored w.variables m; saved = ms }) (record s { registers = after })
    pop_shows = record {
      variables = words_length locals_put 24 m.ins 8 ∙ second_size;
      registers = λ r less. word_back r less (search arith) (search arith) (search arith);
      icc = codes_same w.variables (restored w.variables m) s.icc (λ r low less. back_else r (inr low)) shows.icc;
      y = back_else 36 (inr (omega arith)) ∙ shows.y;
      windows = others;
      block = shows.block;
      block_bytes = shows.block_bytes;
      slots = λ k a word e. shows.slots (suc k) a word (sym (older_slot k a) ∙ e);
      memory = shows.memory;
      input = shows.input;
      output = shows.output;
      pages = shows.pages;
    }
