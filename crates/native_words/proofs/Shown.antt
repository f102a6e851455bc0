-- What a world shows after a variable is set, a register or another one.
use Rattle.std.proofs.Common.{◌≡◌, ◌≢◌, ℕ, zero, suc, ◌<◌, ◌≤◌, Bool, true, false}
use Rattle.std.proofs.Common.{List, [], ◌∷◌, length, slice_index, slice_set, refl, sym, ap, ◌∙◌, arith}
use Rattle.std.specs.Prelude.{◌==◌, if◌then◌else◌}
use Rattle.std.proofs.lemmas.Bool.Decides.{nat_tests}
use Rattle.std.proofs.lemmas.Grind.{get_or-set_at}
use Rattle.std.proofs.lemmas.List.{get_or-set_other, length-set}
use Rattle.v8_word.specs.declared.Icc.{Icc}
use Rattle.sbx_image.specs.Parts.{Parts}
use Rattle.sbx_flat.specs.Calls.{slot}
use Rattle.sbx_flat.specs.Registers.{Frame, Registers, Words, with_in, with_word, written}
use Rattle.sbx_flat.specs.States.{State, advanced, with_reg}
use Rattle.sbx_flat.proofs.Kept.{by_class}
use Rattle.sbx_flat.proofs.Registers.{word_written}
use Rattle.native_lang.specs.declared.state.SavedWindow.{SavedWindow}
use Rattle.native_lang.specs.World.{World, sets}
use Rattle.native_results.specs.ShowsState.{ShowsCodes, ShowsState, ShowsWindows}

-- ---- another place, and codes

pub moved_shows : (parts : Parts) (w : World) (s : State) → ShowsState parts w s → ShowsState parts w (advanced s)
moved_shows parts w s h = record {
  variables = h.variables;
  registers = h.registers;
  icc = h.icc;
  y = h.y;
  windows = h.windows;
  block = h.block;
  block_bytes = h.block_bytes;
  slots = h.slots;
  memory = h.memory;
  input = h.input;
  output = h.output;
  pages = h.pages;
}

pub codes_same : (old new : List ℕ) (icc : Icc) → ((r : ℕ) → 32 ≤ r → r < 37 → slice_index new r ≡ slice_index old r) → ShowsCodes old icc → ShowsCodes new icc
codes_same old new icc same h = record {
  n = same 32 (omega arith) (omega arith) ∙ h.n;
  z = same 33 (omega arith) (omega arith) ∙ h.z;
  v = same 34 (omega arith) (omega arith) ∙ h.v;
  c = same 35 (omega arith) (omega arith) ∙ h.c;
}

-- ---- a variable that is none of the machine's

pub scratch_shows : (parts : Parts) (w : World) (s : State) (x v : ℕ) → 37 ≤ x → ShowsState parts w s → ShowsState parts (sets x v w) s
scratch_shows parts w s x v high h =
    let kept : (r : ℕ) → r < 37 → slice_index (slice_set w.variables x v) r ≡ slice_index w.variables r =
    λ r less. get_or-set_other w.variables x r v 0 (λ e. omega (arith, e, less, high)) in
    record {
      variables = length-set w.variables x v ∙ h.variables;
      registers = λ r less. h.registers r less ∙ sym (kept r (omega arith));
      icc = codes_same w.variables (slice_set w.variables x v) s.icc (λ r low less. kept r less) h.icc;
      y = kept 36 (omega arith) ∙ h.y;
      windows = h.windows;
      block = h.block;
      block_bytes = h.block_bytes;
      slots = h.slots;
      memory = h.memory;
      input = h.input;
      output = h.output;
      pages = h.pages;
    }

-- ---- a register

slots_in : (n v : ℕ) (globals : Words) (newest : Frame) (older : List Frame) (ins : Words) (k a : ℕ) →
    slot (with_in n v (record { globals = globals; newest = newest; older = older; oldest_ins = ins })) k a ≡
    slot (record { globals = globals; newest = newest; older = older; oldest_ins = ins }) k a
unfolding slot
slots_in n v globals newest [] ins k a = refl
slots_in n v globals newest (c ∷ older) ins zero a = refl
slots_in n v globals newest (c ∷ older) ins (suc zero) a = refl
slots_in n v globals newest (c ∷ older) ins (suc (suc k)) a = refl

slots_out : (file : Registers) (outs : Words) (k a : ℕ) → slot (record file { newest = record file.newest { outs = outs } }) k a ≡ slot file k a
unfolding slot
slots_out file outs zero a = refl
slots_out file outs (suc k) a = refl

slots_local : (file : Registers) (locals : Words) (k a : ℕ) → slot (record file { newest = record file.newest { locals = locals } }) k a ≡ slot file k a
unfolding slot
slots_local file locals zero a = refl
slots_local file locals (suc k) a = refl

slots_global : (file : Registers) (globals : Words) (k a : ℕ) → slot (record file { globals = globals }) k a ≡ slot file k a
unfolding slot
slots_global file globals k a = refl

pub slots_written : (n v : ℕ) (file : Registers) (k a : ℕ) → slot (written n v file) k a ≡ slot file k a
slots_written n v file k a = by_class (λ f. slot f k a ≡ slot file k a) n v file refl (slots_global file (with_word file.globals n v) k a)
    (λ low high. slots_out file (with_word file.newest.outs n v) k a) (slots_local file (with_word file.newest.locals n v) k a)
    (λ low. slots_in n v file.globals file.newest file.older file.oldest_ins k a)

windows_in : (ms : List SavedWindow) (n v : ℕ) (globals : Words) (newest : Frame) (older : List Frame) (ins : Words) → ShowsWindows ms older ins →
    ShowsWindows ms (with_in n v (record { globals = globals; newest = newest; older = older; oldest_ins = ins })).older
    (with_in n v (record { globals = globals; newest = newest; older = older; oldest_ins = ins })).oldest_ins
windows_in [] n v globals newest [] ins h = tt
windows_in [] n v globals newest (c ∷ older) ins h = absurd h
windows_in (m ∷ ms) n v globals newest [] ins h = absurd h
windows_in (m ∷ ms) n v globals newest (c ∷ older) ins h = (record { locals = h.0.locals; ins_read = h.0.ins_read }, h.1)

windows_written : (ms : List SavedWindow) (n v : ℕ) (file : Registers) → ShowsWindows ms file.older file.oldest_ins →
    ShowsWindows ms (written n v file).older (written n v file).oldest_ins
windows_written ms n v file h = by_class (λ f. ShowsWindows ms f.older f.oldest_ins) n v file h h (λ low high. h) h
    (λ low. windows_in ms n v file.globals file.newest file.older file.oldest_ins h)

register_by : (words : List ℕ) (n v r : ℕ) (b : Bool) → (r == n) ≡ b → n < length words → (if b then v else slice_index words r) ≡ slice_index (slice_set words n v) r
register_by words n v r true e room = let same : r ≡ n = grind (arith, nat_tests) in sym (get_or-set_at words n r v 0 same room)
register_by words n v r false e room = let apart : r ≢ n = grind (arith, nat_tests) in sym (get_or-set_other words n r v 0 apart)

pub register_shows : (parts : Parts) (w : World) (s : State) (n v : ℕ) → n < 32 → n ≢ 0 → ShowsState parts w s → ShowsState parts (sets n v w) (with_reg n v s)
register_shows parts w s n v low some h =
    let size = h.variables in
    let kept : (r : ℕ) → 32 ≤ r → slice_index (slice_set w.variables n v) r ≡ slice_index w.variables r =
    λ r high. get_or-set_other w.variables n r v 0 (λ e. omega (arith, e, low, high)) in
    record {
      variables = length-set w.variables n v ∙ h.variables;
      registers = λ r less. word_written n v s.registers r some ∙ ap (λ x. if r == n then v else x) (h.registers r less)
          ∙ register_by w.variables n v r (r == n) refl (omega (arith, low, size));
      icc = codes_same w.variables (slice_set w.variables n v) s.icc (λ r high less. kept r high) h.icc;
      y = kept 36 (omega arith) ∙ h.y;
      windows = windows_written w.saved n v s.registers h.windows;
      block = h.block;
      block_bytes = h.block_bytes;
      slots = λ k a word e. h.slots k a word (sym (slots_written n v s.registers k a) ∙ e);
      memory = h.memory;
      input = h.input;
      output = h.output;
      pages = h.pages;
    }

-- %g0 stays as it is
pub zero_stays : (s : State) (v : ℕ) → with_reg 0 v s ≡ s
unfolding written
zero_stays s v = refl
