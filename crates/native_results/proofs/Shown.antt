-- What a world shows once a word went to a register.
use Rattle.std.proofs.Common.{◌≡◌, ◌≢◌, ℕ, zero, suc, ◌<◌, Bool, true, false, List, [], ◌∷◌, length, slice_index, slice_set, refl, sym, ap, ◌∙◌, subst, arith}
use Rattle.std.specs.Prelude.{◌==◌, nat_lt, if◌then◌else◌}
use Rattle.std.proofs.lemmas.Bool.Decides.{nat_tests}
use Rattle.v8_word.specs.declared.Icc.{Icc}
use Rattle.sbx_image.specs.Parts.{Parts}
use Rattle.sbx_flat.specs.Calls.{slot}
use Rattle.sbx_flat.specs.Registers.{Frame, Registers, Words, with_in, with_word, written}
use Rattle.sbx_flat.specs.States.{State, advanced, with_reg}
use Rattle.sbx_flat.proofs.Registers.{word_written}
use Rattle.native_lang.specs.declared.state.SavedWindow.{SavedWindow}
use Rattle.native_lang.specs.World.{World}
use Rattle.native_results.specs.ShowsState.{ShowsCodes, ShowsState, ShowsWindows}
use Rattle.native_results.proofs.Making.{long, other, read_set}

-- ---- the rest of the registers' file stays

by_if : (P : Registers → Type 0) (b : Bool) (x y : Registers) → P x → P y → P (if b then x else y)
by_if P true x y p q = p
by_if P false x y p q = q

-- what holds of each part's write holds of the write
kept : (P : Registers → Type 0) (n v : ℕ) (file : Registers) → P file → P (record file { globals = with_word file.globals n v }) →
    P (record file { newest = record file.newest { outs = with_word file.newest.outs n v } }) →
    P (record file { newest = record file.newest { locals = with_word file.newest.locals n v } }) → P (with_in n v file) → P (written n v file)
unfolding written
kept P n v file a b c d e = by_if P (n == 0) _ _ a (by_if P (nat_lt n 8) _ _ b (by_if P (nat_lt n 16) _ _ c (by_if P (nat_lt n 24) _ _ d e)))

windows_in : (ms : List SavedWindow) (n v : ℕ) (globals : Words) (newest : Frame) (older : List Frame) (ins : Words) → ShowsWindows ms older ins →
    ShowsWindows ms (with_in n v (record { globals = globals; newest = newest; older = older; oldest_ins = ins })).older
    (with_in n v (record { globals = globals; newest = newest; older = older; oldest_ins = ins })).oldest_ins
windows_in [] n v globals newest [] ins h = tt
windows_in [] n v globals newest (c ∷ older) ins h = absurd h
windows_in (m ∷ ms) n v globals newest [] ins h = absurd h
windows_in (m ∷ ms) n v globals newest (c ∷ older) ins h = (record { locals = h.0.locals; ins_read = h.0.ins_read }, h.1)

pub windows_written : (ms : List SavedWindow) (n v : ℕ) (file : Registers) → ShowsWindows ms file.older file.oldest_ins →
    ShowsWindows ms (written n v file).older (written n v file).oldest_ins
windows_written ms n v file h =
    kept (λ f. ShowsWindows ms f.older f.oldest_ins) n v file h h h h (windows_in ms n v file.globals file.newest file.older file.oldest_ins h)

out_slot : (file : Registers) (outs : Words) (k a : ℕ) → slot (record file { newest = record file.newest { outs = outs } }) k a ≡ slot file k a
unfolding slot
out_slot file outs zero a = refl
out_slot file outs (suc k) a = refl

local_slot : (file : Registers) (locals : Words) (k a : ℕ) → slot (record file { newest = record file.newest { locals = locals } }) k a ≡ slot file k a
unfolding slot
local_slot file locals zero a = refl
local_slot file locals (suc k) a = refl

global_slot : (file : Registers) (globals : Words) (k a : ℕ) → slot (record file { globals = globals }) k a ≡ slot file k a
unfolding slot
global_slot file globals k a = refl

in_slot : (n v : ℕ) (globals : Words) (newest : Frame) (older : List Frame) (oldest : Words) (k a : ℕ) →
    slot (with_in n v (record { globals = globals; newest = newest; older = older; oldest_ins = oldest })) k a
    ≡ slot (record { globals = globals; newest = newest; older = older; oldest_ins = oldest }) k a
unfolding slot
in_slot n v globals newest [] oldest k a = refl
in_slot n v globals newest (f ∷ fs) oldest zero a = refl
in_slot n v globals newest (f ∷ fs) oldest (suc zero) a = refl
in_slot n v globals newest (f ∷ fs) oldest (suc (suc k)) a = refl

pub slot_written : (n v : ℕ) (file : Registers) (k a : ℕ) → slot (written n v file) k a ≡ slot file k a
slot_written n v file k a =
    kept (λ f. slot f k a ≡ slot file k a) n v file refl (global_slot file (with_word file.globals n v) k a) (out_slot file (with_word file.newest.outs n v) k a)
    (local_slot file (with_word file.newest.locals n v) k a) (in_slot n v file.globals file.newest file.older file.oldest_ins k a)

-- ---- the state

-- other variables that hold these codes and Y, and the same registers
pub turned_over : (parts : Parts) (w : World) (s : State) (v : List ℕ) (icc : Icc) (y : ℕ) → ShowsState parts w s → length v ≡ 256 →
    ((r : ℕ) → r < 32 → slice_index v r ≡ slice_index w.variables r) → ShowsCodes v icc → slice_index v 36 ≡ y →
    ShowsState parts (record w { variables = v }) (record s { icc = icc; y = y })
turned_over parts w s v icc y h size registers codes is = record {
  variables = size;
  registers = λ r less. h.registers r less ∙ sym (registers r less);
  icc = codes;
  y = is;
  windows = h.windows;
  block = h.block;
  block_bytes = h.block_bytes;
  slots = h.slots;
  memory = h.memory;
  input = h.input;
  output = h.output;
  pages = h.pages;
}

-- whichever instruction comes next
pub further : (parts : Parts) (w : World) (s : State) → ShowsState parts w s → ShowsState parts w (advanced s)
further parts w s h = record {
  variables = h.variables;
  registers = h.registers;
  icc = h.icc;
  y = h.y;
  windows = h.windows;
  block = h.block;
  block_bytes = h.block_bytes;
  slots = h.slots;
  memory = h.memory;
  input = h.input;
  output = h.output;
  pages = h.pages;
}

each : (v : List ℕ) (rd word r old : ℕ) → rd < 32 → length v ≡ 256 → old ≡ slice_index v r → (if r == rd then word else old) ≡ slice_index (slice_set v rd word) r
each v rd word r old low size same = ap (λ o. if r == rd then word else o) same ∙ sym (read_set v rd word r size (omega (arith, low)))

codes_stay : (v : List ℕ) (rd word : ℕ) (icc : Icc) → rd < 32 → ShowsCodes v icc → ShowsCodes (slice_set v rd word) icc
codes_stay v rd word icc low h = record {
  n = other v rd word 32 (λ e. omega (arith, e, low)) ∙ h.n;
  z = other v rd word 33 (λ e. omega (arith, e, low)) ∙ h.z;
  v = other v rd word 34 (λ e. omega (arith, e, low)) ∙ h.v;
  c = other v rd word 35 (λ e. omega (arith, e, low)) ∙ h.c;
}

-- a word in a register, whichever comes next
wrote : (parts : Parts) (w : World) (s : State) (rd word : ℕ) → rd < 32 → rd ≢ 0 → ShowsState parts w s →
    ShowsState parts (record w { variables = slice_set w.variables rd word }) (advanced (with_reg rd word s))
wrote parts w s rd word low some h = record {
  variables = long w.variables rd word h.variables;
  registers = λ r less. word_written rd word s.registers r some ∙ each w.variables rd word r _ low h.variables (h.registers r less);
  icc = codes_stay w.variables rd word s.icc low h.icc;
  y = other w.variables rd word 36 (λ e. omega (arith, e, low)) ∙ h.y;
  windows = windows_written w.saved rd word s.registers h.windows;
  block = h.block;
  block_bytes = h.block_bytes;
  slots = λ k a it e. h.slots k a it (sym (slot_written rd word s.registers k a) ∙ e);
  memory = h.memory;
  input = h.input;
  output = h.output;
  pages = h.pages;
}

zeroed : (parts : Parts) (w : World) (s : State) (word : ℕ) → ShowsState parts w s → ShowsState parts w (advanced (with_reg 0 word s))
unfolding written
zeroed parts w s word h = record {
  variables = h.variables;
  registers = h.registers;
  icc = h.icc;
  y = h.y;
  windows = h.windows;
  block = h.block;
  block_bytes = h.block_bytes;
  slots = h.slots;
  memory = h.memory;
  input = h.input;
  output = h.output;
  pages = h.pages;
}

pub is_zero : (n : ℕ) → (n == 0) ≡ true → n ≡ 0
is_zero n e = grind (arith, nat_tests)

pub not_zero : (n : ℕ) → (n == 0) ≡ false → n ≢ 0
not_zero n e z = grind (arith, nat_tests)

-- %g0 stays 0
abbrev pub assigned : ℕ → ℕ → List ℕ → List ℕ
assigned rd word v = if rd == 0 then v else slice_set v rd word

by_test : (b : Bool) (parts : Parts) (w : World) (s : State) (rd word : ℕ) → rd < 32 → (rd == 0) ≡ b → ShowsState parts w s →
    ShowsState parts (record w { variables = if b then w.variables else slice_set w.variables rd word }) (advanced (with_reg rd word s))
by_test true parts w s rd word low e h = subst (λ k. ShowsState parts w (advanced (with_reg k word s))) (sym (is_zero rd e)) (zeroed parts w s word h)
by_test false parts w s rd word low e h = wrote parts w s rd word low (not_zero rd e) h

pub assigned_shown : (parts : Parts) (w : World) (s : State) (rd word : ℕ) → rd < 32 → ShowsState parts w s →
    ShowsState parts (record w { variables = assigned rd word w.variables }) (advanced (with_reg rd word s))
assigned_shown parts w s rd word low h = by_test (rd == 0) parts w s rd word low refl h
