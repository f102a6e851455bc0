-- What the machine's frames show after a write, a call and a return.
use Rattle.std.proofs.Common.{◌≡◌, ◌≢◌, ℕ, zero, suc, ◌+◌, ◌-◌, ◌/◌, ◌%◌, ◌<◌, ◌≤◌, ◌⊎◌, inl, inr, Bool, true, false, List, [], ◌∷◌, ◌++◌, length, replicate}
use Rattle.std.proofs.Common.{reverse, Option, Some, None, slice_index, slice_set, slice_get, refl, sym, ap, ◌∙◌, subst, arith}
use Rattle.std.specs.Prelude.{◌==◌, ◌&&◌, nat_lt, nat_le, if◌then◌else◌}
use Rattle.std.proofs.lemmas.Bool.Decides.{nat_tests}
use Rattle.std.proofs.lemmas.Grind.{get_or-set_at}
use Rattle.std.proofs.lemmas.List.{get_or-replicate, get_or-set_other, length-replicate, reverse-append}
use Rattle.std.proofs.lemmas.Option.{slice_get-get_or, slice_get_past}
use Rattle.sbx_flat.specs.Registers.{Frame, Registers, Words, ins_of, is_slot, popped, pushed, with_in, with_word, word_in, written}
use Rattle.sbx_flat.proofs.Registers.{base_pushed, globals_pushed, ins_pushed, locals_pushed, outs_pushed, word_written}
use Rattle.flat_plain.specs.Shows.{Pops, ShowsCaller, ShowsCallers, ShowsFrames, ShowsSlots, filled, slot_at, word_of}
use Rattle.flat_plain.specs.declared.frames.Frames.{Frames}
use Rattle.flat_plain.specs.declared.frames.Saved.{Saved}
use Rattle.flat_plain.specs.declared.frames.Slots.{Slots}

-- ---- a register written

by_if : (P : Registers → Type 0) (b : Bool) (x y : Registers) → P x → P y → P (if b then x else y)
by_if P true x y p q = p
by_if P false x y p q = q

-- what holds of each part's write holds of the write
kept : (P : Registers → Type 0) (n v : ℕ) (file : Registers) → P file → P (record file { globals = with_word file.globals n v }) →
    P (record file { newest = record file.newest { outs = with_word file.newest.outs n v } }) →
    P (record file { newest = record file.newest { locals = with_word file.newest.locals n v } }) → P (with_in n v file) → P (written n v file)
unfolding written
kept P n v file a b c d e = by_if P (n == 0) _ _ a (by_if P (nat_lt n 8) _ _ b (by_if P (nat_lt n 16) _ _ c (by_if P (nat_lt n 24) _ _ d e)))

slots_in : (m : Slots) (n v : ℕ) (globals : Words) (newest : Frame) (older : List Frame) (ins : Words) → ShowsSlots m newest.slots →
    ShowsSlots m (with_in n v (record { globals = globals; newest = newest; older = older; oldest_ins = ins })).newest.slots
slots_in m n v globals newest [] ins h = h
slots_in m n v globals newest (c ∷ older) ins h = h

slots_written : (m : Slots) (n v : ℕ) (file : Registers) → ShowsSlots m file.newest.slots → ShowsSlots m (written n v file).newest.slots
slots_written m n v file h = kept (λ f. ShowsSlots m f.newest.slots) n v file h h h h (slots_in m n v file.globals file.newest file.older file.oldest_ins h)

callers_in : (ms : List Saved) (n v : ℕ) (globals : Words) (newest : Frame) (older : List Frame) (ins : Words) → ShowsCallers ms older ins →
    ShowsCallers ms (with_in n v (record { globals = globals; newest = newest; older = older; oldest_ins = ins })).older
    (with_in n v (record { globals = globals; newest = newest; older = older; oldest_ins = ins })).oldest_ins
callers_in [] n v globals newest [] ins h = tt
callers_in [] n v globals newest (c ∷ older) ins h = absurd h
callers_in (m ∷ ms) n v globals newest [] ins h = absurd h
callers_in (m ∷ ms) n v globals newest (c ∷ older) ins h = (record { locals = h.0.locals; ins_read = h.0.ins_read; slots = h.0.slots }, h.1)

callers_written : (ms : List Saved) (n v : ℕ) (file : Registers) → ShowsCallers ms file.older file.oldest_ins → ShowsCallers ms (written n v file).older (written n v file).oldest_ins
callers_written ms n v file h = kept (λ f. ShowsCallers ms f.older f.oldest_ins) n v file h h h h (callers_in ms n v file.globals file.newest file.older file.oldest_ins h)

-- the words of both after a write of one
abbrev pub IsWritten : Frames → Frames → ℕ → ℕ → Type 0
IsWritten old new n v = (r : ℕ) → r < 32 → word_of new r ≡ (if r == n then v else word_of old r)

pub write_shows : (m new : Frames) (n v : ℕ) (file : Registers) → ShowsFrames m file → n ≢ 0 → IsWritten m new n v → new.slots ≡ m.slots → new.older ≡ m.older → ShowsFrames new (written n v file)
write_shows m new n v file h some words same older =
    record {
      registers = λ r less. word_written n v file r some ∙ ap (λ x. if r == n then v else x) (h.registers r less) ∙ sym (words r less);
      slots = subst (λ x. ShowsSlots x (written n v file).newest.slots) (sym same) (slots_written m.slots n v file h.slots);
      callers = subst (λ x. ShowsCallers (reverse x.items) (written n v file).older (written n v file).oldest_ins) (sym older) (callers_written (reverse m.older.items) n v file h.callers);
    }

pub zero_shows : (m : Frames) (n v : ℕ) (file : Registers) → n ≡ 0 → ShowsFrames m file → ShowsFrames m (written n v file)
unfolding written
zero_shows m n v file none h = subst (λ k. ShowsFrames m (written k v file)) (sym none) h

pub globals_set : (m : Frames) (k n v : ℕ) → k ≡ n → n < 8 → length m.globals ≡ 8 → IsWritten m (record m { globals = slice_set m.globals k v }) n v
globals_set m k n v same low eight r less = grind (arith, nat_tests, get_or-set_at, get_or-set_other)

pub outs_set : (m : Frames) (k n v : ℕ) → k ≡ n → 8 ≤ n → n < 16 → length m.outs ≡ 8 → IsWritten m (record m { outs = slice_set m.outs (k - 8) v }) n v
outs_set m k n v same low high eight r less = grind (arith, nat_tests, get_or-set_at, get_or-set_other)

pub locals_set : (m : Frames) (k n v : ℕ) → k ≡ n → 16 ≤ n → n < 24 → length m.locals ≡ 8 → IsWritten m (record m { locals = slice_set m.locals (k - 16) v }) n v
locals_set m k n v same low high eight r less = grind (arith, nat_tests, get_or-set_at, get_or-set_other)

pub ins_set : (m : Frames) (k n v : ℕ) → k ≡ n → 24 ≤ n → n < 32 → length m.ins ≡ 8 → IsWritten m (record m { ins = slice_set m.ins (k - 24) v }) n v
ins_set m k n v same low high eight r less = grind (arith, nat_tests, get_or-set_at, get_or-set_other)

-- ---- a frame pushed

pub eight : (x k : ℕ) → k < 8 → slice_index (x ∷ x ∷ x ∷ x ∷ x ∷ x ∷ x ∷ x ∷ []) k ≡ x
eight x zero h = refl
eight x (suc zero) h = refl
eight x (suc (suc zero)) h = refl
eight x (suc (suc (suc zero))) h = refl
eight x (suc (suc (suc (suc zero)))) h = refl
eight x (suc (suc (suc (suc (suc zero))))) h = refl
eight x (suc (suc (suc (suc (suc (suc zero)))))) h = refl
eight x (suc (suc (suc (suc (suc (suc (suc zero))))))) h = refl
eight x (suc (suc (suc (suc (suc (suc (suc (suc k)))))))) h = absurd (omega arith)

pub seven : (x b k : ℕ) → k < 8 → slice_index (x ∷ x ∷ x ∷ x ∷ x ∷ x ∷ b ∷ x ∷ []) k ≡ (if k == 6 then b else x)
seven x b zero h = refl
seven x b (suc zero) h = refl
seven x b (suc (suc zero)) h = refl
seven x b (suc (suc (suc zero))) h = refl
seven x b (suc (suc (suc (suc zero)))) h = refl
seven x b (suc (suc (suc (suc (suc zero))))) h = refl
seven x b (suc (suc (suc (suc (suc (suc zero)))))) h = refl
seven x b (suc (suc (suc (suc (suc (suc (suc zero))))))) h = refl
seven x b (suc (suc (suc (suc (suc (suc (suc (suc k)))))))) h = absurd (omega arith)

-- the words of a machine whose call has just begun
pub record IsPushed (old new : Frames) (base fill : ℕ) : Type 0 where
  pub globals : new.globals ≡ old.globals
  pub outs : new.outs ≡ fill ∷ fill ∷ fill ∷ fill ∷ fill ∷ fill ∷ base ∷ fill ∷ []
  pub locals : new.locals ≡ fill ∷ fill ∷ fill ∷ fill ∷ fill ∷ fill ∷ fill ∷ fill ∷ []
  pub ins : new.ins ≡ old.outs
  pub first : new.slots.first ≡ base + 64
  pub words : new.slots.words.items ≡ replicate ((slice_index old.outs 6 - base - 64 + 3) / 4) fill
  pub older : new.older.items ≡ old.older.items ++ record { locals = old.locals; ins = old.ins; slots = old.slots } ∷ []

-- where a register's word is
pub word_low : (m : Frames) (r : ℕ) → r < 8 → word_of m r ≡ slice_index m.globals r
word_low m r high = grind (arith, nat_tests)

pub word_out : (m : Frames) (r : ℕ) → 8 ≤ r → r < 16 → word_of m r ≡ slice_index m.outs (r - 8)
word_out m r low high = grind (arith, nat_tests)

pub word_local : (m : Frames) (r : ℕ) → 16 ≤ r → r < 24 → word_of m r ≡ slice_index m.locals (r - 16)
word_local m r low high = grind (arith, nat_tests)

pub word_from : (m : Frames) (r : ℕ) → 24 ≤ r → word_of m r ≡ slice_index m.ins (r - 24)
word_from m r low = grind (arith, nat_tests)

read_out : (file : Registers) (r : ℕ) → 8 ≤ r → r < 16 → word_in file r ≡ file.newest.outs r
read_out file r low high = grind (arith, nat_tests)

read_local : (file : Registers) (r : ℕ) → 16 ≤ r → r < 24 → word_in file r ≡ file.newest.locals r
read_local file r low high = grind (arith, nat_tests)

read_in : (file : Registers) (r : ℕ) → 24 ≤ r → word_in file r ≡ ins_of file.older file.oldest_ins r
read_in file r low = grind (arith, nat_tests)

get_by : (n k x : ℕ) (b : Bool) → nat_lt k n ≡ b → slice_get (replicate n x) k ≡ (if b then Some x else None)
get_by n k x true e =
    let within : k < n = grind (arith, nat_tests) in
    slice_get-get_or (replicate n x) k 0 (omega (arith, length-replicate n x)) ∙ ap Some (get_or-replicate n k x 0 within)
get_by n k x false e = let past : n ≤ k = grind (arith, nat_tests) in slice_get_past (replicate n x) k (omega (arith, length-replicate n x))

get_replicate : (n k x : ℕ) → slice_get (replicate n x) k ≡ (if nat_lt k n then Some x else None)
get_replicate n k x = get_by n k x (nat_lt k n) refl

if_both : (a b : Bool) (x : Option ℕ) → (if a && b then x else None) ≡ (if a then (if b then x else None) else None)
if_both true b x = refl
if_both false b x = refl

same_slot : (base top a : ℕ) → base % 8 ≡ 0 → base + 64 ≤ top →
    is_slot base top a ≡ ((nat_le (base + 64) a && ((a - (base + 64)) % 4 == 0)) && nat_lt ((a - (base + 64)) / 4) ((top - base - 64 + 3) / 4))
same_slot base top a whole room = grind (arith, nat_tests)

slot_same : (fill base top a : ℕ) → base % 8 ≡ 0 → base + 64 ≤ top → (if is_slot base top a then Some fill else None) ≡ slot_at (base + 64) (replicate ((top - base - 64 + 3) / 4) fill) a
slot_same fill base top a whole room =
    let count = (top - base - 64 + 3) / 4 in
    let first = nat_le (base + 64) a && ((a - (base + 64)) % 4 == 0) in
    ap (λ (b : Bool). if b then Some fill else None) (same_slot base top a whole room)
    ∙ if_both first (nat_lt ((a - (base + 64)) / 4) count) (Some fill)
    ∙ ap (λ x. if first then x else None) (sym (get_replicate count ((a - (base + 64)) / 4) fill))

module _ (old new : Frames) (base fill : ℕ) (file : Registers) (is : IsPushed old new base fill) (h : ShowsFrames old file) where
  abbrev file_after : Registers
  file_after = pushed (filled fill) base file

  out_by : (r : ℕ) → 8 ≤ r → r < 16 → (b : Bool) → ((r - 8) == 6) ≡ b → word_in file_after r ≡ (if b then base else fill)
  out_by r low high true e = let same : r ≡ 14 = grind (arith, nat_tests) in subst (λ k. word_in file_after k ≡ base) (sym same) (base_pushed (filled fill) base file)
  out_by r low high false e = let apart : r ≢ 14 = grind (arith, nat_tests) in outs_pushed (filled fill) base file r low high apart

  word_by : (r : ℕ) → r < 32 → (r < 8) ⊎ (8 ≤ r) → (r < 16) ⊎ (16 ≤ r) → (r < 24) ⊎ (24 ≤ r) → word_in file_after r ≡ word_of new r
  word_by r less (inl low) b c =
      globals_pushed (filled fill) base file r low ∙ h.registers r less ∙ word_low old r low
      ∙ ap (λ l. slice_index l r) (sym is.globals) ∙ sym (word_low new r low)
  word_by r less (inr past) (inl low) c =
      out_by r past low ((r - 8) == 6) refl ∙ sym (seven fill base (r - 8) (omega arith))
      ∙ ap (λ l. slice_index l (r - 8)) (sym is.outs) ∙ sym (word_out new r past low)
  word_by r less (inr far) (inr past) (inl low) =
      locals_pushed (filled fill) base file r past low ∙ sym (eight fill (r - 16) (omega arith))
      ∙ ap (λ l. slice_index l (r - 16)) (sym is.locals) ∙ sym (word_local new r past low)
  word_by r less (inr far) (inr farther) (inr past) =
      let e : r - 16 - 8 ≡ r - 24 = omega arith in
      ins_pushed (filled fill) base file r past less ∙ h.registers (r - 16) (omega arith) ∙ word_out old (r - 16) (omega arith) (omega arith)
      ∙ ap (slice_index old.outs) e ∙ ap (λ l. slice_index l (r - 24)) (sym is.ins) ∙ sym (word_from new r past)

  caller_pushed : ShowsCaller (record { locals = old.locals; ins = old.ins; slots = old.slots }) file.newest (ins_of file.older file.oldest_ins)
  caller_pushed = record {
    locals = λ k less.
        let e : 16 + k - 16 ≡ k = omega arith in
        sym (read_local file (16 + k) (omega arith) (omega arith)) ∙ h.registers (16 + k) (omega arith) ∙ word_local old (16 + k) (omega arith) (omega arith) ∙ ap (slice_index old.locals) e;
    ins_read = λ k less.
        let e : 24 + k - 24 ≡ k = omega arith in
        sym (read_in file (24 + k) (omega arith)) ∙ h.registers (24 + k) (omega arith) ∙ word_from old (24 + k) (omega arith) ∙ ap (slice_index old.ins) e;
    slots = h.slots;
  }

  callers_pushed : ShowsCallers (reverse new.older.items) file_after.older file_after.oldest_ins
  callers_pushed =
      let saved : Saved = record { locals = old.locals; ins = old.ins; slots = old.slots } in
      let e : reverse new.older.items ≡ saved ∷ reverse old.older.items = ap reverse is.older ∙ reverse-append old.older.items (saved ∷ []) in
      subst (λ ms. ShowsCallers ms (file.newest ∷ file.older) file.oldest_ins) (sym e) (caller_pushed, h.callers)

  -- where the older base is
  older_base : file.newest.outs 14 ≡ slice_index old.outs 6
  older_base = sym (read_out file 14 (omega arith) (omega arith)) ∙ h.registers 14 (omega arith)

  slots_pushed : base % 8 ≡ 0 → base + 64 ≤ slice_index old.outs 6 → ShowsSlots new.slots file_after.newest.slots
  slots_pushed whole room a =
      let top = slice_index old.outs 6 in
      let count = (top - base - 64 + 3) / 4 in
      ap (λ t. if is_slot base t a then Some fill else None) older_base
      ∙ slot_same fill base top a whole room
      ∙ ap (λ f. slot_at f (replicate count fill) a) (sym is.first)
      ∙ ap (λ l. slot_at new.slots.first l a) (sym is.words)

  pub push_shows : base % 8 ≡ 0 → base + 64 ≤ slice_index old.outs 6 → ShowsFrames new file_after
  push_shows whole room = record {
    registers = λ r less. word_by r less (search arith) (search arith) (search arith);
    slots = slots_pushed whole room;
    callers = callers_pushed;
  }

-- ---- back to the caller

-- frames after a RESTORE: outs are the ins that were, and the rest is the caller's
pub record IsPopped (old new : Frames) (caller : Saved) : Type 0 where
  pub globals : new.globals ≡ old.globals
  pub outs : new.outs ≡ old.ins
  pub locals : new.locals ≡ caller.locals
  pub ins : new.ins ≡ caller.ins
  pub slots : new.slots ≡ caller.slots
  pub older : old.older.items ≡ new.older.items ++ caller ∷ []

module _ (old new : Frames) (caller : Saved) (is : IsPopped old new caller) (globals oldest : Words) (newest back : Frame) (rest : List Frame)
    (h : ShowsFrames old (record { globals = globals; newest = newest; older = back ∷ rest; oldest_ins = oldest }))
    (c : ShowsCaller caller back (ins_of rest oldest)) where
  abbrev before : Registers
  before = record { globals = globals; newest = newest; older = back ∷ rest; oldest_ins = oldest }

  abbrev after : Registers
  after = record { globals = globals; newest = back; older = rest; oldest_ins = oldest }

  same_low : (r : ℕ) → r < 8 → word_in after r ≡ word_in before r
  same_low r low = grind (arith, nat_tests)

  out_as_in : (r : ℕ) → 8 ≤ r → r < 16 → word_in after r ≡ word_in before (r + 16)
  out_as_in r low high = grind (arith, nat_tests)

  word_back : (r : ℕ) → r < 32 → (r < 8) ⊎ (8 ≤ r) → (r < 16) ⊎ (16 ≤ r) → (r < 24) ⊎ (24 ≤ r) → word_in after r ≡ word_of new r
  word_back r less (inl low) b d =
      same_low r low ∙ h.registers r less ∙ word_low old r low ∙ ap (λ l. slice_index l r) (sym is.globals) ∙ sym (word_low new r low)
  word_back r less (inr past) (inl low) d =
      let e : r + 16 - 24 ≡ r - 8 = omega arith in
      out_as_in r past low ∙ h.registers (r + 16) (omega arith) ∙ word_from old (r + 16) (omega arith)
      ∙ ap (slice_index old.ins) e ∙ ap (λ l. slice_index l (r - 8)) (sym is.outs) ∙ sym (word_out new r past low)
  word_back r less (inr far) (inr past) (inl low) =
      let e : 16 + (r - 16) ≡ r = omega arith in
      read_local after r past low ∙ ap back.locals (sym e) ∙ c.locals (r - 16) (omega arith)
      ∙ ap (λ l. slice_index l (r - 16)) (sym is.locals) ∙ sym (word_local new r past low)
  word_back r less (inr far) (inr farther) (inr past) =
      let e : 24 + (r - 24) ≡ r = omega arith in
      read_in after r past ∙ ap (ins_of rest oldest) (sym e) ∙ c.ins_read (r - 24) (omega arith)
      ∙ ap (λ l. slice_index l (r - 24)) (sym is.ins) ∙ sym (word_from new r past)

  back_shows : ShowsCallers (reverse new.older.items) rest oldest → ShowsFrames new after
  back_shows others = record {
    registers = λ r less. word_back r less (search arith) (search arith) (search arith);
    slots = subst (λ s. ShowsSlots s back.slots) (sym is.slots) c.slots;
    callers = others;
  }

pop_by : (old new : Frames) (caller : Saved) → IsPopped old new caller → (globals oldest : Words) (newest : Frame) (older : List Frame) →
    ShowsFrames old (record { globals = globals; newest = newest; older = older; oldest_ins = oldest }) →
    ShowsCallers (caller ∷ reverse new.older.items) older oldest → Pops true (popped (record { globals = globals; newest = newest; older = older; oldest_ins = oldest })) old new
pop_by old new caller is globals oldest newest [] h callers = absurd callers
pop_by old new caller is globals oldest newest (back ∷ rest) h callers = back_shows old new caller is globals oldest newest back rest h callers.0 callers.1

pub pop_shows : (old new : Frames) (caller : Saved) (file : Registers) → IsPopped old new caller → ShowsFrames old file → Pops true (popped file) old new
pop_shows old new caller file is h =
    let e : reverse old.older.items ≡ caller ∷ reverse new.older.items = ap reverse is.older ∙ reverse-append new.older.items (caller ∷ []) in
    pop_by old new caller is file.globals file.oldest_ins file.newest file.older h (subst (λ ms. ShowsCallers ms file.older file.oldest_ins) e h.callers)

none_by : (old : Frames) (globals oldest : Words) (newest : Frame) (older : List Frame) → ShowsCallers [] older oldest →
    Pops false (popped (record { globals = globals; newest = newest; older = older; oldest_ins = oldest })) old old
none_by old globals oldest newest [] h = refl
none_by old globals oldest newest (f ∷ fs) h = absurd h

pub none_pops : (old : Frames) (file : Registers) → old.older.items ≡ [] → ShowsFrames old file → Pops false (popped file) old old
none_pops old file none h = none_by old file.globals file.oldest_ins file.newest file.older (subst (λ ms. ShowsCallers (reverse ms) file.older file.oldest_ins) none h.callers)
