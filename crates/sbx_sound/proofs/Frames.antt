-- Registers that show what is shared go on showing it: writes, SAVE, RESTORE, CALL and the return of a leaf.
use Rattle.std.proofs.Common.{◌≡◌, ◌≢◌, ℕ, zero, suc, ◌+◌, ◌-◌, ◌*◌, ◌%◌, ◌<◌, ◌≤◌, Bool, true, false, List, [], ◌∷◌, Option, Some, None, refl, sym, ap, ◌∙◌, subst, ⊎_elim, arith}
use Rattle.std.proofs.lemmas.Bool.{cases_lt}
use Rattle.std.specs.Prelude.{◌==◌, nat_lt, nat_le, if◌then◌else◌, unwrap_or}
use Rattle.std.proofs.lemmas.Bool.Decides.{nat_tests}
use Rattle.sbx_flat.specs.Registers.{Frame, Registers, Words, Fresh, with_word, word_in, ins_of, written, is_slot, pushed, popped, with_slot}
use Rattle.sbx_sound.proofs.Shared.{HasNoSlotsBelow, HasSlots, Open, ShowsCalls, ShowsFile, Window, Own, Lent, frame_word, frames_of_callers, kept_word}
use Rattle.sbx_sound.proofs.Shared.{own_bytes, slot_word, word_at_location, with_location}

-- a write to the outs of the first of these frames, but to %sp and %o7
other_word : (words : Words) (m v n : ℕ) → n ≢ m → with_word words m v n ≡ words n
other_word words m v n apart = grind (arith, nat_tests)

pub first_changed : (calls : List Open) (f : Frame) (fs : List Frame) (oldest : Words) (m v : ℕ) → 14 ≢ m → 15 ≢ m → ShowsCalls calls (f ∷ fs) oldest →
    ShowsCalls calls (record f { outs = with_word f.outs m v } ∷ fs) oldest
first_changed [] f [] oldest m v a b h = other_word f.outs m v 14 a ∙ h
first_changed [] f (g ∷ fs) oldest m v a b h = absurd h
first_changed (c ∷ cs) f fs oldest m v a b h =
    let s = h.0 in
    (record { base = other_word f.outs m v 14 a ∙ s.base; back = other_word f.outs m v 15 b ∙ s.back; kept = s.kept; slots = s.slots; below = s.below }, h.1)

-- which registers a function may write: not those of the stack and of the return, and without a window no local and no in
pub record IsFree (window : Window) (n : ℕ) : Type 0 where
  pub register : n < 32
  pub sp : 14 ≢ n
  pub fp : 30 ≢ n
  pub i7 : 31 ≢ n
  pub lent : window ≡ Lent → (n < 16) × (15 ≢ n)

-- ---- reading by class

module _ (base : ℕ) (file : Registers) (l : ℕ) where
  pub read_global : l < 8 → word_at_location base file l ≡ (if l == 0 then 0 else file.globals l)
  read_global h = grind (arith, nat_tests)

  pub read_out : 8 ≤ l → l < 16 → word_at_location base file l ≡ file.newest.outs l
  read_out g h = grind (arith, nat_tests)

  pub read_local : 16 ≤ l → l < 24 → word_at_location base file l ≡ file.newest.locals l
  read_local g h = grind (arith, nat_tests)

  pub read_in : 24 ≤ l → l < 32 → word_at_location base file l ≡ ins_of file.older file.oldest_ins l
  read_in g h = grind (arith, nat_tests)

  -- a location that a call leaves alone
  pub read_kept : 16 ≤ l → word_at_location base file l ≡ kept_word base file.newest file.older file.oldest_ins l
  read_kept g = grind (arith, nat_tests)

-- ---- writes

wrote_global : (n v : ℕ) (file : Registers) → 0 < n → n < 8 → written n v file ≡ record file { globals = with_word file.globals n v }
unfolding written
wrote_global n v file g h = grind (arith, nat_tests)

wrote_out : (n v : ℕ) (file : Registers) → 8 ≤ n → n < 16 → written n v file ≡ record file { newest = record file.newest { outs = with_word file.newest.outs n v } }
unfolding written
wrote_out n v file g h = grind (arith, nat_tests)

wrote_local : (n v : ℕ) (file : Registers) → 16 ≤ n → n < 24 → written n v file ≡ record file { newest = record file.newest { locals = with_word file.newest.locals n v } }
unfolding written
wrote_local n v file g h = grind (arith, nat_tests)

wrote_in : (n v : ℕ) (globals : Words) (newest f : Frame) (fs : List Frame) (oldest : Words) → 24 ≤ n →
    written n v (record { globals = globals; newest = newest; older = f ∷ fs; oldest_ins = oldest }) ≡
    record { globals = globals; newest = newest; older = record f { outs = with_word f.outs (n - 16) v } ∷ fs; oldest_ins = oldest }
unfolding written
wrote_in n v globals newest f fs oldest g = grind (arith, nat_tests)

-- what a location reads after a write to a register
word_written : (base n v : ℕ) (file : Registers) (l : ℕ) → n < 32 →
    word_at_location base (written n v file) l ≡ (if n == 0 then word_at_location base file l else (if l == n then v else word_at_location base file l))
unfolding written
word_written base n v file l h = grind (arith, nat_tests)

chosen : (n l v x y : ℕ) → (l ≢ n → x ≡ y) → (n ≡ 0 → l ≢ 0) → (if n == 0 then x else (if l == n then v else x)) ≡ (if n == 0 then y else (if l == n then v else y))
chosen n l v x y same some = grind (arith, nat_tests)

not_zero : (now : ℕ → Bool) (l : ℕ) → now 0 ≡ false → now l ≡ true → l ≢ 0
not_zero now zero a b e = absurd (cc)
not_zero now (suc l) a b e = omega arith

-- the calls and the frame's slots after a write to a register
record Stands (window : Window) (base : ℕ) (calls : List Open) (file : Registers) : Type 0 where
  base_is : file.newest.outs 14 ≡ base
  calls_are : ShowsCalls calls (frames_of_callers window file) file.oldest_ins
  slots : HasSlots base (own_bytes window) file.newest
  below : HasNoSlotsBelow file.newest

outs_stand : (window : Window) (base n v : ℕ) (calls : List Open) (file : Registers) → IsFree window n → Stands window base calls file →
    Stands window base calls (record file { newest = record file.newest { outs = with_word file.newest.outs n v } })
outs_stand (Own size) base n v calls file free s = record { base_is = other_word file.newest.outs n v 14 free.sp ∙ s.base_is; calls_are = s.calls_are; slots = s.slots; below = s.below }
outs_stand Lent base n v calls file free s =
    record {
      base_is = other_word file.newest.outs n v 14 free.sp ∙ s.base_is;
      calls_are =
          first_changed calls file.newest file.older file.oldest_ins n v free.sp ((free.lent refl).1) s.calls_are;
      slots = s.slots;
      below = s.below;
    }

globals_stand : (window : Window) (base n v : ℕ) (calls : List Open) (file : Registers) → Stands window base calls file →
    Stands window base calls (record file { globals = with_word file.globals n v })
globals_stand (Own size) base n v calls file s = record { base_is = s.base_is; calls_are = s.calls_are; slots = s.slots; below = s.below }
globals_stand Lent base n v calls file s = record { base_is = s.base_is; calls_are = s.calls_are; slots = s.slots; below = s.below }

locals_stand : (window : Window) (base n v : ℕ) (calls : List Open) (file : Registers) → 16 ≤ n → IsFree window n → Stands window base calls file →
    Stands window base calls (record file { newest = record file.newest { locals = with_word file.newest.locals n v } })
locals_stand (Own size) base n v calls file above free s = record { base_is = s.base_is; calls_are = s.calls_are; slots = s.slots; below = s.below }
locals_stand Lent base n v calls file above free s = absurd (let low = (free.lent refl).0 in omega arith)

ins_stand : (window : Window) (base n v : ℕ) (calls : List Open) (globals : Words) (newest : Frame) (older : List Frame) (oldest : Words) → 24 ≤ n → IsFree window n →
    let file : Registers = record { globals = globals; newest = newest; older = older; oldest_ins = oldest } in
    Stands window base calls file → Stands window base calls (written n v file)
ins_stand Lent base n v calls globals newest older oldest above free s = absurd (let low = (free.lent refl).0 in omega arith)
ins_stand (Own size) base n v [] globals newest [] oldest above free s = absurd s.calls_are
ins_stand (Own size) base n v (c ∷ cs) globals newest [] oldest above free s = absurd s.calls_are
ins_stand (Own size) base n v calls globals newest (f ∷ fs) oldest above free s =
    let not_fp = free.fp in let not_i7 = free.i7 in
    subst (Stands (Own size) base calls) (sym (wrote_in n v globals newest f fs oldest above))
    (record { base_is = s.base_is; calls_are = first_changed calls f fs oldest (n - 16) v (λ e. not_fp (omega arith)) (λ e. not_i7 (omega arith)) s.calls_are; slots = s.slots; below = s.below })

by_class : (P : Type 0) (n : ℕ) → (n ≡ 0 → P) → (0 < n → n < 8 → P) → (8 ≤ n → n < 16 → P) → (16 ≤ n → n < 24 → P) → (24 ≤ n → P) → P
by_class P n z g o l i =
    ⊎_elim (λ a. ⊎_elim (λ b. z (omega arith)) (λ b. g b a) (cases_lt n 1)) (λ a. ⊎_elim (λ b. o a b) (λ b. ⊎_elim (λ c. l b c) i (cases_lt n 24)) (cases_lt n 16)) (cases_lt n 8)

write_stands : (window : Window) (base n v : ℕ) (calls : List Open) (file : Registers) → IsFree window n → Stands window base calls file → Stands window base calls (written n v file)
unfolding written
write_stands window base n v calls file free s =
    by_class (Stands window base calls (written n v file)) n
    (λ e. subst (λ m. Stands window base calls (written m v file)) (sym e) s)
    (λ a b. subst (Stands window base calls) (sym (wrote_global n v file a b)) (globals_stand window base n v calls file s))
    (λ a b. subst (Stands window base calls) (sym (wrote_out n v file a b)) (outs_stand window base n v calls file free s))
    (λ a b. subst (Stands window base calls) (sym (wrote_local n v file a b)) (locals_stand window base n v calls file a free s))
    (λ a. ins_stand window base n v calls file.globals file.newest file.older file.oldest_ins a free s)

-- a register written
pub write_shows : (window : Window) (known now : ℕ → Bool) (base n v : ℕ) (words : Words) (calls : List Open) (file : Registers) → IsFree window n →
    now 0 ≡ false → ((l : ℕ) → now l ≡ true → l ≢ n → known l ≡ true)
    → ShowsFile window known base words calls file → ShowsFile window now base (with_location n v words) calls (written n v file)
write_shows window known now base n v words calls file free none fewer s =
    let stands = write_stands window base n v calls file free (record { base_is = s.base_is; calls_are = s.calls_are; slots = s.slots; below = s.below }) in
    record {
      base_is = stands.base_is;
      words_are = λ l h. word_written base n v file l free.register ∙ chosen n l v (word_at_location base file l) (words l) (λ apart. s.words_are l (fewer l h apart)) (λ e. not_zero now l none h);
      calls_are = stands.calls_are;
      slots = stands.slots;
      below = stands.below;
    }

-- ---- frame words

some_of_if : (t : Bool) (v : ℕ) (o : Option ℕ) → o ≡ Some (unwrap_or o 0) → (if t then Some v else o) ≡ Some (unwrap_or (if t then Some v else o) 0)
some_of_if true v o h = refl
some_of_if false v o h = h

pub low_location : (base : ℕ) (file : Registers) (l : ℕ) → l < 32 → word_at_location base file l ≡ word_in file l
low_location base file l h = grind (arith, nat_tests)

pub high_location : (base : ℕ) (file : Registers) (l : ℕ) → 32 ≤ l → word_at_location base file l ≡ slot_word base file.newest (l - 32)
high_location base file l h = grind (arith, nat_tests)

same_if : (t u : Bool) (v : ℕ) (o : Option ℕ) → t ≡ u → unwrap_or (if t then Some v else o) 0 ≡ (if u then v else unwrap_or o 0)
same_if true true v o e = refl
same_if false false v o e = refl
same_if true false v o e = absurd (cc)
same_if false true v o e = absurd (cc)

same_slot : (base j l : ℕ) → 32 ≤ l → (base + 64 + 4 * (l - 32) == base + 64 + 4 * j) ≡ (l == 32 + j)
same_slot base j l h = grind (arith, nat_tests)

-- what a location reads after a write to a frame word
slot_read : (base j v : ℕ) (file : Registers) (l : ℕ) → word_at_location base (with_slot (base + 64 + 4 * j) v file) l ≡ (if l == 32 + j then v else word_at_location base file l)
slot_read base j v file l =
    ⊎_elim
    (λ h. low_location base (with_slot (base + 64 + 4 * j) v file) l h ∙ sym (low_location base file l h) ∙ not_this (word_at_location base file l) h)
    (λ h. high_location base (with_slot (base + 64 + 4 * j) v file) l h
    ∙ same_if (base + 64 + 4 * (l - 32) == base + 64 + 4 * j) (l == 32 + j) v (frame_word base file.newest (l - 32)) (same_slot base j l h)
    ∙ ap (λ x. if l == 32 + j then v else x) (sym (high_location base file l h)))
    (cases_lt l 32)
  where
    not_this : (x : ℕ) → l < 32 → x ≡ (if l == 32 + j then v else x)
    not_this x h = grind (arith, nat_tests)

chosen_slot : (j l v x y : ℕ) → (l ≢ 32 + j → x ≡ y) → (if l == 32 + j then v else x) ≡ (if 32 + j == 0 then y else (if l == 32 + j then v else y))
chosen_slot j l v x y same = grind (arith, nat_tests)

-- a slot that is there isn't below the stack
none_below : (place a v : ℕ) (slots : ℕ → Option ℕ) → a < 0x000F0000 → slots place ≡ Some (unwrap_or (slots place) 0) →
    ((a : ℕ) → a < 0x000F0000 → slots a ≡ None) → (if a == place then Some v else slots a) ≡ None
none_below place a v slots low there none = by_test (a == place) refl
  where
    by_test : (t : Bool) → (a == place) ≡ t → (if t then Some v else slots a) ≡ None
    by_test true e = absurd (let same : place ≡ a = grind (arith, nat_tests) in let n = none place (omega arith) in cc)
    by_test false e = none a low

-- a frame word written
pub slot_shows : (size : ℕ) (known now : ℕ → Bool) (base j v : ℕ) (words : Words) (calls : List Open) (file : Registers) → 4 * j + 68 ≤ size → now 0 ≡ false →
    ((l : ℕ) → now l ≡ true → l ≢ 32 + j → known l ≡ true)
    → ShowsFile (Own size) known base words calls file → ShowsFile (Own size) now base (with_location (32 + j) v words) calls (with_slot (base + 64 + 4 * j) v file)
slot_shows size known now base j v words calls file within none fewer s = record {
  base_is = s.base_is;
  words_are = λ l h. slot_read base j v file l ∙ chosen_slot j l v (word_at_location base file l) (words l) (λ apart. s.words_are l (fewer l h apart));
  calls_are = s.calls_are;
  slots = λ i h. some_of_if (base + 64 + 4 * i == base + 64 + 4 * j) v (frame_word base file.newest i) (s.slots i h);
  below = λ a h. none_below (base + 64 + 4 * j) a v file.newest.slots h (s.slots j within) s.below;
}

-- ---- SAVE

-- the ins of the new frame are the outs of the older one
abbrev pub moved_in : Words → Words
moved_in words l = words (l - 16)

some_if : (t : Bool) (x : ℕ) → t ≡ true → (if t then Some x else None) ≡ Some (unwrap_or (if t then Some x else None) 0)
some_if true x e = refl
some_if false x e = absurd (cc)

slot_there : (b n older j : ℕ) → older ≡ b + n → b % 8 ≡ 0 → 4 * j + 68 ≤ n → is_slot b older (b + 64 + 4 * j) ≡ true
slot_there b n older j e m h = grind (arith, nat_tests)

no_slot_below : (b older a : ℕ) → 0x000F0000 ≤ b → a < 0x000F0000 → is_slot b older a ≡ false
no_slot_below b older a high low = grind (arith, nat_tests)

pub push_shows : (known now : ℕ → Bool) (base b n : ℕ) (words : Words) (calls : List Open) (fresh : Fresh) (file : Registers) → base ≡ b + n → b % 8 ≡ 0 → 0x000F0000 ≤ b
    → ((l : ℕ) → now l ≡ true → (24 ≤ l) × (l < 32) × (known (l - 16) ≡ true))
    → ShowsFile Lent known base words calls file → ShowsFile (Own n) now b (moved_in words) calls (pushed fresh b file)
push_shows known now base b n words calls fresh file below eight high moved s = record {
  base_is = refl;
  words_are = λ l h.
      let m = moved l h in
      read_in b (pushed fresh b file) l m.0 m.1 ∙ sym (read_out base file (l - 16) (let a = m.0 in omega arith) (let a = m.1 in omega arith)) ∙ s.words_are (l - 16) m.2;
  calls_are = s.calls_are;
  slots = λ j h. some_if (is_slot b (file.newest.outs 14) (b + 64 + 4 * j)) (fresh.slots (b + 64 + 4 * j)) (slot_there b n (file.newest.outs 14) j (s.base_is ∙ below) eight h);
  below = λ a h. ap (λ (t : Bool). if t then Some (fresh.slots a) else None) (no_slot_below b (file.newest.outs 14) a high h);
}

-- ---- RESTORE

-- what a caller finds: globals, the callee's ins in its outs, and what it kept
abbrev pub given_back : Open → Words → Words
given_back c words l = if nat_lt l 8 then words l else (if nat_lt l 16 then words (l + 16) else c.words l)

-- what is known of it
pub record IsGivenBack (c : Open) (known now : ℕ → Bool) : Type 0 where
  pub globals : (l : ℕ) → now l ≡ true → l < 8 → known l ≡ true
  pub outs : (l : ℕ) → now l ≡ true → 8 ≤ l → l < 16 → known (l + 16) ≡ true
  pub kept : (l : ℕ) → now l ≡ true → 16 ≤ l → c.known l ≡ true

back_global : (c : Open) (words : Words) (l : ℕ) → l < 8 → given_back c words l ≡ words l
back_global c words l h = grind (arith, nat_tests)

back_out : (c : Open) (words : Words) (l : ℕ) → 8 ≤ l → l < 16 → given_back c words l ≡ words (l + 16)
back_out c words l g h = grind (arith, nat_tests)

back_kept : (c : Open) (words : Words) (l : ℕ) → 16 ≤ l → given_back c words l ≡ c.words l
back_kept c words l h = grind (arith, nat_tests)

by_third : (P : Type 0) (n : ℕ) → (n < 8 → P) → (8 ≤ n → n < 16 → P) → (16 ≤ n → P) → P
by_third P n a b c = ⊎_elim a (λ h. ⊎_elim (b h) c (cases_lt n 16)) (cases_lt n 8)

-- A frame popped, as RESTORE does before it writes.
pub record Popped (window : Window) (known : ℕ → Bool) (base : ℕ) (words : Words) (calls : List Open) (file : Registers) : Type 0 where
  pub left : Registers
  pub pops : popped file ≡ Some left
  pub shows : ShowsFile window known base words calls left

pop_these : (n : ℕ) (known now : ℕ → Bool) (base : ℕ) (words : Words) (c : Open) (cs : List Open) (globals : Words) (newest : Frame) (older : List Frame) (oldest : Words) → IsGivenBack c known now →
    let file : Registers = record { globals = globals; newest = newest; older = older; oldest_ins = oldest } in
    ShowsFile (Own n) known base words (c ∷ cs) file → Popped (Own c.frame) now c.base (given_back c words) cs file
pop_these n known now base words c cs globals newest [] oldest gives s = absurd s.calls_are
pop_these n known now base words c cs globals newest (f ∷ fs) oldest gives s =
    let file : Registers = record { globals = globals; newest = newest; older = f ∷ fs; oldest_ins = oldest } in
    let left : Registers = record { globals = globals; newest = f; older = fs; oldest_ins = oldest } in
    let call = s.calls_are.0 in
    record {
      left = left;
      pops = refl;
      shows = record {
        base_is = call.base;
        words_are = λ l h. by_third (word_at_location c.base left l ≡ given_back c words l) l
            (λ a. read_global c.base left l a ∙ sym (read_global base file l a) ∙ s.words_are l (gives.globals l h a) ∙ sym (back_global c words l a))
            (λ a b. read_out c.base left l a b ∙ ap f.outs (let e : l ≡ l + 16 - 16 = omega arith in e)
            ∙ sym (read_in base file (l + 16) (omega arith) (omega arith)) ∙ s.words_are (l + 16) (gives.outs l h a b) ∙ sym (back_out c words l a b))
            (λ a. read_kept c.base left l a ∙ call.kept l (grind (arith, nat_tests)) (gives.kept l h a) ∙ sym (back_kept c words l a));
        calls_are = s.calls_are.1;
        slots = call.slots;
        below = call.below;
      };
    }

pub pop_shows : (n : ℕ) (known now : ℕ → Bool) (base : ℕ) (words : Words) (c : Open) (cs : List Open) (file : Registers) → IsGivenBack c known now →
    ShowsFile (Own n) known base words (c ∷ cs) file → Popped (Own c.frame) now c.base (given_back c words) cs file
pop_shows n known now base words c cs file gives s = pop_these n known now base words c cs file.globals file.newest file.older file.oldest_ins gives s

-- ---- calls and returns without a window of their own

-- what a leaf's caller finds: globals and outs as they are, and what it kept
abbrev pub left_by_leaf : Open → Words → Words
left_by_leaf c words l = if nat_lt l 16 then words l else c.words l

leaf_low : (c : Open) (words : Words) (l : ℕ) → l < 16 → left_by_leaf c words l ≡ words l
leaf_low c words l h = grind (arith, nat_tests)

leaf_kept : (c : Open) (words : Words) (l : ℕ) → 16 ≤ l → left_by_leaf c words l ≡ c.words l
leaf_kept c words l h = grind (arith, nat_tests)

same_low : (a b : ℕ) (file : Registers) (l : ℕ) → l < 16 → word_at_location a file l ≡ word_at_location b file l
same_low a b file l h = grind (arith, nat_tests)

pub leaf_shows : (known now : ℕ → Bool) (base : ℕ) (words : Words) (c : Open) (cs : List Open) (file : Registers)
    → ((l : ℕ) → now l ≡ true → l < 16 → known l ≡ true) → ((l : ℕ) → now l ≡ true → 16 ≤ l → c.known l ≡ true)
    → ShowsFile Lent known base words (c ∷ cs) file → ShowsFile (Own c.frame) now c.base (left_by_leaf c words) cs file
leaf_shows known now base words c cs file low kept s =
    let call = s.calls_are.0 in
    record {
      base_is = call.base;
      words_are = λ l h. ⊎_elim
          (λ a. same_low c.base base file l a ∙ s.words_are l (low l h a) ∙ sym (leaf_low c words l a))
          (λ a. read_kept c.base file l a ∙ call.kept l (grind (arith, nat_tests)) (kept l h a) ∙ sym (leaf_kept c words l a))
          (cases_lt l 16);
      calls_are = s.calls_are.1;
      slots = call.slots;
      below = call.below;
    }

-- A call pushes what the caller keeps; its window is lent.
pub call_shows : (known now : ℕ → Bool) (words : Words) (c : Open) (cs : List Open) (file : Registers)
    → ((l : ℕ) → now l ≡ true → known l ≡ true) → ((l : ℕ) → nat_le 16 l ≡ true → c.known l ≡ true → (known l ≡ true) × (c.words l ≡ words l)) → file.newest.outs 15 ≡ c.back
    → ShowsFile (Own c.frame) known c.base words cs file → ShowsFile Lent now c.base words (c ∷ cs) file
call_shows known now words c cs file fewer kept back s = record {
  base_is = s.base_is;
  words_are = λ l h. s.words_are l (fewer l h);
  calls_are = (
    record {
      base = s.base_is;
      back = back;
      kept = λ l a h. let k = kept l a h in sym (read_kept c.base file l (grind (arith, nat_tests))) ∙ s.words_are l k.0 ∙ sym k.1;
      slots = s.slots;
      below = s.below;
    },
    s.calls_are,
  );
  slots = λ j h. absurd (omega arith);
  below = s.below;
}
