-- What is known stays alike: read, written, with a frame pushed or popped.
use Rattle.std.proofs.Common.{◌≡◌, ◌≢◌, ℕ, ◌-◌, ◌<◌, ◌≤◌, Bool, true, false, ◌||◌, List, [], ◌∷◌, Some, refl, sym, ◌∙◌, subst, arith}
use Rattle.std.specs.Prelude.{◌==◌, nat_lt, if◌then◌else◌}
use Rattle.std.proofs.lemmas.Bool.Decides.{nat_tests}
use Rattle.sbx_flat.specs.Alike.{Alike, PopsAlike, AlikeFrame, AlikeFrames, AlikeRegisters, FrameKnown, Known, also, in_known, known_in, known_popped, known_pushed, known_slot, known_written, knows}
use Rattle.sbx_flat.specs.Registers.{Frame, Fresh, Registers, Words, ins_of, popped, pushed, with_in, with_slot, with_word, word_in, written}
use Rattle.sbx_flat.specs.States.{State, reg, with_reg}
use Rattle.sbx_flat.proofs.Kept.{below, from, pick}

-- ---- reads

ins_alike : (ks : List FrameKnown) (oldest : ℕ → Bool) (fs gs : List Frame) (i j : Words) (n : ℕ) → AlikeFrames ks fs gs →
    ((m : ℕ) → oldest m ≡ true → i m ≡ j m) → nat_lt n 32 ≡ true → in_known ks oldest n ≡ true → ins_of fs i n ≡ ins_of gs j n
ins_alike [] oldest [] [] i j n frames ins within h = ins n h
ins_alike (k ∷ ks) oldest (f ∷ fs) (g ∷ gs) i j n frames ins within h = frames.0.outs (n - 16) h (grind (arith, nat_tests))
ins_alike [] oldest [] (g ∷ gs) i j n frames ins within h = absurd frames
ins_alike [] oldest (f ∷ fs) [] i j n frames ins within h = absurd frames
ins_alike [] oldest (f ∷ fs) (g ∷ gs) i j n frames ins within h = absurd frames
ins_alike (k ∷ ks) oldest [] [] i j n frames ins within h = absurd frames
ins_alike (k ∷ ks) oldest [] (g ∷ gs) i j n frames ins within h = absurd frames
ins_alike (k ∷ ks) oldest (f ∷ fs) [] i j n frames ins within h = absurd frames

read_alike : (k : Known) (a b : Registers) (n : ℕ) → AlikeRegisters k a b → nat_lt n 32 ≡ true → knows k n ≡ true → word_in a n ≡ word_in b n
read_alike k a b n alike within h =
    let ins = ins_alike k.older k.oldest_ins a.older b.older a.oldest_ins b.oldest_ins n alike.older alike.oldest_ins within in
    let globals = alike.globals n in
    let outs = alike.newest.outs n in
    let locals = alike.newest.locals n in
    grind (arith, nat_tests)

pub reads_alike : (k : Known) (s t : State) (r : ℕ) → Alike k s t → r < 32 → knows k r ≡ true → reg s r ≡ reg t r
unfolding reg
reads_alike k s t r a small h = let within : nat_lt r 32 ≡ true = grind (arith, nat_tests) in read_alike k s.registers t.registers r a.registers within h

-- ---- writes

-- the same test decides three times
three : {A B C : Type 0} (P : A → B → C → Type 0) (t : Bool) (x y : A) (u v : B) (p q : C) → (t ≡ true → P x u p) → (t ≡ false → P y v q) →
    P (if t then x else y) (if t then u else v) (if t then p else q)
three P true x y u v p q f g = f refl
three P false x y u v p q f g = g refl

two : {A : Type 0} (P : A → A → Type 0) (t : Bool) (x y u v : A) → (t ≡ true → P x u) → (t ≡ false → P y v) → P (if t then x else y) (if t then u else v)
two P true x y u v f g = f refl
two P false x y u v f g = g refl

same_with : (known : ℕ → Bool) (x y : Words) (n v m : ℕ) → (known m ≡ true → x m ≡ y m) → also known n m ≡ true → with_word x n v m ≡ with_word y n v m
same_with known x y n v m same h = by_test (m == n) h
  where
    by_test : (t : Bool) → (t || known m) ≡ true → (if t then v else x m) ≡ (if t then v else y m)
    by_test true e = refl
    by_test false e = same e

was_known : (known : ℕ → Bool) (n m : ℕ) → m ≢ n → also known n m ≡ true → known m ≡ true
was_known known n m apart h = grind (arith, nat_tests)

frame_out : (k : FrameKnown) (f g : Frame) (n v : ℕ) → n < 16 → AlikeFrame k f g →
    AlikeFrame (record k { words = also k.words n }) (record f { outs = with_word f.outs n v }) (record g { outs = with_word g.outs n v })
frame_out k f g n v low a = record {
  outs = λ m h less. same_with k.words f.outs g.outs n v m (λ e. a.outs m e less) h;
  locals = λ m h more. a.locals m (was_known k.words n m (let e : 16 ≤ m = from m 16 more in omega arith) h) more;
  slots = a.slots;
}

frame_local : (k : FrameKnown) (f g : Frame) (n v : ℕ) → 16 ≤ n → AlikeFrame k f g →
    AlikeFrame (record k { words = also k.words n }) (record f { locals = with_word f.locals n v }) (record g { locals = with_word g.locals n v })
frame_local k f g n v high a = record {
  outs = λ m h less. a.outs m (was_known k.words n m (let e : m < 16 = below m 16 less in omega arith) h) less;
  locals = λ m h more. same_with k.words f.locals g.locals n v m (λ e. a.locals m e more) h;
  slots = a.slots;
}

in_alike : (n v : ℕ) (known : Known) (ks : List FrameKnown) (a b : Registers) (fs gs : List Frame) → n < 32 →
    AlikeRegisters (record known { older = ks }) (record a { older = fs }) (record b { older = gs })
    → AlikeRegisters (known_in n (record known { older = ks })) (with_in n v (record a { older = fs })) (with_in n v (record b { older = gs }))
in_alike n v known [] a b [] [] small h =
    record {
      globals = h.globals;
      newest = h.newest;
      older = tt;
      oldest_ins =
          λ m e. same_with known.oldest_ins a.oldest_ins b.oldest_ins n v m (h.oldest_ins m) e;
    }
in_alike n v known (k ∷ ks) a b (f ∷ fs) (g ∷ gs) small h =
    record { globals = h.globals; newest = h.newest; older = (frame_out k f g (n - 16) v (omega arith) h.older.0, h.older.1); oldest_ins = h.oldest_ins }
in_alike n v known [] a b [] (g ∷ gs) small h = absurd h.older
in_alike n v known [] a b (f ∷ fs) [] small h = absurd h.older
in_alike n v known [] a b (f ∷ fs) (g ∷ gs) small h = absurd h.older
in_alike n v known (k ∷ ks) a b [] [] small h = absurd h.older
in_alike n v known (k ∷ ks) a b [] (g ∷ gs) small h = absurd h.older
in_alike n v known (k ∷ ks) a b (f ∷ fs) [] small h = absurd h.older

written_alike : (n v : ℕ) (k : Known) (a b : Registers) → n < 32 → AlikeRegisters k a b → AlikeRegisters (known_written n k) (written n v a) (written n v b)
unfolding known_written written
written_alike n v k a b small h =
    let newest : Known = record k { newest = record k.newest { words = also k.newest.words n } } in
    let low : Known = if nat_lt n 24 then newest else known_in n k in
    let local : Registers → Registers = λ file. record file { newest = record file.newest { locals = with_word file.newest.locals n v } } in
    let out : Registers → Registers = λ file. record file { newest = record file.newest { outs = with_word file.newest.outs n v } } in
    let fourth : Registers → Registers = λ file. if nat_lt n 24 then local file else with_in n v file in
    let third : Registers → Registers = λ file. if nat_lt n 16 then out file else fourth file in
    let global : Registers → Registers = λ file. record file { globals = with_word file.globals n v } in
    let second : Registers → Registers = λ file. if nat_lt n 8 then global file else third file in
    let known_global : Known = record k { globals = also k.globals n } in
    three AlikeRegisters (n == 0) k (if nat_lt n 8 then known_global else low) a (second a) b (second b) (λ e. h)
    (λ e. three AlikeRegisters (nat_lt n 8) known_global low (global a) (third a) (global b) (third b)
    (λ f. record { globals = λ m g. same_with k.globals a.globals b.globals n v m (h.globals m) g; newest = h.newest; older = h.older; oldest_ins = h.oldest_ins })
    (λ f. two (AlikeRegisters low) (nat_lt n 16) (out a) (fourth a) (out b) (fourth b)
    (λ g.
    let more : nat_lt n 24 ≡ true = grind (arith, nat_tests) in
    subst (λ (t : Bool). AlikeRegisters (if t then newest else known_in n k) (out a) (out b)) (sym more)
    (record { globals = h.globals; newest = frame_out k.newest a.newest b.newest n v (below n 16 g) h.newest; older = h.older; oldest_ins = h.oldest_ins }))
    (λ g. three AlikeRegisters (nat_lt n 24) newest (known_in n k) (local a) (with_in n v a) (local b) (with_in n v b)
    (λ i. record { globals = h.globals; newest = frame_local k.newest a.newest b.newest n v (from n 16 g) h.newest; older = h.older; oldest_ins = h.oldest_ins })
    (λ i. in_alike n v k k.older a b a.older b.older small h))))

-- a write leaves what is known of codes and Y
known_in_icc : (n : ℕ) (known : Known) (ks : List FrameKnown) → ((known_in n (record known { older = ks })).icc ≡ known.icc) × ((known_in n (record known { older = ks })).y ≡ known.y)
known_in_icc n known [] = (refl, refl)
known_in_icc n known (k ∷ ks) = (refl, refl)

same_rest : (n : ℕ) (k : Known) → ((known_written n k).icc ≡ k.icc) × ((known_written n k).y ≡ k.y)
unfolding known_written
same_rest n k =
    let P : Known → Type 0 = λ x. (x.icc ≡ k.icc) × (x.y ≡ k.y) in
    let newest : Known = record k { newest = record k.newest { words = also k.newest.words n } } in
    let third : Known = if nat_lt n 24 then newest else known_in n k in
    let global : Known = record k { globals = also k.globals n } in
    let second : Known = if nat_lt n 8 then global else third in
    pick P (n == 0) k second (λ e. (refl, refl))
    (λ e. pick P (nat_lt n 8) global third (λ f. (refl, refl))
    (λ f. pick P (nat_lt n 24) newest (known_in n k) (λ g. (refl, refl)) (λ g. known_in_icc n k k.older)))

pub writes_alike : (k : Known) (s t : State) (n v : ℕ) → n < 32 → Alike k s t → Alike (known_written n k) (with_reg n v s) (with_reg n v t)
writes_alike k s t n v small a = record {
  rest = record { pc = a.rest.pc; npc = a.rest.npc; annulled = a.rest.annulled; memory = a.rest.memory; input = a.rest.input; output = a.rest.output; exit = a.rest.exit };
  registers = written_alike n v k s.registers t.registers small a.registers;
  icc = λ e. a.icc (sym (same_rest n k).0 ∙ e);
  y = λ e. a.y (sym (same_rest n k).1 ∙ e);
}

-- ---- frames

pub pushes_alike : (k : Known) (a b : Registers) (fresh other : Fresh) (base : ℕ) → AlikeRegisters k a b → AlikeRegisters (known_pushed k) (pushed fresh base a) (pushed other base b)
pushes_alike k a b fresh other base alike = record {
  globals = alike.globals;
  newest = record { outs = λ n h low. grind (arith, nat_tests); locals = λ n h high. absurd (grind (arith, nat_tests)); slots = λ address h. absurd (cc) };
  older = (alike.newest, alike.older);
  oldest_ins = alike.oldest_ins;
}

pops_by : (known : Known) (ks : List FrameKnown) (a b : Registers) (fs gs : List Frame) → AlikeRegisters (record known { older = ks }) (record a { older = fs }) (record b { older = gs })
    → PopsAlike (known_popped (record known { older = ks })) (popped (record a { older = fs })) (popped (record b { older = gs }))
pops_by known [] a b [] [] h = tt
pops_by known (k ∷ ks) a b (f ∷ fs) (g ∷ gs) h = record { globals = h.globals; newest = h.older.0; older = h.older.1; oldest_ins = h.oldest_ins }
pops_by known [] a b [] (g ∷ gs) h = absurd h.older
pops_by known [] a b (f ∷ fs) [] h = absurd h.older
pops_by known [] a b (f ∷ fs) (g ∷ gs) h = absurd h.older
pops_by known (k ∷ ks) a b [] [] h = absurd h.older
pops_by known (k ∷ ks) a b [] (g ∷ gs) h = absurd h.older
pops_by known (k ∷ ks) a b (f ∷ fs) [] h = absurd h.older

pub pops_alike : (k : Known) (a b : Registers) → AlikeRegisters k a b → PopsAlike (known_popped k) (popped a) (popped b)
pops_alike k a b h = pops_by k k.older a b a.older b.older h

-- ---- slots

pub slots_alike : (k : Known) (a b : Registers) (address v : ℕ) → AlikeRegisters k a b → AlikeRegisters (known_slot address k) (with_slot address v a) (with_slot address v b)
slots_alike k a b address v h = record {
  globals = h.globals;
  newest = record { outs = h.newest.outs; locals = h.newest.locals; slots = λ m e. same_slot m e };
  older = h.older;
  oldest_ins = h.oldest_ins;
}
  where
    by_test : (m : ℕ) (t : Bool) → (t || k.newest.slots m) ≡ true → (if t then Some v else a.newest.slots m) ≡ (if t then Some v else b.newest.slots m)
    by_test m true e = refl
    by_test m false e = h.newest.slots m e

    same_slot : (m : ℕ) → also k.newest.slots address m ≡ true → (if m == address then Some v else a.newest.slots m) ≡ (if m == address then Some v else b.newest.slots m)
    same_slot m e = by_test m (m == address) e
