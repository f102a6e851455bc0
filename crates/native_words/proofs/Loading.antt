-- Loads: a number that comes in, of the data or of a slot, with its sign or without, and two words.
use Rattle.std.proofs.Common.{◌≡◌, ◌≢◌, ℕ, ◌+◌, ◌-◌, ◌^◌, ◌<◌, ◌≤◌, Bool, true, false}
use Rattle.std.proofs.Common.{List, [], ◌∷◌, ◌++◌, Option, Some, None, slice_index, refl, sym, ap, ◌∙◌, subst, append_assoc, arith}
use Rattle.std.specs.Prelude.{◌==◌, if◌then◌else◌}
use Rattle.std.proofs.lemmas.Bool.Decides.{nat_tests}
use Rattle.std.proofs.lemmas.Grind.{get_or-set_at}
use Rattle.std.proofs.lemmas.List.{get_or-set_other}
use Rattle.v8_word.specs.Word.{sign_extend}
use Rattle.v8_alu.specs.Results.{shifted_left, shifted_right_signed}
use Rattle.v8_meaning.specs.declared.operation.Loading.{Loading}
use Rattle.v8_meaning.specs.declared.operation.Loading.TheVariants as loadings
use Rattle.v8_meaning.specs.declared.operation.Transfer.TheVariants as transfer
use Rattle.v8_meaning.specs.Transfers.{bytes_in, loaded as loaded_words, loaded_size}
use Rattle.sbx_image.specs.Parts.{Parts}
use Rattle.sbx_flat.specs.Calls.{slot}
use Rattle.sbx_flat.specs.Effects.{found, is_stack_pointer, slot_of, takes, transfers_data, transfers_in, with_regs}
use Rattle.sbx_flat.specs.States.{State, Goes, Fails, advanced, with_reg}
use Rattle.sbx_flat.specs.declared.path.Wrong.{Wrong}
use Rattle.sbx_flat.specs.declared.path.Wrong.TheVariants.{StackPointer}
use Rattle.sbx_flat.specs.WellFormed.{IsWellFormed}
use Rattle.native_lang.specs.declared.expr.Expr.{Expr}
use Rattle.native_lang.specs.declared.operator.Operator.TheVariants as operators
use Rattle.native_lang.specs.declared.stmt.NumberWidth.{NumberWidth}
use Rattle.native_lang.specs.declared.stmt.NumberWidth.TheVariants as widths
use Rattle.native_lang.specs.declared.stmt.Stmt.{Stmt}
use Rattle.native_lang.specs.declared.stmt.Stmt.TheVariants.{Set, Load}
use Rattle.native_lang.specs.Memory.{bytes_of_width, loaded, number_in}
use Rattle.native_lang.specs.Values.{applied, value}
use Rattle.native_lang.specs.World.{World, does, loads, sets}
use Rattle.native_results.specs.DoesAll.{does_all, then_on}
use Rattle.native_results.specs.ShowsState.{ShowsState}
use Rattle.native_words.specs.Accesses.{AddsAccess, GoesTo, HasSign, variable_for}
use Rattle.native_words.proofs.Numbers.{small_byte, small_half}
use Rattle.native_words.proofs.Reading.{found_read, loaded_number, slot_read}
use Rattle.native_words.proofs.Shown.{moved_shows, register_shows, scratch_shows, zero_stays}
use Rattle.native_words.proofs.Signs.{byte_sign, half_sign}

-- ---- statements one after another

pub in_order : (old one two new : List Stmt) (first second : Stmt) (rest : List Stmt) → one ≡ old ++ first ∷ [] → two ≡ one ++ second ∷ [] → new ≡ two ++ rest →
    new ≡ old ++ first ∷ second ∷ rest
in_order old one two new first second rest a b c = c ∙ ap (λ l. l ++ rest) b ∙ ap (λ l. (l ++ second ∷ []) ++ rest) a ∙ append_assoc (old ++ first ∷ []) (second ∷ []) rest
    ∙ append_assoc old (first ∷ []) (second ∷ rest)

pub in_two : (old one new : List Stmt) (first : Stmt) (rest : List Stmt) → one ≡ old ++ first ∷ [] → new ≡ one ++ rest → new ≡ old ++ first ∷ rest
in_two old one new first rest a b = b ∙ ap (λ l. l ++ rest) a ∙ append_assoc old (first ∷ []) rest

-- ---- what an access that goes on has come to

goes_by : (b : Bool) (why : Wrong) (t next : State) → (if b then Fails why else Goes t) ≡ Goes next → t ≡ next
goes_by true why t next e = absurd cc
goes_by false why t next e = cc

pub taken : (words : List (ℕ × ℕ)) (s next : State) → takes words s ≡ Goes next → advanced (with_regs words s) ≡ next
taken words s next e = goes_by (is_stack_pointer words) StackPointer (advanced (with_regs words s)) next e

-- The number that a load finds, in the block too, and what comes of it.
pub record IsFound (block : List ℕ) (l : Loading) (rd a : ℕ) (s next : State) : Type 0 where
  pub number : ℕ
  pub from : 0x80000 ≤ a
  pub to : a + bytes_in (loaded_size l) ≤ 0x100000
  pub is : number_in block (a - 0x80000) (bytes_in (loaded_size l)) ≡ number
  pub goes : takes (loaded_words l rd number) s ≡ Goes next

some_bytes : (l : Loading) → 1 ≤ bytes_in (loaded_size l)
some_bytes loadings.UnsignedByte = omega arith
some_bytes loadings.SignedByte = omega arith
some_bytes loadings.UnsignedHalf = omega arith
some_bytes loadings.SignedHalf = omega arith
some_bytes loadings.Word = omega arith
some_bytes loadings.Double = omega arith

module _ (parts : Parts) (w : World) (s next : State) (shows : ShowsState parts w s) (well : IsWellFormed parts.stack_pages s) (rd a : ℕ) where
  data_found : (l : Loading) (o : Option ℕ) → found parts (transfer.Load l) a s.memory ≡ o → transfers_data (transfer.Load l) rd a o s ≡ Goes next → IsFound w.block l rd a s next
  data_found l None e g = absurd cc
  data_found l (Some number) e g =
      let r = found_read parts (transfer.Load l) a number s.memory w.block shows.memory (some_bytes l) e in
      let from = r.from in
      let to = r.to in
      record { number = number; from = from; to = omega (arith, to); is = r.is; goes = g }

  frame_found : (word : ℕ) → s.registers.newest.slots a ≡ Some word → takes (loaded_words loadings.Word rd word) s ≡ Goes next → IsFound w.block loadings.Word rd a s next
  unfolding slot
  frame_found word e g =
      let r = slot_read parts.stack_pages 0 a word s.registers w.block shows.pages well.calls shows.slots (omega arith) e in
      let from = r.from in
      let to = r.to in
      record { number = word; from = omega (arith, from); to = omega (arith, to); is = r.is; goes = g }

  word_found : (o : Option ℕ) → s.registers.newest.slots a ≡ o → transfers_in parts (transfer.Load loadings.Word) rd a o s ≡ Goes next → IsFound w.block loadings.Word rd a s next
  word_found None e g = data_found loadings.Word (found parts (transfer.Load loadings.Word) a s.memory) refl g
  word_found (Some word) e g = frame_found word e g

  pub load_found : (l : Loading) → transfers_in parts (transfer.Load l) rd a (slot_of (transfer.Load l) s a) s ≡ Goes next → IsFound w.block l rd a s next
  load_found loadings.UnsignedByte g = data_found loadings.UnsignedByte (found parts (transfer.Load loadings.UnsignedByte) a s.memory) refl g
  load_found loadings.SignedByte g = data_found loadings.SignedByte (found parts (transfer.Load loadings.SignedByte) a s.memory) refl g
  load_found loadings.UnsignedHalf g = data_found loadings.UnsignedHalf (found parts (transfer.Load loadings.UnsignedHalf) a s.memory) refl g
  load_found loadings.SignedHalf g = data_found loadings.SignedHalf (found parts (transfer.Load loadings.SignedHalf) a s.memory) refl g
  load_found loadings.Word g = word_found (s.registers.newest.slots a) refl g
  load_found loadings.Double g = data_found loadings.Double (found parts (transfer.Load loadings.Double) a s.memory) refl g

-- ---- another variable

pub set_kept : (w : World) (x v other : ℕ) → other ≢ x → slice_index (sets x v w).variables other ≡ slice_index w.variables other
set_kept w x v other apart = get_or-set_other w.variables x other v 0 apart

-- TAKEN and CALLED are no registers
pub load_kept : (w : World) (rd v x : ℕ) → rd < 32 → 43 ≤ x → x < 45 → slice_index (sets (variable_for rd) v w).variables x ≡ slice_index w.variables x
load_kept w rd v x low from to = set_kept w (variable_for rd) v x (by (rd == 0))
  where
    by : (b : Bool) → x ≢ (if b then 45 else rd)
    by true = λ e. omega (arith, e, to)
    by false = λ e. omega (arith, e, from, low)

-- ---- a register, or what is loaded for %g0

pub variable_shows : (parts : Parts) (w : World) (s : State) (rd v : ℕ) → rd < 32 → ShowsState parts w s → ShowsState parts (sets (variable_for rd) v w) (with_reg rd v s)
variable_shows parts w s rd v low h = by (rd == 0) refl
  where
    by : (b : Bool) → (rd == 0) ≡ b → ShowsState parts (sets (if b then 45 else rd) v w) (with_reg rd v s)
    by true e =
        let none : rd ≡ 0 = grind (arith, nat_tests) in
        subst (λ r. ShowsState parts (sets 45 v w) (with_reg r v s)) (sym none)
        (subst (λ t. ShowsState parts (sets 45 v w) t) (sym (zero_stays s v)) (scratch_shows parts w s 45 v (omega arith) h))
    by false e = let some : rd ≢ 0 = grind (arith, nat_tests) in register_shows parts w s rd v low some h

-- the statement that sets a register, unless it is %g0
abbrev pub assigned : ℕ → Expr → List Stmt
assigned rd e = if rd == 0 then [] else Set rd e ∷ []

pub assigned_shows : (windows : ℕ) (parts : Parts) (w : World) (s : State) (rd : ℕ) (e : Expr) → rd < 32 → ShowsState parts w s →
    GoesTo windows parts (assigned rd e) w (advanced (with_reg rd (value w.variables e) s))
assigned_shows windows parts w s rd e low h = by (rd == 0) refl
  where
    by : (b : Bool) → (rd == 0) ≡ b → GoesTo windows parts (if b then [] else Set rd e ∷ []) w (advanced (with_reg rd (value w.variables e) s))
    by true t =
        let none : rd ≡ 0 = grind (arith, nat_tests) in
        record {
          new = w;
          done = refl;
          shows = moved_shows parts w (with_reg rd (value w.variables e) s)
              (subst (λ r. ShowsState parts w (with_reg r (value w.variables e) s)) (sym none) (subst (λ t. ShowsState parts w t) (sym (zero_stays s (value w.variables e))) h));
          counts = refl;
          kept = λ x from to. refl;
        }
    by false t =
        let some : rd ≢ 0 = grind (arith, nat_tests) in
        record {
          new = sets rd (value w.variables e) w;
          done = refl;
          shows = moved_shows parts (sets rd (value w.variables e) w) (with_reg rd (value w.variables e) s) (register_shows parts w s rd (value w.variables e) low some h);
          counts = refl;
          kept = λ x from to. set_kept w rd (value w.variables e) x (λ t. omega (arith, t, from, low));
        }

-- ---- a number without its sign

-- a statement that loads, where the number is there
pub does_load : (windows : ℕ) (w : World) (x : ℕ) (width : NumberWidth) (e : Expr) (a count number : ℕ) → value w.variables e ≡ a → bytes_of_width width ≡ count →
    0x80000 ≤ a → a + count ≤ 0x100000 → number_in w.block (a - 0x80000) count ≡ number → does windows (Load x width e) w ≡ Some (sets x number w)
does_load windows w x width e a count number at size from to is =
    ap (λ p. loads x (loaded w.block p (bytes_of_width width)) w) at ∙ ap (λ k. loads x (loaded w.block a k) w) size
    ∙ ap (λ o. loads x o w) (loaded_number w.block a count number from to is)

module _ (l : Loading) (rd : ℕ) (address : Expr) (width : NumberWidth) (low : rd < 32) (same : bytes_of_width width ≡ bytes_in (loaded_size l))
    (single : (number : ℕ) → loaded_words l rd number ≡ (rd, number) ∷ []) where
  plain_comes : (windows : ℕ) (parts : Parts) (s next : State) (w : World) (a : ℕ) → IsWellFormed parts.stack_pages s → ShowsState parts w s →
      value w.variables address ≡ a → transfers_in parts (transfer.Load l) rd a (slot_of (transfer.Load l) s a) s ≡ Goes next →
      GoesTo windows parts (Load (variable_for rd) width address ∷ []) w next
  plain_comes windows parts s next w a well shows at g =
      let f = load_found parts w s next shows well rd a l g in
      let one : takes ((rd, f.number) ∷ []) s ≡ Goes next = ap (λ words. takes words s) (sym (single f.number)) ∙ f.goes in
      record {
        new = sets (variable_for rd) f.number w;
        done = ap (λ o. then_on o (does_all windows [])) (does_load windows w (variable_for rd) width address a (bytes_in (loaded_size l)) f.number at same f.from f.to f.is);
        shows = subst (λ t. ShowsState parts (sets (variable_for rd) f.number w) t) (taken ((rd, f.number) ∷ []) s next one)
            (moved_shows parts (sets (variable_for rd) f.number w) (with_reg rd f.number s) (variable_shows parts w s rd f.number low shows));
        counts = refl;
        kept = λ x from to. load_kept w rd f.number x low from to;
      }

  pub plain_load : (old new : List Stmt) → new ≡ old ++ Load (variable_for rd) width address ∷ [] → AddsAccess (transfer.Load l) rd address old new
  plain_load old new behind = record {
    made = Load (variable_for rd) width address ∷ [];
    behind = behind;
    is = record { comes = λ windows parts s next w a well shows pair at g. plain_comes windows parts s next w a well shows at g };
  }

-- ---- a number with its sign

-- a scratch variable that was just set
pub set_there : (parts : Parts) (w : World) (s : State) (x v : ℕ) → x < 256 → ShowsState parts w s → slice_index (sets x v w).variables x ≡ v
set_there parts w s x v low h = let size = h.variables in get_or-set_at w.variables x x v 0 refl (omega (arith, size, low))

module _ (l : Loading) (rd : ℕ) (address up down : Expr) (width : NumberWidth) (above : ℕ) (low : rd < 32) (same : bytes_of_width width ≡ bytes_in (loaded_size l))
    (raises : (v : List ℕ) → value v up ≡ applied operators.ShiftLeft (slice_index v 42) above) (lowers : (v : List ℕ) → value v down ≡ applied operators.ShiftRightSigned (slice_index v 42) above)
    (word : ℕ → ℕ) (signed : (block : List ℕ) (place : ℕ) → ((k : ℕ) → slice_index block k < 2 ^ 8) →
    shifted_right_signed (shifted_left (number_in block place (bytes_in (loaded_size l))) above) above ≡ word (number_in block place (bytes_in (loaded_size l))))
    (single : (number : ℕ) → loaded_words l rd number ≡ (rd, word number) ∷ []) where
  signed_comes : (windows : ℕ) (parts : Parts) (s next : State) (w : World) (a : ℕ) → IsWellFormed parts.stack_pages s → ShowsState parts w s →
      value w.variables address ≡ a → transfers_in parts (transfer.Load l) rd a (slot_of (transfer.Load l) s a) s ≡ Goes next →
      GoesTo windows parts (Load 42 width address ∷ Set 42 up ∷ assigned rd down) w next
  signed_comes windows parts s next w a well shows at g =
      let f = load_found parts w s next shows well rd a l g in
      let one : takes ((rd, word f.number) ∷ []) s ≡ Goes next = ap (λ words. takes words s) (sym (single f.number)) ∙ f.goes in
      let first : World = sets 42 f.number w in
      let h : ShowsState parts first s = scratch_shows parts w s 42 f.number (omega arith) shows in
      let second : World = sets 42 (value first.variables up) first in
      let k : ShowsState parts second s = scratch_shows parts first s 42 (value first.variables up) (omega arith) h in
      let raised : value first.variables up ≡ shifted_left f.number above =
      raises first.variables ∙ ap (λ n. shifted_left n above) (set_there parts w s 42 f.number (omega arith) shows) in
      let lowered : value second.variables down ≡ word f.number =
      lowers second.variables ∙ ap (λ n. shifted_right_signed n above) (set_there parts first s 42 (value first.variables up) (omega arith) h ∙ raised)
      ∙ ap (λ n. shifted_right_signed (shifted_left n above) above) (sym f.is) ∙ signed w.block (a - 0x80000) shows.block_bytes ∙ ap word f.is in
      let last = assigned_shows windows parts second s rd down low k in
      record {
        new = last.new;
        done = ap (λ o. then_on o (does_all windows (Set 42 up ∷ assigned rd down))) (does_load windows w 42 width address a (bytes_in (loaded_size l)) f.number at same f.from f.to f.is) ∙ last.done;
        shows = subst (λ t. ShowsState parts last.new t) (taken ((rd, word f.number) ∷ []) s next one)
            (subst (λ n. ShowsState parts last.new (advanced (with_reg rd n s))) lowered last.shows);
        counts = last.counts;
        kept = λ x from to. last.kept x from to ∙ set_kept first 42 (value first.variables up) x (λ e. omega (arith, e, from)) ∙ set_kept w 42 f.number x (λ e. omega (arith, e, from));
      }

  pub signed_load : (old new : List Stmt) → new ≡ old ++ Load 42 width address ∷ Set 42 up ∷ assigned rd down → AddsAccess (transfer.Load l) rd address old new
  signed_load old new behind = record {
    made = Load 42 width address ∷ Set 42 up ∷ assigned rd down;
    behind = behind;
    is = record { comes = λ windows parts s next w a well shows pair at g. signed_comes windows parts s next w a well shows at g };
  }

pub byte_signed : (block : List ℕ) (place : ℕ) → ((k : ℕ) → slice_index block k < 2 ^ 8) →
    shifted_right_signed (shifted_left (number_in block place 1) 24) 24 ≡ sign_extend 8 (number_in block place 1)
byte_signed block place all = byte_sign (number_in block place 1) (small_byte block place all)

pub half_signed : (block : List ℕ) (place : ℕ) → ((k : ℕ) → slice_index block k < 2 ^ 8) →
    shifted_right_signed (shifted_left (number_in block place 2) 16) 16 ≡ sign_extend 16 (number_in block place 2)
half_signed block place all = half_sign (number_in block place 2) (small_half block place all)

pub signed_made : (l : Loading) (rd above : ℕ) (address up down : Expr) (width : NumberWidth) → HasSign l width above → rd < 32 →
    ((v : List ℕ) → value v up ≡ applied operators.ShiftLeft (slice_index v 42) above) → ((v : List ℕ) → value v down ≡ applied operators.ShiftRightSigned (slice_index v 42) above) →
    (old one two new : List Stmt) → one ≡ old ++ Load 42 width address ∷ [] → two ≡ one ++ Set 42 up ∷ [] → new ≡ two ++ assigned rd down → AddsAccess (transfer.Load l) rd address old new
signed_made loadings.SignedByte rd above address up down widths.Byte is low raises lowers old one two new a b c =
    signed_load loadings.SignedByte rd address up down widths.Byte 24 low refl (subst (λ n. (v : List ℕ) → value v up ≡ applied operators.ShiftLeft (slice_index v 42) n) is raises)
    (subst (λ n. (v : List ℕ) → value v down ≡ applied operators.ShiftRightSigned (slice_index v 42) n) is lowers) (sign_extend 8) byte_signed (λ number. refl) old new (in_order old one two new _ _ _ a b c)
signed_made loadings.SignedHalf rd above address up down widths.Half is low raises lowers old one two new a b c =
    signed_load loadings.SignedHalf rd address up down widths.Half 16 low refl (subst (λ n. (v : List ℕ) → value v up ≡ applied operators.ShiftLeft (slice_index v 42) n) is raises)
    (subst (λ n. (v : List ℕ) → value v down ≡ applied operators.ShiftRightSigned (slice_index v 42) n) is lowers) (sign_extend 16) half_signed (λ number. refl) old new (in_order old one two new _ _ _ a b c)
signed_made _ rd above address up down width is low raises lowers old one two new a b c = absurd is

-- what was added for a loading that is known
pub loading_as : (l one : Loading) (rd : ℕ) (address : Expr) (old new : List Stmt) → l ≡ one → AddsAccess (transfer.Load one) rd address old new → AddsAccess (transfer.Load l) rd address old new
loading_as l one rd address old new is h = subst (λ x. AddsAccess (transfer.Load x) rd address old new) (sym is) h
