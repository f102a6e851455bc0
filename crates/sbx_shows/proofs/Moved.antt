-- What comes and goes in a transfer: the same on both machines, words where they go to registers.
use Rattle.std.proofs.Common.{◌≡◌, ◌≢◌, ℕ, ◌+◌, ◌*◌, ◌/◌, ◌%◌, ◌^◌, ◌<◌, Bool, true, false, not, List, [], ◌∷◌, Some, refl, ap, ◌∙◌, arith}
use Rattle.std.specs.Prelude.{◌==◌, ◌||◌, nat_lt, if◌then◌else◌}
use Rattle.std.proofs.lemmas.Bool.Decides.{nat_tests}
use Rattle.v8_core.specs.Word.{sign_extend}
use Rattle.v8_core.specs.Size.{Size}
use Rattle.v8_core.specs.Size.TheVariants as sizes
use Rattle.v8_core.specs.Transfers.{odd_of, received, sent, size_of, splits_pair, writes_memory}
use Rattle.v8_core.specs.Exchange.TheVariants as exchanges
use Rattle.v8_core.specs.Loading.TheVariants as loadings
use Rattle.v8_core.specs.Transfer.{Transfer}
use Rattle.v8_core.specs.Transfer.TheVariants.{Load, Store, Exchange}
use Rattle.v8_core.specs.Meaning.{limit_of}
use Rattle.v8_core.specs.Ram.{number_at as board_number, with_number as board_with}
use Rattle.v8_core.specs.Windows.{with_reg}
use Rattle.v8_core.specs.Effects.{with_regs as board_with_regs}
use Rattle.v8_core.specs.Accesses.{World, world}
use Rattle.v8_core.specs.Memory.{answers, loaded_from}
use Rattle.v8_core.specs.Meaning.{exchanged_after, stored_after}
use Rattle.v8_loaded.specs.Board.{Device, beside, board, board_load, board_store, device_base, overwritten}
use Rattle.sbx_flat.specs.Parts.{Parts}
use Rattle.sbx_flat.specs.Effects.{is_stack_pointer, with_regs}
use Rattle.sbx_flat.specs.Registers.{written}
use Rattle.sbx_flat.specs.States.{State, with_reg as flat_with_reg}
use Rattle.sbx_shows.specs.Shows.{Shows}
use Rattle.sbx_shows.proofs.Alike.{alike_shows, pair_in_turn}
use Rattle.sbx_shows.proofs.Users.{register_shows}

-- ---- what goes out

pub same_sent : (f g : ℕ → ℕ) (t : Transfer) (rd : ℕ) → ((q : ℕ) → q < 32 → f q ≡ g q) → rd < 32 → sent f t rd ≡ sent g t rd
same_sent f g (Load l) rd same less = refl
same_sent f g (Store sizes.Byte) rd same less = ap (λ v. v % 2 ^ 8) (same rd less)
same_sent f g (Store sizes.Half) rd same less = ap (λ v. v % 2 ^ 16) (same rd less)
same_sent f g (Store sizes.Word) rd same less = same rd less
same_sent f g (Store sizes.Double) rd same less = ap (λ v. v * 2 ^ 32 + f (odd_of rd)) (same rd less) ∙ ap (λ v. g rd * 2 ^ 32 + v) (same (odd_of rd) (omega arith))
same_sent f g (Exchange exchanges.Ones) rd same less = refl
same_sent f g (Exchange exchanges.Register) rd same less = same rd less

pub sent_byte : (f : ℕ → ℕ) (t : Transfer) (rd : ℕ) → size_of t ≡ sizes.Byte → sent f t rd < 2 ^ 8
sent_byte f (Load l) rd is = omega arith
sent_byte f (Store sizes.Byte) rd is = omega arith
sent_byte f (Store sizes.Half) rd is = absurd (cc)
sent_byte f (Store sizes.Word) rd is = absurd (cc)
sent_byte f (Store sizes.Double) rd is = absurd (cc)
sent_byte f (Exchange exchanges.Ones) rd is = omega arith
sent_byte f (Exchange exchanges.Register) rd is = absurd (cc)

-- ---- what the bus does in RAM

-- the number that comes in
abbrev pub brought : Transfer → ℕ → ℕ
brought (Load l) old = old
brought (Store size) old = 0
brought (Exchange e) old = old

abbrev pub left : Transfer → List ℕ → ℕ → ℕ → List ℕ
left t ram pa v = if writes_memory t then board_with ram pa (size_of t) v else ram

module _ (ram : List ℕ) (device : Device) (pa v old : ℕ) (low : nat_lt pa device_base ≡ true) where
  loads : (size : Size) → board_number ram pa size ≡ Some old → board_load ram device pa size ≡ Some (old, device)
  unfolding board_load
  loads size there = rw low (ap (beside device) there)

  stores : (size : Size) → board_number ram pa size ≡ Some old → board_store ram device pa size v ≡ Some (board_with ram pa size v, device)
  unfolding board_store
  stores size there = rw low (ap (overwritten ram device pa size v) there)

  pub answers_ram : (t : Transfer) → board_number ram pa (size_of t) ≡ Some old → answers board ram device pa t v ≡ Some (brought t old, left t ram pa v, device)
  answers_ram (Load l) there = ap (loaded_from ram) (loads (size_of (Load l)) there)
  answers_ram (Store size) there = ap (stored_after 0) (stores size there)
  answers_ram (Exchange e) there =
      ap (exchanged_after board_store ram pa (size_of (Exchange e)) v) (loads (size_of (Exchange e)) there) ∙ ap (stored_after old) (stores (size_of (Exchange e)) there)

-- ---- what comes in

pub received_brought : (t : Transfer) (rd old : ℕ) → received t rd (brought t old) ≡ received t rd old
received_brought (Load l) rd old = refl
received_brought (Store size) rd old = refl
received_brought (Exchange e) rd old = refl

extended_byte : (w : ℕ) → w < 2 ^ 8 → sign_extend 8 w < 2 ^ 32
extended_byte w small = grind (arith, nat_tests)

extended_half : (w : ℕ) → w < 2 ^ 16 → sign_extend 16 w < 2 ^ 32
extended_half w small = grind (arith, nat_tests)

not_sp : (rd : ℕ) → ((rd == 14) || (rd == 30) || false) ≡ false → rd ≢ 14
not_sp rd e = grind (arith, nat_tests, e)

not_fp : (rd : ℕ) → ((rd == 14) || (rd == 30) || false) ≡ false → rd ≢ 30
not_fp rd e = grind (arith, nat_tests, e)

even_of : (rd : ℕ) → not (rd % 2 == 0) ≡ false → rd % 2 ≡ 0
even_of rd e = grind (arith, nat_tests, e)

module _ (n : ℕ) (parts : Parts) (x : World n Device) (s : State) (r rd number : ℕ) (h : Shows n parts x s r) (less : rd < 32) where
  abbrev after : List (ℕ × ℕ) → World n Device
  after words = world n (record x.cpu { regs = board_with_regs n x.cpu.regs words }) x.memory.ram x.memory.device

  one_word : (v : ℕ) → ((rd == 14) || (rd == 30) || false) ≡ false → v < 2 ^ 32 → Shows n parts (after ((rd, v) ∷ [])) (with_regs ((rd, v) ∷ []) s) r
  one_word v free small = register_shows n parts x s r rd v h less (not_sp rd free) (not_fp rd free) small

  two_words : (high low : ℕ) → rd % 2 ≡ 0 → rd ≢ 14 → rd ≢ 30 → high < 2 ^ 32 → low < 2 ^ 32 →
      Shows n parts (after ((rd, high) ∷ (odd_of rd, low) ∷ [])) (with_regs ((rd, high) ∷ (odd_of rd, low) ∷ []) s) r
  two_words high low even sp fp small_high small_low =
      let one = register_shows n parts x s r rd high h less sp fp small_high in
      let first = world n (record x.cpu { regs = with_reg n x.cpu.regs rd high }) x.memory.ram x.memory.device in
      let two = register_shows n parts first (flat_with_reg rd high s) r (odd_of rd) low one (omega arith) (omega arith) (omega arith) small_low in
      alike_shows n parts (after ((rd, high) ∷ (odd_of rd, low) ∷ [])) (flat_with_reg (odd_of rd) low (flat_with_reg rd high s)) r
      (written rd high (written (odd_of rd) low s.registers)) two (pair_in_turn rd high low s.registers less even)

  free_pair : (a b c d : Bool) → (a || b || (c || d || false)) ≡ false → (a || b || false) ≡ false
  free_pair false false c d e = refl
  free_pair true b c d e = e
  free_pair false true c d e = e

  pub received_shows : (t : Transfer) → is_stack_pointer (received t rd number) ≡ false → splits_pair (size_of t) rd ≡ false → number < limit_of (size_of t) →
      Shows n parts (after (received t rd number)) (with_regs (received t rd number) s) r
  received_shows (Load loadings.UnsignedByte) free pair small = one_word number free (omega arith)
  received_shows (Load loadings.SignedByte) free pair small = one_word (sign_extend 8 number) free (extended_byte number small)
  received_shows (Load loadings.UnsignedHalf) free pair small = one_word number free (omega arith)
  received_shows (Load loadings.SignedHalf) free pair small = one_word (sign_extend 16 number) free (extended_half number small)
  received_shows (Load loadings.Word) free pair small = one_word number free small
  received_shows (Load loadings.Double) free pair small =
      let clear = free_pair (rd == 14) (rd == 30) (odd_of rd == 14) (odd_of rd == 30) free in
      two_words (number / 2 ^ 32) (number % 2 ^ 32) (even_of rd pair) (not_sp rd clear) (not_fp rd clear) (omega arith) (omega arith)
  received_shows (Store size) free pair small = h
  received_shows (Exchange exchanges.Ones) free pair small = one_word number free (omega arith)
  received_shows (Exchange exchanges.Register) free pair small = one_word number free small
