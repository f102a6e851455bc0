-- What loads, stores and exchanges of data do, by the rules.
use Rattle.std.proofs.Common.{◌≡◌, ◌≢◌, ℕ, zero, suc, ◌+◌, ◌-◌, ◌*◌, ◌/◌, ◌%◌, ◌^◌, ◌<◌, ◌≤◌, Bool, true, false, List, [], ◌∷◌, ◌++◌, length, Option, Some, None, refl, sym, ap, ◌∙◌, subst, arith}
use Rattle.std.specs.Prelude.{◌==◌, ◌&&◌, ◌||◌, not, nat_lt, nat_le, slice_get, slice_index, if◌then◌else◌}
use Rattle.std.proofs.lemmas.Bool.Decides.{nat_tests}
use Rattle.v8_word.specs.declared.Size.{Size}
use Rattle.v8_word.specs.declared.Size.TheVariants as sizes
use Rattle.v8_formats.specs.declared.instr.Operand.{Operand}
use Rattle.v8_formats.specs.declared.instr.Operand.TheVariants.{Register, Immediate}
use Rattle.v8_meaning.specs.declared.operation.Exchange.{Exchange as Exchanging}
use Rattle.v8_meaning.specs.declared.operation.Exchange.TheVariants as exchanges
use Rattle.v8_meaning.specs.declared.operation.Loading.{Loading}
use Rattle.v8_meaning.specs.declared.operation.Loading.TheVariants as loadings
use Rattle.v8_meaning.specs.declared.operation.MemoryOperand.{MemoryOperand}
use Rattle.v8_meaning.specs.declared.operation.Operation.TheVariants.{Transfer}
use Rattle.v8_meaning.specs.declared.operation.Transfer.{Transfer as Moving}
use Rattle.v8_meaning.specs.declared.operation.Transfer.TheVariants.{Load, Store, Exchange}
use Rattle.v8_meaning.specs.Operands.{second, sum_address}
use Rattle.v8_meaning.specs.Transfers.{bytes_in, exchanged_size, filled, left_behind, loaded, odd_of, size_of, stored, writes_memory}
use Rattle.sbx_image.specs.Function.{Function}
use Rattle.sbx_image.specs.Parts.{Parts}
use Rattle.sbx_image.specs.Range.{Range}
use Rattle.sbx_image.specs.Regions.{LiesInOne, data_start, laid, page_rights}
use Rattle.sbx_image.proofs.Within.{reached}
use Rattle.sbx_range.specs.Ranges.{all}
use Rattle.sbx_flat.specs.Effects.{address_in, does, takes, transfers, transfers_data, writes}
use Rattle.sbx_flat.specs.Memory.{byte_of, with_number}
use Rattle.sbx_flat.specs.Registers.{Words}
use Rattle.sbx_flat.specs.Runs.{reached_by}
use Rattle.sbx_flat.specs.States.{State, Goes, Fails, advanced, reg, with_reg}
use Rattle.sbx_flat.specs.declared.path.Wrong.TheVariants.{StackPointer}
use Rattle.sbx_rules.specs.Entry.{Entry}
use Rattle.sbx_rules.specs.Fits.{Fits, with_word}
use Rattle.sbx_rules.specs.Known.{Known, plain_entry, with_entry}
use Rattle.sbx_rules.specs.Results.{address_of, operand_entry, register_entry}
use Rattle.sbx_rules.specs.Transfer.{exchanged_range, frame_word_of, loaded_range, offset_from_sp, transferred, with_moved, word_at_offset}
use Rattle.sbx_fits.specs.Held.{Held, with_pairs}
use Rattle.sbx_fits.proofs.Entries.{operand_has, operand_multiple, operand_word, register_has, register_multiple}
use Rattle.sbx_fits.proofs.Memory.{data_keeps_fitting}
use Rattle.sbx_rules.specs.Operations.{Access, access_of, address_reads, frame_offset, is_framed, is_reserved, moved_reads, moved_writes, reads_of, second_reads, writes_of}
use Rattle.sbx_image.specs.Order.{function_at}
use Rattle.sbx_rules.specs.Rules.{is_aligned_access, is_aligned_at, is_defined, is_placed_access, is_placed_at, is_some, reads_undefined, touches_reserved}
use Rattle.sbx_sound.proofs.LowFields.{LowThree}
use Rattle.sbx_sound.proofs.Running.{tests, window_of}
use Rattle.sbx_sound.proofs.Shared.{KnownParts, Lent, Shared, Shows, Window, with_location}
use Rattle.sbx_sound.proofs.Addresses.{IsInData, lies_in_data}
use Rattle.sbx_sound.proofs.DataWords.{ReachesData, finds, is_aligned, loads_data, stores_data}
use Rattle.sbx_sound.proofs.Effects.{IsFewer, Reaches, moved_on, reaches_by, takes_one, with_word_known, writes_reach}
use Rattle.sbx_sound.proofs.Frames.{IsFree, write_shows}
use Rattle.sbx_sound.proofs.Moves.{operand_of, register_shown, second_read}
use Rattle.sbx_sound.proofs.Read.{free_register, read_free, read_known, second_shown, write_allowed}
use Rattle.sbx_sound.proofs.Safe.{ShowsSpot, Spot}
use Rattle.sbx_sound.proofs.Steps.{Does, linked_at, op_of}
use Rattle.sbx_sound.proofs.Stored.{IsThere, number_is_there, stored_after_store}
use Rattle.sbx_sound.proofs.Writing.{entry_defined, is_fewer, keeps_codes, keeps_y, then_knows, unchanged_is_fewer, writes_one}
use Rattle.sbx_sound.proofs.Written.{entry_codes, entry_y, fits_same, fits_shown, more_tests, other_defined, other_word, same_location}
use Rattle.sbx_sound.proofs.Tests.{and_left, and_right}

-- ---- the registers that an access reads: those that go out, then those of the address

-- so many go out
outgoing : Moving → ℕ
outgoing (Load l) = 0
outgoing (Store sizes.Double) = 2
outgoing (Store f) = 1
outgoing (Exchange exchanges.Ones) = 0
outgoing (Exchange exchanges.Register) = 1

after_outgoing : (t : Moving) (rd : ℕ) (rest : List ℕ) → slice_get (moved_reads t rd ++ rest) (outgoing t) ≡ slice_get rest 0
unfolding outgoing
after_outgoing (Load l) rd rest = refl
after_outgoing (Store sizes.Byte) rd rest = refl
after_outgoing (Store sizes.Half) rd rest = refl
after_outgoing (Store sizes.Word) rd rest = refl
after_outgoing (Store sizes.Double) rd rest = refl
after_outgoing (Exchange exchanges.Ones) rd rest = refl
after_outgoing (Exchange exchanges.Register) rd rest = refl

next_outgoing : (t : Moving) (rd : ℕ) (rest : List ℕ) → slice_get (moved_reads t rd ++ rest) (suc (outgoing t)) ≡ slice_get rest 1
unfolding outgoing
next_outgoing (Load l) rd rest = refl
next_outgoing (Store sizes.Byte) rd rest = refl
next_outgoing (Store sizes.Half) rd rest = refl
next_outgoing (Store sizes.Word) rd rest = refl
next_outgoing (Store sizes.Double) rd rest = refl
next_outgoing (Exchange exchanges.Ones) rd rest = refl
next_outgoing (Exchange exchanges.Register) rd rest = refl

among_first : (xs rest : List ℕ) (n r : ℕ) → slice_get xs n ≡ Some r → slice_get (xs ++ rest) n ≡ Some r
among_first [] rest n r h = absurd (cc)
among_first (x ∷ xs) rest zero r h = h
among_first (x ∷ xs) rest (suc n) r h = among_first xs rest n r h

-- an address of neither %sp nor %fp names no frame word
no_offset : (frame rs1 : ℕ) (operand2 : Operand) → is_reserved rs1 ≡ false → offset_from_sp frame rs1 operand2 ≡ None
no_offset frame rs1 (Register r) h = refl
no_offset frame rs1 (Immediate w) h = grind (arith, nat_tests)

odd_low : (n : ℕ) → n < 32 → odd_of n < 32
odd_low n h = omega arith

-- the number that goes out is the same where its registers are
same_number : (f : Size) (rd : ℕ) (a b : Words) → ((n r : ℕ) → slice_get (moved_reads (Store f) rd) n ≡ Some r → a r ≡ b r) → stored a f rd ≡ stored b f rd
same_number sizes.Byte rd a b h = ap (λ x. x % 2 ^ 8) (h 0 rd refl)
same_number sizes.Half rd a b h = ap (λ x. x % 2 ^ 16) (h 0 rd refl)
same_number sizes.Word rd a b h = h 0 rd refl
same_number sizes.Double rd a b h = ap (λ x. x * 2 ^ 32 + a (odd_of rd)) (h 0 rd refl) ∙ ap (λ x. b rd * 2 ^ 32 + x) (h 1 (odd_of rd) refl)

same_left : (e : Exchanging) (rd : ℕ) (a b : Words) → ((n r : ℕ) → slice_get (moved_reads (Exchange e) rd) n ≡ Some r → a r ≡ b r) → left_behind a e rd ≡ left_behind b e rd
same_left exchanges.Ones rd a b h = refl
same_left exchanges.Register rd a b h = h 0 rd refl

-- which registers go out and come in: rd, and the odd one of its pair
same_some : (x r : ℕ) → Some x ≡ Some r → x ≡ r
same_some x r e = cc

one_low : (x n r : ℕ) → x < 32 → slice_get (x ∷ []) n ≡ Some r → r < 32
one_low x zero r low h = subst (λ y. y < 32) (same_some x r h) low
one_low x (suc n) r low h = absurd (cc)

two_low : (x y n r : ℕ) → x < 32 → y < 32 → slice_get (x ∷ y ∷ []) n ≡ Some r → r < 32
two_low x y zero r low high h = subst (λ y. y < 32) (same_some x r h) low
two_low x y (suc n) r low high h = one_low y n r high h

outgoing_low : (t : Moving) (rd n r : ℕ) → rd < 32 → slice_get (moved_reads t rd) n ≡ Some r → r < 32
outgoing_low (Load l) rd n r low h = absurd (cc)
outgoing_low (Store sizes.Byte) rd n r low h = one_low rd n r low h
outgoing_low (Store sizes.Half) rd n r low h = one_low rd n r low h
outgoing_low (Store sizes.Word) rd n r low h = one_low rd n r low h
outgoing_low (Store sizes.Double) rd n r low h = two_low rd (odd_of rd) n r low (odd_low rd low) h
outgoing_low (Exchange exchanges.Ones) rd n r low h = absurd (cc)
outgoing_low (Exchange exchanges.Register) rd n r low h = one_low rd n r low h

-- ---- two registers at once

no_more : (a b c d : Bool) → c ≡ false → d ≡ false → (a || b || (c || d || false)) ≡ (a || b)
no_more true b c d p q = refl
no_more false true c d p q = refl
no_more false false c d p q = ap (λ x. x || d || false) p ∙ ap (λ x. x || false) q

takes_two : (window : Window) (rd odd high low : ℕ) (s : State) → IsFree window odd → takes ((rd, high) ∷ (odd, low) ∷ []) s ≡ writes rd high (with_reg odd low s)
takes_two window rd odd high low s free =
    let sp = free.sp in
    let fp = free.fp in
    let p : (odd == 14) ≡ false = grind (arith, nat_tests) in
    let q : (odd == 30) ≡ false = grind (arith, nat_tests) in
    ap (λ (t : Bool). if t then Fails StackPointer else Goes (advanced (with_reg rd high (with_reg odd low s)))) (no_more (rd == 14) (rd == 30) (odd == 14) (odd == 30) p q)

-- a register written, and the same instruction to come
written_shown : (window : Window) (known now : KnownParts) (n v : ℕ) (k : Shared) (s : State) → IsFree window n → IsFewer known now n → Shows window known k s →
    Shows window now (with_word_known n v k) (with_reg n v s)
written_shown window known now n v k s free fewer shows =
    let rest = shows.rest in
    record {
      rest = record { pc = rest.pc; npc = rest.npc; annulled = rest.annulled; memory = rest.memory; input = rest.input; output = rest.output; exit = rest.exit };
      file = write_shows window known.location now.location k.base n v k.words k.calls s.registers free fewer.none fewer.location shows.file;
      codes = λ h. shows.codes (fewer.codes h);
      y = λ h. shows.y (fewer.y h);
    }

same_pair : (rd odd high low : ℕ) (words : Words) → rd < 32 → odd < 32 → (l : ℕ) → with_word rd high (with_word odd low words) l ≡ with_location rd high (with_location odd low words) l
same_pair rd odd high low words rd_low odd_low l =
    same_location rd high (with_word odd low words) (omega (arith, rd_low)) l
    ∙ ap (λ x. if rd == 0 then x else (if l == rd then high else x)) (same_location odd low words (omega (arith, odd_low)) l)

not_same : (l n : ℕ) → not (l == n) ≡ true → l ≢ n
not_same l n h = grind (arith, nat_tests)

both : (a b : Bool) → a ≡ true → b ≡ false → (a && not b) ≡ true
both true false p q = refl
both a true p q = absurd (cc)
both false b p q = absurd (cc)

module _ (parts : Parts) (w : ℕ) (p : Spot parts w) (lent : window_of (function_at parts p.f) p.b p.i ≡ Lent →
    is_framed (function_at parts p.f).kind ≡ false) (small : length (page_rights parts.regions) ≤ 64) where
  abbrev function : Function
  function = function_at parts p.f

  abbrev window : Window
  window = window_of function p.b p.i

  abbrev d : Known
  d = p.v.known

  abbrev held : Held
  held = record { words = p.k.words; icc = p.k.icc; y = p.k.y }

  -- What the rules say of an access by an address that names no frame word.
  pub record AccessesData (t : Moving) (m : MemoryOperand) : Type 0 where
    pub is : op_of parts w p ≡ Transfer t m
    pub rd_low : m.rd < 32
    pub no_word : frame_word_of function.frame m ≡ None
    pub place : ℕ
    pub address : (s : State) → ShowsSpot parts w p s → address_in s m ≡ place
    pub inside : IsInData parts.regions place (bytes_in (size_of t)) (writes_memory t)
    pub goes_out : (s : State) → ShowsSpot parts w p s → (n r : ℕ) → slice_get (moved_reads t m.rd) n ≡ Some r → reg s r ≡ p.k.words r
    pub comes_in : (n r : ℕ) → slice_get (moved_writes t m.rd) n ≡ Some r → r < 32 → IsFree window r × (15 ≢ r)

  pub accesses : (t : Moving) (m : MemoryOperand) → op_of parts w p ≡ Transfer t m → LowThree m.rd m.rs1 m.operand2 → frame_offset function t m ≡ None
      → reads_undefined function (Transfer t m) d ≡ false → touches_reserved function (Transfer t m) ≡ false
      → is_aligned_access (access_of function (Transfer t m) d) ≡ true → is_placed_access parts function.frame (access_of function (Transfer t m) d) ≡ true → AccessesData t m
  unfolding reads_of writes_of access_of
  accesses t m is low by_address known kept aligned placed =
      let o = Transfer t m in
      let near = p.at.fits.near in
      let rest = m.rs1 ∷ second_reads m.operand2 in
      let list : reads_of function o ≡ moved_reads t m.rd ++ rest = ap (λ x. moved_reads t m.rd ++ address_reads x m) by_address in
      let first_at : slice_get (reads_of function o) (outgoing t) ≡ Some m.rs1 = ap (λ xs. slice_get xs (outgoing t)) list ∙ after_outgoing t m.rd rest in
      let second_at : (r : ℕ) → m.operand2 ≡ Register r → slice_get (reads_of function o) (suc (outgoing t)) ≡ Some r =
      λ r e. ap (λ xs. slice_get xs (suc (outgoing t))) list ∙ next_outgoing t m.rd rest ∙ second_read m.rs1 m.operand2 r e in
      let first_is = register_shown parts w p lent m.rs1 low.rs1_low (read_known function o d known kept (outgoing t) m.rs1 first_at) in
      let second_is = second_shown parts w p m.operand2 low.operand_low (λ r e some. read_known function o d known kept (suc (outgoing t)) r (second_at r e) some) in
      let free = read_free function o d known kept (outgoing t) m.rs1 first_at in
      let operand = operand_of m.operand2 low.operand_low in
      let a = register_entry d m.rs1 in
      let b = operand_entry d m.operand2 in
      let access : Access = record { size = bytes_in (size_of t); writes = writes_memory t; offset = frame_offset function t m; range = address_of a b } in
      record {
        is = is;
        rd_low = low.rd_low;
        no_word = ap (word_at_offset function.frame) (no_offset function.frame m.rs1 m.operand2 free);
        place = sum_address (p.k.words m.rs1) (second p.k.words m.operand2);
        address = λ s h. ap (λ x. sum_address x (second (reg s) m.operand2)) (first_is s h) ∙ ap (sum_address (p.k.words m.rs1)) (second_is s h);
        inside = lies_in_data p.start parts (size_of t) (writes_memory t) a b (p.k.words m.rs1) (second p.k.words m.operand2) (near.are_words m.rs1)
            (operand_word p.k.words m.operand2 near.are_words operand)
            (register_has p.start d p.k.words p.k.icc p.k.y m.rs1 near) (operand_has p.start d p.k.words p.k.icc p.k.y m.operand2 near)
            (register_multiple p.start d p.k.words p.k.icc p.k.y m.rs1 p.at.fits) (operand_multiple p.start d p.k.words p.k.icc p.k.y m.operand2 p.at.fits)
            (sym (ap (λ x. is_aligned_at x access) by_address) ∙ aligned) (sym (ap (λ x. is_placed_at parts function.frame x access) by_address) ∙ placed);
        goes_out = λ s h n r e. register_shown parts w p lent r (outgoing_low t m.rd n r low.rd_low e)
            (read_known function o d known kept n r (ap (λ xs. slice_get xs n) list ∙ among_first (moved_reads t m.rd) rest n r e)) s h;
        comes_in = λ n r e r_low. free_register window (is_framed function.kind) r r_low (write_allowed function o d known kept n r e) lent;
      }

  module _ (t : Moving) (m : MemoryOperand) (access : AccessesData t m) where
    some_bytes : (f : Size) → 0 < bytes_in f
    some_bytes sizes.Byte = omega arith
    some_bytes sizes.Half = omega arith
    some_bytes sizes.Word = omega arith
    some_bytes sizes.Double = omega arith

    region : LiesInOne data_start parts.regions access.place (bytes_in (size_of t)) (writes_memory t)
    region = reached parts.regions access.place (bytes_in (size_of t)) (writes_memory t) (some_bytes (size_of t)) access.inside.lies

    -- the number there
    pub there : IsThere p.k.memory access.place (bytes_in (size_of t))
    there = number_is_there parts.regions p.k.memory p.k.input p.at.stored access.place (bytes_in (size_of t))
        (λ i less. (slice_index (laid parts.regions) (access.place + i - data_start), region.bytes i less))

    pub reaches_data : ReachesData parts w p t m access.place there.number
    reaches_data =
        let to = region.to in
        record { address = access.address; multiple = access.inside.multiple; below = omega (arith, to, small); lies = access.inside.lies; number = there.is }

  -- ---- loads

  -- a load that fills one register
  load_one : (l : Loading) (m : MemoryOperand) (access : AccessesData (Load l) m) → moved_writes (Load l) m.rd ≡ m.rd ∷ [] → ((n : ℕ) → loaded l m.rd n ≡ (m.rd, filled l n) ∷ [])
      → with_moved None (Load l) m.rd d ≡ with_entry m.rd (Some (plain_entry (loaded_range l))) d → Does parts w p
  unfolding transferred
  load_one l m access fills one knows =
      let o = Transfer (Load l) m in
      let n = (there (Load l) m access).number in
      let v = filled l n in
      let rd_low = access.rd_low in
      let e : Option Entry = Some (plain_entry (loaded_range l)) in
      let free = access.comes_in 0 m.rd (ap (λ xs. slice_get xs 0) fills) rd_low in
      let same : then_knows parts w p o ≡ with_entry m.rd e d = ap (λ word. with_moved word (Load l) m.rd d) access.no_word ∙ knows in
      let came = (data_keeps_fitting.load function.frame l m d held n access.no_word (there (Load l) m access).small).fits p.start p.at.fits in
      let fits : Fits p.start (then_knows parts w p o) (with_word m.rd v p.k.words) p.k.icc p.k.y =
      subst (λ xs. Fits p.start (then_knows parts w p o) (with_pairs xs held).words (with_pairs xs held).icc (with_pairs xs held).y) (one n) came in
      loads_data parts w p l m access.place n access.is (reaches_data (Load l) m access) (one n) free.0 free.1
      (fits_shown p.start (then_knows parts w p o) m.rd v p.k.words p.k.icc p.k.y (omega (arith, rd_low)) fits) (is_fewer parts w p o m.rd e same)

  -- what is known after LDD
  abbrev any_word : Option Entry
  any_word = Some (plain_entry (all 0))

  pair_known : (m : MemoryOperand) → frame_word_of function.frame m ≡ None → then_knows parts w p (Transfer (Load loadings.Double) m) ≡ with_entry (odd_of m.rd) any_word (with_entry m.rd any_word d)
  unfolding transferred
  pair_known m none = ap (λ word. with_moved word (Load loadings.Double) m.rd d) none

  -- LDD fills a pair
  load_pair : (m : MemoryOperand) (access : AccessesData (Load loadings.Double) m) → Does parts w p
  load_pair m access =
      let t : Moving = Load loadings.Double in
      let o = Transfer t m in
      let a = access.place in
      let n = (there t m access).number in
      let rd = m.rd in
      let odd = odd_of rd in
      let high = n / 2 ^ 32 in
      let low = n % 2 ^ 32 in
      let rd_low = access.rd_low in
      let free = access.comes_in 0 rd refl rd_low in
      let free_odd = access.comes_in 1 odd refl (odd_low rd rd_low) in
      let same = pair_known m access.no_word in
      let after = tests parts (then_knows parts w p o) (linked_at parts w p) in
      let mid : KnownParts = record { location = λ l. after.location l && not (l == rd); codes = after.codes; y = after.y } in
      let first : IsFewer (tests parts d (linked_at parts w p)) mid odd = record {
        none = refl;
        location = λ l r apart. more_tests l (is_defined (then_knows parts w p o) l) (is_defined d l) (linked_at parts w p)
            (ap (λ k. is_defined k l) same ∙ other_defined l odd any_word (with_entry rd any_word d) apart
            ∙ other_defined l rd any_word d (not_same l rd (and_right (after.location l) (not (l == rd)) r)))
            (and_left (after.location l) (not (l == rd)) r);
        codes = λ r. sym (ap (λ (k : Known). k.icc) same ∙ entry_codes odd any_word (with_entry rd any_word d) ∙ entry_codes rd any_word d) ∙ r;
        y = λ r. sym (ap (λ (k : Known). is_some k.y) same ∙ ap (λ (x : Option Range). is_some x) (entry_y odd any_word (with_entry rd any_word d) ∙ entry_y rd any_word d)) ∙ r;
      } in
      let then_rd : IsFewer mid after rd =
      record {
        none = refl;
        location = λ l r apart. both (after.location l) (l == rd) r (let e : (l == rd) ≡ false = grind (arith, nat_tests) in e);
        codes =
            λ r. r;
        y = λ r. r;
      } in
      let words = with_location rd high (with_location odd low p.k.words) in
      let came = (data_keeps_fitting.load function.frame loadings.Double m d held n access.no_word (there t m access).small).fits p.start p.at.fits in
      record {
        left = record { words = words; icc = p.k.icc; y = p.k.y; memory = p.k.memory; input = p.k.input; output = p.k.output };
        fits = subst (λ o. Fits p.start (then_knows parts w p o) words p.k.icc p.k.y) (sym access.is)
            (fits_same p.start (then_knows parts w p o) (with_word rd high (with_word odd low p.k.words)) words p.k.icc p.k.y (same_pair rd odd high low p.k.words rd_low (odd_low rd rd_low)) came);
        link = other_word rd high (with_location odd low p.k.words) free.1 ∙ other_word odd low p.k.words free_odd.1;
        stored = p.at.stored;
        reached = Some a;
        reaches = λ s h. ap (λ o. reached_by o s) access.is ∙ ap (λ (x : ℕ). Some x) (access.address s h);
        goes = λ fresh s h.
            (let number = finds parts w p t m a n (reaches_data t m access) s h in
            let turn : does parts fresh (op_of parts w p) s ≡ writes rd high (with_reg odd low s) =
            ap (λ o. does parts fresh o s) access.is ∙ ap (λ x. transfers parts t m x s) (access.address s h) ∙ is_aligned 8 a _ access.inside.multiple
            ∙ ap (λ x. transfers_data t rd a x s) number ∙ takes_two window rd odd high low s free_odd.0 in
            subst (λ o. Reaches (does parts fresh (op_of parts w p) s)
            (Shows window (tests parts (then_knows parts w p o) (linked_at parts w p)) (moved_on (with_word_known rd high (with_word_known odd low p.k)))))
            (sym access.is)
            (reaches_by _ _ _ turn
            (writes_reach window mid after rd high (with_word_known odd low p.k) (with_reg odd low s) free.0 then_rd
            (written_shown window (tests parts d (linked_at parts w p)) mid odd low p.k s free_odd.0 first h))));
      }

  pub loads : (l : Loading) (m : MemoryOperand) → AccessesData (Load l) m → Does parts w p
  loads loadings.UnsignedByte m access = load_one loadings.UnsignedByte m access refl (λ n. refl) refl
  loads loadings.SignedByte m access = load_one loadings.SignedByte m access refl (λ n. refl) refl
  loads loadings.UnsignedHalf m access = load_one loadings.UnsignedHalf m access refl (λ n. refl) refl
  loads loadings.SignedHalf m access = load_one loadings.SignedHalf m access refl (λ n. refl) refl
  loads loadings.Word m access = load_one loadings.Word m access refl (λ n. refl) refl
  loads loadings.Double m access = load_pair m access

  -- ---- stores and exchanges

  pub stores : (f : Size) (m : MemoryOperand) → AccessesData (Store f) m → Does parts w p
  unfolding transferred
  stores f m access =
      let o = Transfer (Store f) m in
      let same : then_knows parts w p o ≡ d = ap (λ word. with_moved word (Store f) m.rd d) access.no_word in
      stores_data parts w p f m access.place (there (Store f) m access).number (stored p.k.words f m.rd) access.is (reaches_data (Store f) m access)
      (λ s h. same_number f m.rd (reg s) p.k.words (access.goes_out s h))
      ((data_keeps_fitting.store function.frame f m d held access.no_word).fits p.start p.at.fits) (unchanged_is_fewer parts w p o same)

  pub exchanges_data : (e : Exchanging) (m : MemoryOperand) → AccessesData (Exchange e) m → Does parts w p
  unfolding transferred
  exchanges_data e m access =
      let t : Moving = Exchange e in
      let o = Transfer t m in
      let a = access.place in
      let size = bytes_in (exchanged_size e) in
      let n = (there t m access).number in
      let left = left_behind p.k.words e m.rd in
      let rd_low = access.rd_low in
      let free = access.comes_in 0 m.rd refl rd_low in
      let entry : Option Entry = Some (plain_entry (exchanged_range e)) in
      writes_one parts w p o m.rd n p.k.icc p.k.y (with_number p.k.memory a size left) (record {
        is = access.is;
        free = free.0;
        apart = free.1;
        fits = fits_shown p.start (then_knows parts w p o) m.rd n p.k.words p.k.icc p.k.y (omega (arith, rd_low))
            ((data_keeps_fitting.exchange function.frame e m d held n (there t m access).small).fits p.start p.at.fits);
        stored = stored_after_store parts.regions a size left p.k.memory p.k.input p.at.stored;
        defined = entry_defined parts w p o m.rd entry refl;
        reached = Some a;
        reaches = λ s h. ap (λ (x : ℕ). Some x) (access.address s h);
        icc_in = λ s. s.icc;
        y_in = λ s. s.y;
        memory_in = λ s. with_number s.memory a size (left_behind (reg s) e m.rd);
        codes = keeps_codes parts w p o m.rd entry refl;
        same_y = keeps_y parts w p o m.rd entry refl;
        same_bytes = λ s h x. ap (λ y. if nat_le a x && nat_lt x (a + size) then Some (byte_of size (left_behind (reg s) e m.rd) (x - a)) else y) (h.rest.memory x)
            ∙ ap (λ y. with_number p.k.memory a size y x) (same_left e m.rd (reg s) p.k.words (access.goes_out s h));
        turn = λ fresh s h.
            (let number = finds parts w p t m a n (reaches_data t m access) s h in
            ap (λ x. transfers parts t m x s) (access.address s h) ∙ is_aligned size a _ access.inside.multiple ∙ ap (λ x. transfers_data t m.rd a x s) number
            ∙ takes_one m.rd n (record s { memory = with_number s.memory a size (left_behind (reg s) e m.rd) }));
      })
