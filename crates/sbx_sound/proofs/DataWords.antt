-- Loads and stores of data, and the services get and put.
use Rattle.std.proofs.Common.{◌≡◌, ◌≢◌, ℕ, zero, suc, ◌+◌, ◌-◌, ◌%◌, ◌^◌, ◌<◌, Bool, true, false, List, [], ◌∷◌, ◌++◌, Option, Some, None, refl, sym, ap, ◌∙◌, subst, arith}
use Rattle.std.specs.Prelude.{◌==◌, ◌&&◌, nat_lt, nat_le, if◌then◌else◌}
use Rattle.std.proofs.lemmas.Bool.Decides.{nat_tests}
use Rattle.v8_formats.specs.declared.instr.Trap.{Trap}
use Rattle.v8_word.specs.declared.Size.{Size}
use Rattle.v8_word.specs.declared.Size.TheVariants as sizes
use Rattle.v8_meaning.specs.Transfers.{bytes_in, filled, loaded, size_of, stored, writes_memory}
use Rattle.v8_meaning.specs.declared.operation.Transfer.TheVariants as transfer
use Rattle.v8_meaning.specs.declared.operation.Transfer.{Transfer as Moving}
use Rattle.v8_meaning.specs.declared.operation.Loading.{Loading}
use Rattle.v8_meaning.specs.declared.operation.MemoryOperand.{MemoryOperand}
use Rattle.v8_meaning.specs.declared.operation.Operation.{Operation}
use Rattle.v8_meaning.specs.declared.operation.Operation.TheVariants.{Transfer, TrapOnCondition}
use Rattle.v8_meaning.specs.Operands.{following}
use Rattle.sbx_image.specs.Parts.{Parts}
use Rattle.sbx_image.specs.Regions.{in_one_region}
use Rattle.sbx_flat.specs.Effects.{address_in, aligned, declares, does, found, gets, puts, served, serves, service_of, slot_of, takes, transfers, transfers_data, transfers_in, writes}
use Rattle.sbx_flat.specs.Memory.{Bytes, byte_of, followed_by, number_at, with_number}
use Rattle.sbx_flat.specs.Registers.{written}
use Rattle.sbx_flat.specs.Runs.{AreBytes, reached_by}
use Rattle.sbx_flat.specs.declared.path.Wrong.TheVariants.{Misaligned, NoService}
use Rattle.sbx_flat.specs.States.{State, Turn, Goes, Fails, advanced, reg}
use Rattle.sbx_rules.specs.Fits.{Fits}
use Rattle.sbx_image.specs.Order.{function_at}
use Rattle.sbx_sound.proofs.Running.{tests, window_of}
use Rattle.sbx_sound.proofs.Shared.{KnownParts, Shared, Shows, Window, with_location}
use Rattle.sbx_rules.specs.Transfer.{transferred}
use Rattle.sbx_sound.proofs.Effects.{IsFewer, Reaches, moved_on, reaches_by, takes_one, with_word_known, writes_reach}
use Rattle.sbx_sound.proofs.Frames.{IsFree, write_shows}
use Rattle.sbx_sound.proofs.Safe.{ShowsSpot, Spot}
use Rattle.sbx_sound.proofs.Steps.{Does, linked_at, op_of}
use Rattle.sbx_sound.proofs.Stored.{bytes_after_first, stored_after_store}
use Rattle.v8_meaning.specs.declared.operation.Loading.TheVariants as loadings
use Rattle.sbx_sound.proofs.Written.{other_word}

pub number_same : (a b : Bytes) → ((x : ℕ) → a x ≡ b x) → (place count : ℕ) → number_at a place count ≡ number_at b place count
number_same a b same place zero = refl
number_same a b same place (suc count) = ap (λ n. followed_by n (a (place + count))) (number_same a b same place count) ∙ ap (λ x. followed_by (number_at b place count) x) (same (place + count))

no_slot : (t : Moving) (s : State) (a : ℕ) → s.registers.newest.slots a ≡ None → slot_of t s a ≡ None
no_slot (transfer.Load loadings.Word) s a h = h
no_slot (transfer.Store sizes.Word) s a h = h
no_slot _ s a h = refl

pub is_aligned : (size a : ℕ) (t : Turn) → a % size ≡ 0 → aligned size a t ≡ t
is_aligned size a t e = let f : (a % size == 0) ≡ true = grind (arith, nat_tests) in ap (λ (b : Bool). if b then t else Fails Misaligned) f

some_location : (l : ℕ) (test : ℕ → Bool) → test 0 ≡ false → test l ≡ true → l ≢ 0
some_location zero test a b e = absurd (cc)
some_location (suc l) test a b e = omega arith

-- the same registers, other data
with_memory_shown : (window : Window) (known now : KnownParts) (k : Shared) (s : State) (m n : Bytes) → ((a : ℕ) → m a ≡ n a) → IsFewer known now 0 →
    Shows window known k s → Shows window now (moved_on (record k { memory = n })) (advanced (record s { memory = m }))
with_memory_shown window known now k s m n same fewer shows =
    let rest = shows.rest in
    let file = shows.file in
    record {
      rest = record { pc = rest.npc; npc = ap following rest.npc; annulled = rest.annulled; memory = same; input = rest.input; output = rest.output; exit = rest.exit };
      file = record {
        base_is = file.base_is;
        words_are = λ l h. file.words_are l (fewer.location l h (some_location l now.location fewer.none h));
        calls_are =
            file.calls_are;
        slots = file.slots;
        below = file.below;
      };
      codes = λ h. shows.codes (fewer.codes h);
      y = λ h. shows.y (fewer.y h);
    }

module _ (parts : Parts) (w : ℕ) (p : Spot parts w) where
  abbrev window : Window
  window = window_of (function_at parts p.f) p.b p.i

  abbrev frame : ℕ
  frame = (function_at parts p.f).frame

  abbrev before : KnownParts
  before = tests parts p.v.known (linked_at parts w p)

  abbrev after : Operation → KnownParts
  after o = tests parts (transferred frame o p.v.known) (linked_at parts w p)

  -- What V8 and V9 say of an access to the data: its address, the same in every state, below the stack, in one region, and the number that
  -- lies there.
  pub record ReachesData (t : Moving) (m : MemoryOperand) (a n : ℕ) : Type 0 where
    pub address : (s : State) → ShowsSpot parts w p s → address_in s m ≡ a
    pub multiple : a % bytes_in (size_of t) ≡ 0
    pub below : a < 0x000F0000
    pub lies : in_one_region parts.regions a (bytes_in (size_of t)) (writes_memory t) ≡ true
    pub number : number_at p.k.memory a (bytes_in (size_of t)) ≡ Some n

  -- the number is found in each state that shows it
  pub finds : (t : Moving) (m : MemoryOperand) (a n : ℕ) → ReachesData t m a n → (s : State) → ShowsSpot parts w p s → found parts t a s.memory ≡ Some n
  finds t m a n access s h =
      ap (λ (b : Bool). if b then number_at s.memory a (bytes_in (size_of t)) else None) access.lies
      ∙ number_same s.memory p.k.memory h.rest.memory a (bytes_in (size_of t)) ∙ access.number

  -- a load that fills one register
  pub loads_data : (l : Loading) (m : MemoryOperand) (a n : ℕ) → op_of parts w p ≡ Transfer (transfer.Load l) m → ReachesData (transfer.Load l) m a n →
      loaded l m.rd n ≡ (m.rd, filled l n) ∷ [] → IsFree window m.rd → 15 ≢ m.rd
      → Fits p.start (transferred frame (Transfer (transfer.Load l) m) p.v.known) (with_location m.rd (filled l n) p.k.words) p.k.icc p.k.y →
      IsFewer before (after (Transfer (transfer.Load l) m)) m.rd → Does parts w p
  loads_data l m a n is access one free apart fits fewer =
      let size = bytes_in (size_of (transfer.Load l)) in
      let v = filled l n in
      let o = Transfer (transfer.Load l) m in
      record {
        left = record { words = with_location m.rd v p.k.words; icc = p.k.icc; y = p.k.y; memory = p.k.memory; input = p.k.input; output = p.k.output };
        fits = subst (λ o. Fits p.start (transferred frame o p.v.known) (with_location m.rd v p.k.words) p.k.icc p.k.y) (sym is) fits;
        link = other_word m.rd v p.k.words apart;
        stored = p.at.stored;
        reached = Some a;
        reaches = λ s h. ap (λ o. reached_by o s) is ∙ ap Some (access.address s h);
        goes = λ fresh s h.
            (let none = no_slot (transfer.Load l) s a (h.file.below a access.below) in
            let number = finds (transfer.Load l) m a n access s h in
            let turn : does parts fresh (op_of parts w p) s ≡ writes m.rd v s =
            ap (λ o. does parts fresh o s) is ∙ ap (λ x. transfers parts (transfer.Load l) m x s) (access.address s h) ∙ is_aligned size a _ access.multiple
            ∙ ap (λ x. transfers_in parts (transfer.Load l) m.rd a x s) none ∙ ap (λ x. transfers_data (transfer.Load l) m.rd a x s) number ∙ ap (λ x. takes x s) one ∙ takes_one m.rd v s in
            subst (λ o. Reaches (does parts fresh (op_of parts w p) s) (Shows window (after o) (moved_on (with_word_known m.rd v p.k)))) (sym is)
            (reaches_by _ _ _ turn (writes_reach window before (after o) m.rd v p.k s free fewer h)));
      }

  -- a store of any size, by the number that goes out
  pub stores_data : (f : Size) (m : MemoryOperand) (a n v : ℕ) → op_of parts w p ≡ Transfer (transfer.Store f) m → ReachesData (transfer.Store f) m a n →
      ((s : State) → ShowsSpot parts w p s → stored (reg s) f m.rd ≡ v)
      → Fits p.start (transferred frame (Transfer (transfer.Store f) m) p.v.known) p.k.words p.k.icc p.k.y → IsFewer before (after (Transfer (transfer.Store f) m)) 0 → Does parts w p
  stores_data f m a n v is access value fits fewer =
      let size = bytes_in f in
      let memory = with_number p.k.memory a size v in
      let o = Transfer (transfer.Store f) m in
      record {
        left = record { words = p.k.words; icc = p.k.icc; y = p.k.y; memory = memory; input = p.k.input; output = p.k.output };
        fits = subst (λ o. Fits p.start (transferred frame o p.v.known) p.k.words p.k.icc p.k.y) (sym is) fits;
        link = refl;
        stored = stored_after_store parts.regions a size v p.k.memory p.k.input p.at.stored;
        reached = Some a;
        reaches = λ s h. ap (λ o. reached_by o s) is ∙ ap Some (access.address s h);
        goes = λ fresh s h.
            (let none = no_slot (transfer.Store f) s a (h.file.below a access.below) in
            let number = finds (transfer.Store f) m a n access s h in
            let made = with_number s.memory a size v in
            let turn : does parts fresh (op_of parts w p) s ≡ Goes (advanced (record s { memory = made })) =
            ap (λ o. does parts fresh o s) is ∙ ap (λ x. transfers parts (transfer.Store f) m x s) (access.address s h) ∙ is_aligned size a _ access.multiple
            ∙ ap (λ x. transfers_in parts (transfer.Store f) m.rd a x s) none ∙ ap (λ x. transfers_data (transfer.Store f) m.rd a x s) number
            ∙ ap (λ x. Goes (advanced (record s { memory = with_number s.memory a size x }))) (value s h) in
            subst (λ o. Reaches (does parts fresh (op_of parts w p) s) (Shows window (after o) (moved_on (record p.k { memory = memory })))) (sym is)
            (record {
              next = advanced (record s { memory = made });
              goes = turn;
              is =
                  with_memory_shown window before (after o) p.k s made memory
                  (λ x. ap (λ y. if nat_le a x && nat_lt x (a + size) then Some (byte_of size v (x - a)) else y) (h.rest.memory x)) fewer h;
            }));
      }

  -- ---- services

  serves_it : (s : State) (o : Option ℕ) (n : ℕ) → o ≡ Some n → declares parts.services n ≡ true → serves parts.services o s ≡ Goes (advanced (served n s))
  serves_it s o n e h = ap (λ x. serves parts.services x s) e ∙ ap (λ (t : Bool). if t then Goes (advanced (served n s)) else Fails NoService) h

  -- what the input gives, and what is left of it
  abbrev pub got : List ℕ → ℕ
  got [] = 2 ^ 32 - 1
  got (byte ∷ rest) = byte

  abbrev pub rest_of : List ℕ → List ℕ
  rest_of [] = []
  rest_of (byte ∷ rest) = rest

  abbrev pub got_shared : Shared → Shared
  got_shared k = record (moved_on (with_word_known 8 (got k.input) k)) { input = rest_of k.input }

  bytes_of_rest : (input : List ℕ) → AreBytes input → AreBytes (rest_of input)
  bytes_of_rest [] are = are
  bytes_of_rest (byte ∷ rest) are = bytes_after_first byte rest are

  got_state : (input : List ℕ) (s : State) → s.input ≡ input → gets s.input s ≡ record s { registers = written 8 (got input) s.registers; input = rest_of input }
  got_state [] s e = ap (λ i. gets i s) e ∙ ap (λ (i : List ℕ). record s { registers = written 8 (got []) s.registers; input = i }) e
  got_state (b ∷ rest) s e = ap (λ i. gets i s) e

  pub gets_byte : (t : Trap) → op_of parts w p ≡ TrapOnCondition t → service_of t ≡ Some 1 → declares parts.services 1 ≡ true → IsFree window 8
      → Fits p.start (transferred frame (TrapOnCondition t) p.v.known) (with_location 8 (got p.k.input) p.k.words) p.k.icc p.k.y → IsFewer before (after (TrapOnCondition t)) 8 → Does parts w p
  gets_byte t is service declared free fits fewer = record {
    left = record { words = with_location 8 (got p.k.input) p.k.words; icc = p.k.icc; y = p.k.y; memory = p.k.memory; input = rest_of p.k.input; output = p.k.output };
    fits = subst (λ o. Fits p.start (transferred frame o p.v.known) (with_location 8 (got p.k.input) p.k.words) p.k.icc p.k.y) (sym is) fits;
    link = refl;
    stored = record { of_data = p.at.stored.of_data; of_input = bytes_of_rest p.k.input p.at.stored.of_input };
    reached = None;
    reaches = λ s h. ap (λ o. reached_by o s) is;
    goes = λ fresh s h.
        (let rest = h.rest in
        let k = p.k in
        let turn : does parts fresh (op_of parts w p) s ≡ Goes (advanced (record s { registers = written 8 (got k.input) s.registers; input = rest_of k.input })) =
        ap (λ o. does parts fresh o s) is ∙ serves_it s (service_of t) 1 service declared ∙ ap (λ x. Goes (advanced x)) (got_state k.input s rest.input) in
        subst (λ o. Reaches (does parts fresh (op_of parts w p) s) (Shows window (after o) (got_shared k))) (sym is)
        (record {
          next = advanced (record s { registers = written 8 (got k.input) s.registers; input = rest_of k.input });
          goes = turn;
          is = record {
            rest = record { pc = rest.npc; npc = ap following rest.npc; annulled = rest.annulled; memory = rest.memory; input = refl; output = rest.output; exit = rest.exit };
            file = write_shows window before.location (after (TrapOnCondition t)).location k.base 8 (got k.input) k.words k.calls s.registers free fewer.none fewer.location h.file;
            codes = λ r. h.codes (fewer.codes r);
            y = λ r. h.y (fewer.y r);
          };
        }));
  }

  -- put: the low byte of %o0 goes to the output
  pub puts_byte : (t : Trap) (v : ℕ) → op_of parts w p ≡ TrapOnCondition t → service_of t ≡ Some 2 → declares parts.services 2 ≡ true → ((s : State) → ShowsSpot parts w p s → reg s 8 ≡ v)
      → Fits p.start (transferred frame (TrapOnCondition t) p.v.known) p.k.words p.k.icc p.k.y → IsFewer before (after (TrapOnCondition t)) 0 → Does parts w p
  puts_byte t v is service declared value fits fewer =
      let output = p.k.output ++ (v % 2 ^ 8) ∷ [] in
      record {
        left = record { words = p.k.words; icc = p.k.icc; y = p.k.y; memory = p.k.memory; input = p.k.input; output = output };
        fits = subst (λ o. Fits p.start (transferred frame o p.v.known) p.k.words p.k.icc p.k.y) (sym is) fits;
        link = refl;
        stored = p.at.stored;
        reached = None;
        reaches = λ s h. ap (λ o. reached_by o s) is;
        goes = λ fresh s h.
            (let rest = h.rest in
            let file = h.file in
            let turn : does parts fresh (op_of parts w p) s ≡ Goes (advanced (puts s)) = ap (λ o. does parts fresh o s) is ∙ serves_it s (service_of t) 2 service declared in
            subst (λ o. Reaches (does parts fresh (op_of parts w p) s) (Shows window (after o) (moved_on (record p.k { output = output })))) (sym is)
            (record {
              next = advanced (puts s);
              goes = turn;
              is = record {
                rest = record {
                  pc = rest.npc;
                  npc = ap following rest.npc;
                  annulled = rest.annulled;
                  memory = rest.memory;
                  input = rest.input;
                  output =
                      ap (λ x. x ++ (reg s 8 % 2 ^ 8) ∷ []) rest.output ∙ ap (λ x. p.k.output ++ (x % 2 ^ 8) ∷ []) (value s h);
                  exit = rest.exit;
                };
                file = record {
                  base_is = file.base_is;
                  words_are =
                      λ l r. file.words_are l (fewer.location l r (some_location l (after (TrapOnCondition t)).location fewer.none r));
                  calls_are =
                      file.calls_are;
                  slots = file.slots;
                  below = file.below;
                };
                codes = λ r. h.codes (fewer.codes r);
                y = λ r. h.y (fewer.y r);
              };
            }));
      }
