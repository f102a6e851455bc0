-- What a turn does to boards of which one has more input than is known.
use Rattle.std.proofs.Common.{◌≡◌, ℕ, zero, suc, ◌-◌, ◌^◌, ◌%◌, Bool, true, false, not, List, [], ◌∷◌, ◌++◌, Option, None, Some, refl, sym, ap, subst, ◌∙◌, append_assoc, arith}
use Rattle.std.proofs.lemmas.Bool.Decides.{nat_tests}
use Rattle.std.specs.Prelude.{◌==◌, ◌&&◌, nat_lt, if◌then◌else◌}
use Rattle.v8_core.specs.Size.{Size}
use Rattle.v8_core.specs.Size.TheVariants as sizes
use Rattle.v8_core.specs.Transfers.{exchanged_size, loaded_size}
use Rattle.v8_core.specs.Transfer.{Transfer}
use Rattle.v8_core.specs.Transfer.TheVariants as transfers_of
use Rattle.v8_core.specs.Meaning.{exchanged_after, stored_after}
use Rattle.v8_core.specs.Ram.{number_at}
use Rattle.v8_core.specs.Stop.{Stop}
use Rattle.v8_core.specs.Stop.TheVariants as stops
use Rattle.v8_core.specs.MmuRegs.{MmuRegs}
use Rattle.v8_core.specs.Cpu.{Cpu}
use Rattle.v8_core.specs.declared.turn.Turn.{Turn}
use Rattle.v8_core.specs.Accesses.{world}
use Rattle.v8_core.specs.Memory.{answers, loaded_from}
use Rattle.v8_core.specs.Steps.{next}
use Rattle.v8_board.specs.Board.{Device, beside, board, board_load, board_store, device_base, device_load, device_store, gets, is_word, overwritten, seen, with_ram}
use Rattle.v8_board.specs.declared.outcome.Counts.{Counts}
use Rattle.v8_board.specs.declared.outcome.Ending.{Ending}
use Rattle.v8_board.specs.Seen.{State, counts_unless, ending_by, ending_of, turned}
use Rattle.sbx_port.specs.Following.{left, beyond, Follows, Fine, FollowsOn}
use Rattle.sbx_port.proofs.Carried.{SameAnswer, SameTurn, next_same}

-- ---- answers to loads and to stores

abbrev SameLoaded : (Device → Device → Type 0) → (Device → Type 0) → Option (ℕ × Device) → Option (ℕ × Device) → Type 0
SameLoaded R F (Some x) (Some y) = F x.1 → (x.0 ≡ y.0) × R x.1 y.1
SameLoaded R F (Some x) None = ⊥
SameLoaded R F None (Some y) = ⊥
SameLoaded R F None None = Unit {0}

abbrev SameStored : (Device → Device → Type 0) → Option (List ℕ × Device) → Option (List ℕ × Device) → Type 0
SameStored R (Some x) (Some y) = (x.0 ≡ y.0) × R x.1 y.1
SameStored R (Some x) None = ⊥
SameStored R None (Some y) = ⊥
SameStored R None None = Unit {0}

abbrev SameKept : (Device → Device → Type 0) → Option Device → Option Device → Type 0
SameKept R (Some x) (Some y) = R x y
SameKept R (Some x) None = ⊥
SameKept R None (Some y) = ⊥
SameKept R None None = Unit {0}

either_loaded : (R : Device → Device → Type 0) (F : Device → Type 0) (b : Bool) (x y v w : Option (ℕ × Device)) → SameLoaded R F x y → SameLoaded R F v w
    → SameLoaded R F (if b then x else v) (if b then y else w)
either_loaded R F true x y v w p q = p
either_loaded R F false x y v w p q = q

either_stored : (R : Device → Device → Type 0) (b : Bool) (x y v w : Option (List ℕ × Device)) → SameStored R x y → SameStored R v w → SameStored R (if b then x else v) (if b then y else w)
either_stored R true x y v w p q = p
either_stored R false x y v w p q = q

either_kept : (R : Device → Device → Type 0) (b : Bool) (x y v w : Option Device) → SameKept R x y → SameKept R v w → SameKept R (if b then x else v) (if b then y else w)
either_kept R true x y v w p q = p
either_kept R false x y v w p q = q

loaded_from_same : (R : Device → Device → Type 0) (F : Device → Type 0) (ram : List ℕ) (x y : Option (ℕ × Device)) → SameLoaded R F x y → SameAnswer R F (loaded_from ram x) (loaded_from ram y)
loaded_from_same R F ram (Some x) (Some y) same = λ fine. ((same fine).0, refl, (same fine).1)
loaded_from_same R F ram (Some x) None same = absurd same
loaded_from_same R F ram None (Some y) same = absurd same
loaded_from_same R F ram None None same = tt

stored_after_same : (R : Device → Device → Type 0) (F : Device → Type 0) (a : ℕ) (x y : Option (List ℕ × Device)) → SameStored R x y → SameAnswer R F (stored_after a x) (stored_after a y)
stored_after_same R F a (Some x) (Some y) same = λ fine. (refl, same.0, same.1)
stored_after_same R F a (Some x) None same = absurd same
stored_after_same R F a None (Some y) same = absurd same
stored_after_same R F a None None same = tt

with_ram_same : (R : Device → Device → Type 0) (ram : List ℕ) (a b : Option Device) → SameKept R a b → SameStored R (with_ram ram a) (with_ram ram b)
with_ram_same R ram (Some d) (Some e) same = (refl, same)
with_ram_same R ram (Some d) None same = absurd same
with_ram_same R ram None (Some e) same = absurd same
with_ram_same R ram None None same = tt

not_zero : (k : ℕ) → (suc k == 0) ≡ false
not_zero k = grind (arith, nat_tests)

-- an exchange, by where it goes
abbrev exchange_at : Bool → ℕ → List ℕ → ℕ → Size → ℕ → Option (ℕ × Device) → Option (ℕ × List ℕ × Device)
exchange_at low place ram pa size v None = None
exchange_at low place ram pa size v (Some a) =
    stored_after a.0 (if low then overwritten ram a.1 pa size v (number_at ram pa size) else with_ram ram (device_store a.1 place size v))

exchange_is : (ram : List ℕ) (pa : ℕ) (size : Size) (v : ℕ) (a : Option (ℕ × Device))
    → exchanged_after board_store ram pa size v a ≡ exchange_at (nat_lt pa device_base) (pa - device_base) ram pa size v a
unfolding board_store
exchange_is ram pa size v None = refl
exchange_is ram pa size v (Some a) = refl

-- ---- devices that follow

module _ (met : Bool) (x : ℕ) (l j w : List ℕ) where
  -- what holds of all devices that follow
  settle : (Q : Device → Device → Type 0) → ((c : List ℕ) (en : Bool) (o : List ℕ) (st : Option Stop) → Q (seen (c ++ left met x l) en o st) (seen (c ++ beyond met j) en (w ++ o) st))
      → (d e : Device) → Follows met x l j w d e → Q d e
  settle Q all d e (c, di, ei, en, o, st) =
      let zero = all c d.ended d.output d.stopped in
      let one = subst (λ (i : List ℕ). Q (seen i d.ended d.output d.stopped) (seen (c ++ beyond met j) d.ended (w ++ d.output) d.stopped)) (sym di) zero in
      let two = subst (λ (i : List ℕ). Q d (seen i d.ended (w ++ d.output) d.stopped)) (sym ei) one in
      let three = subst (λ (b : Bool). Q d (seen e.input b (w ++ d.output) d.stopped)) en two in
      let four = subst (λ (p : List ℕ). Q d (seen e.input e.ended p d.stopped)) (sym o) three in
      subst (λ (t : Option Stop). Q d (seen e.input e.ended e.output t)) st four

gets_follow : (met : Bool) (x : ℕ) (l j w c : List ℕ) (en : Bool) (o : List ℕ) (st : Option Stop)
    → SameLoaded (Follows met x l j w) (Fine met l) (Some (gets (seen (c ++ left met x l) en o st))) (Some (gets (seen (c ++ beyond met j) en (w ++ o) st)))
unfolding gets
gets_follow met x l j w c true o st = λ fine. (refl, (c, refl, refl, refl, refl, refl))
gets_follow met x l j w (byte ∷ c) false o st = λ fine. (refl, (c, refl, refl, refl, refl, refl))
gets_follow true x l j w [] false o st = λ fine. (refl, ([], refl, refl, refl, refl, refl))
gets_follow false x l j w [] false o st = λ fine. absurd (fine (omega arith))

module _ (met : Bool) (x : ℕ) (l j w c : List ℕ) (en : Bool) (o : List ℕ) (st : Option Stop) where
  beside_follow : (v : Option ℕ) → SameLoaded (Follows met x l j w) (Fine met l) (beside (seen (c ++ left met x l) en o st) v) (beside (seen (c ++ beyond met j) en (w ++ o) st) v)
  beside_follow (Some v) = λ fine. (refl, (c, refl, refl, refl, refl, refl))
  beside_follow None = tt

  load_follow : (ram : List ℕ) (pa : ℕ) (size : Size)
      → SameLoaded (Follows met x l j w) (Fine met l) (board_load ram (seen (c ++ left met x l) en o st) pa size) (board_load ram (seen (c ++ beyond met j) en (w ++ o) st) pa size)
  unfolding board_load device_load
  load_follow ram pa size =
      let d = seen (c ++ left met x l) en o st in
      let e = seen (c ++ beyond met j) en (w ++ o) st in
      let place = pa - device_base in
      either_loaded (Follows met x l j w) (Fine met l) (nat_lt pa device_base) (beside d (number_at ram pa size)) (beside e (number_at ram pa size))
      (if is_word size && place == 0 then Some (gets d) else None) (if is_word size && place == 0 then Some (gets e) else None)
      (beside_follow (number_at ram pa size))
      (either_loaded (Follows met x l j w) (Fine met l) (is_word size && place == 0) (Some (gets d)) (Some (gets e)) None None (gets_follow met x l j w c en o st) tt)

  device_store_follow : (place : ℕ) (size : Size) (v : ℕ)
      → SameKept (Follows met x l j w) (device_store (seen (c ++ left met x l) en o st) place size v) (device_store (seen (c ++ beyond met j) en (w ++ o) st) place size v)
  unfolding device_store
  device_store_follow place size v =
      let d = seen (c ++ left met x l) en o st in
      let e = seen (c ++ beyond met j) en (w ++ o) st in
      let r = Follows met x l j w in
      let put_d = record d { output = d.output ++ (v % 2 ^ 8) ∷ [] } in
      let put_e = record e { output = e.output ++ (v % 2 ^ 8) ∷ [] } in
      let exit_d = record d { stopped = Some (stops.Exit v) } in
      let exit_e = record e { stopped = Some (stops.Exit v) } in
      let trap_d = record d { stopped = Some stops.Trapped } in
      let trap_e = record e { stopped = Some stops.Trapped } in
      let last = either_kept r (place == 12) (Some trap_d) (Some trap_e) None None (c, refl, refl, refl, refl, refl) tt in
      let third = either_kept r (place == 8) (Some exit_d) (Some exit_e) (if place == 12 then Some trap_d else None) (if place == 12 then Some trap_e else None)
      (c, refl, refl, refl, refl, refl) last in
      let second = either_kept r (place == 4) (Some put_d) (Some put_e)
      (if place == 8 then Some exit_d else (if place == 12 then Some trap_d else None)) (if place == 8 then Some exit_e else (if place == 12 then Some trap_e else None))
      (c, refl, refl, refl, append_assoc w o ((v % 2 ^ 8) ∷ []), refl) third in
      either_kept r (not (is_word size)) None None
      (if place == 4 then Some put_d else (if place == 8 then Some exit_d else (if place == 12 then Some trap_d else None)))
      (if place == 4 then Some put_e else (if place == 8 then Some exit_e else (if place == 12 then Some trap_e else None))) tt second

  overwritten_follow : (ram : List ℕ) (at : ℕ) (size : Size) (v : ℕ) (before : Option ℕ)
      → SameStored (Follows met x l j w) (overwritten ram (seen (c ++ left met x l) en o st) at size v before) (overwritten ram (seen (c ++ beyond met j) en (w ++ o) st) at size v before)
  overwritten_follow ram at size v (Some before) = (refl, (c, refl, refl, refl, refl, refl))
  overwritten_follow ram at size v None = tt

  store_follow : (ram : List ℕ) (pa : ℕ) (size : Size) (v : ℕ)
      → SameStored (Follows met x l j w) (board_store ram (seen (c ++ left met x l) en o st) pa size v) (board_store ram (seen (c ++ beyond met j) en (w ++ o) st) pa size v)
  unfolding board_store
  store_follow ram pa size v =
      let d = seen (c ++ left met x l) en o st in
      let e = seen (c ++ beyond met j) en (w ++ o) st in
      let place = pa - device_base in
      either_stored (Follows met x l j w) (nat_lt pa device_base)
      (overwritten ram d pa size v (number_at ram pa size)) (overwritten ram e pa size v (number_at ram pa size))
      (with_ram ram (device_store d place size v)) (with_ram ram (device_store e place size v))
      (overwritten_follow ram pa size v (number_at ram pa size))
      (with_ram_same (Follows met x l j w) ram (device_store d place size v) (device_store e place size v) (device_store_follow place size v))

  ram_exchange : (ram : List ℕ) (pa : ℕ) (size : Size) (v : ℕ) (place : ℕ) (there : Option ℕ) → number_at ram pa size ≡ there
      → SameAnswer (Follows met x l j w) (Fine met l) (exchange_at true place ram pa size v (beside (seen (c ++ left met x l) en o st) there))
      (exchange_at true place ram pa size v (beside (seen (c ++ beyond met j) en (w ++ o) st) there))
  ram_exchange ram pa size v place (Some before) is = rw is (λ fine. (refl, refl, (c, refl, refl, refl, refl, refl)))
  ram_exchange ram pa size v place None is = tt

  device_exchange : (ram : List ℕ) (pa : ℕ) (size : Size) (v : ℕ) (place : ℕ)
      → SameAnswer (Follows met x l j w) (Fine met l) (exchange_at false place ram pa size v (device_load (seen (c ++ left met x l) en o st) place size))
      (exchange_at false place ram pa size v (device_load (seen (c ++ beyond met j) en (w ++ o) st) place size))
  unfolding device_load device_store
  device_exchange ram pa sizes.Byte v place = tt
  device_exchange ram pa sizes.Half v place = tt
  device_exchange ram pa sizes.Double v place = tt
  device_exchange ram pa sizes.Word v zero = tt
  device_exchange ram pa sizes.Word v (suc place) = rw (not_zero place) tt

  by_place : (low : Bool) (ram : List ℕ) (pa : ℕ) (size : Size) (v : ℕ) (place : ℕ)
      → SameAnswer (Follows met x l j w) (Fine met l)
      (exchange_at low place ram pa size v (if low then beside (seen (c ++ left met x l) en o st) (number_at ram pa size) else device_load (seen (c ++ left met x l) en o st) place size))
      (exchange_at low place ram pa size v (if low then beside (seen (c ++ beyond met j) en (w ++ o) st) (number_at ram pa size) else device_load (seen (c ++ beyond met j) en (w ++ o) st) place size))
  by_place true ram pa size v place = ram_exchange ram pa size v place (number_at ram pa size) refl
  by_place false ram pa size v place = device_exchange ram pa size v place

  exchange_follow : (ram : List ℕ) (pa : ℕ) (size : Size) (v : ℕ)
      → SameAnswer (Follows met x l j w) (Fine met l)
      (exchanged_after board_store ram pa size v (board_load ram (seen (c ++ left met x l) en o st) pa size))
      (exchanged_after board_store ram pa size v (board_load ram (seen (c ++ beyond met j) en (w ++ o) st) pa size))
  unfolding board_load
  exchange_follow ram pa size v =
      let d = seen (c ++ left met x l) en o st in
      let e = seen (c ++ beyond met j) en (w ++ o) st in
      let right = exchanged_after board_store ram pa size v (board_load ram e pa size) in
      let middle = exchange_at (nat_lt pa device_base) (pa - device_base) ram pa size v (board_load ram d pa size) in
      let base : SameAnswer (Follows met x l j w) (Fine met l) middle (exchange_at (nat_lt pa device_base) (pa - device_base) ram pa size v (board_load ram e pa size)) =
      by_place (nat_lt pa device_base) ram pa size v (pa - device_base) in
      let one = subst (λ (q : Option (ℕ × List ℕ × Device)). SameAnswer (Follows met x l j w) (Fine met l) middle q) (sym (exchange_is ram pa size v (board_load ram e pa size))) base in
      subst (λ (q : Option (ℕ × List ℕ × Device)). SameAnswer (Follows met x l j w) (Fine met l) q right) (sym (exchange_is ram pa size v (board_load ram d pa size))) one

  answers_follow : (ram : List ℕ) (pa : ℕ) (t : Transfer) (v : ℕ)
      → SameAnswer (Follows met x l j w) (Fine met l) (answers board ram (seen (c ++ left met x l) en o st) pa t v) (answers board ram (seen (c ++ beyond met j) en (w ++ o) st) pa t v)
  answers_follow ram pa (transfers_of.Load k) v =
      loaded_from_same (Follows met x l j w) (Fine met l) ram (board_load ram (seen (c ++ left met x l) en o st) pa (loaded_size k))
      (board_load ram (seen (c ++ beyond met j) en (w ++ o) st) pa (loaded_size k)) (load_follow ram pa (loaded_size k))
  answers_follow ram pa (transfers_of.Store size) v =
      stored_after_same (Follows met x l j w) (Fine met l) 0 (board_store ram (seen (c ++ left met x l) en o st) pa size v)
      (board_store ram (seen (c ++ beyond met j) en (w ++ o) st) pa size v) (store_follow ram pa size v)
  answers_follow ram pa (transfers_of.Exchange k) v = exchange_follow ram pa (exchanged_size k) v

next_follow : (met : Bool) (x : ℕ) (l j w : List ℕ) (n : ℕ) (mmu : MmuRegs) (cpu : Cpu n) (ram : List ℕ) (d e : Device) → Follows met x l j w d e
    → SameTurn (Follows met x l j w) (Fine met l) n (next board n mmu (world n cpu ram d)) (next board n mmu (world n cpu ram e))
next_follow met x l j w n mmu cpu ram d e r =
    let R = Follows met x l j w in
    let F = Fine met l in
    next_same R F (λ d e r. r.5)
    (λ ram pa t v d e r. settle met x l j w (λ d e. SameAnswer R F (answers board ram d pa t v) (answers board ram e pa t v)) (λ c en o st. answers_follow met x l j w c en o st ram pa t v) d e r)
    n mmu cpu ram d e r

-- ---- boards

pub ending_follow : (n : ℕ) (met : Bool) (x : ℕ) (l j w : List ℕ) (s t : State n) → FollowsOn n met x l j w s t → ending_of n s.world ≡ ending_of n t.world
unfolding ending_of
ending_follow n met x l j w s t f =
    ap (λ (st : Option Stop). ending_by st s.world.cpu.control.tt s.world.cpu.control.error) f.device.5
    ∙ ap (λ (c : Cpu n). ending_by t.world.memory.device.stopped c.control.tt c.control.error) f.cpu

pub turn_follow : (n : ℕ) (met : Bool) (x : ℕ) (l j w : List ℕ) (s t : State n) → FollowsOn n met x l j w s t → Fine met l (turned n s).1.world.memory.device
    → ((turned n s).0 ≡ (turned n t).0) × FollowsOn n met x l j w (turned n s).1 (turned n t).1
unfolding turned
turn_follow n met x l j w s t f fine =
    let R = Follows met x l j w in
    let F = Fine met l in
    let mine = next board n s.mmu s.world in
    let zero : SameTurn R F n mine (next board n s.mmu (world n s.world.cpu s.world.memory.ram t.world.memory.device)) =
    next_follow met x l j w n s.mmu s.world.cpu s.world.memory.ram s.world.memory.device t.world.memory.device f.device in
    let one = subst (λ (c : Cpu n). SameTurn R F n mine (next board n s.mmu (world n c s.world.memory.ram t.world.memory.device))) f.cpu zero in
    let two = subst (λ (r : List ℕ). SameTurn R F n mine (next board n s.mmu (world n t.world.cpu r t.world.memory.device))) f.ram one in
    let three = subst (λ (m : MmuRegs). SameTurn R F n mine (next board n m t.world)) f.mmu two in
    let same = three fine in (
      same.0,
      record {
        cpu = same.1.0;
        ram = same.1.1.0;
        device = same.1.1.1;
        mmu = f.mmu;
        counts = ap (λ (u : Turn). counts_unless (ending_of n s.world) u.event s.counts) same.0
            ∙ ap (λ (e : Option Ending). counts_unless e (next board n t.mmu t.world).0.event s.counts) (ending_follow n met x l j w s t f)
            ∙ ap (λ (k : Counts). counts_unless (ending_of n t.world) (next board n t.mmu t.world).0.event k) f.counts;
      },
    )

-- ---- a board without input

abbrev HasNone : Device → Device → Type 0
HasNone d e = (d ≡ e) × (d.input ≡ [])

abbrev Whatever : Device → Type 0
Whatever d = Unit {0}

-- two equal answers, after which there is no input
abbrev LeavesNone : Option (ℕ × List ℕ × Device) → Type 0
LeavesNone (Some x) = x.2.input ≡ []
LeavesNone None = Unit {0}

same_none : (o : Option (ℕ × List ℕ × Device)) → LeavesNone o → SameAnswer HasNone Whatever o o
same_none (Some x) none = λ fine. (refl, refl, (refl, none))
same_none None none = tt

abbrev LoadsNone : Option (ℕ × Device) → Type 0
LoadsNone (Some x) = x.1.input ≡ []
LoadsNone None = Unit {0}

abbrev KeepsNone : Option Device → Type 0
KeepsNone (Some d) = d.input ≡ []
KeepsNone None = Unit {0}

abbrev StoresNone : Option (List ℕ × Device) → Type 0
StoresNone (Some x) = x.1.input ≡ []
StoresNone None = Unit {0}

gets_none : (en : Bool) (o : List ℕ) (st : Option Stop) → (gets (seen [] en o st)).1.input ≡ []
unfolding gets
gets_none true o st = refl
gets_none false o st = refl

module _ (en : Bool) (o : List ℕ) (st : Option Stop) where
  device_load_none : (place : ℕ) (size : Size) → LoadsNone (device_load (seen [] en o st) place size)
  unfolding device_load
  device_load_none place size = by_word (is_word size && place == 0)
    where
      by_word : (b : Bool) → LoadsNone (if b then Some (gets (seen [] en o st)) else None)
      by_word true = gets_none en o st
      by_word false = tt

  load_none : (ram : List ℕ) (pa : ℕ) (size : Size) → LoadsNone (board_load ram (seen [] en o st) pa size)
  unfolding board_load
  load_none ram pa size = by_place (nat_lt pa device_base) (number_at ram pa size)
    where
      by_place : (b : Bool) (v : Option ℕ) → LoadsNone (if b then beside (seen [] en o st) v else device_load (seen [] en o st) (pa - device_base) size)
      by_place true (Some v) = refl
      by_place true None = tt
      by_place false v = device_load_none (pa - device_base) size

put_none : (d : Device) (v : ℕ) (a b c e : Bool) → d.input ≡ [] →
    KeepsNone (if a then None
    else (if b then Some (record d { output = d.output ++ (v % 2 ^ 8) ∷ [] })
    else (if c then Some (record d { stopped = Some (stops.Exit v) }) else (if e then Some (record d { stopped = Some stops.Trapped }) else None))))
put_none d v true b c e none = tt
put_none d v false true c e none = none
put_none d v false false true e none = none
put_none d v false false false true none = none
put_none d v false false false false none = tt

device_store_none : (d : Device) (place : ℕ) (size : Size) (v : ℕ) → d.input ≡ [] → KeepsNone (device_store d place size v)
unfolding device_store
device_store_none d place size v none = put_none d v (not (is_word size)) (place == 4) (place == 8) (place == 12) none

with_ram_none : (ram : List ℕ) (o : Option Device) → KeepsNone o → StoresNone (with_ram ram o)
with_ram_none ram (Some d) none = none
with_ram_none ram None none = tt

store_none : (ram : List ℕ) (pa : ℕ) (size : Size) (v : ℕ) (d : Device) → d.input ≡ [] → StoresNone (board_store ram d pa size v)
unfolding board_store
store_none ram pa size v d none = by_place (nat_lt pa device_base) (number_at ram pa size)
  where
    by_place : (b : Bool) (there : Option ℕ) → StoresNone (if b then overwritten ram d pa size v there else with_ram ram (device_store d (pa - device_base) size v))
    by_place true (Some there) = none
    by_place true None = tt
    by_place false there = with_ram_none ram (device_store d (pa - device_base) size v) (device_store_none d (pa - device_base) size v none)

loaded_from_none : (ram : List ℕ) (x : Option (ℕ × Device)) → LoadsNone x → LeavesNone (loaded_from ram x)
loaded_from_none ram (Some x) none = none
loaded_from_none ram None none = tt

stored_after_none : (a : ℕ) (x : Option (List ℕ × Device)) → StoresNone x → LeavesNone (stored_after a x)
stored_after_none a (Some x) none = none
stored_after_none a None none = tt

exchanged_none : (ram : List ℕ) (pa : ℕ) (size : Size) (v : ℕ) (x : Option (ℕ × Device)) → LoadsNone x → LeavesNone (exchanged_after board_store ram pa size v x)
exchanged_none ram pa size v (Some x) none = stored_after_none x.0 (board_store ram x.1 pa size v) (store_none ram pa size v x.1 none)
exchanged_none ram pa size v None none = tt

answers_none : (ram : List ℕ) (pa : ℕ) (t : Transfer) (v : ℕ) (en : Bool) (o : List ℕ) (st : Option Stop) → LeavesNone (answers board ram (seen [] en o st) pa t v)
answers_none ram pa (transfers_of.Load k) v en o st = loaded_from_none ram (board_load ram (seen [] en o st) pa (loaded_size k)) (load_none en o st ram pa (loaded_size k))
answers_none ram pa (transfers_of.Store size) v en o st = stored_after_none 0 (board_store ram (seen [] en o st) pa size v) (store_none ram pa size v (seen [] en o st) refl)
answers_none ram pa (transfers_of.Exchange k) v en o st =
    let size = exchanged_size k in
    exchanged_none ram pa size v (board_load ram (seen [] en o st) pa size) (load_none en o st ram pa size)

answers_alike : (ram : List ℕ) (pa : ℕ) (t : Transfer) (v : ℕ) (d e : Device) → HasNone d e → SameAnswer HasNone Whatever (answers board ram d pa t v) (answers board ram e pa t v)
answers_alike ram pa t v d e (same, none) =
    let one = same_none (answers board ram (seen [] d.ended d.output d.stopped) pa t v) (answers_none ram pa t v d.ended d.output d.stopped) in
    let two = subst (λ (i : List ℕ). let c = seen i d.ended d.output d.stopped in SameAnswer HasNone Whatever (answers board ram c pa t v) (answers board ram c pa t v)) (sym none) one in
    subst (λ (c : Device). SameAnswer HasNone Whatever (answers board ram d pa t v) (answers board ram c pa t v)) same two

pub nothing_comes : (n : ℕ) (s : State n) → s.world.memory.device.input ≡ [] → (turned n s).1.world.memory.device.input ≡ []
unfolding turned
nothing_comes n s none =
    let d = s.world.memory.device in
    (next_same HasNone Whatever (λ d e r. ap (λ (c : Device). c.stopped) r.0) answers_alike n s.mmu s.world.cpu s.world.memory.ram d d (refl, none) tt).1.1.1.1
