-- Calls of a LEON and of a sandbox board lead on alike.
use Rattle.std.proofs.Common.{◌≡◌, ℕ, suc, ◌+◌, ◌-◌, ◌<◌, ◌≤◌, ◌⊎◌, inl, inr, Bool, true, false, List, [], ◌∷◌, ◌++◌, length, Some, refl, sym, ap, ◌∙◌, subst, arith}
use Rattle.std.specs.Prelude.{slice_index}
use Rattle.std.proofs.lemmas.List.{get_or_append_left, get_or-append_right, length-append}
use Rattle.std.proofs.lemmas.Option.{same_Some}
use Rattle.v8_core.specs.Accesses.{World}
use Rattle.v8_core.specs.Cpu.{Cpu}
use Rattle.v8_core.specs.MmuRegs.{MmuRegs}
use Rattle.v8_core.specs.Ram.{with_byte}
use Rattle.v8_core.specs.Steps.{world_after}
use Rattle.v8_core.specs.Stop.TheVariants.{Exit}
use Rattle.v8_mmu.proofs.RamNumbers.{byte_beside_byte, byte_of-with_byte, has_byte, length-with_byte}
use Rattle.v8_loaded.specs.Board.{Device, board, gets, got_from}
use Rattle.v8_loaded.specs.Input.{next_byte}
use Rattle.v8_loaded.specs.Layout.{Pages}
use Rattle.v8_routines.specs.Services.{MayReturn, exited, got, put}
use Rattle.v8_routines.proofs.Served.{exit_law as board_exit_law, get_law as board_get_law, put_law as board_put_law}
use Rattle.leon_services.specs.Alike.{CallAlike, ExitsAlike, GetsAlike, GoAlike, PutsAlike, Spells}
use Rattle.leon_services.specs.Laws.{answered, asked, asked_byte, ended, next_input, returned}
use Rattle.leon_services.specs.Mailbox.{IsApart, IsMailbox, Leaves, Mailbox, buffer_place}
use Rattle.leon_services.proofs.Served.{exit_law, get_end_law, get_law, put_law}

-- ---- what a device gives

-- the next byte of an input that has one
gets_next : (d : Device) (a : ℕ) (rest : List ℕ) → d.input ≡ a ∷ rest → d.ended ≡ false → gets d ≡ (a, record d { input = rest; ended = false })
unfolding gets
gets_next d a rest is going = rw going (ap (λ (xs : List ℕ). got_from d (next_byte xs)) is)

-- at the end all ones, and no input is left
pub record GetsEnd (d : Device) : Type 0 where
  pub word : (gets d).0 ≡ 0xFFFFFFFF
  pub input : (gets d).1.input ≡ []
  pub output : (gets d).1.output ≡ d.output

gets_end : (d : Device) → d.input ≡ [] → GetsEnd d
unfolding gets
gets_end d none = by_end d.ended refl
  where
    by_end : (t : Bool) → d.ended ≡ t → GetsEnd d
    by_end true e = record { word = rw e refl; input = rw e none; output = rw e refl }
    by_end false e = record { word = rw e (rw none refl); input = rw e (rw none refl); output = rw e refl }

-- ---- bytes of the buffers

in_buffers : (b va : ℕ) → 0xF0040000 ≤ va → IsApart b (buffer_place b va)
in_buffers b va low = (inr (omega arith), inr (omega arith))

module _ (n b : ℕ) (g : Pages) (words : List ℕ) (mmu other : MmuRegs) (x y : World n Device) (i : ℕ) (m : Mailbox) where
  abbrev d : Device
  d = y.memory.device

  abbrev ram : List ℕ
  ram = x.memory.ram

  -- RAM after a call that writes no output, and the device with less input
  spells_on : (new : List ℕ) (e : Mailbox) (k : ℕ) (f : Device) → Spells b ram m d → Leaves b ram new e → IsMailbox e → e.input ≡ m.input + k → e.input_end ≡ m.input_end →
      e.output ≡ m.output → length f.input ≡ m.input_end - (m.input + k) → ((j : ℕ) → j < length f.input → slice_index f.input j ≡ slice_index d.input (k + j)) →
      k + length f.input ≤ length d.input → (f.ended ≡ true → f.input ≡ []) → f.output ≡ d.output → Spells b new e f
  spells_on new e k f s l room at last out left same fits ended output = record {
    has = l.mailbox;
    room = room;
    left = let a = at in let z = last in omega arith;
    input = λ j less.
        let place : m.input + (k + j) ≡ e.input + j = omega arith in
        let low = s.room.begun in
        same j less ∙ s.input (k + j) (omega arith) ∙ ap (λ p. slice_index ram (buffer_place b p)) place
        ∙ sym (l.rest (buffer_place b (e.input + j)) (in_buffers b (e.input + j) (omega arith)));
    ended = ended;
    count = ap length output ∙ s.count ∙ ap (λ p. p - 0xF0060000) (sym out);
    output = λ j less.
        let here : j < length d.output = subst (λ (xs : List ℕ). j < length xs) output less in
        ap (λ (xs : List ℕ). slice_index xs j) output ∙ s.output j here
        ∙ sym (l.rest (buffer_place b (0xF0060000 + j)) (in_buffers b (0xF0060000 + j) (omega arith)));
  }

-- ---- get

gets_alike_here : (n b : ℕ) (g : Pages) (words : List ℕ) (mmu other : MmuRegs) (x y : World n Device) (i : ℕ) (m : Mailbox) →
    CallAlike n b g words mmu other x y i 1 m → MayReturn n x → (xs : List ℕ) → y.memory.device.input ≡ xs →
    GoAlike n b mmu other x y 22 5 ⊎ GoAlike n b mmu other x y 19 5
gets_alike_here n b g words mmu other x y i m c may [] none =
    let d = y.memory.device in
    let s = c.spells in
    let end = gets_end d none in
    let empty : length d.input ≡ 0 = ap length none in
    let left = s.left in
    let within = s.room.left in
    let same : m.input ≡ m.input_end = omega arith in
    let come = get_end_law n b mmu x i m c.here may s.has s.room same in
    let board_may : MayReturn n y = subst (λ (q : Cpu n). MayReturn n (record y { cpu = q })) (sym c.cpu) may in
    let leads = board_get_law n g words other y i c.there board_may c.asks in
    let cpu : (got n y i).cpu ≡ answered n x.cpu 0x81 0xFFFFFFFF = ap (λ v. answered n y.cpu 0x81 v) end.word ∙ ap (λ (q : Cpu n). answered n q 0x81 0xFFFFFFFF) c.cpu in
    let none_left : length (gets d).1.input ≡ 0 = ap length end.input in
    let spell = spells_on n b g words mmu other x y i m (world_after board n mmu 19 x).memory.ram m 0 (gets d).1 s come.memory s.room (omega arith) refl refl (omega arith)
    (λ j less. absurd (omega arith)) (omega arith) (λ e. end.input) end.output in
    inr (record {
      cpu = come.processor ∙ sym cpu ∙ ap (λ (w : World n Device). w.cpu) (sym leads.is);
      mailbox = m;
      spells = subst (λ (w : World n Device). Spells b (world_after board n mmu 19 x).memory.ram m w.memory.device) (sym leads.is) spell;
    })
gets_alike_here n b g words mmu other x y i m c may (a ∷ rest) some =
    let d = y.memory.device in
    let s = c.spells in
    let count : length d.input ≡ suc (length rest) = ap length some in
    let left = s.left in
    let less : m.input < m.input_end = omega arith in
    let come = get_law n b mmu x i m c.here may s.has s.room less in
    let board_may : MayReturn n y = subst (λ (q : Cpu n). MayReturn n (record y { cpu = q })) (sym c.cpu) may in
    let leads = board_get_law n g words other y i c.there board_may c.asks in
    let going : d.ended ≡ false = goes_on d a rest some s.ended in
    let next = gets_next d a rest some going in
    let here : m.input + 0 ≡ m.input = omega arith in
    let first : a ≡ next_input b x.memory.ram m = ap (λ (xs : List ℕ). slice_index xs 0) (sym some) ∙ s.input 0 (omega arith) ∙ ap (λ p. slice_index x.memory.ram (buffer_place b p)) here in
    let cpu : (got n y i).cpu ≡ answered n x.cpu 0x81 (next_input b x.memory.ram m) =
    ap (λ (p : ℕ × Device). answered n y.cpu 0x81 p.0) next ∙ ap (λ v. answered n y.cpu 0x81 v) first ∙ ap (λ (q : Cpu n). answered n q 0x81 (next_input b x.memory.ram m)) c.cpu in
    let e = record m { input = m.input + 1 } in
    let room = s.room in
    let low = room.begun in
    let after : IsMailbox e = record { begun = omega arith; left = omega arith; ends = room.ends; after = room.after; free = room.free; last = room.last } in
    let f = record d { input = rest; ended = false } in
    let shift : (j : ℕ) → j < length rest → slice_index rest j ≡ slice_index d.input (1 + j) = λ (j : ℕ) (q : j < length rest). shifted d a rest some j in
    let spell = spells_on n b g words mmu other x y i m (world_after board n mmu 22 x).memory.ram e 1 f s come.memory after refl refl refl
    (omega arith) shift (omega arith) (λ q. absurd (cc)) refl in
    inl (record {
      cpu = come.processor ∙ sym cpu ∙ ap (λ (w : World n Device). w.cpu) (sym leads.is);
      mailbox = e;
      spells = subst (λ (w : World n Device). Spells b (world_after board n mmu 22 x).memory.ram e w.memory.device) (sym leads.is)
          (subst (λ (p : ℕ × Device). Spells b (world_after board n mmu 22 x).memory.ram e p.1) (sym next) spell);
    })
  where
    goes_on : (d : Device) (a : ℕ) (rest : List ℕ) → d.input ≡ a ∷ rest → (d.ended ≡ true → d.input ≡ []) → d.ended ≡ false
    goes_on d a rest some ended = by_flag d.ended refl
      where
        by_flag : (t : Bool) → d.ended ≡ t → t ≡ false
        by_flag true e = let bad : a ∷ rest ≡ [] = sym some ∙ ended e in absurd (cc)
        by_flag false e = refl

    shifted : (d : Device) (a : ℕ) (rest : List ℕ) → d.input ≡ a ∷ rest → (j : ℕ) → slice_index rest j ≡ slice_index d.input (1 + j)
    shifted d a rest some j =
        let one : 1 + j ≡ suc j = omega arith in
        sym (ap (λ k. slice_index d.input k) one ∙ ap (λ (xs : List ℕ). slice_index xs (suc j)) some)

pub gets_alike : GetsAlike
gets_alike n b g words mmu other x y i m c may = gets_alike_here n b g words mmu other x y i m c may y.memory.device.input refl

-- ---- exit

pub exits_alike : ExitsAlike
exits_alike n b g words mmu other x y i m c =
    let s = c.spells in
    let d = y.memory.device in
    let halt = exit_law n b mmu x i m c.here s.has in
    let leads = board_exit_law n g words other y i c.there c.asks in
    let e = ended n x.cpu 1 m in
    let room = s.room in
    let after : IsMailbox e = record { begun = room.begun; left = room.left; ends = room.ends; after = room.after; free = room.free; last = room.last } in
    let f = (exited n y i).memory.device in
    let spell = spells_on n b g words mmu other x y i m (world_after board n mmu 9 x).memory.ram e 0 f s halt.memory after (omega arith) refl refl (let left = s.left in omega arith)
    (λ j less. let zero_more : 0 + j ≡ j = omega arith in ap (λ k. slice_index d.input k) (sym zero_more)) (omega arith) s.ended refl in
    record {
      halted = halt.halted;
      mailbox = e;
      status = refl;
      word = ap (λ (w : World n Device). w.memory.device.stopped) leads.is ∙ ap (λ (q : Cpu n). Some (Exit (asked n q))) c.cpu;
      spells = subst (λ (w : World n Device). Spells b (world_after board n mmu 9 x).memory.ram e w.memory.device) (sym leads.is) spell;
    }

-- ---- put

byte_there : (xs : List ℕ) (at v : ℕ) → at < length xs → slice_index (with_byte xs at v) at ≡ v
byte_there xs at v less =
    let size : length (with_byte xs at v) ≡ length xs = length-with_byte xs at v less in
    let fits : at < length (with_byte xs at v) = omega arith in
    same_Some (slice_index (with_byte xs at v) at) v (sym (has_byte (with_byte xs at v) at fits) ∙ byte_of-with_byte xs at v less)

module _ (b : ℕ) (ram : List ℕ) (m : Mailbox) (d : Device) (v : ℕ) (s : Spells b ram m d) (new : List ℕ) (less : m.output < m.output_end)
    (fits : buffer_place b m.output < length ram) (l : Leaves b (with_byte ram (buffer_place b m.output) v) new (record m { output = m.output + 1 })) where
  abbrev place : ℕ
  place = buffer_place b m.output

  -- the bytes below the one that was put out
  below : (va : ℕ) → 0xF0040000 ≤ va → va < m.output → slice_index new (buffer_place b va) ≡ slice_index ram (buffer_place b va)
  below va low under = l.rest (buffer_place b va) (in_buffers b va low) ∙ byte_beside_byte ram place v (buffer_place b va) fits (inl (omega arith))

  last : slice_index new place ≡ v
  last = let room = s.room.after in l.rest place (in_buffers b m.output (omega arith)) ∙ byte_there ram place v fits

  abbrev out : List ℕ
  out = d.output ++ v ∷ []

  spells_output : (k : ℕ) → k < length out → slice_index out k ≡ slice_index new (buffer_place b (0xF0060000 + k))
  spells_output k small =
      let count = s.count in
      let more : length out ≡ length d.output + 1 = length-append d.output (v ∷ []) in
      let split : (k < length d.output) ⊎ (k ≡ length d.output) = search arith in
      let after = s.room.after in
      elim split [
        | inl earlier ↦ get_or_append_left d.output (v ∷ []) 0 k earlier ∙ s.output k earlier ∙ sym (below (0xF0060000 + k) (omega arith) (omega arith))
        | inr here ↦
            let at : 0xF0060000 + k ≡ m.output = omega arith in
            let none : k - length d.output ≡ 0 = omega arith in
            get_or-append_right d.output (v ∷ []) (length d.output) k 0 refl (omega arith) ∙ ap (λ j. slice_index (v ∷ []) j) none
            ∙ sym (ap (λ p. slice_index new (buffer_place b p)) at ∙ last)
      ]

  pub spells_put : Spells b new (record m { output = m.output + 1 }) (record d { output = out })
  spells_put =
      let room = s.room in
      let low = room.begun in
      let left = s.left in
      let count = s.count in
      let more : length out ≡ length d.output + 1 = length-append d.output (v ∷ []) in
      record {
        has = l.mailbox;
        room = record { begun = room.begun; left = room.left; ends = room.ends; after = let q = room.after in omega arith; free = omega arith; last = room.last };
        left = s.left;
        input = λ k small. s.input k small ∙ sym (below (m.input + k) (omega arith) (let e = room.ends in let a = room.after in let w = room.left in omega arith));
        ended = s.ended;
        count = let q = room.after in omega arith;
        output = spells_output;
      }

pub puts_alike : PutsAlike
puts_alike n b g words mmu other x y i m c may less =
    let s = c.spells in
    let d = y.memory.device in
    let come = put_law n b mmu x i m c.here may s.has s.room less in
    let board_may : MayReturn n y = subst (λ (q : Cpu n). MayReturn n (record y { cpu = q })) (sym c.cpu) may in
    let leads = board_put_law n g words other y i c.there board_may c.asks in
    let cpu : (put n y i).cpu ≡ returned n x.cpu 0x82 = ap (λ (q : Cpu n). returned n q 0x82) c.cpu in
    let size = c.here.services.size in
    let last = s.room.last in
    let low = s.room.after in
    let new = (world_after board n mmu 23 x).memory.ram in
    let e = record m { output = m.output + 1 } in
    let spell = spells_put b x.memory.ram m d (asked_byte n x.cpu) s new less (omega arith) come.memory in
    let same : asked_byte n x.cpu ≡ asked_byte n y.cpu = ap (λ (q : Cpu n). asked_byte n q) (sym c.cpu) in
    record {
      cpu = come.processor ∙ sym cpu ∙ ap (λ (w : World n Device). w.cpu) (sym leads.is);
      mailbox = e;
      spells = subst (λ (w : World n Device). Spells b new e w.memory.device) (sym leads.is)
          (subst (λ v. Spells b new e (record d { output = d.output ++ v ∷ [] })) same spell);
    }
