-- Calls of services: what their turns leave is shown, and each with its vector is a step.
use Rattle.std.proofs.Common.{◌≡◌, ◌≢◌, ℕ, zero, suc, ◌+◌, ◌-◌, ◌%◌, ◌^◌, ◌<◌, ◌≤◌, inl, inr, Bool, true, false, List, [], ◌∷◌, ◌++◌, length, Some, None, refl, sym, ap, ◌∙◌, subst, arith}
use Rattle.std.specs.Prelude.{slice_get, if◌then◌else◌}
use Rattle.std.specs.List.{AllByRecursion}
use Rattle.v8_map.specs.declared.TheConstants.{SYSTEM_TABLE}
use Rattle.v8_core.specs.Admitted.{is_admitted}
use Rattle.v8_core.specs.Operands.{following}
use Rattle.v8_core.specs.Windows.{IsFile, Windows, below, can_enter, reg_of, with_word, word_at}
use Rattle.v8_core.specs.MmuRegs.{MmuRegs}
use Rattle.v8_core.specs.declared.turn.Event.{Event}
use Rattle.v8_core.specs.declared.turn.Event.TheVariants.{Annulled}
use Rattle.v8_core.specs.Accesses.{World, world}
use Rattle.v8_loaded.specs.Layout.{IsLoaded}
use Rattle.v8_layout.proofs.Marks.{system_markable}
use Rattle.v8_loaded.specs.Board.{Device, board, gets, got_from}
use Rattle.v8_loaded.specs.Input.{next_byte}
use Rattle.v8_loaded.specs.Turns.{Leads, world_after, turn_at}
use Rattle.v8_loaded.specs.Users.{RunsUser}
use Rattle.v8_loaded.proofs.Fetches.{device_kept as device_loaded, table_kept}
use Rattle.v8_loaded.proofs.Windows.{below_within}
use Rattle.v8_routines.specs.Services.{Calls, calls, code_marked, device_address, device_marked, exit_events, exited, got, put, scratched, served_events, table_marked, vector_marked}
use Rattle.v8_routines.proofs.Frames.{file_with, scratched_file, word_apart, word_beside}
use Rattle.v8_routines.proofs.Served.{exit_law, exit_system, get_law, get_system, loaded_after, put_law, put_system}
use Rattle.v8_board.specs.declared.outcome.Counts.{Counts}
use Rattle.v8_board.specs.Counting.{counted, counts_after, with_turn}
use Rattle.v8_board.specs.Seen.{ending_of}
use Rattle.v8_board.specs.Start.{pages_of}
use Rattle.v8_board.proofs.Placed.{pages_few}
use Rattle.sbx_flat.specs.Parts.{Parts}
use Rattle.sbx_flat.specs.Effects.{declares, does, exits, gets as flat_gets, puts}
use Rattle.sbx_flat.specs.Registers.{Registers, still}
use Rattle.sbx_flat.specs.Runs.{AreBytes}
use Rattle.sbx_flat.specs.States.{Goes, State, advanced, with_reg as flat_with_reg}
use Rattle.sbx_flat.specs.Turns.{IsWrong}
use Rattle.sbx_flat.specs.declared.path.Wrong.TheVariants.{NoService}
use Rattle.sbx_flat.proofs.Law.{still_is_fresh}
use Rattle.sbx_shows.specs.Advances.{Advances, IsMoment, counts_by, more, so_many}
use Rattle.sbx_shows.specs.Marks.{OwnMarks}
use Rattle.sbx_shows.specs.Shows.{Shows, ShowsCalls, window}
use Rattle.sbx_shows.specs.Steps.{Over, Stands}
use Rattle.sbx_shows.specs.Turns.{IsOwnEvent, IsOwnTurn}
use Rattle.sbx_shows.proofs.Advancing.{counted_is, counts_are, no_traps, not_ended, step_of, traffic_of}
use Rattle.sbx_shows.proofs.Distances.{below_is, same_distance}
use Rattle.sbx_shows.proofs.Kept.{SameAbove, marked_same}
use Rattle.sbx_shows.proofs.Own.{no_word, touching_own}
use Rattle.sbx_shows.proofs.Pages.{served_own, vector_own}
use Rattle.sbx_shows.proofs.Places.{fails_not, same_reg, user}
use Rattle.sbx_shows.proofs.Reading.{current_free}
use Rattle.sbx_shows.proofs.Users.{OnlyMarks, fetch_marks, marked_shows, next_whole, next_word, register_shows}

-- ---- what the device gives

-- what the device gives is what the flat machine gets
pub record Gives (d : Device) (s : State) : Type 0 where
  pub rest : List ℕ
  pub flat : flat_gets s.input s ≡ flat_with_reg 8 (gets d).0 (record s { input = rest })
  pub word : (gets d).0 < 2 ^ 32
  pub input : (gets d).1.input ≡ rest
  pub ended : (gets d).1.ended ≡ true → rest ≡ []
  pub bytes : AreBytes rest
  pub output : (gets d).1.output ≡ d.output
  pub running : (gets d).1.stopped ≡ d.stopped

gives_this : (d e : Device) (s : State) (v : ℕ) (rest : List ℕ) → gets d ≡ (v, e) → flat_gets s.input s ≡ flat_with_reg 8 v (record s { input = rest }) →
    v < 2 ^ 32 → e.input ≡ rest → (e.ended ≡ true → rest ≡ []) → AreBytes rest → e.output ≡ d.output → e.stopped ≡ d.stopped → Gives d s
gives_this d e s v rest is flat word input ended bytes output running =
    let value : (gets d).0 ≡ v = ap (λ (p : ℕ × Device). p.0) is in
    let device : (gets d).1 ≡ e = ap (λ (p : ℕ × Device). p.1) is in
    record {
      rest = rest;
      flat = flat ∙ ap (λ w. flat_with_reg 8 w (record s { input = rest })) (sym value);
      word = subst (λ w. w < 2 ^ 32) (sym value) word;
      input = ap (λ (k : Device). k.input) device ∙ input;
      ended = λ h. ended (sym (ap (λ (k : Device). k.ended) device) ∙ h);
      bytes = bytes;
      output = ap (λ (k : Device). k.output) device ∙ output;
      running = ap (λ (k : Device). k.stopped) device ∙ running;
    }

gets_as : (d : Device) (b : Bool) (l : List ℕ) → d.ended ≡ b → d.input ≡ l → gets d ≡ (if b then (0xFFFFFFFF, d) else got_from d (next_byte l))
unfolding gets
gets_as d b l e f =
    ap (λ (k : Bool). if k then (0xFFFFFFFF, d) else got_from d (next_byte d.input)) e
    ∙ ap (λ (k : List ℕ). if b then (0xFFFFFFFF, d) else got_from d (next_byte k)) f

flat_as : (s : State) (l : List ℕ) → s.input ≡ l → flat_gets s.input s ≡ flat_gets l s
flat_as s l e = ap (λ k. flat_gets k s) e

no_input : (s : State) → s.input ≡ [] → flat_with_reg 8 (2 ^ 32 - 1) s ≡ flat_with_reg 8 0xFFFFFFFF (record s { input = [] })
no_input s none = ap (λ (l : List ℕ). flat_with_reg 8 0xFFFFFFFF (record s { input = l })) none

no_bytes : AreBytes []
no_bytes zero = omega arith
no_bytes (suc i) = omega arith

gives_by : (d : Device) (s : State) (b : Bool) (l : List ℕ) → d.ended ≡ b → s.input ≡ l → d.input ≡ s.input → (d.ended ≡ true → s.input ≡ []) → AreBytes s.input → Gives d s
gives_by d s true l e f same ended bytes =
    let none = ended e in
    gives_this d d s 0xFFFFFFFF [] (gets_as d true l e (same ∙ f)) (flat_as s [] none ∙ no_input s none) (omega arith) (same ∙ none) (λ h. refl) no_bytes refl refl
gives_by d s false [] e f same ended bytes =
    gives_this d (record d { input = []; ended = true }) s 0xFFFFFFFF [] (gets_as d false [] e (same ∙ f)) (flat_as s [] f ∙ no_input s f) (omega arith) refl (λ h. refl) no_bytes refl refl
gives_by d s false (byte ∷ rest) e f same ended bytes =
    let all : AreBytes (byte ∷ rest) = subst AreBytes f bytes in
    gives_this d (record d { input = rest; ended = false }) s byte rest (gets_as d false (byte ∷ rest) e (same ∙ f)) (flat_as s (byte ∷ rest) f) (let low =
    all 0 in omega arith) refl (λ h. absurd (cc)) (λ i. all (suc i)) refl refl

pub gives : (d : Device) (s : State) → d.input ≡ s.input → (d.ended ≡ true → s.input ≡ []) → AreBytes s.input → Gives d s
gives d s same ended bytes = gives_by d s d.ended s.input refl refl same ended bytes

-- ---- in the registers a vector writes locals of the window below alone

module _ (n : ℕ) (v : Windows) (file : Registers) (r pc npc : ℕ) (f : IsFile n v) (h : ShowsCalls n v file r) (pc_word : pc < 2 ^ 32) (npc_word : npc < 2 ^ 32) where
  abbrev w : ℕ
  w = below n v.current

  within : w < n
  within = below_within n v.current f.few f.many f.current

  first_file : IsFile n (with_word v w 9 pc)
  first_file = file_with n v w 9 pc f within (omega arith) pc_word

  second_file : IsFile n (with_word (with_word v w 9 pc) w 10 npc)
  second_file = file_with n (with_word v w 9 pc) w 10 npc first_file within (omega arith) npc_word

  -- outs of any window, and locals of the others
  out_kept : (u j : ℕ) → j < 8 → word_at (scratched n v pc npc) u j ≡ word_at v u j
  out_kept u j low =
      word_beside n (with_word (with_word v w 9 pc) w 10 npc) w 11 device_address u j second_file within (omega arith) (omega arith)
      ∙ word_beside n (with_word v w 9 pc) w 10 npc u j first_file within (omega arith) (omega arith)
      ∙ word_beside n v w 9 pc u j f within (omega arith) (omega arith)

  other_kept : (u j : ℕ) → u ≢ w → word_at (scratched n v pc npc) u j ≡ word_at v u j
  other_kept u j other =
      word_apart n (with_word (with_word v w 9 pc) w 10 npc) w 11 device_address u j second_file within (omega arith) other
      ∙ word_apart n (with_word v w 9 pc) w 10 npc u j first_file within (omega arith) other
      ∙ word_apart n v w 9 pc u j f within (omega arith) other

  pub calls_scratched : ShowsCalls n (scratched n v pc npc) file r
  calls_scratched =
      let few = f.few in
      let most = h.most in
      record {
        some = h.some;
        most = h.most;
        open_calls = h.open_calls;
        mask = h.mask;
        globals = h.globals;
        outs = λ k j a b. out_kept (window n v.current k) j b ∙ h.outs k j a b;
        locals = λ k j a b d.
            other_kept (window n v.current k) j (λ e. let same = same_distance n v.current k (n - 1) f.current (omega arith) (omega arith) (e ∙ below_is n v.current few) in omega arith)
            ∙ h.locals k j a b d;
      }

-- ---- in RAM it marks system pages

table_same : (n : ℕ) (parts : Parts) (ram : List ℕ) → IsLoaded n (pages_of parts) parts.words ram → SameAbove ram (table_marked ram)
table_same n parts ram loaded = marked_same ram SYSTEM_TABLE 0x1A false (system_markable (pages_of parts) ram loaded.tables 0 0x1A (omega arith) refl refl (omega arith))

device_same : (n : ℕ) (parts : Parts) (ram : List ℕ) (store : Bool) → IsLoaded n (pages_of parts) parts.words ram → SameAbove ram (device_marked store ram)
device_same n parts ram store loaded = marked_same ram 0x2D40 0x1000001E store (system_markable (pages_of parts) ram loaded.tables 16 0x1000001E (omega arith) refl refl (omega arith))

then_same : (a b c : List ℕ) → SameAbove a b → SameAbove b c → SameAbove a c
then_same a b c s t = record { words = λ p above. t.words p above ∙ s.words p above; bytes = λ p above. t.bytes p above ∙ s.bytes p above }

served_marks : (n : ℕ) (parts : Parts) (mmu : MmuRegs) (x : World n Device) (i : ℕ) (store : Bool) → RunsUser n (pages_of parts) parts.words mmu x i →
    OwnMarks parts x.memory.ram → OnlyMarks n parts x.memory.ram (table_marked (table_marked (vector_marked i store x.memory.ram)))
served_marks n parts mmu x i store u own =
    let ram = x.memory.ram in
    let g = pages_of parts in
    let few = pages_few parts in
    let m = fetch_marks n parts ram i u.loaded own u.within in
    let r1 = code_marked i ram in
    let r2 = table_marked r1 in
    let r3 = table_marked r2 in
    let r4 = device_marked store r3 in
    let r5 = table_marked r4 in
    let l2 = table_kept n g parts.words r1 few m.loaded in
    let l3 = table_kept n g parts.words r2 few l2 in
    let l4 = device_loaded n g parts.words r3 few l3 store in
    let l5 = table_kept n g parts.words r4 few l4 in
    record {
      same = then_same ram r1 (table_marked r5) m.same (then_same r1 r2 (table_marked r5) (table_same n parts r1 m.loaded) (then_same r2 r3 (table_marked r5) (table_same n parts r2 l2)
          (then_same r3 r4 (table_marked r5) (device_same n parts r3 store l3) (then_same r4 r5 (table_marked r5) (table_same n parts r4 l4) (table_same n parts r5 l5)))));
      loaded = loaded_after n g parts.words mmu x i store u;
      marks = served_own n parts ram i store u.loaded u.within own;
    }

-- ---- turns with their events

-- the event of a turn in a list, and what holds of all
event_at : (P : Event → Type 0) (events : List Event) (k : ℕ) → k < length events → AllByRecursion P events → (e : Event) × (slice_get events k ≡ Some e) × P e
event_at P [] k less all = absurd (omega arith)
event_at P (e ∷ events) zero less all = (e, refl, all.0)
event_at P (e ∷ events) (suc k) less all = event_at P events k (omega arith) all.1

-- an event that counts as a turn and no more
abbrev IsOneTurn : Event → Type 0
IsOneTurn event = (c : Counts) → counts_after event c ≡ with_turn c

-- an event of a turn that the image may make, and that runs
abbrev IsOwnRun : Parts → Event → Type 0
IsOwnRun parts event = IsOwnEvent parts event × (event ≡ Annulled → ⊥)

module _ (n : ℕ) (parts : Parts) (mmu : MmuRegs) (s : State) (fits : length parts.words ≤ 65536) (events : List Event) (x new : World n Device) (leads : Leads n (pages_of parts) mmu x events new)
    (plain : AllByRecursion IsOneTurn events) (own : AllByRecursion (IsOwnRun parts) events) where
  led_going : (k : ℕ) → k < length events → ending_of n (world_after board n mmu k x) ≡ None
  led_going k less =
      let e = event_at IsOneTurn events k less plain in
      let t = leads.turns k e.0 e.1 in
      not_ended n (world_after board n mmu k x) t.running t.sane

  led_own : (k : ℕ) → k < length events → IsOwnTurn parts s (turn_at board n mmu k x)
  led_own k less =
      let e = event_at (IsOwnRun parts) events k less own in
      let t = leads.turns k e.0 e.1 in
      touching_own parts s (turn_at board n mmu k x) fits (subst (IsOwnEvent parts) (sym t.tells) e.2.0) (λ annul. e.2.1 (sym t.tells ∙ annul)) t.touches (no_word n mmu (world_after board n mmu k x))

  led_counts : (c : Counts) (k : ℕ) → k ≤ length events → c.turns + k ≤ 2 ^ 64 - 1 → counts_by n mmu x k c ≡ more c k 0 0
  led_counts c zero most small = counts_are c.turns c.overflows c.underflows (c.turns + 0) (c.overflows + 0) (c.underflows + 0) (omega arith) (omega arith) (omega arith)
  led_counts c (suc k) most small =
      let e = event_at IsOneTurn events k (omega arith) plain in
      let t = leads.turns k e.0 e.1 in
      ap (λ v. counts_after v (counts_by n mmu x k c)) t.tells
      ∙ ap (counts_after e.0) (led_counts c k (omega arith) (omega arith))
      ∙ e.2 (more c k 0 0)
      ∙ counts_are (counted (c.turns + k)) (c.overflows + 0) (c.underflows + 0) (c.turns + suc k) (c.overflows + 0) (c.underflows + 0) (counted_is (c.turns + k) (omega arith) ∙ omega arith) refl refl

-- ---- the services

module _ (n : ℕ) (parts : Parts) (mmu : MmuRegs) (x : World n Device) (s : State) (r i : ℕ) (h : Stands n parts mmu x s r i) where
  abbrev shown : Shows n parts x s r
  shown = h.shows

  u : RunsUser n (pages_of parts) parts.words mmu x i
  u = user n parts mmu x s r i h

  pub may_return : can_enter x.cpu.regs x.cpu.regs.current ≡ true
  may_return = current_free n x.cpu.regs s.registers r shown.file shown.calls

  pc_word : x.cpu.control.pc < 2 ^ 32
  pc_word = let few = (pages_few parts).code in let here = shown.control.pc in let at = h.place in let less = u.within in omega arith

  abbrev regs : Windows
  regs = scratched n x.cpu.regs x.cpu.control.pc x.cpu.control.npc

  abbrev ram : Bool → List ℕ
  ram store = table_marked (table_marked (vector_marked i store x.memory.ram))

  -- back from a vector, with the device and the state as they were
  back : (store : Bool) → Shows n parts (world n (record { regs = regs; control = x.cpu.control }) (ram store) x.memory.device) s r
  back store =
      let m = marked_shows n parts x s r (ram store) shown (served_marks n parts mmu x i store u shown.marks) in
      record {
        file = scratched_file n x.cpu.regs x.cpu.control.pc x.cpu.control.npc shown.file pc_word shown.control.npc_word;
        calls = calls_scratched n x.cpu.regs s.registers r x.cpu.control.pc x.cpu.control.npc shown.file shown.calls pc_word shown.control.npc_word;
        stacked = m.stacked;
        saved = m.saved;
        slots = m.slots;
        stack = m.stack;
        bytes = m.bytes;
        control = m.control;
        device = m.device;
        going = m.going;
        loaded = m.loaded;
        marks = m.marks;
      }

  put_shows : Shows n parts (put n x i) (advanced (puts s)) r
  put_shows =
      let m = back true in
      let a = shown.control in
      record {
        file = m.file;
        calls = m.calls;
        stacked = m.stacked;
        saved = m.saved;
        slots = m.slots;
        stack = m.stack;
        bytes = m.bytes;
        control = record {
          pc = a.npc;
          npc = ap following a.npc;
          npc_word = next_word x.cpu.control.npc;
          npc_whole =
              next_whole x.cpu.control.npc a.npc_whole;
          annul = a.annul;
          icc = a.icc;
          y = a.y;
          y_word = a.y_word;
          user = a.user;
          traps = a.traps;
          sane =
              a.sane;
          table = a.table;
        };
        device = record {
          running = shown.device.running;
          input = shown.device.input;
          ended = shown.device.ended;
          bytes = shown.device.bytes;
          output = ap (λ (o : List ℕ). o ++ (reg_of n x.cpu.regs 8 % 2 ^ 8) ∷ []) shown.device.output ∙ ap (λ q. s.output ++ (q % 2 ^ 8) ∷ []) (same_reg n parts mmu x s r i h 8 (omega arith));
        };
        going = m.going;
        loaded = m.loaded;
        marks = m.marks;
      }

  got_with : (g : Gives x.memory.device s) → Shows n parts (got n x i) (advanced (flat_with_reg 8 (gets x.memory.device).0 (record s { input = g.rest }))) r
  got_with g =
      let v = (gets x.memory.device).0 in
      let m = register_shows n parts (world n (record { regs = regs; control = x.cpu.control }) (ram false) x.memory.device) s r 8 v (back false) (omega arith) (omega arith) (omega arith) g.word in
      let a = shown.control in
      record {
        file = m.file;
        calls = m.calls;
        stacked = m.stacked;
        saved = m.saved;
        slots = m.slots;
        stack = m.stack;
        bytes = m.bytes;
        control = record {
          pc = a.npc;
          npc = ap following a.npc;
          npc_word = next_word x.cpu.control.npc;
          npc_whole =
              next_whole x.cpu.control.npc a.npc_whole;
          annul = a.annul;
          icc = a.icc;
          y = a.y;
          y_word = a.y_word;
          user = a.user;
          traps = a.traps;
          sane =
              a.sane;
          table = a.table;
        };
        device = record { running = g.running ∙ shown.device.running; input = g.input; ended = g.ended; bytes = g.bytes; output = g.output ∙ shown.device.output };
        going = m.going;
        loaded = m.loaded;
        marks = m.marks;
      }

  got_shows : Shows n parts (got n x i) (advanced (flat_gets s.input s)) r
  got_shows =
      let g = gives x.memory.device s shown.device.input shown.device.ended shown.device.bytes in
      subst (λ (t : State). Shows n parts (got n x i) (advanced t) r) (sym g.flat) (got_with g)

  exit_over : Over n parts (exited n x i) (advanced (exits s)) (reg_of n x.cpu.regs 8)
  exit_over = record {
    stopped = refl;
    exit = ap Some (sym (same_reg n parts mmu x s r i h 8 (omega arith)));
    output = shown.device.output;
    marks = vector_own n parts x.memory.ram i true shown.loaded u.within shown.marks;
  }

  -- ---- each as a step

  moments_of : (count : ℕ) → ((k : ℕ) → k < count → (world_after board n mmu (suc k) x).cpu.control.s ≡ true) → (k : ℕ) → k < suc count → IsMoment n parts (world_after board n mmu k x) s
  moments_of count system zero less = inr (r, shown)
  moments_of count system (suc k) less = inl (system k (omega arith))

  -- a service that is called is declared
  declared : (k : ℕ) → Calls parts.words i k → (IsWrong parts s → ⊥) → declares parts.services k ≡ true
  unfolding is_admitted
  declared k is good = by_test (declares parts.services k) refl
    where
      by_test : (t : Bool) → declares parts.services k ≡ t → declares parts.services k ≡ true
      by_test true e = e
      by_test false e = absurd (fails_not n parts mmu x s r i h (calls k) is refl good NoService (rw e refl))

  pub put_advances : Calls parts.words i 2 → (IsWrong parts s → ⊥) → Advances n parts mmu x s r 5 0 0 r
  unfolding is_admitted
  put_advances is good =
      let may = declared 2 is good in
      let leads = put_law n (pages_of parts) parts.words mmu x i u may_return is in
      let events = served_events 0x82 in
      let plain : AllByRecursion IsOneTurn events = (λ c. refl, (λ c. refl, (λ c. refl, (λ c. refl, (λ c. refl, tt))))) in
      let own : AllByRecursion (IsOwnRun parts) events = ((may, λ e. cc), ((tt, λ e. cc), ((tt, λ e. cc), ((tt, λ e. cc), ((tt, λ e. cc), tt))))) in
      let goes : does parts still (calls 2) s ≡ Goes (advanced (puts s)) = rw may refl in
      record {
        next_state = advanced (puts s);
        step = step_of n parts mmu x s r i h (calls 2) is refl still (advanced (puts s)) still_is_fresh goes;
        going = led_going n parts mmu s h.fits.words events x (put n x i) leads plain own;
        own = led_own n parts mmu s h.fits.words events x (put n x i) leads plain own;
        moments = moments_of 4 (put_system n (pages_of parts) parts.words mmu x i u is);
        counts = λ c small a b. led_counts n parts mmu s h.fits.words events x (put n x i) leads plain own c 5 (omega arith) small;
        traffic = λ o p k. traffic_of n parts mmu x s r i h (calls 2) is refl (so_many r o p k) ∙ no_traps r o p (k + 5);
        ends = inl (subst (λ (w : World n Device). Shows n parts w (advanced (puts s)) r) (sym leads.is) put_shows);
      }

  pub get_advances : Calls parts.words i 1 → (IsWrong parts s → ⊥) → Advances n parts mmu x s r 5 0 0 r
  unfolding is_admitted
  get_advances is good =
      let may = declared 1 is good in
      let leads = get_law n (pages_of parts) parts.words mmu x i u may_return is in
      let events = served_events 0x81 in
      let plain : AllByRecursion IsOneTurn events = (λ c. refl, (λ c. refl, (λ c. refl, (λ c. refl, (λ c. refl, tt))))) in
      let own : AllByRecursion (IsOwnRun parts) events = ((may, λ e. cc), ((tt, λ e. cc), ((tt, λ e. cc), ((tt, λ e. cc), ((tt, λ e. cc), tt))))) in
      let goes : does parts still (calls 1) s ≡ Goes (advanced (flat_gets s.input s)) = rw may refl in
      record {
        next_state = advanced (flat_gets s.input s);
        step = step_of n parts mmu x s r i h (calls 1) is refl still (advanced (flat_gets s.input s)) still_is_fresh goes;
        going = led_going n parts mmu s h.fits.words events x (got n x i) leads plain own;
        own = led_own n parts mmu s h.fits.words events x (got n x i) leads plain own;
        moments = moments_of 4 (get_system n (pages_of parts) parts.words mmu x i u is);
        counts = λ c small a b. led_counts n parts mmu s h.fits.words events x (got n x i) leads plain own c 5 (omega arith) small;
        traffic = λ o p k. traffic_of n parts mmu x s r i h (calls 1) is refl (so_many r o p k) ∙ no_traps r o p (k + 5);
        ends = inl (subst (λ (w : World n Device). Shows n parts w (advanced (flat_gets s.input s)) r) (sym leads.is) got_shows);
      }

  pub exit_advances : Calls parts.words i 0 → (IsWrong parts s → ⊥) → Advances n parts mmu x s r 3 0 0 r
  unfolding is_admitted
  exit_advances is good =
      let may = declared 0 is good in
      let v = reg_of n x.cpu.regs 8 in
      let leads = exit_law n (pages_of parts) parts.words mmu x i u is in
      let events = exit_events v in
      let plain : AllByRecursion IsOneTurn events = (λ c. refl, (λ c. refl, (λ c. refl, tt))) in
      let own : AllByRecursion (IsOwnRun parts) events = ((may, λ e. cc), ((tt, λ e. cc), ((tt, λ e. cc), tt))) in
      let goes : does parts still (calls 0) s ≡ Goes (advanced (exits s)) = rw may refl in
      record {
        next_state = advanced (exits s);
        step = step_of n parts mmu x s r i h (calls 0) is refl still (advanced (exits s)) still_is_fresh goes;
        going = led_going n parts mmu s h.fits.words events x (exited n x i) leads plain own;
        own = led_own n parts mmu s h.fits.words events x (exited n x i) leads plain own;
        moments = moments_of 2 (exit_system n (pages_of parts) parts.words mmu x i u is);
        counts = λ c small a b. led_counts n parts mmu s h.fits.words events x (exited n x i) leads plain own c 3 (omega arith) small;
        traffic = λ o p k. traffic_of n parts mmu x s r i h (calls 0) is refl (so_many r o p k) ∙ no_traps r o p (k + 3);
        ends = inr (v, subst (λ (w : World n Device). Over n parts w (advanced (exits s)) v) (sym leads.is) exit_over);
      }
