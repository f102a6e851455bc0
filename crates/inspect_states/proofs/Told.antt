-- Turns that are told.
use Rattle.std.proofs.Common.{◌≡◌, ℕ, zero, suc, ◌+◌, ◌<◌, ◌≤◌, ◌⊎◌, false, List, [], ◌++◌, Option, Result, Ok, Err, OnErr, OnOk, inl, inr, refl, sym, ap}
use Rattle.std.proofs.Common.{subst, ◌∙◌, append_assoc, append-nil, add-one, arith}
use Rattle.std.specs.Io.KnownBytes.{Appends, Keeps}
use Rattle.sbx_put.specs.Fronts.{Begins, Wrote, WroteSome}
use Rattle.sbx_put.proofs.Written.{nothing_written, some_after, written_after}
use Rattle.v8_core.specs.Accesses.{World}
use Rattle.v8_core.specs.Cpu.{Cpu}
use Rattle.v8_core.specs.Meaning.{Meaning}
use Rattle.v8_core.specs.MmuRegs.{MmuRegs}
use Rattle.v8_core.specs.Steps.{next, world_after}
use Rattle.v8_core.specs.Walked.{root_of}
use Rattle.v8_core.specs.declared.turn.Turn.{Turn}
use Rattle.inspect_states.specs.declared.shown.ShownState.{ShownState}
use Rattle.inspect_states.specs.Columns.{shown_of}
use Rattle.v8_core.specs.Windows.{Windows}
use Rattle.inspect_states.specs.Lines.{IsLine, Known, end_line, known_of, start_line, told_registers}
use Rattle.inspect_states.specs.Runs.{BeginsNext, BeginsStates, IsPart, IsStates, Made, TellsNext, TellsTurns, ToldRun, ToldSome, ToldTurn, begun, is_over}

-- some turns, and the lines that tell them were written
pub record Telling {D : Type 0} (m : Meaning D) (n : ℕ) (mmu : MmuRegs) (old now : World n D) (k : ℕ) (known told : Known) (first last : Option (List ℕ)) : Type 0 where
  pub made : Made m n mmu old now k
  pub text : List ℕ
  pub tells : TellsTurns m n mmu old known k told text
  pub written : Appends first last text

pub nothing_told : {D : Type 0} (m : Meaning D) (n : ℕ) (mmu : MmuRegs) (w : World n D) (known : Known) (a : Option (List ℕ)) → Telling m n mmu w w 0 known known a a
unfolding TellsTurns
nothing_told m n mmu w known a =
    record { made = record { running = λ j none. absurd (omega arith); is = refl }; text = []; tells = (refl, refl); written = nothing_written a }

-- the turns so far, and one more
made_more : {D : Type 0} (m : Meaning D) (n : ℕ) (mmu : MmuRegs) (old mid new : World n D) (k : ℕ) → Made m n mmu old mid k → is_over m n mid ≡ false
    → (next m n mmu mid).1 ≡ new → Made m n mmu old new (suc k)
made_more {D} m n mmu old mid new k made going is = record {
  running = λ j less.
      let split : (j < k) ⊎ (j ≡ k) = search arith in
      elim split [
        | inl before ↦ made.running j before
        | inr same ↦ ap (λ (i : ℕ). is_over m n (world_after m n mmu i old)) same ∙ ap (λ (s : World n D). is_over m n s) (sym made.is) ∙ going
      ];
  is = sym is ∙ ap (λ (s : World n D). (next m n mmu s).1) made.is;
}

-- the line of the turn that comes next, behind so many
next_line : {D : Type 0} (m : Meaning D) (n : ℕ) (mmu : MmuRegs) (old mid : World n D) (k : ℕ) (known told : Known) (text : List ℕ) → mid ≡ world_after m n mmu k old
    → TellsNext m n mmu (k + 1) mid known told text → TellsNext m n mmu (suc k) (world_after m n mmu k old) known told text
next_line {D} m n mmu old mid k known told text there tells =
    let P : World n D → Type 0 = λ s. TellsNext m n mmu (suc k) s known told text in
    let Q : ℕ → Type 0 = λ j. TellsNext m n mmu j mid known told text in
    subst P there (subst Q (add-one k) tells)

pub told_more : {D : Type 0} (m : Meaning D) (n : ℕ) (mmu : MmuRegs) (old mid new : World n D) (k : ℕ) (known seen told : Known) (a b c : Option (List ℕ))
    → Telling m n mmu old mid k known seen a b → is_over m n mid ≡ false → ToldTurn m n mmu (k + 1) mid new seen told b c → Telling m n mmu old new (k + 1) known told a c
unfolding TellsTurns
told_more {D} m n mmu old mid new k known seen told a b c so_far going turn =
    let P : Turn × World n D → Type 0 = λ x. IsLine n (root_of mmu) (k + 1) (shown_of n mid.cpu) x.0 x.1.cpu x.1.memory.ram seen told turn.text in
    let here : TellsNext m n mmu (k + 1) mid seen told turn.text = subst P (sym turn.made) turn.line in
    let last = next_line m n mmu old mid k seen told turn.text so_far.made.is here in
    let M : ℕ → Type 0 = λ j. Made m n mmu old new j in
    let T : ℕ → Type 0 = λ j. TellsTurns m n mmu old known j told (so_far.text ++ turn.text) in
    record {
      made = subst M (sym (add-one k)) (made_more m n mmu old mid new k so_far.made going (ap (λ (x : Turn × World n D). x.1) turn.made));
      text = so_far.text ++ turn.text;
      tells = subst T (sym (add-one k)) (seen, so_far.text, turn.text, so_far.tells, last, refl);
      written = written_after a b c so_far.text turn.text so_far.written turn.written;
    }

-- ---- a turn

-- the turn that the machine made, and its line
line_of : {D : Type 0} (m : Meaning D) (n : ℕ) (mmu own : MmuRegs) (number : ℕ) (old new : World n D) (before : ShownState) (turn : Turn) (known told : Known) (line : List ℕ)
    → own ≡ mmu → next m n own old ≡ (turn, new) → before ≡ shown_of n old.cpu
    → IsLine n (root_of mmu) number before turn new.cpu new.memory.ram known told line
    → (next m n mmu old ≡ (turn, new)) × IsLine n (root_of mmu) number (shown_of n old.cpu) turn new.cpu new.memory.ram known told line
line_of {D} m n mmu own number old new before turn known told line same made shows is =
    let M : MmuRegs → Type 0 = λ x. next m n x old ≡ (turn, new) in
    let L : ShownState → Type 0 = λ x. IsLine n (root_of mmu) number x turn new.cpu new.memory.ram known told line in
    (subst M same made, subst L shows is)

pub turn_told : {D : Type 0} (m : Meaning D) (n : ℕ) (mmu own : MmuRegs) (number : ℕ) (old new : World n D) (before : ShownState) (turn : Turn) (known told : Known) (a b : Option (List ℕ))
    (line shown : List ℕ) → own ≡ mmu → next m n own old ≡ (turn, new) → before ≡ shown_of n old.cpu
    → IsLine n (root_of mmu) number before turn new.cpu new.memory.ram known told line → shown ≡ line → Appends a b shown → ToldTurn m n mmu number old new known told a b
turn_told m n mmu own number old new before turn known told a b line shown same made shows is text grown =
    let both = line_of m n mmu own number old new before turn known told line same made shows is in
    record { turn = turn; text = line; made = both.0; line = both.1; written = subst (λ (t : List ℕ). Appends a b t) text grown }

pub nothing_begun : {D : Type 0} (m : Meaning D) (n : ℕ) (mmu : MmuRegs) (number : ℕ) (old : World n D) (known : Known) (a : Option (List ℕ)) → ToldSome m n mmu number old known a a
nothing_begun m n mmu number old known a = ([], inl refl, nothing_written a)

pub turn_begun : {D : Type 0} (m : Meaning D) (n : ℕ) (mmu own : MmuRegs) (number : ℕ) (old new : World n D) (before : ShownState) (turn : Turn) (known told : Known) (a b : Option (List ℕ))
    (line shown : List ℕ) → own ≡ mmu → next m n own old ≡ (turn, new) → before ≡ shown_of n old.cpu
    → IsLine n (root_of mmu) number before turn new.cpu new.memory.ram known told line → shown ≡ line → WroteSome a b shown → ToldSome m n mmu number old known a b
turn_begun {D} m n mmu own number old new before turn known told a b line shown same made shows is text (front, rest, split, grown) =
    let both = line_of m n mmu own number old new before turn known told line same made shows is in
    let P : Turn × World n D → Type 0 = λ x. IsLine n (root_of mmu) number (shown_of n old.cpu) x.0 x.1.cpu x.1.memory.ram known told line in
    (front, inr (told, line, subst P (sym both.0) both.1, (rest, sym text ∙ split)), grown)

-- ---- the turns of a run

pub run_told : {D : Type 0} (m : Meaning D) (n : ℕ) (mmu : MmuRegs) (limit : ℕ) (old new : World n D) (k : ℕ) (known told : Known) (a b : Option (List ℕ))
    → Telling m n mmu old new k known told a b → k ≤ limit → (is_over m n new ≡ false → k ≡ limit) → ToldRun m n mmu limit old new k known told a b
run_told m n mmu limit old new k known told a b t within whole =
    record { made = t.made; within = within; whole = whole; text = t.text; tells = t.tells; written = t.written }

pub all_told : {D : Type 0} (m : Meaning D) (n : ℕ) (mmu : MmuRegs) (limit : ℕ) (old new : World n D) (k : ℕ) (known told : Known) (a b : Option (List ℕ))
    → Telling m n mmu old new k known told a b → k ≡ limit → ToldRun m n mmu limit old new limit known told a b
all_told m n mmu limit old new k known told a b t all =
    let P : ℕ → Type 0 = λ j. ToldRun m n mmu limit old new j known told a b in
    subst P all (run_told m n mmu limit old new k known told a b t (omega arith) (λ none. all))

pub part_told : {D : Type 0} (m : Meaning D) (n : ℕ) (mmu : MmuRegs) (limit : ℕ) (old mid : World n D) (k : ℕ) (known seen : Known) (a b c : Option (List ℕ))
    → Telling m n mmu old mid k known seen a b → k ≤ limit → ToldSome m n mmu (k + 1) mid seen b c → Wrote a c (IsPart m n mmu limit old known)
part_told {D} m n mmu limit old mid k known seen a b c t within (front, begins, grown) =
    let P : ℕ → Type 0 = λ j. BeginsNext m n mmu j mid seen front in (
      t.text ++ front,
      record {
        reached = mid;
        count = k;
        made = t.made;
        within = within;
        told = seen;
        text = t.text;
        tells = t.tells;
        front = front;
        begins = inl (subst P (add-one k) begins);
        is = refl;
      },
      written_after a b c t.text front t.written grown,
    )

-- ---- the whole

pub states_told : {D : Type 0} (m : Meaning D) (n : ℕ) (mmu : MmuRegs) (limit : ℕ) (old new : World n D) (k : ℕ) (known seen told : Known) (a b c d : Option (List ℕ))
    → Appends a b (start_line n known.registers old.cpu) → seen ≡ begun n old known → ToldRun m n mmu limit old new k seen told b c
    → Appends c d (end_line n k new.cpu) → Wrote a d (IsStates m n mmu limit old new known)
states_told {D} m n mmu limit old new k known seen told a b c d started same run ended =
    let start = start_line n known.registers old.cpu in
    let end = end_line n k new.cpu in
    let T : Known → Type 0 = λ s. TellsTurns m n mmu old s k told run.text in (
      start ++ run.text ++ end,
      record {
        count = k;
        made = run.made;
        within = run.within;
        whole = run.whole;
        told = told;
        lines = run.text;
        tells = subst T same run.tells;
        text_is = refl;
      },
      written_after a c d (start ++ run.text) end (written_after a b c start run.text started run.written) ended,
    )

pub start_begun : {D : Type 0} (m : Meaning D) (n : ℕ) (mmu : MmuRegs) (limit : ℕ) (old : World n D) (known : Known) (a b : Option (List ℕ))
    → WroteSome a b (start_line n known.registers old.cpu) → Wrote a b (BeginsStates m n mmu limit old known)
start_begun m n mmu limit old known a b (front, rest, split, grown) = (front, inl (rest, split), grown)

pub turns_begun : {D : Type 0} (m : Meaning D) (n : ℕ) (mmu : MmuRegs) (limit : ℕ) (old : World n D) (known seen : Known) (a b c : Option (List ℕ))
    → Appends a b (start_line n known.registers old.cpu) → seen ≡ begun n old known → Wrote b c (IsPart m n mmu limit old seen)
    → Wrote a c (BeginsStates m n mmu limit old known)
turns_begun {D} m n mmu limit old known seen a b c started same (bytes, part, grown) =
    let start = start_line n known.registers old.cpu in
    let P : Known → Type 0 = λ s. IsPart m n mmu limit old s bytes in
    (start ++ bytes, inr (bytes, subst P same part, refl), written_after a b c start bytes started grown)

pub end_begun : {D : Type 0} (m : Meaning D) (n : ℕ) (mmu : MmuRegs) (limit : ℕ) (old new : World n D) (k : ℕ) (known seen told : Known) (a b c d : Option (List ℕ))
    → Appends a b (start_line n known.registers old.cpu) → seen ≡ begun n old known → ToldRun m n mmu limit old new k seen told b c
    → WroteSome c d (end_line n k new.cpu) → Wrote a d (BeginsStates m n mmu limit old known)
end_begun {D} m n mmu limit old new k known seen told a b c d started same run (front, rest, split, grown) =
    let part : IsPart m n mmu limit old seen (run.text ++ front) = record {
      reached = new;
      count = k;
      made = run.made;
      within = run.within;
      told = told;
      text = run.text;
      tells = run.tells;
      front = front;
      begins = inr (rest, split);
      is = refl;
    } in
    turns_begun m n mmu limit old known seen a b d started same (run.text ++ front, part, written_after b c d run.text front run.written grown)

-- what is known behind the line before the first turn
pub begun_is : {D : Type 0} (n : ℕ) (old : World n D) (before now : Windows) (ram same : List ℕ) → now ≡ told_registers n before old.cpu → same ≡ ram
    → known_of now same ≡ begun n old (known_of before ram)
begun_is n old before now ram same registers memory =
    ap (λ (r : Windows). known_of r same) registers ∙ ap (λ (m : List ℕ). known_of (told_registers n before old.cpu) m) memory

pub on_err_weaker : {T E P Q : Type 0} (r : Result T E) → (P → Q) → OnErr r P → OnErr r Q
on_err_weaker (Ok x) f h = h
on_err_weaker (Err e) f h = f h

-- the first bytes of a line that was made
pub some_of_line : (a b : Option (List ℕ)) (shown line text : List ℕ) → shown ≡ line → line ≡ text → WroteSome a b shown → WroteSome a b text
some_of_line a b shown line text same is some = subst (λ (t : List ℕ). WroteSome a b t) (same ∙ is) some
