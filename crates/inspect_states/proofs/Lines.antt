-- Lines that are made of pieces.
use Rattle.std.proofs.Common.{◌≡◌, ℕ, List, [], ◌++◌, codes, Result, Ok, Err, OnOk, refl, sym, ap, ◌∙◌, append_assoc}
use Rattle.std.specs.Prelude.{is_ok, if◌then◌else◌}
use Rattle.v8_core.specs.Cpu.{Cpu}
use Rattle.v8_core.specs.Windows.{Windows}
use Rattle.v8_core.specs.declared.turn.Turn.{Turn}
use Rattle.inspect_states.specs.declared.shown.ShownState.{ShownState}
use Rattle.inspect_states.specs.declared.words.Places.{Places}
use Rattle.inspect_states.specs.Accesses.{EntryIs, EntryOfIs, access_text, second_place, stored_place}
use Rattle.inspect_states.specs.Columns.{annul_text, columns_text, outcome_text, shown_of}
use Rattle.inspect_states.specs.Lines.{IsLine, Known, end_line, known_of, line_text, registers_text, start_line, told_registers}
use Rattle.inspect_states.specs.Words.{change_at, told_words}

-- one piece more, where there was memory for it
pub pushed : {T E : Type 0} (r : Result T E) (old new piece : List ℕ) → new ≡ (if is_ok r then old ++ piece else old) → OnOk r (new ≡ old ++ piece)
pushed (Ok x) old new piece is = is
pushed (Err e) old new piece is = tt

-- four pieces, one after the other
four : (a b c d e p q r s : List ℕ) → b ≡ a ++ p → c ≡ b ++ q → d ≡ c ++ r → e ≡ d ++ s → e ≡ a ++ (p ++ (q ++ (r ++ s)))
four a b c d e p q r s one two three last =
    let whole : e ≡ (((a ++ p) ++ q) ++ r) ++ s = rw (last, three, two, one) refl in
    whole ∙ simp append_assoc

-- the words of four places, each behind the ones before it
pub words_text : (known now k1 k2 k3 : List ℕ) (p : Places) (a b c d e : List ℕ) → b ≡ a ++ (change_at (codes "e") known now p.fetched).0
    → k1 ≡ (change_at (codes "e") known now p.fetched).1 → c ≡ b ++ (change_at (codes "e") k1 now p.accessed).0
    → k2 ≡ (change_at (codes "e") k1 now p.accessed).1 → d ≡ c ++ (change_at (codes "m") k2 now p.stored).0
    → k3 ≡ (change_at (codes "m") k2 now p.stored).1 → e ≡ d ++ (change_at (codes "m") k3 now p.second).0 → e ≡ a ++ (told_words known now p).0
unfolding told_words
words_text known now k1 k2 k3 p a b c d e one k1-is two k2-is three k3-is last =
    rw (← k1-is, ← k2-is, ← k3-is)
    (four a b c d e (change_at (codes "e") known now p.fetched).0 (change_at (codes "e") k1 now p.accessed).0 (change_at (codes "m") k2 now p.stored).0
    (change_at (codes "m") k3 now p.second).0 one two three last)

pub words_ram : (known now k1 k2 k3 k4 : List ℕ) (p : Places) → k1 ≡ (change_at (codes "e") known now p.fetched).1
    → k2 ≡ (change_at (codes "e") k1 now p.accessed).1 → k3 ≡ (change_at (codes "m") k2 now p.stored).1 → k4 ≡ (change_at (codes "m") k3 now p.second).1
    → k4 ≡ (told_words known now p).1
unfolding told_words
words_ram known now k1 k2 k3 k4 p k1-is k2-is k3-is k4-is = rw (← k1-is, ← k2-is, ← k3-is) k4-is

-- what a turn changed: registers, words, and the line's end
pub changes_are : (a b c d registers words : List ℕ) → b ≡ a ++ registers → c ≡ b ++ words → d ≡ c ++ codes "\n" → d ≡ a ++ (registers ++ words ++ codes "\n")
changes_are a b c d registers words one two last =
    let whole : d ≡ ((a ++ registers) ++ words) ++ codes "\n" = rw (last, two, one) refl in
    whole ∙ simp append_assoc

-- the line behind the last turn
pub end_is : (n number : ℕ) (cpu : Cpu n) (empty columns done : List ℕ) (s : ShownState) → empty ≡ [] → s ≡ shown_of n cpu
    → columns ≡ empty ++ columns_text number (codes "-") s → done ≡ columns ++ codes "-------- end\n" → done ≡ end_line n number cpu
end_is n number cpu empty columns done s none shows one last =
    let front : columns ≡ columns_text number (codes "-") (shown_of n cpu) =
    one ∙ ap (λ (t : List ℕ). t ++ columns_text number (codes "-") s) none ∙ ap (λ (x : ShownState). columns_text number (codes "-") x) shows in
    last ∙ ap (λ (t : List ℕ). t ++ codes "-------- end\n") front

-- the line before the first turn
pub start_is : (n : ℕ) (known : Windows) (cpu : Cpu n) (empty columns named told done : List ℕ) (s : ShownState) → empty ≡ [] → s ≡ shown_of n cpu
    → columns ≡ empty ++ columns_text 0 (codes "-") s → named ≡ columns ++ codes "-------- start" → told ≡ named ++ registers_text n known cpu
    → done ≡ told ++ codes "\n" → done ≡ start_line n known cpu
start_is n known cpu empty columns named told done s none shows one two three last =
    let front : columns ≡ columns_text 0 (codes "-") (shown_of n cpu) =
    one ∙ ap (λ (t : List ℕ). t ++ columns_text 0 (codes "-") s) none ∙ ap (λ (x : ShownState). columns_text 0 (codes "-") x) shows in
    last
    ∙ ap (λ (t : List ℕ). t ++ codes "\n")
    (three ∙ ap (λ (t : List ℕ). t ++ registers_text n known cpu) (two ∙ ap (λ (t : List ℕ). t ++ codes "-------- start") front))

-- the line of a turn
pub line_is : (n root number : ℕ) (before : ShownState) (turn : Turn) (cpu : Cpu n) (ram known_ram told_ram : List ℕ) (known told : Windows) (places : Places)
    (empty head done : List ℕ) → EntryIs known_ram root before.pc places.fetched → EntryOfIs known_ram root turn.access places.accessed
    → places.stored ≡ stored_place turn.access → places.second ≡ second_place turn.access → empty ≡ []
    → head ≡ empty ++ (columns_text number (annul_text turn.event) before ++ outcome_text turn ++ access_text turn.access)
    → done ≡ head ++ (registers_text n known cpu ++ (told_words known_ram ram places).0 ++ codes "\n")
    → told ≡ told_registers n known cpu → told_ram ≡ (told_words known_ram ram places).1
    → IsLine n root number before turn cpu ram (known_of known known_ram) (known_of told told_ram) done
line_is n root number before turn cpu ram known_ram told_ram known told places empty head done fetched accessed stored second none one last registers words =
    let front = columns_text number (annul_text turn.event) before ++ outcome_text turn ++ access_text turn.access in
    let changed = registers_text n known cpu in
    let more = (told_words known_ram ram places).0 in
    let begun : head ≡ front = one ∙ ap (λ (t : List ℕ). t ++ front) none in
    let whole : done ≡ front ++ (changed ++ more ++ codes "\n") = last ∙ ap (λ (t : List ℕ). t ++ (changed ++ more ++ codes "\n")) begun in
    let regrouped : front ++ (changed ++ more ++ codes "\n") ≡ front ++ changed ++ more ++ codes "\n" =
    sym (append_assoc front (changed ++ more) (codes "\n")) ∙ ap (λ (t : List ℕ). t ++ codes "\n") (sym (append_assoc front changed more)) in
    record {
      places = places;
      fetched = fetched;
      accessed = accessed;
      stored = stored;
      second = second;
      line = whole ∙ regrouped;
      registers = registers;
      words = words;
    }

-- the words told of RAM that is known and as it is, by other names
pub same_ram_text : (known mid now bus : List ℕ) (p : Places) (a b : List ℕ) → mid ≡ known → bus ≡ now → b ≡ a ++ (told_words mid bus p).0
    → b ≡ a ++ (told_words known now p).0
same_ram_text known mid now bus p a b same is told =
    told ∙ ap (λ (k : List ℕ). a ++ (told_words k bus p).0) same ∙ ap (λ (r : List ℕ). a ++ (told_words known r p).0) is

pub same_ram_ram : (known mid now bus new : List ℕ) (p : Places) → mid ≡ known → bus ≡ now → new ≡ (told_words mid bus p).1 → new ≡ (told_words known now p).1
same_ram_ram known mid now bus new p same is told =
    told ∙ ap (λ (k : List ℕ). (told_words k bus p).1) same ∙ ap (λ (r : List ℕ). (told_words known r p).1) is

-- what holds anyway
pub always : {T E P : Type 0} (r : Result T E) → P → OnOk r P
always (Ok x) p = p
always (Err e) p = tt

-- the same, where there was memory for it
pub lines_are : (n root number : ℕ) (before : ShownState) (turn : Turn) (cpu : Cpu n) (ram known_ram told_ram : List ℕ) (known told : Windows) (places : Places)
    (empty head done : List ℕ) {T E : Type 0} (r : Result T E) → EntryIs known_ram root before.pc places.fetched → EntryOfIs known_ram root turn.access places.accessed
    → places.stored ≡ stored_place turn.access → places.second ≡ second_place turn.access → empty ≡ []
    → head ≡ empty ++ (columns_text number (annul_text turn.event) before ++ outcome_text turn ++ access_text turn.access)
    → OnOk r (done ≡ head ++ (registers_text n known cpu ++ (told_words known_ram ram places).0 ++ codes "\n"))
    → OnOk r (told ≡ told_registers n known cpu) → OnOk r (told_ram ≡ (told_words known_ram ram places).1)
    → OnOk r (IsLine n root number before turn cpu ram (known_of known known_ram) (known_of told told_ram) done)
lines_are n root number before turn cpu ram known_ram told_ram known told places empty head done (Ok x) fetched accessed stored second none one last registers words =
    line_is n root number before turn cpu ram known_ram told_ram known told places empty head done fetched accessed stored second none one last registers words
lines_are n root number before turn cpu ram known_ram told_ram known told places empty head done (Err e) fetched accessed stored second none one last registers words = tt
