-- Why what is told of a line by itself is among the faults of the source.
use Rattle.std.proofs.Common.{◌≡◌, ◌⊎◌, inl, inr, ℕ, ◌*◌, Bool, true, false, List, [], ◌∷◌, ◌++◌, map, Option, None, Some, Result, Ok, Err, refl, sym, ap, subst, ◌∙◌, append_assoc}
use Rattle.std.specs.Prelude.{◌==◌, ◌&&◌, ◌||◌, ◌-◌, not, nat_lt, nat_le, if◌then◌else◌}
use Rattle.std.specs.List.{list_any}
use Rattle.std.specs.Option.{option_map}
use Rattle.std.specs.Str.{bytes_eq}
use Rattle.v8_syntax.specs.Statements.{statement_length}
use Rattle.std.proofs.lemmas.List.{map-append}
use Rattle.std.proofs.lemmas.Bool.{eqb-true}
use Rattle.sbx_text.specs.declared.Token.{Token}
use Rattle.v8_syntax.specs.declared.fault.SyntaxFault.{SyntaxFault}
use Rattle.sbx_directives.specs.declared.directive.Keyword.TheVariants as keywords
use Rattle.sbx_directives.specs.declared.directive.Directive.TheVariants as directives
use Rattle.sbx_directives.specs.declared.directive.Statement.TheVariants as statements
use Rattle.sbx_directives.specs.declared.fault.DataFault.{DataFault}
use Rattle.sbx_directives.specs.declared.fault.DataFault.TheVariants as data_faults
use Rattle.sbx_directives.specs.Data.{bytes_of_width}
use Rattle.sbx_asm.specs.declared.fault.AsmFault.{AsmFault}
use Rattle.sbx_asm.specs.declared.fault.Cause.{Cause}
use Rattle.sbx_asm.specs.declared.fault.Cause.TheVariants as causes
use Rattle.sbx_asm.specs.Items.{Item, Said, each, up_to, is_text, is_region, has_bytes, in_function, begins_block, ends_block}
use Rattle.sbx_asm.specs.Addresses.{Label, labels_at, values_of, section_room, code_offset, in_code}
use Rattle.sbx_asm.specs.Rules.{Values, at, when, acts, duplicates, data_rules, value_rules, block_rules, value_fault_of, syntax_fault_of, line_rules, faults_at, faults_of}
use Rattle.inspect_check.specs.Alone.{value_cause, cause_alone, with_label, optional, found_at}
use Rattle.inspect_check.specs.Laws.{IsAmong}

-- ---- lists

left : {A : Type 0} (x : A) (xs ys : List A) → IsAmong x xs → IsAmong x (xs ++ ys)
left {A = A} x xs ys h = (h.0, h.1 ++ ys, ap (λ (zs : List A). zs ++ ys) h.2 ∙ append_assoc h.0 (x ∷ h.1) ys)

right : {A : Type 0} (x : A) (xs ys : List A) → IsAmong x ys → IsAmong x (xs ++ ys)
right {A = A} x xs ys h = (xs ++ h.0, h.1, ap (λ (zs : List A). xs ++ zs) h.2 ∙ sym (append_assoc xs h.0 (x ∷ h.1)))

mapped : {A B : Type 0} (g : A → B) (x : A) (xs : List A) → IsAmong x xs → IsAmong (g x) (map g xs)
mapped g x xs h = (map g h.0, map g h.1, ap (map g) h.2 ∙ map-append g h.0 (x ∷ h.1))

first : {A : Type 0} (x : A) (xs : List A) → IsAmong x (x ∷ xs)
first x xs = ([], xs, refl)

-- the items before those that stand behind some more
abbrev behind : List Item → List Item → List Item
behind before [] = before
behind before (i ∷ is) = behind (i ∷ before) is

in_place : (gives : List Item → Item → List Item → List AsmFault) (before front after : List Item) (i : Item) (f : AsmFault)
    → IsAmong f (gives (behind before front) i after) → IsAmong f (each gives before (front ++ i ∷ after))
in_place gives before [] after i f h = left f (gives before i after) (each gives (i ∷ before) after) h
in_place gives before (j ∷ front) after i f h = right f (gives before j (front ++ i ∷ after)) (each gives (j ∷ before) (front ++ i ∷ after)) (in_place gives (j ∷ before) front after i f h)

-- ---- the rules of a line

abbrev item : ℕ → List (List ℕ) → List ℕ → List Token → Said → Item
item number labels bytes tokens s = record { number = number; labels = labels; bytes = bytes; tokens = tokens; said = s }

of_values : (o : Option DataFault) (c : Cause) → value_cause o ≡ Some c → IsAmong c (value_rules o)
of_values None c h = absurd (cc)
of_values (Some data_faults.UnknownSymbol) c h =
    let e : causes.Syntax SyntaxFault.UnknownSymbol ≡ c = cc in subst (λ (d : Cause). IsAmong d (value_rules (Some data_faults.UnknownSymbol))) e (first _ [])
of_values (Some data_faults.Malformed) c h = let e : causes.Directive ≡ c = cc in subst (λ (d : Cause). IsAmong d (value_rules (Some data_faults.Malformed))) e (first _ [])
of_values (Some (data_faults.Memory want)) c h = absurd (cc)

abbrev statement_rules : Option SyntaxFault → List Cause
statement_rules o = elim o [ None ↦ [] | Some f ↦ causes.Syntax f ∷ [] ]

of_statement : (o : Option SyntaxFault) (c : Cause) → option_map causes.Syntax o ≡ Some c → IsAmong c (statement_rules o)
of_statement None c h = absurd (cc)
of_statement (Some f) c h = let e : causes.Syntax f ≡ c = cc in subst (λ (d : Cause). IsAmong d (causes.Syntax f ∷ [])) e (first _ [])

of_malformed : (before : List Item) (c : Cause) → Some causes.Directive ≡ Some c → (rules : List Cause) → IsAmong c (rules ++ causes.Directive ∷ [])
of_malformed before c h rules = let e : causes.Directive ≡ c = cc in right c rules (causes.Directive ∷ []) (subst (λ (d : Cause). IsAmong d (causes.Directive ∷ [])) e (first _ []))

-- what a line is told for by itself is one of its rules
alone_rules : (values : Values) (before : List Item) (number : ℕ) (labels : List (List ℕ)) (bytes : List ℕ) (tokens : List Token) (s : Said) (c : Cause)
    → cause_alone values before (item number labels bytes tokens s) ≡ Some c → IsAmong c (line_rules values before (item number labels bytes tokens s) s)
alone_rules values before number labels bytes tokens (Err f) c h = let e : causes.Text f ≡ c = cc in subst (λ (d : Cause). IsAmong d (causes.Text f ∷ [])) e (first _ [])
alone_rules values before number labels bytes tokens (Ok statements.Nothing) c h = absurd (cc)
alone_rules values before number labels bytes tokens (Ok statements.Instruction) c h =
    let fault : Option SyntaxFault = syntax_fault_of values before (item number labels bytes tokens (Ok statements.Instruction)) in
    let placed : List Cause = when (not (in_code before && in_function before)) causes.Directive in
    let room : List Cause = when (not (nat_le (4 * statement_length bytes tokens) (section_room - code_offset before))) causes.Limit in
    right c placed (room ++ statement_rules fault) (right c room (statement_rules fault) (of_statement fault c h))
alone_rules values before number labels bytes tokens (Ok (statements.Malformed keywords.Block name)) c h = of_malformed before c h (block_rules before)
alone_rules values before number labels bytes tokens (Ok (statements.Malformed k name)) c h = of_malformed before c h []
alone_rules values before number labels bytes tokens (Ok (statements.Directive (directives.Values w n))) c h =
    let fault : Option DataFault = value_fault_of values (item number labels bytes tokens (Ok (statements.Directive (directives.Values w n)))) in
    right c (data_rules before (bytes_of_width w * n)) (value_rules fault) (of_values fault c h)
alone_rules values before number labels bytes tokens (Ok (statements.Directive _)) c h = absurd (cc)

-- ---- labels that stand twice

module _ (n line : ℕ) (rest : List AsmFault) where
  again_or_later : (t u : Bool) → (line == n) ≡ u → (list_any (λ (f : AsmFault). f.line == n) rest ≡ true → IsAmong (at n causes.DuplicateLabel) rest)
      → list_any (λ (f : AsmFault). f.line == n) (map (at line) (when t causes.DuplicateLabel) ++ rest) ≡ true
      → IsAmong (at n causes.DuplicateLabel) (map (at line) (when t causes.DuplicateLabel) ++ rest)
  again_or_later false u e more h = more h
  again_or_later true true e more h =
      subst (λ (k : ℕ). IsAmong (at n causes.DuplicateLabel) (at k causes.DuplicateLabel ∷ rest)) (sym (eqb-true line n e)) (first (at n causes.DuplicateLabel) rest)
  again_or_later true false e more h =
      right (at n causes.DuplicateLabel) (at line causes.DuplicateLabel ∷ []) rest (more (subst (λ (b : Bool). (b || list_any (λ (f : AsmFault). f.line == n) rest) ≡ true) e h))

repeated : (n : ℕ) (before ls : List Label) → list_any (λ (f : AsmFault). f.line == n) (duplicates before ls) ≡ true → IsAmong (at n causes.DuplicateLabel) (duplicates before ls)
repeated n before [] h = absurd (cc)
repeated n before (l ∷ ls) h =
    again_or_later n l.line (duplicates (before ++ l ∷ []) ls) (list_any (λ (m : Label). bytes_eq m.name l.name) before) (l.line == n) refl (repeated n (before ++ l ∷ []) ls) h

-- ---- what is told

given : (t : Bool) (n : ℕ) (o : Option Cause) (f : AsmFault) → optional (option_map (at n) (if t then o else None)) ≡ f ∷ [] → (c : Cause) × (o ≡ Some c) × (at n c ≡ f)
given false n o f h = absurd (cc)
given true n None f h = absurd (cc)
given true n (Some c) f h = (c, refl, cc)

inner : (a c : Cause) → Some a ≡ Some c → c ≡ a
inner a c h = cc

labelled : (again : Bool) (alone : Option Cause) (c : Cause) → with_label again alone ≡ Some c → (alone ≡ Some c) ⊎ ((again ≡ true) × (c ≡ causes.DuplicateLabel))
labelled again (Some (causes.Text f)) c h = inl h
labelled again (Some (causes.Syntax f)) c h = inl h
labelled false _ c h = inl h
labelled true _ c h = inr (refl, inner causes.DuplicateLabel c h)

module _ (line : ℕ) (front after : List Item) (i : Item) (f : AsmFault) where
  abbrev items : List Item
  items = front ++ i ∷ after

  abbrev values : Values
  values = values_of items

  abbrev repeats : List AsmFault
  repeats = duplicates [] (each labels_at [] items)

  abbrev before : List Item
  before = behind [] front

  abbrev again : Bool
  again = list_any (λ (g : AsmFault). g.line == i.number) repeats

  -- the rules of a line before and behind those of what it says
  abbrev numbered : List Cause
  numbered = when (nat_lt 1000000 i.number) causes.Limit

  abbrev others : List Cause
  others =
      when (is_region i && not (list_any has_bytes (up_to (λ j. is_text j || is_region j) after))) causes.Directive
      ++ when (begins_block before i && not (list_any (acts values) (up_to ends_block after))) causes.Directive

  abbrev own : List Cause
  own = line_rules values before i i.said

  of_line : (c : Cause) → (cause_alone values before i ≡ Some c) ⊎ ((again ≡ true) × (c ≡ causes.DuplicateLabel)) → IsAmong (at i.number c) (faults_of items)
  of_line c (inl e) =
      right (at i.number c) repeats (each (faults_at values) [] items) (in_place (faults_at values) [] front after i (at i.number c)
      (mapped (at i.number) c (numbered ++ (own ++ others))
      (right c numbered (own ++ others) (left c own others (alone_rules values before i.number i.labels i.bytes i.tokens i.said c e)))))
  of_line c (inr e) =
      left (at i.number c) repeats (each (faults_at values) [] items) (subst (λ (d : Cause). IsAmong (at i.number d) repeats) (sym e.1) (repeated i.number [] (each labels_at [] items) e.0))

  pub found_is_fault : found_at values repeats line before i after ≡ f ∷ [] → IsAmong f (faults_of items)
  found_is_fault h =
      let told = given (nat_lt line i.number) i.number (with_label again (cause_alone values before i)) f h in
      subst (λ (g : AsmFault). IsAmong g (faults_of items)) told.2 (of_line told.0 (labelled again (cause_alone values before i) told.0 told.1))
