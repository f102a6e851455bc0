-- Before the first `.data` or `.region` of lines without faults no line gives data.
use Rattle.std.proofs.Common.{◌≡◌, ℕ, ◌+◌, ◌*◌, Bool, true, false, List, [], ◌∷◌, Ok, Err, refl, sym, ap, ◌∙◌, arith}
use Rattle.std.specs.Prelude.{◌||◌, if◌then◌else◌}
use Rattle.std.specs.List.{list_any}
use Rattle.std.specs.Result.{result_err}
use Rattle.sbx_text.specs.declared.Token.{Token}
use Rattle.sbx_directives.specs.declared.directive.Directive.TheVariants as directives
use Rattle.sbx_directives.specs.declared.directive.Statement.TheVariants as statements
use Rattle.sbx_directives.specs.Data.{data_of, bytes_of_width}
use Rattle.sbx_asm.specs.declared.fault.Cause.TheVariants as causes
use Rattle.sbx_asm.specs.Rules.{Values, when, data_rules, value_rules, line_rules}
use Rattle.sbx_asm.specs.Items.{Item, Said, is_data, is_region, is_text}
use Rattle.sbx_asm.specs.Addresses.{data_length, data_offset, in_code}
use Rattle.sbx_asm.proofs.Views.{item, up_to_room}
use Rattle.sbx_asm.proofs.Nils.{cons_nil, nil_left}

abbrev pub Unfilled : List Item → Type 0
Unfilled before = list_any is_region before ≡ false → list_any is_data before ≡ false → data_offset before ≡ 0

pub or_left : (a b : Bool) → (a || b) ≡ false → a ≡ false
or_left true b h = h
or_left false b h = refl

pub or_right : (a b : Bool) → (a || b) ≡ false → b ≡ false
or_right true b h = absurd (cc)
or_right false b h = h

pub stays_out : (text data_line region : Bool) (x : Bool) → region ≡ false → data_line ≡ false → x ≡ true → (if text then true else (if data_line || region then false else x)) ≡ true
stays_out true data_line region x h k e = refl
stays_out false data_line region x h k e = (λ j. if k j || h j then false else x) ∙ e

-- the code is the section that a source begins with
code_yet : (before : List Item) → list_any is_region before ≡ false → list_any is_data before ≡ false → in_code before ≡ true
code_yet [] r d = refl
code_yet (i ∷ before) r d =
    stays_out (is_text i) (is_data i) (is_region i) (in_code before) (or_left (is_region i) (list_any is_region before) r) (or_left (is_data i) (list_any is_data before) d)
    (code_yet before (or_right (is_region i) (list_any is_region before) r) (or_right (is_data i) (list_any is_data before) d))

module _ (values : Values) where
  -- data in the code have a fault, so a line there gives none
  none_given : (before : List Item) (number : ℕ) (labels : List (List ℕ)) (bytes : List ℕ) (tokens : List Token) (s : Said)
      → in_code before ≡ true → line_rules values before (item number labels bytes tokens s) s ≡ [] → data_length (data_offset before) s ≡ 0
  none_given before number labels bytes tokens (Ok (statements.Directive (directives.Values w n))) e clean =
      cons_nil (sym (ap (λ (x : Bool). when x causes.Directive) e)
      ∙ nil_left (when (in_code before) causes.Directive) _
      (nil_left (data_rules before (bytes_of_width w * n)) (value_rules (result_err (data_of values bytes w tokens))) clean))
  none_given before number labels bytes tokens (Ok (statements.Directive (directives.Skip n))) e clean =
      cons_nil (sym (ap (λ (x : Bool). when x causes.Directive) e) ∙ nil_left (when (in_code before) causes.Directive) _ clean)
  none_given before number labels bytes tokens (Ok (statements.Directive (directives.Align n))) e clean =
      cons_nil (sym (ap (λ (x : Bool). when x causes.Directive) e) ∙ nil_left (when (in_code before) causes.Directive) _ clean)
  none_given before number labels bytes tokens (Ok (statements.Directive _)) e clean = refl
  none_given before number labels bytes tokens (Ok _) e clean = refl
  none_given before number labels bytes tokens (Err f) e clean = refl

  pub unfilled_more : (before : List Item) (i : Item) → line_rules values before i i.said ≡ [] → Unfilled before → Unfilled (i ∷ before)
  unfilled_more before i mine so_far r d =
      let r_before = or_right (is_region i) (list_any is_region before) r in
      let d_before = or_right (is_data i) (list_any is_data before) d in
      let none : data_offset before ≡ 0 = so_far r_before d_before in
      let given : data_length (data_offset before) i.said ≡ 0 = none_given before i.number i.labels i.bytes i.tokens i.said (code_yet before r_before d_before) mine in
      ap (λ (t : Bool). if t then 0 else up_to_room (data_offset before + data_length (data_offset before) i.said)) (or_left (is_region i) (list_any is_region before) r)
      ∙ (omega (arith, none, given))
