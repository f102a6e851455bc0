-- The text of an instruction is read as that instruction.
use Rattle.std.proofs.Common.{◌≡◌, ℕ, ◌+◌, ◌<◌, ◌≤◌, Bool, true, false, cond, List, [], ◌∷◌, ◌++◌, length, refl, ap, subst, ◌∙◌, arith, Some, Option, None, Result, Ok, Err}
use Rattle.std.specs.Prelude.{◌≢◌, codes}
use Rattle.std.specs.Str.{bytes_eq}
use Rattle.std.proofs.lemmas.Bool.{false≢true, le-ltb}
use Rattle.std.proofs.lemmas.List.{length-append}
use Rattle.sbx_text.specs.declared.Token.{Token}
use Rattle.sbx_text.specs.declared.Kind.TheVariants as kinds
use Rattle.sbx_text.specs.declared.fault.TextFault.TheVariants.{LineTooLong}
use Rattle.sbx_text.specs.Tokens.{tokens_at}
use Rattle.v8_formats.specs.declared.instr.Instr.{Instr}
use Rattle.v8_formats.specs.Spelling.{spelling}
use Rattle.v8_formats.specs.Table.{meaning}
use Rattle.v8_formats.proofs.TableOk.{meaning-spelling}
use Rattle.v8_syntax.specs.declared.fault.SyntaxFault.{SyntaxFault}
use Rattle.v8_syntax.specs.declared.fault.SyntaxFault.TheVariants.{UnknownMnemonic}
use Rattle.v8_forms.specs.Forms.{Form, forms}
use Rattle.v8_forms.specs.Text.{native_of, operands_text, shown, suffix_text, text_of}
use Rattle.v8_syntax.specs.Statements.{statement_token, statement_tokens, ◌>>=◌, first_of, named_meaning, set, source_meaning}
use Rattle.v8_rereading.specs.Laws.{IsReadAs, ReadsEachTextBack}
use Rattle.v8_rereading.proofs.Bytes.{is_name, name_front}
use Rattle.v8_rereading.proofs.Covered.{has_form}
use Rattle.v8_rereading.proofs.Hearing.{between, token_scanned}
use Rattle.v8_rereading.proofs.Names.{Found, first_is, native_found}
use Rattle.v8_rereading.proofs.Parts.{Operands, operands_told}

name_not_empty : (text : List ℕ) → is_name text ≡ true → 0 < length text
name_not_empty [] h = absurd (false≢true h)
name_not_empty (b ∷ text) h = omega arith

no_set_meaning : (t : Bool) (r : Result (List Instr) SyntaxFault) (m : Result ℕ SyntaxFault) (w : ℕ) → t ≡ false → m ≡ Ok w → cond t r (m >>= λ n. Ok (meaning n ∷ [])) ≡ Ok (meaning w ∷ [])
no_set_meaning true r m w e h = absurd (cc)
no_set_meaning false r m w e h = ap (λ x. x >>= λ n. Ok (meaning n ∷ [])) h

module _ (f : Form) (w : ℕ) (found : native_of w ≡ Some f) (known : Found f w) (told : Operands f.parts w) where
  name : List ℕ
  name = f.name ++ suffix_text f.conditional w

  spoken_at : (ts : List Token) (values_of : List ℕ → Option ℕ) (here at : ℕ) → statement_tokens (name ++ operands_text f.parts w) ts ≡ told.said at
      → source_meaning values_of here (name ++ operands_text f.parts w) (record { kind = kinds.Name; start = 0; stop = 0 + length name } ∷ ts) ≡ Ok (meaning w ∷ [])
  unfolding name named_meaning statement_token
  spoken_at ts values_of here at e =
      let line : List ℕ = name ++ operands_text f.parts w in
      ap (λ n. named_meaning values_of here line n (statement_tokens line ts)) (between line [] name (operands_text f.parts w) 0 refl refl)
      ∙ ap (named_meaning values_of here line name) e
      ∙ no_set_meaning (bytes_eq name (codes "set")) (set values_of line (told.said at)) (first_of values_of here line UnknownMnemonic forms name (told.said at)) w known.no_set
      (first_is values_of here line (told.said at) f w name found known (told.reads values_of here line at) refl (λ ks s. told.refuses ks s values_of here line at))

  spoken : IsReadAs (name ++ operands_text f.parts w) (meaning w)
  unfolding name
  spoken =
      let l = length-append name (operands_text f.parts w) in
      let few = told.heard.short in
      let short = known.short in
      let fits : length (name ++ operands_text f.parts w) ≤ 1024 = omega arith in
      let scanned = token_scanned kinds.Name name (operands_text f.parts w) told.heard.marks (name_front name (operands_text f.parts w) known.is_named told.stops)
      (name_not_empty name known.is_named) told.heard.scanned (length (name ++ operands_text f.parts w)) 0 (omega arith) in (
        record { kind = kinds.Name; start = 0; stop = 0 + length name } ∷ told.heard.marks (0 + length name),
        ap (λ t. cond t (Err LineTooLong) (tokens_at (length (name ++ operands_text f.parts w)) 0 (name ++ operands_text f.parts w)))
            (le-ltb 1024 (length (name ++ operands_text f.parts w)) fits) ∙ scanned,
        λ values_of here. spoken_at (told.heard.marks (0 + length name)) values_of here (0 + length name)
            (told.heard.said (name ++ operands_text f.parts w) name (0 + length name) refl (omega arith)),
      )

by_form : (i : Instr) (w : ℕ) (o : Option Form) → native_of w ≡ o → o ≢ None → meaning w ≡ i → IsReadAs (shown o w) i
unfolding name
by_form i w None e some is = absurd (some refl)
by_form i w (Some f) e some is =
    let known = native_found w f e in
    subst (IsReadAs (shown (Some f) w)) is (spoken f w e known (operands_told f.parts w known.prints))

pub each_back : ReadsEachTextBack
unfolding text_of
each_back w h some = by_form (meaning w) (spelling (meaning w)) (native_of (spelling (meaning w))) refl (has_form w h some) (meaning-spelling w h)
