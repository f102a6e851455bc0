-- The causes of a line that are noted one after the other are its faults.
use Rattle.std.proofs.Common.{◌≡◌, ℕ, ◌+◌, Bool, true, false, List, [], ◌∷◌, ◌++◌, map, Option, refl, sym, ap, ◌∙◌, append_assoc, arith}
use Rattle.std.specs.Prelude.{min, not, ◌&&◌, ◌||◌, nat_lt, if◌then◌else◌}
use Rattle.std.specs.List.{fold, list_any}
use Rattle.std.proofs.lemmas.Bool.{ltb-true, ltb-false}
use Rattle.std.proofs.lemmas.List.{map-append}
use Rattle.sbx_asm.specs.declared.fault.AsmFault.{AsmFault}
use Rattle.sbx_asm.specs.declared.fault.Cause.{Cause}
use Rattle.sbx_asm.specs.declared.fault.Cause.TheVariants as causes
use Rattle.sbx_asm.specs.declared.notes.Notes.{Notes}
use Rattle.sbx_asm.specs.Rules.{at, told, Values, when, acts, line_rules, faults_at}
use Rattle.sbx_asm.specs.Items.{Item, count, up_to, is_region, has_bytes, ends_block, begins_block}
use Rattle.sbx_asm.specs.Kept.{noted}
use Rattle.sbx_asm.proofs.Views.{leaves_region}
use Rattle.std.proofs.lemmas.List.Sums.{fold-append}

noted_more : (n : Notes) (xs ys : List Cause) → noted ys (noted xs n) ≡ noted (xs ++ ys) n
noted_more n xs ys =
    ap (λ (o : Option AsmFault). let m : Notes = record { line = n.line; fault = o } in m)
    (sym (fold-append told n.fault (map (at n.line) xs) (map (at n.line) ys)) ∙ ap (fold told n.fault) (sym (map-append (at n.line) xs ys)))

module _ (n : Notes) (xs ys zs ws : List Cause) where
  four : noted ws (noted zs (noted ys (noted xs n))) ≡ noted (xs ++ (ys ++ (zs ++ ws))) n
  four =
      ap (λ (m : Notes). noted ws (noted zs m)) (noted_more n xs ys)
      ∙ ap (noted ws) (noted_more n (xs ++ ys) zs)
      ∙ noted_more n ((xs ++ ys) ++ zs) ws
      ∙ ap (λ (cs : List Cause). noted cs n) (append_assoc (xs ++ ys) zs ws ∙ append_assoc xs ys (zs ++ ws))

module _ (values : Values) (before : List Item) (i : Item) (after : List Item) (f : Option AsmFault) (first last : Notes) (empty idle : Bool) where
  pub all_noted : first ≡ noted (line_rules values before i i.said) (noted (when (nat_lt 1000000 i.number) causes.Limit) (record { line = i.number; fault = f }))
      → empty ≡ (is_region i && not (list_any has_bytes (up_to leaves_region after))) → idle ≡ (begins_block before i && not (list_any (acts values) (up_to ends_block after)))
      → last ≡ noted (when idle causes.Directive) (noted (when empty causes.Directive) first) → last.fault ≡ fold told f (faults_at values before i after)
  all_noted rules e d l =
      ap (λ (m : Notes). m.fault)
      (l
      ∙ (λ j. noted (when (d j) causes.Directive) (noted (when (e j) causes.Directive) (rules j)))
      ∙ four (record { line = i.number; fault = f }) (when (nat_lt 1000000 i.number) causes.Limit) (line_rules values before i i.said)
      (when (is_region i && not (list_any has_bytes (up_to leaves_region after))) causes.Directive)
      (when (begins_block before i && not (list_any (acts values) (up_to ends_block after))) causes.Directive))

-- ---- a count up to eight

up_to_eight : (n : ℕ) (s t : Bool) → nat_lt 0 (min 8 n) ≡ s → nat_lt 0 n ≡ t → s ≡ t
up_to_eight n true true p q = refl
up_to_eight n false false p q = refl
up_to_eight n true false p q = let k = ltb-true 0 (min 8 n) p in let l = ltb-false 0 n q in absurd (omega arith)
up_to_eight n false true p q = let k = ltb-false 0 (min 8 n) p in let l = ltb-true 0 n q in absurd (omega arith)

one_more : (n : ℕ) (t : Bool) → nat_lt 0 (n + 1) ≡ t → t ≡ true
one_more n true e = refl
one_more n false e = let k = ltb-false 0 (n + 1) e in absurd (omega arith)

some_of : (test : Item → Bool) (is : List Item) → nat_lt 0 (count test is) ≡ list_any test is
some_of test [] = refl
some_of test (i ∷ is) = by (some_of test is) (test i)
  where
    by : nat_lt 0 (count test is) ≡ list_any test is → (t : Bool) → nat_lt 0 (if t then count test is + 1 else count test is) ≡ (t || list_any test is)
    by more true = one_more (count test is) (nat_lt 0 (count test is + 1)) refl
    by more false = more

-- whether there are some
pub some_counted : (test : Item → Bool) (is : List Item) → nat_lt 0 (min 8 (count test is)) ≡ list_any test is
some_counted test is = up_to_eight (count test is) (nat_lt 0 (min 8 (count test is))) (nat_lt 0 (count test is)) refl refl ∙ some_of test is
