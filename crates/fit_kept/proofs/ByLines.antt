-- Why lines stay annotated line by line, and what is left of them without their annotations.
use Rattle.std.proofs.Common.{◌≡◌, ℕ, inl, inr, Bool, true, List, [], ◌∷◌, length, refl, sym, ap, subst, ◌∙◌, arith}
use Rattle.sbx_asm.specs.Items.{lines_of}
use Rattle.std.specs.Prelude.{if◌then◌else◌}
use Rattle.fit_kept.specs.Lines.{IsAnnotated, IsKept, Takes, is_annotation, bare, without}

-- an annotation takes nothing
pub takes_annotation : (ls : List (List ℕ)) (m : List ℕ) → is_annotation m ≡ true → Takes ls m ls
unfolding Takes IsAnnotated
takes_annotation [] m is = λ ms h. (is, h)
takes_annotation (l ∷ ls) m is = λ ms h. inr (is, h)

-- a line that is kept takes the first one
pub takes_kept : (ls : List (List ℕ)) (l m : List ℕ) (others : List (List ℕ)) → ls ≡ l ∷ others → IsKept l m → Takes ls m others
unfolding Takes IsAnnotated
takes_kept ls l m others is kept = λ ms h. subst (λ (ks : List (List ℕ)). IsAnnotated ks (m ∷ ms)) (sym is) (inl (kept, h))

pub goes_on : (ls : List (List ℕ)) (m : List ℕ) (others ms ks : List (List ℕ)) → Takes ls m others → ks ≡ m ∷ ms → IsAnnotated others ms → IsAnnotated ls ks
unfolding Takes
goes_on ls m others ms ks takes is h = subst (λ (k : List (List ℕ)). IsAnnotated ls k) (sym is) (takes ms h)

pub nothing_left : (left rest : List ℕ) → length left ≡ 0 → length rest ≡ 0 → IsAnnotated (lines_of left) (lines_of rest)
unfolding IsAnnotated lines_of
nothing_left [] [] a b = tt
nothing_left (l ∷ left) rest a b = absurd (omega arith)
nothing_left [] (r ∷ rest) a b = absurd (omega arith)

abbrev taken : Bool → List ℕ → List (List ℕ) → List (List ℕ)
taken b l ls = if b then ls else l ∷ ls

-- annotations taken out of what lines are annotated, it is the lines, theirs taken out too
pub taken_out : (ls ms : List (List ℕ)) → IsAnnotated ls ms → without ms ≡ without ls
unfolding IsAnnotated without
taken_out [] [] h = refl
taken_out (l ∷ ls) [] h = absurd h
taken_out [] (m ∷ ms) h = ap (λ (b : Bool). taken b (bare m) (without ms)) h.0 ∙ taken_out [] ms h.1
taken_out (l ∷ ls) (m ∷ ms) (inl (inl e, h)) =
    ap (λ (k : List ℕ). taken (is_annotation k) (bare k) (without ms)) (sym e)
    ∙ ap (λ (ks : List (List ℕ)). taken (is_annotation l) (bare l) ks) (taken_out ls ms h)
taken_out (l ∷ ls) (m ∷ ms) (inl (inr f, h)) =
    ap (λ (b : Bool). taken b (bare m) (without ms)) f.new_stays
    ∙ ap (λ (k : List ℕ). k ∷ without ms) (sym f.same)
    ∙ ap (λ (ks : List (List ℕ)). bare l ∷ ks) (taken_out ls ms h)
    ∙ ap (λ (b : Bool). taken b (bare l) (without ls)) (sym f.old_stays)
taken_out (l ∷ ls) (m ∷ ms) (inr h) = ap (λ (b : Bool). taken b (bare m) (without ms)) h.0 ∙ taken_out (l ∷ ls) ms h.1
