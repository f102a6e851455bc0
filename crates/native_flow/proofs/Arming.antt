-- The arms of a return, a site after the other; and the one of each call.
use Rattle.std.proofs.Common.{◌≡◌, ℕ, zero, suc, ◌+◌, ◌<◌, ◌≤◌, Bool, true, false, List, [], ◌∷◌, ◌++◌, length, get_or, drop, Option, Some, refl, sym, ap, ◌∙◌, append_assoc, arith}
use Rattle.std.specs.Prelude.{◌==◌, if◌then◌else◌, slice_get}
use Rattle.std.proofs.lemmas.Bool.Decides.{nat_tests}
use Rattle.std.proofs.lemmas.List.{append-nil, drop_all, drop_more}
use Rattle.v8_meaning.specs.Operands.{target}
use Rattle.v8_meaning.specs.declared.operation.Operation.TheVariants.{Call}
use Rattle.sbx_image.specs.Parts.{Parts}
use Rattle.native_lang.specs.Arms.{arm_of}
use Rattle.native_lang.specs.declared.program.Arm.{Arm}
use Rattle.native_ends.specs.Translations.{AsksFor, behind}
use Rattle.native_flow.specs.Labelling.{HasCalls, label_at}
use Rattle.native_flow.specs.Returning.{arms_for}
use Rattle.native_flow.specs.declared.labels.Site.{Site}

abbrev arm_at : List ℕ → Site → Arm
arm_at starts site = record { word = site.address; label = label_at starts (behind site.address) }

-- ---- one site more

by_entry : (b : Bool) (arm : Arm) (rest : List Arm) → b ≡ true → (if b then arm ∷ rest else rest) ≡ arm ∷ rest
by_entry true arm rest e = refl
by_entry false arm rest e = absurd (cc)

by_other : (b : Bool) (arm : Arm) (rest : List Arm) → b ≡ false → (if b then arm ∷ rest else rest) ≡ rest
by_other false arm rest e = refl
by_other true arm rest e = absurd (cc)

module _ (starts : List ℕ) (entry : ℕ) (sites : List Site) (i : ℕ) where
  ahead : (site : Site) → i < length sites → site ≡ get_or sites i site → drop i sites ≡ site ∷ drop (i + 1) sites
  ahead site lt is = drop_more sites i site lt ∙ ap (λ (x : Site). x ∷ drop (i + 1) sites) (sym is)

  pub one_arm : (site : Site) (old new : List Arm) (label : ℕ) → i < length sites → site ≡ get_or sites i site → (site.entry == entry) ≡ true → label ≡ label_at starts (behind site.address)
      → new ≡ old ++ (record { word = site.address; label = label }) ∷ [] → old ++ arms_for starts entry (drop i sites) ≡ arms_for starts entry sites
      → new ++ arms_for starts entry (drop (i + 1) sites) ≡ arms_for starts entry sites
  one_arm site old new label lt is same at pushed so_far =
      let rest = arms_for starts entry (drop (i + 1) sites) in
      ap (λ (l : List Arm). l ++ rest) (pushed ∙ ap (λ (x : ℕ). old ++ (record { word = site.address; label = x }) ∷ []) at)
      ∙ append_assoc old (arm_at starts site ∷ []) rest
      ∙ ap (λ (l : List Arm). old ++ l) (sym (ap (arms_for starts entry) (ahead site lt is) ∙ by_entry (site.entry == entry) (arm_at starts site) rest same)) ∙ so_far

  pub no_arm : (site : Site) (old : List Arm) → i < length sites → site ≡ get_or sites i site → (site.entry == entry) ≡ false
      → old ++ arms_for starts entry (drop i sites) ≡ arms_for starts entry sites → old ++ arms_for starts entry (drop (i + 1) sites) ≡ arms_for starts entry sites
  no_arm site old lt is other so_far =
      let rest = arms_for starts entry (drop (i + 1) sites) in
      ap (λ (l : List Arm). old ++ l) (sym (ap (arms_for starts entry) (ahead site lt is) ∙ by_other (site.entry == entry) (arm_at starts site) rest other)) ∙ so_far

  pub all_arms : (arms : List Arm) → length sites ≤ i → arms ++ arms_for starts entry (drop i sites) ≡ arms_for starts entry sites → arms ≡ arms_for starts entry sites
  all_arms arms done so_far = sym (append-nil arms) ∙ ap (λ (l : List Site). arms ++ arms_for starts entry l) (sym (drop_all i sites done)) ∙ so_far

-- ---- the arm of a call

one_site : (a b : Site) → Some a ≡ Some b → a ≡ b
one_site a b e = cc

module _ (starts : List ℕ) (entry a : ℕ) where
  wanted : Option ℕ
  wanted = Some (label_at starts (behind a))

  by_word : (b : Bool) (site : Site) (rest : List Arm) → (site.address == a) ≡ b → (b ≡ false → arm_of rest a ≡ Some (label_at starts (behind a))) →
      arm_of (arm_at starts site ∷ rest) a ≡ Some (label_at starts (behind a))
  by_word true site rest e other =
      let same : site.address ≡ a = grind (arith, nat_tests) in
      ap (λ (t : Bool). if t then Some (label_at starts (behind site.address)) else arm_of rest a) e ∙ ap (λ (x : ℕ). Some (label_at starts (behind x))) same
  by_word false site rest e other = ap (λ (t : Bool). if t then Some (label_at starts (behind site.address)) else arm_of rest a) e ∙ other refl

  with_arm : (b : Bool) (site : Site) (rest : List Arm) → arm_of rest a ≡ Some (label_at starts (behind a)) → arm_of (if b then arm_at starts site ∷ rest else rest) a ≡ Some (label_at starts (behind a))
  with_arm true site rest h = by_word (site.address == a) site rest refl (λ e. h)
  with_arm false site rest h = h

  pub arm_there : (sites : List Site) (i : ℕ) (site : Site) → slice_get sites i ≡ Some site → site.address ≡ a → site.entry ≡ entry →
      arm_of (arms_for starts entry sites) a ≡ Some (label_at starts (behind a))
  arm_there [] i site e at same = absurd (cc)
  arm_there (x ∷ sites) zero site e at same =
      let is = one_site x site e in
      let found : (x.entry == entry) ≡ true = (let y : x.entry ≡ entry = ap (λ (s : Site). s.entry) is ∙ same in grind (arith, nat_tests)) in
      let here : (x.address == a) ≡ true = (let y : x.address ≡ a = ap (λ (s : Site). s.address) is ∙ at in grind (arith, nat_tests)) in
      ap (λ (l : List Arm). arm_of l a) (by_entry (x.entry == entry) (arm_at starts x) (arms_for starts entry sites) found)
      ∙ by_word true x (arms_for starts entry sites) here (λ f. absurd (cc))
  arm_there (x ∷ sites) (suc i) site e at same = with_arm (x.entry == entry) x (arms_for starts entry sites) (arm_there sites i site e at same)

pub has_arm : (starts : List ℕ) (sites : List Site) (entry : ℕ) (arms : List Arm) → arms ≡ arms_for starts entry sites → (parts : Parts) (a displacement : ℕ) → HasCalls parts sites →
    AsksFor parts a (Call displacement) → target a displacement ≡ entry → arm_of arms a ≡ Some (label_at starts (behind a))
has_arm starts sites entry arms is parts a displacement calls asks callee =
    let site = calls a displacement asks in
    ap (λ (l : List Arm). arm_of l a) is ∙ arm_there starts entry a sites site.0 (record { address = a; entry = target a displacement }) site.1 refl callee
