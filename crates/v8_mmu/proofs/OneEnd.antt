-- A walk has one end.
use Rattle.std.proofs.Common.{◌≡◌, ℕ, zero, suc, ◌+◌, ◌%◌, ◌≤◌, List, Option, Some, None, IsSomeAnd, Result, Ok, Err, sym, ap, ◌∙◌, subst, arith}
use Rattle.std.specs.Prelude.{slice_index}
use Rattle.v8_mmu.specs.Ram.{entry_of}
use Rattle.v8_mmu.specs.Paths.{LeadsDown, LeadsTo, LeadsNowhere, Names, Translates, Faults, named_place, physical, last_place}
use Rattle.v8_mmu.specs.Walked.{Page, Target, Missed, target_of, page_of}
use Rattle.v8_mmu.specs.Laws.{SamePath}
use Rattle.v8_mmu.specs.declared.access.Access.{Access}
use Rattle.v8_mmu.specs.declared.translation.Found.{Found}
use Rattle.v8_mmu.specs.declared.translation.MmuFault.{MmuFault}
use Rattle.v8_mmu.proofs.WalkedIs.{some_of, leads_to_target, nowhere_no_target, translates_walked, faults_walked}

page_in : Target → Result Target Missed → Page
page_in r (Ok q) = q.page
page_in r (Err e) = r.page

fault_in : MmuFault → Result Page MmuFault → MmuFault
fault_in e (Ok q) = e
fault_in e (Err d) = d

-- the page that an address leads to, with the word of its entry
has_target : (ram : List ℕ) (root va : ℕ) (f : Found) → LeadsTo ram root va f → (w : ℕ) × (target_of ram root va ≡ Ok (record { page = page_of f; word = w }))
has_target ram root va f t =
    let word = some_of (entry_of ram (last_place f)) (λ w. (w % 4 ≡ 2) × (f.pa ≡ physical w f.level va)) t.page in
    (word.0, leads_to_target ram root va word.0 f t word.1)

same_page : (ram : List ℕ) (root va : ℕ) (f g : Found) → LeadsTo ram root va f → LeadsTo ram root va g → page_of f ≡ page_of g
unfolding page_in
same_page ram root va f g s t =
    let one = has_target ram root va f s in
    let two = has_target ram root va g t in
    ap (page_in (record { page = page_of f; word = 0 })) (sym one.1 ∙ two.1)

names_same : (o : Option ℕ) (va k x y : ℕ) → IsSomeAnd o (λ w. (w % 4 ≡ 1) × (x ≡ named_place va k w)) → IsSomeAnd o (λ w. (w % 4 ≡ 1) × (y ≡ named_place va k w)) → x ≡ y
names_same None va k x y h i = absurd h
names_same (Some w) va k x y h i = h.1 ∙ sym i.1

-- two ways down agree as far as both go
places_same : (ram : List ℕ) (root va l m : ℕ) (ps qs : List ℕ) → LeadsDown ram root va l ps → LeadsDown ram root va m qs → (k : ℕ) → k ≤ l → k ≤ m → slice_index ps k ≡ slice_index qs k
places_same ram root va l m ps qs p q zero h i = p.first ∙ sym q.first
places_same ram root va l m ps qs p q (suc k) h i =
    let same = places_same ram root va l m ps qs p q k (omega arith) (omega arith) in
    let there : Names ram va k (slice_index ps k) (slice_index qs (k + 1)) = rw same (q.each k (omega arith)) in
    let e : slice_index ps (k + 1) ≡ slice_index qs (k + 1) = names_same (entry_of ram (slice_index ps k)) va k (slice_index ps (k + 1)) (slice_index qs (k + 1)) (p.each k (omega arith)) there in
    let s : k + 1 ≡ suc k = omega arith in
    ap (λ j. slice_index ps j) (sym s) ∙ e ∙ ap (λ j. slice_index qs j) s

pub one_page : (ram : List ℕ) (root va : ℕ) (f g : Found) → LeadsTo ram root va f → LeadsTo ram root va g → SamePath f g
one_page ram root va f g s t =
    let same = same_page ram root va f g s t in
    let level : f.level ≡ g.level = ap (λ (p : Page). p.level) same in
    record {
      pa = ap (λ (p : Page). p.pa) same;
      level = level;
      places = λ k h. places_same ram root va f.level g.level f.places g.places s.down t.down k h (subst (λ l. k ≤ l) level h);
    }

apart_ends : (r : Target) (m : Missed) → Ok r ≡ Err m → ⊥
apart_ends r m same = cc

pub no_end_on_path : (ram : List ℕ) (root va ft level : ℕ) (f : Found) → LeadsTo ram root va f → LeadsNowhere ram root va ft level → ⊥
no_end_on_path ram root va ft level f s n =
    let found = has_target ram root va f s in
    apart_ends (record { page = page_of f; word = found.0 }) (record { ft = ft; level = level }) (sym found.1 ∙ nowhere_no_target ram root va ft level n)

pub one_path : (ram : List ℕ) (root va : ℕ) (a : Access) (f g : Found) → Translates ram root va a f → Translates ram root va a g → SamePath f g
one_path ram root va a f g s t = one_page ram root va f g s.path t.path

pub one_fault : (ram : List ℕ) (root va : ℕ) (a : Access) (d e : MmuFault) → Faults ram root va a d → Faults ram root va a e → d ≡ e
unfolding fault_in
one_fault ram root va a d e s t = ap (fault_in d) (sym (faults_walked ram root va a d s) ∙ faults_walked ram root va a e t)

pub no_fault_on_path : (ram : List ℕ) (root va : ℕ) (a : Access) (f : Found) (e : MmuFault) → Translates ram root va a f → Faults ram root va a e → ⊥
no_fault_on_path ram root va a f e s t =
    let bad : Ok (page_of f) ≡ Err e = sym (translates_walked ram root va a f s) ∙ faults_walked ram root va a e t in
    cc
