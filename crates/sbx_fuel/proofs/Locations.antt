-- Only locations are ever known, wherever control comes.
use Rattle.std.proofs.Common.{◌≡◌, ℕ, zero, suc, ◌+◌, ◌-◌, Bool, true, false, List, [], ◌∷◌, ◌++◌, Some, None, refl, ap, subst, arith}
use Rattle.std.specs.Prelude.{Option, if◌then◌else◌, ◌==◌, slice_get}
use Rattle.std.specs.List.{AllByRecursion}
use Rattle.std.proofs.lemmas.Bool.Decides.{nat_tests, Decides-eqb}
use Rattle.v8_word.specs.declared.Cond.{Cond}
use Rattle.v8_word.specs.declared.Size.{Size}
use Rattle.v8_word.specs.declared.Size.TheVariants as sizes
use Rattle.v8_alu.specs.declared.Op.{Op}
use Rattle.v8_alu.specs.declared.Op.TheVariants as ops
use Rattle.v8_formats.specs.declared.instr.Branch.{Branch}
use Rattle.v8_meaning.specs.Operands.{is_always}
use Rattle.v8_meaning.specs.Transfers.{odd_of}
use Rattle.v8_meaning.specs.declared.operation.Loading.{Loading}
use Rattle.v8_meaning.specs.declared.operation.Loading.TheVariants as loadings
use Rattle.v8_meaning.specs.declared.operation.Operation.{Operation}
use Rattle.v8_meaning.specs.declared.operation.Operation.TheVariants.{Compute, Divide, TaggedTrap, SetHigh, ReadY, WriteY, Transfer, Save, Restore, Call}
use Rattle.v8_meaning.specs.declared.operation.Operation.TheVariants.{BranchOnCondition, JumpAndLink, TrapOnCondition}
use Rattle.v8_meaning.specs.declared.operation.Transfer.{Transfer as Moving}
use Rattle.v8_meaning.specs.declared.operation.Transfer.TheVariants.{Load, Store, Exchange}
use Rattle.sbx_image.specs.Cell.{Cell}
use Rattle.sbx_image.specs.Parts.{Parts}
use Rattle.sbx_image.specs.Range.{Range}
use Rattle.sbx_range.specs.Ranges.{all}
use Rattle.sbx_range.specs.Refining.{opposite, refine, refine_by_value}
use Rattle.sbx_range.specs.Rows.{byte_or_end}
use Rattle.sbx_range.specs.Table.{writes_y}
use Rattle.sbx_range.specs.declared.refining.Pair.{Pair}
use Rattle.sbx_rules.specs.Effects.{high_word, service_of}
use Rattle.sbx_rules.specs.Entry.{Entry}
use Rattle.sbx_rules.specs.Related.{Related}
use Rattle.sbx_rules.specs.Related.TheVariants.{Location, Word}
use Rattle.sbx_rules.specs.Relation.{Relation}
use Rattle.sbx_rules.specs.Relation.TheVariants.{Compared, Signs}
use Rattle.sbx_rules.specs.Known.{Known, cell_entry, is_location, plain_entry, plain_entry_of, range_at, started, with_entry}
use Rattle.sbx_rules.specs.Refining.{in_both, is_same, narrowed_at, narrowed_related, range_of_related, refined, refined_by, refined_pair, refined_signs, with_narrowed, with_pair, with_range_of}
use Rattle.sbx_rules.specs.Results.{constant_entry, entry_of_y, operand_entry, quotient_of, register_entry, result_of, tagged_of}
use Rattle.sbx_rules.specs.Transfer.{called, division_sets_codes, exchanged_range, frame_word_of, is_global, is_in, is_kept_by_calls, is_out, loaded_entry}
use Rattle.sbx_rules.specs.Transfer.{relation_of, restored, result_entry, saved, served, sets_codes, transferred, with_codes, with_loaded, with_moved}
use Rattle.sbx_rules.specs.Transfer.{with_product_y, with_stored}
use Rattle.sbx_image.specs.Order.{function_at}
use Rattle.sbx_rules.specs.Places.{callee_before, op_at}
use Rattle.sbx_rules.specs.Ways.{Visit, Way, after_call, after_visit, after_word, branch_way, cells_at, falls, state_at, taken_visit, untaken_visit, visit_if, visits_after, visits_at}
use Rattle.sbx_fuel.specs.Least.{HasOnlyLocations}

-- ---- writes

none_if : (b : Bool) (e f : Option Entry) → b ≡ false → f ≡ None → (if b then e else f) ≡ None
none_if true e f p q = absurd cc
none_if false e f p q = q

not_same : (l k : ℕ) → is_location l ≡ true → is_location k ≡ false → (k == l) ≡ false
not_same l k p q = by_test (k == l) refl
  where
    by_test : (b : Bool) → (k == l) ≡ b → (k == l) ≡ false
    by_test true e = let s : k ≡ l = (Decides-eqb k l).0 e in let t = ap is_location s in absurd cc
    by_test false e = e

by_location : (b : Bool) (x y : Known) (k : ℕ) → (b ≡ true → x.entry k ≡ None) → (b ≡ false → y.entry k ≡ None) → (if b then x else y).entry k ≡ None
by_location true x y k p q = p refl
by_location false x y k p q = q refl

written : (l : ℕ) (e : Option Entry) (d : Known) → HasOnlyLocations d → HasOnlyLocations (with_entry l e d)
unfolding with_entry
written l e d h k q = by_location (is_location l) _ d k (λ p. none_if (k == l) e (d.entry k) (not_same l k p q) (h k q)) (λ _. h k q)

codes_set : (b : Bool) (r : Option Relation) (d : Known) → HasOnlyLocations d → HasOnlyLocations (with_codes b r d)
codes_set true r d h = h
codes_set false r d h = h

product_set : (op : Op) (d : Known) → HasOnlyLocations d → HasOnlyLocations (with_product_y op d)
product_set op d h k q = by_location (writes_y op) _ d k (λ _. h k q) (λ _. h k q)

loaded : (word : Option ℕ) (loading : Loading) (rd : ℕ) (d : Known) → HasOnlyLocations d → HasOnlyLocations (with_loaded word loading rd d)
loaded word loadings.Double rd d h = written (odd_of rd) (Some (plain_entry (all 0))) (with_entry rd (Some (plain_entry (all 0))) d) (written rd (Some (plain_entry (all 0))) d h)
loaded word loadings.UnsignedByte rd d h = written rd (loaded_entry word loadings.UnsignedByte d) d h
loaded word loadings.SignedByte rd d h = written rd (loaded_entry word loadings.SignedByte d) d h
loaded word loadings.UnsignedHalf rd d h = written rd (loaded_entry word loadings.UnsignedHalf d) d h
loaded word loadings.SignedHalf rd d h = written rd (loaded_entry word loadings.SignedHalf d) d h
loaded word loadings.Word rd d h = written rd (loaded_entry word loadings.Word d) d h

stored : (word : Option ℕ) (size : Size) (rd : ℕ) (d : Known) → HasOnlyLocations d → HasOnlyLocations (with_stored word size rd d)
stored None size rd d h = h
stored (Some l) sizes.Word rd d h = written l (register_entry d rd) d h
stored (Some l) size rd d h = h

moved : (word : Option ℕ) (t : Moving) (rd : ℕ) (d : Known) → HasOnlyLocations d → HasOnlyLocations (with_moved word t rd d)
moved word (Load l) rd d h = loaded word l rd d h
moved word (Store size) rd d h = stored word size rd d h
moved word (Exchange e) rd d h = written rd (Some (plain_entry (exchanged_range e))) d h

services : (n : Option ℕ) (d : Known) → HasOnlyLocations d → HasOnlyLocations (served n d)
services None d h k q = h k q
services (Some n) d h k q = by_location (n == 1) _ d k (λ _. written 8 (Some (plain_entry byte_or_end)) d h k q) (λ _. h k q)

-- ---- windows

no_in : (k : ℕ) → is_location k ≡ false → is_in k ≡ false
no_in k q = grind (arith, nat_tests)

no_out : (k : ℕ) → is_location k ≡ false → is_out k ≡ false
no_out k q = grind (arith, nat_tests)

after_save : (d : Known) → HasOnlyLocations (saved d)
unfolding saved
after_save d k q = none_if (is_in k) (d.entry (k - 16)) None (no_in k q) refl

either_none : (b : Bool) (e f : Option Entry) → e ≡ None → f ≡ None → (if b then e else f) ≡ None
either_none true e f p q = p
either_none false e f p q = q

after_restore : (d : Known) → HasOnlyLocations d → HasOnlyLocations (restored d)
unfolding restored
after_restore d h k q =
    either_none (is_global k) (d.entry k) (if is_out k then d.entry (k + 16) else None) (h k q)
    (none_if (is_out k) (d.entry (k + 16)) None (no_out k q) refl)

after_called : (results : List Range) (d : Known) → HasOnlyLocations d → HasOnlyLocations (called results d)
unfolding called
after_called results d h k q =
    either_none (is_kept_by_calls k) (d.entry k) (result_entry results k) (h k q)
    (none_if (is_out k) (plain_entry_of (slice_get results (k - 8))) None (no_out k q) refl)

-- ---- words

locations_after : (frame : ℕ) (op : Operation) (d : Known) → HasOnlyLocations d → HasOnlyLocations (transferred frame op d)
unfolding transferred
locations_after frame (Compute op f) d h =
    let r = written f.rd (result_of op (register_entry d f.rs1) (operand_entry d f.operand2)) d h in
    product_set op _ (codes_set (sets_codes op) (relation_of op f) _ r)
locations_after frame (Divide op f) d h =
    codes_set (division_sets_codes op) None _ (written f.rd (quotient_of d.y (register_entry d f.rs1) (operand_entry d f.operand2)) d h)
locations_after frame (TaggedTrap op f) d h = written f.rd (tagged_of op (register_entry d f.rs1) (operand_entry d f.operand2)) d h
locations_after frame (SetHigh f) d h = written f.rd (Some (constant_entry (high_word f))) d h
locations_after frame (ReadY rd) d h = written rd (entry_of_y d.y) d h
locations_after frame (WriteY f) d h = h
locations_after frame (Transfer t m) d h = moved (frame_word_of frame m) t m.rd d h
locations_after frame (Save f) d h = after_save d
locations_after frame (Restore f) d h = written f.rd (result_of ops.Add (register_entry d f.rs1) (operand_entry d f.operand2)) (restored d) (after_restore d h)
locations_after frame (Call displacement) d h = written 15 None d h
locations_after frame (TrapOnCondition t) d h = services (service_of t) d h
locations_after frame _ d h = h

-- ---- branches

narrowed_none : (r : Range) (e : Option Entry) → e ≡ None → with_range_of r e ≡ None
narrowed_none r None p = refl
narrowed_none r (Some e) p = absurd cc

narrowed : (l : ℕ) (r : Range) (d : Known) → HasOnlyLocations d → HasOnlyLocations (narrowed_at l r d)
unfolding narrowed_at
narrowed l r d h k q = either_none (k == l) (with_range_of r (d.entry k)) (d.entry k) (narrowed_none r (d.entry k) (h k q)) (h k q)

narrowed_one : (x : Related) (r : Range) (d : Known) → HasOnlyLocations d → HasOnlyLocations (narrowed_related x r d)
narrowed_one (Location l) r d h = narrowed l r d h
narrowed_one (Word w) r d h = h

abbrev HasOnly : Option Known → Type 0
HasOnly None = Unit {0}
HasOnly (Some d) = HasOnlyLocations d

paired : (x y : Related) (d : Known) (p : Option Pair) → HasOnlyLocations d → HasOnly (with_pair x y d p)
paired x y d None h = tt
paired x y d (Some p) h = narrowed_one x p.left (narrowed_related y p.right d) (narrowed_one y p.right d h)

compared : (c : Cond) (x y : Related) (a b : Option Range) (d : Known) → HasOnlyLocations d → HasOnly (refined_pair c x y a b d)
compared c x y (Some a) (Some b) d h = paired x y d (in_both (is_same x y) (refine c a b)) h
compared c x y (Some a) None d h = h
compared c x y None b d h = h

signed_one : (l : ℕ) (d : Known) (r : Option Range) → HasOnlyLocations d → HasOnly (with_narrowed l d r)
signed_one l d None h = tt
signed_one l d (Some r) h = narrowed l r d h

signs : (c : Cond) (l : ℕ) (a : Option Range) (d : Known) → HasOnlyLocations d → HasOnly (refined_signs c l a d)
signs c l (Some a) d h = signed_one l d (refine_by_value c a) h
signs c l None d h = h

refined_with : (c : Cond) (r : Option Relation) (d : Known) → HasOnlyLocations d → HasOnly (refined_by c r d)
refined_with c None d h = h
refined_with c (Some (Compared x y)) d h = compared c x y (range_of_related d x) (range_of_related d y) d h
refined_with c (Some (Signs l)) d h = signs c l (range_at d l) d h

branched : (c : Cond) (d : Known) → HasOnlyLocations d → HasOnly (refined c d)
unfolding refined
branched c d h = refined_with c d.relation d h

-- ---- places

at_start : (cells : List Cell) → HasOnlyLocations (started cells)
unfolding started
at_start cells k q = none_if (is_location k) (cell_entry cells k) None q refl

back_from : (parts : Parts) (g : Option ℕ) (d : Known) → HasOnlyLocations d → HasOnlyLocations (after_call parts g d)
back_from parts None d h = h
back_from parts (Some g) d h = after_called (function_at parts g).results d h

word_done : (parts : Parts) (f b i : ℕ) (d : Known) → HasOnlyLocations d → HasOnlyLocations (after_word parts f b i d)
word_done parts f b i d h = back_from parts (callee_before parts f b i) _ (locations_after (function_at parts f).frame (op_at parts f b i) d h)

pub states_have_locations : (parts : Parts) (f b i : ℕ) → HasOnlyLocations (state_at parts f b i)
unfolding state_at
states_have_locations parts f b zero = at_start (cells_at parts f b)
states_have_locations parts f b (suc i) = word_done parts f b i (state_at parts f b i) (states_have_locations parts f b i)

abbrev AreOnly : List Visit → Type 0
AreOnly visits = AllByRecursion (λ v. HasOnlyLocations v.known) visits

joined : (vs ws : List Visit) → AreOnly vs → AreOnly ws → AreOnly (vs ++ ws)
joined [] ws h k = k
joined (v ∷ vs) ws h k = (h.0, joined vs ws h.1 k)

visited : (o : Option Known) (way : Way) (annulled : Bool) → HasOnly o → AreOnly (visit_if o way annulled)
visited None way annulled h = tt
visited (Some d) way annulled h = (h, tt)

untaken : (c : Branch) (way : Way) (d : Known) → HasOnlyLocations d → AreOnly (untaken_visit c way d)
untaken c way d h = by_test (is_always c.cond)
  where
    by_test : (b : Bool) → AreOnly (if b then [] else visit_if (refined (opposite c.cond) d) way c.annul)
    by_test true = tt
    by_test false = visited (refined (opposite c.cond) d) way c.annul (branched (opposite c.cond) d h)

visits_on : (parts : Parts) (f b i : ℕ) (op : Operation) (here there : Known) → HasOnlyLocations here → HasOnlyLocations there → AreOnly (visits_after parts f b i op here there)
visits_on parts f b i (BranchOnCondition c) here there h k =
    joined (taken_visit c (branch_way parts f b i c.displacement) here) (untaken_visit c (falls parts f b (suc i)) here)
    (visited (refined c.cond here) (branch_way parts f b i c.displacement) _ (branched c.cond here h)) (untaken c (falls parts f b (suc i)) here h)
visits_on parts f b i (JumpAndLink j) here there h k = (k, tt)
visits_on parts f b i _ here there h k = (k, tt)

all_visits : (parts : Parts) (f b i : ℕ) → AreOnly (visits_at parts f b i)
unfolding visits_at
all_visits parts f b zero = (states_have_locations parts f b 0, tt)
all_visits parts f b (suc i) =
    visits_on parts f b i (op_at parts f b i) (state_at parts f b i) (state_at parts f b (suc i)) (states_have_locations parts f b i)
    (states_have_locations parts f b (suc i))

one_of : (visits : List Visit) (k : ℕ) (v : Visit) → AreOnly visits → slice_get visits k ≡ Some v → HasOnlyLocations v.known
one_of [] k v h e = absurd cc
one_of (w ∷ ws) zero v h e = subst (λ (u : Visit). HasOnlyLocations u.known) (let s : w ≡ v = cc in s) h.0
one_of (w ∷ ws) (suc k) v h e = one_of ws k v h.1 e

-- what is known before a word on one of its ways
pub visits_have_locations : (parts : Parts) (f b i : ℕ) (v : Visit) (k : ℕ) → slice_get (visits_at parts f b i) k ≡ Some v → HasOnlyLocations v.known
visits_have_locations parts f b i v k e = one_of (visits_at parts f b i) k v (all_visits parts f b i) e

-- what is known after it
pub after_has_locations : (parts : Parts) (f b i : ℕ) (v : Visit) → HasOnlyLocations v.known → HasOnlyLocations (after_visit parts f b i v)
after_has_locations parts f b i v h k q = by_location v.annulled v.known (after_word parts f b i v.known) k (λ _. h k q) (λ _. word_done parts f b i v.known h k q)
