-- The detached slots so far.
use Rattle.std.proofs.Common.{◌≡◌, ℕ, zero, suc, ◌+◌, Bool, true, false, List, [], ◌∷◌, ◌++◌, length, Result, Ok, Err, Option, Some, None, refl, sym, ap, ◌∙◌, subst, arith}
use Rattle.std.specs.Prelude.{IfOk, slice_get}
use Rattle.std.proofs.lemmas.List.{append-nil}
use Rattle.sbx_image.specs.Parts.{Parts}
use Rattle.native_lang.specs.declared.program.ProgramBlock.{ProgramBlock}
use Rattle.v8_formats.specs.declared.instr.Trap.{Trap}
use Rattle.v8_meaning.specs.declared.operation.Operation.{Operation}
use Rattle.v8_meaning.specs.declared.operation.Operation.TheVariants.{TrapOnCondition}
use Rattle.sbx_flat.specs.Effects.{service_of}
use Rattle.std.proofs.lemmas.Bool.Decides.{nat_tests}
use Rattle.native_ends.specs.Translations.{DetachedSlot, is_put}
use Rattle.native_flow.specs.Labelling.{labels_of}
use Rattle.native_flow.specs.Making.{HasEdge, IsDetached, IsMade}
use Rattle.native_flow.specs.Transfers.{IsBranched}
use Rattle.native_flow.specs.Translating.{Grows, IsAmong, IsBlockFrom, edges_from, is_closing, is_exit, is_get, with_one}
use Rattle.native_flow.specs.declared.transfers.Branched.{Branched}

pub get_front : {A : Type 0} (l m : List A) (i : ℕ) (x : A) → slice_get l i ≡ Some x → slice_get (l ++ m) i ≡ Some x
get_front [] m i x e = absurd cc
get_front (y ∷ l) m zero x e = e
get_front (y ∷ l) m (suc i) x e = get_front l m i x e

pub get_last : {A : Type 0} (l : List A) (x : A) → slice_get (l ++ x ∷ []) (length l) ≡ Some x
get_last [] x = refl
get_last (y ∷ l) x = get_last l x

-- a slot that is among them stays so
pub still_among : (from : ℕ) (old new : List ProgramBlock) (detached : Option DetachedSlot) → Grows old new → IsAmong from old detached → IsAmong from new detached
still_among from old new None grows h = tt
still_among from old new (Some slot) grows h = (h.0, h.1, ap (λ l. slice_get l h.0) grows.is ∙ get_front old grows.more h.0 h.1 h.2, h.3)

pub still_from : (parts : Parts) (starts : List ℕ) (old new : List ProgramBlock) (a : ℕ) (block : ProgramBlock) → Grows old new → IsBlockFrom parts starts old a block → IsBlockFrom parts starts new a block
still_from parts starts old new a block grows h = record {
  function = h.function;
  detached = h.detached;
  is = h.is;
  has = still_among (edges_from parts starts) old new h.detached grows h.has;
}

pub none_more : (old new : List ProgramBlock) → new ≡ old → Grows old new
none_more old new same = record { more = []; is = same ∙ sym (append-nil old); few = omega arith }

pub one_more : (old new : List ProgramBlock) (x : ProgramBlock) → new ≡ old ++ x ∷ [] → Grows old new
one_more old new x is = record { more = x ∷ []; is = is; few = omega arith }

-- ---- a branch

with_edge_by : (from many : ℕ) (old new : List ProgramBlock) (edge : ProgramBlock) (detached : Option DetachedSlot) → many ≡ length old → new ≡ old ++ edge ∷ [] →
    HasEdge (from + many) detached (Some edge) → IsAmong from new detached
with_edge_by from many old new edge None size is h = tt
with_edge_by from many old new edge (Some slot) size is h =
    (length old, edge, ap (λ l. slice_get l (length old)) is ∙ get_last old edge, subst (λ n. IsDetached (from + n) slot edge) size h)

without_edge_by : (from many : ℕ) (new : List ProgramBlock) (detached : Option DetachedSlot) → HasEdge (from + many) detached None → IsAmong from new detached
without_edge_by from many new None h = tt
without_edge_by from many new (Some slot) h = absurd h

pub with_edge : (parts : Parts) (starts : List ℕ) (f start label many : ℕ) (branched : Branched) (old new : List ProgramBlock) (edge : ProgramBlock) →
    IsBranched parts (labels_of starts) f start label branched → label ≡ edges_from parts starts + many → many ≡ length old → branched.edge ≡ Some edge → new ≡ old ++ edge ∷ [] →
    IsBlockFrom parts starts new start branched.block
with_edge parts starts f start label many branched old new edge is at size some added = record {
  function = f;
  detached = is.detached;
  is = is.is;
  has = with_edge_by (edges_from parts starts) many old new edge is.detached size added
      (subst (λ l. HasEdge l is.detached (Some edge)) at (subst (HasEdge label is.detached) some is.edge));
}

pub without_edge : (parts : Parts) (starts : List ℕ) (f start label many : ℕ) (branched : Branched) (new : List ProgramBlock) →
    IsBranched parts (labels_of starts) f start label branched → label ≡ edges_from parts starts + many → branched.edge ≡ None → IsBlockFrom parts starts new start branched.block
without_edge parts starts f start label many branched new is at none = record {
  function = f;
  detached = is.detached;
  is = is.is;
  has = without_edge_by (edges_from parts starts) many new is.detached (subst (λ l. HasEdge l is.detached None) at (subst (HasEdge label is.detached) none is.edge));
}

-- ---- a block without a detached slot

pub plain_from : (parts : Parts) (starts : List ℕ) (edges : List ProgramBlock) (f a : ℕ) (block : ProgramBlock) → IsMade parts (labels_of starts) f a block None → IsBlockFrom parts starts edges a block
plain_from parts starts edges f a block is = record { function = f; detached = None; is = is; has = tt }

pub branched_from : (parts : Parts) (starts : List ℕ) (f start label many : ℕ) (branched : Branched) (old new : List ProgramBlock) (edge : Option ProgramBlock) →
    IsBranched parts (labels_of starts) f start label branched → label ≡ edges_from parts starts + many → many ≡ length old → branched.edge ≡ edge → new ≡ with_one old edge →
    IsBlockFrom parts starts new start branched.block
branched_from parts starts f start label many branched old new None is at size none same = without_edge parts starts f start label many branched new is at none
branched_from parts starts f start label many branched old new (Some edge) is at size some added = with_edge parts starts f start label many branched old new edge is at size some added

-- whatever a result is
pub any_ok : {A E : Type 0} (r : Result A E) (P : Type 0) → P → IfOk r (λ _. P)
any_ok (Ok a) P p = p
any_ok (Err e) P p = tt

pub grown_by : (old new : List ProgramBlock) (edge : Option ProgramBlock) → new ≡ with_one old edge → Grows old new
grown_by old new None same = none_more old new same
grown_by old new (Some edge) added = one_more old new edge added

-- ---- services

zero_of : (o : Option ℕ) → is_exit o ≡ true → o ≡ Some 0
zero_of None e = absurd cc
zero_of (Some n) e = let same : n ≡ 0 = grind (arith, nat_tests) in ap Some same

one_of : (o : Option ℕ) → is_get o ≡ true → o ≡ Some 1
one_of None e = absurd cc
one_of (Some n) e = let same : n ≡ 1 = grind (arith, nat_tests) in ap Some same

put_of : (o : Option ℕ) → is_exit o ≡ false → is_get o ≡ false → is_put o ≡ true
put_of None a b = refl
put_of (Some zero) a b = absurd cc
put_of (Some (suc zero)) a b = absurd cc
put_of (Some (suc (suc n))) a b = refl

pub exits : (op : Operation) (t : Trap) → op ≡ TrapOnCondition t → is_closing op ≡ true → service_of t ≡ Some 0
exits op t is closing = zero_of (service_of t) (sym (ap is_closing is) ∙ closing)

pub gets : (t : Trap) (b : Bool) → b ≡ is_get (service_of t) → b ≡ true → service_of t ≡ Some 1
gets t b is asks = one_of (service_of t) (sym is ∙ asks)

pub puts : (t : Trap) (b : Bool) → b ≡ is_get (service_of t) → b ≡ false → is_exit (service_of t) ≡ false → is_put (service_of t) ≡ true
puts t b is other on = put_of (service_of t) on (sym is ∙ other)
