-- The machine value of an `EngineHandle`, and of the `Loose` that it is made from. Assumes `Logic`.
use Rattle.std.proofs.Common.{◌≡◌, ℕ, List, [], ◌∷◌, ◌++◌, refl, subst}
use seplogic.Ra.Ura.{Ura}
use mir.Raw.{raw as bare}
use mir.Val.{Val, vptr, vstruct, of_list}
use base.Logic.{never, fst∗}
use types.Logic.{Logic, sem}
use types.Kit.{Item, Goal, Seq, Step, step, ‵, ◌$◌, move, drop, fsplit, fjoin, fpick, fpack, rewrite, feq_i, feq_l}
use denote.RattleType.{RattleType, Valss}
use denote.Builtin.{RawPtr}
use denote.Laws.{Is, shows}
use denote.Memory.{lone}
use denote.RawPtr.{Ptr, block_ptr, null_ptr, ptr_val, in_a_block}
use denote.Steps.{nothing, peeks}
use denote.Struct.Struct.{within}
use denote.Struct.Owning.{shape}
use Rattle.std.specs.Box.Ownership.{box_owns}
use Rattle.std.specs.contracts.alloc.Global.{the_row as heap}
use Rattle.std.specs.contracts.impls.GlobalAllocator.TheImpl.{ghosts}
use Rattle.std.proofs.Handle.{heap_val, heap_Tells}
use Rattle.geyserpan.specs.contracts.engine_slot.EngineSlot.{the_row as R}
use Rattle.geyserpan.specs.contracts.engine_handle.EngineHandle as handle
use Rattle.geyserpan.specs.contracts.loose.Loose as loose
use Rattle.geyserpan.proofs.Values.{both}

abbrev pub Handle : RattleType
Handle = handle.the_row

abbrev pub Loose : RattleType
Loose = loose.the_row R heap ghosts

abbrev pub word : ℕ → ℕ → Val
word b o = both (vptr b o) heap_val

module _ {M : Type 1} {𝓤 : Ura M} {𝓛 : Logic 𝓤} {K : Type 0} {Γ : List (Item 𝓤)} {G : Goal 𝓤 𝓛.H} where
  pub handle_out : K → (d : Handle.Denot) (vs : List Val)
      → ((b o : ℕ) → d.at ≡ block_ptr b o → vs ≡ word b o ∷ [] → Seq K 𝓛
      (‵ (box_owns (ghosts.dealloc_token d.alloc) R (block_ptr b o) d.value) ∷ ‵ (heap.own_val d.alloc (heap_val ∷ [])) ∷ Γ) G)
      → Seq K 𝓛 (‵ (Handle.own_val d vs) ∷ Γ) G
  handle_out t d vs k =
      fsplit t $ fpick t (λ vss. fsplit t $ feq_l t (λ ev. fsplit t $ feq_l t (λ ep. fsplit t $
      peeks t heap (Is heap) (shows 𝓛 heap) d.alloc vss.1.0 (λ is.
      rewrite t 0 (λ (us : List Val). ‵ (heap.own_val d.alloc us)) (heap_Tells d.alloc vss.1.0 is) refl $
      move t (1 ∷ []) $ drop t $ move t (1 ∷ []) $
      in_a_block t d.at (λ p. box_owns (ghosts.dealloc_token d.alloc) R p d.value)
      (fst∗ 𝓤 (never 𝓤) (sem 𝓛 (ghosts.dealloc_token d.alloc (bare (lone R.mir)) null_ptr))) (λ b o e. k b o e
      (subst (λ (p : Ptr). vs ≡ vstruct (of_list (ptr_val p ∷ heap_val ∷ [])) ∷ []) e
      (subst (λ (ws : List Val). vs ≡ vstruct (of_list (ptr_val d.at ∷ (ws ++ []))) ∷ []) (heap_Tells d.alloc vss.1.0 is)
      (subst (λ (ps : List Val). vs ≡ vstruct (of_list (ps ++ (vss.1.0 ++ []))) ∷ []) ep ev))))))))

  pub handle_in : K → (b o : ℕ) (a : heap.Denot) (x : R.Denot)
      → Step K 𝓛 (‵ (Handle.own_val (record { at = block_ptr b o; alloc = a; value = x }) (word b o ∷ [])) ∷ Γ) G
      (‵ (box_owns (ghosts.dealloc_token a) R (block_ptr b o) x) ∷ ‵ (heap.own_val a (heap_val ∷ [])) ∷ Γ) G
  handle_in t b o a x = step (λ s.
      nothing t $ move t (2 ∷ 0 ∷ []) $ fjoin t $ feq_i t (List Val) (vptr b o ∷ []) (vptr b o ∷ []) refl $ fjoin t $
      feq_i t (List Val) (word b o ∷ []) (word b o ∷ []) refl $ fjoin t $
      fpack t (Valss (RawPtr ∷ heap ∷ [])) (within (shape handle.the_type) (block_ptr b o, (((tt, tt), tt), tt)) (word b o ∷ []))
      (vptr b o ∷ [], (heap_val ∷ [], tt)) $
      fjoin t $ s)

  pub loose_in : K → (b o : ℕ) (a : heap.Denot) (x : R.Denot)
      → Step K 𝓛 (‵ (Loose.own_val (record { at = block_ptr b o; alloc = a; value = x }) (word b o ∷ [])) ∷ Γ) G
      (‵ (box_owns (ghosts.dealloc_token a) R (block_ptr b o) x) ∷ ‵ (heap.own_val a (heap_val ∷ [])) ∷ Γ) G
  loose_in t b o a x = step (λ s.
      nothing t $ move t (2 ∷ 0 ∷ []) $ fjoin t $ feq_i t (List Val) (vptr b o ∷ []) (vptr b o ∷ []) refl $ fjoin t $
      feq_i t (List Val) (word b o ∷ []) (word b o ∷ []) refl $ fjoin t $
      fpack t (Valss (RawPtr ∷ heap ∷ [])) (within (shape (loose.the_type R heap ghosts)) (block_ptr b o, (a, tt)) (word b o ∷ []))
      (vptr b o ∷ [], (heap_val ∷ [], tt)) $
      fjoin t $ s)
