-- `lent` lends what lies at the pointer, and the handle follows it.
use Rattle.std.proofs.Common.{MutBor, ◌≡◌, ℕ, List, [], ◌∷◌, refl, sym}
use seplogic.Ra.Ura.{Ura}
use base.Fraction.{full_share}
use mir.Syntax.{named}
use mir.Raw.{raw as bare}
use mir.Val.{Val, vptr}
use base.Logic.{SProp, ent, sep, emp, via, fst∗}
use base.Fml.{GName, Fml, ftrue, flft, fsep}
use types.Logic.{Logic, sem}
use types.Kit.{‵, ◌⊛◌, some, at_ret, ◌$◌, ◌∵◌, !, qed, by, move, keep, use1, drop, split, join, pick, rewrite, fsplit, fsplit3, fjoin, suffices, frame, done, raw, later, await, group, fpack}
use types.Part.{whole, sub, look_in}
use types.Run.{stop, fld, load, of_opd, first, blocks, exec, returns, enter, addr}
use types.ByLocal.{alloc_all, pass_all, free_all, look_at, get, through, sets, env, sets_last}
use contract.Running.{tables}
use denote.Exit.{no}
use denote.Follow.{follows, Part, lends_Part}
use denote.Memory.{lone, part_at, mem, cell_at, part_of}
use denote.RattleType.{owns}
use denote.RawPtr.{Ptr, block_ptr}
use denote.Ref.{MutRef, mut_vals, mut_Tells}
use denote.Signature.{plain, mut_ref_to}
use denote.Steps.{nothing, opens}
use denote.Triple.Walked.{says, Stays, stay_dropped, walk_of, ends_at, Goes-spent_ref}
use Rattle.std.proofs.VecSteps.Shapes.{after}
use Rattle.std.proofs.raw_atomic.Walks.{proved}
use Rattle.std.proofs.Handle.{heap_val}
use Rattle.std.specs.contracts.alloc.Global.{the_row as heap}
use Rattle.std.specs.contracts.impls.GlobalAllocator.TheImpl.{ghosts}
use Rattle.geyserpan.specs.contracts.engine_slot.EngineSlot.{the_row as R}
use Rattle.geyserpan.proofs.EngineHandleValues.{Handle, word, handle_out, handle_in}
use Rattle.geyserpan.specs.contracts.engine_handle.EngineHandle.lent.{ended, clauses}
use Rattle.geyserpan.specs.contracts.engine_handle.EngineHandle.lent.Key.{name as #self}
use Rattle.geyserpan.proofs.engine_handle.EngineHandle.lent.Statement.{statement}
use Rattle.geyserpan.proofs.engine_handle.EngineHandle.lent.Code as code

abbrev with : Handle.Denot → R.Denot → Handle.Denot
with h w = record h { value = w }

module _ {M : Type 1} {𝓤 : Ura M} (𝓛 : Logic 𝓤) (h : Handle.Denot) (rb ro b o : ℕ) where
  -- all of the handle but what is kept
  abbrev Rest : Fml
  Rest =
      fsep (fsep (ghosts.dealloc_token h.alloc (bare (lone R.mir)) (block_ptr b o)) (heap.own_val h.alloc (heap_val ∷ [])))
      (cell_at full_share Handle.mir (word b o ∷ []) rb ro)

  back : h.at ≡ block_ptr b o → (w : R.Denot)
      → ent 𝓤 (sep 𝓤 (sem 𝓛 ((mem R).own_at w b o)) (sem 𝓛 Rest)) (sem 𝓛 ((mem Handle).own_at (with h w) rb ro))
  unfolding part_of
  back e w =
      qed 𝓛 (‵ (part_at R full_share w b o) ∷ ‵ Rest ∷ []) ∵ move ! (1 ∷ []) $ fsplit ! $ fsplit ! $
      move ! (3 ∷ 0 ∷ []) $ fjoin ! $
      handle_in ! b o h.alloc w $ rewrite ! 0 (λ (p : Ptr). ‵ (Handle.own_val (record { at = p; alloc = h.alloc; value = w }) (word b o ∷ [])))
      (sym e) refl $
      move ! (1 ∷ 0 ∷ []) $ fjoin ! $
      fpack ! (List Val) (λ us. fsep (cell_at full_share Handle.mir us rb ro) (Handle.own_val (with h w) us)) (word b o ∷ []) $
      done !

pub lent_spec : {M : Type 1} → statement M
lent_spec 𝓤 𝓛 𝓜 𝓡 wired =
    let H = 𝓛.H in let 𝓣 = tables 𝓤 H 𝓜 𝓡 𝓡.env in let c = clauses 𝓛 𝓜.mem 𝓡.returns in let fn = code.function in
    let hs : Stays ended.signature.params ended.kept = (stay_dropped (mut_ref_to (0 ∷ []) tt (plain (λ _. Handle))) no, tt) in
    proved 𝓛 ended hs c 𝓜 𝓡 (Goes-spent_ref 𝓛 1 (0 ∷ []) tt (plain (λ _. Handle)), tt) #self fn (code.unfolded 𝓤 H 𝓜 𝓡 wired)
    (λ κs. (mut_vals, tt)) (λ κs. (mut_Tells (named 0) κs.0 Handle, tt)) (λ κs qs bounds a g are. via 𝓤 _ (fst∗ 𝓤 _ (emp 𝓤)) (
    let κ = κs.0 in let q = qs.0 in let rb = a.0.ref_ptr.0 in let ro = a.0.ref_ptr.1 in let γ = a.0.ghost_name in
    let h = a.0.now in
    let y : (walk_of 𝓛 ended hs c).Ghost = ((κs, qs, bounds, a, (mut_vals a.0, tt)), g) in
    let Post : Val → SProp 𝓤 = (walk_of 𝓛 ended hs c).post y in
    qed 𝓛 ((‵ (flft κ q) ⊛ ‵ ftrue) ∷ ‵ (owns (MutRef (named 0) κ Handle ∷ []) (a.0, tt) (mut_vals a.0, tt)) ∷ []) ∵
    enter ! 𝓣.C 𝓣.Λ fn (vptr rb ro ∷ []) _ $ alloc_all ! (λ l. pass_all ! refl ((tt, tt), tt) $
    let En = env fn.locals l in
    move ! (1 ∷ []) $ fsplit ! $ fsplit3 ! $ drop ! $ move ! (3 ∷ []) $ split ! $ move ! (2 ∷ 3 ∷ 0 ∷ []) $
    opens ! tt Handle {h = h} rb ro (λ vs. move ! (1 ∷ []) $ handle_out ! h vs (λ b o e ws.
    fsplit ! $ move ! (1 ∷ 2 ∷ []) $ fjoin ! $ move ! (1 ∷ []) $
    rewrite ! 2 (λ (us : List Val). ‵ (cell_at full_share Handle.mir us rb ro)) ws refl $
    first ! $ blocks ! $
    sets ! (of_opd ! (load ! (through ! refl (fld ! refl (stop !))) (look_in ! 2 (sub ! 0 refl (whole !))))) refl (tt, tt) $
    sets ! (of_opd ! (get ! refl)) refl (tt, tt) $
    sets_last ! (addr ! (through ! refl (stop !))) refl (tt, tt) $
    exec ! 𝓣.C 𝓣.Λ En (after 1 fn.body) (at_ret En Post) $
    sets ! (of_opd ! (get ! refl)) refl (tt, tt) $
    move ! (1 ∷ 2 ∷ []) $ fjoin ! $ move ! (2 ∷ 3 ∷ 4 ∷ 1 ∷ 0 ∷ []) $ group ! 5 $
    use1 𝓛 (later (some (λ (γ' : GName). raw (Part 𝓛 Handle R (with h) (named 0) κ q rb ro b o γ
    (sem 𝓛 (Rest 𝓛 h rb ro b o)) (back 𝓛 h rb ro b o e) h.value γ'))))
    (lends_Part 𝓛 Handle R (with h) (named 0) κ q rb ro b o γ
    (sem 𝓛 (Rest 𝓛 h rb ro b o)) (back 𝓛 h rb ro b o e) (Handle.coded.code h) (Handle.coded.code h) h.value) $
    await ! tt $ pick ! (λ γ'.
    returns ! (look_at ! 0 refl) $ free_all ! refl $
    let r : MutBor R.Denot = record { ref_ptr = (b, o); ghost_name = γ'; now = h.value } in
    let out : ent 𝓤 (sep 𝓤 (sem 𝓛 ((MutRef (named 0) κ R).own_val r (vptr b o ∷ []))) (sep 𝓤 (sem 𝓛 (flft κ q)) (sem 𝓛 (follows Handle R γ γ' (with h)))))
    (Post (vptr b o)) =
    qed 𝓛 (‵ ((MutRef (named 0) κ R).own_val r (vptr b o ∷ [])) ∷ ‵ (flft κ q) ∷ ‵ (follows Handle R γ γ' (with h)) ∷ []) ∵
    suffices ! _ (ends_at 𝓛 ended hs c y (vptr b o) r (tt, tt) (tt, tt)) $
    nothing ! $ nothing ! $ fjoin ! $ join ! $ nothing ! $ move ! (2 ∷ 0 ∷ []) $ join ! $ join ! $ frame ! $
    says ! refl $ done ! in
    keep ! (0 ∷ []) $ by ! out))))))
