-- What the pieces take bounds what a run takes: along a run what was taken, less what the piece so far took, is within
-- what the turns pay; and a run that hasn't ended goes on until it has, at a piece's last word.
use Rattle.std.proofs.Common.{◌≡◌, ℕ, zero, suc, ◌+◌, ◌*◌, ◌/◌, ◌<◌, ◌≤◌, Bool, true, false, List, [], ◌∷◌, ◌++◌, Option, Some, None, refl, sym, ap, ◌∙◌, subst, inl, inr, arith}
use Rattle.std.specs.Prelude.{nat_le, if◌then◌else◌}
use Rattle.std.proofs.lemmas.Bool.Decides.{nat_tests}
use Rattle.std.proofs.Math.Nat.{le-div_iff_mul-le, mul-le-mul_left}
use Rattle.v8_meaning.specs.declared.operation.Operation.{Operation}
use Rattle.v8_meaning.specs.declared.operation.Operation.TheVariants.{BranchOnCondition}
use Rattle.sbx_image.specs.Parts.{Parts}
use Rattle.sbx_image.specs.Order.{words_in}
use Rattle.sbx_image.proofs.Limits.{functions_within}
use Rattle.sbx_flat.specs.declared.path.Place.{Place}
use Rattle.sbx_flat.specs.Runs.{AreBytes, Behaves, FlatRun, FlatSafe, IsStart, Run, budget, place_of, weight, weight_at, weight_of, weight_of_word}
use Rattle.sbx_flat.specs.States.{State}
use Rattle.sbx_flat.specs.Turns.{Step, word_at}
use Rattle.sbx_flat.proofs.Turns.{weighs_some}
use Rattle.sbx_rules.specs.Operations.{is_transfer}
use Rattle.sbx_rules.specs.Places.{ends_run, op_at, op_before, word_of_place}
use Rattle.sbx_rules.specs.Verdicts.{Checked}
use Rattle.sbx_sound.specs.Law.{IsFormed}
use Rattle.sbx_sound.proofs.Ordered.{code_word}
use Rattle.sbx_sound.proofs.Safe.{ShowsSpot, ShowsStand, Spot, Stand}
use Rattle.sbx_sound.proofs.Whole.{order}
use Rattle.sbx_depth.proofs.Steps.{Stands, is_open, stands_on, starts}
use Rattle.inspect_cycles.specs.Cycles.{AreMost, cycles, cycles_at, cycles_of, cycles_of_word, slot_cycles}
use Rattle.inspect_cycles.specs.Pieces.{EndsWithin, IsDearest, ends_piece, is_branch, kept_on, longer, no_words, piece_before}
use Rattle.inspect_cycles.specs.declared.pieces.Piece.{Piece}
use Rattle.inspect_cycles.specs.declared.table.CycleTable.{CycleTable}
use Rattle.inspect_cycles.proofs.Flow.{Exits, Flows, ends_by, flows}
use Rattle.sbx_depth.proofs.Where.{Goes, IsFirst, IsLast, IsNext, Leaves, annulled_slot, branch_transfers, branches, either_of, goes_on, other_of, start_first, turns_at}

as_branch : (op : Operation) → branches op ≡ true → is_branch op ≡ true
as_branch (BranchOnCondition c) h = refl
as_branch _ h = absurd (cc)

-- ---- sums

-- c cycles were taken for w turns, of which cb and tb by the piece so far: what the dearest piece has, m for n, pays
-- for the others
abbrev IsPaid : (m n c w cb tb : ℕ) → Type 0
IsPaid m n c w cb tb = c * n + m * tb ≤ m * w + cb * n

one_more : (m n c w cb tb x y : ℕ) → IsPaid m n c w cb tb → IsPaid m n (c + x) (w + y) (cb + x) (tb + y)
one_more m n c w cb tb x y paid = omega (arith, paid)

ends_paid : (m n c w cb tb x y : ℕ) → IsPaid m n c w cb tb → (cb + x) * n ≤ m * (tb + y) → (c + x) * n ≤ m * (w + y)
ends_paid m n c w cb tb x y paid within = omega (arith, paid, within)

starts_anew : (m n c w : ℕ) → c * n ≤ m * w → IsPaid m n c w 0 0
starts_anew m n c w h = omega (arith, h)

-- ---- paths

run_more : (parts : Parts) (s t u : State) (path : List Place) → Run parts s path t → Step parts t u → Run parts s (path ++ place_of parts t ∷ []) u
run_more parts s t u [] run one = (u, ap (place_of parts) (sym run), subst (λ x. Step parts x u) (sym run) one, refl)
run_more parts s t u (p ∷ path) run one = (run.0, run.1, run.2, run_more parts run.0 t u path run.3 one)

weight_more : (parts : Parts) (path : List Place) (p : Place) → weight parts (path ++ p ∷ []) ≡ weight parts path + weight_at parts p
weight_more parts [] p = omega arith
weight_more parts (q ∷ path) p = let i = weight_more parts path p in omega arith

cycles_more : (t : CycleTable) (parts : Parts) (path : List Place) (p : Place) → cycles t parts (path ++ p ∷ []) ≡ cycles t parts path + cycles_at t parts p
cycles_more t parts [] p = omega arith
cycles_more t parts (q ∷ path) p = let i = cycles_more t parts path p in omega arith

no_exit : (o : Option ℕ) (status : ℕ) → o ≡ None → o ≡ Some status → ⊥
no_exit o status e f = cc

-- ---- what stands before a word

sum_first : (t : CycleTable) (parts : Parts) (f b i : ℕ) → IsFirst parts f b i → piece_before t parts f b i ≡ no_words
unfolding piece_before
sum_first t parts f b zero first = refl
sum_first t parts f b (suc i) first = ap (λ (x : Bool). kept_on x (longer (piece_before t parts f b i) (cycles_of t (op_at parts f b i)) (weight_of (op_at parts f b i)))) first

sum_next : (t : CycleTable) (parts : Parts) (f b i : ℕ) → turns_at parts f b i ≡ false →
    piece_before t parts f b (suc i) ≡ longer (piece_before t parts f b i) (cycles_of t (op_at parts f b i)) (weight_of (op_at parts f b i))
unfolding piece_before
sum_next t parts f b i on = ap (λ (x : Bool). kept_on x (longer (piece_before t parts f b i) (cycles_of t (op_at parts f b i)) (weight_of (op_at parts f b i)))) on

ends_last : (parts : Parts) (f b i : ℕ) → IsLast parts f b i → ends_piece (op_before parts f b i) (op_at parts f b i) i (words_in parts f b) ≡ true
ends_last parts f b i (inl turns) = either_of (turns_at parts f b i) (nat_le (words_in parts f b) (i + 1)) turns
ends_last parts f b i (inr last) =
    let all : nat_le (words_in parts f b) (i + 1) ≡ true = grind (arith, nat_tests, last) in
    other_of (turns_at parts f b i) (nat_le (words_in parts f b) (i + 1)) all

module _ (t : CycleTable) (parts : Parts) (formed : IsFormed parts) (checked : Checked parts) (most : Piece) (dearest : IsDearest t parts most) where
  abbrev Pending : (c w : ℕ) → Piece → Type 0
  Pending c w piece = IsPaid most.cycles most.turns c w piece.cycles piece.turns

  -- what is paid where a run stands
  abbrev Pays : (c w v : ℕ) → Stand parts v → Type 0
  Pays c w v (inl p) = Pending c w (piece_before t parts p.f p.b p.i)
  Pays c w v (inr e) = c * most.turns ≤ most.cycles * w

  -- A state of a run that took c cycles for w turns.
  record Kept (c w : ℕ) (s : State) : Type 0 where
    stands : Stands parts s
    pays : Pays c w stands.weight stands.stand

  pays_first : (c w f b i : ℕ) → IsFirst parts f b i → c * most.turns ≤ most.cycles * w → Pending c w (piece_before t parts f b i)
  pays_first c w f b i first h = subst (Pending c w) (sym (sum_first t parts f b i first)) (starts_anew most.cycles most.turns c w h)

  pays_next : (c w f b i g d j : ℕ) → IsNext parts f b i g d j → Pending c w (piece_before t parts f b i)
      → Pending (c + cycles_of t (op_at parts f b i)) (w + weight_of (op_at parts f b i)) (piece_before t parts g d j)
  pays_next c w f b i g d j next paid =
      let x = cycles_of t (op_at parts f b i) in
      let y = weight_of (op_at parts f b i) in
      let piece = piece_before t parts f b i in
      let there : Pending (c + x) (w + y) (piece_before t parts f b (suc i)) =
      subst (Pending (c + x) (w + y)) (sym (sum_next t parts f b i next.on)) (one_more most.cycles most.turns c w piece.cycles piece.turns x y paid) in
      let P : ℕ → ℕ → ℕ → Type 0 = λ f b i. Pending (c + x) (w + y) (piece_before t parts f b i) in
      subst (λ n. P n d j) (sym next.function) (subst (λ n. P f n j) (sym next.block) (subst (λ n. P f b n) (sym next.word) there))

  -- ---- one step

  module _ (c w v : ℕ) (p : Spot parts v) (s : State) (shows : ShowsSpot parts v p s) (paid : Pays c w v (inl p)) where
    word_there : word_at parts.words s.pc ≡ Some (word_of_place parts p.f p.b p.i)
    word_there = ap (word_at parts.words) (shows.rest.pc ∙ p.at.pc) ∙ code_word parts (order parts formed checked) p.f p.b p.i p.at.place

    annulled_is : (x : Bool) → p.v.annulled ≡ x → s.annulled ≡ x
    annulled_is x e = shows.rest.annulled ∙ p.at.annulled ∙ e

    cycles_run : p.v.annulled ≡ false → cycles_at t parts (place_of parts s) ≡ cycles_of t (op_at parts p.f p.b p.i)
    unfolding place_of
    cycles_run e =
        ap (λ (x : Bool). if x then slot_cycles t else cycles_of_word t (word_at parts.words s.pc)) (annulled_is false e)
        ∙ ap (cycles_of_word t) word_there

    weight_run : p.v.annulled ≡ false → weight_at parts (place_of parts s) ≡ weight_of (op_at parts p.f p.b p.i)
    unfolding place_of weight_at
    weight_run e =
        ap (λ (x : Bool). if x then 1 else weight_of_word (word_at parts.words s.pc)) (annulled_is false e)
        ∙ ap weight_of_word word_there

    cycles_annulled : p.v.annulled ≡ true → cycles_at t parts (place_of parts s) ≡ slot_cycles t
    unfolding place_of
    cycles_annulled e = ap (λ (x : Bool). if x then slot_cycles t else cycles_of_word t (word_at parts.words s.pc)) (annulled_is true e)

    weight_annulled : p.v.annulled ≡ true → weight_at parts (place_of parts s) ≡ 1
    unfolding place_of weight_at
    weight_annulled e = ap (λ (x : Bool). if x then 1 else weight_of_word (word_at parts.words s.pc)) (annulled_is true e)

    here : EndsWithin t parts most p.f p.b p.i
    here = dearest.within p.f p.b (p.at.place.function, p.at.place.block) p.i p.at.place.word

    open_now : s.exit ≡ None
    open_now = shows.rest.exit ∙ p.at.exit

    abbrev piece : Piece
    piece = piece_before t parts p.f p.b p.i

    -- behind a piece's last word
    pays_whole : IsLast parts p.f p.b p.i → (c + cycles_of t (op_at parts p.f p.b p.i)) * most.turns ≤ most.cycles * (w + weight_of (op_at parts p.f p.b p.i))
    pays_whole last =
        let x = cycles_of t (op_at parts p.f p.b p.i) in
        let y = weight_of (op_at parts p.f p.b p.i) in
        ends_paid most.cycles most.turns c w piece.cycles piece.turns x y paid (here (longer piece x y) (inl (ends_last parts p.f p.b p.i last, refl)))

    pays_slot : p.v.annulled ≡ true → (c + slot_cycles t) * most.turns ≤ most.cycles * (w + 1)
    pays_slot e =
        ends_paid most.cycles most.turns c w piece.cycles piece.turns (slot_cycles t) 1 paid
        (here (longer piece (slot_cycles t) 1) (inr (as_branch (op_before parts p.f p.b p.i) (annulled_slot parts formed checked p.f p.b p.i p.v p.at.is_visit e), refl)))

    slot_last : p.v.annulled ≡ true → IsLast parts p.f p.b p.i
    slot_last e =
        inl (either_of (is_transfer (op_before parts p.f p.b p.i)) (ends_run (op_at parts p.f p.b p.i))
        (branch_transfers parts formed checked (op_before parts p.f p.b p.i) (annulled_slot parts formed checked p.f p.b p.i p.v p.at.is_visit e)))

    leaves : (p.v.annulled ≡ false → ends_run (op_at parts p.f p.b p.i) ≡ false) → Leaves parts formed checked p.f p.b p.i p.v p.k.calls p.k.npc
    leaves runs_on = record { place = p.at.place; visit = p.at.is_visit; goes = p.at.npc; open_calls = p.at.calls; runs_on = runs_on }

    -- where the next state stands
    module _ (next : State) (step : Step parts s next) where
      flow : Flows s.npc (ends_by s.annulled (word_at parts.words s.pc)) s.exit next
      flow = flows parts s next step

      ends_is : p.v.annulled ≡ false → ends_by s.annulled (word_at parts.words s.pc) ≡ ends_run (op_at parts p.f p.b p.i)
      ends_is e =
          ap (λ (x : Bool). ends_by x (word_at parts.words s.pc)) (annulled_is false e)
          ∙ ap (ends_by false) word_there

      exits_by : p.v.annulled ≡ false → Exits (ends_run (op_at parts p.f p.b p.i)) s.exit next
      exits_by e = subst (λ x. Exits x s.exit next) (ends_is e) flow.exits

      stays_open : p.v.annulled ≡ true → next.exit ≡ s.exit
      stays_open e = subst (λ x. Exits x s.exit next) (ap (λ (x : Bool). ends_by x (word_at parts.words s.pc)) (annulled_is true e)) flow.exits

      runs_on : next.exit ≡ None → p.v.annulled ≡ false → ends_run (op_at parts p.f p.b p.i) ≡ false
      runs_on open_still e = by_test (ends_run (op_at parts p.f p.b p.i)) (exits_by e)
        where
          by_test : (x : Bool) → Exits x s.exit next → x ≡ false
          by_test true h = absurd (no_exit next.exit h.0 open_still h.1)
          by_test false h = refl

      ends_here : (status : ℕ) → next.exit ≡ Some status → p.v.annulled ≡ false → IsLast parts p.f p.b p.i
      ends_here status exit e =
          inl (other_of (is_transfer (op_before parts p.f p.b p.i)) (ends_run (op_at parts p.f p.b p.i)) (by_test (ends_run (op_at parts p.f p.b p.i)) (exits_by e)))
        where
          by_test : (x : Bool) → Exits x s.exit next → x ≡ true
          by_test true h = refl
          by_test false h = absurd (no_exit next.exit status (h ∙ open_now) exit)

      -- at a word
      to_word : (u : ℕ) (q : Spot parts u) → ShowsSpot parts u q next → Goes parts formed checked p.f p.b p.i q.f q.b q.i
      to_word u q there =
          goes_on parts formed checked p.f p.b p.i p.v p.k.calls p.k.npc (leaves (runs_on (there.rest.exit ∙ q.at.exit))) q.f q.b q.i q.at.place
          (sym q.at.pc ∙ sym there.rest.pc ∙ flow.pc ∙ shows.rest.npc)

      pays_run : p.v.annulled ≡ false → (u : ℕ) (stand : Stand parts u) → ShowsStand parts u stand next →
          Pays (c + cycles_of t (op_at parts p.f p.b p.i)) (w + weight_of (op_at parts p.f p.b p.i)) u stand
      pays_run e u (inl q) there = by_way (to_word u q there)
        where
          by_way : Goes parts formed checked p.f p.b p.i q.f q.b q.i →
              Pending (c + cycles_of t (op_at parts p.f p.b p.i)) (w + weight_of (op_at parts p.f p.b p.i)) (piece_before t parts q.f q.b q.i)
          by_way (inl next_word) = pays_next c w p.f p.b p.i q.f q.b q.i next_word paid
          by_way (inr turns) =
              pays_first (c + cycles_of t (op_at parts p.f p.b p.i)) (w + weight_of (op_at parts p.f p.b p.i)) q.f q.b q.i turns.first (pays_whole turns.last)
      pays_run e u (inr x) there = pays_whole (ends_here x.status there.status e)

      pays_annulled : p.v.annulled ≡ true → (u : ℕ) (stand : Stand parts u) → ShowsStand parts u stand next → Pays (c + slot_cycles t) (w + 1) u stand
      pays_annulled e u (inl q) there = by_way (to_word u q there)
        where
          by_way : Goes parts formed checked p.f p.b p.i q.f q.b q.i →
              Pending (c + slot_cycles t) (w + 1) (piece_before t parts q.f q.b q.i)
          by_way (inl next_word) = absurd (both (slot_last e) next_word.on)
            where
              both : IsLast parts p.f p.b p.i → turns_at parts p.f p.b p.i ≡ false → ⊥
              both last on = let turns = other_turns e in cc
                where
                  other_turns : p.v.annulled ≡ true → turns_at parts p.f p.b p.i ≡ true
                  other_turns h =
                      either_of (is_transfer (op_before parts p.f p.b p.i)) (ends_run (op_at parts p.f p.b p.i))
                      (branch_transfers parts formed checked (op_before parts p.f p.b p.i) (annulled_slot parts formed checked p.f p.b p.i p.v p.at.is_visit h))
          by_way (inr turns) = pays_first (c + slot_cycles t) (w + 1) q.f q.b q.i turns.first (pays_slot e)
      pays_annulled e u (inr x) there = absurd (no_exit next.exit x.status (stays_open e ∙ open_now) there.status)

      abbrev Paying : ℕ → ℕ → Type 0
      Paying x y = (u : ℕ) (stand : Stand parts u) → ShowsStand parts u stand next → Pays (c + x) (w + y) u stand

      pays_on : Paying (cycles_at t parts (place_of parts s)) (weight_at parts (place_of parts s))
      pays_on = by_annulled p.v.annulled refl
        where
          by_annulled : (x : Bool) → p.v.annulled ≡ x → Paying (cycles_at t parts (place_of parts s)) (weight_at parts (place_of parts s))
          by_annulled true e =
              subst (λ n. Paying n (weight_at parts (place_of parts s))) (sym (cycles_annulled e)) (subst (λ n. Paying (slot_cycles t) n) (sym (weight_annulled e)) (pays_annulled e))
          by_annulled false e =
              subst (λ n. Paying n (weight_at parts (place_of parts s))) (sym (cycles_run e)) (subst (λ n. Paying (cycles_of t (op_at parts p.f p.b p.i)) n) (sym (weight_run e)) (pays_run e))

  -- ---- a run

  step_on : (c w : ℕ) (s next : State) → Kept c w s → Step parts s next → Kept (c + cycles_at t parts (place_of parts s)) (w + weight_at parts (place_of parts s)) next
  step_on c w s next kept step = from kept.stands.weight kept.stands.stand kept.stands.shows kept.pays
    where
      there : Stands parts next
      there = stands_on parts formed checked s next kept.stands step

      from : (v : ℕ) (stand : Stand parts v) → ShowsStand parts v stand s → Pays c w v stand → Kept (c + cycles_at t parts (place_of parts s)) (w + weight_at parts (place_of parts s)) next
      from v (inl p) shows paid = record { stands = there; pays = pays_on c w v p s shows paid next step there.weight there.stand there.shows }
      from v (inr e) shows paid = absurd (no_exit s.exit e.status (is_open parts s next step) shows.status)

  along : (path : List Place) (c w : ℕ) (s last : State) → Kept c w s → Run parts s path last → Kept (c + cycles t parts path) (w + weight parts path) last
  along [] c w s last kept run =
      let no_cycles : c ≡ c + 0 = omega arith in
      let no_turns : w ≡ w + 0 = omega arith in
      subst (λ x. Kept (c + 0) (w + 0) x) run (subst (λ n. Kept n (w + 0) s) no_cycles (subst (λ n. Kept c n s) no_turns kept))
  along (place ∷ path) c w s last kept run =
      let on = step_on c w s run.0 kept run.2 in
      let here : Kept (c + cycles_at t parts place) (w + weight_at parts place) run.0 = subst (λ p. Kept (c + cycles_at t parts p) (w + weight_at parts p) run.0) (sym run.1) on in
      let rest = along path (c + cycles_at t parts place) (w + weight_at parts place) run.0 last here run.3 in
      let of_cycles : c + cycles_at t parts place + cycles t parts path ≡ c + (cycles_at t parts place + cycles t parts path) = omega arith in
      let of_turns : w + weight_at parts place + weight parts path ≡ w + (weight_at parts place + weight parts path) = omega arith in
      subst (λ n. Kept n (w + (weight_at parts place + weight parts path)) last) of_cycles (subst (λ n. Kept (c + cycles_at t parts place + cycles t parts path) n last) of_turns rest)

  begun : (input : List ℕ) (s : State) → AreBytes input → IsStart parts input s → Kept 0 0 s
  begun input s bytes start = record { stands = there; pays = from there.weight there.stand there.shows }
    where
      there : Stands parts s
      there = starts parts formed checked input s bytes start

      from : (v : ℕ) (stand : Stand parts v) → ShowsStand parts v stand s → Pays 0 0 v stand
      from v (inl p) shows =
          pays_first 0 0 p.f p.b p.i
          (start_first parts formed checked p.f p.b p.i (functions_within parts formed.kept).0 p.at.place (sym p.at.pc ∙ sym shows.rest.pc ∙ start.pc)) (omega arith)
      from v (inr e) shows = absurd (no_exit s.exit e.status start.exit shows.status)

  reached : (input : List ℕ) (path : List Place) (s : State) → AreBytes input → FlatRun parts input path s → Kept (cycles t parts path) (weight parts path) s
  reached input path s bytes run =
      let of_cycles : 0 + cycles t parts path ≡ cycles t parts path = omega arith in
      let of_turns : 0 + weight parts path ≡ weight parts path = omega arith in
      subst (λ n. Kept n (weight parts path) s) of_cycles (subst (λ n. Kept (0 + cycles t parts path) n s) of_turns (along path 0 0 run.0 s (begun input run.0 bytes run.1) run.2))

  -- ---- to its end

  ended : (c w : ℕ) (s : State) (status : ℕ) → Kept c w s → s.exit ≡ Some status → c * most.turns ≤ most.cycles * w
  ended c w s status kept exit = from kept.stands.weight kept.stands.stand kept.stands.shows kept.pays
    where
      from : (v : ℕ) (stand : Stand parts v) → ShowsStand parts v stand s → Pays c w v stand → c * most.turns ≤ most.cycles * w
      from v (inl p) shows paid = absurd (no_exit s.exit status (shows.rest.exit ∙ p.at.exit) exit)
      from v (inr e) shows paid = paid

  module _ (input output : List ℕ) (status : ℕ) (path : List Place) (bytes : AreBytes input) (behaves : Behaves parts input output status path) where
    within : (way : List Place) (s : State) (word : ℕ) → FlatRun parts input way s → s.exit ≡ Some word → cycles t parts way * most.turns ≤ most.cycles * budget parts
    within way s word run exit =
        let h = ended (cycles t parts way) (weight parts way) s word (reached input way s bytes run) exit in
        let few = mul-le-mul_left most.cycles (behaves.within_budget way s run) in
        omega (arith, h, few)

    or_goes_on : (way : List Place) (s : State) → FlatRun parts input way s → (o : Option ℕ) → s.exit ≡ o → (s.exit ≡ None → cycles t parts way * most.turns ≤ most.cycles * budget parts)
        → cycles t parts way * most.turns ≤ most.cycles * budget parts
    or_goes_on way s run None e goes_on_to = goes_on_to e
    or_goes_on way s run (Some word) e goes_on_to = within way s word run e

    -- so many steps more are beyond the budget
    ends_within : (n : ℕ) (way : List Place) (s : State) → FlatRun parts input way s → budget parts < weight parts way + n → cycles t parts way * most.turns ≤ most.cycles * budget parts
    ends_within zero way s run beyond = absurd (let few = behaves.within_budget way s run in omega (arith, few, beyond))
    ends_within (suc n) way s run beyond =
        or_goes_on way s run s.exit refl (λ open_still.
        (let next = behaves.can_go_on way s run open_still in
        let longer = weight_more parts way (place_of parts s) in
        let some = weighs_some parts (place_of parts s) in
        let dearer = cycles_more t parts way (place_of parts s) in
        let more = ends_within n (way ++ place_of parts s ∷ []) next.0 (run.0, run.1, run_more parts run.0 s next.0 way run.2 next.1) (omega (arith, longer, some, beyond)) in
        let all : (cycles t parts way + cycles_at t parts (place_of parts s)) * most.turns ≤ most.cycles * budget parts = subst (λ n. n * most.turns ≤ most.cycles * budget parts) dearer more in
        omega (arith, all)))

    pub is_within : (way : List Place) (s : State) → FlatRun parts input way s → cycles t parts way * most.turns ≤ most.cycles * budget parts
    is_within way s run = ends_within (suc (budget parts)) way s run (omega arith)

  pub pieces_bound : FlatSafe parts → AreMost t parts (most.cycles * budget parts / most.turns)
  pieces_bound safe input way s bytes run =
      let h = is_within input (safe input bytes).0 (safe input bytes).1 (safe input bytes).2 bytes (safe input bytes).3 way s run in
      (le-div_iff_mul-le dearest.some).1 h
