-- LDSTUB and SWAP: a number comes in and another one goes out.
use Rattle.std.proofs.Common.{◌≡◌, ℕ, ◌+◌, ◌-◌, ◌<◌, ◌≤◌, List, [], ◌∷◌, ◌++◌, Option, Some, None, slice_index}
use Rattle.std.proofs.Common.{refl, ap, ◌∙◌, subst, arith}
use Rattle.std.proofs.lemmas.List.{get_or-set_other}
use Rattle.v8_meaning.specs.declared.operation.Exchange.{Exchange as Exchanging}
use Rattle.v8_meaning.specs.declared.operation.Exchange.TheVariants.{Ones, Register}
use Rattle.v8_meaning.specs.declared.operation.Transfer.TheVariants as transfer
use Rattle.v8_meaning.specs.Transfers.{bytes_in, exchanged_size, left_behind}
use Rattle.sbx_image.specs.Parts.{Parts}
use Rattle.sbx_flat.specs.Effects.{found, slot_of, transfers_data, transfers_in}
use Rattle.sbx_flat.specs.Memory.{with_number}
use Rattle.sbx_flat.specs.States.{State, Goes, advanced, reg, with_reg}
use Rattle.sbx_flat.specs.WellFormed.{IsWellFormed}
use Rattle.native_lang.specs.declared.expr.Expr.{Expr}
use Rattle.native_lang.specs.declared.expr.Expr.TheVariants.{Variable}
use Rattle.native_lang.specs.declared.stmt.NumberWidth.{NumberWidth}
use Rattle.native_lang.specs.declared.stmt.Stmt.{Stmt}
use Rattle.native_lang.specs.declared.stmt.Stmt.TheVariants.{Set, Load, Store}
use Rattle.native_lang.specs.Memory.{bytes_of_width, number_in}
use Rattle.native_lang.specs.Values.{value}
use Rattle.native_lang.specs.World.{World, sets}
use Rattle.native_results.specs.DoesAll.{does_all, then_on}
use Rattle.native_results.specs.ShowsState.{ShowsState}
use Rattle.native_words.specs.Accesses.{AddsAccess, GoesTo}
use Rattle.native_words.proofs.Loading.{assigned, assigned_shows, does_load, in_order, set_kept, set_there, taken}
use Rattle.native_words.proofs.Reading.{found_read}
use Rattle.native_words.proofs.Shown.{scratch_shows}
use Rattle.native_words.proofs.Storing.{block_with, does_store, word_of}
use Rattle.native_words.proofs.Writing.{data_shows}

-- What an exchange finds in the block, and what it comes to.
record IsExchanged (with : Exchanging) (block : List ℕ) (rd a : ℕ) (s next : State) : Type 0 where
  number : ℕ
  from : 0x80000 ≤ a
  to : a + bytes_in (exchanged_size with) ≤ 0xF0000
  is : number_in block (a - 0x80000) (bytes_in (exchanged_size with)) ≡ number
  goes : advanced (with_reg rd number (record s { memory = with_number s.memory a (bytes_in (exchanged_size with)) (left_behind (reg s) with rd) })) ≡ next

some_bytes : (with : Exchanging) → 1 ≤ bytes_in (exchanged_size with)
some_bytes Ones = omega arith
some_bytes Register = omega arith

exchanged_by : (parts : Parts) (w : World) (s next : State) (rd a : ℕ) (with : Exchanging) (o : Option ℕ) → ShowsState parts w s → found parts (transfer.Exchange with) a s.memory ≡ o →
    transfers_data (transfer.Exchange with) rd a o s ≡ Goes next → IsExchanged with w.block rd a s next
exchanged_by parts w s next rd a with None shows e g = absurd cc
exchanged_by parts w s next rd a with (Some number) shows e g =
    let r = found_read parts (transfer.Exchange with) a number s.memory w.block shows.memory (some_bytes with) e in
    record {
      number = number;
      from = r.from;
      to = r.to;
      is = r.is;
      goes = taken ((rd, number) ∷ []) (record s { memory = with_number s.memory a (bytes_in (exchanged_size with)) (left_behind (reg s) with rd) }) next g;
    }

module _ (with : Exchanging) (rd : ℕ) (address out : Expr) (width : NumberWidth) (low : rd < 32) (same : bytes_of_width width ≡ bytes_in (exchanged_size with))
    (goes_out : (parts : Parts) (w : World) (s : State) → ShowsState parts w s → value w.variables out ≡ left_behind (reg s) with rd) where
  abbrev statements : List Stmt
  statements = Set 40 address ∷ Set 41 out ∷ Load 42 width (Variable 40) ∷ Store width (Variable 40) (Variable 41) ∷ assigned rd (Variable 42)

  module _ (windows : ℕ) (parts : Parts) (s next : State) (w : World) (a : ℕ) (well : IsWellFormed parts.stack_pages s) (shows : ShowsState parts w s)
      (at : value w.variables address ≡ a) where
    abbrev first : World
    first = sets 40 (value w.variables address) w

    abbrev second : World
    second = sets 41 (value first.variables out) first

    first_shows : ShowsState parts first s
    first_shows = scratch_shows parts w s 40 (value w.variables address) (omega arith) shows

    second_shows : ShowsState parts second s
    second_shows = scratch_shows parts first s 41 (value first.variables out) (omega arith) first_shows

    place : slice_index second.variables 40 ≡ a
    place =
        get_or-set_other first.variables 41 40 (value first.variables out) 0 (λ e. omega (arith, e)) ∙ set_there parts w s 40 (value w.variables address) (omega arith) shows ∙ at

    gone : slice_index second.variables 41 ≡ left_behind (reg s) with rd
    gone = set_there parts first s 41 (value first.variables out) (omega arith) first_shows ∙ goes_out parts first s first_shows

    exchange_comes : transfers_in parts (transfer.Exchange with) rd a (slot_of (transfer.Exchange with) s a) s ≡ Goes next → GoesTo windows parts statements w next
    exchange_comes g =
        let f = exchanged_by parts w s next rd a with (found parts (transfer.Exchange with) a s.memory) shows refl g in
        let from = f.from in
        let to = f.to in
        let size : ℕ = bytes_in (exchanged_size with) in
        let third : World = sets 42 f.number second in
        let third_shows : ShowsState parts third s = scratch_shows parts second s 42 f.number (omega arith) second_shows in
        let fourth : World = block_with a size (left_behind (reg s) with rd) third in
        let after : State = record s { memory = with_number s.memory a size (left_behind (reg s) with rd) } in
        let fourth_shows : ShowsState parts fourth after = data_shows parts third s third_shows well.calls a size (left_behind (reg s) with rd) from to in
        let still_there : slice_index third.variables 40 ≡ a = get_or-set_other second.variables 42 40 f.number 0 (λ e. omega (arith, e)) ∙ place in
        let still_gone : slice_index third.variables 41 ≡ left_behind (reg s) with rd = get_or-set_other second.variables 42 41 f.number 0 (λ e. omega (arith, e)) ∙ gone in
        let came : slice_index fourth.variables 42 ≡ f.number = set_there parts second s 42 f.number (omega arith) second_shows in
        let last = assigned_shows windows parts fourth after rd (Variable 42) low fourth_shows in
        record {
          new = last.new;
          done =
              ap (λ o. then_on o (does_all windows (Store width (Variable 40) (Variable 41) ∷ assigned rd (Variable 42))))
              (does_load windows second 42 width (Variable 40) a size f.number place same from (omega (arith, to)) f.is)
              ∙ ap (λ o. then_on o (does_all windows (assigned rd (Variable 42))))
              (does_store windows third width (Variable 40) (Variable 41) a size (left_behind (reg s) with rd) still_there still_gone same from (omega (arith, to)))
              ∙ last.done;
          shows = subst (λ t. ShowsState parts last.new t) f.goes (subst (λ n. ShowsState parts last.new (advanced (with_reg rd n after))) came last.shows);
          counts = last.counts;
          kept = λ x above below. last.kept x above below ∙ set_kept second 42 f.number x (λ e. omega (arith, e, above))
              ∙ set_kept first 41 (value first.variables out) x (λ e. omega (arith, e, above)) ∙ set_kept w 40 (value w.variables address) x (λ e. omega (arith, e, above));
        }

  pub exchange_made : (old new : List Stmt) → new ≡ old ++ statements → AddsAccess (transfer.Exchange with) rd address old new
  exchange_made old new stands = record {
    made = statements;
    behind = stands;
    is = record { comes = λ windows parts s next w a well shows pair at g. exchange_comes windows parts s next w a well shows at g };
  }

left_shown : (parts : Parts) (w : World) (s : State) (with : Exchanging) (rd : ℕ) → rd < 32 → ShowsState parts w s → left_behind (slice_index w.variables) with rd ≡ left_behind (reg s) with rd
left_shown parts w s Ones rd low h = refl
left_shown parts w s Register rd low h = word_of parts w s rd low h

pub exchange_as : (with : Exchanging) (rd : ℕ) (address out : Expr) (width : NumberWidth) → rd < 32 → bytes_of_width width ≡ bytes_in (exchanged_size with) →
    ((v : List ℕ) → value v out ≡ left_behind (slice_index v) with rd) → (old one two three four new : List Stmt) → one ≡ old ++ Set 40 address ∷ [] →
    two ≡ one ++ Set 41 out ∷ [] → three ≡ two ++ Load 42 width (Variable 40) ∷ [] → four ≡ three ++ Store width (Variable 40) (Variable 41) ∷ [] →
    new ≡ four ++ assigned rd (Variable 42) → AddsAccess (transfer.Exchange with) rd address old new
exchange_as with rd address out width low same goes_out old one two three four new a b c d e =
    exchange_made with rd address out width low same (λ parts w s h. goes_out w.variables ∙ left_shown parts w s with rd low h) old new
    (in_order old one two new _ _ (Load 42 width (Variable 40) ∷ Store width (Variable 40) (Variable 41) ∷ assigned rd (Variable 42)) a b (in_order two three four new _ _ _ c d e))
