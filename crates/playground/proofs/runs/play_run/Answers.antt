use Rattle.std.proofs.Common.{◌≡◌, ◌++◌, ℕ, List, length, ap, ◌∙◌, subst, arith}
use Rattle.std.specs.Prelude.{drop}
use Rattle.playground.proofs.runs.play_run.Goals as goal

pub returns-in-Ok-clause-told : goal.returns-in-Ok-clause-told
returns-in-Ok-clause-told c = λ done.
    let same = c.as_slice.ensures.value in
    let handed = subst (λ (l : List ℕ). c.hand_on.new.room ≡ l ++ drop (length l) c.args.room.now) same (c.hand_on.ensures.handed done) in
    (c.in-Ok.text.items, c.in-Ok.ensures.told, handed, c.hand_on.ensures.needed ∙ ap length same)

pub returns-in-Ok-clause-small : goal.returns-in-Ok-clause-small
returns-in-Ok-clause-small c = λ is.
    let needed = c.hand_on.ensures.needed ∙ ap length c.as_slice.ensures.value in
    let told = c.hand_on.ensures.needed in
    let (room, less) = c.hand_on.ensures.small (λ ok. omega (arith, is, ok)) in
    (c.in-Ok.text.items, c.in-Ok.ensures.told, needed, omega (arith, less, told))
