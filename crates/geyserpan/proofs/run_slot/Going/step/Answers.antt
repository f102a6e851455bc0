use Rattle.std.proofs.Common.{◌≡◌, ℕ, List, ◌++◌, length, take, refl, sym, ap, ◌∙◌, arith}
use Rattle.std.proofs.lemmas.List.{take-append-drop}
use Rattle.geyserpan.specs.declared.run_slot.Done.{Done}
use Rattle.geyserpan.specs.declared.run_slot.Going.{Going}
use Rattle.geyserpan.proofs.SteppedOn.{stepped_on}
use Rattle.geyserpan.proofs.run_slot.Going.step.Goals as goal

pub returns-clause-met : goal.returns-clause-met
returns-clause-met c = c.step-step.ensures.met

pub returns-clause-goes : goal.returns-clause-goes
returns-clause-goes c =
    let room = c.args.room.now in
    let front = c.split_at_mut-front.result.0.now in
    let rest = c.split_at_mut-front.result.1.now in
    let after = c.step-step.new.room in
    let most = c.min-most.result in
    let new : Going = record { session = c.step-step.new.self; granted = c.saturating_sub-self.result } in
    let done : Done = record { turns = c.turns.result; read = c.step-step.result.read; written = c.step-step.result.written; exit = c.status_of-status.result.1; zero = 0 } in
    let was : room ≡ front ++ rest =
    sym (ap (λ (l : List ℕ). l ++ rest) c.split_at_mut-front.ensures.front ∙ ap (λ (l : List ℕ). take most room ++ l) c.split_at_mut-front.ensures.back ∙ take-append-drop most room) in
    let long : length front ≡ length after = (let kept = c.step-step.auto.room in omega (arith, kept)) in
    let least = c.min-most.ensures in
    let size = c.split_at_mut-front.ensures.front_len in
    let told = c.status_of-status.ensures in
    stepped_on c.args.self.now new c.args.turns c.args.input.now room (after ++ rest) front after rest c.args.last c.step-step.result done
    c.status_of-status.result.0 c.step-step.ensures was refl long refl refl told.vouched told.ended told.holds
    c.turns.ensures (omega (arith, least, size)) c.saturating_sub-self.ensures told.wants
    (λ filled. (let (stand, fits) = told.full filled in (stand, omega (arith, least, size, fits))))
    (λ ends. (let (stand, fits) = told.cut ends in (stand, omega (arith, least, size, fits)))) told.paused told.exit refl
