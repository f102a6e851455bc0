use Rattle.std.proofs.Common.{◌≡◌, ℕ, ◌<◌, ◌≤◌, ◌^◌, List, [], ◌∷◌, ◌++◌, take, length, sym, subst, arith, rules}
use Rattle.std.specs.Prelude.{◌==◌}
use Rattle.engine_runs.specs.Answer.{HasRead}
use Rattle.engine_runs.specs.Steps.{turns_of}
use Rattle.engine_runs.specs.declared.tally.Tally.{Tally}
use Rattle.engine_runs.proofs.Ran.{byte_read, end_read}
use Rattle.engine_runs.proofs.Stepping.{byte_asks, byte_within, room_asks, room_within}
use Rattle.engine_runs.proofs.runs.serve.Goals as goal

pub returns-then-read-input : goal.returns-then-read-input
returns-then-read-input c =
    let old = c.args.course.now in
    let new = c.take_byte.new.self in
    let counts = sym c.take_byte.ensures.counts in
    let less = c.if-read-input.true in (
      λ parts n. byte_read parts n c.args.input.now c.args.output.now.items c.args.read.now old new less (c.take_byte.ensures.goes parts n),
      omega (arith, less),
      subst (λ (t : Tally). turns_of old < t.traffic.turns) counts (byte_asks (2 ^ 62) old c.args.halt c.in-Byte.after c.in-Byte.is c.requires.halts).more,
      subst (λ (t : Tally). t.traffic.turns ≤ 2 ^ 62) counts (byte_within (2 ^ 62) old c.args.halt c.in-Byte.after c.in-Byte.is c.requires.halts),
    )

pub returns-else-read-input : goal.returns-else-read-input
returns-else-read-input c =
    let old = c.args.course.now in
    let new = c.take_end.new.self in
    let counts = sym c.take_end.ensures.counts in (
      λ parts n. end_read parts n c.args.input.now c.args.output.now.items c.args.read.now old new c.requires.within (search rules) (c.take_end.ensures.goes parts n),
      c.requires.within,
      subst (λ (t : Tally). turns_of old < t.traffic.turns) counts (byte_asks (2 ^ 62) old c.args.halt c.in-Byte.after c.in-Byte.is c.requires.halts).more,
      subst (λ (t : Tally). t.traffic.turns ≤ 2 ^ 62) counts (byte_within (2 ^ 62) old c.args.halt c.in-Byte.after c.in-Byte.is c.requires.halts),
    )

pub returns-in_ok-push-in-Room : goal.returns-in_ok-push-in-Room
returns-in_ok-push-in-Room c =
    let old = c.args.course.now in
    let counts = sym c.give_byte.ensures.counts in
    let put : c.push.new.self.items ≡ c.args.output.now.items ++ c.give_byte.result ∷ [] = search rules in (
      λ parts n has. subst (λ (w : List ℕ). HasRead parts n c.args.input.now c.args.read.now w c.give_byte.new.self) (sym put)
          (c.give_byte.ensures.goes parts n (take c.args.read.now c.args.input.now) c.args.output.now.items (c.args.read.now == length c.args.input.now) has),
      c.requires.within,
      subst (λ (t : Tally). turns_of old < t.traffic.turns) counts (room_asks (2 ^ 62) old c.args.halt c.in-Room.after c.in-Room.is c.requires.halts).more,
      subst (λ (t : Tally). t.traffic.turns ≤ 2 ^ 62) counts (room_within (2 ^ 62) old c.args.halt c.in-Room.after c.in-Room.is c.requires.halts),
    )
