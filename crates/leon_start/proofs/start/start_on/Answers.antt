use Rattle.std.proofs.Common.{subst, sym}
use Rattle.leon_start.specs.Starts.{IsLeonStart}
use Rattle.leon_start.proofs.start.start_on.Goals as goal

pub returns-in-Ok-clause-start : goal.returns-in-Ok-clause-start
returns-in-Ok-clause-start g c =
    subst (λ n. IsLeonStart n c.args.image.now c.args.place.now c.args.own.now c.move_ram.new.ram) (sym c.requires.same) (record {
      start = c.in_ok-board.board.state;
      begun = c.in_ok-board.ensures.begun;
      size = c.move_ram.ensures.size;
      words = c.move_ram.ensures.words;
    })
