-- The register is %g3, and the outcome's turns are those of the state.
use Rattle.std.proofs.Common.{◌≡◌, ℕ, ◌<◌, Option, refl, subst}
use Rattle.std.specs.Option.{SomeIff}
use Rattle.v8_board.specs.Runs.{outcome_of}
use Rattle.sbx_bench.proofs.ways.register.Goals as goal

pub returns : goal.returns
unfolding outcome_of
returns c =
    let number : c.unwrap.result ≡ 3 = (subst (λ (found : Option ℕ). SomeIff found (3 < 32) 3) c.unwrap.ensures c.new.ensures).1 in
    rw (c.outcome.ensures, c.reg.ensures, number) refl
