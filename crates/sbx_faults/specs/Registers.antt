-- What a test asks of a register.
use Rattle.std.specs.Prelude.{ℕ, Bool, ◌&&◌, ◌==◌, not}
use Rattle.sbx_rules.specs.Known.{Known}
use Rattle.sbx_rules.specs.Operations.{is_reserved}
use Rattle.sbx_rules.specs.Rules.{is_defined}

-- it may hold any word; %g0 is 0, and the reserved ones have a rule of their own
abbrev pub is_unknown : Known → ℕ → Bool
is_unknown d r = not (r == 0) && not (is_reserved r) && not (is_defined d r)
