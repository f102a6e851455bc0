-- Where the fuel of a block has to last.
use Rattle.std.specs.Prelude.{ℕ, Option, Some, None}
use Rattle.sbx_image.specs.Parts.{Parts}
use Rattle.sbx_rules.specs.Known.{Known}
use Rattle.sbx_rules.specs.Fuel.{IsPaid}
use Rattle.sbx_rules.specs.Ways.{To, Way, fuel_at, state_at}
use Rattle.sbx_known.specs.declared.courses.Course.{Course}
use Rattle.sbx_known.specs.Courses.{way_of}

-- after this weight, where d is known
abbrev pub IsPaidTo : Parts → ℕ → ℕ → ℕ → Known → Way → Type 0
IsPaidTo parts f b weight d (To t) = IsPaid (state_at parts f b 0) (fuel_at parts f b) weight d (fuel_at parts f t)
IsPaidTo parts f b weight d _ = Unit {0}

abbrev pub IsPaidOn : Parts → ℕ → ℕ → ℕ → Option Course → Known → Type 0
IsPaidOn parts f b weight None d = Unit {0}
IsPaidOn parts f b weight (Some c) d = IsPaidTo parts f b weight d (way_of c.going)
