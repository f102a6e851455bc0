-- What a block of an image keeps, as far as its fuel is concerned.
use Rattle.std.specs.Prelude.{ℕ, ◌≤◌, length}
use Rattle.sbx_image.specs.Block.{Block}
use Rattle.sbx_image.specs.Function.{Function}
use Rattle.sbx_form.specs.Forms.{AscendFrom}
use Rattle.sbx_rules.specs.Forms.{Form}
use Rattle.sbx_rules.specs.Known.{Known, started}
use Rattle.sbx_rules.specs.Ways.{cells_of, counted}
use Rattle.sbx_fuel.specs.Margins.{AreSome}
use Rattle.sbx_fuel.specs.Least.{AreNonzero}

-- what is known where a block of a function starts, and its fuel
abbrev pub first_of : Function → ℕ → Block → Known
first_of function b block = started (cells_of function b block)

abbrev pub fuel_of : Function → ℕ → Block → Form
fuel_of function b block = record { constant = block.fuel; terms = counted (cells_of function b block) block.terms }

-- What a block of an image has that keeps the format's limits: few terms, in ascending order, none of them 0, over
-- cells with ranges.
pub record IsKeptBlock (function : Function) (b : ℕ) (block : Block) : Type 0 where
  pub few : length block.terms ≤ 8
  pub ascend : AscendFrom 0 (fuel_of function b block).terms
  pub nonzero : AreNonzero (fuel_of function b block).terms
  pub ranges : AreSome (first_of function b block)
