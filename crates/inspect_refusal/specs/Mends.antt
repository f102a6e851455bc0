-- What a location lacks of what is declared of it, and by how much it differs from what it was where its block began.
use Rattle.std.specs.Prelude.{◌≡◌, not, ℕ, ℤ, pos, int_lt, nat_le, [], ◌∷◌}
use Rattle.sbx_image.specs.Range.{Range}
use Rattle.sbx_domain.specs.Forms.{Form}
use Rattle.inspect_refusal.specs.declared.mends.Lack.{Lack}

-- the parts of `is_within`, one by one
pub record IsLack (inner outer : Range) (lack : Lack) : Type 0 where
  pub below : lack.below ≡ int_lt inner.lo outer.lo
  pub above : lack.above ≡ int_lt outer.hi inner.hi
  pub uneven : lack.uneven ≡ not (nat_le outer.alignment inner.alignment)

-- the number that a location began with, and so much more
abbrev pub more_than_began : ℕ → ℤ → Form
more_than_began l added = record { constant = added; terms = record { location = l; coefficient = pos 1 } ∷ [] }
