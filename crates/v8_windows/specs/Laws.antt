-- Laws of the map of registers.
use Rattle.std.specs.Prelude.{ℕ, ◌≡◌, ◌≢◌, ◌<◌, ◌≤◌, ◌+◌, ◌==◌, ◌&&◌, if◌then◌else◌}
use Rattle.v8_windows.specs.Windows.{Windows, IsFile, reg_of, with_reg, word_at, window_of, place_of, below, moved}

-- a register but r0 reads what was written to it
abbrev pub ReadsWritten : Type 0
ReadsWritten = (n : ℕ) (v : Windows) (r x : ℕ) → IsFile n v → 1 ≤ r → r < 32 → reg_of n (with_reg n v r x) r ≡ x

-- every other register reads as before
abbrev pub ReadsOthers : Type 0
ReadsOthers = (n : ℕ) (v : Windows) (r s x : ℕ) → IsFile n v → r < 32 → s < 32 → s ≢ r →
    reg_of n (with_reg n v r x) s ≡ reg_of n v s

-- a write changes one place of the map
abbrev pub WritesOnePlace : Type 0
WritesOnePlace = (n : ℕ) (v : Windows) (r x w k : ℕ) → IsFile n v → 8 ≤ r → r < 32 →
    word_at (with_reg n v r x) w k ≡ (if (w == window_of n v.current r) && (k == place_of r) then x else word_at v w k)

-- the outs of a window are the ins of the window below
abbrev pub OutsAreIns : Type 0
OutsAreIns = (n : ℕ) (v : Windows) (r : ℕ) → IsFile n v → 8 ≤ r → r < 16 →
    reg_of n (moved v (below n v.current)) (r + 16) ≡ reg_of n v r
