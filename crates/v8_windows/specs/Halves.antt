-- How a register file is kept: halves of windows in two rings, and beside them the registers of the current window.
use Rattle.std.specs.Prelude.{ℕ, ◌≡◌, ◌<◌, ◌^◌, List, [], ◌∷◌, ◌++◌, length, take, drop, get_or, slice_index, slice_set}
use Rattle.v8_windows.specs.Windows.{Windows, above}

-- eight registers, from register at on: the globals from 0, the outs from 8, the locals from 16, the ins from 24
abbrev pub eight : ℕ → List ℕ → List ℕ
eight at flat = take 8 (drop at flat)

-- the words of registers 8 to 23 of each window, from its outs and its locals
unfoldable pub rows_of : List (List ℕ) → List (List ℕ) → List (List ℕ)
rows_of [] locals = []
rows_of (x ∷ outs) [] = []
rows_of (x ∷ outs) (y ∷ locals) = (x ++ y) ∷ rows_of outs locals

-- the ring of outs once the outs and ins of window w are written back; its ins are the outs of the window above
abbrev pub with_outs : ℕ → List (List ℕ) → List ℕ → ℕ → List (List ℕ)
with_outs n outs flat w = slice_set (slice_set outs w (eight 8 flat)) (above n w) (eight 24 flat)

-- the ring of locals once those of window w are written back
abbrev pub with_locals : List (List ℕ) → List ℕ → ℕ → List (List ℕ)
with_locals locals flat w = slice_set locals w (eight 16 flat)

-- what is kept stands for this
abbrev pub shown : ℕ → List (List ℕ) → List (List ℕ) → List ℕ → ℕ → ℕ → Windows
shown n outs locals flat w mask =
    record {
      globals = eight 0 flat;
      words = rows_of (with_outs n outs flat w) (with_locals locals flat w);
      current = w;
      mask = mask;
    }

-- eight words
pub record IsHalf (half : List ℕ) : Type 0 where
  pub count : length half ≡ 8
  pub fit : (k : ℕ) → slice_index half k < 2 ^ 32

-- eight words for each of n windows
pub record AreHalves (n : ℕ) (halves : List (List ℕ)) : Type 0 where
  pub count : length halves ≡ n
  pub each : (w : ℕ) → w < n → IsHalf (get_or halves w [])

-- the words of registers 0 to 31, the first 0
pub record AreRegisters (flat : List ℕ) : Type 0 where
  pub count : length flat ≡ 32
  pub zero : slice_index flat 0 ≡ 0
  pub fit : (r : ℕ) → slice_index flat r < 2 ^ 32
