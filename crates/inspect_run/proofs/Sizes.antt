-- What lies inside a struct that fits in memory fits too.
use Rattle.std.proofs.Common.{ℕ, ◌+◌, ◌<◌, ◌≤◌, arith}
use prog.Memory.{up}
use prog.Align.{up-ge}

ending : (e m n t : ℕ) → e + m ≤ t → t < n → m < n
ending e m n t outer h = omega arith

-- the last field
pub last_fits : (a e m n : ℕ) → up a (e + m) < n → m < n
last_fits a e m n h = ending e m n (up a (e + m)) (up-ge a (e + m)) h
