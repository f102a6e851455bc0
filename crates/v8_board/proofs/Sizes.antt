-- What lies inside a struct that fits in memory fits too.
use Rattle.std.proofs.Common.{ℕ, ◌+◌, ◌<◌, ◌≤◌, arith}
use prog.Memory.{up}
use prog.Align.{up-ge}

within : (e k m n s t : ℕ) → s + k ≤ t → e + m ≤ s → t < n → m < n
within e k m n s t outer inner h = omega arith

-- the first of two fields, whose end is rounded up
pub first_fits : (a b e k m n : ℕ) → up a (up b (e + m) + k) < n → m < n
first_fits a b e k m n h = within e k m n (up b (e + m)) (up a (up b (e + m) + k)) (up-ge a (up b (e + m) + k)) (up-ge b (e + m)) h
