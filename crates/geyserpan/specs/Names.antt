-- What an exit word says of the tests that the front end adds.
use Rattle.std.specs.Prelude.{ℕ, ◌/◌, Bool, ◌==◌, ◌&&◌, ◌||◌, nat_le, if◌then◌else◌}

-- the kinds of tests: an index, a pointer, a divisor, loops, the depth of calls; a call through a pointer
abbrev pub is_kind : ℕ → Bool
is_kind k = (nat_le 1 k && nat_le k 5) || (k == 9)

-- the kind of the test that ended with this word, 0 where none did: the word's upper half
abbrev pub test_of : ℕ → ℕ
test_of word = if is_kind (word / 65536) then word / 65536 else 0
