-- What exit words of tests tell.
use Rattle.std.specs.Prelude.{ℕ, ◌==◌, if◌then◌else◌, List, [], codes}

-- what failed, by the upper half of an exit word, where that is the number of a test that `fit` adds; else nothing
abbrev pub test_name : ℕ → List ℕ
test_name kind =
    if kind == 1 then codes "an index leaves its object"
    else (if kind == 2 then codes "a pointer leaves the data, isn't aligned, or leads to a constant"
    else (if kind == 3 then codes "a divisor is 0"
    else (if kind == 4 then codes "the loops have used up their turns"
    else (if kind == 5 then codes "calls go too deep"
    else (if kind == 9 then codes "a call through a pointer that is no function's"
    else [])))))
