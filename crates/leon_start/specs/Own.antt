-- Words in the place of those that loading an image makes.
use Rattle.std.specs.Prelude.{ℕ, ◌-◌, nat_le, nat_lt, ◌&&◌, List, [], ◌∷◌, length, slice_index, Option, Some, None}
use Rattle.std.specs.Prelude.{if◌then◌else◌}
use Rattle.leon_start.specs.declared.own.OwnWords.{OwnWords}

-- the word of number k that these are, which begin with word `first` of RAM
abbrev pub word_in : OwnWords → ℕ → Option ℕ
word_in own k =
    if nat_le own.first k && nat_lt (k - own.first) (length own.words.now) then Some (slice_index own.words.now (k - own.first))
    else None

-- the first that is there
abbrev pub first_of : Option ℕ → Option ℕ → Option ℕ
first_of (Some w) other = Some w
first_of None other = other

-- the word of number k by the first of the parts that have it
abbrev pub own_word : List OwnWords → ℕ → Option ℕ
own_word [] k = None
own_word (part ∷ parts) k = first_of (word_in part k) (own_word parts k)
