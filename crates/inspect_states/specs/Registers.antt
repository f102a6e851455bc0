-- Registers that hold other words than was told.
use Rattle.std.specs.Prelude.{ℕ, zero, suc, ◌/◌, ◌%◌, ◌==◌, nat_lt, if◌then◌else◌, List, [], ◌++◌, codes}
use Rattle.std.specs.Fmt.{decimal}
use Rattle.v8_core.specs.Windows.{Windows, moved, reg_of, with_reg}
use Rattle.inspect_lines.specs.Words.{word_text}

-- the letter of a group of eight registers (chapter 4): globals, outs, locals, ins
abbrev pub group_text : ℕ → List ℕ
group_text g = if g == 0 then codes "g" else (if g == 1 then codes "o" else (if g == 2 then codes "l" else codes "i"))

abbrev pub register_text : ℕ → ℕ → List ℕ
register_text r word = codes " " ++ (group_text (r / 8) ++ (decimal (r % 8) ++ (codes "=" ++ word_text word)))

-- a register of the current window, where it holds another word than is known
abbrev pub change_text : (n : ℕ) → Windows → Windows → ℕ → List ℕ
change_text n known now r = if reg_of n known r == reg_of n now r then [] else register_text r (reg_of n now r)

-- the same of the registers below a number, in their order
unfoldable pub changes_text : (n : ℕ) → Windows → Windows → ℕ → List ℕ
changes_text n known now zero = []
changes_text n known now (suc r) = changes_text n known now r ++ change_text n known now r

-- what is known of the registers, seen from a window that there is
abbrev pub entered : (n : ℕ) → Windows → ℕ → Windows
entered n known w = if nat_lt w n then moved known w else known

-- what is known once the registers below a number of the current window were told
unfoldable pub copied : (n : ℕ) → Windows → Windows → ℕ → Windows
copied n known now zero = known
copied n known now (suc r) = with_reg n (copied n known now r) r (reg_of n now r)
