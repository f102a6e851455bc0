-- How much an access moves (chapter 5, "Memory Alignment Restrictions"; appendix B).
use Rattle.std.specs.Prelude.{ℕ}
use Rattle.v8_word.specs.declared.Size.{Size}
use Rattle.v8_word.specs.declared.Size.TheVariants.{Byte, Half, Word, Double}

-- how many bytes a number of this size has
abbrev pub bytes_in : Size → ℕ
bytes_in Byte = 1
bytes_in Half = 2
bytes_in Word = 4
bytes_in Double = 8
