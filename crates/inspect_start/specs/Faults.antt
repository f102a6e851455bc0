-- What is told of a line that isn't right.
use Rattle.std.specs.Prelude.{ℕ, List, codes}
use Rattle.inspect_start.specs.declared.fault.StartCause.{StartCause}
use Rattle.inspect_start.specs.declared.fault.StartCause.TheVariants.{Text, Name, Count, Number, Address, Window, Place, Room}
use Rattle.inspect_start.specs.declared.fault.StartCause.TheVariants.{Memory}

abbrev pub text_of : StartCause → List ℕ
text_of Text = codes "isn't text"
text_of Name = codes "begins with no name or address that there is"
text_of Count = codes "a name has one number behind it, and an address one word or more"
text_of Number =
    codes "a number is 0x and hexadecimal digits, or decimal digits, of 32 bits at most, of context_table 36"
text_of Address = codes "a word lies at a multiple of 4 below 0x100000"
text_of Window = codes "there is no such window"
text_of Place = codes "pc, npc and context_table are multiples of 4"
text_of Room = codes "doesn't fit into RAM there"
text_of (Memory want) = codes "memory"
