-- What a port whose bytes are carried is seen as.
use Rattle.std.specs.Prelude.{ℕ, ◌≡◌, ◌≢◌, ◌<◌, List, [], ◌∷◌, Option, Some, None}
use Rattle.v8_core.specs.PortFault.{PortFault}
use Rattle.v8_core.specs.PortFault.TheVariants.{Memory, Reader, Writer}
use Rattle.sbx_port.specs.declared.mailbox.Mail.{Mail}
use Rattle.sbx_port.specs.declared.mailbox.Mail.TheVariants.{Waiting, Byte, Ended}

-- the input as far as it is known, the byte of output that wasn't taken away, how often it was called, how often it has
-- failed since bytes were carried, and the fault that it answered last
pub record Held : Type 0 where
  pub input : List ℕ
  pub output : List ℕ
  pub calls : ℕ
  pub failed : ℕ
  pub fault : PortFault

-- What stands in the input for all that isn't known yet. It is no byte that anyone has read: a port that waits fails,
-- and a turn that fails changes nothing.
abbrev pub mark : ℕ
mark = 0

abbrev pub unknown : List ℕ
unknown = mark ∷ []

abbrev pub input_of : Mail → List ℕ
input_of Waiting = unknown
input_of (Byte b) = b ∷ unknown
input_of Ended = []

abbrev pub output_of : Option ℕ → List ℕ
output_of (Some b) = b ∷ []
output_of None = []

-- what a port that has failed lacks: a byte of input, or room for one of output
abbrev pub Lacks : PortFault → Mail → Option ℕ → Type 0
Lacks Reader mail slot = mail ≡ Waiting
Lacks Writer mail slot = slot ≢ None
Lacks (Memory want) mail slot = slot ≢ None

abbrev pub IsWhy : ℕ → PortFault → Mail → Option ℕ → Type 0
IsWhy failures fault mail slot = 0 < failures → Lacks fault mail slot
