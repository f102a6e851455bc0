-- What is left to read behind a whole item, and what a reader that goes on from there needs to know.
use Rattle.std.specs.Prelude.{◌≡◌, ◌≢◌, ℕ, ◌≤◌, ◌<◌, List, ◌++◌, length, drop, Option, None, Some, Result, Ok, Err}
use Rattle.std.specs.Prelude.{◌==◌}
use Rattle.sbx_image.specs.ImageFault.{ImageFault}
use Rattle.sbx_image.specs.ImageFault.TheVariants as fault
use Rattle.want.specs.Wants.{refused}
use Rattle.sbx_image.specs.Next.TheVariants.{Exactly}
use Rattle.sbx_image.specs.Rules.{◌>>=◌, wants, FunctionsSoFar, code_start}
use Rattle.sbx_image.specs.Reading.{bytes_at, items_at, block_at, function_at, reading}
use Rattle.sbx_reader.specs.declared.stages.Stage.{Stage}
use Rattle.sbx_reader.specs.declared.stages.Stage.TheVariants.{Front, Body, Functions, Blocks}
use Rattle.sbx_reader.specs.Fronts.{lasting, front}

-- so many functions, and the end of the bytes
unfoldable pub functions_end : ℕ → ℕ → ℕ → FunctionsSoFar → List ℕ → Result (Unit {0}) ImageFault
functions_end version end left place bytes = do
  functions ← items_at (function_at version end) left (place, bytes)
  wants (length functions.1.1 == 0) fault.Trailing

-- The bytes behind what was read, to their end: the whole image, so many bytes and then functions, so many functions,
-- or so many blocks and then functions.
unfoldable pub rest_of : Stage → List ℕ → Result (Unit {0}) ImageFault
rest_of Front bytes = reading bytes >>= λ _. Ok tt
rest_of (Body count version end left) bytes =
    bytes_at count bytes >>= λ body. functions_end version end left (Exactly code_start, 0) body.1
rest_of (Functions version end left next total) bytes = functions_end version end left (next, total) bytes
rest_of (Blocks version end left next total blocks) bytes = do
  read ← items_at (block_at end) blocks (next, bytes)
  functions_end version end left (read.1.0, total) read.1.1

abbrev pub lasting_of : Result (Unit {0}) ImageFault → Result (Unit {0}) ImageFault
lasting_of (Ok x) = Ok tt
lasting_of (Err e) = lasting e

-- Whatever comes behind the bytes, what is behind the place tells of them all.
abbrev pub GoesOn : Stage → ℕ → List ℕ → Type 0
GoesOn stage at bytes =
    (at ≤ length bytes) × ((more : List ℕ) → front (bytes ++ more) ≡ lasting_of (rest_of stage (drop at bytes ++ more)))

-- An item that is whole: what comes next behind its bytes. Else its fault: that it isn't whole, which tells no fault of
-- the bytes, or one that they have whatever comes behind.
abbrev pub IsWhole : Stage → List ℕ → Result (Stage × ℕ) ImageFault → Type 0
IsWhole stage bytes (Ok (next, count)) = (0 < count) × (count ≤ length bytes)
    × ((more : List ℕ) → rest_of stage (bytes ++ more) ≡ rest_of next (drop count bytes ++ more))
IsWhole stage bytes (Err e) = e ≢ fault.Memory refused → (e ≡ fault.Short → lasting_of (rest_of stage bytes) ≡ Ok tt)
    × (e ≢ fault.Short → (more : List ℕ) → lasting_of (rest_of stage (bytes ++ more)) ≡ Err e)

-- One item is read, so many bytes of it; or none is whole, which tells no fault; or its fault is that of the bytes,
-- whatever comes behind.
abbrev pub IsItem : Stage → List ℕ → Result (Option (Stage × ℕ)) ImageFault → Type 0
IsItem stage bytes (Ok None) = lasting_of (rest_of stage bytes) ≡ Ok tt
IsItem stage bytes (Ok (Some (next, count))) = (0 < count) × (count ≤ length bytes)
    × ((more : List ℕ) → rest_of stage (bytes ++ more) ≡ rest_of next (drop count bytes ++ more))
IsItem stage bytes (Err e) = e ≢ fault.Memory refused → (more : List ℕ) →
    lasting_of (rest_of stage (bytes ++ more)) ≡ Err e

-- What was read on: from there it goes on, and no fault is told; or the fault is that of the bytes, if memory was
-- found.
abbrev pub IsResumed : List ℕ → Result (Stage × ℕ) ImageFault → Type 0
IsResumed bytes (Ok (stage, at)) = GoesOn stage at bytes × (front bytes ≡ Ok tt)
IsResumed bytes (Err e) = e ≢ fault.Memory refused → front bytes ≡ Err e
