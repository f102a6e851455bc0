-- What a run gave, as JSON.
use Rattle.std.specs.Prelude.{ℕ, List, [], ◌∷◌, ◌++◌, codes, slice_index}
use Rattle.std.specs.List.{flat_map}
use Rattle.json.specs.Json.{Json, string}
use Rattle.json.specs.Token.{Token}
use Rattle.v8_board.specs.declared.outcome.Ending.{Ending}
use Rattle.v8_board.specs.declared.outcome.Ending.TheVariants.{Exit, Trapped, ErrorMode, Limit}
use Rattle.v8_board.specs.declared.page_use.PageUse.{PageUse}
use Rattle.inspect_lines.specs.Faults.{status_text}
use Rattle.inspect_lines.specs.Marks.{marks_text}
use Rattle.inspect_lines.specs.Words.{byte_text, trap_name}
use Rattle.inspect_run.specs.declared.run.Run.{Run}
use Rattle.inspect_json.specs.Objects.{member_tokens, object_of, unsigned}

-- ---- the end

abbrev pub exit_json : ℕ → Json
exit_json word = object_of ((codes "how", string (codes "exit")) ∷ (codes "word", unsigned word) ∷ [])

-- by a trap that no handler serves, of the instruction at that address
abbrev pub trapped_json : ℕ → ℕ → Json
trapped_json t place = object_of (
    (codes "how", string (codes "trap"))
    ∷ (codes "trap", unsigned t)
    ∷ (codes "name", string (trap_name t))
    ∷ (codes "address", unsigned place)
    ∷ []
    )

abbrev pub error_json : ℕ → Json
error_json t =
    object_of ((codes "how", string (codes "error")) ∷ (codes "trap", unsigned t) ∷ (codes "name", string (trap_name t))
    ∷ [])

abbrev pub limit_json : Json
limit_json = object_of ((codes "how", string (codes "limit")) ∷ [])

abbrev pub ending_json : Ending → ℕ → Json
ending_json (Exit word) place = exit_json word
ending_json (Trapped t) place = trapped_json t place
ending_json (ErrorMode t) place = error_json t
ending_json Limit place = limit_json

-- ---- the whole

-- a mark for each of the 64 pages of code, of data and of stack
abbrev pub pages_json : PageUse → Json
pages_json pages = object_of (
    (codes "code", string (marks_text (slice_index pages.referenced 0) (slice_index pages.modified 0) 64))
    ∷ (codes "data", string (marks_text (slice_index pages.referenced 1) (slice_index pages.modified 1) 64))
    ∷ (codes "stack", string (marks_text (slice_index pages.referenced 2) (slice_index pages.modified 2) 64))
    ∷ []
    )

-- the output in hexadecimal digits, two for each byte; and the fault status as a number and in words
abbrev pub run_json : ℕ → ℕ → Run → Json
run_json windows limit run = object_of (
    (codes "output", string (flat_map byte_text run.raw.output.items))
    ∷ (codes "end", ending_json run.raw.outcome.ending run.trapped_at)
    ∷ (codes "turns", unsigned run.raw.outcome.turns)
    ∷ (codes "limit", unsigned limit)
    ∷ (codes "windows", unsigned windows)
    ∷ (codes "overflows", unsigned run.raw.outcome.overflows)
    ∷ (codes "underflows", unsigned run.raw.outcome.underflows)
    ∷ (codes "pages", pages_json run.raw.pages)
    ∷ (codes "fault_status", unsigned run.raw.fault_status)
    ∷ (codes "fault", string (status_text run.raw.fault_status))
    ∷ []
    )

-- ---- on the way

abbrev pub count_tokens : ℕ → ℕ → Run → List Token
count_tokens windows limit run =
    member_tokens (codes "turns") (unsigned run.raw.outcome.turns)
    ++ (member_tokens (codes "limit") (unsigned limit)
    ++ (member_tokens (codes "windows") (unsigned windows)
    ++ (member_tokens (codes "overflows") (unsigned run.raw.outcome.overflows)
    ++ member_tokens (codes "underflows") (unsigned run.raw.outcome.underflows))))

abbrev pub status_tokens : ℕ → List Token
status_tokens status =
    member_tokens (codes "fault_status") (unsigned status)
    ++ member_tokens (codes "fault") (string (status_text status))

abbrev pub trap_tokens : ℕ → List Token
trap_tokens t = member_tokens (codes "trap") (unsigned t) ++ member_tokens (codes "name") (string (trap_name t))
