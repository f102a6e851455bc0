-- A run told in words.
use Rattle.std.specs.Prelude.{ℕ, ◌/◌, ◌%◌, Bool, ◌==◌, ◌||◌, if◌then◌else◌, List, [], ◌++◌, codes, slice_index}
use Rattle.std.specs.Fmt.{decimal}
use Rattle.v8_board.specs.declared.outcome.Ending.{Ending}
use Rattle.v8_board.specs.declared.outcome.Ending.TheVariants.{Exit, Trapped, ErrorMode, Limit}
use Rattle.v8_board.specs.declared.page_use.PageUse.{PageUse}
use Rattle.inspect_lines.specs.Words.{trap_text, word_text}
use Rattle.inspect_lines.specs.Faults.{status_text}
use Rattle.inspect_lines.specs.Output.{line_end, output_text}
use Rattle.inspect_lines.specs.Marks.{marks_text}
use Rattle.inspect_run.specs.declared.run.Run.{Run}

-- ---- the end

abbrev pub trapped_text : ℕ → ℕ → List ℕ
trapped_text t place = codes "stopped by trap " ++ (trap_text t ++ (codes " of the instruction at " ++ word_text place))

abbrev pub error_text : ℕ → List ℕ
error_text t = codes "error mode by trap " ++ trap_text t

-- what failed, by the upper half of an exit word, where that is the number of a test that `fit` adds
abbrev pub test_name : ℕ → List ℕ
test_name kind =
    if kind == 1 then codes "an index leaves its object"
    else (if kind == 2 then codes "a pointer leaves the data, isn't aligned, or leads to a constant"
    else (if kind == 3 then codes "a divisor is 0"
    else (if kind == 4 then codes "the loops have used up their turns"
    else (if kind == 5 then codes "calls go too deep"
    else (if kind == 9 then codes "a call through a pointer that is no function's"
    else codes "nothing that has a name")))))

-- whether a test has this number
abbrev pub is_test : ℕ → Bool
is_test kind = (kind == 1) || ((kind == 2) || ((kind == 3) || ((kind == 4) || ((kind == 5) || (kind == 9)))))

-- the line that an exit word of a test has behind it: nothing where the word is no test's
abbrev pub test_text : ℕ → List ℕ
test_text word =
    if is_test (word / 65536)
    then codes "\n  as where a test fails, in line " ++ (decimal (word % 65536) ++ (codes ": " ++ test_name (word / 65536)))
    else []

abbrev pub exit_text : ℕ → List ℕ
exit_text word = codes "exit with the word " ++ (word_text word ++ test_text word)

abbrev pub ending_text : Ending → ℕ → List ℕ
ending_text (Exit word) place = exit_text word
ending_text (Trapped t) place = trapped_text t place
ending_text (ErrorMode t) place = error_text t
ending_text Limit place = codes "none: it would go on behind the limit"

-- ---- pages

-- the marks of a table's 64 pages, behind its name and its first page's address
abbrev pub table_text : List ℕ → ℕ → ℕ → List ℕ
table_text name referenced modified = name ++ marks_text referenced modified 64

abbrev pub pages_text : PageUse → List ℕ
pages_text pages =
    codes "pages, each a mark: R referenced, M modified"
    ++ (table_text (codes "\n  code  00040000 ") (slice_index pages.referenced 0) (slice_index pages.modified 0)
    ++ (table_text (codes "\n  data  00080000 ") (slice_index pages.referenced 1) (slice_index pages.modified 1)
    ++ (table_text (codes "\n  stack 000C0000 ") (slice_index pages.referenced 2) (slice_index pages.modified 2)
    ++ line_end)))

-- ---- the whole

abbrev pub counts_text : ℕ → ℕ → Run → List ℕ
counts_text windows limit run =
    codes "end: " ++ (ending_text run.raw.outcome.ending run.trapped_at
    ++ (codes "\nturns: "
    ++ (decimal run.raw.outcome.turns
    ++ (codes " of at most " ++ (decimal limit ++ (codes ", on " ++ (decimal windows
    ++ (codes " windows\nwindow traps: "
    ++ (decimal run.raw.outcome.overflows ++ (codes " overflows, " ++ (decimal run.raw.outcome.underflows
    ++ codes " underflows\n")))))))))))

abbrev pub run_text : ℕ → ℕ → Run → List ℕ
run_text windows limit run =
    output_text run.raw.output.items ++ counts_text windows limit run ++ pages_text run.raw.pages
    ++ (codes "fault status: " ++ (status_text run.raw.fault_status ++ line_end))
