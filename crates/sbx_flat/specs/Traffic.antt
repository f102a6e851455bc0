-- Which calls of a path a machine with n windows has no window for, and what its turns come to.
use Rattle.std.specs.Prelude.{ℕ, ◌+◌, ◌-◌, ◌==◌, if◌then◌else◌, List, [], ◌∷◌, Option, Some, None}
use Rattle.v8_meaning.specs.declared.operation.Operation.{Operation}
use Rattle.v8_meaning.specs.declared.operation.Operation.TheVariants.{Save, Restore}
use Rattle.sbx_image.specs.Parts.{Parts}
pub use Rattle.sbx_flat.specs.declared.path.Traffic.{Traffic}
use Rattle.sbx_flat.specs.Runs.{Place, weight_of}
use Rattle.sbx_flat.specs.Turns.{asked, word_at}

abbrev pub no_traffic : Traffic
no_traffic = record { windows = 1; overflows = 0; underflows = 0; turns = 0 }

-- with every window taken the oldest frame is spilled, and one stays taken (chapter 6, "window_overflow")
abbrev pub saved : ℕ → Operation → Traffic → Traffic
saved n op t =
    if t.windows == n - 1 then record t { overflows = t.overflows + 1; turns = t.turns + weight_of op }
    else record t { windows = t.windows + 1; turns = t.turns + 1 }

-- with one window taken the frame before is filled into it (chapter 6, "window_underflow")
abbrev pub restored : Operation → Traffic → Traffic
restored op t =
    if t.windows == 1 then record t { underflows = t.underflows + 1; turns = t.turns + weight_of op }
    else record t { windows = t.windows - 1; turns = t.turns + 1 }

abbrev pub after_operation : ℕ → Operation → Traffic → Traffic
after_operation n (Save f) t = saved n (Save f) t
after_operation n (Restore f) t = restored (Restore f) t
after_operation n op t = record t { turns = t.turns + weight_of op }

abbrev pub after_word : ℕ → Option ℕ → Traffic → Traffic
after_word n None t = record t { turns = t.turns + 1 }
after_word n (Some word) t = after_operation n (asked word) t

unfoldable pub after_place : Parts → ℕ → Place → Traffic → Traffic
after_place parts n place t =
    if place.annulled then record t { turns = t.turns + 1 } else after_word n (word_at parts.words place.pc) t

abbrev pub traffic_from : Parts → ℕ → List Place → Traffic → Traffic
traffic_from parts n [] t = t
traffic_from parts n (place ∷ path) t = traffic_from parts n path (after_place parts n place t)

-- the window traffic of a path from the start
abbrev pub traffic : Parts → ℕ → List Place → Traffic
traffic parts n path = traffic_from parts n path no_traffic
