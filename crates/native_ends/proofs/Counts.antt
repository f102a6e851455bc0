-- What a step counts beside what the program counts.
use Rattle.std.proofs.Common.{◌≡◌, ℕ, ◌+◌, ◌-◌, Bool, true, false, Option, ap, ◌∙◌, arith}
use Rattle.std.specs.Prelude.{◌==◌, if◌then◌else◌}
use Rattle.v8_meaning.specs.declared.operation.Operation.{Operation}
use Rattle.v8_meaning.specs.declared.operation.Operation.TheVariants.{Restore, Save, TrapOnCondition}
use Rattle.sbx_image.specs.Parts.{Parts}
use Rattle.sbx_flat.specs.Runs.{place_of}
use Rattle.sbx_flat.specs.States.{State}
use Rattle.sbx_flat.specs.Traffic.{after_operation, after_place, after_word}
use Rattle.sbx_flat.specs.Turns.{word_at}
use Rattle.sbx_flat.specs.declared.path.Traffic.{Traffic}
use Rattle.native_lang.specs.Counts.{enters, leaves, makes}
use Rattle.native_results.specs.Words.{counts_after, is_straight}
use Rattle.native_ends.specs.Translations.{AsksFor, turns_of}

abbrev traffic_of : (windows overflows underflows turns : ℕ) → Traffic
traffic_of windows overflows underflows turns = record { windows = windows; overflows = overflows; underflows = underflows; turns = turns }

same_traffic : (windows overflows underflows a b : ℕ) → a ≡ b → traffic_of windows overflows underflows a ≡ traffic_of windows overflows underflows b
same_traffic windows overflows underflows a b e = ap (traffic_of windows overflows underflows) e

pub makes_more : (j k : ℕ) (t : Traffic) → makes k (makes j t) ≡ makes (j + k) t
makes_more j k t = same_traffic t.windows t.overflows t.underflows (t.turns + j + k) (t.turns + (j + k)) (omega arith)

pub makes_none : (t : Traffic) → makes 0 t ≡ t
makes_none t = same_traffic t.windows t.overflows t.underflows (t.turns + 0) t.turns (omega arith)

-- ---- a word

by_full : (b : Bool) (k a c d : ℕ) (t : Traffic) →
    (if b then record t { overflows = t.overflows + 1; turns = (t.turns + k) + a } else record t { windows = t.windows + 1; turns = (t.turns + k) + c }) ≡
    makes k (if b then record t { overflows = t.overflows + 1; turns = t.turns + a } else record t { windows = t.windows + 1; turns = t.turns + c })
by_full true k a c d t = same_traffic t.windows (t.overflows + 1) t.underflows (t.turns + k + a) (t.turns + a + k) (omega arith)
by_full false k a c d t = same_traffic (t.windows + 1) t.overflows t.underflows (t.turns + k + c) (t.turns + c + k) (omega arith)

by_last : (b : Bool) (k a c d : ℕ) (t : Traffic) →
    (if b then record t { underflows = t.underflows + 1; turns = (t.turns + k) + a } else record t { windows = t.windows - 1; turns = (t.turns + k) + c }) ≡
    makes k (if b then record t { underflows = t.underflows + 1; turns = t.turns + a } else record t { windows = t.windows - 1; turns = t.turns + c })
by_last true k a c d t = same_traffic t.windows t.overflows (t.underflows + 1) (t.turns + k + a) (t.turns + a + k) (omega arith)
by_last false k a c d t = same_traffic (t.windows - 1) t.overflows t.underflows (t.turns + k + c) (t.turns + c + k) (omega arith)

no_more : (k : ℕ) (t : Traffic) → makes k t ≡ makes (k + 0) t
no_more k t = ap (λ (x : ℕ). makes x t) (omega arith)

pub straight_counts : (n : ℕ) (op : Operation) (k : ℕ) (t : Traffic) → is_straight op ≡ true → after_operation n op (makes k t) ≡ makes (k + turns_of op) (counts_after n op t)
straight_counts n (Save f) k t h = by_full (t.windows == n - 1) k 25 1 0 t ∙ no_more k (enters n t)
straight_counts n (Restore f) k t h = by_last (t.windows == 1) k 25 1 0 t ∙ no_more k (leaves t)
straight_counts n (TrapOnCondition x) k t h = absurd (cc)
straight_counts n _ k t h = makes_more k 1 t

pub turn_counts : (n : ℕ) (op : Operation) (k turns : ℕ) (t : Traffic) → after_operation n op (makes k t) ≡ makes turns (makes k t) → after_operation n op (makes k t) ≡ makes (k + turns) t
turn_counts n op k turns t e = e ∙ makes_more k turns t

-- ---- a place

pub word_counted : (parts : Parts) (n : ℕ) (s : State) (op : Operation) (t : Traffic) → s.annulled ≡ false → AsksFor parts s.pc op → after_place parts n (place_of parts s) t ≡ after_operation n op t
unfolding after_place place_of
word_counted parts n s op t runs asks =
    ap (λ (b : Bool). if b then makes 1 t else after_word n (word_at parts.words s.pc) t) runs
    ∙ ap (λ (o : Option ℕ). after_word n o t) asks.1 ∙ ap (λ (o : Operation). after_operation n o t) asks.2

pub annulled_counted : (parts : Parts) (n : ℕ) (s : State) (t : Traffic) → s.annulled ≡ true → after_place parts n (place_of parts s) t ≡ makes 1 t
unfolding after_place place_of
annulled_counted parts n s t annulled = ap (λ (b : Bool). if b then makes 1 t else after_word n (word_at parts.words s.pc) t) annulled
