use Rattle.std.proofs.Common.{◌<◌, ◌∷◌, ℕ, List, length, drop, sym, ◌∙◌, subst, ap}
use Rattle.std.proofs.lemmas.Bool.{eqb-true}
use Rattle.inspect_start.specs.Lines.{words_of}
use Rattle.inspect_start.proofs.Splitting.{first_word_is, no_word, some_bytes, word_takes}
use Rattle.inspect_start.proofs.lines.first_word.Goals as goal

pub returns-then-is_empty-clause-words : goal.returns-then-is_empty-clause-words
returns-then-is_empty-clause-words c =
    no_word c.args.text.now c.trim_ascii_start-text.result.now c.trim_ascii_start-text.ensures.value (eqb-true _ 0 (sym c.is_empty.ensures ∙ c.if-is_empty.true))

pub returns-clause-words : goal.returns-clause-words
returns-clause-words c =
    let rest = c.trim_ascii_start-text.result.now in
    first_word_is c.args.text.now rest c.trim_ascii_start-text.ensures.value c.word_length.result c.word_length.ensures.value
    (some_bytes rest (sym c.is_empty.ensures ∙ c.if-is_empty.false))
    ∙ ap (λ (word : List ℕ). word ∷ words_of (drop c.word_length.result rest)) (sym c.split_at.ensures.front)
    ∙ ap (λ (after : List ℕ). c.split_at.result.0.now ∷ words_of after) (sym c.split_at.ensures.back)

pub returns-clause-fewer : goal.returns-clause-fewer
returns-clause-fewer c =
    let rest = c.trim_ascii_start-text.result.now in
    subst (λ (after : List ℕ). length after < length c.args.text.now) (sym c.split_at.ensures.back)
    (word_takes c.args.text.now rest c.trim_ascii_start-text.ensures.value c.word_length.result c.word_length.ensures.value
    (some_bytes rest (sym c.is_empty.ensures ∙ c.if-is_empty.false)))
