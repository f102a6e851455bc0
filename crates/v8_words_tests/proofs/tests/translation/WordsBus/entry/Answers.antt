use Rattle.std.proofs.Common.{◌/◌, sym, arith, rules}
use Rattle.v8_words_tests.proofs.WordBus.{word_there, no_word_aside, no_word_past, bytes_small}
use Rattle.v8_words_tests.proofs.tests.translation.WordsBus.entry.Goals as goal

pub returns-then-pa-ne0-clause-value : goal.returns-then-pa-ne0-clause-value
returns-then-pa-ne0-clause-value g c = sym (no_word_aside c.args.self.now.words c.args.pa c.if-pa-ne0.true)

pub returns-then-number-words-clause-value : goal.returns-then-number-words-clause-value
returns-then-number-words-clause-value g c = sym (no_word_past c.args.self.now.words c.args.pa c.if-number-words.true)

pub returns-clause-value : goal.returns-clause-value
returns-clause-value g c =
    let whole = c.if-pa-ne0.false in
    sym (word_there c.args.self.now.words c.args.pa (c.args.pa / 4) (omega arith) c.if-number-words.false (search (arith, rules)))

pub returns-clause-bytes : goal.returns-clause-bytes
returns-clause-bytes g c h = bytes_small c.args.self.now.words c.args.pa
