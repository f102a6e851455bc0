use Rattle.std.proofs.Common.{◌/◌, refl}
use Rattle.v8_words_tests.proofs.WordBus.{has_number, with_word}
use Rattle.v8_words_tests.proofs.tests.translation.WordsBus.set_entry.Goals as goal

pub bounds-words-pa : goal.bounds-words-pa
bounds-words-pa g c = (has_number c.args.self.now.words c.args.pa c.requires).less

pub returns : goal.returns
returns g c =
    let h = has_number c.args.self.now.words c.args.pa c.requires in
    rw (with_word c.args.self.now.words c.args.pa (c.args.pa / 4) c.args.word h.whole h.less) refl
