use Rattle.std.proofs.Common.{ap, sym, refl}
use Rattle.v8_words_tests.proofs.WordBus.{words_beside}
use Rattle.v8_words_tests.proofs.tests.translation.WordsBus.swap.Goals as goal

pub returns-in-Some-clause-elsewhere : goal.returns-in-Some-clause-elsewhere
returns-in-Some-clause-elsewhere g c = rw c.in-Word.is (words_beside _ _ _ _ (rw (sym c.in-Some.ensures.value) refl) (ap (λ s. s.held.ram) c.set_entry.ensures))
