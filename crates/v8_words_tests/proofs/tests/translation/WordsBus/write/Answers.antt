use Rattle.std.proofs.Common.{ap, rules}
use Rattle.v8_words_tests.proofs.WordBus.{words_beside}
use Rattle.v8_words_tests.proofs.tests.translation.WordsBus.write.Goals as goal

pub returns-else-is_none-clause-elsewhere : goal.returns-else-is_none-clause-elsewhere
returns-else-is_none-clause-elsewhere g c = rw c.in-Word.is (words_beside _ _ _ _ (search rules) (ap (λ s. s.held.ram) c.set_entry.ensures))
