use Rattle.v8_loaded.proofs.Fetches.{fetches_handlers}
use Rattle.v8_loaded.proofs.laws.handlers_are_fetched.Goals as goal

pub returns : goal.returns
returns c = λ n g code ram mmu k root few loaded small. fetches_handlers n g code ram mmu few loaded root k small
