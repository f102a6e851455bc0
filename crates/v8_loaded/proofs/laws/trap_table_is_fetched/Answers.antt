use Rattle.v8_loaded.proofs.Fetches.{fetches_table}
use Rattle.v8_loaded.proofs.laws.trap_table_is_fetched.Goals as goal

pub returns : goal.returns
returns c = λ n g code ram mmu k root few loaded small. fetches_table n g code ram mmu few loaded root k small
