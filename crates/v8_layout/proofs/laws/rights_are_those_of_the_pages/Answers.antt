use Rattle.v8_layout.proofs.Rights.{rights_hold, stores_are_forbidden}
use Rattle.v8_layout.proofs.laws.rights_are_those_of_the_pages.Goals as goal

pub returns-clause-exact : goal.returns-clause-exact
returns-clause-exact c = rights_hold

pub returns-clause-forbidden : goal.returns-clause-forbidden
returns-clause-forbidden c = stores_are_forbidden
