use Rattle.sbx_flat.proofs.Known.{pops_alike, pushes_alike, reads_alike, slots_alike, writes_alike}
use Rattle.sbx_flat.proofs.laws.known_words_stay_alike.Goals as goal

pub returns-clause-reads : goal.returns-clause-reads
returns-clause-reads c k s t r a small h = reads_alike k s t r a small h

pub returns-clause-writes : goal.returns-clause-writes
returns-clause-writes c k s t n v small a = writes_alike k s t n v small a

pub returns-clause-slots : goal.returns-clause-slots
returns-clause-slots c k a b address v h = slots_alike k a b address v h

pub returns-clause-pushes : goal.returns-clause-pushes
returns-clause-pushes c k a b fresh other base h = pushes_alike k a b fresh other base h

pub returns-clause-pops : goal.returns-clause-pops
returns-clause-pops c k a b h = pops_alike k a b h
