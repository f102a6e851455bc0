use Rattle.sbx_port.proofs.Followed.{nothing_comes, turn_follow}
use Rattle.sbx_port.proofs.laws.turns_follow.Goals as goal

pub returns-clause-follow : goal.returns-clause-follow
returns-clause-follow c = λ n met x l j w s t f fine. turn_follow n met x l j w s t f fine

pub returns-clause-nothing_comes : goal.returns-clause-nothing_comes
returns-clause-nothing_comes c = λ n s none. nothing_comes n s none
