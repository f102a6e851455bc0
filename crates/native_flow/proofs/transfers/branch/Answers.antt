use Rattle.std.proofs.Common.{ap, ◌∙◌, subst, arith}
use Rattle.v8_meaning.specs.Operands.{is_always, is_never}
use Rattle.native_flow.specs.Labelling.{label_at, labels_of}
use Rattle.native_flow.specs.Transfers.{IsDecided}
use Rattle.native_flow.proofs.Endings.{asks_so, detaches_so, jumps_so, passes_so, undecided}
use Rattle.native_flow.proofs.Making.{on_ok}
use Rattle.native_flow.proofs.transfers.branch.Goals as goal

pub returns-in-Always : goal.returns-in-Always
returns-in-Always c =
    let b = c.args.branch.now in
    let p = c.args.place.now in
    let starts = c.args.labels.now.starts.items in
    let mid = c.turns.new.self in
    on_ok c.decided.result (λ made h parts f start some asks has stands. jumps_so parts (labels_of starts) f start c.args.edge_label some p.address b p.slot c.args.making mid made
    (record { at = c.in_ok-turns.ensures.list; turns = c.in_ok-turns.ensures.turns (omega arith) }) asks has (ap is_always c.in-Always.is) stands
    (subst (λ l. IsDecided b.annul p.slot l mid made) (c.at-target.ensures ∙ ap (label_at starts) c.target.ensures) h)) c.decided.ensures

pub returns-in-Never : goal.returns-in-Never
returns-in-Never c =
    let b = c.args.branch.now in
    let p = c.args.place.now in
    let starts = c.args.labels.now.starts.items in
    let mid = c.turns.new.self in
    on_ok c.decided-in-Never.result (λ made h parts f start some asks has stands. passes_so parts (labels_of starts) f start c.args.edge_label some p.address b p.slot c.args.making mid made
    (record { at = c.in_ok-turns.ensures.list; turns = c.in_ok-turns.ensures.turns (omega arith) }) asks has (ap is_never c.in-Never.is) stands
    (subst (λ l. IsDecided b.annul p.slot l mid made) (c.at-behind.ensures ∙ ap (label_at starts) c.behind.ensures) h)) c.decided-in-Never.ensures

pub returns-in_default : goal.returns-in_default
returns-in_default c =
    let b = c.args.branch.now in
    let p = c.args.place.now in
    let starts = c.args.labels.now.starts.items in
    on_ok c.detaching.result (λ made h parts f start some asks has stands. detaches_so parts (labels_of starts) f start c.args.edge_label some p.address b p.slot c.args.making c.turns.new.self made
    (record { at = c.in_ok-turns.ensures.list; turns = c.in_ok-turns.ensures.turns (omega arith) }) asks has (undecided b.cond c.in_default.not-Never c.in_default.not-Always) c.if-branch.true stands h)
    c.detaching.ensures

pub returns-in_default-2 : goal.returns-in_default-2
returns-in_default-2 c =
    let b = c.args.branch.now in
    let p = c.args.place.now in
    let starts = c.args.labels.now.starts.items in
    on_ok c.asking.result (λ made h parts f start some asks has stands. asks_so parts (labels_of starts) f start c.args.edge_label some p.address b p.slot c.args.making c.turns.new.self made
    (record { at = c.in_ok-turns.ensures.list; turns = c.in_ok-turns.ensures.turns (omega arith) }) asks has (undecided b.cond c.in_default-2.not-Never c.in_default-2.not-Always) c.if-branch.false stands h)
    c.asking.ensures
