use Rattle.std.proofs.Common.{ℕ, ap, ◌∙◌, sym, arith}
use Rattle.std.proofs.lemmas.Result.{on_ok_weaker}
use Rattle.native_text.specs.Terms.{ending_of}
use Rattle.native_text.specs.Lines.{action_lines, ending_lines, next_number}
use Rattle.native_text.specs.Words.{IsWord}
use Rattle.native_text.specs.Spelling.{all_points}
use Rattle.native_text.proofs.Blocks.{block-text, block-points}
use Rattle.native_text.proofs.Worded.{block-words}
use Rattle.native_text.proofs.statements.Body.block.Goals as goal

pub returns-clause-text : goal.returns-clause-text
returns-clause-text c =
    let block = c.args.block.now in
    on_ok_weaker c.end.result
    (λ e.
    block-text c.args.self.now.points c.head.new.self.points c.args.label c.args.is_head (action_lines block.statements.items)
    (ending_lines (next_number c.args.label) (ending_of block.end)) c.args.self.now.text c.label.new.self c.put.new.self
    c.head.new.self.text c.statements.new.self.text c.end.new.self c.in_ok-label.ensures c.in_ok-put.ensures
    c.in_ok-head.ensures.text c.in_ok-head.ensures.points (rw c.as_slice.ensures.value at c.in_ok-statements.ensures.text) e)
    c.end.ensures.text

pub returns-clause-points : goal.returns-clause-points
returns-clause-points c =
    let block = c.args.block.now in
    let n : ℕ = c.args.self.now.points in
    on_ok_weaker c.end.result
    (λ _.
    (rw c.as_slice.ensures.value at c.in_ok-statements.ensures.points)
    ∙ ap (λ (p : ℕ). all_points p (action_lines block.statements.items)) c.in_ok-head.ensures.points
    ∙ sym (block-points n c.args.label (next_number c.args.label) c.args.is_head (action_lines block.statements.items) (ending_of block.end)))
    c.end.ensures.text

pub returns-clause-words : goal.returns-clause-words
returns-clause-words c =
    let block = c.args.block.now in
    let small : IsWord c.args.label = omega arith in
    on_ok_weaker c.end.result
    (λ e.
    block-words c.args.label c.args.is_head (action_lines block.statements.items) (ending_lines (next_number c.args.label) (ending_of block.end))
    small (rw c.as_slice.ensures.value at c.in_ok-statements.ensures.words) e)
    c.end.ensures.words
