use Rattle.std.proofs.Common.{◌≡◌, ◌++◌, List, ℕ, ap, subst, ◌∙◌}
use Rattle.std.proofs.lemmas.Result.{on_ok_weaker}
use Rattle.json.specs.Json.{string}
use Rattle.inspect_lines.specs.Marks.{marks_text}
use Rattle.inspect_json.specs.Objects.{Adds, member_tokens}
use Rattle.inspect_json.proofs.runs.put_table.Goals as goal

pub returns : goal.returns
returns c =
    let marks : List ℕ = marks_text c.args.referenced c.args.modified 64 in
    let same : c.as_str.result.now ≡ marks =
    c.as_str.ensures.value ∙ c.in_ok-push_marks.ensures ∙ ap (λ (front : List ℕ). front ++ marks) c.new-text.ensures.bytes in
    on_ok_weaker c.put_text.result
    (λ h. subst (λ (text : List ℕ). Adds c.args.out.now c.put_text.new.out (member_tokens c.args.key.now (string text))) same h) c.put_text.ensures
