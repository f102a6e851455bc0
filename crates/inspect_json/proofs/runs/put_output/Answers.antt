use Rattle.std.proofs.Common.{◌≡◌, ◌++◌, List, ℕ, codes, ap, subst, ◌∙◌}
use Rattle.std.proofs.lemmas.Result.{on_ok_weaker}
use Rattle.std.specs.List.{flat_map}
use Rattle.json.specs.Json.{string}
use Rattle.inspect_lines.specs.Words.{byte_text}
use Rattle.inspect_json.specs.Objects.{Adds, member_tokens}
use Rattle.inspect_json.proofs.runs.put_output.Goals as goal

pub returns : goal.returns
returns c =
    let digits : List ℕ = flat_map byte_text c.as_slice.result.now in
    let same : c.as_str.result.now ≡ flat_map byte_text c.args.run.now.raw.output.items =
    c.as_str.ensures.value ∙ c.in_ok-push_hexadecimal.ensures ∙ ap (λ (front : List ℕ). front ++ digits) c.new-text.ensures.bytes
    ∙ ap (λ (bytes : List ℕ). flat_map byte_text bytes) c.as_slice.ensures.value in
    on_ok_weaker c.put_text.result
    (λ h. subst (λ (text : List ℕ). Adds c.args.out.now c.put_text.new.out (member_tokens (codes "output") (string text))) same h) c.put_text.ensures
