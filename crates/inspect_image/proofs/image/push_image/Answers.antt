use Rattle.std.proofs.lemmas.Grind.{common_steps}
use Rattle.std.proofs.Common.{◌++◌, ap, ◌∙◌, string_bytes, List, ℕ, arith}
use Rattle.inspect_image.proofs.Texts.{pieces}
use Rattle.inspect_image.proofs.image.push_image.Goals as goal

pub returns : goal.returns
returns c =
    pieces c.args.image.now c.services.result c.stack_pages.result c.word_count.result c.byte_count.result c.version-version.result c.regions.result.now c.functions.result.now
    (string_bytes c.args.out.now) (string_bytes c.push_str.new.self) (string_bytes c.push_sizes.new.out) (string_bytes c.push_regions.new.out) (string_bytes c.push_functions.new.out)
    c.services.ensures c.stack_pages.ensures.count c.word_count.ensures.count c.byte_count.ensures.count c.version-version.ensures.value c.regions.ensures.value c.functions.ensures.value
    (c.in_ok-push_str.ensures.bytes ∙ ap (λ (ys : List ℕ). string_bytes c.args.out.now ++ ys) c.services_line.ensures)
    c.in_ok-push_sizes.ensures c.in_ok-push_regions.ensures c.in_ok-push_functions.ensures

pub push_regions-requires : goal.push_regions-requires
push_regions-requires c = grind (arith, common_steps)
