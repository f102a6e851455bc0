use Rattle.std.proofs.Common.{◌≡◌, List, ◌++◌, ap, ◌∙◌, string_bytes}
use Rattle.std.proofs.lemmas.Result.{on_ok_weaker}
use Rattle.std.specs.List.{flat_map}
use Rattle.sbx_image.specs.Block.{Block}
use Rattle.sbx_image.specs.Range.{Range}
use Rattle.inspect_image.specs.Images.{blocks_text, depth_line, function_head, param_line, result_line}
use Rattle.inspect_image.proofs.Texts.{five_put}
use Rattle.inspect_image.proofs.image.push_function.Goals as goal

pub returns : goal.returns
returns c =
    let n = c.args.number in
    let f = c.args.function.now in
    let depth = string_bytes c.push_depth.new.out in
    let params = string_bytes c.push_params.new.out in
    let results = string_bytes c.push_results.new.out in
    let blocks = string_bytes c.push_blocks.new.out in
    on_ok_weaker c.push_blocks.result
    (λ (last : blocks ≡ results ++ blocks_text n c.as_slice-3.result.now).
    five_put (string_bytes c.args.out.now) (string_bytes c.push_function_head.new.out) depth params results blocks
    (function_head n f) (depth_line c.args.version f.depth) (flat_map param_line f.params) (flat_map result_line f.results) (blocks_text n f.blocks)
    c.in_ok-push_function_head.ensures c.in_ok-push_depth.ensures
    (c.in_ok-push_params.ensures ∙ ap (λ (rs : List Range). depth ++ flat_map param_line rs) c.as_slice.ensures)
    (c.in_ok-push_results.ensures ∙ ap (λ (rs : List Range). params ++ flat_map result_line rs) c.as_slice-2.ensures)
    (last ∙ ap (λ (bs : List Block). results ++ blocks_text n bs) c.as_slice-3.ensures))
    c.push_blocks.ensures
