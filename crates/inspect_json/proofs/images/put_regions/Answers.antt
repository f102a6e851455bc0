use Rattle.std.proofs.Common.{codes, map}
use Rattle.json.specs.Tree.{json_tokens}
use Rattle.sbx_image.specs.Regions.{placed}
use Rattle.inspect_json.specs.Objects.{array_of, key_tokens}
use Rattle.inspect_json.specs.Images.{region_json}
use Rattle.inspect_json.proofs.Adding.{then_two}
use Rattle.inspect_json.proofs.images.put_regions.Goals as goal

pub returns : goal.returns
returns c =
    then_two c.put_placed.result c.args.out.now c.put_key.new.out c.put_placed.new.out
    (key_tokens (codes "regions")) (json_tokens (array_of (map region_json (placed c.args.regions.now))))
    c.in_ok-put_key.ensures
    c.put_placed.ensures
