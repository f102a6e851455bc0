use Rattle.std.proofs.Common.{◌≡◌, ◌≤◌, ◌+◌, ◌*◌, List, ◌++◌, length, drop, map}
use Rattle.json.specs.Token.{Token}
use Rattle.json.specs.Tree.{items_tokens, json_tokens}
use Rattle.sbx_image.specs.Regions.{page_rights, placed, placed_from}
use Rattle.inspect_json.specs.Objects.{Adds, array_of, items_of}
use Rattle.inspect_json.specs.Images.{region_json}
use Rattle.inspect_json.proofs.images.put_placed.Given as goal

-- what was written, and the regions that are left, whose pages have room
abbrev pub invariant-loop-region : goal.invariant-loop-region
invariant-loop-region l =
    ((done : List Token) × Adds l.fn.out l.out done
    × (done ++ items_tokens (items_of (map region_json (placed_from l.start (drop l.region-index l.regions)))) ≡ json_tokens (array_of (map region_json (placed l.regions)))))
    × (0x80000 ≤ l.start) × (l.start + 4096 * length (page_rights (drop l.region-index l.regions)) ≤ 0xC0000)
