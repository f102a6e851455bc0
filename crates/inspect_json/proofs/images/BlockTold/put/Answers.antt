use Rattle.std.proofs.Common.{◌∷◌, [], codes, map}
use Rattle.json.specs.Token.{begin_object, end_object}
use Rattle.inspect_json.specs.Objects.{array_of, member_tokens, signed, unsigned}
use Rattle.inspect_json.specs.Images.{cell_json, term_json}
use Rattle.inspect_json.proofs.Adding.{then_six}
use Rattle.inspect_json.proofs.images.BlockTold.put.Goals as goal

pub returns : goal.returns
returns c =
    then_six c.close_object.result c.args.out.now c.open_object.new.out c.put_word.new.out c.put_fuel.new.out c.put_items.new.out c.put_items-2.new.out c.close_object.new.out
    (begin_object ∷ []) (member_tokens (codes "address") (unsigned c.args.self.now.address)) (member_tokens (codes "fuel") (signed c.args.self.now.fuel))
    (member_tokens (codes "cells") (array_of (map cell_json c.args.self.now.cells)))
    (member_tokens (codes "terms") (array_of (map term_json c.args.self.now.terms))) (end_object ∷ [])
    c.in_ok-open_object.ensures c.in_ok-put_word.ensures c.in_ok-put_fuel.ensures c.in_ok-put_items.ensures c.in_ok-put_items-2.ensures
    c.close_object.ensures
