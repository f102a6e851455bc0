use Rattle.std.proofs.lemmas.Result.{IfOk-weaker}
use Rattle.inspect_json.specs.Images.{image_json}
use Rattle.inspect_json.proofs.Adding.{whole_line}
use Rattle.inspect_json.proofs.images.image_line.Goals as goal

pub returns : goal.returns
returns c =
    IfOk-weaker c.line_of.result _ _
    (λ line is. whole_line c.new_line-out.result c.put_image.new.out (image_json c.args.image.now) line.items c.new_line-out.ensures c.in_ok-put_image.ensures is) c.line_of.ensures
