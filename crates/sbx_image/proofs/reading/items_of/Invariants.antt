use Rattle.std.proofs.Common.{◌≡◌, ◌-◌}
use Rattle.sbx_image.specs.Reading.{items_at}
use Rattle.sbx_image.proofs.Loops.{with_front}
use Rattle.sbx_image.proofs.reading.items_of.Given as goal

abbrev pub invariant-loop : goal.invariant-loop
invariant-loop g l =
    with_front (g.T.Readable.item_at l.setting) l.items.items
    (items_at (g.T.Readable.item_at l.setting) (l.count - l.counter) (g.T.Readable.at l.state l.rest)) ≡
    items_at (g.T.Readable.item_at l.setting) l.count (g.T.Readable.at l.fn.first l.bytes)
