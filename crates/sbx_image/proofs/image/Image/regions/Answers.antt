use Rattle.std.proofs.lemmas.List.Elements.{All-from_recursion}
use Rattle.sbx_parts.specs.Regions.{IsSized}
use Rattle.sbx_parts.proofs.Limits.{data_within}
use Rattle.sbx_image.proofs.image.Image.regions.Goals as goal

pub returns-clause-few : goal.returns-clause-few
returns-clause-few c = rw (← c.self.view_is) (data_within c.self.inside.parts c.self.invariant).few

pub returns-clause-pages : goal.returns-clause-pages
returns-clause-pages c = rw (← c.self.view_is) (data_within c.self.inside.parts c.self.invariant).pages

pub returns-clause-sizes : goal.returns-clause-sizes
returns-clause-sizes c = rw (← c.self.view_is) (All-from_recursion IsSized _ (data_within c.self.inside.parts c.self.invariant).each)
