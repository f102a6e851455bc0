use Rattle.std.proofs.Common.{◌≡◌, suc, sym, ap, ◌∙◌}
use Rattle.v8_meaning.specs.declared.operation.Operation.{Operation}
use Rattle.sbx_domain.specs.Known.{known}
use Rattle.sbx_rules.specs.Ways.{weight_to}
use Rattle.sbx_known.specs.Courses.{is_branch}
use Rattle.sbx_known.specs.Spots.{visits_from}
use Rattle.sbx_known.proofs.Counts.{at_spot}
use Rattle.inspect_known.specs.Sights.{entered}
use Rattle.inspect_known.proofs.Entering.{ways_are}
use Rattle.inspect_known.proofs.known.sight_of.Goals as goal

pub returns-clause-seen : goal.returns-clause-seen
returns-clause-seen c =
    let parts = c.args.image.now in
    let g = c.args.function in
    let h = c.args.block in
    let n = c.args.number in
    let r = c.enter-spot.result.0 in
    let s = c.enter-spot.ensures.spot in
    let at = c.enter-spot.ensures.place in
    let f = r.function in
    let b = r.block in
    let i = r.number in
    let enters = at_spot (λ f b i. known c.enter-spot.new.state ≡ entered parts f b i) g h n f b i at.0 at.1 at.2 c.enter-spot.ensures.known in
    record {
      spot = s;
      weight = at_spot (λ f b i. c.enter-spot.result.1 ≡ weight_to parts f b (suc i)) g h n f b i at.0 at.1 at.2 c.enter-spot.ensures.weight;
      ways = sym c.courses_of-courses.ensures.visits ∙ ap (visits_from parts f b i r.before) enters
          ∙ ap (λ (o : Operation). visits_from parts f b i o (entered parts f b i)) s.before ∙ sym (ways_are parts f b i);
      well = c.courses_of-courses.ensures.well;
      straight = λ none. c.courses_of-courses.ensures.straight (ap is_branch s.before ∙ none);
    }
