use Rattle.std.proofs.Common.{ℕ, Option, refl, sym, ap, ◌∙◌}
use Rattle.sbx_domain.specs.Known.{known}
use Rattle.sbx_image.specs.Order.{function_at}
use Rattle.sbx_rules.specs.Places.{op_at}
use Rattle.sbx_rules.specs.Ways.{after_call}
use Rattle.sbx_known.specs.Courses.{runs}
use Rattle.sbx_known.proofs.Stepping.{arrivals_are, performed}
use Rattle.inspect_known.proofs.known.after.Goals as goal

pub returns : goal.returns
returns c =
    let parts = c.args.image.now in
    let sight = c.args.sight in
    let f = sight.spot.function in
    let b = sight.spot.block in
    let i = sight.spot.number in
    let s = c.requires.spot in
    let cs = sight.courses in
    let o = sight.spot.operation in
    let d = known sight.first in
    let e = known sight.second in
    let d1 = known c.perform_on.new.here in
    let e1 = known c.perform_on.new.other in
    let d2 = known c.return_to.new.state in
    let frame = (function_at parts f).frame in
    let first = performed frame o (op_at parts f b i) (runs cs.first) d d1 s.operation c.perform_on.ensures.first in
    let second = performed frame o (op_at parts f b i) (runs cs.second) e e1 s.operation c.perform_on.ensures.second in
    let back = c.return_to.ensures ∙ ap (λ (g : Option ℕ). after_call parts g d1) s.called in
    record {
      spot = refl;
      weight = refl;
      courses = refl;
      ways = sym (arrivals_are parts f b i cs d e d1 e1 (sym c.requires.ways) c.requires.straight first second d2 back);
    }
