-- Tests of a word's ways, where the pass keeps two of them.
use Rattle.std.proofs.Common.{◌≡◌, Bool, true, false, ◌++◌, Option, Some, None, refl}
use Rattle.std.specs.Prelude.{◌||◌}
use Rattle.std.specs.List.{list_any}
use Rattle.sbx_rules.specs.Known.{Known}
use Rattle.sbx_rules.specs.Ways.{Visit}
use Rattle.sbx_known.specs.declared.courses.Course.{Course}
use Rattle.sbx_known.specs.Courses.{is_any, visit_of, visits_of}

pub two : (test : Visit → Bool) (o p : Option Course) (d e : Known) → list_any test (visits_of o d ++ visits_of p e) ≡ (is_any test o d || is_any test p e)
two test None None d e = refl
two test None (Some b) d e = last (test (visit_of b e))
  where
    last : (t : Bool) → (t || false) ≡ t
    last true = refl
    last false = refl
two test (Some a) None d e = refl
two test (Some a) (Some b) d e = last (test (visit_of a d)) (test (visit_of b e))
  where
    last : (s t : Bool) → (s || (t || false)) ≡ (s || t)
    last true t = refl
    last false true = refl
    last false false = refl
