-- What an example unfolds to be computed: all that a verdict on an image goes through.
use Rattle.std.specs.Prelude.{⊤}
use Rattle.v8_alu.specs.Outcomes.{outcome}
use Rattle.v8_formats.specs.Table.{meaning}
use Rattle.v8_meaning.specs.Admitted.{is_admitted}
use Rattle.v8_meaning.specs.Operations.{operation_of}
use Rattle.sbx_form.specs.Forms.{add_term, add_terms}
use Rattle.sbx_form.specs.Refining.{both_of, common, narrowed, narrowed_by_value, refine, refine_by_value, some_pair, some_range, without}
use Rattle.sbx_form.specs.Rows.{range_add, range_or, range_sub}
use Rattle.sbx_form.specs.Table.{range_of, row_of}
use Rattle.sbx_domain.specs.Forms.{form_value, is_kept}
use Rattle.sbx_domain.specs.Known.{cell_entry, started, with_entry}
use Rattle.sbx_domain.specs.Refining.{narrowed_at, refined}
use Rattle.sbx_domain.specs.Results.{form_of}
use Rattle.sbx_domain.specs.Transfer.{called, restored, saved, transferred}
use Rattle.sbx_image.specs.Order.{address_of, words_in}
use Rattle.sbx_rules.specs.Operations.{access_of, reads_of, writes_of}
use Rattle.sbx_rules.specs.Places.{callee_at, word_of_place}
use Rattle.sbx_rules.specs.Rules.{reads_undefined, touches_reserved}
use Rattle.sbx_rules.specs.Ways.{branch_way, falls, fuel_at, state_at, visits_at, weight_to}

unfoldable pub computed : ⊤
unfolding form_value outcome meaning is_admitted operation_of add_term add_terms range_add range_or range_sub range_of
    row_of both_of common narrowed narrowed_by_value refine refine_by_value some_pair some_range without is_kept
    cell_entry started with_entry narrowed_at refined form_of called restored saved transferred access_of reads_of
    writes_of address_of callee_at word_of_place words_in reads_undefined touches_reserved branch_way falls fuel_at
    state_at visits_at weight_to
computed = tt
