-- The examples, computed.
use Rattle.std.proofs.Common.{refl}
use Rattle.v8_alu.specs.Outcomes.{outcome}
use Rattle.sbx_range.specs.Rows.{range_add, range_sub, range_or, range_sll}
use Rattle.sbx_range.specs.Table.{range_of, row_of}
use Rattle.sbx_range.specs.Refining.{common, without, below, left_below, right_below, narrowed, narrowed_by_value, refine, some_range, both_of, some_pair, refine_by_value}
use Rattle.sbx_form.specs.Forms.{add_term, add_terms}
use Rattle.sbx_domain.specs.Examples.{BranchesKnow, FramesKeep, RelationsAreThese, ResultsAreThese}
use Rattle.sbx_domain.specs.Forms.{is_kept}
use Rattle.sbx_domain.specs.Known.{cell_entry, started, with_entry}
use Rattle.sbx_domain.specs.Refining.{narrowed_at, refined}
use Rattle.sbx_domain.specs.Results.{form_of}
use Rattle.sbx_domain.specs.Transfer.{called, restored, saved, transferred}

pub results_are_these : ResultsAreThese
unfolding outcome range_add range_sub range_or range_sll range_of row_of add_term add_terms is_kept cell_entry started with_entry form_of transferred
results_are_these = record { cell = refl; no_cell = refl; sum = refl; difference = refl; shift = refl; constant = refl; undefined = refl; nowhere = refl; product = refl }

pub relations_are_these : RelationsAreThese
unfolding cell_entry started with_entry saved transferred
relations_are_these = record { of_cmp = refl; of_tst = refl; of_value = refl; of_nothing = refl; ended = refl; formless = refl; stays = refl; set = refl; saved = refl }

pub branches_know : BranchesKnow
unfolding outcome range_add range_sub range_or range_sll range_of row_of common refine without below left_below right_below narrowed narrowed_by_value
    some_range both_of some_pair refine_by_value add_term add_terms is_kept cell_entry started with_entry form_of transferred narrowed_at refined
branches_know = record { less = refl; equal = refl; greater = refl; never = refl; always = refl; by_value = refl }

pub frames_keep : FramesKeep
unfolding outcome range_add range_sub range_or range_of row_of add_term add_terms is_kept cell_entry started with_entry form_of saved restored called transferred
frames_keep = record { in_zero = refl; locals = refl; out_zero = refl; word = refl; result = refl; other_outs = refl; kept = refl }
