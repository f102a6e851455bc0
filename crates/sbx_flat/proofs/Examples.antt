-- Examples of window traffic and of a run, by computation.
use Rattle.std.proofs.Common.{◌≡◌, [], ◌∷◌, refl}
use Rattle.v8_formats.specs.Table.{meaning}
use Rattle.v8_meaning.specs.Admitted.{is_admitted}
use Rattle.v8_meaning.specs.Operations.{operation_of}
use Rattle.sbx_image.specs.Parts.{Parts}
use Rattle.sbx_flat.proofs.Law.{still_is_fresh}
use Rattle.sbx_flat.specs.Examples.{at_first, at_restore, at_save, at_second, at_third, based, save_and_restore}
use Rattle.sbx_flat.specs.Registers.{pushed, still, written}
use Rattle.sbx_flat.specs.Runs.{Run, place_of, weight, weight_at}
use Rattle.sbx_flat.specs.States.{State, reg}
use Rattle.sbx_flat.specs.Traffic.{after_place, traffic}
use Rattle.sbx_flat.specs.Turns.{turn, word_at}

pub traffic_of_three : (parts : Parts) →
    traffic (record parts { words = save_and_restore }) 4 (at_save ∷ at_save ∷ at_save ∷ at_restore ∷ at_restore ∷ at_restore ∷ []) ≡
    record { windows = 1; overflows = 1; underflows = 1; turns = 54 }
unfolding after_place word_at operation_of meaning
traffic_of_three parts = refl

pub weight_of_two : (parts : Parts) → weight (record parts { words = save_and_restore }) (at_save ∷ at_restore ∷ []) ≡ 50
unfolding weight_at word_at operation_of meaning
weight_of_two parts = refl

-- the frame's words are zeros here, and are gone after it
pub run_of_two : (parts : Parts) (s : State) → Run (record parts { words = save_and_restore; stack_pages = 1 }) (at_first (based 0xFFFC0 s)) (at_save ∷ at_restore ∷ []) (at_third (based 0xFFFC0 s))
unfolding turn word_at operation_of meaning is_admitted place_of reg written
run_of_two parts s =
    let inside : State = at_second (record s { registers = pushed still 0xFFF60 (based 0xFFFC0 s).registers }) in
    (inside, refl, (still, still_is_fresh, refl), (at_third (based 0xFFFC0 s), refl, (still, still_is_fresh, refl), refl))
