-- After SAVE, RESTORE and calls.
use Rattle.std.proofs.Common.{◌≡◌, ℕ, ◌+◌, ◌-◌, ◌^◌, ◌<◌, Bool, true, false, List, Option, Some, None, refl, sym, subst, arith}
use Rattle.std.specs.Prelude.{if◌then◌else◌, slice_get}
use Rattle.std.proofs.lemmas.Nat.{mod_below}
use Rattle.v8_word.specs.declared.Icc.{Icc}
use Rattle.v8_formats.specs.declared.instr.Operand.{Operand}
use Rattle.v8_formats.specs.declared.instr.Three.{Three}
use Rattle.v8_alu.specs.Outcomes.{outcome}
use Rattle.v8_alu.specs.Results.{sum}
use Rattle.v8_alu.specs.declared.Op.TheVariants as ops
use Rattle.v8_meaning.specs.Operands.{address, second, sum_address}
use Rattle.v8_meaning.specs.declared.operation.Operation.TheVariants.{Call, Restore, Save}
use Rattle.sbx_image.specs.Range.{Range}
use Rattle.sbx_form.specs.Forms.{Cells}
use Rattle.sbx_domain.specs.declared.entry.Entry.{Entry}
use Rattle.sbx_domain.specs.Fits.{Fits, HasAlignment, HasForm, HasInterval, Near, Words, with_word}
use Rattle.sbx_domain.specs.Known.{Known, form_of_entry, plain_entry_of, range_of_entry}
use Rattle.sbx_domain.specs.Results.{operand_entry, register_entry, result_of}
use Rattle.sbx_domain.specs.Transfer.{called, is_global, is_in, is_kept_by_calls, is_out, restored, result_entry, saved, transferred}
use Rattle.sbx_fits.specs.Held.{AreRestored, AreReturned, AreSaved, Held, IsOperand, Keeps}
use Rattle.sbx_fits.specs.Laws.{CallsKeepFitting, FramesKeepFitting}
use Rattle.sbx_fits.proofs.Entries.{Has, operand_has, operand_multiple, operand_word, register_has, register_multiple, result_has, result_multiple}
use Rattle.sbx_fits.proofs.Known.{fits_written, near_written}

-- a property of what one of two tests chooses
by_if : (t : Bool) (P : Option Entry → Type 0) (e f : Option Entry) → (t ≡ true → P e) → (t ≡ false → P f) → P (if t then e else f)
by_if true P e f p q = p refl
by_if false P e f p q = q refl

-- ---- SAVE

near_saved : (start : Cells) (d : Known) (h k : Held) → AreSaved h k → Near start d h.words h.icc h.y → Near start (saved d) k.words k.icc k.y
unfolding saved
near_saved start d h k is near = record {
  are_words = is.are_words;
  zero = is.zero;
  intervals = λ l. by_if (is_in l) (λ e. HasInterval (range_of_entry e) (k.words l)) (d.entry (l - 16)) None
      (λ t. subst (HasInterval (range_of_entry (d.entry (l - 16)))) (sym (is.ins l t)) (near.intervals (l - 16))) (λ t. tt);
  forms = λ l. by_if (is_in l) (λ e. HasForm start (form_of_entry e) (k.words l)) (d.entry (l - 16)) None
      (λ t. subst (HasForm start (form_of_entry (d.entry (l - 16)))) (sym (is.ins l t)) (near.forms (l - 16))) (λ t. tt);
  y_word = is.y_word;
  y_interval = tt;
  relates = tt;
}

fits_saved : (start : Cells) (d : Known) (h k : Held) → AreSaved h k → Fits start d h.words h.icc h.y → Fits start (saved d) k.words k.icc k.y
unfolding saved
fits_saved start d h k is fits = record {
  near = near_saved start d h k is fits.near;
  multiples = λ l. by_if (is_in l) (λ e. HasAlignment (range_of_entry e) (k.words l)) (d.entry (l - 16)) None
      (λ t. subst (HasAlignment (range_of_entry (d.entry (l - 16)))) (sym (is.ins l t)) (fits.multiples (l - 16))) (λ t. tt);
  y_multiple = tt;
}

-- ---- RESTORE

chosen : Known → ℕ → Option Entry
chosen d l = if is_global l then d.entry l else (if is_out l then d.entry (l + 16) else None)

by_window : (P : Option Entry → ℕ → Type 0) (d : Known) (before after : Words) → AreRestored before after → ((l : ℕ) → P (d.entry l) (before l)) →
    ((w : ℕ) → P None w) → (l : ℕ) → P (chosen d l) (after l)
unfolding chosen
by_window P d before after is all none l =
    by_if (is_global l) (λ e. P e (after l)) _ _
    (λ t. subst (P (d.entry l)) (sym (is.globals l t)) (all l))
    (λ f. by_if (is_out l) (λ e. P e (after l)) _ _ (λ t. subst (P (d.entry (l + 16))) (sym (is.outs l t)) (all (l + 16))) (λ t. none (after l)))

near_popped : (start : Cells) (d : Known) (words after : Words) (icc : Icc) (y : ℕ) → AreRestored words after → Near start d words icc y → Near start (restored d) after icc y
unfolding restored chosen
near_popped start d words after icc y is near = record {
  are_words = is.are_words;
  zero = is.zero;
  intervals = by_window (λ e w. HasInterval (range_of_entry e) w) d words after is near.intervals (λ w. tt);
  forms = by_window (λ e w. HasForm start (form_of_entry e) w) d words after is near.forms (λ w. tt);
  y_word = near.y_word;
  y_interval = near.y_interval;
  relates = tt;
}

fits_popped : (start : Cells) (d : Known) (words after : Words) (icc : Icc) (y : ℕ) → AreRestored words after → Fits start d words icc y → Fits start (restored d) after icc y
unfolding restored chosen
fits_popped start d words after icc y is fits = record {
  near = near_popped start d words after icc y is fits.near;
  multiples = by_window (λ e w. HasAlignment (range_of_entry e) w) d words after is fits.multiples (λ w. tt);
  y_multiple = fits.y_multiple;
}

-- the sum as an address, and as a result
same_sum : (a b : ℕ) (icc : Icc) (y : ℕ) → (outcome ops.Add a b icc y).value ≡ sum_address a b
unfolding outcome
same_sum a b icc y = (let e : sum a b false ≡ sum_address a b = omega arith in e)

sum_has : (start : Cells) (d : Known) (words : Words) (icc : Icc) (y rs1 : ℕ) (o : Operand) → IsOperand o → Near start d words icc y
    → Has start (result_of ops.Add (register_entry d rs1) (operand_entry d o)) (address words rs1 o)
sum_has start d words icc y rs1 o operand near =
    subst (Has start (result_of ops.Add (register_entry d rs1) (operand_entry d o))) (same_sum (words rs1) (second words o) icc y)
    (result_has start ops.Add (register_entry d rs1) (operand_entry d o) (words rs1) (second words o) icc y (near.are_words rs1) (operand_word words o near.are_words operand)
    (register_has start d words icc y rs1 near) (operand_has start d words icc y o near))

sum_multiple : (start : Cells) (d : Known) (words : Words) (icc : Icc) (y rs1 : ℕ) (o : Operand) → IsOperand o → Fits start d words icc y
    → HasAlignment (range_of_entry (result_of ops.Add (register_entry d rs1) (operand_entry d o))) (address words rs1 o)
sum_multiple start d words icc y rs1 o operand fits =
    let near = fits.near in
    subst (HasAlignment (range_of_entry (result_of ops.Add (register_entry d rs1) (operand_entry d o)))) (same_sum (words rs1) (second words o) icc y)
    (result_multiple start ops.Add (register_entry d rs1) (operand_entry d o) (words rs1) (second words o) icc y (near.are_words rs1) (operand_word words o near.are_words operand)
    (register_has start d words icc y rs1 near) (operand_has start d words icc y o near) (register_multiple start d words icc y rs1 fits) (operand_multiple start d words icc y o fits))

address_word : (words : Words) (rs1 : ℕ) (o : Operand) → address words rs1 o < 2 ^ 32
address_word words rs1 o = mod_below _ (2 ^ 32) (omega arith)

near_restored : (frame : ℕ) (f : Three) (start : Cells) (d : Known) (h : Held) (after : Words) → IsOperand f.operand2 → AreRestored h.words after → Near start d h.words h.icc h.y
    → Near start (transferred frame (Restore f) d) (with_word f.rd (address h.words f.rs1 f.operand2) after) h.icc h.y
unfolding transferred
near_restored frame f start d h after operand is near =
    near_written start (restored d) after h.icc h.y f.rd (address h.words f.rs1 f.operand2)
    (result_of ops.Add (register_entry d f.rs1) (operand_entry d f.operand2)) (address_word h.words f.rs1 f.operand2)
    (sum_has start d h.words h.icc h.y f.rs1 f.operand2 operand near) (near_popped start d h.words after h.icc h.y is near)

fits_restored : (frame : ℕ) (f : Three) (start : Cells) (d : Known) (h : Held) (after : Words) → IsOperand f.operand2 → AreRestored h.words after → Fits start d h.words h.icc h.y
    → Fits start (transferred frame (Restore f) d) (with_word f.rd (address h.words f.rs1 f.operand2) after) h.icc h.y
unfolding transferred
fits_restored frame f start d h after operand is fits =
    fits_written start (restored d) after h.icc h.y f.rd (address h.words f.rs1 f.operand2)
    (result_of ops.Add (register_entry d f.rs1) (operand_entry d f.operand2)) (address_word h.words f.rs1 f.operand2)
    (sum_has start d h.words h.icc h.y f.rs1 f.operand2 operand fits.near) (sum_multiple start d h.words h.icc h.y f.rs1 f.operand2 operand fits) (fits_popped start d h.words after h.icc h.y is fits)

save_keeps : (frame : ℕ) (f : Three) (d : Known) (h k : Held) → AreSaved h k → Keeps d (transferred frame (Save f) d) h k
unfolding transferred
save_keeps frame f d h k is = record { near = λ start near. near_saved start d h k is near; fits = λ start fits. fits_saved start d h k is fits }

pub frames_keep_fitting : FramesKeepFitting
frames_keep_fitting = record {
  save = save_keeps;
  restore = λ frame f d h after operand is. record {
    near = λ start near. near_restored frame f start d h after operand is near;
    fits = λ start fits. fits_restored frame f start d h after operand is fits;
  };
}

-- ---- calls

near_linked : (frame displacement v : ℕ) (start : Cells) (d : Known) (h : Held) → v < 2 ^ 32 → Near start d h.words h.icc h.y →
    Near start (transferred frame (Call displacement) d) (with_word 15 v h.words) h.icc h.y
unfolding transferred
near_linked frame displacement v start d h small near =
    let n = near_written start d h.words h.icc h.y 15 v None small (record { interval = tt; form = tt }) near in
    record { are_words = n.are_words; zero = n.zero; intervals = n.intervals; forms = n.forms; y_word = n.y_word; y_interval = n.y_interval; relates = tt }

fits_linked : (frame displacement v : ℕ) (start : Cells) (d : Known) (h : Held) → v < 2 ^ 32 → Fits start d h.words h.icc h.y →
    Fits start (transferred frame (Call displacement) d) (with_word 15 v h.words) h.icc h.y
unfolding transferred
fits_linked frame displacement v start d h small fits =
    let f = fits_written start d h.words h.icc h.y 15 v None small (record { interval = tt; form = tt }) tt fits in
    record { near = near_linked frame displacement v start d h small fits.near; multiples = f.multiples; y_multiple = f.y_multiple }

-- a callee's results have no form
plain_or_none : (results : List Range) (l : ℕ) → form_of_entry (result_entry results l) ≡ None
plain_or_none results l = by_out (is_out l)
  where
    of_result : (r : Option Range) → form_of_entry (plain_entry_of r) ≡ None
    of_result None = refl
    of_result (Some r) = refl

    by_out : (t : Bool) → form_of_entry (if t then plain_entry_of (slice_get results (l - 8)) else None) ≡ None
    by_out true = of_result (slice_get results (l - 8))
    by_out false = refl

no_form : (start : Cells) (results : List Range) (l w : ℕ) → HasForm start (form_of_entry (result_entry results l)) w
no_form start results l w = formless (result_entry results l) (plain_or_none results l)
  where
    formless : (e : Option Entry) → form_of_entry e ≡ None → HasForm start (form_of_entry e) w
    formless e h = subst (λ f. HasForm start f w) (sym h) tt

returned_near : (results : List Range) (start : Cells) (d : Known) (h k : Held) → AreReturned h k
    → ((l : ℕ) → HasInterval (range_of_entry (result_entry results l)) (k.words l))
    → Near start d h.words h.icc h.y → Near start (called results d) k.words k.icc k.y
unfolding called
returned_near results start d h k is intervals near = record {
  are_words = is.are_words;
  zero = is.zero;
  intervals = λ l. by_if (is_kept_by_calls l) (λ e. HasInterval (range_of_entry e) (k.words l)) (d.entry l) (result_entry results l)
      (λ t. subst (HasInterval (range_of_entry (d.entry l))) (sym (is.kept l t)) (near.intervals l)) (λ t. intervals l);
  forms = λ l. by_if (is_kept_by_calls l) (λ e. HasForm start (form_of_entry e) (k.words l)) (d.entry l) (result_entry results l)
      (λ t. subst (HasForm start (form_of_entry (d.entry l))) (sym (is.kept l t)) (near.forms l)) (λ t. no_form start results l (k.words l));
  y_word = is.y_word;
  y_interval = tt;
  relates = tt;
}

returned_fits : (results : List Range) (start : Cells) (d : Known) (h k : Held) → AreReturned h k
    → ((l : ℕ) → HasInterval (range_of_entry (result_entry results l)) (k.words l))
    → ((l : ℕ) → HasAlignment (range_of_entry (result_entry results l)) (k.words l))
    → Fits start d h.words h.icc h.y → Fits start (called results d) k.words k.icc k.y
unfolding called
returned_fits results start d h k is intervals multiples fits = record {
  near = returned_near results start d h k is intervals fits.near;
  multiples = λ l. by_if (is_kept_by_calls l) (λ e. HasAlignment (range_of_entry e) (k.words l)) (d.entry l) (result_entry results l)
      (λ t. subst (HasAlignment (range_of_entry (d.entry l))) (sym (is.kept l t)) (fits.multiples l)) (λ t. multiples l);
  y_multiple = tt;
}

pub calls_keep_fitting : CallsKeepFitting
calls_keep_fitting = record {
  link = λ frame displacement v d h small. record {
    near = λ start near. near_linked frame displacement v start d h small near;
    fits = λ start fits. fits_linked frame displacement v start d h small fits;
  };
  returned_near = returned_near;
  returned_fits = returned_fits;
}
