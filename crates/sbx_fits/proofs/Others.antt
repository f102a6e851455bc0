-- After quotients, tagged results, SETHI, RDY and WRY.
use Rattle.std.proofs.Common.{◌≡◌, ℕ, ◌^◌, ◌<◌, Bool, true, false, Option, Some, None, refl, sym, subst, arith}
use Rattle.std.specs.Prelude.{bit_xor, if◌then◌else◌}
use Rattle.std.proofs.lemmas.Nat.{mod_below, xor_lt}
use Rattle.v8_word.specs.declared.Icc.{Icc}
use Rattle.v8_formats.specs.declared.instr.Three.{Three}
use Rattle.v8_formats.specs.declared.instr.Two.{Two}
use Rattle.v8_formats.specs.declared.instr.Upper.{Upper}
use Rattle.v8_alu.specs.Outcomes.{divided, outcome, tagged_outcome}
use Rattle.v8_alu.specs.declared.AluOut.{AluOut}
use Rattle.v8_alu.specs.declared.Division.{Division}
use Rattle.v8_alu.specs.declared.Division.TheVariants.{Sdiv, SdivCc, Udiv, UdivCc}
use Rattle.v8_alu.specs.declared.Op.TheVariants as ops
use Rattle.v8_alu.specs.declared.TaggedOp.{TaggedOp}
use Rattle.v8_alu.specs.declared.TaggedOp.TheVariants.{TaggedAdd, TaggedSub}
use Rattle.v8_meaning.specs.Operands.{second}
use Rattle.v8_meaning.specs.declared.operation.Operation.TheVariants.{Divide, ReadY, SetHigh, TaggedTrap, WriteY}
use Rattle.sbx_flat.specs.Effects.{high_word}
use Rattle.sbx_image.specs.Range.{Range}
use Rattle.sbx_form.specs.Forms.{Cells}
use Rattle.sbx_range.specs.Laws.{AreIn}
use Rattle.sbx_range.specs.Ranges.{InInterval, InRange}
use Rattle.sbx_range.specs.Rows.{range_divide}
use Rattle.sbx_range.specs.Table.{range_of_tagged}
use Rattle.sbx_range.proofs.Additions.{in_range_add, in_range_sub}
use Rattle.sbx_range.proofs.Alignments.{quotients_stay_in, tagged_results_stay_in, written_y_stays_in}
use Rattle.sbx_range.proofs.Divided.{divided-word}
use Rattle.sbx_range.proofs.Multiples.{aligned-known}
use Rattle.sbx_domain.specs.declared.entry.Entry.{Entry}
use Rattle.sbx_domain.specs.Fits.{Fits, HasAlignment, HasInterval, Near, with_word}
use Rattle.sbx_domain.specs.Known.{Known, range_of_entry, with_entry}
use Rattle.sbx_domain.specs.Results.{constant_entry, entry_of_y, operand_entry, quotient_of, register_entry, tagged_of, written_y}
use Rattle.sbx_domain.specs.Transfer.{division_sets_codes, transferred}
use Rattle.sbx_fits.specs.Held.{Held, IsOperand, tagged_value, with_result}
use Rattle.sbx_fits.specs.Laws.{MovesKeepFitting, QuotientsKeepFitting, TaggedResultsKeepFitting}
use Rattle.sbx_fits.proofs.Entries.{Has, constant_has, entry_has, operand_has, operand_multiple, operand_word, register_has, register_multiple}
use Rattle.sbx_fits.proofs.Known.{fits_coded, fits_related, fits_written, fits_y, near_coded, near_related, near_written, near_y}

are_in : (start : Cells) (a b : Entry) (x y : ℕ) → x < 2 ^ 32 → y < 2 ^ 32 → Has start (Some a) x → Has start (Some b) y → AreIn a.range b.range x y
are_in start a b x y p q s u = record { first_word = p; second_word = q; first = s.interval; second = u.interval }

-- ---- quotients

quotient_has : (start : Cells) (op : Division) (ys : Option Range) (a b : Option Entry) (x y : ℕ) (icc : Icc) (high : ℕ) → x < 2 ^ 32 → y < 2 ^ 32 → high < 2 ^ 32
    → HasInterval ys high → Has start a x → Has start b y →
    Has start (quotient_of ys a b) (divided op x y icc high).value × HasAlignment (range_of_entry (quotient_of ys a b)) (divided op x y icc high).value
quotient_has start op (Some ys) (Some a) (Some b) x y icc high p q r s u w =
    let is : InRange (range_divide ys a.range b.range) (divided op x y icc high).value = quotients_stay_in op ys a.range b.range high x y icc (are_in start a b x y p q u w) r s in
    (entry_has start (range_divide ys a.range b.range) None _ is.interval tt, is.aligned)
quotient_has start op (Some ys) (Some a) None x y icc high p q r s u w = (record { interval = tt; form = tt }, tt)
quotient_has start op (Some ys) None b x y icc high p q r s u w = (record { interval = tt; form = tt }, tt)
quotient_has start op None a b x y icc high p q r s u w = (record { interval = tt; form = tt }, tt)

quotient_y : (op : Division) (a b : ℕ) (icc : Icc) (y : ℕ) → (divided op a b icc y).y ≡ y
unfolding divided
quotient_y Udiv a b icc y = refl
quotient_y UdivCc a b icc y = refl
quotient_y Sdiv a b icc y = refl
quotient_y SdivCc a b icc y = refl

quotient_codes : (op : Division) (a b : ℕ) (icc : Icc) (y : ℕ) → division_sets_codes op ≡ false → (divided op a b icc y).icc ≡ icc
unfolding divided
quotient_codes Udiv a b icc y h = refl
quotient_codes Sdiv a b icc y h = refl
quotient_codes UdivCc a b icc y h = absurd (cc)
quotient_codes SdivCc a b icc y h = absurd (cc)

near_quotient : (frame : ℕ) (op : Division) (f : Three) (d : Known) (h : Held) → IsOperand f.operand2 → (start : Cells) → Near start d h.words h.icc h.y
    → (let k = with_result f.rd (divided op (h.words f.rs1) (second h.words f.operand2) h.icc h.y) h in Near start (transferred frame (Divide op f) d) k.words k.icc k.y)
unfolding transferred
near_quotient frame op f d h operand start near =
    let a = h.words f.rs1 in
    let b = second h.words f.operand2 in
    let out = divided op a b h.icc h.y in
    let e = quotient_of d.y (register_entry d f.rs1) (operand_entry d f.operand2) in
    let has = quotient_has start op d.y (register_entry d f.rs1) (operand_entry d f.operand2) a b h.icc h.y (near.are_words f.rs1) (operand_word h.words f.operand2 near.are_words operand) near.y_word
    near.y_interval (register_has start d h.words h.icc h.y f.rs1 near) (operand_has start d h.words h.icc h.y f.operand2 near) in
    let wrote = near_written start d h.words h.icc h.y f.rd out.value e (divided-word op a b h.icc h.y) has.0 near in
    subst (λ n. Near start (transferred frame (Divide op f) d) (with_word f.rd out.value h.words) out.icc n) (sym (quotient_y op a b h.icc h.y))
    (near_coded (division_sets_codes op) start (with_entry f.rd e d) (with_word f.rd out.value h.words) h.icc out.icc h.y None (λ t. tt) (λ t. quotient_codes op a b h.icc h.y t) wrote)

fits_quotient : (frame : ℕ) (op : Division) (f : Three) (d : Known) (h : Held) → IsOperand f.operand2 → (start : Cells) → Fits start d h.words h.icc h.y
    → (let k = with_result f.rd (divided op (h.words f.rs1) (second h.words f.operand2) h.icc h.y) h in Fits start (transferred frame (Divide op f) d) k.words k.icc k.y)
unfolding transferred
fits_quotient frame op f d h operand start fits =
    let near = fits.near in
    let a = h.words f.rs1 in
    let b = second h.words f.operand2 in
    let out = divided op a b h.icc h.y in
    let e = quotient_of d.y (register_entry d f.rs1) (operand_entry d f.operand2) in
    let has = quotient_has start op d.y (register_entry d f.rs1) (operand_entry d f.operand2) a b h.icc h.y (near.are_words f.rs1) (operand_word h.words f.operand2 near.are_words operand) near.y_word
    near.y_interval (register_has start d h.words h.icc h.y f.rs1 near) (operand_has start d h.words h.icc h.y f.operand2 near) in
    let wrote = fits_written start d h.words h.icc h.y f.rd out.value e (divided-word op a b h.icc h.y) has.0 has.1 fits in
    subst (λ n. Fits start (transferred frame (Divide op f) d) (with_word f.rd out.value h.words) out.icc n) (sym (quotient_y op a b h.icc h.y))
    (fits_coded (division_sets_codes op) start (with_entry f.rd e d) (with_word f.rd out.value h.words) h.icc out.icc h.y None (λ t. tt) (λ t. quotient_codes op a b h.icc h.y t) wrote)

pub quotients_keep_fitting : QuotientsKeepFitting
quotients_keep_fitting frame op f d h operand = record {
  near = λ start near. near_quotient frame op f d h operand start near;
  fits = λ start fits. fits_quotient frame op f d h operand start fits;
}

-- ---- tagged results

tagged_word : (op : TaggedOp) (a b : ℕ) → tagged_value op a b < 2 ^ 32
tagged_word TaggedAdd a b = mod_below _ (2 ^ 32) (omega arith)
tagged_word TaggedSub a b = mod_below _ (2 ^ 32) (omega arith)

in_tagged : (op : TaggedOp) (a b : Range) (x y : ℕ) → x < 2 ^ 32 → y < 2 ^ 32 → InInterval a x → InInterval b y → InInterval (range_of_tagged op a b) (tagged_value op x y)
in_tagged TaggedAdd a b x y p q s u = in_range_add a b x y p q s u
in_tagged TaggedSub a b x y p q s u = in_range_sub a b x y p q s u

tagged_has : (start : Cells) (op : TaggedOp) (a b : Option Entry) (x y : ℕ) → x < 2 ^ 32 → y < 2 ^ 32 → Has start a x → Has start b y → Has start (tagged_of op a b) (tagged_value op x y)
tagged_has start op (Some a) (Some b) x y p q s u = entry_has start (range_of_tagged op a.range b.range) None _ (in_tagged op a.range b.range x y p q s.interval u.interval) tt
tagged_has start op (Some a) None x y p q s u = record { interval = tt; form = tt }
tagged_has start op None b x y p q s u = record { interval = tt; form = tt }

tagged_multiple : (start : Cells) (op : TaggedOp) (a b : Option Entry) (x y : ℕ) (icc : Icc) (high : ℕ) (out : AluOut) → x < 2 ^ 32 → y < 2 ^ 32 → Has start a x → Has start b y
    → HasAlignment (range_of_entry a) x → HasAlignment (range_of_entry b) y → tagged_outcome op x y icc high ≡ Some out → HasAlignment (range_of_entry (tagged_of op a b)) out.value
tagged_multiple start op (Some a) (Some b) x y icc high out p q s u m n is = (tagged_results_stay_in op a.range b.range x y icc high out (are_in start a b x y p q s u) is).1 m n
tagged_multiple start op (Some a) None x y icc high out p q s u m n is = tt
tagged_multiple start op None b x y icc high out p q s u m n is = tt

out_by : (t : Bool) (icc : Icc) (v y : ℕ) (out : AluOut) → (if t then None else Some (record { value = v; icc = icc; y = y })) ≡ Some out → (v ≡ out.value) × (y ≡ out.y)
out_by true icc v y out is = absurd (cc)
out_by false icc v y out is = (cc, cc)

tagged_is : (op : TaggedOp) (x y : ℕ) (icc : Icc) (high : ℕ) (out : AluOut) → tagged_outcome op x y icc high ≡ Some out → (tagged_value op x y ≡ out.value) × (high ≡ out.y)
unfolding tagged_outcome
tagged_is TaggedAdd x y icc high out is = out_by _ _ _ high out is
tagged_is TaggedSub x y icc high out is = out_by _ _ _ high out is

near_tagged : (frame : ℕ) (op : TaggedOp) (f : Three) (start : Cells) (d : Known) (h : Held) (icc : Icc) → IsOperand f.operand2 → Near start d h.words h.icc h.y
    → Near start (transferred frame (TaggedTrap op f) d) (with_word f.rd (tagged_value op (h.words f.rs1) (second h.words f.operand2)) h.words) icc h.y
unfolding transferred
near_tagged frame op f start d h icc operand near =
    let a = h.words f.rs1 in
    let b = second h.words f.operand2 in
    let x = register_entry d f.rs1 in
    let z = operand_entry d f.operand2 in
    let has = tagged_has start op x z a b (near.are_words f.rs1) (operand_word h.words f.operand2 near.are_words operand)
    (register_has start d h.words h.icc h.y f.rs1 near) (operand_has start d h.words h.icc h.y f.operand2 near) in
    let wrote = near_written start d h.words h.icc h.y f.rd (tagged_value op a b) (tagged_of op x z) (tagged_word op a b) has near in
    near_related start (with_entry f.rd (tagged_of op x z) d) (with_word f.rd (tagged_value op a b) h.words) h.icc icc h.y true None tt wrote

fits_tagged : (frame : ℕ) (op : TaggedOp) (f : Three) (d : Known) (h : Held) (out : AluOut) → IsOperand f.operand2 → tagged_outcome op (h.words f.rs1) (second h.words f.operand2) h.icc h.y ≡ Some out
    → (start : Cells) → Fits start d h.words h.icc h.y → Fits start (transferred frame (TaggedTrap op f) d) (with_word f.rd out.value h.words) out.icc out.y
unfolding transferred
fits_tagged frame op f d h out operand is start fits =
    let near = fits.near in
    let a = h.words f.rs1 in
    let b = second h.words f.operand2 in
    let x = register_entry d f.rs1 in
    let z = operand_entry d f.operand2 in
    let same = tagged_is op a b h.icc h.y out is in
    let p : a < 2 ^ 32 = near.are_words f.rs1 in
    let q : b < 2 ^ 32 = operand_word h.words f.operand2 near.are_words operand in
    let first = register_has start d h.words h.icc h.y f.rs1 near in
    let other = operand_has start d h.words h.icc h.y f.operand2 near in
    let has = subst (Has start (tagged_of op x z)) same.0 (tagged_has start op x z a b p q first other) in
    let multiple =
    tagged_multiple start op x z a b h.icc h.y out p q first other (register_multiple start d h.words h.icc h.y f.rs1 fits)
    (operand_multiple start d h.words h.icc h.y f.operand2 fits) is in
    let wrote = fits_written start d h.words h.icc h.y f.rd out.value (tagged_of op x z) (subst (λ v. v < 2 ^ 32) same.0 (tagged_word op a b)) has multiple fits in
    subst (λ n. Fits start (transferred frame (TaggedTrap op f) d) (with_word f.rd out.value h.words) out.icc n) same.1
    (fits_related start (with_entry f.rd (tagged_of op x z) d) (with_word f.rd out.value h.words) h.icc out.icc h.y true None tt wrote)

near_tagged_out : (frame : ℕ) (op : TaggedOp) (f : Three) (d : Known) (h : Held) (out : AluOut) → IsOperand f.operand2 →
    tagged_outcome op (h.words f.rs1) (second h.words f.operand2) h.icc h.y ≡ Some out
    → (start : Cells) → Near start d h.words h.icc h.y → Near start (transferred frame (TaggedTrap op f) d) (with_word f.rd out.value h.words) out.icc out.y
near_tagged_out frame op f d h out operand is start near =
    let same = tagged_is op (h.words f.rs1) (second h.words f.operand2) h.icc h.y out is in
    subst (λ n. Near start (transferred frame (TaggedTrap op f) d) (with_word f.rd out.value h.words) out.icc n) same.1
    (subst (λ v. Near start (transferred frame (TaggedTrap op f) d) (with_word f.rd v h.words) out.icc h.y) same.0 (near_tagged frame op f start d h out.icc operand near))

pub tagged_results_keep_fitting : TaggedResultsKeepFitting
tagged_results_keep_fitting = record {
  near = near_tagged;
  fits = λ frame op f d h out operand is. record {
    near = λ start near. near_tagged_out frame op f d h out operand is start near;
    fits = λ start fits. fits_tagged frame op f d h out operand is start fits;
  };
}

-- ---- SETHI, RDY and WRY

y_has : (start : Cells) (y : Option Range) (w : ℕ) → HasInterval y w → Has start (entry_of_y y) w
y_has start None w h = record { interval = tt; form = tt }
y_has start (Some r) w h = entry_has start r None w h tt

y_multiple : (y : Option Range) (w : ℕ) → HasAlignment y w → HasAlignment (range_of_entry (entry_of_y y)) w
y_multiple None w h = tt
y_multiple (Some r) w h = h

written_has : (start : Cells) (a b : Option Entry) (x y : ℕ) (icc : Icc) (high : ℕ) → x < 2 ^ 32 → y < 2 ^ 32 → Has start a x → Has start b y
    → HasInterval (written_y a b) (outcome ops.Xor x y icc high).value × HasAlignment (written_y a b) (outcome ops.Xor x y icc high).value
written_has start (Some a) (Some b) x y icc high p q s u = (let is = written_y_stays_in a.range b.range x y icc high (are_in start a b x y p q s u) in (is.interval, is.aligned))
written_has start (Some a) None x y icc high p q s u = (tt, tt)
written_has start None b x y icc high p q s u = (tt, tt)

set_high : (frame : ℕ) (f : Upper) (d : Known) (h : Held) (start : Cells)
    → (Near start d h.words h.icc h.y → Near start (transferred frame (SetHigh f) d) (with_word f.rd (high_word f) h.words) h.icc h.y)
    × (Fits start d h.words h.icc h.y → Fits start (transferred frame (SetHigh f) d) (with_word f.rd (high_word f) h.words) h.icc h.y)
unfolding transferred
set_high frame f d h start =
    let small : high_word f < 2 ^ 32 = mod_below _ (2 ^ 32) (omega arith) in
    let e : Option Entry = Some (constant_entry (high_word f)) in (
      λ near. near_written start d h.words h.icc h.y f.rd (high_word f) e small (constant_has start (high_word f)) near,
      λ fits. fits_written start d h.words h.icc h.y f.rd (high_word f) e small (constant_has start (high_word f)) (aligned-known (high_word f)) fits,
    )

read_y : (frame rd : ℕ) (d : Known) (h : Held) (start : Cells)
    → (Near start d h.words h.icc h.y → Near start (transferred frame (ReadY rd) d) (with_word rd h.y h.words) h.icc h.y)
    × (Fits start d h.words h.icc h.y → Fits start (transferred frame (ReadY rd) d) (with_word rd h.y h.words) h.icc h.y)
unfolding transferred
read_y frame rd d h start = (
  λ near. near_written start d h.words h.icc h.y rd h.y (entry_of_y d.y) near.y_word (y_has start d.y h.y near.y_interval) near,
  λ fits. fits_written start d h.words h.icc h.y rd h.y (entry_of_y d.y) fits.near.y_word (y_has start d.y h.y fits.near.y_interval) (y_multiple d.y h.y fits.y_multiple) fits,
)

write_y : (frame : ℕ) (f : Two) (d : Known) (h : Held) (start : Cells) → IsOperand f.operand2
    → (let v = bit_xor (h.words f.rs1) (second h.words f.operand2) in
    (Near start d h.words h.icc h.y → Near start (transferred frame (WriteY f) d) h.words h.icc v)
    × (Fits start d h.words h.icc h.y → Fits start (transferred frame (WriteY f) d) h.words h.icc v))
unfolding transferred outcome
write_y frame f d h start operand =
    let a = h.words f.rs1 in
    let b = second h.words f.operand2 in
    let r = written_y (register_entry d f.rs1) (operand_entry d f.operand2) in
    let has : Near start d h.words h.icc h.y → HasInterval r (bit_xor a b) × HasAlignment r (bit_xor a b) = λ near.
    written_has start (register_entry d f.rs1) (operand_entry d f.operand2) a b h.icc h.y (near.are_words f.rs1) (operand_word h.words f.operand2 near.are_words operand)
    (register_has start d h.words h.icc h.y f.rs1 near) (operand_has start d h.words h.icc h.y f.operand2 near) in
    let small : Near start d h.words h.icc h.y → bit_xor a b < 2 ^ 32 = λ near. xor_lt 32 a b (near.are_words f.rs1) (operand_word h.words f.operand2 near.are_words operand) in (
      λ near. near_y start d h.words h.icc h.y (bit_xor a b) r (small near) (has near).0 near,
      λ fits. fits_y start d h.words h.icc h.y (bit_xor a b) r (small fits.near) (has fits.near).0 (has fits.near).1 fits,
    )

pub moves_keep_fitting : MovesKeepFitting
moves_keep_fitting = record {
  set_high = λ frame f d h. record { near = λ start. (set_high frame f d h start).0; fits = λ start. (set_high frame f d h start).1 };
  read_y = λ frame rd d h. record { near = λ start. (read_y frame rd d h start).0; fits = λ start. (read_y frame rd d h start).1 };
  write_y = λ frame f d h operand. record { near = λ start. (write_y frame f d h start operand).0; fits = λ start. (write_y frame f d h start operand).1 };
}
