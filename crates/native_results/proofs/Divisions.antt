-- The law of divisions, and of tagged operations that trap.
use Rattle.std.proofs.Common.{◌≡◌, ℕ, ◌-◌, ◌^◌, ◌<◌, ◌≤◌, ◌++◌, Bool, true, false, List, [], ◌∷◌, Some, None, length, slice_index, slice_set, refl, ap, ◌∙◌, append_assoc, arith, rules, ℤ}
use Rattle.std.specs.Prelude.{◌==◌, min, if◌then◌else◌}
use Rattle.v8_word.specs.declared.Icc.{Icc}
use Rattle.v8_alu.specs.Outcomes.{divided, outcome, tagged_codes, tagged_outcome}
use Rattle.v8_alu.specs.Results.{difference, difference_codes, from_flag, nearest_word, quotient, signed_quotient, sum, sum_codes}
use Rattle.v8_alu.specs.declared.AluOut.{AluOut}
use Rattle.v8_alu.specs.declared.Division.{Division}
use Rattle.v8_alu.specs.declared.Division.TheVariants.{Sdiv, SdivCc, Udiv, UdivCc}
use Rattle.v8_alu.specs.declared.Op.TheVariants as ops
use Rattle.v8_alu.specs.declared.TaggedOp.TheVariants.{TaggedAdd, TaggedSub}
use Rattle.v8_formats.specs.declared.instr.Three.{Three}
use Rattle.v8_meaning.specs.Admitted.{is_admitted}
use Rattle.v8_meaning.specs.declared.operation.Operation.TheVariants.{Compute, Divide, TaggedTrap}
use Rattle.sbx_flat.specs.Effects.{operand_value, writes_result, writes_some}
use Rattle.sbx_flat.specs.States.{State, Goes, reg}
use Rattle.sbx_flat.specs.declared.path.Wrong.{Wrong}
use Rattle.sbx_flat.specs.declared.path.Wrong.TheVariants.{TagOverflow, ZeroDivisor}
use Rattle.native_lang.specs.declared.expr.Expr.TheVariants.{Variable}
use Rattle.native_lang.specs.declared.stmt.Stmt.{Stmt}
use Rattle.native_lang.specs.declared.stmt.Stmt.TheVariants as stmts
use Rattle.native_lang.specs.declared.stmt.Stmt.TheVariants.{Set}
use Rattle.native_lang.specs.Values.{value}
use Rattle.native_lang.specs.World.{World, divides, division, no_codes}
use Rattle.native_results.specs.Bench.{Bench, Has, Makes, Turns, WorksTo, bench_of, laid_out}
use Rattle.native_results.specs.DoesAll.{does_all, then_on}
use Rattle.native_results.specs.Operands.{IsOperand}
use Rattle.native_results.specs.Quotients.{has_signs, sets_codes, with_quotient_codes}
use Rattle.native_results.specs.Words.{Adds}
use Rattle.native_results.proofs.Adding.{adds_landing, operands_laid_out, result_of, to_register, with_operands, wrote_next}
use Rattle.native_results.proofs.Making.{bench_put, does_append, long, other, put, works_on}
use Rattle.native_results.proofs.Outcomes.{by_logic}

-- ---- a quotient on the bench

abbrev pub quotient_of : Bool → Bench → AluOut
quotient_of sign k = divided (division sign) k.first k.second no_codes k.y

abbrev pub with_quotient : Bool → Bench → Bench
with_quotient sign k = record k { result = (quotient_of sign k).value; nowhere = from_flag (quotient_of sign k).icc.v }

abbrev pub parting : Bool → List Stmt
parting sign = stmts.Divide 42 45 sign (Variable 36) (Variable 40) (Variable 41) ∷ []

divides_by : (b : Bool) (o : AluOut) (w : World) → b ≡ false →
    then_on (divides 42 45 (if b then None else Some o) w) (λ u. Some u) ≡ Some (record w { variables = slice_set (slice_set w.variables 42 o.value) 45 (from_flag o.icc.v) })
divides_by true o w e = absurd (cc)
divides_by false o w e = refl

pub parts_at : (windows : ℕ) (sign : Bool) (w : World) → length w.variables ≡ 256 → (slice_index w.variables 41 == 0) ≡ false →
    WorksTo windows (parting sign) w (with_quotient sign (bench_of w.variables))
parts_at windows sign w size some =
    let v = w.variables in
    let o = quotient_of sign (bench_of v) in
    let v1 = slice_set v 42 o.value in
    let size1 : length v1 ≡ 256 = long v 42 o.value size in
    record {
      variables = slice_set v1 45 (from_flag o.icc.v);
      done = divides_by (slice_index v 41 == 0) o w some;
      size = long v1 45 (from_flag o.icc.v) size1;
      registers = λ r less. other v1 45 (from_flag o.icc.v) r (λ e. omega (arith, e, less)) ∙ other v 42 o.value r (λ e. omega (arith, e, less));
      kept = λ x above below. other v1 45 (from_flag o.icc.v) x (λ e. omega (arith, e, below)) ∙ other v 42 o.value x (λ e. omega (arith, e, above));
      is = bench_put v1 45 (from_flag o.icc.v) size1 (omega arith) ∙ ap (put 45 (from_flag o.icc.v)) (bench_put v 42 o.value size (omega arith));
    }

capped : (n : ℕ) → min n (2 ^ 32 - 1) < 2 ^ 32
capped n = let e : min n (2 ^ 32 - 1) ≤ 2 ^ 32 - 1 = search rules in omega arith

nearest : (z : ℤ) → nearest_word z < 2 ^ 32
nearest z = search rules

pub quotient_has : (op : Division) (a b y : ℕ) (icc : Icc) (k : Bench) →
    Has (divided op a b icc y) (with_quotient_codes (sets_codes op) (with_quotient (has_signs op) (laid_out k a b icc y)))
unfolding divided
quotient_has Udiv a b y icc k = record { result = refl; n = refl; z = refl; v = refl; c = refl; y = refl }
quotient_has Sdiv a b y icc k = record { result = refl; n = refl; z = refl; v = refl; c = refl; y = refl }
quotient_has UdivCc a b y icc k =
    let h = by_logic (with_quotient false (laid_out k a b icc y)) (min (quotient y a b) (2 ^ 32 - 1)) icc y (capped (quotient y a b)) refl refl in
    record { result = h.result; n = h.n; z = h.z; v = refl; c = h.c; y = h.y }
quotient_has SdivCc a b y icc k =
    let h = by_logic (with_quotient true (laid_out k a b icc y)) (nearest_word (signed_quotient y a b)) icc y (nearest (signed_quotient y a b)) refl refl in
    record { result = h.result; n = h.n; z = h.z; v = refl; c = h.c; y = h.y }

-- ---- divisions

goes_some : (b : Bool) (rd : ℕ) (why : Wrong) (o : AluOut) (s next : State) → writes_some rd why (if b then None else Some o) s ≡ Goes next →
    (b ≡ false) × (writes_result rd o s ≡ Goes next)
goes_some true rd why o s next e = absurd (cc)
goes_some false rd why o s next e = (refl, e)

pub adds_division : (op : Division) (f : Three) (old a b d new : List Stmt) → f.rd < 32 → f.rs1 < 32 → IsOperand f.operand2 → Makes (with_operands f) old a →
    b ≡ a ++ parting (has_signs op) → Turns (with_quotient_codes (sets_codes op)) b d → new ≡ d ++ to_register f.rd (Variable 42) → Adds (Divide op f) old new
unfolding is_admitted
adds_division op f old a b d new low first is made parted codes at = adds_landing (Divide op f) f.rd ((made.made ++ parting (has_signs op)) ++ codes.made) old d new low
    (λ windows t. refl)
    (λ windows parts s next w formed shows goes.
    let x = reg s f.rs1 in
    let z = operand_value s f.operand2 in
    let g = goes_some (z == 0) f.rd ZeroDivisor (divided op x z s.icc s.y) s next goes in
    let laid = operands_laid_out parts w s f first is shows in
    let m = made.works windows w shows.variables in
    let on_bench : bench_of m.variables ≡ laid_out (bench_of w.variables) x z s.icc s.y = m.is ∙ laid in
    let some : (slice_index m.variables 41 == 0) ≡ false = ap (λ (k : Bench). k.second == 0) on_bench ∙ g.0 in
    let p = parts_at windows (has_signs op) (record w { variables = m.variables }) m.size some in
    let q : WorksTo windows (made.made ++ parting (has_signs op)) w (with_quotient (has_signs op) (laid_out (bench_of w.variables) x z s.icc s.y)) = record {
      variables = p.variables;
      done = does_append windows made.made (parting (has_signs op)) w ∙ ap (λ o. then_on o (does_all windows (parting (has_signs op)))) m.done ∙ p.done;
      size = p.size;
      registers = λ r less. p.registers r less ∙ m.registers r less;
      kept = λ x above below. p.kept x above below ∙ m.kept x above below;
      is = p.is ∙ ap (with_quotient (has_signs op)) on_bench;
    } in
    record {
      bench = with_quotient_codes (sets_codes op) (with_quotient (has_signs op) (laid_out (bench_of w.variables) x z s.icc s.y));
      works = works_on windows w (made.made ++ parting (has_signs op)) (with_quotient (has_signs op) (laid_out (bench_of w.variables) x z s.icc s.y)) (with_quotient_codes (sets_codes op)) b d q codes;
      has = record {
        out = divided op x z s.icc s.y;
        has = quotient_has op x z s.y s.icc (bench_of w.variables);
        is = wrote_next f.rd (divided op x z s.icc s.y).value (result_of (divided op x z s.icc s.y) s) next g.1;
      };
    })
    (codes.behind ∙ ap (λ l. l ++ codes.made) (parted ∙ ap (λ l. l ++ parting (has_signs op)) made.behind ∙ append_assoc old made.made (parting (has_signs op)))
    ∙ append_assoc old (made.made ++ parting (has_signs op)) codes.made)
    at

-- ---- tagged operations that trap

tagged_goes : (rd : ℕ) (codes : Icc) (y value : ℕ) (s next : State) (b : Bool) → codes.v ≡ b → writes_some rd TagOverflow (if b then None else Some (record { value = value; icc = codes; y = y })) s ≡ Goes next →
    writes_result rd (record { value = value; icc = codes; y = y }) s ≡ Goes next
tagged_goes rd codes y value s next true v e = absurd (cc)
tagged_goes rd codes y value s next false v e = e

pub adds_tag : (f : Three) (old new : List Stmt) → Adds (Compute ops.TaddCc f) old new → Adds (TaggedTrap TaggedAdd f) old new
unfolding is_admitted outcome tagged_outcome
adds_tag f old new h = record {
  made = h.made;
  behind = h.behind;
  is = record {
    comes = λ windows parts s next w formed shows goes.
        let a = reg s f.rs1 in
        let b = operand_value s f.operand2 in
        let c = h.is.comes windows parts s next w formed shows
        (tagged_goes f.rd (tagged_codes a b (sum_codes a b false)) s.y (sum a b false) s next (tagged_codes a b (sum_codes a b false)).v refl goes) in
        record { new = c.new; done = c.done; shows = c.shows; counts = c.counts; kept = c.kept };
  };
}

pub subtracts_tag : (f : Three) (old new : List Stmt) → Adds (Compute ops.TsubCc f) old new → Adds (TaggedTrap TaggedSub f) old new
unfolding is_admitted outcome tagged_outcome
subtracts_tag f old new h = record {
  made = h.made;
  behind = h.behind;
  is = record {
    comes = λ windows parts s next w formed shows goes.
        let a = reg s f.rs1 in
        let b = operand_value s f.operand2 in
        let c = h.is.comes windows parts s next w formed shows
        (tagged_goes f.rd (tagged_codes a b (difference_codes a b false)) s.y (difference a b false) s next (tagged_codes a b (difference_codes a b false)).v refl goes) in
        record { new = c.new; done = c.done; shows = c.shows; counts = c.counts; kept = c.kept };
  };
}
