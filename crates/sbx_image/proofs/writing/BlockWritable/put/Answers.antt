use Rattle.std.proofs.lemmas.Grind.{common_steps}
use Rattle.std.proofs.Common.{◌≡◌, ◌++◌, length, arith}
use Rattle.std.specs.Int.{w16, w32, w64, to_be_bytes}
use Rattle.std.specs.List.{flat_map}
use Rattle.sbx_image.specs.Spelling.{signed, cell_text, term_text, block_text}
use Rattle.std.specs.Prelude.{FitsSigned}
use Rattle.std.proofs.lemmas.Int.{to_z-of_z}
use Rattle.std.proofs.Common.{ap, ◌∙◌, rules}
use Rattle.sbx_image.proofs.Appends.{then_put, on_ok}
use Rattle.sbx_image.proofs.writing.BlockWritable.put.Goals as goal

pub returns : goal.returns
unfolding block_text
returns c =
    let held : FitsSigned w64 c.args.self.now.fuel = search rules in
    let fueled : c.put_i64.new.out.items ≡ c.put_u16-2.new.out.items ++ signed w64 c.args.self.now.fuel =
    c.in_ok-put_i64.ensures ∙ ap (λ z. c.put_u16-2.new.out.items ++ signed w64 z) (to_z-of_z w64 c.args.self.now.fuel held) in
    let p1 : c.put_u16.new.out.items ≡
    c.args.out.now.items ++ (to_be_bytes w32 c.args.self.now.address ++ to_be_bytes w16 (length c.as_slice-cells.result.now)) =
    then_put c.args.out.now.items (to_be_bytes w32 c.args.self.now.address) c.put_u32.new.out.items
    (to_be_bytes w16 (length c.as_slice-cells.result.now)) c.put_u16.new.out.items c.in_ok-put_u32.ensures c.in_ok-put_u16.ensures in
    let p2 : c.put_u16-2.new.out.items ≡
    c.args.out.now.items
    ++ (to_be_bytes w32 c.args.self.now.address ++ to_be_bytes w16 (length c.as_slice-cells.result.now)
    ++ to_be_bytes w16 (length c.as_slice-terms.result.now)) =
    then_put c.args.out.now.items (to_be_bytes w32 c.args.self.now.address ++ to_be_bytes w16 (length c.as_slice-cells.result.now)) c.put_u16.new.out.items
    (to_be_bytes w16 (length c.as_slice-terms.result.now)) c.put_u16-2.new.out.items p1 c.in_ok-put_u16-2.ensures in
    let p3 : c.put_i64.new.out.items ≡
    c.args.out.now.items
    ++ (to_be_bytes w32 c.args.self.now.address ++ to_be_bytes w16 (length c.as_slice-cells.result.now)
    ++ to_be_bytes w16 (length c.as_slice-terms.result.now) ++ signed w64 c.args.self.now.fuel) =
    then_put c.args.out.now.items
    (to_be_bytes w32 c.args.self.now.address ++ to_be_bytes w16 (length c.as_slice-cells.result.now)
    ++ to_be_bytes w16 (length c.as_slice-terms.result.now)) c.put_u16-2.new.out.items
    (signed w64 c.args.self.now.fuel) c.put_i64.new.out.items p2 fueled in
    let p4 : c.put_each.new.out.items ≡
    c.args.out.now.items
    ++ (to_be_bytes w32 c.args.self.now.address ++ to_be_bytes w16 (length c.as_slice-cells.result.now)
    ++ to_be_bytes w16 (length c.as_slice-terms.result.now) ++ signed w64 c.args.self.now.fuel ++ flat_map cell_text c.as_slice-cells.result.now) =
    then_put c.args.out.now.items
    (to_be_bytes w32 c.args.self.now.address ++ to_be_bytes w16 (length c.as_slice-cells.result.now) ++ to_be_bytes w16 (length c.as_slice-terms.result.now)
    ++ signed w64 c.args.self.now.fuel) c.put_i64.new.out.items
    (flat_map cell_text c.as_slice-cells.result.now) c.put_each.new.out.items p3 c.in_ok-put_each.ensures in
    rw (← c.as_slice-cells.ensures, ← c.as_slice-terms.ensures)
    (on_ok c.put_each-2.result (c.put_each-2.new.out.items ≡ c.put_each.new.out.items ++ flat_map term_text c.as_slice-terms.result.now)
    (c.put_each-2.new.out.items ≡
    c.args.out.now.items
    ++ (to_be_bytes w32 c.args.self.now.address ++ to_be_bytes w16 (length c.as_slice-cells.result.now)
    ++ to_be_bytes w16 (length c.as_slice-terms.result.now) ++ signed w64 c.args.self.now.fuel ++ flat_map cell_text c.as_slice-cells.result.now
    ++ flat_map term_text c.as_slice-terms.result.now)) c.put_each-2.ensures
    (λ last. then_put c.args.out.now.items
    (to_be_bytes w32 c.args.self.now.address ++ to_be_bytes w16 (length c.as_slice-cells.result.now) ++ to_be_bytes w16 (length c.as_slice-terms.result.now)
    ++ signed w64 c.args.self.now.fuel ++ flat_map cell_text c.as_slice-cells.result.now) c.put_each.new.out.items
    (flat_map term_text c.as_slice-terms.result.now) c.put_each-2.new.out.items p4 last))

pub overflow_cast-cells : goal.overflow_cast-cells
unfolding block_text
overflow_cast-cells c = grind (arith, common_steps)

pub overflow_cast-terms : goal.overflow_cast-terms
unfolding block_text
overflow_cast-terms c = grind (arith, common_steps)
