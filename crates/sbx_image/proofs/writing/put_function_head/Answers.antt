use Rattle.std.proofs.lemmas.Grind.{common_steps}
use Rattle.std.proofs.Common.{◌≡◌, ◌++◌, arith}
use Rattle.std.specs.Int.{w8, w16, w32, w64, to_be_bytes}
use Rattle.sbx_image.specs.Spelling.{depth_text, function_head_text}
use Rattle.sbx_image.proofs.Appends.{then_put, on_ok}
use Rattle.sbx_image.proofs.writing.put_function_head.Goals as goal

pub returns : goal.returns
unfolding function_head_text
returns c =
    let p1 : c.put_u8-2.new.out.items ≡ c.args.out.now.items ++ (to_be_bytes w8 c.kind_code.result ++ to_be_bytes w8 c.len.result) =
    then_put c.args.out.now.items (to_be_bytes w8 c.kind_code.result) c.put_u8.new.out.items
    (to_be_bytes w8 c.len.result) c.put_u8-2.new.out.items c.in_ok-put_u8.ensures c.in_ok-put_u8-2.ensures in
    let p2 : c.put_u8-3.new.out.items ≡
    c.args.out.now.items ++ (to_be_bytes w8 c.kind_code.result ++ to_be_bytes w8 c.len.result ++ to_be_bytes w8 c.len-2.result) =
    then_put c.args.out.now.items (to_be_bytes w8 c.kind_code.result ++ to_be_bytes w8 c.len.result) c.put_u8-2.new.out.items
    (to_be_bytes w8 c.len-2.result) c.put_u8-3.new.out.items p1 c.in_ok-put_u8-3.ensures in
    let p3 : c.put_u8-4.new.out.items ≡
    c.args.out.now.items ++ (to_be_bytes w8 c.kind_code.result ++ to_be_bytes w8 c.len.result ++ to_be_bytes w8 c.len-2.result ++ to_be_bytes w8 0) =
    then_put c.args.out.now.items
    (to_be_bytes w8 c.kind_code.result ++ to_be_bytes w8 c.len.result ++ to_be_bytes w8 c.len-2.result) c.put_u8-3.new.out.items
    (to_be_bytes w8 0) c.put_u8-4.new.out.items p2 c.in_ok-put_u8-4.ensures in
    let p4 : c.put_u32.new.out.items ≡
    c.args.out.now.items
    ++ (to_be_bytes w8 c.kind_code.result ++ to_be_bytes w8 c.len.result ++ to_be_bytes w8 c.len-2.result ++ to_be_bytes w8 0
    ++ to_be_bytes w32 c.args.function.now.entry) =
    then_put c.args.out.now.items
    (to_be_bytes w8 c.kind_code.result ++ to_be_bytes w8 c.len.result ++ to_be_bytes w8 c.len-2.result ++ to_be_bytes w8 0) c.put_u8-4.new.out.items
    (to_be_bytes w32 c.args.function.now.entry) c.put_u32.new.out.items p3 c.in_ok-put_u32.ensures in
    let p5 : c.put_u32-2.new.out.items ≡
    c.args.out.now.items
    ++ (to_be_bytes w8 c.kind_code.result ++ to_be_bytes w8 c.len.result ++ to_be_bytes w8 c.len-2.result ++ to_be_bytes w8 0
    ++ to_be_bytes w32 c.args.function.now.entry ++ to_be_bytes w32 c.args.function.now.frame) =
    then_put c.args.out.now.items
    (to_be_bytes w8 c.kind_code.result ++ to_be_bytes w8 c.len.result ++ to_be_bytes w8 c.len-2.result ++ to_be_bytes w8 0
    ++ to_be_bytes w32 c.args.function.now.entry) c.put_u32.new.out.items
    (to_be_bytes w32 c.args.function.now.frame) c.put_u32-2.new.out.items p4 c.in_ok-put_u32-2.ensures in
    let p6 : c.put_u32-3.new.out.items ≡
    c.args.out.now.items
    ++ (to_be_bytes w8 c.kind_code.result ++ to_be_bytes w8 c.len.result ++ to_be_bytes w8 c.len-2.result ++ to_be_bytes w8 0
    ++ to_be_bytes w32 c.args.function.now.entry ++ to_be_bytes w32 c.args.function.now.frame ++ to_be_bytes w32 c.args.function.now.stack_room) =
    then_put c.args.out.now.items
    (to_be_bytes w8 c.kind_code.result ++ to_be_bytes w8 c.len.result ++ to_be_bytes w8 c.len-2.result ++ to_be_bytes w8 0
    ++ to_be_bytes w32 c.args.function.now.entry ++ to_be_bytes w32 c.args.function.now.frame) c.put_u32-2.new.out.items
    (to_be_bytes w32 c.args.function.now.stack_room) c.put_u32-3.new.out.items p5 c.in_ok-put_u32-3.ensures in
    let p7 : c.put_u64.new.out.items ≡
    c.args.out.now.items
    ++ (to_be_bytes w8 c.kind_code.result ++ to_be_bytes w8 c.len.result ++ to_be_bytes w8 c.len-2.result ++ to_be_bytes w8 0
    ++ to_be_bytes w32 c.args.function.now.entry ++ to_be_bytes w32 c.args.function.now.frame ++ to_be_bytes w32 c.args.function.now.stack_room
    ++ to_be_bytes w64 c.args.function.now.budget) =
    then_put c.args.out.now.items
    (to_be_bytes w8 c.kind_code.result ++ to_be_bytes w8 c.len.result ++ to_be_bytes w8 c.len-2.result ++ to_be_bytes w8 0
    ++ to_be_bytes w32 c.args.function.now.entry ++ to_be_bytes w32 c.args.function.now.frame
    ++ to_be_bytes w32 c.args.function.now.stack_room) c.put_u32-3.new.out.items
    (to_be_bytes w64 c.args.function.now.budget) c.put_u64.new.out.items p6 c.in_ok-put_u64.ensures in
    let p8 : c.put_depth.new.out.items ≡
    c.args.out.now.items
    ++ (to_be_bytes w8 c.kind_code.result ++ to_be_bytes w8 c.len.result ++ to_be_bytes w8 c.len-2.result ++ to_be_bytes w8 0
    ++ to_be_bytes w32 c.args.function.now.entry ++ to_be_bytes w32 c.args.function.now.frame ++ to_be_bytes w32 c.args.function.now.stack_room
    ++ to_be_bytes w64 c.args.function.now.budget ++ depth_text c.args.version c.args.function.now) =
    then_put c.args.out.now.items
    (to_be_bytes w8 c.kind_code.result ++ to_be_bytes w8 c.len.result ++ to_be_bytes w8 c.len-2.result ++ to_be_bytes w8 0
    ++ to_be_bytes w32 c.args.function.now.entry ++ to_be_bytes w32 c.args.function.now.frame ++ to_be_bytes w32 c.args.function.now.stack_room
    ++ to_be_bytes w64 c.args.function.now.budget) c.put_u64.new.out.items
    (depth_text c.args.version c.args.function.now) c.put_depth.new.out.items p7 c.in_ok-put_depth.ensures in
    rw (← c.kind_code.ensures, ← c.len.ensures, ← c.len-2.ensures, ← c.len-3.ensures)
    (on_ok c.put_u16.result (c.put_u16.new.out.items ≡ c.put_depth.new.out.items ++ to_be_bytes w16 c.len-3.result)
    (c.put_u16.new.out.items ≡
    c.args.out.now.items
    ++ (to_be_bytes w8 c.kind_code.result ++ to_be_bytes w8 c.len.result ++ to_be_bytes w8 c.len-2.result ++ to_be_bytes w8 0
    ++ to_be_bytes w32 c.args.function.now.entry ++ to_be_bytes w32 c.args.function.now.frame ++ to_be_bytes w32 c.args.function.now.stack_room
    ++ to_be_bytes w64 c.args.function.now.budget ++ depth_text c.args.version c.args.function.now ++ to_be_bytes w16 c.len-3.result)) c.put_u16.ensures
    (λ last. then_put c.args.out.now.items
    (to_be_bytes w8 c.kind_code.result ++ to_be_bytes w8 c.len.result ++ to_be_bytes w8 c.len-2.result ++ to_be_bytes w8 0
    ++ to_be_bytes w32 c.args.function.now.entry ++ to_be_bytes w32 c.args.function.now.frame ++ to_be_bytes w32 c.args.function.now.stack_room
    ++ to_be_bytes w64 c.args.function.now.budget ++ depth_text c.args.version c.args.function.now) c.put_depth.new.out.items
    (to_be_bytes w16 c.len-3.result) c.put_u16.new.out.items p8 last))

pub overflow_cast-len-3 : goal.overflow_cast-len-3
unfolding function_head_text
overflow_cast-len-3 c = omega arith

pub overflow_cast-len-2 : goal.overflow_cast-len-2
unfolding function_head_text
overflow_cast-len-2 c = grind (arith, common_steps)

pub overflow_cast-len : goal.overflow_cast-len
unfolding function_head_text
overflow_cast-len c = grind (arith, common_steps)
