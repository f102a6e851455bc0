use Rattle.std.proofs.Common.{◌≡◌, ℕ, List, ◌++◌, ap, ◌∙◌}
use Rattle.std.specs.Int.{w16, w32, to_be_bytes}
use Rattle.sbx_parts.specs.declared.services.Services.{Services}
use Rattle.sbx_image.specs.Spelling.{data_count_text, header_text}
use Rattle.sbx_image.proofs.Appends.{then_put, on_ok, header_is}
use Rattle.sbx_image.proofs.writing.put_header.Goals as goal

pub returns : goal.returns
returns c =
    let p1 : c.put_u16.new.out.items ≡ c.args.out.now.items ++ (to_be_bytes w32 0x53425838 ++ to_be_bytes w16 c.version.result) =
    then_put c.args.out.now.items (to_be_bytes w32 0x53425838) c.put_u32.new.out.items
    (to_be_bytes w16 c.version.result) c.put_u16.new.out.items c.in_ok-put_u32.ensures c.in_ok-put_u16.ensures in
    let p2 : c.put_u16-2.new.out.items ≡
    c.args.out.now.items ++ (to_be_bytes w32 0x53425838 ++ to_be_bytes w16 c.version.result ++ to_be_bytes w16 c.services.result.0) =
    then_put c.args.out.now.items (to_be_bytes w32 0x53425838 ++ to_be_bytes w16 c.version.result) c.put_u16.new.out.items
    (to_be_bytes w16 c.services.result.0) c.put_u16-2.new.out.items p1 c.in_ok-put_u16-2.ensures in
    let p3 : c.put_u32-2.new.out.items ≡
    c.args.out.now.items
    ++ (to_be_bytes w32 0x53425838 ++ to_be_bytes w16 c.version.result ++ to_be_bytes w16 c.services.result.0 ++ to_be_bytes w32 c.word_count.result) =
    then_put c.args.out.now.items
    (to_be_bytes w32 0x53425838 ++ to_be_bytes w16 c.version.result ++ to_be_bytes w16 c.services.result.0) c.put_u16-2.new.out.items
    (to_be_bytes w32 c.word_count.result) c.put_u32-2.new.out.items p2 c.in_ok-put_u32-2.ensures in
    let p4 : c.put_data_count.new.out.items ≡
    c.args.out.now.items
    ++ (to_be_bytes w32 0x53425838 ++ to_be_bytes w16 c.version.result ++ to_be_bytes w16 c.services.result.0 ++ to_be_bytes w32 c.word_count.result
    ++ data_count_text c.args.image.now) =
    then_put c.args.out.now.items
    (to_be_bytes w32 0x53425838 ++ to_be_bytes w16 c.version.result ++ to_be_bytes w16 c.services.result.0
    ++ to_be_bytes w32 c.word_count.result) c.put_u32-2.new.out.items
    (data_count_text c.args.image.now) c.put_data_count.new.out.items p3 c.in_ok-put_data_count.ensures in
    let p5 : c.put_u16-3.new.out.items ≡
    c.args.out.now.items
    ++ (to_be_bytes w32 0x53425838 ++ to_be_bytes w16 c.version.result ++ to_be_bytes w16 c.services.result.0 ++ to_be_bytes w32 c.word_count.result
    ++ data_count_text c.args.image.now ++ to_be_bytes w16 c.stack_pages.result) =
    then_put c.args.out.now.items
    (to_be_bytes w32 0x53425838 ++ to_be_bytes w16 c.version.result ++ to_be_bytes w16 c.services.result.0 ++ to_be_bytes w32 c.word_count.result
    ++ data_count_text c.args.image.now) c.put_data_count.new.out.items
    (to_be_bytes w16 c.stack_pages.result) c.put_u16-3.new.out.items p4 c.in_ok-put_u16-3.ensures in
    let text : (to_be_bytes w32 0x53425838 ++ to_be_bytes w16 c.version.result ++ to_be_bytes w16 c.services.result.0 ++ to_be_bytes w32 c.word_count.result
    ++ data_count_text c.args.image.now ++ to_be_bytes w16 c.stack_pages.result ++ to_be_bytes w16 c.function_count.result) ≡ header_text c.args.image.now =
    header_is c.args.image.now c.version.result c.services.result.0 c.word_count.result c.stack_pages.result c.function_count.result c.version.ensures.value
    (ap (λ (z : Services). z.0) c.services.ensures) c.word_count.ensures.count c.stack_pages.ensures.count c.function_count.ensures in
    on_ok c.put_u16-4.result (c.put_u16-4.new.out.items ≡ c.put_u16-3.new.out.items ++ to_be_bytes w16 c.function_count.result)
    (c.put_u16-4.new.out.items ≡ c.args.out.now.items ++ header_text c.args.image.now) c.put_u16-4.ensures
    (λ last. then_put c.args.out.now.items
    (to_be_bytes w32 0x53425838 ++ to_be_bytes w16 c.version.result ++ to_be_bytes w16 c.services.result.0 ++ to_be_bytes w32 c.word_count.result
    ++ data_count_text c.args.image.now ++ to_be_bytes w16 c.stack_pages.result) c.put_u16-3.new.out.items
    (to_be_bytes w16 c.function_count.result) c.put_u16-4.new.out.items p5 last ∙ ap (λ (t : List ℕ). c.args.out.now.items ++ t) text)
