use Rattle.std.proofs.Common.{◌≡◌, arith, codes, length}
use Rattle.std.proofs.lemmas.Result.{on_ok_weaker}
use Rattle.native_text.specs.Programs.{array_text, bytes_text, constant_text}
use Rattle.native_text.specs.Words.{IsWord}
use Rattle.native_text.proofs.Bodies.{seven_parts}
use Rattle.native_text.proofs.text.ProgramText.head.Goals as goal

pub returns : goal.returns
returns c =
    let bytes = c.args.program.now.data.items in
    let size : c.len.result ≡ length bytes = omega arith in
    let note = c.args.named.now in
    let small : IsWord note.stack_bytes = omega arith in
    on_ok_weaker c.array.result
    (λ (rows, last, padded, wide). (
      rows,
      (rw c.as_slice.ensures.value at padded),
      seven_parts (codes "/* An accepted image as C, by Geyserpan's `native`. */\n") (constant_text (codes "GP_DATA_BYTES") (length bytes))
          (constant_text (codes "GP_STACK_BYTES") note.stack_bytes) (codes "#define GP_IMAGE {") (bytes_text note.image.now)
          (codes "}\n#include \"geyserpan_native.h\"\n") (array_text (codes "static const uint8_t gp_start[]") rows)
          c.args.self.now c.put.new.self c.constant.new.self c.constant-2.new.self c.put-2.new.self c.bytes.new.self c.put-3.new.self
          c.array.new.self c.in_ok-put.ensures (rw size at c.in_ok-constant.ensures) c.in_ok-constant-2.ensures c.in_ok-put-2.ensures
          c.in_ok-bytes.ensures.text c.in_ok-put-3.ensures last,
      small,
      c.in_ok-bytes.ensures.words,
      wide,
    ))
    c.array.ensures
