use Rattle.std.proofs.Common.{arith, length, refl, sym, ◌∙◌}
use Rattle.native_text.specs.Lines.{body_lines}
use Rattle.native_text.specs.Programs.{CodeFile, head_text}
use Rattle.native_text.specs.Words.{IsWord, IsWordFile}
use Rattle.native_text.proofs.Bodies.{whole-text}
use Rattle.native_text.proofs.Once.{file_once}
use Rattle.native_text.proofs.Readings.{are_read}
use Rattle.native_text.proofs.programs.write_program.Goals as goal

pub returns : goal.returns
returns c =
    let program = c.args.program.now in
    let note = c.args.named.now in
    let marks = c.in_ok-heads.heads.marks.items in
    let blocks = program.blocks.items in
    let begun = c.in_ok-head.ensures in
    let f : CodeFile = record {
      data_bytes = length program.data.items;
      stack_bytes = note.stack_bytes;
      image = note.image.now;
      rows = begun.0;
      lines = body_lines marks 0 blocks;
    } in
    let few : IsWord f.data_bytes = omega arith in
    let words : IsWordFile f = record {
      data_bytes = few;
      stack_bytes = begun.3;
      image = begun.4;
      rows = begun.5;
      lines = rw c.as_slice-2.ensures.value at c.in_ok-body.ensures.words;
    } in
    let text =
    whole-text f.lines c.new-text.result (head_text f.data_bytes f.stack_bytes f.image f.rows) c.head.new.self
    c.in_ok-body.body.text c.bodies.new.self c.in_ok-body.body.points c.new-text.ensures begun.2
    (rw c.as_slice-2.ensures.value at c.in_ok-body.ensures.text) (rw c.as_slice-2.ensures.value at c.in_ok-body.ensures.points)
    c.in_ok-bodies.ensures in (
      f,
      words,
      text,
      record { data_bytes = refl; stack_bytes = refl; image = refl; start = begun.1; blocks = are_read marks blocks (rw c.as_slice.ensures.value at c.in_ok-heads.ensures) },
      λ g w same. file_once f g words w (sym text ∙ same),
    )
