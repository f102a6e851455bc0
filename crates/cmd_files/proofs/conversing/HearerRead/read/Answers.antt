use Rattle.std.proofs.Common.{rules, sym, subst, ap, ◌∙◌}
use Rattle.std.specs.Prelude.{slice_get, nat_eq}
use Rattle.std.specs.Io.KnownBytes.{Consumes}
use Rattle.std.specs.Io.Buffered.{reader_remaining, reader_buffer, reader_capacity, reader_inner}
use Rattle.cmd_files.proofs.Reading.{one_consumed, one_set}
use Rattle.cmd_files.proofs.conversing.HearerRead.read.Goals as goal

pub returns-clause-bytes : goal.returns-clause-bytes
returns-clause-bytes g c =
    let input = c.args.self.now.input in (
      subst (λ bytes. Consumes (reader_remaining g.R.Read.remaining input) (reader_remaining g.R.Read.remaining c.consume.new.self) bytes)
          (sym (one_set c.args.buf.now _ (search rules)))
          (one_consumed (nat_eq (reader_capacity input) 0) (reader_buffer input) (g.R.Read.remaining (reader_inner input)) _ c.in-Some.byte
          (ap (λ l. slice_get l 0) (sym c.buffer.ensures) ∙ sym c.first.ensures.value ∙ sym c.copied.ensures ∙ c.in-Some.is)
          c.consume.ensures.bytes),
      search rules,
    )
