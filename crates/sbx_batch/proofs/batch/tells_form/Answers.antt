use Rattle.sbx_batch.proofs.batch.tells_form.Goals as goal

pub returns : goal.returns
returns c = record { kept = c.keeps_its_format.ensures.kept; typed = c.keeps_its_format.ensures.typed }
