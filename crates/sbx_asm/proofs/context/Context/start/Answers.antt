use Rattle.sbx_asm.proofs.context.Context.start.Goals as goal

pub returns : goal.returns
returns c = λ values j. record { place = c.start.ensures j; totals = c.none.ensures values j; function = c.new.ensures j; block = c.new-2.ensures j }
