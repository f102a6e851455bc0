use Rattle.std.proofs.Common.{refl, arith, map}
use Rattle.v8_syntax.specs.declared.letters.TheConstants.{BY_LETTER}
use Rattle.v8_syntax.proofs.Index.{empty, from_table, table_indexes, IndexOf}
use Rattle.v8_syntax.proofs.letters.numbers_from.Goals as goal

pub returns-then-letter-lt97-clause-forms : goal.returns-then-letter-lt97-clause-forms
returns-then-letter-lt97-clause-forms c = (let low = c.if-letter-lt97.true in empty c.args.letter (λ h. absurd (omega arith))).kept

-- what the table has at the letter's place
found : (c : goal.After-items_at) → IndexOf c.args.letter c.items_at.result.now
found c =
    from_table c.args.letter c.from.result c.items_at.result.now (map (λ s. s.now) BY_LETTER) c.items_at.ensures c.from.ensures c.if-letter-lt97.false table_indexes refl

pub returns-clause-within : goal.returns-clause-within
returns-clause-within c = (found c).within

pub returns-clause-forms : goal.returns-clause-forms
returns-clause-forms c = (found c).kept
