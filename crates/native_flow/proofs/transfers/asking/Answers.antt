use Rattle.std.proofs.Common.{[], ◌∷◌, ◌++◌, ap, refl, ◌∙◌, append_assoc}
use Rattle.v8_meaning.specs.Operands.{target}
use Rattle.native_lang.specs.declared.expr.Expr.TheVariants.{Variable}
use Rattle.native_lang.specs.declared.program.BlockEnd.TheVariants.{If}
use Rattle.native_lang.specs.declared.stmt.Stmt.TheVariants.{Set}
use Rattle.native_flow.specs.Labelling.{label_at}
use Rattle.native_flow.specs.Making.{counted}
use Rattle.native_flow.proofs.Endings.{is_condition}
use Rattle.native_flow.proofs.transfers.asking.Goals as goal

pub returns : goal.returns
returns c =
    let old = c.args.making.statements.list.items in
    let h = c.in_ok-block.ensures.made in
    let at = label_at c.args.labels.now.starts.items in
    record {
      asked = c.in_ok-asked.asked;
      is = is_condition c.args.branch.now.cond c.in_ok-asked.asked c.in_ok-asked.ensures;
      made = h.made;
      slot_made = h.is;
      block = h.behind ∙ ap (λ l. l ++ (h.made ++ counted c.args.making.turns)) c.in_ok-set.ensures ∙ append_assoc old (Set 43 c.in_ok-asked.asked ∷ []) (h.made ++ counted c.args.making.turns);
      ends = c.in_ok-block.ensures.end ∙ ap (λ l. If (Variable 43) l c.at-behind.result) (c.at-target.ensures ∙ ap at c.target.ensures)
          ∙ ap (If (Variable 43) (at (target c.args.place.now.address c.args.branch.now.displacement))) (c.at-behind.ensures ∙ ap at c.behind.ensures);
      edge = refl;
    }
