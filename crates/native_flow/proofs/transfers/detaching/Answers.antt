use Rattle.std.proofs.Common.{ap, refl, ◌∙◌}
use Rattle.native_lang.specs.declared.program.BlockEnd.TheVariants.{Goto, If}
use Rattle.native_flow.specs.Labelling.{label_at}
use Rattle.native_flow.proofs.Endings.{is_condition}
use Rattle.native_flow.proofs.transfers.detaching.Goals as goal

pub returns : goal.returns
returns c =
    let at = label_at c.args.labels.now.starts.items in
    record {
      asked = c.in_ok-asked.asked;
      is = is_condition c.args.branch.now.cond c.in_ok-asked.asked c.in_ok-asked.ensures;
      block = c.in_ok-block.ensures.list;
      ends = c.in_ok-block.ensures.end ∙ ap (If c.in_ok-asked.asked c.args.edge_label) (c.at-behind.ensures ∙ ap at c.behind.ensures);
      made = c.in_ok-edge.edge;
      edge = refl;
      slot_made = c.in_ok-edge.ensures.made;
      goes = c.in_ok-edge.ensures.end ∙ ap Goto (c.at-target.ensures ∙ ap at c.target.ensures);
    }
