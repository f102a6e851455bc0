use Rattle.std.proofs.Common.{sym, ap, ◌∙◌, subst}
use Rattle.sbx_image.specs.Rules.{parts_keep}
use Rattle.sbx_image.specs.Spelling.{IsTyped}
use Rattle.native_flow.proofs.Assembling.{translation_of}
use Rattle.native_flow.proofs.InPieces.{runs_in_pieces}
use Rattle.native_flow.proofs.program.translate.Goals as goal

pub returns-clause-translation : goal.returns-clause-translation
returns-clause-translation c =
    translation_of c.args.accepted.now c.image-image.result.now c.image-image.ensures.image c.keeps_its_format.ensures.kept c.in_ok-labels.labels.starts.items
    c.in_ok-labels.labels.owners.items c.in_ok-labels.labels.sites.items c.in_ok-beginning.field-0 c.in_ok-blocks.ensures.0 c.in_ok-words.words.items
    c.in_ok-returns.returns.items c.blocks_of_words.new.edges.items _ c.in_ok-labels.ensures.starts c.in_ok-labels.ensures.sites c.in_ok-beginning.ensures
    c.in_ok-words.ensures c.in_ok-returns.ensures c.in_ok-blocks.ensures.1 c.in_ok-data_of.ensures.bytes c.in_ok-data_of.ensures.data_are

pub returns-clause-runs : goal.returns-clause-runs
returns-clause-runs c =
    c.translations_run.ensures c.args.accepted.now _
    (record {
      kept = ap parts_keep (sym c.image-image.ensures.image) ∙ c.keeps_its_format.ensures.kept;
      typed = subst IsTyped c.image-image.ensures.image c.keeps_its_format.ensures.typed;
    })
    c.image-image.ensures.checked (returns-clause-translation c)

pub returns-clause-pieces : goal.returns-clause-pieces
returns-clause-pieces c = runs_in_pieces c.args.accepted.now _ (returns-clause-runs c)
