-- What four sources mean, by computing.
use Rattle.std.proofs.Common.{refl}
use Rattle.sbx_text.specs.Tokens.{tokens_at}
use Rattle.v8_syntax.specs.Statements.{statement_token, word_in, expression, second, added_second, address, target, read, set_operands, set, named_meaning}
use Rattle.v8_forms.specs.Forms.{natives, synthetics}
use Rattle.v8_formats.specs.Table.{meaning}
use Rattle.v8_formats.specs.Spelling.{spelling}
use Rattle.sbx_directives.specs.Directives.{labels_first, operand_of, integer_in, natural_in, range_of, location, named_keywords, keyword_named, services_of}
use Rattle.sbx_directives.specs.Directives.{value_count, directive_of, called, statement_of}
use Rattle.sbx_directives.specs.Data.{listed}
use Rattle.sbx_image.specs.Rules.{each as each_kept, region_keeps, range_keeps, cell_keeps, term_keeps, block_keeps, function_keeps, parts_keep}
use Rattle.sbx_asm.specs.Items.{lines_of, label_names}
use Rattle.sbx_asm.specs.Images.{image_of, source_image}
use Rattle.sbx_source_tests.specs.Examples.{KnownSourcesHaveTheirMeanings}

pub known_meanings : KnownSourcesHaveTheirMeanings
unfolding tokens_at statement_token word_in expression second added_second address target read set_operands set named_meaning natives synthetics meaning spelling
    labels_first operand_of integer_in natural_in range_of location named_keywords keyword_named services_of value_count directive_of called statement_of listed
    each_kept region_keeps range_keeps cell_keeps term_keeps block_keeps function_keeps parts_keep lines_of label_names image_of source_image
known_meanings = (refl, refl, refl, refl)
