use Rattle.edid_text_lines.proofs.OneWord.{solid, fields_begin}
use Rattle.edid_text_lines.proofs.Words.{cut_at, without_decimal}
use Rattle.edid_text_lines.proofs.laws.words_end_at_the_first_space.Goals as goal

pub returns-clause-word : goal.returns-clause-word
returns-clause-word c = solid

pub returns-clause-fields : goal.returns-clause-fields
returns-clause-fields c = fields_begin

pub returns-clause-cut : goal.returns-clause-cut
returns-clause-cut c = cut_at

pub returns-clause-number : goal.returns-clause-number
returns-clause-number c = without_decimal
