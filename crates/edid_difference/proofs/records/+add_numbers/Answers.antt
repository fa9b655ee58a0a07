use Rattle.std.proofs.Common.{List, ℕ}
use Rattle.std.proofs.lemmas.List.{take_rest}
use Rattle.edid_text_lines.specs.Text.{word_text}
use Rattle.edid_difference.proofs.Adding.{number_differs}
use Rattle.edid_difference.specs.Records.{change_text}
use Rattle.edid_difference.specs.Values.{Change}
use Rattle.edid_difference.proofs.records.+add_numbers.Goals as goal

pub returns-else-one-other : goal.returns-else-one-other
returns-else-one-other g t c =
    let T : Change → List ℕ = change_text c.args.lines.form c.args.lines.block c.args.lines.number c.args.lines.other (word_text c.args.lines.word) in
    number_differs T c.args.lines.word c.args.number c.args.first.now c.args.second.now _ _ _ c.in-len1-up.len_at_least c.in-len1-up-second.len_at_least c.if-one-other.false
    (rw c.name_at.ensures at c.add_number.ensures) (rw (take_rest, take_rest) at c.add_numbers-else-one-other.ensures)
