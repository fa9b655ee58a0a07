use Rattle.std.proofs.Common.{◌≡◌, rules}
use Rattle.edid_text_lines.specs.declared.line.Keyword.TheVariants.{Timing}
use Rattle.edid_texts.proofs.LineParts.{timed_line}
use Rattle.edid_texts.proofs.line_to_value.timing_of.Goals as goal

pub returns-in-Timed : goal.returns-in-Timed
returns-in-Timed c =
    let word : c.args.line.now.word ≡ Timing = search rules in
    timed_line c.args.line.now c.in-Timed.numbers c.in-Timed.flags c.as_slice.result.now c.new.result c.as_slice.ensures.value word c.in-Timed.is c.new.ensures
