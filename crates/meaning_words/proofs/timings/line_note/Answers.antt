use Rattle.std.proofs.Common.{ap, ◌∙◌}
use Rattle.meaning_words.specs.Timings.{timing_text}
use Rattle.meaning_words.proofs.timings.line_note.Goals as goal

pub returns-clause-value : goal.returns-clause-value
returns-clause-value c = c.timing_note.ensures.value ∙ ap timing_text c.of_line.ensures
