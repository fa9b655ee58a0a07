use Rattle.std.proofs.Common.{sym, ◌∙◌}
use Rattle.edid_text_lines.proofs.Words.{same_bytes}
use Rattle.edid_text_lines.proofs.Fieldings.{as_timing, as_unused}
use Rattle.edid_text_lines.proofs.text_to_line.read_fields.Goals as goal

pub returns-in-Unused : goal.returns-in-Unused
returns-in-Unused c = λ f h e. as_unused c.args.form f c.args.text.now c.letters_field-in-Unused.result c.in-Unused.is (same_bytes _ _ (sym c.if-eq.ensures) ∙ c.as_slice.ensures) c.letters_field-in-Unused.ensures h e

pub returns-in-Timing : goal.returns-in-Timing
returns-in-Timing c = λ f h e. as_timing c.args.form f c.args.text.now c.timing_field.result c.in-Timing.is c.timing_field.ensures h e
