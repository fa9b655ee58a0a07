use Rattle.std.proofs.Common.{ap, sym, ◌∙◌}
use Rattle.edid_text_lines.specs.Text.{word_text}
use Rattle.edid_text_lines.proofs.OneWord.{one_word}
use Rattle.edid_text_lines.proofs.line.Line.begins_with.Goals as goal

pub returns : goal.returns
returns c = (
  λ t. one_word _ _ (sym c.text.ensures.value ∙ sym c.as_bytes.ensures.value ∙ c.is_same.ensures.0 t ∙ c.as_bytes-2.ensures.value ∙ c.text-2.ensures.value),
  λ e. c.is_same.ensures.1 (c.as_bytes.ensures.value ∙ c.text.ensures.value ∙ ap word_text e ∙ sym c.text-2.ensures.value ∙ sym c.as_bytes-2.ensures.value),
)
