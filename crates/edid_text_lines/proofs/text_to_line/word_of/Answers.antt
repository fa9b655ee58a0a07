use Rattle.std.proofs.Common.{Some, ap, sym, ◌∙◌, arith}
use Rattle.edid_text_lines.specs.Text.{word_text}
use Rattle.edid_text_lines.proofs.OneWord.{one_word, listed, number_of}
use Rattle.edid_text_lines.proofs.Words.{same_bytes}
use Rattle.edid_text_lines.proofs.text_to_line.word_of.Goals as goal

pub returns-then-eq-clause-only : goal.returns-then-eq-clause-only
returns-then-eq-clause-only c = λ w e. ap (λ x. Some x) (one_word _ w (sym c.text.ensures.value ∙ sym c.as_bytes.ensures.value ∙ same_bytes c.as_bytes.result.now c.args.text.now (sym c.if-eq.ensures) ∙ sym e))

pub returns-clause-only : goal.returns-clause-only
returns-clause-only c = λ w e. let in_list = (listed w).0 in absurd (c.loop-word.invariant (number_of w) (omega (arith, in_list)) (ap word_text (listed w).1 ∙ e))

pub returns-then-eq-clause-found : goal.returns-then-eq-clause-found
returns-then-eq-clause-found c = sym c.text.ensures.value ∙ sym c.as_bytes.ensures.value ∙ same_bytes c.as_bytes.result.now c.args.text.now (sym c.if-eq.ensures)
