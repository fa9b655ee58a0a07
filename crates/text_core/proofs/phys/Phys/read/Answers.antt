use Rattle.std.proofs.Common.{ap, sym, ◌∙◌}
use Rattle.text_core.specs.Piece.{phys_text}
use Rattle.text_core.proofs.PhysTexts.{phys_text-phys_at}
use Rattle.text_core.proofs.phys.Phys.read.Goals as goal

pub returns-clause-text : goal.returns-clause-text
returns-clause-text c =
    ap phys_text c.phys_at.ensures
    ∙ phys_text-phys_at c.args.text.now c.if-text-ne7.false (sym c.has_dots.ensures ∙ c.if-not-has_dots.false) (sym c.has_digits.ensures ∙ c.if-not-has_digits.false)
