use Rattle.std.proofs.Common.{◌≡◌, subst, sym}
use Rattle.follow_core.specs.Lines.{lines_captured, lines_left}
use Rattle.follow_core.specs.declared.lines.CaptureLines.TheVariants.{Names}
use Rattle.follow_core.specs.declared.lines.LineForm.{LineForm}
use Rattle.follow_core.proofs.Left.{names_first}
use Rattle.follow_core.proofs.lines.CaptureLines.new.Goals as goal

pub returns-in-Csv-clause-first : goal.returns-in-Csv-clause-first
returns-in-Csv-clause-first c = λ signal lines. subst (λ (f : LineForm). lines_left signal Names 1 lines ≡ lines_captured f signal lines) (sym c.in-Csv.is) (names_first signal lines)
