use Rattle.std.proofs.Common.{refl}
use Rattle.text_core.proofs.Adding.{nothing}
use Rattle.room_run.proofs.line_text.LineTextReporter.event.Goals as goal

pub returns : goal.returns
returns g c = λ before applied. (nothing c.args.self.now.text, refl)
