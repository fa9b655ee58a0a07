use Rattle.std.proofs.Common.{append-nil, subst, sym}
use Rattle.text_core.specs.Adds.{Adds}
use Rattle.message_text.specs.ReadingText.{reading_line}
use Rattle.capture_monitor.proofs.watching.add_reported.Goals as goal

pub returns-in-Some : goal.returns-in-Some
returns-in-Some g c =
    rw c.in-Some.is (subst (λ t. Adds c.args.out.now c.add_reading.new.out t) (sym (append-nil (reading_line c.in-Some.reading))) c.add_reading.ensures)
