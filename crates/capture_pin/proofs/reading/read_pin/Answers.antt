use Rattle.std.proofs.Common.{ap, sym, ◌∙◌}
use Rattle.text_core.specs.Lines.{lines_of}
use Rattle.capture_core.specs.Reading.{lines_read}
use Rattle.capture_pin.specs.Pin.{pin_form}
use Rattle.capture_pin.proofs.Sampled.{read_is_capture}
use Rattle.capture_pin.proofs.reading.read_pin.Goals as goal

pub new-requires-2 : goal.new-requires-2
new-requires-2 c =
    read_is_capture c.args.text.now (record { edges = c.in_ok-edges.edges.items; end = c.in_ok-edges.end })
    (ap (lines_read pin_form 1 (lines_of c.args.text.now)) (sym c.new.ensures) ∙ c.in_ok-edges.ensures)
