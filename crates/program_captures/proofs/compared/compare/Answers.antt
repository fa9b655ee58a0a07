use Rattle.std.proofs.Common.{◌≡◌, ◌∙◌, List, ap, subst₂, sym, true}
use Rattle.std.specs.Io.KnownBytes.{Appends}
use Rattle.line_reading.specs.Readings.{Listed}
use Rattle.line_reading.specs.Windows.{wider}
use Rattle.capture_core.specs.Edges.{Captured}
use Rattle.capture_difference.specs.Aligned.{aligned}
use Rattle.capture_difference.specs.Lines.{difference_text}
use Rattle.capture_difference.specs.Rows.{is_none_different}
use Rattle.capture_frames.specs.Frames.{frames_in}
use Rattle.capture_monitor.specs.Watch.{captured_by}
use Rattle.program_captures.specs.Captures.{readings_at}
use Rattle.program_captures.specs.Compared.{ComparesAlike}
use Rattle.program_captures.proofs.CaptureLemmas.{readings_are}
use Rattle.program_captures.proofs.ShownLemmas.{on_ok}
use Rattle.program_captures.proofs.compared.compare.Goals as goal

pub returns : goal.returns
returns g c =
    let pair = c.args.pair in
    let first = c.args.first.now in
    let second = c.args.second.now in
    let old = g.W.Sink.contents c.args.out.now in
    let new = g.W.Sink.contents c.write_capture_difference.new.out in
    let windows = c.wider-windows.result in
    let is_wider = c.wider-windows.ensures.wider ∙ ap wider c.within_most.ensures.same in
    let one : captured_by windows first ≡ readings_at pair.margin first = readings_are pair.margin windows first is_wider in
    let other : captured_by windows second ≡ readings_at pair.margin second = readings_are pair.margin windows second is_wider in
    let told = c.in_ok-same.ensures in
    let P : List Listed → List Listed → Type 0 = λ xs ys. Appends old new (difference_text pair.written (aligned (frames_in xs) (frames_in ys))) in
    let Q : List Listed → List Listed → Type 0 = λ xs ys. c.in_ok-same.same ≡ is_none_different (aligned (frames_in xs) (frames_in ys)) in
    on_ok c.if_same.result (c.in_ok-same.same ≡ true) (ComparesAlike pair first second old new)
    (λ is. (sym (subst₂ Q one other told.0) ∙ is, subst₂ P one other told.1)) c.if_same.ensures
