use Rattle.std.proofs.Common.{map, ap, List, ◌++◌, ◌∙◌}
use Rattle.capture_monitor.specs.Watch.{captured_by}
use Rattle.audit_notes.specs.Lines.AuditLine.{Reading}
use Rattle.capture_frames.specs.Frames.{frame_as}
use Rattle.capture_frames.specs.declared.frame.CapturedFrame.{CapturedFrame}
use Rattle.capture_frames.specs.Heard.{frames_of}
use Rattle.capture_frames.proofs.Keeping.{all_heard}
use Rattle.capture_frames.proofs.hearing.frames_heard.Goals as goal

pub returns : goal.returns
returns c =
    let xs = captured_by c.args.windows c.args.capture.now in
    ap (map frame_as) c.in_ok-frames.ensures.1 ∙ (c.hear_readings.ensures c.in_ok-frames.ensures.0).1
    ∙ ap (λ (first : List CapturedFrame). map frame_as first ++ frames_of (map Reading xs)) c.none-heard.ensures
    ∙ all_heard xs
