-- The test of a capture, by its frames.
use Rattle.std.proofs.Common.{◌≡◌, ℕ, Bool, false, List, Option, Result, ap₂, subst}
use Rattle.line_reading.specs.Windows.{standard}
use Rattle.capture_core.specs.Edges.{Captured}
use Rattle.capture_monitor.specs.Watch.{captured_by}
use Rattle.audit_notes.specs.Lines.{has_remark}
use Rattle.audit_core.specs.Audit.{audit_lines}
use Rattle.capture_as_test.specs.Lines.{test_of}
use Rattle.capture_as_test.specs.Written.{IsTestWritten, IsTextWritten}
use Rattle.capture_as_test.specs.declared.write.AsTestError.{AsTestError}
use Rattle.capture_frames.specs.Frames.{FrameLine, frames_in}

pub written_as : (capture : Captured) (fs : List FrameLine) (remarked : Bool) (old new : Option (List ℕ)) (was is : Bool) (r : Result (Unit {0}) AsTestError)
    → fs ≡ frames_in (captured_by standard capture) → remarked ≡ has_remark (audit_lines false capture (captured_by standard capture))
    → IsTextWritten (test_of fs remarked) old new was is r → IsTestWritten capture old new was is r
written_as capture fs remarked old new was is r same told written = subst (λ (text : List ℕ). IsTextWritten text old new was is r) (ap₂ test_of same told) written
