-- What is written of a capture as its own test (own).
use Rattle.std.specs.Prelude.{◌≡◌, ℕ, Bool, true, false, List, Option, Result, Ok, Err}
use Rattle.std.specs.Io.KnownBytes.{Appends}
use Rattle.text_core.specs.Cut.{CutOff}
use Rattle.line_reading.specs.Readings.{Listed}
use Rattle.line_reading.specs.Windows.{standard}
use Rattle.capture_core.specs.Edges.{Captured}
use Rattle.capture_monitor.specs.Watch.{captured_by}
use Rattle.audit_notes.specs.Lines.{has_remark}
use Rattle.audit_core.specs.Audit.{audit_lines}
use Rattle.capture_as_test.specs.Lines.{test_of}
use Rattle.capture_as_test.specs.declared.write.AsTestError.{AsTestError}
use Rattle.capture_as_test.specs.declared.write.AsTestError.TheVariants.{Write, Memory}
use Rattle.capture_frames.specs.Frames.{frames_in}

-- of readings, and of whether the audit that goes with them has a remark
abbrev pub readings_test : Captured → List Listed → List ℕ
readings_test capture xs = test_of (frames_in xs) (has_remark (audit_lines false capture xs))

-- THE test of a capture, by its readings
abbrev pub test_text : Captured → List ℕ
test_text capture = readings_test capture (captured_by standard capture)

-- a text is written whole, or its front up to a fault; for want of memory nothing is
abbrev pub IsTextWritten : List ℕ → Option (List ℕ) → Option (List ℕ) → Bool → Bool → Result (Unit {0}) AsTestError → Type 0
IsTextWritten text old new was is (Ok n) = Appends old new text × (is ≡ was)
IsTextWritten text old new was is (Err (Write fault)) = CutOff old new text fault × (is ≡ true)
IsTextWritten text old new was is (Err Memory) = (new ≡ old) × (is ≡ was)

-- the test of a capture is
abbrev pub IsTestWritten : Captured → Option (List ℕ) → Option (List ℕ) → Bool → Bool → Result (Unit {0}) AsTestError → Type 0
IsTestWritten capture = IsTextWritten (test_text capture)
