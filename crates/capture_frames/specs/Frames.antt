-- The frames of a capture (own): its complete readings, in order.
use Rattle.std.specs.Prelude.{ℕ, Bool, if◌then◌else◌, List, [], ◌∷◌, drop}
use Rattle.std.specs.List.{flat_map}
use Rattle.line_frames.specs.declared.Reading.{Reading}
use Rattle.line_reading.specs.Readings.{Listed}
use Rattle.message_text.specs.ReadingText.{is_complete, reported_text, verdict_text}
use Rattle.capture_monitor.specs.Watch.{reading_as}
use Rattle.capture_frames.specs.declared.frame.CapturedFrame.{CapturedFrame}

-- a frame that was read whole: from its fall to its ending, its text, and how it was acknowledged
pub record FrameLine : Type 0 where
  pub begin : ℕ
  pub close : ℕ
  pub text : List ℕ
  pub verdict : List ℕ

-- without where the verdict lies in memory
abbrev pub frame_as : CapturedFrame → FrameLine
frame_as f = record { begin = f.begin; close = f.close; text = f.text.items; verdict = f.verdict.now }

-- what a complete reading says, its verdict without the space before it
abbrev pub frame_told : Reading → FrameLine
frame_told r = record { begin = r.begin; close = r.at; text = reported_text r; verdict = drop 1 (verdict_text r) }

-- the frame of a reading, where it is complete
abbrev pub frame_if : Bool → Reading → List FrameLine
frame_if complete r = if complete then frame_told r ∷ [] else []

abbrev pub frame_in : Listed → List FrameLine
frame_in x = frame_if (is_complete x.reported.ending) (reading_as x)

-- those of readings, in order
abbrev pub frames_in : List Listed → List FrameLine
frames_in xs = flat_map frame_in xs
