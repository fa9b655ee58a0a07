-- What is written of the difference of two captures (own).
use Rattle.std.specs.Prelude.{◌≡◌, ℕ, Bool, true, List, Option, Result, Ok, Err}
use Rattle.std.specs.Io.KnownBytes.{Appends}
use Rattle.text_core.specs.Cut.{CutOff}
use Rattle.record_core.specs.declared.cell.Form.{Form}
use Rattle.capture_difference.specs.Aligned.{aligned}
use Rattle.capture_difference.specs.Lines.{difference_text}
use Rattle.capture_difference.specs.Rows.{Row, is_none_different}
use Rattle.capture_difference.specs.declared.write.DifferenceError.{DifferenceError}
use Rattle.capture_difference.specs.declared.write.DifferenceError.TheVariants.{Write, Memory}
use Rattle.capture_frames.specs.Frames.{FrameLine}

-- these rows are written whole, and whether none differs is answered, or their front up to a fault; for want of memory nothing is
abbrev pub AreRowsWritten : Form → List Row → Option (List ℕ) → Option (List ℕ) → Bool → Bool → Result Bool DifferenceError → Type 0
AreRowsWritten form rows old new was is (Ok same) = (same ≡ is_none_different rows) × Appends old new (difference_text form rows) × (is ≡ was)
AreRowsWritten form rows old new was is (Err (Write fault)) = CutOff old new (difference_text form rows) fault × (is ≡ true)
AreRowsWritten form rows old new was is (Err Memory) = (new ≡ old) × (is ≡ was)

-- the same of the frames of two captures
abbrev pub IsDifferenceWritten : Form → List FrameLine → List FrameLine → Option (List ℕ) → Option (List ℕ) → Bool → Bool → Result Bool DifferenceError → Type 0
IsDifferenceWritten form xs ys = AreRowsWritten form (aligned xs ys)
