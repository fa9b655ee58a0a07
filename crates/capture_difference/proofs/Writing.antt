-- The difference of two captures, by their frames.
use Rattle.std.proofs.Common.{◌≡◌, ℕ, Bool, List, Option, Result, subst, subst₂}
use Rattle.record_core.specs.declared.cell.Form.{Form}
use Rattle.capture_difference.specs.Aligned.{aligned}
use Rattle.capture_difference.specs.Rows.{Row}
use Rattle.capture_difference.specs.Written.{AreRowsWritten, IsDifferenceWritten}
use Rattle.capture_difference.specs.declared.write.DifferenceError.{DifferenceError}
use Rattle.capture_frames.specs.Frames.{FrameLine}

pub rows_written : (form : Form) (xs ys : List FrameLine) (rows : List Row) (old new : Option (List ℕ)) (was is : Bool) (r : Result Bool DifferenceError) → rows ≡ aligned xs ys
    → AreRowsWritten form rows old new was is r → IsDifferenceWritten form xs ys old new was is r
rows_written form xs ys rows old new was is r same written = subst (λ (rows : List Row). AreRowsWritten form rows old new was is r) same written

pub difference_written : (form : Form) (us vs xs ys : List FrameLine) (old new : Option (List ℕ)) (was is : Bool) (r : Result Bool DifferenceError) → us ≡ xs → vs ≡ ys
    → IsDifferenceWritten form us vs old new was is r → IsDifferenceWritten form xs ys old new was is r
difference_written form us vs xs ys old new was is r first second written =
    subst₂ (λ (us vs : List FrameLine). IsDifferenceWritten form us vs old new was is r) first second written
