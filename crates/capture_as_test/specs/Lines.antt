-- The lines of a test of a capture (own), as `check --capture` takes them: each frame with its verdict, within a time of the one
-- before; how many frames there are; that the audit has no remark, where it has none; and the line above the capture.
use Rattle.std.specs.Prelude.{ℕ, ◌+◌, ◌==◌, Bool, if◌then◌else◌, codes, length, List, [], ◌∷◌, ◌++◌}
use Rattle.std.specs.Fmt.{decimal}
use Rattle.std.specs.List.{concat}
use Rattle.capture_as_test.specs.Pattern.{PatternText, pattern_of}
use Rattle.capture_as_test.specs.Timing.{duration}
use Rattle.capture_frames.specs.Frames.{FrameLine}

-- the first frame comes at any time
abbrev pub first_line : PatternText → List ℕ
first_line p = concat (codes "label f1 expect from 0 to 18446744073709551615 " ∷ p.text ∷ p.gap ∷ p.verdict ∷ codes "\n" ∷ [])

-- the frame after so many comes within a time of the end of the one before
abbrev pub later_line : ℕ → ℕ → PatternText → List ℕ
later_line number within p =
    concat (codes "label f" ∷ decimal (number + 1) ∷ codes " expect within " ∷ decimal within ∷ codes " of f" ∷ decimal number ∷ codes " " ∷ p.text ∷ p.gap ∷ p.verdict ∷ codes "\n" ∷ [])

-- the frame after so many, of which the last ended at this instant
abbrev pub frame_line : ℕ → ℕ → FrameLine → List ℕ
frame_line number end f = if number == 0 then first_line (pattern_of f) else later_line number (duration end f) (pattern_of f)

-- frames in order, after so many, of which the last ended at this instant
abbrev pub frames_text : ℕ → ℕ → List FrameLine → List ℕ
frames_text number end [] = []
frames_text number end (f ∷ fs) = frame_line number end f ++ frames_text (number + 1) f.close fs

-- there are no others: the words of a complete reading alone begin with a header
abbrev pub count_line : ℕ → List ℕ
count_line count = concat (codes "expect exactly " ∷ decimal count ∷ codes " from 0 to 18446744073709551615 *>*\n" ∷ [])

abbrev pub remark_text : Bool → List ℕ
remark_text remarked = if remarked then [] else codes "expect no-remark\n"

-- the whole test, of the frames and of whether the audit has a remark
abbrev pub test_of : List FrameLine → Bool → List ℕ
test_of fs remarked = frames_text 0 0 fs ++ (count_line (length fs) ++ (remark_text remarked ++ codes "capture\n"))
