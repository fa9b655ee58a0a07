-- The lines of the records are the texts of frames, and what they mean; and each line is read back from its object (own).
use Rattle.std.specs.Prelude.{◌≡◌, ℕ, List, ◌∷◌}
use Rattle.message_meaning.specs.FrameLine.{frame_line}
use Rattle.message_meaning.specs.Meaning.{meaning_line}
use Rattle.message_meaning.specs.Records.{frame_record, meaning_record}
use Rattle.record_core.specs.ReadBack.{line_in}
use Rattle.record_core.specs.declared.cell.Form.TheVariants.{Text, Json}

-- the line of a frame, and that of what it means
abbrev pub FrameLines : Type 0
FrameLines = (frame : List ℕ) → frame_record Text frame ≡ frame_line frame

abbrev pub MeaningLines : Type 0
MeaningLines = (frame : List ℕ) → meaning_record Text frame ≡ meaning_line frame

-- in an object stands the line that is written without objects
abbrev pub FramesAreReadBack : Type 0
FramesAreReadBack = (frame : List ℕ) → line_in (frame_record Json frame) ≡ frame_line frame

abbrev pub MeaningsAreReadBack : Type 0
MeaningsAreReadBack = (header : ℕ) (others : List ℕ) → line_in (meaning_record Json (header ∷ others)) ≡ meaning_line (header ∷ others)
