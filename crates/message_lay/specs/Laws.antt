-- What holds of frames that are laid.
use Rattle.std.specs.Prelude.{◌≡◌, ℕ, ◌+◌, ◌≤◌, false, List, ◌∷◌, Some, Ok, All}
use Rattle.text_core.specs.Lines.{is_skipped}
use Rattle.text_core.specs.Words.{text_of, words_of}
use Rattle.line_frames.specs.Bits.{frame_bits}
use Rattle.line_wave.specs.Bounds.{latest_event, widest_pull}
use Rattle.line_wave.specs.Line.{IsWave}
use Rattle.line_wave.specs.Sender.{sender_stretches}
use Rattle.line_wave.specs.declared.Stretch.{Stretch}
use Rattle.message_lay.specs.Faults.{pulls_read}
use Rattle.message_lay.specs.Line.{IsFrameOf, IsLineRead}
use Rattle.message_lay.specs.Words.{time_in}
use Rattle.message_lay.specs.Text.{AreLinesRead, no_notes, pull_line, pull_record}
use Rattle.message_lay.specs.declared.pulls.Fault.TheVariants.{Absent}
use Rattle.record_core.specs.ReadBack.{line_in}
use Rattle.record_core.specs.declared.cell.Form.TheVariants.{Text, Json}

-- without a fault: the start bit and the slots of a sender of these bytes, which begins then (CEC 5.2, 6)
abbrev pub FaultlessAreSent : Type 0
FaultlessAreSent = (start : ℕ) (bytes : List ℕ) → pulls_read start Absent bytes ≡ Ok (sender_stretches start (frame_bits bytes))

-- so is a line of an instant and the text of a frame, whatever its words are
abbrev pub FramesAreSent : Type 0
FramesAreSent = (line time : List ℕ) (words : List (List ℕ)) (start : ℕ) (frame : List ℕ) → is_skipped line ≡ false → words_of line ≡ time ∷ words
    → time_in time ≡ Some start → IsFrameOf (text_of words) (Ok frame) → IsLineRead line (Ok (sender_stretches start (frame_bits frame)))

-- pulls as a script takes them
pub record ArePulls (pulls : List Stretch) : Type 0 where
  pub order : IsWave pulls
  pub wide : All (λ p. p.to ≤ p.from + widest_pull) pulls
  pub early : All (λ p. p.from ≤ latest_event) pulls

abbrev pub LaidArePulls : Type 0
LaidArePulls = (lines : List (List ℕ)) (pulls : List Stretch) → AreLinesRead lines 1 no_notes (Ok pulls) → ArePulls pulls

-- the line of a pull's record is a line of a script, and stands in its object
abbrev pub PullLines : Type 0
PullLines = (pull : Stretch) → pull_record Text pull ≡ pull_line pull

abbrev pub PullsAreReadBack : Type 0
PullsAreReadBack = (pull : Stretch) → line_in (pull_record Json pull) ≡ pull_line pull
