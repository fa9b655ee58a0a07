-- Texts of frames, one a line, and their bytes in hex (own). Lines that are empty or begin with `#` are skipped,
-- but counted.
use Rattle.std.specs.Prelude.{◌≡◌, ℕ, ◌+◌, Bool, true, false, not, List, [], ◌∷◌, ◌++◌, length, filter, Option, Some, None, Result, Ok, Err}
use Rattle.std.specs.List.{flat_map}
use Rattle.text_core.specs.Piece.{hex_text}
use Rattle.text_core.specs.Lines.{is_skipped}
use Rattle.text_core.specs.declared.at.At.{At}
use Rattle.message_text.specs.Causes.{frame_word}
use Rattle.message_text.specs.FrameReading.{is_frame}
use Rattle.message_text.specs.FrameText.{frame_text}
use Rattle.message_text.specs.Refusals.{IsRefused}
use Rattle.message_text.specs.declared.assembler.AssembleError.{AssembleError}
use Rattle.text_core.specs.Written.{WrittenAll}
use Rattle.message_text.specs.declared.frame_lines.FrameLinesError.{FrameLinesError}
use Rattle.message_text.specs.declared.frame_lines.FrameLinesError.TheVariants.{Line, Write}

-- the lines that report a frame
abbrev pub lines_of_frames : List (List ℕ) → List (List ℕ)
lines_of_frames lines = filter (λ line. not (is_skipped line)) lines

-- a line is the text of this frame
pub record IsTextOf (line frame : List ℕ) : Type 0 where
  pub whole : is_frame frame ≡ true
  pub text : line ≡ frame_text frame

-- these lines are the texts of these frames
abbrev pub AreTextsOf : List (List ℕ) → List (List ℕ) → Type 0
AreTextsOf [] [] = Unit {0}
AreTextsOf [] (frame ∷ frames) = ⊥
AreTextsOf (line ∷ lines) [] = ⊥
AreTextsOf (line ∷ lines) (frame ∷ frames) = IsTextOf line frame × AreTextsOf lines frames

-- a frame in hex, as a line
abbrev pub hex_line : List ℕ → List ℕ
hex_line frame = flat_map hex_text frame ++ 10 ∷ []

-- The line at fault is the first that reports no frame, and this is why.
pub record IsFirstFault (lines : List (List ℕ)) (fault : At AssembleError) : Type 0 where
  pub before : List (List ℕ)
  pub line : List ℕ
  pub after : List (List ℕ)
  pub all : lines ≡ before ++ line ∷ after
  pub count : fault.line ≡ length before + 1
  pub frames : List (List ℕ)
  pub texts : AreTextsOf (lines_of_frames before) frames
  pub is_reported : is_skipped line ≡ false
  pub refused : IsRefused line fault.cause
  pub word : fault.word ≡ frame_word fault.cause
  pub no_text : (frame : List ℕ) → IsTextOf line frame → ⊥

-- what is read of a line
abbrev pub IsRead : List ℕ → Result (Option (List ℕ)) AssembleError → Type 0
IsRead line (Ok None) = is_skipped line ≡ true
IsRead line (Ok (Some frame)) =
    (is_skipped line ≡ false) × IsTextOf line frame × ((other : List ℕ) → IsTextOf line other → frame ≡ other)
IsRead line (Err cause) = (is_skipped line ≡ false) × IsRefused line cause × ((frame : List ℕ) → IsTextOf line frame → ⊥)

-- All lines report frames, whose hex lines are written, whole or their front up to a fault; or one reports none, and
-- nothing is written.
abbrev pub Answers : Option (List ℕ) → Option (List ℕ) → Bool → Bool → List (List ℕ) → Result (Unit {0}) FrameLinesError → Type 0
Answers old new was is lines (Ok n) =
    (frames : List (List ℕ)) × (AreTextsOf (lines_of_frames lines) frames × WrittenAll old new was is (flat_map hex_line frames) (Ok n))
Answers old new was is lines (Err (Write fault)) =
    (frames : List (List ℕ)) × (AreTextsOf (lines_of_frames lines) frames × WrittenAll old new was is (flat_map hex_line frames) (Err fault))
Answers old new was is lines (Err (Line fault)) =
    IsFirstFault lines fault × (new ≡ old) × (is ≡ was)
