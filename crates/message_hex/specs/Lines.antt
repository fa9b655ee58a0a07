-- Frames in hex, a line each (own). Lines that are empty or begin with `#` are skipped, but counted.
use Rattle.std.specs.Prelude.{◌≡◌, ℕ, ◌+◌, Bool, true, if◌then◌else◌, List, [], ◌∷◌, Option, Some, None, Result, Ok, Err}
use Rattle.std.specs.List.{flat_map}
use Rattle.text_core.specs.At.{at_line, at_word}
use Rattle.text_core.specs.Lines.{is_skipped}
use Rattle.text_core.specs.Cut.{CutOff}
use Rattle.text_core.specs.declared.at.At.{At}
use Rattle.message_hex.specs.Bytes.{frame_in}
use Rattle.message_hex.specs.declared.bytes.DisCause.{DisCause}
use Rattle.message_hex.specs.declared.lines.DisError.{DisError}
use Rattle.message_hex.specs.declared.lines.DisError.TheVariants.{Line, Write}
use Rattle.std.specs.Io.KnownBytes.{Appends}

abbrev pub reported_frame : Result (List ℕ) DisCause → Result (Option (List ℕ)) DisCause
reported_frame (Ok frame) = Ok (Some frame)
reported_frame (Err cause) = Err cause

-- the frame of a line, if it is not skipped
abbrev pub line_frame : List ℕ → Result (Option (List ℕ)) DisCause
line_frame line = if is_skipped line then Ok None else reported_frame (frame_in line)

-- what is written of a line that is so read, by what is written of a frame
abbrev pub read_text : (List ℕ → List ℕ) → Result (Option (List ℕ)) DisCause → List ℕ
read_text text_of (Ok None) = []
read_text text_of (Ok (Some frame)) = text_of frame
read_text text_of (Err cause) = []

abbrev pub text_by : (List ℕ → List ℕ) → List ℕ → List ℕ
text_by text_of line = read_text text_of (line_frame line)

abbrev pub fault_of : ℕ → Result (Option (List ℕ)) DisCause → Option (At DisCause) → Option (At DisCause)
fault_of number (Ok frame) next = next
fault_of number (Err cause) next = Some (at_line number (at_word 0 cause))

-- the first line that has no frame, where the first of these has this number; its one word is at fault
abbrev pub first_fault : ℕ → List (List ℕ) → Option (At DisCause)
first_fault number [] = None
first_fault number (line ∷ lines) = fault_of number (line_frame line) (first_fault (number + 1) lines)

-- All lines have frames, and what each gives is written, whole or their front up to a fault; or the first that has none is
-- returned, and nothing is written.
abbrev pub Answers : (List ℕ → List ℕ) → Option (List ℕ) → Option (List ℕ) → Bool → Bool → List (List ℕ) → Result (Unit {0}) DisError → Type 0
Answers text_of old new was is lines (Ok n) =
    (first_fault 1 lines ≡ None) × Appends old new (flat_map text_of lines) × (is ≡ was)
Answers text_of old new was is lines (Err (Write fault)) =
    (first_fault 1 lines ≡ None) × CutOff old new (flat_map text_of lines) fault × (is ≡ true)
Answers text_of old new was is lines (Err (Line fault)) =
    (first_fault 1 lines ≡ Some fault) × (new ≡ old) × (is ≡ was)
