-- What is still to come of an input, and the lines of it (own).
use Rattle.std.specs.Prelude.{◌≡◌, ◌≢◌, ℕ, ◌+◌, ◌<◌, ◌≤◌, Bool, true, false, List, [], ◌∷◌, ◌++◌, drop, take, length, Option, Some, None, Result, Ok, Err, All}
use Rattle.std.specs.List.{flat_map}
use Rattle.std.specs.Io.KnownBytes.{Consumes, IsAtEnd, prepend_known}
use Rattle.text_core.specs.Lines.{lines_of}
use Rattle.live_incoming.specs.declared.incoming.Lines.{Lines}
use Rattle.live_incoming.specs.declared.incoming.IncomingFault.{IncomingFault}
use Rattle.live_incoming.specs.declared.incoming.IncomingFault.TheVariants.{Read, TooLong}
use Rattle.live_incoming.specs.declared.incoming.LinePiece.{LinePiece}
use Rattle.live_incoming.specs.declared.incoming.LinePiece.TheVariants.{Nothing, Part, End, Over}

-- the most bytes of a line, without its end
abbrev pub longest_line : ℕ
longest_line = 4096

-- what was read and is not handed out
abbrev pub bytes_left : Lines → List ℕ
bytes_left lines = drop lines.handed (take lines.given lines.pending)

-- and then what the reader has, where that is known
abbrev pub to_come : Lines → Option (List ℕ) → Option (List ℕ)
to_come lines rest = prepend_known (bytes_left lines) rest

-- a line has no end in it
abbrev pub IsWhole : List ℕ → Type 0
IsWhole line = All (λ byte. byte ≢ 10) line

-- a text of these lines, each with its end
abbrev pub text_of_lines : List (List ℕ) → List ℕ
text_of_lines lines = flat_map (λ line. line ++ 10 ∷ []) lines

-- the lines of what was to come: this one first
abbrev pub Leads : Option (List ℕ) → Option (List ℕ) → List ℕ → Type 0
Leads None new line = Unit {0}
Leads (Some before) None line = ⊥
Leads (Some before) (Some after) line = lines_of before ≡ line ∷ lines_of after

-- A line was handed out, or nothing is to come any more, or more than 4,096 bytes have come before an end.
abbrev pub IsNext : Option (List ℕ) → Option (List ℕ) → List ℕ → Result Bool IncomingFault → Type 0
IsNext old new line (Ok true) = Leads old new line
IsNext old new line (Ok false) = IsAtEnd old
IsNext old new line (Err TooLong) = (front : List ℕ) × IsWhole front × (longest_line < length front) × Consumes old new front
IsNext old new line (Err Read) = Unit {0}

-- ---- pieces

-- more was read, or none is left
abbrev pub IsFilled : Option (List ℕ) → Option (List ℕ) → List ℕ → Result Unit IncomingFault → Type 0
IsFilled old new pending (Ok done) = Consumes old new [] × (pending ≡ [] → IsAtEnd new)
IsFilled old new pending (Err fault) = Unit {0}

-- what was left, what is left then, and the line before and after a piece of it was handed out
abbrev pub IsPiece : List ℕ → List ℕ → List ℕ → List ℕ → LinePiece → Type 0
IsPiece old new line after Nothing = (old ≡ []) × (new ≡ []) × (after ≡ line)
IsPiece old new line after Part = (piece : List ℕ) × IsWhole piece × (0 < length piece) × (length line + length piece ≤ longest_line) × (old ≡ piece ++ new) × (after ≡ line ++ piece)
IsPiece old new line after End = (piece : List ℕ) × IsWhole piece × (old ≡ piece ++ 10 ∷ new) × (after ≡ line ++ piece)
IsPiece old new line after Over = (piece : List ℕ) × IsWhole piece × (longest_line < length line + length piece) × (old ≡ piece ++ new)
