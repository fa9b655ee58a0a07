-- How a capture of any form is read: word by word and line by line, up to the first fault (own). A form says how its lines are
-- parted into words, what a word leads to, and how its texts end.
use Rattle.std.specs.Prelude.{◌≡◌, ℕ, suc, ◌+◌, ◌≤◌, Bool, List, [], ◌∷◌, ◌++◌, length, Option, Some, None, Result, Ok, Err}
use Rattle.std.specs.Option.{option_to_list}
use Rattle.std.specs.List.{slice_split}
use Rattle.std.specs.Global.{Vec}
use Rattle.line_wave.specs.declared.Edge.{Edge}
use Rattle.line_wave.specs.Bounds.{latest_instant}
use Rattle.text_core.specs.At.{at_line}
use Rattle.text_core.specs.declared.at.At.{At}
use Rattle.text_core.specs.declared.at.AtWord.{AtWord}
use Rattle.capture_core.specs.Edges.{AreInTurn, Captured, EndBy}
use Rattle.capture_core.specs.Track.{last_edge}
use Rattle.capture_core.specs.declared.track.Track.{Track}
use Rattle.capture_core.specs.declared.fault.Cause.{Cause}
use Rattle.capture_core.specs.declared.fault.CaptureError.{CaptureError}
use Rattle.capture_core.specs.declared.fault.CaptureError.TheVariants.{Fault, Memory}

-- ---- a form

-- where a reader stands after a word, and the edge that is known by it
pub record Step (S : Type 0) : Type 0 where
  pub state : S
  pub edge : Option Edge

-- Between two words of a line stands one byte that is a gap. A word is taken by its number in the line, from 0, and by where the
-- reader stands; a text may end where there is a last instant.
pub record Form (S : Type 0) : Type 0 where
  pub is_gap : ℕ → Bool
  pub took : ℕ → List ℕ → S → Result (Step S) (AtWord Cause)
  pub track : S → Track
  pub ended : S → Result ℕ Cause

-- what a call returned, and what it left
abbrev pub Takes : {S F : Type 0} → Result (Step S) F → Result (Option Edge) F → S → Type 0
Takes stepped (Ok edge) new = stepped ≡ Ok (record { state = new; edge = edge })
Takes stepped (Err fault) new = stepped ≡ Err fault

-- a cause is that of a word
abbrev pub at_word : {S : Type 0} → ℕ → Result (Step S) Cause → Result (Step S) (AtWord Cause)
at_word word (Ok step) = Ok step
at_word word (Err cause) = Err (record { cause = cause; word = word })

-- ---- a line

-- the edges of some words, and where a reader stands after them
pub record Passed (S : Type 0) : Type 0 where
  pub edges : List Edge
  pub state : S

abbrev pub onto : {S : Type 0} → List Edge → Result (Passed S) (At Cause) → Result (Passed S) (At Cause)
onto edges (Ok p) = Ok (record { edges = edges ++ p.edges; state = p.state })
onto edges (Err fault) = Err fault

abbrev pub word_read : {S : Type 0} → ℕ → Result (Step S) (AtWord Cause) → (S → Result (Passed S) (At Cause)) → Result (Passed S) (At Cause)
word_read line (Err slip) more = Err (at_line line slip)
word_read line (Ok step) more = onto (option_to_list step.edge) (more step.state)

-- words of a line, of which the first has this number
abbrev pub words_read : {S : Type 0} → Form S → ℕ → ℕ → List (List ℕ) → S → Result (Passed S) (At Cause)
words_read form line number [] s = Ok (record { edges = []; state = s })
words_read form line number (word ∷ words) s = word_read line (form.took number word s) (words_read form line (number + 1) words)

-- the words of what is left of a line
abbrev pub words_left : {S : Type 0} → Form S → Option (List ℕ) → List (List ℕ)
words_left form None = []
words_left form (Some rest) = slice_split form.is_gap rest

-- how many bytes they have, and the gap before them
abbrev pub left_length : Option (List ℕ) → ℕ
left_length None = 0
left_length (Some rest) = suc (length rest)

abbrev pub line_read : {S : Type 0} → Form S → ℕ → List ℕ → S → Result (Passed S) (At Cause)
line_read form number line s = words_read form number 0 (slice_split form.is_gap line) s

-- ---- a text

abbrev pub with_edges : List Edge → Result Captured (At Cause) → Result Captured (At Cause)
with_edges edges (Ok e) = Ok (record { edges = edges ++ e.edges; end = e.end })
with_edges edges (Err fault) = Err fault

abbrev pub read_on : {S : Type 0} → Result (Passed S) (At Cause) → (S → Result Captured (At Cause)) → Result Captured (At Cause)
read_on (Err fault) more = Err fault
read_on (Ok p) more = with_edges p.edges (more p.state)

-- what is missing at the end is so on the line after the last
abbrev pub end_read : ℕ → Track → Result ℕ Cause → Result Captured (At Cause)
end_read line track (Ok end) = Ok (record { edges = option_to_list (last_edge track); end = end })
end_read line track (Err cause) = Err (at_line line (record { cause = cause; word = 0 }))

-- lines of which the first has this number
abbrev pub lines_read : {S : Type 0} → Form S → ℕ → List (List ℕ) → S → Result Captured (At Cause)
lines_read form number [] s = end_read number (form.track s) (form.ended s)
lines_read form number (line ∷ lines) s = read_on (line_read form number line s) (lines_read form (number + 1) lines)

-- What is left of a text that is read goes on from where the reader stands: edges in turn, and an end that is not before them,
-- within the limit.
abbrev pub LinesGoOn : {S : Type 0} → Form S → Type 0
LinesGoOn {S} form = (number : ℕ) (lines : List (List ℕ)) (s : S) (e : Captured) → (form.track s).at ≤ latest_instant → lines_read form number lines s ≡ Ok e
    → AreInTurn (form.track s).was_low (form.track s).at e.edges × EndBy e.end e.edges × ((form.track s).at ≤ e.end) × (e.end ≤ latest_instant)

-- ---- what is returned

-- a capture is what is read, and a fault is the one of the text; of memory nothing is said
abbrev pub Gives : Result Captured CaptureError → Result Captured (At Cause) → Type 0
Gives (Ok c) read = read ≡ Ok c
Gives (Err (Fault fault)) read = read ≡ Err fault
Gives (Err Memory) read = Unit {0}

-- the same of edges and an end
abbrev pub GivesEdges : Result (Vec Edge × ℕ) CaptureError → Result Captured (At Cause) → Type 0
GivesEdges (Ok c) read = read ≡ Ok (record { edges = c.0.items; end = c.1 })
GivesEdges (Err (Fault fault)) read = read ≡ Err fault
GivesEdges (Err Memory) read = Unit {0}

-- a line was passed: its edges came after those before
abbrev pub PassesLine : {S : Type 0} → Result (Passed S) (At Cause) → List Edge → Result (Unit {0}) CaptureError → List Edge → S → Type 0
PassesLine passed old (Ok n) new state = (more : List Edge) × (new ≡ old ++ more) × (passed ≡ Ok (record { edges = more; state = state }))
PassesLine passed old (Err (Fault fault)) new state = passed ≡ Err fault
PassesLine passed old (Err Memory) new state = Unit {0}
