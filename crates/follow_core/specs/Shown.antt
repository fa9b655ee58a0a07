-- What is shown of the readings of a capture: all, or those from where its line is first idle, with bad starts one after another as they
-- stand or as one line (own).
use Rattle.std.specs.Prelude.{◌≡◌, ℕ, Bool, true, false, ◌||◌, List, [], ◌++◌, map, Option, Some, None, Result, Ok, Err, if◌then◌else◌}
use Rattle.std.specs.Io.KnownBytes.{Appends}
use Rattle.capture_core.specs.Edges.{Captured, line_of_edges}
use Rattle.capture_join.specs.Joined.{IsJoined, has_begun, joined_lines, lines_from, opened}
use Rattle.line_reading.specs.Readings.{Listed}
use Rattle.record_core.specs.declared.cell.Form.{Form}
use Rattle.audit_notes.specs.Folded.{held_as, folded_if, shown_after}
use Rattle.audit_notes.specs.Lines.{AuditLine, lines_text}
use Rattle.audit_notes.specs.Lines.AuditLine.{Reading}
use Rattle.line_reading.specs.Reports.{listed_as}
use Rattle.std.specs.Option.{option_map, option_to_list}
use Rattle.follow_core.specs.Teller.{listed_pair}
use Rattle.follow_core.specs.declared.follower.EndedReadings.{EndedReadings}
use Rattle.follow_core.specs.declared.shown.Shown.{Shown}
use Rattle.follow_core.specs.declared.shown.Starts.{Starts}
use Rattle.follow_core.specs.declared.view.ReadingView.{ReadingView}

-- ---- a whole capture

-- these are the lines of a capture with these readings
abbrev pub AreReported : Bool → Captured → List Listed → List AuditLine → Type 0
AreReported false c xs lines = lines ≡ map Reading xs
AreReported true c xs lines = (t : ℕ) × IsJoined (line_of_edges c.edges) c.end t × (lines ≡ joined_lines t false xs)

-- this text is that of a capture with these readings
abbrev pub IsShownOf : ReadingView → Captured → List Listed → List ℕ → Type 0
IsShownOf view c xs text = (lines : List AuditLine) × AreReported view.from_idle c xs lines × (text ≡ lines_text view.written (folded_if view.folds lines))

-- ---- as they end

-- what has ended by a line
abbrev pub listed_in : EndedReadings → List Listed
listed_in h = listed_pair h.by_edge ++ (listed_pair h.by_calm ++ option_to_list (option_map listed_as h.last))

-- from which instant readings are by themselves, where it is known: with none from the start, else from this one
abbrev pub start_by : Bool → Option ℕ → Option ℕ
start_by true idle = idle
start_by false idle = Some 0

-- of these readings, which have ended, this text is shown, and the rest is held back
pub record IsShown (view : ReadingView) (start : Option ℕ) (s : Shown) (ended : List Listed) (text : List ℕ) : Type 0 where
  pub done : List AuditLine
  pub held : s.is_held ≡ has_begun start ended
  pub lines : (rest : List AuditLine) → shown_after view.folds None (lines_from start false ended ++ rest) ≡ done ++ shown_after view.folds (held_as s.run) rest
  pub spelled : text ≡ lines_text view.written done

-- the line that stands for readings before, where the instant is known now, and those of readings that end
abbrev pub ended_lines : Starts → Bool → EndedReadings → List AuditLine
ended_lines starts is_held heard = opened starts.before starts.now is_held ++ lines_from starts.now is_held (listed_in heard)

-- these lines are shown of readings that end
pub record Shows (folds : Bool) (starts : Starts) (old : Shown) (heard : EndedReadings) (new : Shown) (done : List AuditLine) : Type 0 where
  pub held : new.is_held ≡ (old.is_held || has_begun starts.now (listed_in heard))
  pub lines : (rest : List AuditLine) → shown_after folds (held_as old.run) (ended_lines starts old.is_held heard ++ rest) ≡ done ++ shown_after folds (held_as new.run) rest

-- and these where none is left
abbrev pub ShowsLast : Bool → Starts → Shown → EndedReadings → List AuditLine → Type 0
ShowsLast folds starts old heard done = shown_after folds (held_as old.run) (ended_lines starts old.is_held heard) ≡ done

-- ---- what is written

-- a text is put, or its front
abbrev pub Puts : {F : Type 0} → Option (List ℕ) → Option (List ℕ) → List ℕ → Result (Unit {0}) F → Type 0
Puts old new text (Ok done) = Appends old new text
Puts old new text (Err fault) = (front : List ℕ) × (rest : List ℕ) × (text ≡ front ++ rest) × Appends old new front

abbrev pub Writes : {F : Type 0} → Form → Bool → Starts → Shown → EndedReadings → Shown → Option (List ℕ) → Option (List ℕ) → Result (Unit {0}) F → Type 0
Writes written folds starts old heard new before after result = (done : List AuditLine) × Shows folds starts old heard new done × Puts before after (lines_text written done) result

abbrev pub WritesLast : {F : Type 0} → Form → Bool → Starts → Shown → EndedReadings → Option (List ℕ) → Option (List ℕ) → Result (Unit {0}) F → Type 0
WritesLast written folds starts old heard before after result = (done : List AuditLine) × ShowsLast folds starts old heard done × Puts before after (lines_text written done) result
