-- What is written of a capture as its lines come (own).
use Rattle.std.specs.Prelude.{◌≡◌, ◌⊎◌, ℕ, min, Bool, false, true, List, [], Option, IfSome, Err}
use Rattle.std.specs.Io.KnownBytes.{Appends}
use Rattle.line_reading.specs.Windows.{most_margin, wider}
use Rattle.follow_core.specs.Follow.{IsHandedOn, Stops}
use Rattle.follow_core.specs.Lines.{form_as}
use Rattle.follow_core.specs.declared.reception.Reception.{Reception}
use Rattle.follow_core.specs.declared.view.ReadingView.{ReadingView}
use Rattle.follow_core.specs.declared.error.FollowError.{FollowError}
use Rattle.follow_core.specs.declared.error.FollowError.TheVariants as error
use Rattle.follow_audit.specs.Follow.{Follows as FollowsAudit}
use Rattle.follow_audit.specs.Follow.{IsHandedOn as IsAuditHandedOn}
use Rattle.follow_audit.specs.declared.error.FollowAuditError.{FollowAuditError}
use Rattle.follow_audit.specs.declared.error.FollowAuditError.TheVariants as audit_error
use Rattle.program_captures.specs.declared.fault.MonitorFault.{MonitorFault}
use Rattle.program_captures.specs.declared.fault.MonitorFault.TheVariants as faults
use Rattle.audit_notes.specs.Lines.{AuditLine, has_remark, lines_text}
use Rattle.program_captures.specs.Captures.{AreHeard, IsShown}
use Rattle.cli_choice.specs.declared.choice.FollowChoice.{FollowChoice}
use Rattle.cli_choice.specs.declared.choice.FollowReport.{FollowReport}
use Rattle.cli_choice.specs.declared.choice.FollowReport.TheVariants as line_reports
use Rattle.cli_choice.specs.declared.choice.CaptureReport.{CaptureReport}
use Rattle.cli_choice.specs.declared.choice.CaptureReport.TheVariants.{Audit, FromIdle, Readings}

-- all readings, those from where the line was first idle, or an audit
abbrev pub readings_as : Bool → CaptureReport
readings_as false = Readings
readings_as true = FromIdle

abbrev pub report_as : FollowReport → CaptureReport
report_as (line_reports.Readings from_idle folded) = readings_as from_idle
report_as (line_reports.Audit timing strict) = Audit timing strict

-- with bad starts one after another as one line
abbrev pub is_folded : FollowReport → Bool
is_folded (line_reports.Readings from_idle folded) = folded
is_folded (line_reports.Audit timing strict) = false

-- how a capture is read
abbrev pub reception_of : FollowChoice → Reception
reception_of choice = record { windows = wider (min choice.margin most_margin); inverted = choice.inverted; glitch = choice.glitch }

-- what is shown of its readings
abbrev pub view_of : FollowChoice → Bool → Bool → ReadingView
view_of choice from_idle folded = record { written = choice.written; from_idle = from_idle; folds = folded }

-- this text is what is reported of the capture that an input gives, as of the whole, its times as they stand
abbrev pub IsReported : FollowChoice → List ℕ → List ℕ → List ℕ → Type 0
IsReported choice name input text = IsShown choice.written (is_folded choice.report) (form_as choice.form) name choice.inverted 10000 choice.glitch choice.margin (report_as choice.report) input text

-- that of all that there was to read is written, and nothing else
pub record FollowsTo (choice : FollowChoice) (name : List ℕ) (known old new : Option (List ℕ)) : Type 0 where
  pub input : List ℕ
  pub all : IfSome known (λ text. input ≡ text)
  pub text : List ℕ
  pub reported : IsReported choice name input text
  pub put : Appends old new text

-- why it ends before
abbrev pub fault_of : FollowError → MonitorFault
fault_of error.Read = faults.Read
fault_of error.TooLong = faults.TooLong
fault_of (error.Capture fault) = faults.Line fault
fault_of (error.Write count) = faults.Write (record { count = count })

-- What is over by the lines that came is written and handed on, and nothing else; where a write failed, a front of what the last of
-- them ends is written.
pub record StopsSo (choice : FollowChoice) (from_idle folded : Bool) (name : List ℕ) (known old new : Option (List ℕ)) (before pending : List ℕ) (fault : MonitorFault) : Type 0 where
  pub error : FollowError
  pub cause : fault ≡ fault_of error
  pub stops : Stops choice.form name (view_of choice from_idle folded) (reception_of choice) known old new error
  pub handed : before ≡ [] → IsHandedOn error pending

-- no memory is left
abbrev pub IsOfMemory : MonitorFault → Type 0
IsOfMemory (faults.Memory error) = Unit {0}
IsOfMemory faults.Read = ⊥
IsOfMemory faults.TooLong = ⊥
IsOfMemory (faults.Line fault) = ⊥
IsOfMemory (faults.OtherLine fault) = ⊥
IsOfMemory faults.Scaled = ⊥
IsOfMemory faults.Differ = ⊥
IsOfMemory faults.Remarked = ⊥
IsOfMemory (faults.Write fault) = ⊥

-- why an audit ends before
abbrev pub IsCauseOf : FollowAuditError → MonitorFault → Type 0
IsCauseOf audit_error.Read fault = fault ≡ faults.Read
IsCauseOf audit_error.TooLong fault = fault ≡ faults.TooLong
IsCauseOf audit_error.Waiting fault = fault ≡ faults.TooLong
IsCauseOf (audit_error.Capture slip) fault = fault ≡ faults.Line slip
IsCauseOf (audit_error.Write count) fault = fault ≡ faults.Write (record { count = count })
IsCauseOf audit_error.Memory fault = IsOfMemory fault

-- a front of the audit of each capture that begins with the lines that came is written; where a line is at fault or a read failed, all of
-- it that they say, and it is handed on
pub record StopsBefore (choice : FollowChoice) (timing : Bool) (name : List ℕ) (known old new : Option (List ℕ)) (before pending : List ℕ) (fault : MonitorFault) : Type 0 where
  pub error : FollowAuditError
  pub cause : IsCauseOf error fault
  pub stops : FollowsAudit choice.form name (reception_of choice) (record { timing = timing; written = choice.written }) known old new (Err error)
  pub handed : before ≡ [] → IsAuditHandedOn error pending

-- a strict audit has a remark
pub record IsOfRemark (strict remarked : Bool) (fault : MonitorFault) : Type 0 where
  pub cause : fault ≡ faults.Remarked
  pub is_strict : strict ≡ true
  pub is_remarked : remarked ≡ true

-- then all of it is written and handed on
pub record StopsAtRemark (choice : FollowChoice) (timing strict : Bool) (name : List ℕ) (known old new : Option (List ℕ)) (pending : List ℕ) (fault : MonitorFault) : Type 0 where
  pub input : List ℕ
  pub all : IfSome known (λ text. input ≡ text)
  pub lines : List AuditLine
  pub heard : AreHeard (form_as choice.form) name choice.inverted 10000 choice.glitch choice.margin (Audit timing false) input lines
  pub put : Appends old new (lines_text choice.written lines)
  pub handed : pending ≡ []
  pub remark : IsOfRemark strict (has_remark lines) fault

abbrev pub StopsAudit : FollowChoice → Bool → Bool → List ℕ → Option (List ℕ) → Option (List ℕ) → Option (List ℕ) → List ℕ → List ℕ → MonitorFault → Type 0
StopsAudit choice timing strict name known old new before pending fault = StopsBefore choice timing name known old new before pending fault ⊎ StopsAtRemark choice timing strict name known old new pending fault

abbrev pub StopsAs : FollowReport → FollowChoice → List ℕ → Option (List ℕ) → Option (List ℕ) → Option (List ℕ) → List ℕ → List ℕ → MonitorFault → Type 0
StopsAs (line_reports.Readings from_idle folded) choice name known old new before pending fault = StopsSo choice from_idle folded name known old new before pending fault
StopsAs (line_reports.Audit timing strict) choice name known old new before pending fault = StopsAudit choice timing strict name known old new before pending fault
