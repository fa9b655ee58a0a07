-- A sender whose state the caller keeps (this profile's own).
use Rattle.std.specs.Prelude.{◌≡◌, ℕ, ◌+◌, ◌≤◌, ◌<◌, Bool, false, List, length, Option, Some, None}
use Rattle.line_wave.specs.Bounds.{latest_heard}
use Rattle.line_wave.specs.Line.{Line}
use Rattle.line_reading.specs.Parts.{ArePartsOfSender}
use Rattle.line_reading.specs.Sending.{Hears, IsNextChange, SenderStood, StopsAt, pull_of}
use Rattle.line_reading.specs.declared.receiver.Told.{Told}
use Rattle.line_reading.specs.declared.sender.Sender.{Sender}
use Rattle.line_reading.specs.declared.sender.parts.SenderParts.{SenderParts}
use Rattle.library_answers.specs.Codes.{number_of}
use Rattle.library_answers.specs.declared.code.Code.{Code}
use Rattle.library_answers.specs.declared.code.Code.TheVariants.{Done, FrameEmpty, FrameTooLong, Heard as NothingHeard, Late, State}
use Rattle.library_wire.specs.Heard.{instant_of, instant_refused, reported_in}
use Rattle.library_wire.specs.declared.heard.Instant.{Instant}
use Rattle.library_wire.specs.declared.heard.InstantHeard.{InstantHeard}
use Rattle.library_wire.specs.declared.sender.PullAnswer.{PullAnswer}

-- no sender keeps this
abbrev pub IsNoSender : SenderParts → Type 0
IsNoSender parts = (sender : Sender) → ArePartsOfSender sender parts → ⊥

-- refused, with the state as it was
abbrev pub IsLeft : Code → ℕ → SenderParts → SenderParts → Type 0
IsLeft code answer old new = (answer ≡ number_of code) × (new ≡ old)

-- a sender of this frame since t, on each line
pub record HasBegun (frame : List ℕ) (t : ℕ) (new : SenderParts) : Type 0 where
  pub sender : Sender
  pub parts : ArePartsOfSender sender new
  pub sends : sender.frame ≡ frame
  pub since : sender.begin ≡ t
  pub stands : (low : Line) → SenderStood sender low (t + 1)

-- it goes by what t told
pub record IsReported (was : Sender) (reported : Told) (t : ℕ) (new : SenderParts) : Type 0 where
  pub next : Sender
  pub parts : ArePartsOfSender next new
  pub keeps : (next.frame ≡ was.frame) × (next.begin ≡ was.begin)
  pub hears : Hears was reported t next
  pub stops : StopsAt was.state was.last t next.state next.last

abbrev pub pull_reported : Bool → PullAnswer
pull_reported pulls = record { code = number_of Done; is_low = pulls }

abbrev pub pull_code : Code → PullAnswer
pull_code code = record { code = number_of code; is_low = false }

-- the first instant after t at which its pull changes
abbrev pub IsChange : Sender → ℕ → Instant → Type 0
IsChange s t answer = (change : Option ℕ) × IsNextChange (pull_of s) t change × (answer ≡ instant_of change)

-- ---- what is answered of a state

-- a frame is to be sent from t on: it is begun, or it is none, or t is too late
abbrev pub AnswersBegin : List ℕ → ℕ → ℕ → SenderParts → SenderParts → Type 0
AnswersBegin bytes t answer old new =
    (1 ≤ length bytes → length bytes ≤ 16 → t ≤ latest_heard → (answer ≡ number_of Done) × HasBegun bytes t new)
    × (length bytes ≡ 0 → IsLeft FrameEmpty answer old new)
    × (16 < length bytes → IsLeft FrameTooLong answer old new)
    × (1 ≤ length bytes → length bytes ≤ 16 → latest_heard < t → IsLeft Late answer old new)

-- this was heard at t: it is reported, or no sender keeps the state, or no receiver reports this, or t is too late
abbrev pub AnswersHeard : InstantHeard → ℕ → ℕ → SenderParts → SenderParts → Type 0
AnswersHeard heard t answer old new =
    ((s : Sender) → (reported : Told) → ArePartsOfSender s old → reported_in heard ≡ Some reported → t ≤ latest_heard → (answer ≡ number_of Done) × IsReported s reported t new)
    × (IsNoSender old → IsLeft State answer old new)
    × ((s : Sender) → ArePartsOfSender s old → reported_in heard ≡ None → IsLeft NothingHeard answer old new)
    × ((s : Sender) → (reported : Told) → ArePartsOfSender s old → reported_in heard ≡ Some reported → latest_heard < t → IsLeft Late answer old new)

-- whether it pulls at t
abbrev pub AnswersPull : SenderParts → ℕ → PullAnswer → Type 0
AnswersPull parts t answer =
    ((s : Sender) → ArePartsOfSender s parts → t ≤ latest_heard → answer ≡ pull_reported (pull_of s t))
    × (IsNoSender parts → answer ≡ pull_code State)
    × ((s : Sender) → ArePartsOfSender s parts → latest_heard < t → answer ≡ pull_code Late)

-- when its pull changes after t
abbrev pub AnswersChange : SenderParts → ℕ → Instant → Type 0
AnswersChange parts t answer =
    ((s : Sender) → ArePartsOfSender s parts → t ≤ latest_heard → IsChange s t answer)
    × (IsNoSender parts → answer ≡ instant_refused State)
    × ((s : Sender) → ArePartsOfSender s parts → latest_heard < t → answer ≡ instant_refused Late)
