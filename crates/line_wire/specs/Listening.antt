-- The senders of a round's seats, and where they stand; a line with one reading. (own)
use Rattle.std.specs.Prelude.{◌≡◌, ℕ, ◌+◌, ◌<◌, ◌≤◌, true, false, List, [], ◌∷◌, Option, Some, None}
use Rattle.line_wave.specs.Line.{Line, is_fall}
use Rattle.line_reading.specs.declared.receiver.Told.{Told}
use Rattle.line_reading.specs.declared.sender.Sender.{Sender}
use Rattle.line_reading.specs.declared.receiver.Receiver.{Receiver}
use Rattle.line_reading.specs.Phase.{Standing, Idle}
use Rattle.line_reading.specs.Reading.{reading_of}
use Rattle.line_reading.specs.Follows.{ShowsStanding}
use Rattle.line_reading.specs.Sending.{SenderStood, Hears}
use Rattle.line_rounds.specs.declared.Seat.{Seat}

-- a line with one reading: it is high before `begin`, low there, and falls no more once that reading is over
pub record IsReadOnce (low : Line) (begin : ℕ) : Type 0 where
  pub before : (u : ℕ) → u < begin → low u ≡ false
  pub first : low begin ≡ true
  pub quiet : (u : ℕ) → (reading_of low begin).until < u → is_fall low u ≡ false

-- ---- whose sender it is

-- a seat's sender begins to send the seat's frame as the round begins
abbrev pub IsSenderOf : Seat → ℕ → Option Sender → Type 0
IsSenderOf seat begin None = seat.sends ≡ None
IsSenderOf seat begin (Some s) = (seat.sends ≡ Some s.frame) × (s.begin ≡ begin) × ((low : Line) → SenderStood s low (begin + 1))

abbrev pub AreBegun : List Seat → ℕ → List (Option Sender) → Type 0
AreBegun [] begin [] = Unit {0}
AreBegun (seat ∷ seats) begin (o ∷ senders) = IsSenderOf seat begin o × AreBegun seats begin senders
AreBegun [] begin (o ∷ senders) = ⊥
AreBegun (seat ∷ seats) begin [] = ⊥

-- the same of one that has begun
abbrev pub SendsFor : Seat → ℕ → Option Sender → Type 0
SendsFor seat begin None = seat.sends ≡ None
SendsFor seat begin (Some s) = (seat.sends ≡ Some s.frame) × (s.begin ≡ begin)

abbrev pub AreSenders : List Seat → ℕ → List (Option Sender) → Type 0
AreSenders [] begin [] = Unit {0}
AreSenders (seat ∷ seats) begin (o ∷ senders) = SendsFor seat begin o × AreSenders seats begin senders
AreSenders [] begin (o ∷ senders) = ⊥
AreSenders (seat ∷ seats) begin [] = ⊥

-- ---- where they stand

-- a sender that began at `begin`, before microsecond n
abbrev pub IsSending : Line → ℕ → ℕ → Option Sender → Type 0
IsSending low begin n None = Unit {0}
IsSending low begin n (Some s) = (s.begin ≡ begin) × (n ≤ begin → SenderStood s low (begin + 1)) × (begin < n → SenderStood s low n)

abbrev pub AreSending : Line → ℕ → ℕ → List (Option Sender) → Type 0
AreSending low begin n [] = Unit {0}
AreSending low begin n (o ∷ senders) = IsSending low begin n o × AreSending low begin n senders

-- whatever it shows, it stands at Idle
abbrev pub IsIdle : Receiver → Type 0
IsIdle r = (standing : Standing) → ShowsStanding r standing → standing ≡ Idle

-- ---- what they hear

abbrev pub HeardOne : Told → ℕ → Option Sender → Option Sender → Type 0
HeardOne reported t None new = new ≡ None
HeardOne reported t (Some old) None = ⊥
HeardOne reported t (Some old) (Some new) = (new.frame ≡ old.frame) × (new.begin ≡ old.begin) × Hears old reported t new

abbrev pub AllHeard : Told → ℕ → List (Option Sender) → List (Option Sender) → Type 0
AllHeard reported t [] [] = Unit {0}
AllHeard reported t (o ∷ olds) (n ∷ news) = HeardOne reported t o n × AllHeard reported t olds news
AllHeard reported t [] (n ∷ news) = ⊥
AllHeard reported t (o ∷ olds) [] = ⊥
