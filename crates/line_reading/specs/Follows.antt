-- A receiver that follows a line: where it stands by the line's readings, and how the line goes on to the next tick (own).
use Rattle.std.specs.Prelude.{◌≡◌, ◌≢◌, ℕ, ◌<◌, ◌≤◌, Bool, Option, Some, None}
use Rattle.line_wave.specs.Line.{Line, was_low}
use Rattle.line_frames.specs.declared.Ending.{Ending}
use Rattle.line_reading.specs.declared.receiver.Told.{Told}
use Rattle.line_reading.specs.declared.receiver.Told.TheVariants.{Nothing, Ended}
use Rattle.line_reading.specs.declared.receiver.Receiver.{Receiver}
use Rattle.line_reading.specs.Hears.{heard_by, wake_of, wakes_left}
use Rattle.line_reading.specs.Kept.{kept_of, kept_before, reported_at, reported_with_at}
use Rattle.line_reading.specs.declared.times.Windows.{Windows}
use Rattle.line_reading.specs.Phase.{Standing, standing_of}
use Rattle.line_reading.specs.Phase as phase
use Rattle.line_reading.specs.declared.receiver.Standing as code
use Rattle.line_reading.specs.declared.receiver.Standing.TheVariants as at

-- It has heard the line through microsecond t, and what it keeps is that line's.
pub record StandsOn (r : Receiver) (low : Line) (t : ℕ) : Type 0 where
  pub keeps : heard_by r ≡ kept_of low t
  pub level : (r.was_low ≡ low t) × (r.is_low ≡ low t)

-- It has heard the line before microsecond t; an edge may be noted since.
pub record StoodBefore (r : Receiver) (low : Line) (t : ℕ) : Type 0 where
  pub keeps : heard_by r ≡ kept_before low t
  pub level : r.was_low ≡ was_low low t

-- The line goes on to microsecond t as it was heard: without an edge up to t, at t with the edge that is noted, or
-- with none; and t is no later than its wake.
pub record GoesOn (r : Receiver) (low : Line) (before t : ℕ) : Type 0 where
  pub from : before ≤ t
  pub calm : (u : ℕ) → before ≤ u → u < t → low u ≡ r.was_low
  pub edge : low t ≡ r.is_low
  pub wake : (w : ℕ) → wake_of (heard_by r) ≡ Some w → t ≤ w

-- A tick at t leaves it standing on each such line, and returns what t adds to that line's readings.
abbrev pub Follows : Receiver → ℕ → Told → Receiver → Type 0
Follows old t reported new = (low : ℕ → Bool) (before : ℕ) → StoodBefore old low before → GoesOn old low before t → StandsOn new low t × (reported ≡ reported_at low t)

-- Where no edge came at t and a tick returned an ending that belongs to t alone, the line may still fall or rise in t: a
-- second tick then leaves it standing on the line that does.
abbrev pub FollowsAgain : Receiver → ℕ → Told → Receiver → Type 0
FollowsAgain old t reported new =
    (low other : ℕ → Bool) (ending : Ending) → heard_by old ≡ kept_of low t → old.was_low ≡ low t → low t ≡ was_low low t → reported_at low t ≡ Ended ending
    → ((u : ℕ) → u < t → other u ≡ low u) → other t ≡ old.is_low → StandsOn new other t × (reported ≡ Nothing)

-- Up to that tick no instant added anything to such a line's readings.
abbrev pub ReportsOnce : Receiver → ℕ → Type 0
ReportsOnce old t = (low : ℕ → Bool) (before : ℕ) → StoodBefore old low before → GoesOn old low before t → (u : ℕ) → before ≤ u → u < t → reported_at low u ≡ Nothing

-- A wake without an edge leaves fewer wakes: between two edges there are at most two.
abbrev pub WakesFewer : Receiver → ℕ → Receiver → Type 0
WakesFewer old t new = wake_of (heard_by old) ≡ Some t → old.is_low ≡ old.was_low → wakes_left new.place < wakes_left old.place

-- the first instant from t on that adds something to a line's readings
abbrev pub IsNextReported : Line → ℕ → Option ℕ → Type 0
IsNextReported low t None = (u : ℕ) → t ≤ u → reported_at low u ≡ Nothing
IsNextReported low t (Some w) = (t ≤ w) × (reported_at low w ≢ Nothing) × ((u : ℕ) → t ≤ u → u < w → reported_at low u ≡ Nothing)

abbrev pub IsNextReportedBy : Windows → Line → ℕ → Option ℕ → Type 0
IsNextReportedBy w low t None = (u : ℕ) → t ≤ u → reported_with_at w low u ≡ Nothing
IsNextReportedBy w low t (Some wake) = (t ≤ wake) × (reported_with_at w low wake ≢ Nothing) × ((u : ℕ) → t ≤ u → u < wake → reported_with_at w low u ≡ Nothing)

-- It wakes at that instant of each line that it stood on before t and that has no edge from then on.
abbrev pub WakesSo : Receiver → Option ℕ → Type 0
WakesSo r wake = (low : ℕ → Bool) (t : ℕ) → StoodBefore r low t → ((u : ℕ) → t ≤ u → low u ≡ r.was_low) → IsNextReported low t wake

-- the standing that the code's value names
abbrev pub standing_by_code : code.Standing → Standing
standing_by_code at.Idle = phase.Idle
standing_by_code at.StartLow = phase.StartLow
standing_by_code at.StartHigh = phase.StartHigh
standing_by_code (at.Slot k bits) = phase.InSlot k bits.now
standing_by_code at.WaitHigh = phase.WaitHigh

-- It is that of each line on which the receiver stands.
abbrev pub ShowsStanding : Receiver → Standing → Type 0
ShowsStanding r standing = (low : ℕ → Bool) (t : ℕ) → StandsOn r low t → standing ≡ standing_of low t
