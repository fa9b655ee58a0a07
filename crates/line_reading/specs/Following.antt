-- A receiver that follows a line by windows of its own: where it stands by the line's readings with those windows, and how
-- the line goes on to the next tick (own).
use Rattle.std.specs.Prelude.{◌≡◌, ℕ, ◌<◌, ◌≤◌, Bool, Option, Some}
use Rattle.line_wave.specs.Line.{Line, was_low}
use Rattle.line_frames.specs.declared.Ending.{Ending}
use Rattle.line_reading.specs.declared.receiver.Told.{Told}
use Rattle.line_reading.specs.declared.receiver.Told.TheVariants.{Nothing, Ended}
use Rattle.line_reading.specs.declared.receiver.Receiver.{Receiver}
use Rattle.line_reading.specs.declared.times.Windows.{Windows}
use Rattle.line_reading.specs.Hears.{heard_by, wake_of_by, wakes_left}
use Rattle.line_reading.specs.Kept.{kept_with, kept_with_before, reported_with_at}
use Rattle.line_reading.specs.Follows.{IsNextReportedBy}

-- It has heard the line through microsecond t, and what it keeps is that line's.
pub record StandsOnBy (windows : Windows) (r : Receiver) (low : Line) (t : ℕ) : Type 0 where
  pub keeps : heard_by r ≡ kept_with windows low t
  pub level : (r.was_low ≡ low t) × (r.is_low ≡ low t)

-- It has heard the line before microsecond t; an edge may be noted since.
pub record StoodBeforeBy (windows : Windows) (r : Receiver) (low : Line) (t : ℕ) : Type 0 where
  pub keeps : heard_by r ≡ kept_with_before windows low t
  pub level : r.was_low ≡ was_low low t

-- The line goes on to microsecond t as it was heard: without an edge up to t, at t with the edge that is noted, or
-- with none; and t is no later than its wake.
pub record GoesOnBy (windows : Windows) (r : Receiver) (low : Line) (before t : ℕ) : Type 0 where
  pub from : before ≤ t
  pub calm : (u : ℕ) → before ≤ u → u < t → low u ≡ r.was_low
  pub edge : low t ≡ r.is_low
  pub wake : (w : ℕ) → wake_of_by windows (heard_by r) ≡ Some w → t ≤ w

-- A tick at t leaves it standing on each such line, and returns what t adds to that line's readings.
abbrev pub FollowsBy : Windows → Receiver → ℕ → Told → Receiver → Type 0
FollowsBy windows old t reported new =
    (low : ℕ → Bool) (before : ℕ) → StoodBeforeBy windows old low before → GoesOnBy windows old low before t → StandsOnBy windows new low t × (reported ≡ reported_with_at windows low t)

-- Where no edge came at t and a tick returned an ending that belongs to t alone, the line may still fall or rise in t: a
-- second tick then leaves it standing on the line that does.
abbrev pub FollowsAgainBy : Windows → Receiver → ℕ → Told → Receiver → Type 0
FollowsAgainBy windows old t reported new =
    (low other : ℕ → Bool) (ending : Ending) → heard_by old ≡ kept_with windows low t → old.was_low ≡ low t → low t ≡ was_low low t → reported_with_at windows low t ≡ Ended ending
    → ((u : ℕ) → u < t → other u ≡ low u) → other t ≡ old.is_low → StandsOnBy windows new other t × (reported ≡ Nothing)

-- Up to that tick no instant added anything to such a line's readings.
abbrev pub ReportsOnceBy : Windows → Receiver → ℕ → Type 0
ReportsOnceBy windows old t =
    (low : ℕ → Bool) (before : ℕ) → StoodBeforeBy windows old low before → GoesOnBy windows old low before t → (u : ℕ) → before ≤ u → u < t → reported_with_at windows low u ≡ Nothing

-- A wake without an edge leaves fewer wakes: between two edges there are at most two.
abbrev pub WakesFewerBy : Windows → Receiver → ℕ → Receiver → Type 0
WakesFewerBy windows old t new = wake_of_by windows (heard_by old) ≡ Some t → old.is_low ≡ old.was_low → wakes_left new.place < wakes_left old.place

-- It wakes at the first instant that adds something to each line that it stood on before t and that has no edge from then on.
abbrev pub WakesBy : Windows → Receiver → Option ℕ → Type 0
WakesBy windows r wake = (low : ℕ → Bool) (t : ℕ) → StoodBeforeBy windows r low t → ((u : ℕ) → t ≤ u → low u ≡ r.was_low) → IsNextReportedBy windows low t wake
