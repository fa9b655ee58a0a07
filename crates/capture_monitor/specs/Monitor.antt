-- A monitor that follows a line: what it was told of it, and what it reports (own).
use Rattle.std.specs.Prelude.{◌≡◌, ℕ, suc, ◌+◌, ◌<◌, ◌≤◌, Bool, nat_lt, if◌then◌else◌, ◌++◌, Option, Some, None}
use Rattle.std.specs.Option.{option_to_list}
use Rattle.line_wave.specs.declared.Edge.{Edge}
use Rattle.line_wave.specs.Line.{Line}
use Rattle.line_reading.specs.declared.times.Windows.{Windows}
use Rattle.line_reading.specs.Windows.{AreWindows, standard}
use Rattle.line_reading.specs.Following.{StoodBeforeBy}
use Rattle.line_reading.specs.Hears.{Hears, hear_in_by, wake_of_by}
use Rattle.line_reading.specs.Readings.{Listed, readings_of}
use Rattle.line_reading.specs.Ended.{ended_by}
use Rattle.line_reading.specs.Reports.{running_by, ended_of, ended_before}
use Rattle.capture_monitor.specs.ReadBy.{ended_before_by, readings_by}
use Rattle.capture_monitor.specs.declared.monitor.Monitor.{Monitor as Watcher}

-- ---- what is heard, by its wakes

-- what a microsecond leads to, and the reading that it ends
pub record Microsecond : Type 0 where
  pub state : Hears
  pub ended : Option Listed

abbrev pub heard_at : Windows → ℕ → Bool → Bool → Hears → Microsecond
heard_at windows t was is_low h = record { state = (hear_in_by windows t was is_low h).state; ended = ended_of (hear_in_by windows t was is_low h).reported t (running_by h t) }

-- the next wake, where it comes before this instant, on a line without an edge
abbrev pub woken_at : Windows → ℕ → Bool → Hears → Option ℕ → Microsecond
woken_at windows until is_low h None = record { state = h; ended = None }
woken_at windows until is_low h (Some w) = if nat_lt w until then heard_at windows w is_low is_low h else record { state = h; ended = None }

abbrev pub after_wake : Windows → ℕ → Bool → Hears → Microsecond
after_wake windows until is_low h = woken_at windows until is_low h (wake_of_by windows h)

-- a second wake, where the first one ended no reading
abbrev pub woken_again : Windows → ℕ → Bool → Hears → Option Listed → Microsecond
woken_again windows until is_low h None = after_wake windows until is_low h
woken_again windows until is_low h (Some x) = record { state = h; ended = Some x }

abbrev pub after_wakes : Windows → ℕ → Bool → Hears → Microsecond
after_wakes windows until is_low h = woken_again windows until is_low (after_wake windows until is_low h).state (after_wake windows until is_low h).ended

-- ---- on a line

-- no edge is noted that its receiver has not heard
abbrev pub IsStill : Watcher → Type 0
IsStill m = m.receiver.receiver.was_low ≡ m.receiver.receiver.is_low

-- by these windows it was told the line before microsecond n, and no edge since
pub record HeardBeforeBy (windows : Windows) (m : Watcher) (low : Line) (n : ℕ) : Type 0 where
  pub are : AreWindows windows
  pub windows_are : m.receiver.windows ≡ windows
  pub stood : StoodBeforeBy windows m.receiver.receiver low n
  pub still : IsStill m

-- the line has no edge from microsecond n up to t
abbrev pub IsCalm : Watcher → Line → ℕ → ℕ → Type 0
IsCalm m low n t = (u : ℕ) → n ≤ u → u < t → low u ≡ m.receiver.receiver.was_low

-- Told an edge, it was told each line that goes on so, and reports the reading that has ended since, if one has.
abbrev pub FollowsEdgeBy : Windows → Watcher → Edge → Option Listed → Watcher → Type 0
FollowsEdgeBy windows old edge reported new = (low : Line) (n : ℕ) → HeardBeforeBy windows old low n → n ≤ edge.at → IsCalm old low n edge.at → low edge.at ≡ edge.low
    → HeardBeforeBy windows new low (edge.at + 1) × (ended_before_by windows low (suc edge.at) ≡ ended_before_by windows low n ++ option_to_list reported)

-- Told that no edge comes before an instant, it was told each line that goes on so, and reports the reading that has ended since,
-- if one has.
abbrev pub FollowsCalmBy : Windows → Watcher → ℕ → Option Listed → Watcher → Type 0
FollowsCalmBy windows old until reported new = (low : Line) (n : ℕ) → HeardBeforeBy windows old low n → n ≤ until → IsCalm old low n until
    → HeardBeforeBy windows new low until × (ended_before_by windows low until ≡ ended_before_by windows low n ++ option_to_list reported)

-- Told the end of a line, it reports what is left of the line's readings.
abbrev pub FollowsEndBy : Windows → Watcher → ℕ → Option Listed → Type 0
FollowsEndBy windows old t reported = (low : Line) (n : ℕ) → HeardBeforeBy windows old low n → n ≤ t + 1 → IsCalm old low n (t + 1)
    → readings_by windows low t ≡ ended_before_by windows low n ++ option_to_list reported

-- ---- the same by the standard's windows

abbrev pub HeardBefore : Watcher → Line → ℕ → Type 0
HeardBefore = HeardBeforeBy standard

abbrev pub FollowsEdge : Watcher → Edge → Option Listed → Watcher → Type 0
FollowsEdge old edge reported new = (low : Line) (n : ℕ) → HeardBefore old low n → n ≤ edge.at → IsCalm old low n edge.at → low edge.at ≡ edge.low
    → HeardBefore new low (edge.at + 1) × (ended_by low edge.at ≡ ended_before low n ++ option_to_list reported)

abbrev pub FollowsEnd : Watcher → ℕ → Option Listed → Type 0
FollowsEnd old t reported = (low : Line) (n : ℕ) → HeardBefore old low n → n ≤ t + 1 → IsCalm old low n (t + 1)
    → readings_of low t ≡ ended_before low n ++ option_to_list reported
