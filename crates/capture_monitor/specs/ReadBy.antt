-- The readings of a line by windows of a monitor's own: what each instant ends, and what has ended before one (own).
use Rattle.std.specs.Prelude.{◌≡◌, ℕ, zero, suc, ◌+◌, ◌≤◌, Bool, List, [], ◌++◌, Option}
use Rattle.std.specs.Option.{option_to_list}
use Rattle.line_wave.specs.Line.{Line}
use Rattle.line_reading.specs.declared.times.Windows.{Windows}
use Rattle.line_reading.specs.Windows.{standard}
use Rattle.line_reading.specs.Kept.{kept_with_before, reported_with_at}
use Rattle.line_reading.specs.Readings.{Listed, readings_of}
use Rattle.line_reading.specs.Reports.{ended_of, running_by}

-- the reading that instant t ends: the one that ran before it, where the line's reading by these windows ends there
abbrev pub ended_at : Windows → Line → ℕ → Option Listed
ended_at windows low t = ended_of (reported_with_at windows low t) t (running_by (kept_with_before windows low t) t)

-- the readings that have ended before microsecond n
unfoldable pub ended_before_by : Windows → Line → ℕ → List Listed
ended_before_by windows low zero = []
ended_before_by windows low (suc t) = ended_before_by windows low t ++ option_to_list (ended_at windows low t)

-- the readings of a line, cut at t: those that have ended by t, and the one that runs then
abbrev pub readings_by : Windows → Line → ℕ → List Listed
readings_by windows low t = ended_before_by windows low (suc t) ++ option_to_list (running_by (kept_with_before windows low (suc t)) t)

-- By the standard's windows these are the readings of the line.
abbrev pub StandardReadsLines : Type 0
StandardReadsLines = (low : ℕ → Bool) (t : ℕ) → readings_by standard low t ≡ readings_of low t

-- The readings that have ended before an instant are the first of those of the line.
abbrev pub EndedComeFirst : Type 0
EndedComeFirst = (win : Windows) (low : Line) (n u : ℕ) → n ≤ u + 1
    → (zs : List Listed) × (readings_by win low u ≡ ended_before_by win low n ++ zs)
