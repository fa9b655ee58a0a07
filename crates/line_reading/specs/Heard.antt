-- What is heard of a line microsecond by microsecond, beside what its readings say (own).
use Rattle.std.specs.Prelude.{◌≡◌, ℕ, suc, ◌+◌, ◌<◌, ◌≤◌, Bool, true, false, Some, None}
use Rattle.line_wave.specs.Line.{was_low, is_fall}
use Rattle.line_reading.specs.declared.receiver.Told.TheVariants.{Nothing}
use Rattle.line_reading.specs.declared.times.Windows.{Windows}
use Rattle.line_reading.specs.Windows.{AreWindows}
use Rattle.line_reading.specs.Reading.{reading_of}
use Rattle.line_reading.specs.Hears.{Hears, hear_in, hear_in_by, hears, hears_with, rest, wake_of, wake_of_by}
use Rattle.line_reading.specs.Kept.{kept_of, kept_before, kept_with, kept_with_before, reported_at, reported_with_at, running_from}

-- ---- the reading that runs

-- Where the line does not fall, none runs.
abbrev pub NoneRunsWithoutFall : Type 0
NoneRunsWithoutFall = (low : ℕ → Bool) (t n from : ℕ) → ((u : ℕ) → from ≤ u → u < t + 1 → is_fall low u ≡ false) → running_from low t n from ≡ None

-- From its first fall one runs until it ends.
abbrev pub OneRunsFromFall : Type 0
OneRunsFromFall =
    (low : ℕ → Bool) (t n from begin : ℕ) → t + 1 ≤ n + from → from ≤ begin → begin < t + 1 → is_fall low begin ≡ true
    → ((u : ℕ) → from ≤ u → u < begin → is_fall low u ≡ false) → t < (reading_of low begin).at → running_from low t n from ≡ Some begin

-- ---- what is kept is what was heard

abbrev pub KeptIsHeardBefore : Type 0
KeptIsHeardBefore = (low : ℕ → Bool) (n : ℕ) → kept_before low n ≡ hears low n

abbrev pub ReportedIsHeard : Type 0
ReportedIsHeard = (low : ℕ → Bool) (n : ℕ) → reported_at low n ≡ (hear_in n (was_low low n) (low n) (hears low n)).reported

-- The same by all windows.
abbrev pub KeptIsHeardBy : Type 0
KeptIsHeardBy = (windows : Windows) → AreWindows windows → (low : ℕ → Bool) (t : ℕ) → kept_with windows low t ≡ hears_with windows low (suc t)

abbrev pub KeptIsHeardBeforeBy : Type 0
KeptIsHeardBeforeBy = (windows : Windows) → AreWindows windows → (low : ℕ → Bool) (n : ℕ) → kept_with_before windows low n ≡ hears_with windows low n

abbrev pub ReportedIsHeardBy : Type 0
ReportedIsHeardBy =
    (windows : Windows) → AreWindows windows → (low : ℕ → Bool) (n : ℕ)
    → reported_with_at windows low n ≡ (hear_in_by windows n (was_low low n) (low n) (hears_with windows low n)).reported

-- ---- up to the next edge or wake

-- Nothing is reported.
abbrev pub CalmReportsNothing : Type 0
CalmReportsNothing =
    (h : Hears) (was : Bool) (t : ℕ) (low : ℕ → Bool) (before : ℕ) → h ≡ kept_before low before → was ≡ was_low low before
    → ((u : ℕ) → before ≤ u → u < t → low u ≡ was) → ((w : ℕ) → wake_of h ≡ Some w → t ≤ w) → (u : ℕ) → before ≤ u → u < t → reported_at low u ≡ Nothing

-- What is kept stays.
abbrev pub CalmKeepsStanding : Type 0
CalmKeepsStanding =
    (h : Hears) (was : Bool) (low : ℕ → Bool) (before t : ℕ) → h ≡ kept_before low before → was ≡ was_low low before → before ≤ t
    → ((u : ℕ) → before ≤ u → u < t → low u ≡ was) → ((w : ℕ) → wake_of h ≡ Some w → t ≤ w) → (h ≡ kept_before low t) × (was ≡ was_low low t)

-- The same by all windows.
abbrev pub CalmReportsNothingBy : Type 0
CalmReportsNothingBy =
    (windows : Windows) → AreWindows windows → (h : Hears) (was : Bool) (t : ℕ) (low : ℕ → Bool) (before : ℕ) → h ≡ kept_with_before windows low before
    → was ≡ was_low low before → ((u : ℕ) → before ≤ u → u < t → low u ≡ was) → ((w : ℕ) → wake_of_by windows h ≡ Some w → t ≤ w)
    → (u : ℕ) → before ≤ u → u < t → reported_with_at windows low u ≡ Nothing

abbrev pub CalmKeepsStandingBy : Type 0
CalmKeepsStandingBy =
    (windows : Windows) → AreWindows windows → (h : Hears) (was : Bool) (low : ℕ → Bool) (before t : ℕ) → h ≡ kept_with_before windows low before
    → was ≡ was_low low before → before ≤ t → ((u : ℕ) → before ≤ u → u < t → low u ≡ was) → ((w : ℕ) → wake_of_by windows h ≡ Some w → t ≤ w)
    → (h ≡ kept_with_before windows low t) × (was ≡ was_low low t)

-- A wake is not past.
abbrev pub WakesAreNotPast : Type 0
WakesAreNotPast =
    (windows : Windows) → AreWindows windows → (h : Hears) (low : ℕ → Bool) (n w : ℕ) → h ≡ kept_with_before windows low n → wake_of_by windows h ≡ Some w → n ≤ w

-- Of a line that is never low nothing is kept.
abbrev pub HighLinesKeepNothing : Type 0
HighLinesKeepNothing = (t : ℕ) → rest ≡ kept_of (λ u. false) t
