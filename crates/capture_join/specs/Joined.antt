-- A capture that begins in the middle of a frame: what is read before the line was idle is one line (own).
use Rattle.std.specs.Prelude.{◌≡◌, ℕ, ◌+◌, ◌-◌, ◌<◌, ◌≤◌, ◌||◌, Bool, true, false, not, nat_lt, nat_le, if◌then◌else◌, List, [], ◌∷◌, ◌++◌, Option, Some, None}
use Rattle.line_wave.specs.Line.{Line, was_low}
use Rattle.line_wave.specs.declared.Edge.{Edge}
use Rattle.line_frames.specs.FreeTime.{free_time_of}
use Rattle.line_frames.specs.declared.free_time.FreeTime.TheVariants.{Retry}
use Rattle.line_reading.specs.Readings.{Listed}
use Rattle.audit_notes.specs.Lines.{AuditLine}
use Rattle.audit_notes.specs.Lines.AuditLine.{Group, Reading}
use Rattle.audit_notes.specs.declared.reading.ReadingGroup.TheVariants.{Joined}
use Rattle.capture_join.specs.declared.idle.IdleSearch.{IdleSearch}

-- ---- when the line is idle

-- the line was high for the shortest signal free time (CEC 9.1) before an instant, in the capture
pub record IsIdle (low : Line) (t : ℕ) : Type 0 where
  pub long : free_time_of Retry ≤ t
  pub high : (u : ℕ) → t ≤ u + free_time_of Retry → u < t → low u ≡ false

-- the first such instant of a capture, or its end, where there is none before it
pub record IsJoined (low : Line) (end t : ℕ) : Type 0 where
  pub within : t ≤ end
  pub idle : t < end → IsIdle low t
  pub first : (u : ℕ) → u < t → IsIdle low u → ⊥

-- by the instant since which the line is high, up to another one
abbrev pub idle_by : Option ℕ → ℕ → Option ℕ
idle_by None until = None
idle_by (Some since) until = if nat_le (since + free_time_of Retry) until then Some (since + free_time_of Retry) else None

-- ---- what is heard

-- whether one of these readings begins before t
abbrev pub has_joined : ℕ → List Listed → Bool
has_joined t [] = false
has_joined t (x ∷ xs) = nat_lt x.begin t || has_joined t xs

-- one line stands for those, in the place of the first of them
abbrev pub joined_lines : ℕ → Bool → List Listed → List AuditLine
joined_lines t is_reported [] = []
joined_lines t is_reported (x ∷ xs) =
    if nat_lt x.begin t then (if is_reported then [] else Group (Joined t) ∷ []) ++ joined_lines t true xs
    else Reading x ∷ joined_lines t is_reported xs

-- ---- as the line is told

-- the first idle instant of a line, where one is before microsecond n
abbrev pub IsFoundBefore : Line → ℕ → Option ℕ → Type 0
IsFoundBefore low n None = (u : ℕ) → u < n → IsIdle low u → ⊥
IsFoundBefore low n (Some t) = (t < n) × IsIdle low t × ((u : ℕ) → u < t → IsIdle low u → ⊥)

-- since when a line is high just before microsecond n, where it is
abbrev pub IsHighSince : Line → ℕ → Option ℕ → Type 0
IsHighSince low n None = was_low low n ≡ true
IsHighSince low n (Some s) = (s ≤ n) × (was_low low n ≡ false) × ((u : ℕ) → s ≤ u → u < n → low u ≡ false) × (0 < s → low (s - 1) ≡ true)

abbrev pub since_of : Edge → Option ℕ
since_of e = if e.low then None else Some e.at

-- what was told of a line before microsecond n
pub record IsSought (s : IdleSearch) (low : Line) (n : ℕ) : Type 0 where
  pub high : IsHighSince low n s.high_since
  pub found : IsFoundBefore low n s.found

-- what was found stays
abbrev pub Stays : Option ℕ → Option ℕ → Type 0
Stays None new = Unit {0}
Stays (Some t) new = new ≡ Some t

-- a line has no edge from microsecond n up to t
abbrev pub IsStill : Line → ℕ → ℕ → Type 0
IsStill low n t = (u : ℕ) → n ≤ u → u < t → low u ≡ was_low low n

-- an edge is told
abbrev pub FindsEdge : IdleSearch → Edge → IdleSearch → Type 0
FindsEdge old edge new = (low : Line) (n : ℕ) → IsSought old low n → n ≤ edge.at → IsStill low n edge.at → was_low low n ≡ not edge.low → low edge.at ≡ edge.low → IsSought new low (edge.at + 1)

-- or that none comes before an instant
abbrev pub FindsCalm : IdleSearch → ℕ → IdleSearch → Type 0
FindsCalm old known new = (low : Line) (n : ℕ) → IsSought old low n → n ≤ known → IsStill low n known → IsSought new low known

-- or the end
abbrev pub FindsEnd : IdleSearch → ℕ → ℕ → Type 0
FindsEnd s end t = (low : Line) (n : ℕ) → IsSought s low n → n ≤ end + 1 → IsStill low n (end + 1) → IsJoined low end t

-- ---- what is heard up to then

-- the lines of readings, where the instant is known
abbrev pub lines_from : Option ℕ → Bool → List Listed → List AuditLine
lines_from None is_held xs = []
lines_from (Some t) is_held xs = joined_lines t is_held xs

-- whether one of them is joined
abbrev pub has_begun : Option ℕ → List Listed → Bool
has_begun None [] = false
has_begun None (x ∷ xs) = true
has_begun (Some t) xs = has_joined t xs

-- the line that stands for the readings that have ended, where the instant was not known before
abbrev pub opened : Option ℕ → Option ℕ → Bool → List AuditLine
opened None (Some t) true = Group (Joined t) ∷ []
opened None (Some t) false = []
opened None None is_held = []
opened (Some s) now is_held = []

-- ---- laws

-- these readings begin before an instant
abbrev pub BeginBefore : ℕ → List Listed → Type 0
BeginBefore t [] = Unit {0}
BeginBefore t (x ∷ xs) = (x.begin < t) × BeginBefore t xs

abbrev pub LinesAreIdleFirstOnce : Type 0
LinesAreIdleFirstOnce = (low : Line) (end t u : ℕ) → IsJoined low end t → IsJoined low end u → t ≡ u

-- whether there is one is known by then
pub record AreOneLine (t : ℕ) (xs : List Listed) : Type 0 where
  pub lines : joined_lines t false xs ≡ opened None (Some t) (has_begun None xs)
  pub begun : has_begun (Some t) xs ≡ has_begun None xs

abbrev pub HeldReadingsAreOneLine : Type 0
HeldReadingsAreOneLine = (t : ℕ) (xs : List Listed) → BeginBefore t xs → AreOneLine t xs
