-- Rounds in a span of time that meet a pattern (own).
use Rattle.std.specs.Prelude.{ℕ, nat_le, ◌&&◌, Bool, if◌then◌else◌, filter, List, [], ◌∷◌, Option, Some, None}
use Rattle.std.specs.List.{filter_map}
use Rattle.expect_text.specs.Names.{meets}
use Rattle.expect_judge.specs.Told.{RoundLine}
use Rattle.expect_judge.specs.declared.seen.TimeSpan.{TimeSpan}

-- it began and ended within the span, and what its line says meets the pattern
abbrev pub is_seen : TimeSpan → List ℕ → RoundLine → Bool
is_seen span pattern r = nat_le span.from r.begin && nat_le r.at span.to && meets pattern r.reported

-- those of these that are seen, in order
abbrev pub rounds_seen : List RoundLine → TimeSpan → List ℕ → List RoundLine
rounds_seen rounds span pattern = filter (is_seen span pattern) rounds

-- the end of a round, where it is seen
abbrev pub end_seen : TimeSpan → List ℕ → RoundLine → Option ℕ
end_seen span pattern r = if is_seen span pattern r then Some r.at else None

-- the ends of those seen, in order
abbrev pub ends_seen : List RoundLine → TimeSpan → List ℕ → List ℕ
ends_seen rounds span pattern = filter_map (end_seen span pattern) rounds

abbrev pub first_of : List ℕ → Option ℕ
first_of [] = None
first_of (at ∷ ats) = Some at

abbrev pub or_first : Option ℕ → List ℕ → Option ℕ
or_first None ats = first_of ats
or_first (Some at) ats = Some at
