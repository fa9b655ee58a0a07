-- What is looked for, in groups, so that a round is compared with few (own).
use Rattle.std.specs.Prelude.{◌-◌, ◌^◌, ◌&&◌, ◌||◌, min, max, not, Bool, false, is_none, List, [], ◌∷◌, Option, Some, None}
use Rattle.expect_text.specs.Names.{meets}
use Rattle.expect_judge.specs.Told.{RoundLine}
use Rattle.expect_judge.specs.declared.seen.TimeSpan.{TimeSpan}
use Rattle.expect_run.specs.Kept.{Watch, is_within}

-- one whose span is not known, or any
abbrev pub is_sought : Bool → Watch → Bool
is_sought timeless w = not timeless || is_none w.span

-- a round is in the span, which is known
abbrev pub is_known_within : Option TimeSpan → RoundLine → Bool
is_known_within None r = false
is_known_within (Some span) r = is_within (Some span) r

abbrev pub is_known_met : RoundLine → Watch → Bool
is_known_met r w = is_known_within w.span r && meets w.pattern r.reported

-- no round is in it
abbrev pub no_span : TimeSpan
no_span = record { from = 2 ^ 64 - 1; to = 0 }

abbrev pub widened : TimeSpan → Option TimeSpan → TimeSpan
widened hull None = hull
widened hull (Some span) = record { from = min hull.from span.from; to = max hull.to span.to }

-- the span with the known spans of these
abbrev pub hull_from : TimeSpan → List Watch → TimeSpan
hull_from hull [] = hull
hull_from hull (w ∷ ws) = hull_from (widened hull w.span) ws
