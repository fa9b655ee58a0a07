-- Pulls of a line, whoever pulls: low stretches in order. (own)
use Rattle.std.specs.Prelude.{◌≡◌, ℕ, ◌+◌, ◌<◌, ◌≤◌, Bool, true, nat_lt, nat_le, ◌&&◌, ◌↔◌, List, [], ◌∷◌, length, All}
use Rattle.line_wave.specs.declared.Stretch.{Stretch}
use Rattle.line_wave.specs.Line.{IsWave}
use Rattle.line_wave.specs.Pulses.{AreSparse}
use Rattle.line_wave.specs.Bounds.{latest_heard, latest_instant, most_pulls}

-- a pull ends before the latest instant that receivers and senders are told of
abbrev pub EndsInTime : Stretch → Type 0
EndsInTime p = p.to < latest_heard

-- each is a microsecond wide at least and begins after the end of the one before: none overlaps or touches another
pub record AreTimely (ps : List Stretch) : Type 0 where
  pub few : length ps ≤ most_pulls
  pub order : IsWave ps
  pub ends : All EndsInTime ps

-- the same as a test, from an instant on
abbrev pub are_timely_from : ℕ → List Stretch → Bool
are_timely_from from [] = true
are_timely_from from (p ∷ ps) = (nat_le from p.from && nat_lt p.from p.to) && (nat_lt p.to latest_heard && are_timely_from (p.to + 1) ps)

abbrev pub are_timely : List Stretch → Bool
are_timely ps = nat_le (length ps) most_pulls && are_timely_from 0 ps

abbrev pub TimelyTested : Type 0
TimelyTested = (ps : List Stretch) → (are_timely ps ≡ true) ↔ AreTimely ps

-- Sparse pulses that all begin by the latest instant are pulls.
abbrev pub EarlyPulsesArePulls : Type 0
EarlyPulsesArePulls = (ss : List Stretch) → AreSparse ss → All (λ p. p.from ≤ latest_instant) ss → AreTimely ss
