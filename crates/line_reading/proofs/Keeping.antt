-- What is heard of a line microsecond by microsecond is what its readings say, by the standard's windows.
use Rattle.std.proofs.Common.{◌≡◌, ℕ, suc}
use Rattle.line_wave.specs.Line.{Line}
use Rattle.line_reading.specs.Phase.{standing_from}
use Rattle.line_reading.specs.Hears.{hears}
use Rattle.line_reading.specs.Kept.{running_from, kept_of, StandingsAreKept}
use Rattle.line_reading.specs.Windows.{standard}
use Rattle.line_reading.proofs.Standard.{standard_are}
use Rattle.line_reading.proofs.KeepingBy as by
use Rattle.line_reading.specs.Reading.{read_slots}
use Rattle.line_reading.specs.Places.{StandsIn, PlacesShowReadings, PlacesKnowBits}
use Rattle.line_reading.specs.Heard.{NoneRunsWithoutFall, OneRunsFromFall, KeptIsHeardBefore, ReportedIsHeard}

pub none_runs : NoneRunsWithoutFall
unfolding read_slots running_from standing_from hears StandsIn
none_runs = by.none_runs standard standard_are

pub one_runs : OneRunsFromFall
unfolding read_slots running_from standing_from hears StandsIn
one_runs = by.one_runs standard standard_are

pub kept_heard : (low : Line) (t : ℕ) → kept_of low t ≡ hears low (suc t)
unfolding read_slots running_from standing_from hears StandsIn
kept_heard = by.kept_heard standard standard_are

pub before_heard : KeptIsHeardBefore
unfolding read_slots running_from standing_from hears StandsIn
before_heard = by.before_heard standard standard_are

pub standings_are_kept : StandingsAreKept
unfolding read_slots running_from standing_from hears StandsIn
standings_are_kept = by.standings_are_kept standard standard_are

pub runs_so : PlacesShowReadings
unfolding read_slots running_from standing_from hears StandsIn
runs_so = by.runs_so standard standard_are

pub reported_heard : ReportedIsHeard
unfolding read_slots running_from standing_from hears StandsIn
reported_heard = by.reported_heard standard standard_are

pub running_knows : PlacesKnowBits
unfolding read_slots running_from standing_from hears StandsIn
running_knows = by.running_knows standard standard_are
