use Rattle.std.proofs.Common.{ℕ, ◌≤◌, ◌+◌, ◌-◌, length}
use Rattle.line_wave.specs.Bounds.{latest_instant}
use Rattle.room_script.specs.Script.{IsSchedule}
use Rattle.room_run.specs.Run.{start}
use Rattle.room_run.proofs.Running.{Reached}
use Rattle.room_run.proofs.turn_by_turn.run_turns.Given as goal

-- what happened so far was heard; the rest keeps the counts and times small
abbrev pub invariant-turns : goal.invariant-turns
invariant-turns g l = record {
  reached : Reached g.R.Reporter.hears l.end (start l.fn.net l.events) (record { net = l.net; events = l.rest; totals = l.totals }) l.fn.reporter l.reporter;
  schedule : (from : ℕ) × IsSchedule (length l.net.tree) l.end from l.rest;
  closed : l.net.close ≤ latest_instant;
  rested : l.net.rest ≤ latest_instant;
  rounds : l.totals.rounds ≤ l.net.rest;
  complete : l.totals.complete ≤ l.totals.rounds;
  refused : l.totals.refused + length l.rest ≤ length l.events;
}

abbrev pub decreases-turns : goal.decreases-turns
decreases-turns g l = length l.rest + (latest_instant - l.net.rest)
