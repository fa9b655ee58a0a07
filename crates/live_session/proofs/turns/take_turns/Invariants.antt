use Rattle.std.proofs.Common.{ℕ, ◌≡◌, ◌≤◌, ◌+◌, ◌-◌, length, drop}
use Rattle.line_wave.specs.Bounds.{latest_instant}
use Rattle.room_script.specs.Script.{IsSchedule}
use Rattle.live_session.proofs.Going.{Reached}
use Rattle.live_session.proofs.turns.take_turns.Given as goal

-- the turns so far were heard of; the rest keeps the counts and times small
abbrev pub invariant-turns : goal.invariant-turns
invariant-turns g l = record {
  reached : Reached g.R.Reporter.hears l.ended l.until (record { net = l.fn.net; events = l.events; totals = l.fn.totals }) (record { net = l.net; events = l.rest; totals = l.totals }) l.fn.reporter l.reporter;
  rest : l.rest ≡ drop l.applied l.events;
  few : l.applied ≤ length l.events;
  schedule : (from end : ℕ) × IsSchedule (length l.net.tree) end from l.rest;
  closed : l.net.close ≤ latest_instant;
  rested : l.net.rest ≤ latest_instant;
  rounds : l.totals.rounds ≤ l.net.rest;
  complete : l.totals.complete ≤ l.totals.rounds;
  refused : l.totals.refused + length l.rest ≤ l.fn.totals.refused + length l.events;
  tree : length l.net.tree ≡ length l.fn.net.tree;
}

abbrev pub decreases-turns : goal.decreases-turns
decreases-turns g l = length l.rest + (latest_instant - l.net.rest)
