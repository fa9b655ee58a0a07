use Rattle.std.proofs.Common.{◌≡◌}
use Rattle.room_steps.proofs.Due.{Reached}
use Rattle.room_steps.proofs.step_run.take_commands.Given as goal

-- the commands so far were taken, and their text was written
abbrev pub invariant-loop-command : goal.invariant-loop-command
invariant-loop-command g l = record {
  reached : Reached l.commands l.command-index l.fn.stepper l.stepper (g.S.Sink.contents l.fn.out) (g.S.Sink.contents l.out) l.written;
  flag : g.S.Sink.is_stuck l.out ≡ g.S.Sink.is_stuck l.fn.out;
}
