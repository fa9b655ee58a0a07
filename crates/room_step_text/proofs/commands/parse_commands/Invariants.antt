use Rattle.std.proofs.Common.{◌≡◌, ◌+◌, ◌≤◌, length}
use Rattle.text_core.specs.Lines.{lines_of}
use Rattle.room_step_text.specs.Commands.{lines_read, commands_of}
use Rattle.room_step_text.proofs.commands.parse_commands.Given as goal

-- what is read so far and the lines that are left give what all lines give
abbrev pub invariant-loop-line : goal.invariant-loop-line
invariant-loop-line l = record {
  reads : lines_read l.tree (lines_of l.rest) l.number l.commands.items ≡ commands_of l.tree l.text;
  counts : l.number + length l.rest ≤ length l.text + 1;
}

abbrev pub decreases-loop-line : goal.decreases-loop-line
decreases-loop-line l = length l.rest
