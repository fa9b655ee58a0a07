use Rattle.std.proofs.Common.{◌-◌, ◌≤◌, length, take}
use Rattle.program_input.specs.Parted.{AreOtherLines}
use Rattle.program_input.proofs.parts.parted.Given as goal

-- the lines before are whole, and others
abbrev pub invariant-lines : goal.invariant-lines
invariant-lines l = record {
  within : l.start ≤ length l.text;
  earlier : AreOtherLines l.mark (take l.start l.text);
}

abbrev pub decreases-lines : goal.decreases-lines
decreases-lines l = length l.text - l.start
