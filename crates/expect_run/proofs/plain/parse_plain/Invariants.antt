use Rattle.std.proofs.Common.{◌+◌, ◌≤◌, length}
use Rattle.text_core.specs.Lines.{lines_of}
use Rattle.room_script.specs.Script.{notes_of}
use Rattle.room_script.specs.Lines.{AreSound}
use Rattle.expect_run.proofs.PlainRead.{HoldsFew, Leads}
use Rattle.expect_run.proofs.plain.parse_plain.Given as goal

-- what the lines that are left give after those so far, the plain script gives; the draft is sound, and its pulses and pulls are few
abbrev pub invariant-lines : goal.invariant-lines
invariant-lines l = record {
  leads : Leads l.tree l.script (lines_of l.rest) l.number (notes_of l.draft);
  sound : AreSound (length l.tree) (notes_of l.draft);
  few : HoldsFew (notes_of l.draft);
  counts : l.number + length l.rest ≤ length l.script + 1;
}

abbrev pub decreases-lines : goal.decreases-lines
decreases-lines l = length l.rest
