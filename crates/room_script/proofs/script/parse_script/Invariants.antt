use Rattle.std.proofs.Common.{◌+◌, ◌≤◌, length, Result}
use Rattle.text_core.specs.Lines.{lines_of}
use Rattle.room_script.specs.Script.{Course, AreLinesRead, IsScriptRead, notes_of}
use Rattle.text_core.specs.declared.at.At.{At}
use Rattle.room_script.specs.declared.script.ScriptCause.{ScriptCause}
use Rattle.room_script.specs.Lines.{AreFew, AreSound}
use Rattle.room_script.proofs.script.parse_script.Given as goal

-- what the lines that are left give after those so far, all lines give
abbrev pub invariant-loop-line : goal.invariant-loop-line
invariant-loop-line l = record {
  reads : (read : Result Course (At ScriptCause)) → AreLinesRead l.tree (lines_of l.rest) l.number (notes_of l.draft) read → IsScriptRead l.tree l.text read;
  sound : AreSound (length l.tree) (notes_of l.draft);
  few : AreFew (notes_of l.draft);
  counts : l.number + length l.rest ≤ length l.text + 1;
}

abbrev pub decreases-loop-line : goal.decreases-loop-line
decreases-loop-line l = length l.rest
