use Rattle.std.proofs.Common.{length, ◌-◌, ◌≡◌, ◌≤◌, take}
use Rattle.std.specs.Io.KnownBytes.{Appends}
use Rattle.text_core.proofs.sink.put_all.Given as goal

-- what is written so far is the front of the text, and the flag is as it was
abbrev pub invariant-loop-written : goal.invariant-loop-written
invariant-loop-written g l = record {
  in_text : l.written ≤ length l.text;
  so_far : Appends (g.S.Sink.contents l.fn.out) (g.S.Sink.contents l.out) (take l.written l.text);
  flag : g.S.Sink.is_stuck l.out ≡ g.S.Sink.is_stuck l.fn.out;
}

abbrev pub decreases-loop-written : goal.decreases-loop-written
decreases-loop-written g l = length l.text - l.written
