use Rattle.std.proofs.Common.{◌+◌, ◌*◌, ◌^◌, ◌≤◌, ℕ, List, length}
use Rattle.text_core.specs.Lines.{lines_of}
use Rattle.message_text.specs.FrameLines.{AreTextsOf, lines_of_frames}
use Rattle.message_text.proofs.FrameLineLemmas.{Put}
use Rattle.message_text.proofs.frame_lines.write_lines.Given as goal

abbrev pub invariant-loop-current : goal.invariant-loop-current
invariant-loop-current g l = record {
  put : (frames : List (List ℕ)) → AreTextsOf (lines_of_frames (lines_of l.text)) frames
      → Put l.rest frames (g.S.Sink.contents l.fn.out) (g.S.Sink.contents l.out) (g.S.Sink.is_stuck l.fn.out) (g.S.Sink.is_stuck l.out) l.written;
  room : l.written + 2 ^ 64 * length l.rest ≤ 2 ^ 64 * length l.text;
}

abbrev pub decreases-loop-current : goal.decreases-loop-current
decreases-loop-current g l = length l.rest
