use Rattle.std.proofs.Common.{◌≡◌, None, Ok}
use Rattle.live_dialogue.specs.Dialogue.{AreHanded, held}
use Rattle.live_dialogue.proofs.Answered.{SoFar}
use Rattle.live_dialogue.proofs.Putting.{is_stuck}
use Rattle.live_dialogue.proofs.dialogue.answer.Given as goal

-- the lines so far were answered, and the script has not ended
abbrev pub invariant-loop-answered : goal.invariant-loop-answered
invariant-loop-answered g l = record {
  so_far : SoFar l.fn.incoming.rest l.incoming.rest l.fn.live (held g.S.Sink.contents l.fn.out) (held g.S.Sink.contents l.out) l.live l.answered;
  going : l.live.notes.end ≡ None;
  handed : AreHanded is_stuck l.fn.out l.out (Ok tt);
}
