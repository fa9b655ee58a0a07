use Rattle.std.proofs.Common.{◌≡◌, ◌+◌, []}
use Rattle.live_incoming.specs.Incoming.{to_come}
use Rattle.follow_core.proofs.Written.{Going, held}
use Rattle.follow_core.proofs.following.follow.Given as goal

-- the lines so far were heard, and what had ended by each was written, and handed on
abbrev pub invariant-loop-read : goal.invariant-loop-read
invariant-loop-read g l = record {
  going : Going l.fn.form l.fn.signal l.fn.view l.fn.how (g.R.Read.remaining l.fn.input) (to_come l.lines (g.R.Read.remaining l.input)) (held g.S.Sink.contents l.fn.out) (held g.S.Sink.contents l.out) l.follower (l.read + 1);
  kept : l.fn.out.pending.items ≡ [] → l.out.pending.items ≡ [];
}
