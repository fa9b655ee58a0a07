use Rattle.room_trace.specs.Room.{head_text}
use Rattle.room_trace.proofs.Said.{heads_all, heads_more, heads_none}
use Rattle.room_trace.proofs.heads.add_heads.Goals as goal

pub lines-init : goal.lines-init
lines-init g c = heads_none head_text c.args.text.now c.args.out.now

pub lines-preserved : goal.lines-preserved
lines-preserved g c = heads_more head_text c.args.text.now c.lines.rest.now c.in-Some.after.now c.in-Some.line.now _ _ _ c.lines.invariant c.in-Some.ensures.lines c.add_head.ensures

pub returns : goal.returns
returns g c = heads_all head_text c.args.text.now c.lines.rest.now _ _ c.lines.invariant c.in_default.ensures.lines
