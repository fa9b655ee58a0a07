use Rattle.std.proofs.Common.{take}
use Rattle.std.specs.List.{flat_map}
use Rattle.text_core.specs.Adds.{Adds}
use Rattle.live_session.specs.Edges.{stretch_reported}
use Rattle.live_session.proofs.edges.add_stretches.Given as goal

-- the edges of the stretches so far are added
abbrev pub invariant-loop-stretch : goal.invariant-loop-stretch
invariant-loop-stretch g l = Adds l.fn.out l.out (flat_map (stretch_reported l.form l.span) (take l.stretch-index l.stretches))
