use Rattle.std.proofs.Common.{drop}
use Rattle.audit_core.proofs.Idle.{Searches}
use Rattle.audit_core.proofs.readings.joined_at.Given as goal

-- the edges before the next one were told
abbrev pub invariant-loop-edge : goal.invariant-loop-edge
invariant-loop-edge l = Searches l.capture.edges (drop l.edge-index l.edges) l.capture.end l.search
