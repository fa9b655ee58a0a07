use Rattle.std.proofs.Common.{drop, false}
use Rattle.capture_join.specs.Joined.{joined_lines}
use Rattle.audit_core.proofs.Audited.{Told}
use Rattle.audit_core.proofs.JoinedLines.{after_joined}
use Rattle.audit_core.proofs.readings.hear_from.Given as goal

-- what has ended before the next edge is heard
abbrev pub invariant-loop-edge : goal.invariant-loop-edge
invariant-loop-edge g l = Told g.H.LineHearer.hears (joined_lines l.joined_at) (after_joined l.joined_at) false l.fn.windows l.capture (drop l.edge-index l.edges) l.monitor l.is_reported l.fn.out l.out
