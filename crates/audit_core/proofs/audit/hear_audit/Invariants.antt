use Rattle.std.proofs.Common.{drop}
use Rattle.audit_core.specs.Audit.{after_all, first_tape, heard_all, tape_of}
use Rattle.audit_core.proofs.Audited.{Told}
use Rattle.audit_core.proofs.audit.hear_audit.Given as goal

-- what has ended before the next edge is heard
abbrev pub invariant-loop-edge : goal.invariant-loop-edge
invariant-loop-edge g l = Told g.H.LineHearer.hears (heard_all l.options.timing) after_all (first_tape l.capture.edges) l.fn.windows l.capture (drop l.edge-index l.edges) l.monitor (tape_of l.auditor) l.fn.out l.out
