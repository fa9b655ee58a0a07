use Rattle.std.proofs.Common.{◌≡◌, length}
use Rattle.audit_widths.specs.Lows.{gone_to}
use Rattle.audit_widths.proofs.cursor.Cursor.go_to.Given as goal

-- what is left to pass over
abbrev pub invariant-edges : goal.invariant-edges
invariant-edges l = gone_to l.begin l.self.edges.now ≡ gone_to l.begin l.initial.self.edges.now

abbrev pub decreases-edges : goal.decreases-edges
decreases-edges l = length l.self.edges.now
