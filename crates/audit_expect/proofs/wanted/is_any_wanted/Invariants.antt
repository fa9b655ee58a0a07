use Rattle.std.proofs.Common.{◌≡◌, length}
use Rattle.text_core.specs.Lines.{lines_of}
use Rattle.audit_expect.specs.Wanted.{is_any_wanted}
use Rattle.audit_expect.proofs.wanted.is_any_wanted.Given as goal

-- no line before expects something of remarks
abbrev pub invariant-lines : goal.invariant-lines
invariant-lines l = is_any_wanted (lines_of l.rest) ≡ is_any_wanted (lines_of l.text)

abbrev pub decreases-lines : goal.decreases-lines
decreases-lines l = length l.rest
