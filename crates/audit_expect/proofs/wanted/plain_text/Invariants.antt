use Rattle.std.proofs.Common.{◌≡◌, ◌++◌, length}
use Rattle.audit_expect.specs.Wanted.{plain_text}
use Rattle.audit_expect.proofs.wanted.plain_text.Given as goal

-- the lines that are appended, and those that are left
abbrev pub invariant-lines : goal.invariant-lines
invariant-lines l = l.plain.items ++ plain_text l.rest ≡ plain_text l.text

abbrev pub decreases-lines : goal.decreases-lines
decreases-lines l = length l.rest
