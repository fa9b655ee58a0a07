use Rattle.std.proofs.Common.{◌≡◌, ◌++◌, length}
use Rattle.edid_spelling.specs.Canonical.{canonical_text}
use Rattle.edid_spelling.proofs.canonical.canonical_text.Given as goal

abbrev pub invariant-lines : goal.invariant-lines
invariant-lines l = canonical_text l.text ≡ l.written.items ++ canonical_text l.rest

abbrev pub decreases-lines : goal.decreases-lines
decreases-lines l = length l.rest
