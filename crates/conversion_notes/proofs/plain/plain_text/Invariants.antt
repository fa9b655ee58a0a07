use Rattle.std.proofs.Common.{◌≡◌, ◌++◌, length}
use Rattle.conversion_notes.specs.Meanings.{plain_text}
use Rattle.conversion_notes.proofs.plain.plain_text.Given as goal

abbrev pub invariant-lines : goal.invariant-lines
invariant-lines l = plain_text l.text ≡ l.plain.items ++ plain_text l.rest

abbrev pub decreases-lines : goal.decreases-lines
decreases-lines l = length l.rest
