use Rattle.std.proofs.Common.{◌≡◌, length}
use Rattle.std.specs.List.{list_any}
use Rattle.expect_text.specs.Names.{meets}
use Rattle.expect_run.proofs.watch.fits_any.Given as goal

-- none before is met
abbrev pub invariant-patterns : goal.invariant-patterns
invariant-patterns l = list_any (λ text. meets text.now l.reported) l.texts ≡ list_any (λ text. meets text.now l.reported) l.rest

abbrev pub decreases-patterns : goal.decreases-patterns
decreases-patterns l = length l.rest
