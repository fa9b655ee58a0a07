use Rattle.std.proofs.Common.{◌≡◌, length}
use Rattle.std.specs.List.{list_any}
use Rattle.std.specs.Str.{bytes_eq}
use Rattle.expect_run.proofs.watch.has.Given as goal

-- none before is the pattern
abbrev pub invariant-patterns : goal.invariant-patterns
invariant-patterns l = list_any (λ text. bytes_eq text.now l.pattern) l.texts ≡ list_any (λ text. bytes_eq text.now l.pattern) l.rest

abbrev pub decreases-patterns : goal.decreases-patterns
decreases-patterns l = length l.rest
