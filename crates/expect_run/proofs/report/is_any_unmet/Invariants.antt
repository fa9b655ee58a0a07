use Rattle.std.proofs.Common.{◌≡◌, length, map}
use Rattle.std.specs.List.{list_any}
use Rattle.expect_judge.specs.Judged.{finding_as}
use Rattle.expect_run.specs.Kept.{is_unmet}
use Rattle.expect_run.proofs.report.is_any_unmet.Given as goal

-- none before is
abbrev pub invariant-lines : goal.invariant-lines
invariant-lines l = list_any (λ finding. is_unmet finding.judged) (map finding_as l.found) ≡ list_any (λ finding. is_unmet finding.judged) (map finding_as l.rest)

abbrev pub decreases-lines : goal.decreases-lines
decreases-lines l = length l.rest
