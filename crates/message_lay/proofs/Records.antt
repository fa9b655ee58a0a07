-- The line of a pull's record.
use Rattle.std.proofs.Common.{◌≡◌, ℕ, ◌-◌, List, [], ◌++◌, append_assoc, append-nil, codes, ◌∙◌}
use Rattle.std.specs.Fmt.{decimal}
use Rattle.record_core.proofs.Reading.{read_back}
use Rattle.message_lay.specs.Laws.{PullLines, PullsAreReadBack}
use Rattle.message_lay.specs.Text.{pull_cells}

pull_flat : (lead from one width end : List ℕ) → ((lead ++ from) ++ ((one ++ width) ++ [])) ++ end ≡ lead ++ from ++ one ++ width ++ end
pull_flat lead from one width end = simp (append_assoc, append-nil)

pub pull_lines : PullLines
pull_lines = λ pull. pull_flat (codes "pull ") (decimal pull.from) (codes " ") (decimal (pull.to - pull.from)) (codes "\n")

pub pulls_read_back : PullsAreReadBack
pulls_read_back = λ pull. read_back (codes "pull") (pull_cells pull) ∙ pull_lines pull
