use Rattle.std.proofs.Common.{◌≡◌, ◌++◌, length}
use Rattle.expect_judge.specs.Seen.{is_seen}
use Rattle.expect_run.proofs.Shown.{shown_first}
use Rattle.text_core.specs.Held.{held_bytes}
use Rattle.expect_run.proofs.report.append_first.Given as goal

-- the lines that are appended, and those that are left
abbrev pub invariant-rounds : goal.invariant-rounds
invariant-rounds l = held_bytes l.out ++ shown_first l.left (is_seen l.span l.pattern) l.rest
    ≡ held_bytes l.fn.out ++ shown_first 8 (is_seen l.span l.pattern) l.rounds

abbrev pub decreases-rounds : goal.decreases-rounds
decreases-rounds l = length l.rest
