use Rattle.std.proofs.Common.{◌≡◌, ◌+◌, ◌++◌, ◌≤◌, length, map, nat_eq}
use Rattle.std.specs.HashMap.{get}
use Rattle.text_core.specs.Lines.{lines_of}
use Rattle.expect_judge.specs.Told.{told_as}
use Rattle.expect_judge.specs.Judged.{finding_as, findings_of, states_for}
use Rattle.expect_judge.proofs.Judging.{findings_left}
use Rattle.expect_judge.proofs.judge.judged_by.Given as goal

-- what is found of the lines above, and then of those that are left
abbrev pub invariant-lines : goal.invariant-lines
invariant-lines l = record {
  same : map finding_as l.found.items ++ findings_left l.labels.script.now (told_as l.index.told) (λ number. get nat_eq l.instants number) l.number (lines_of l.rest) (map (λ state. state.items) l.left) (map (λ text. text.items) l.texts_left)
      ≡ findings_of l.labels.script.now (told_as l.index.told) (states_for (lines_of l.labels.script.now) (map (λ state. state.items) l.states)) (states_for (lines_of l.labels.script.now) (map (λ text. text.items) l.texts));
  room : l.number + length l.rest ≤ length l.labels.script.now + 1;
}

abbrev pub decreases-lines : goal.decreases-lines
decreases-lines l = length l.rest
