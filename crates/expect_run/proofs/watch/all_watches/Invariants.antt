use Rattle.std.proofs.Common.{◌≡◌, ◌++◌, length, map}
use Rattle.std.specs.List.{filter_map}
use Rattle.text_core.specs.Lines.{lines_of}
use Rattle.expect_run.specs.Kept.{time_at, watch_as, watch_of, watches_by}
use Rattle.expect_run.proofs.watch.all_watches.Given as goal

-- what the lines before look for, and those that are left
abbrev pub invariant-lines : goal.invariant-lines
invariant-lines l = map watch_as l.watches.items ++ filter_map (watch_of l.labels.script.now (time_at l.times.script.now)) (lines_of l.rest) ≡ watches_by l.labels.script.now l.times.script.now

abbrev pub decreases-lines : goal.decreases-lines
decreases-lines l = length l.rest
