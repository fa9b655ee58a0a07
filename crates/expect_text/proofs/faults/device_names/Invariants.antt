use Rattle.std.proofs.Common.{◌≡◌, ◌-◌, ◌++◌, length, map, take}
use Rattle.text_core.specs.Lines.{lines_of}
use Rattle.expect_text.specs.Faults.{names_in, names_of}
use Rattle.expect_text.proofs.faults.device_names.Given as goal

-- the names so far, and those of the lines that are left
abbrev pub invariant-lines : goal.invariant-lines
invariant-lines l = names_of l.topology ≡ map (λ n. n.now) l.names.items ++ take (15 - length l.names.items) (names_in (lines_of l.rest))

abbrev pub decreases-lines : goal.decreases-lines
decreases-lines l = length l.rest
