use Rattle.std.proofs.Common.{◌≡◌, ◌++◌, length}
use Rattle.std.specs.List.{flat_map}
use Rattle.text_core.specs.Lines.{lines_of}
use Rattle.program_calls.specs.Tests.{trace_remark, trace_remarks}
use Rattle.program_calls.proofs.expectations.trace_remarks.Given as goal

-- the lines so far, and those that are left
abbrev pub invariant-lines : goal.invariant-lines
invariant-lines l = l.text.items ++ flat_map (trace_remark l.form) (lines_of l.rest) ≡ trace_remarks l.form l.trace

abbrev pub decreases-lines : goal.decreases-lines
decreases-lines l = length l.rest
