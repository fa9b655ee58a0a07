use Rattle.std.proofs.Common.{◌≡◌, ℕ, ◌+◌, ◌≤◌, List, length}
use Rattle.std.specs.HashMap.{get_by}
use Rattle.std.specs.Str.{bytes_eq}
use Rattle.text_core.specs.Lines.{lines_of}
use Rattle.expect_text.specs.Faults.{labelled_from}
use Rattle.expect_text.specs.Labels.{or_line}
use Rattle.expect_text.proofs.labels.first_lines.Given as goal

-- each label stands on one of the lines before, or else on the first of those that are left
abbrev pub invariant-lines : goal.invariant-lines
invariant-lines l = record {
  same : (name : List ℕ) → or_line (get_by (λ k. bytes_eq name k.now) l.lines) (labelled_from l.of_events l.number (lines_of l.rest) name)
      ≡ labelled_from l.of_events 1 (lines_of l.script) name;
  room : l.number + length l.rest ≤ length l.script + 1;
}

abbrev pub decreases-lines : goal.decreases-lines
decreases-lines l = length l.rest
