use Rattle.std.proofs.Common.{◌≡◌, ◌+◌, ◌++◌, ◌≤◌, length, map}
use Rattle.edid_texts.specs.Cut.{lines_with_feeds}
use Rattle.edid_texts.specs.Drafts.{draft_lines, draft_of}
use Rattle.edid_text_lines.specs.Text.{line_text}
use Rattle.edid_texts.proofs.FirstBad.{AreReported}
use Rattle.edid_texts.proofs.parse.parse_text.Given as goal

abbrev pub invariant-loop-line : goal.invariant-loop-line
invariant-loop-line l = record {
  lines : lines_with_feeds l.text ≡ map line_text (draft_lines (draft_of l.draft)) ++ lines_with_feeds l.rest;
  count : l.number ≡ length (draft_lines (draft_of l.draft)) + 1;
  few : l.number ≤ 399;
  reported : AreReported (draft_lines (draft_of l.draft));
}

abbrev pub decreases-loop-line : goal.decreases-loop-line
decreases-loop-line l = length l.rest
