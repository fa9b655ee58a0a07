use Rattle.std.proofs.Common.{◌≡◌, ◌+◌, ◌≤◌, length, is_some}
use Rattle.std.specs.List.{list_any}
use Rattle.text_core.specs.Lines.{lines_of}
use Rattle.edid_dump.specs.Dump.{edid_in_dump, dumped_from, has_dump}
use Rattle.edid_dump.specs.Rows.{form_of}
use Rattle.edid_dump.proofs.dump.find.Given as goal

abbrev pub invariant-lines : goal.invariant-lines
invariant-lines l = record {
  so_far : edid_in_dump l.text ≡ dumped_from l.number (lines_of l.rest);
  some : has_dump l.text ≡ list_any (λ line. is_some (form_of line)) (lines_of l.rest);
  room : l.number + length l.rest ≤ length l.text + 1;
}

abbrev pub decreases-lines : goal.decreases-lines
decreases-lines l = length l.rest
