use Rattle.std.proofs.Common.{◌≡◌, nat_le, filter, length}
use Rattle.line_wave.specs.declared.Stretch.{Stretch}
use Rattle.line_wave.specs.Line.{IsWave}
use Rattle.room_drives.proofs.drives.begun_since.Given as goal

-- none of those that are left out begins then
abbrev pub invariant-earlier : goal.invariant-earlier
invariant-earlier l = record {
  order : IsWave l.left;
  same : filter (λ (p : Stretch). nat_le l.instant p.from) l.left ≡ filter (λ (p : Stretch). nat_le l.instant p.from) l.pulses;
}

abbrev pub decreases-earlier : goal.decreases-earlier
decreases-earlier l = length l.left
