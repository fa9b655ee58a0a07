use Rattle.std.proofs.Common.{◌≡◌, ◌-◌}
use Rattle.edid_difference.specs.Alignment.{has_kind}
use Rattle.edid_difference.specs.Parts.{IsPlace, rest_at}
use Rattle.edid_difference.proofs.aligning.has_kind.Given as goal

abbrev pub invariant-loop-part : goal.invariant-loop-part
invariant-loop-part l = record {
  inside : IsPlace l.place;
  same : has_kind l.kind (rest_at l.base l.extensions l.place) ≡ has_kind l.kind (rest_at l.base l.extensions l.fn.place);
}

abbrev pub decreases-loop-part : goal.decreases-loop-part
decreases-loop-part l = 399 - l.place.number
