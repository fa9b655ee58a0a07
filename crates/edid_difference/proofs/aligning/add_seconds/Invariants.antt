use Rattle.std.proofs.Common.{◌-◌, flat_map, map}
use Rattle.text_core.specs.Adds.{Adds, Tally}
use Rattle.edid_difference.specs.Alignment.{lone_second}
use Rattle.edid_difference.specs.Parts.{IsPlace, rest_at}
use Rattle.edid_difference.specs.Records.{entry_text}
use Rattle.edid_difference.proofs.aligning.add_seconds.Given as goal

abbrev pub invariant-loop-part : goal.invariant-loop-part
invariant-loop-part g l = record {
  inside : IsPlace l.place;
  later : (c : Tally) → Adds l.out c (flat_map (entry_text l.form) (map lone_second (rest_at l.base l.extensions l.place)))
      → Adds l.fn.out c (flat_map (entry_text l.form) (map lone_second (rest_at l.base l.extensions l.fn.place)));
}

abbrev pub decreases-loop-part : goal.decreases-loop-part
decreases-loop-part g l = 399 - l.place.number
