use Rattle.std.proofs.Common.{◌+◌, ◌-◌}
use Rattle.text_core.specs.Adds.{Adds, Tally}
use Rattle.edid_difference.specs.Parts.{IsPlace, rest_at}
use Rattle.edid_difference.specs.Records.{difference_text, parts_difference}
use Rattle.edid_difference.proofs.aligning.add_difference.Given as goal

abbrev pub invariant-loop-part : goal.invariant-loop-part
invariant-loop-part g l = record {
  here : IsPlace l.here;
  there : IsPlace l.there;
  later : (c : Tally) → Adds l.out c (parts_difference l.form (rest_at l.first l.first_extensions l.here) (rest_at l.second l.second_extensions l.there))
      → Adds l.fn.out c (difference_text l.form l.first l.first_extensions l.second l.second_extensions);
}

abbrev pub decreases-loop-part : goal.decreases-loop-part
decreases-loop-part g l = (399 - l.here.number) + (399 - l.there.number)
