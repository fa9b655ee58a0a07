use Rattle.std.proofs.Common.{ℕ, List, subst}
use Rattle.text_core.proofs.Adding.{then}
use Rattle.text_core.specs.Adds.{Adds}
use Rattle.edid_ddc.specs.Readout.{segment_text}
use Rattle.edid_ddc.proofs.readout.add_segments.Goals as goal

pub returns : goal.returns
returns g c =
    let bytes = c.args.ddc.now.bytes in
    let P : List ℕ → Type 0 = λ b. Adds c.add_segment.new.out c.add_segment-2.new.out (segment_text b 1) in
    then _ _ _ (segment_text bytes 0) (segment_text bytes 1) c.add_segment.ensures.text (subst P c.add_segment.ensures.same c.add_segment-2.ensures.text)
