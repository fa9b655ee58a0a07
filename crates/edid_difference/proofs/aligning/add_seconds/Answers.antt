use Rattle.std.proofs.Common.{sym, ◌∙◌, ap, subst}
use Rattle.edid_difference.proofs.Adding.{second_more, seconds_done}
use Rattle.edid_difference.specs.Parts.{IsPlace, rest_at}
use Rattle.edid_difference.specs.Records.{entry_text}
use Rattle.edid_difference.proofs.aligning.add_seconds.Goals as goal

pub loop-part-preserved : goal.loop-part-preserved
loop-part-preserved g c =
    let b = c.args.base.now in
    let xs = c.args.extensions.now in
    record {
      inside = subst IsPlace (sym c.place_after-place.ensures) c.in-Some.ensures.inside;
      later = λ k more.
          c.loop-part.invariant.later k (second_more (entry_text c.args.form) (rest_at b xs c.loop-part.place) (rest_at b xs c.place_after-place.result) c.in-Some.part _ _ k
          c.in-Some.ensures.first (c.in-Some.ensures.others ∙ ap (rest_at b xs) (sym c.place_after-place.ensures)) c.add_second.ensures more);
    }

pub returns : goal.returns
returns g c =
    c.loop-part.invariant.later c.loop-part.out
    (seconds_done (entry_text c.args.form) (rest_at c.args.base.now c.args.extensions.now c.loop-part.place) c.loop-part.out c.in_default.ensures.first)
