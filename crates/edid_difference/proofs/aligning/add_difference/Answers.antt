use Rattle.std.proofs.Common.{List, sym, subst, subst₂, refl, eq-eqb, arith}
use Rattle.std.proofs.lemmas.Bool.{ne_eqb}
use Rattle.text_core.specs.Adds.{Adds}
use Rattle.edid_difference.proofs.Adding.{both_first, first_alone, first_last, second_alone, seconds_last}
use Rattle.edid_difference.proofs.Parting.{start_is}
use Rattle.edid_difference.specs.Parts.{IsPlace, place_after, rest_at}
use Rattle.edid_difference.specs.Records.{entry_text, parts_difference}
use Rattle.edid_difference.specs.declared.part.Part.{Part}
use Rattle.edid_difference.specs.declared.part.Place.{Place}
use Rattle.edid_difference.proofs.aligning.add_difference.Goals as goal

pub loop-part-init : goal.loop-part-init
loop-part-init g c = record {
  here = (omega arith, omega arith);
  there = (omega arith, omega arith);
  later = λ k more.
      subst₂ (λ (xs ys : List Part). Adds c.args.out.now k (parts_difference c.args.form xs ys)) (start_is c.args.first.now c.args.first_extensions.now _ refl)
      (start_is c.args.second.now c.args.second_extensions.now _ refl) more;
}

pub loop-part-preserved-in-None : goal.loop-part-preserved-in-None
loop-part-preserved-in-None g c =
    let xs : Place → List Part = rest_at c.args.first.now c.args.first_extensions.now in
    let ys : Place → List Part = rest_at c.args.second.now c.args.second_extensions.now in
    record {
      here = subst IsPlace (sym c.place_after-here.ensures) c.in-Some.ensures.inside;
      there = c.loop-part.invariant.there;
      later = λ k more.
          c.loop-part.invariant.later k (first_last (entry_text c.args.form) (xs c.loop-part.here) (ys c.loop-part.there) (xs (place_after c.in-Some.part)) c.in-Some.part _ c.add_first.new.out k
          c.in-Some.ensures.first c.in-Some.ensures.others c.in-None.ensures.first c.add_first.ensures
          (subst (λ (p : Place). Adds c.add_first.new.out k (parts_difference c.args.form (xs p) (ys c.loop-part.there))) c.place_after-here.ensures more));
    }

pub loop-part-preserved-then-part-other : goal.loop-part-preserved-then-part-other
loop-part-preserved-then-part-other g c =
    let xs : Place → List Part = rest_at c.args.first.now c.args.first_extensions.now in
    let ys : Place → List Part = rest_at c.args.second.now c.args.second_extensions.now in
    let x : Part = c.in-Some.part in
    let y : Part = c.in-Some-part_at.other in
    record {
      here = subst IsPlace (sym c.place_after-here-then-part-other.ensures) c.in-Some.ensures.inside;
      there = subst IsPlace (sym c.place_after-there.ensures) c.in-Some-part_at.ensures.inside;
      later = λ k more.
          c.loop-part.invariant.later k (both_first (entry_text c.args.form) (xs c.loop-part.here) (ys c.loop-part.there) (xs (place_after x)) (ys (place_after y)) x y _ c.add_both.new.out k
          c.in-Some.ensures.first c.in-Some.ensures.others c.in-Some-part_at.ensures.first c.in-Some-part_at.ensures.others (eq-eqb x.kind y.kind c.if-part-other.true) c.add_both.ensures
          (subst₂ (λ (p q : Place). Adds c.add_both.new.out k (parts_difference c.args.form (xs p) (ys q))) c.place_after-here-then-part-other.ensures c.place_after-there.ensures more));
    }

pub loop-part-preserved-then-is_first_lone : goal.loop-part-preserved-then-is_first_lone
loop-part-preserved-then-is_first_lone g c =
    let xs : Place → List Part = rest_at c.args.first.now c.args.first_extensions.now in
    let ys : Place → List Part = rest_at c.args.second.now c.args.second_extensions.now in
    let x : Part = c.in-Some.part in
    let y : Part = c.in-Some-part_at.other in
    record {
      here = subst IsPlace (sym c.place_after-here-then-is_first_lone.ensures) c.in-Some.ensures.inside;
      there = c.loop-part.invariant.there;
      later = λ k more.
          c.loop-part.invariant.later k (first_alone (entry_text c.args.form) (xs c.loop-part.here) (ys c.loop-part.there) (xs (place_after x)) (ys (place_after y)) x y _
          c.add_first-then-is_first_lone.new.out k c.in-Some.ensures.first c.in-Some.ensures.others c.in-Some-part_at.ensures.first c.in-Some-part_at.ensures.others
          (ne_eqb x.kind y.kind c.if-part-other.false) (sym c.if-is_first_lone.ensures) c.add_first-then-is_first_lone.ensures
          (subst (λ (p : Place). Adds c.add_first-then-is_first_lone.new.out k (parts_difference c.args.form (xs p) (ys c.loop-part.there))) c.place_after-here-then-is_first_lone.ensures
          more));
    }

pub loop-part-preserved : goal.loop-part-preserved
loop-part-preserved g c =
    let xs : Place → List Part = rest_at c.args.first.now c.args.first_extensions.now in
    let ys : Place → List Part = rest_at c.args.second.now c.args.second_extensions.now in
    let x : Part = c.in-Some.part in
    let y : Part = c.in-Some-part_at.other in
    record {
      here = c.loop-part.invariant.here;
      there = subst IsPlace (sym c.place_after-there-else-is_first_lone.ensures) c.in-Some-part_at.ensures.inside;
      later = λ k more.
          c.loop-part.invariant.later k (second_alone (entry_text c.args.form) (xs c.loop-part.here) (ys c.loop-part.there) (xs (place_after x)) (ys (place_after y)) x y _ c.add_second.new.out k
          c.in-Some.ensures.first c.in-Some.ensures.others c.in-Some-part_at.ensures.first c.in-Some-part_at.ensures.others (ne_eqb x.kind y.kind c.if-part-other.false)
          (sym c.if-is_first_lone.ensures) c.add_second.ensures
          (subst (λ (p : Place). Adds c.add_second.new.out k (parts_difference c.args.form (xs c.loop-part.here) (ys p))) c.place_after-there-else-is_first_lone.ensures more));
    }

pub returns : goal.returns
returns g c =
    c.loop-part.invariant.later c.add_seconds.new.out
    (seconds_last (entry_text c.args.form) (rest_at c.args.first.now c.args.first_extensions.now c.loop-part.here) (rest_at c.args.second.now c.args.second_extensions.now c.loop-part.there) c.loop-part.out c.add_seconds.new.out
    c.in_default.ensures.first c.add_seconds.ensures)
