use Rattle.std.proofs.Common.{rules, subst, ap, ◌∙◌}
use Rattle.line_reading.specs.Reports.{ended_of, running_by}
use Rattle.library_wire.specs.Readings.{IsReadingPut}
use Rattle.library_wire.specs.Receiver.{HasHeard}
use Rattle.library_wire.proofs.Kept.{heard_as}
use Rattle.library_wire.proofs.receiver.receiver_hear.Goals as goal

pub returns : goal.returns
returns c =
    let reported = c.tick-reported.result in
    let reads = subst (λ o. IsReadingPut o c.args.place.now c.put_reading.new.place)
    (c.ended_of.ensures ∙ ap (ended_of reported c.args.t) (c.running-running.ensures.kept ∙ ap (λ h. running_by h c.args.t) c.noted-next.ensures.keeps)) c.put_reading.ensures in
    let heard : HasHeard c.in-Some.was c.args.t c.args.is_low c.heard_of.result c.parts.result c.args.place.now c.put_reading.new.place = record {
      noted = c.noted-next.result;
      next = c.tick-reported.new.self;
      reported = reported;
      keeps = c.noted-next.ensures.keeps;
      stood = c.noted-next.ensures.stood;
      level = c.noted-next.ensures.level;
      follows = c.tick-reported.ensures.follows;
      after = c.parts.ensures;
      reports = c.heard_of.ensures;
      reads = reads;
    } in (
      λ r parts early. heard_as c.in-Some.was r c.args.receiver.now c.args.t c.args.is_low c.heard_of.result c.parts.result c.args.place.now c.put_reading.new.place
          c.in-Some.ensures.found parts heard,
      λ none. absurd (none c.in-Some.was c.in-Some.ensures.found),
      search rules,
    )
