use Rattle.std.proofs.Common.{List, refl, sym, subst, ◌∙◌}
use Rattle.line_rounds.specs.declared.Seat.{Seat}
use Rattle.line_wire.specs.Listening.{AreBegun}
use Rattle.line_wire.proofs.Fresh.{begins_fresh}
use Rattle.line_wire.proofs.Idling.{idle_on_high}
use Rattle.line_wire.proofs.Kept.{kept_made, stand_in}
use Rattle.line_wire.proofs.edge_wire.EdgeWire.started.Goals as goal

pub pull_at-pull-requires-clause-places : goal.pull_at-pull-requires-clause-places
pull_at-pull-requires-clause-places c = stand_in c.places_of-places.result c.as_slice-2.result.now c.as_slice.result.now (c.as_slice.ensures.value ∙ sym c.as_slice-2.ensures.value) c.places_of-places.ensures

pub returns-clause-begun : goal.returns-clause-begun
returns-clause-begun c =
    let e = c.pull_at-pull.ensures in
    let r = c.new.ensures in
    begins_fresh _ c.requires.early refl c.copied_seats.ensures.sends refl refl
    (kept_made _ c.as_slice-2.result.now c.as_slice-2.ensures.value e.near e.low (stand_in c.places_of-places.result c.senders_of-senders.result.items c.as_slice.result.now c.as_slice.ensures.value c.places_of-places.ensures))
    (record {
      heard = r.rests.0;
      level = (r.rests.1, r.rests.2);
      senders = subst (λ (ss : List Seat). AreBegun ss c.args.start c.senders_of-senders.result.items) (sym c.copied_seats.ensures.same) c.senders_of-senders.ensures;
      bits = c.new-2.ensures;
      ended = refl;
      held = refl;
      wave = (c.new-3.ensures.wave, c.new-3.ensures.high);
      silent = r.empty c.args.start;
    })

pub returns-clause-idle : goal.returns-clause-idle
returns-clause-idle c = idle_on_high c.new.result (c.new.ensures.empty 0)
