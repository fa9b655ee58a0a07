use Rattle.std.proofs.Common.{List, refl, sym, subst, ◌∙◌}
use Rattle.line_rounds.specs.declared.Seat.{Seat}
use Rattle.line_wire.specs.Listening.{AreBegun}
use Rattle.line_wire.proofs.Fresh.{begins_fresh}
use Rattle.line_wire.proofs.Idling.{idle_on_high}
use Rattle.line_wire.proofs.Kept.{kept_made, stand_in}
use Rattle.line_wire.proofs.edge_wire.EdgeWire.clear.Goals as goal

pub pull_at-self-requires-clause-places : goal.pull_at-self-requires-clause-places
pull_at-self-requires-clause-places c = stand_in c.places_of-self.result c.as_slice-3.result.now c.as_slice-2.result.now (c.as_slice-2.ensures.value ∙ sym c.as_slice-3.ensures.value) c.places_of-self.ensures

pub returns-clause-begun : goal.returns-clause-begun
returns-clause-begun c =
    let e = c.pull_at-self.ensures in
    let r = c.new-self.ensures in
    begins_fresh _ c.requires.early refl c.requires.sent refl refl
    (kept_made _ c.as_slice-3.result.now c.as_slice-3.ensures.value e.near e.low (stand_in c.places_of-self.result c.senders_of-self.result.items c.as_slice-2.result.now c.as_slice-2.ensures.value c.places_of-self.ensures))
    (record {
      heard = r.rests.0;
      level = (r.rests.1, r.rests.2);
      senders = subst (λ (ss : List Seat). AreBegun ss c.args.start c.senders_of-self.result.items) c.as_slice.ensures.value c.senders_of-self.ensures;
      bits = c.clear.ensures;
      ended = refl;
      held = refl;
      wave = (c.clear-2.ensures.wave, c.clear-2.ensures.high);
      silent = r.empty c.args.start;
    })

pub returns-clause-idle : goal.returns-clause-idle
returns-clause-idle c = idle_on_high c.new-self.result (c.new-self.ensures.empty 0)
