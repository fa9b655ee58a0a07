use Rattle.std.proofs.Common.{◌≡◌, List, length, Option, ap, sym, ◌∙◌}
use Rattle.std.specs.List.{list_any, refill}
use Rattle.line_reading.specs.declared.sender.Sender.{Sender}
use Rattle.line_wire.specs.Pulls.{pull_in}
use Rattle.line_wire.proofs.Begins.{heard_stand, lent_back}
use Rattle.line_wire.proofs.Kept.{kept_made, stand_in}
use Rattle.line_wire.proofs.edge_wire.EdgeWire.pass_on.Goals as goal

pub pull_at-self-requires-clause-places : goal.pull_at-self-requires-clause-places
pull_at-self-requires-clause-places c =
    let w = c.args.self.now in
    let lent = c.deref_mut.result.now in
    let news = c.hear_all.new.senders in
    stand_in w.places c.as_slice.result.now news (sym (c.as_slice.ensures.value ∙ lent_back c.args.reported w.time w.senders.items lent news c.deref_mut.ensures.value c.hear_all.ensures.heard))
    (heard_stand c.args.reported w.time w.places lent news c.hear_all.ensures.heard (stand_in w.places lent w.senders.items (sym c.deref_mut.ensures.value) c.requires.kept.places))

pub returns-then-hear_all-clause-kept : goal.returns-then-hear_all-clause-kept
returns-then-hear_all-clause-kept c =
    let w = c.args.self.now in
    let e = c.pull_at-self.ensures in
    let lent = c.deref_mut.result.now in
    let news = c.hear_all.new.senders in
    let back : refill (length c.args.self.now.senders.items) c.args.self.now.senders.items c.hear_all.new.senders ≡ c.hear_all.new.senders =
    lent_back c.args.reported w.time w.senders.items lent news c.deref_mut.ensures.value c.hear_all.ensures.heard in
    kept_made _ c.as_slice.result.now c.as_slice.ensures.value e.near e.low
    (stand_in w.places _ news (sym back)
    (heard_stand c.args.reported w.time w.places lent news c.hear_all.ensures.heard (stand_in w.places lent w.senders.items (sym c.deref_mut.ensures.value) c.requires.kept.places)))

pub returns-else-hear_all-clause-kept : goal.returns-else-hear_all-clause-kept
returns-else-hear_all-clause-kept c =
    let w = c.args.self.now in
    let lent = c.deref_mut.result.now in
    let news = c.hear_all.new.senders in
    let back : refill (length c.args.self.now.senders.items) c.args.self.now.senders.items c.hear_all.new.senders ≡ c.hear_all.new.senders =
    lent_back c.args.reported w.time w.senders.items lent news c.deref_mut.ensures.value c.hear_all.ensures.heard in
    record {
      low = λ u a b. ap (λ (os : List (Option Sender)). list_any (pull_in u) os) back ∙ c.hear_all.ensures.kept c.if-hear_all.false u
          ∙ ap (λ (os : List (Option Sender)). list_any (pull_in u) os) c.deref_mut.ensures.value ∙ c.requires.kept.low u a b;
      near = c.requires.kept.near;
      places = stand_in w.places _ news (sym back)
          (heard_stand c.args.reported w.time w.places lent news c.hear_all.ensures.heard (stand_in w.places lent w.senders.items (sym c.deref_mut.ensures.value) c.requires.kept.places));
    }
