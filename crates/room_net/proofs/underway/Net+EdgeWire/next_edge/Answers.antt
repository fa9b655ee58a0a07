use Rattle.std.proofs.Common.{ap, sym, subst, Some, None, List, Option}
use Rattle.std.specs.Option.{option_map}
use Rattle.line_wave.specs.declared.Stretch.{Stretch}
use Rattle.line_wire.specs.declared.edge_wire.EdgeWire.{EdgeWire}
use Rattle.line_rounds.specs.Round.{IsRoundLine}
use Rattle.room_net.specs.State.{NetState}
use Rattle.room_net.specs.Underway.{Takes}
use Rattle.room_net.proofs.InRound.{edge_reported, next_on, some_wire}
use Rattle.room_net.proofs.underway.Net+EdgeWire.next_edge.Goals as goal

pub next_edge_of-requires : goal.next_edge_of-requires
next_edge_of-requires c =
    let h = c.self.invariant.1 c.in-Some.wire c.in-Some.is in record { takes = subst (λ (ps : List Stretch). Takes ps c.in-Some.wire) (sym c.as_slice.ensures.pulls) h.takes }

pub invariant_of-self : goal.invariant_of-self
invariant_of-self c =
    let s : NetState = (record { tree = c.self.inside.tree; devices = c.self.inside.devices.items; pulses = c.self.inside.pulses; close = c.self.inside.close; rest = c.self.inside.rest; heard = None }) in
    let h = c.self.invariant.1 c.in-Some.wire c.in-Some.is in
    let v = c.next_edge_of.new.wire in (
      c.self.invariant.0,
      some_wire s v (next_on s c.in-Some.wire v h c.next_edge_of.ensures.round (subst (λ (ps : List Stretch). Takes ps v) c.as_slice.ensures.pulls c.next_edge_of.ensures.takes)),
    )

pub returns-clause-edge : goal.returns-clause-edge
returns-clause-edge c =
    let s : NetState = (record { tree = c.self.inside.tree; devices = c.self.inside.devices.items; pulses = c.self.inside.pulses; close = c.self.inside.close; rest = c.self.inside.rest; heard = option_map (λ (w : EdgeWire). w.time) c.self.inside.begun }) in
    let w = c.in-Some.wire in
    edge_reported s c.args.self.now w c.next_edge_of.result c.self.view_is (ap (λ (o : Option EdgeWire). option_map (λ (x : EdgeWire). x.time) o) c.in-Some.is)
    (c.self.invariant.1 w c.in-Some.is)
    (λ low line. c.next_edge_of.ensures.edge low (subst (λ (ps : List Stretch). IsRoundLine w.seats.items w.begin ps low) (sym c.as_slice.ensures.pulls) line))

pub returns-clause-state : goal.returns-clause-state
returns-clause-state c =
    let v = c.next_edge_of.new.wire in (v.time, ap (λ (t : NetState). record t { heard = Some v.time }) c.self.view_is, c.next_edge_of.ensures.at)
