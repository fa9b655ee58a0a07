use Rattle.std.proofs.Common.{◌<◌, length, take, ap, sym, subst, None, List, Option}
use Rattle.std.specs.Option.{option_map}
use Rattle.line_wave.specs.declared.Stretch.{Stretch}
use Rattle.line_wire.specs.declared.edge_wire.EdgeWire.{EdgeWire}
use Rattle.line_wave.specs.Line.{IsWave}
use Rattle.line_reading.specs.Follows.{standing_by_code}
use Rattle.room_net.specs.State.{NetState}
use Rattle.room_net.proofs.InRound.{seat_known, shows_before, shows_after, stand_reported}
use Rattle.room_net.proofs.underway.Net+EdgeWire.standing_of.Goals as goal

pub receiver_of-requires : goal.receiver_of-requires
receiver_of-requires c =
    let s : NetState = (record { tree = c.self.inside.tree; devices = c.self.inside.devices.items; pulses = c.self.inside.pulses; close = c.self.inside.close; rest = c.self.inside.rest; heard = None }) in
    let Known : NetState → Type 0 = λ t. c.args.number < length t.tree in
    record { known = seat_known s c.in-Some.wire c.args.number c.self.invariant.0 (c.self.invariant.1 c.in-Some.wire c.in-Some.is) (subst Known (sym c.self.view_is) c.requires.known) }

pub returns : goal.returns
returns c =
    let s : NetState = (record { tree = c.self.inside.tree; devices = c.self.inside.devices.items; pulses = c.self.inside.pulses; close = c.self.inside.close; rest = c.self.inside.rest; heard = option_map (λ (w : EdgeWire). w.time) c.self.inside.begun }) in
    let w = c.in-Some.wire in
    let past = take w.begun s.pulses in
    let Wave : List Stretch → Type 0 = IsWave in
    let next = c.self.invariant.1 w c.in-Some.is in
    let receiver = c.receiver_of.ensures.stands past next.takes.stands in
    stand_reported s c.args.self.now w (standing_by_code c.standing.result) c.self.view_is (ap (λ (o : Option EdgeWire). option_map (λ (x : EdgeWire). x.time) o) c.in-Some.is) (subst Wave c.as_slice-pulses.ensures.pulls c.as_slice-pulses.ensures.timely.order)
    next (shows_before past w c.receiver_of.result.now (standing_by_code c.standing.result) receiver c.standing.ensures) (shows_after past w c.receiver_of.result.now (standing_by_code c.standing.result) receiver c.standing.ensures)
