use Rattle.std.proofs.Common.{◌≡◌, ◌≤◌, ◌∙◌, ap, sym, subst, arith, Some, None, List, map}
use Rattle.line_wave.specs.declared.Stretch.{Stretch}
use Rattle.line_wave.specs.Pulls.{AreTimely}
use Rattle.line_wave.specs.Bounds.{latest_instant}
use Rattle.room_net.specs.State.{NetState, next_start}
use Rattle.room_net.specs.Step.{seat_of}
use Rattle.room_net.proofs.Soundness.{next-soon}
use Rattle.room_net.proofs.InRound.{is_next, some_wire}
use Rattle.room_net.proofs.underway.Net+EdgeWire.begin.Goals as goal

pub begin-requires-clause-early : goal.begin-requires-clause-early
begin-requires-clause-early c =
    let s : NetState = (record { tree = c.self.inside.tree; devices = c.self.inside.devices.items; pulses = c.self.inside.pulses; close = c.self.inside.close; rest = c.self.inside.rest; heard = None }) in
    let Early : NetState → Type 0 = λ t. t.close ≤ latest_instant in
    let next : next_start s ≡ Some c.in-Some.begin = ap next_start c.self.view_is ∙ sym c.in-Some.ensures in
    let soon = next-soon s c.in-Some.begin c.self.invariant.0 (subst Early (sym c.self.view_is) c.requires) next in
    omega arith

pub invariant_of-self : goal.invariant_of-self
invariant_of-self c =
    let s : NetState = (record { tree = c.self.inside.tree; devices = c.self.inside.devices.items; pulses = c.self.inside.pulses; close = c.self.inside.close; rest = c.self.inside.rest; heard = None }) in
    let Early : NetState → Type 0 = λ t. t.close ≤ latest_instant in
    let Timely : List Stretch → Type 0 = AreTimely in
    let next : next_start s ≡ Some c.in-Some.begin = ap next_start c.self.view_is ∙ sym c.in-Some.ensures in
    let e = c.begin.ensures in (
      c.self.invariant.0,
      some_wire s c.begin.new.self
          (is_next s c.in-Some.begin c.begin.new.self c.self.invariant.0 (subst Early (sym c.self.view_is) c.requires) (subst Timely c.as_slice-pulses.ensures.pulls c.as_slice-pulses.ensures.timely) next e.begun
          (e.seats ∙ c.deref-2.ensures.0 ∙ c.seats_of-seats.ensures ∙ ap (map (seat_of c.self.inside.rest c.in-Some.begin)) c.deref.ensures.0) e.begin e.time),
    )
