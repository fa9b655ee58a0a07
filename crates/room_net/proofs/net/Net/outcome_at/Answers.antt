use Rattle.std.proofs.Common.{◌≡◌, ◌≤◌, ◌∙◌, ap, sym, subst, arith, true, Some, None, List, map}
use Rattle.std.specs.Option.{option_map}
use Rattle.line_wire.specs.declared.edge_wire.EdgeWire.{EdgeWire}
use Rattle.line_rounds.specs.declared.Seat.{Seat}
use Rattle.line_rounds.specs.Lasting.{is_begun}
use Rattle.room_net.specs.State.{NetState, next_start}
use Rattle.room_net.specs.Step.{after_round, seat_of, seats_of}
use Rattle.room_net.specs.Progress.{IsProgress}
use Rattle.line_wave.specs.declared.Stretch.{Stretch}
use Rattle.line_wave.specs.Line.{IsWave}
use Rattle.line_wave.specs.Bounds.{latest_instant}
use Rattle.line_rounds.specs.Round.{IsRound}
use Rattle.room_net.proofs.Soundness.{next-soon}
use Rattle.room_net.proofs.InRound.{sound_so}
use Rattle.room_net.proofs.Lines.{begun}
use Rattle.room_net.proofs.Progress.{progress}
use Rattle.room_net.proofs.net.Net.outcome_at.Goals as goal

pub round-outcome-requires-clause-early : goal.round-outcome-requires-clause-early
round-outcome-requires-clause-early g c =
    let s : NetState = (record { tree = c.self.inside.tree; devices = c.self.inside.devices.items; pulses = c.self.inside.pulses; close = c.self.inside.close; rest = c.self.inside.rest; heard = None }) in
    let Early : NetState → Type 0 = λ t. t.close ≤ latest_instant in
    let Begins : NetState → Type 0 = λ t. next_start t ≡ Some c.args.begin in
    let soon = next-soon s c.args.begin c.self.invariant.0 (subst Early (sym c.self.view_is) c.requires.early) (subst Begins (sym c.self.view_is) c.requires.begins) in
    omega arith

pub round-outcome-requires-clause-begun : goal.round-outcome-requires-clause-begun
round-outcome-requires-clause-begun g c =
    let s : NetState = (record { tree = c.self.inside.tree; devices = c.self.inside.devices.items; pulses = c.self.inside.pulses; close = c.self.inside.close; rest = c.self.inside.rest; heard = None }) in
    let Begun : List Seat → Type 0 = λ ss. is_begun ss c.args.begin s.pulses ≡ true in
    let Begins : NetState → Type 0 = λ t. next_start t ≡ Some c.args.begin in
    let seats : c.deref-2.result.now ≡ seats_of s c.args.begin =
    c.deref-2.ensures.0 ∙ c.seats_of-seats.ensures ∙ ap (map (seat_of c.self.inside.rest c.args.begin)) c.deref.ensures.0 in
    subst Begun (sym seats) (begun s c.args.begin (subst Begins (sym c.self.view_is) c.requires.begins))

pub returns-clause-progress : goal.returns-clause-progress
returns-clause-progress g c =
    let s : NetState = (record { tree = c.self.inside.tree; devices = c.self.inside.devices.items; pulses = c.self.inside.pulses; close = c.self.inside.close; rest = c.self.inside.rest; heard = option_map (λ (w : EdgeWire). w.time) c.self.inside.begun }) in
    let o = c.round-outcome.result in
    let Wave : List Stretch → Type 0 = IsWave in
    let Begins : NetState → Type 0 = λ t. next_start t ≡ Some c.args.begin in
    let Rounds : List Seat → Type 0 = λ ss. IsRound ss c.args.begin s.pulses o in
    let Goes : NetState → Type 0 = λ t. IsProgress t c.args.begin (after_round t c.args.begin o) in
    let seats : c.deref-2.result.now ≡ seats_of s c.args.begin =
    c.deref-2.ensures.0 ∙ c.seats_of-seats.ensures ∙ ap (map (seat_of c.self.inside.rest c.args.begin)) c.deref.ensures.0 in
    subst Goes c.self.view_is (
    progress s c.args.begin o (subst Wave c.as_slice-pulses.ensures.pulls c.as_slice-pulses.ensures.timely.order) (sound_so s c.self.invariant.0).ends (sound_so s c.self.invariant.0).later (subst Begins (sym c.self.view_is) c.requires.begins)
    (subst Wave c.as_slice-stretches.ensures.stretches c.as_slice-stretches.ensures.wave) (subst Rounds seats c.round-outcome.ensures))
