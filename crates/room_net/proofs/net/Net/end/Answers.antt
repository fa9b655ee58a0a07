use Rattle.std.proofs.Common.{◌≡◌, ◌≤◌, ◌∙◌, ap, sym, subst, refl, Option, Some, None, List, length}
use Rattle.std.specs.List.{refill}
use Rattle.std.specs.Option.{option_map}
use Rattle.line_wave.specs.declared.Stretch.{Stretch}
use Rattle.line_wave.specs.Line.{IsWave}
use Rattle.line_wave.specs.Bounds.{latest_instant}
use Rattle.line_wire.specs.declared.edge_wire.EdgeWire.{EdgeWire}
use Rattle.line_rounds.specs.Round.{IsRound}
use Rattle.room_net.specs.State.{NetState, next_start}
use Rattle.room_net.specs.Step.{devices_after, seats_of}
use Rattle.room_net.specs.Underway.{IsUnderway}
use Rattle.room_net.proofs.Soundness.{sound-after}
use Rattle.room_net.specs.Progress.{IsProgress}
use Rattle.room_net.proofs.Progress.{progress-after}
use Rattle.room_net.proofs.InRound.{no_wire, sound_so}
use Rattle.room_net.proofs.net.Net.end.Goals as goal

pub invariant_of-self : goal.invariant_of-self
invariant_of-self g c =
    let s : NetState = (record { tree = c.self.inside.tree; devices = c.self.inside.devices.items; pulses = c.self.inside.pulses; close = c.self.inside.close; rest = c.self.inside.rest; heard = None }) in
    let Wave : List Stretch → Type 0 = IsWave in
    let Early : NetState → Type 0 = λ t. t.close ≤ latest_instant in
    let Begins : NetState → Type 0 = λ t. next_start t ≡ Some c.args.begin in
    let Rounds : NetState → Type 0 = λ t. IsRound (seats_of t c.args.begin) c.args.begin t.pulses c.args.outcome.now in
    let now : NetState = (record { tree = c.self.inside.tree; devices = refill (length c.self.inside.devices.items) c.self.inside.devices.items c.end_round.new.devices; pulses = c.drop_until.new.self; close = c.close-self-inside.result; rest = c.args.outcome.now.rest; heard = None }) in
    let Under : Option EdgeWire → Type 0 = IsUnderway now in (
      sound-after s (seats_of s c.args.begin) c.args.begin c.args.outcome.now c.end_round.new.devices c.drop_until.new.self c.as_slice-pulses.result.now c.close-self-inside.result
          c.self.invariant.0 (subst Early (sym c.self.view_is) c.requires.early) (subst Begins (sym c.self.view_is) c.requires.begins) c.as_slice-pulses.ensures.timely.order c.as_slice-pulses.ensures.pulls (subst Wave c.as_slice-stretches.ensures.stretches c.as_slice-stretches.ensures.wave) refl
          (subst Rounds (sym c.self.view_is) c.requires.round)
          (c.end_round.ensures ∙ ap (devices_after c.self.inside.rest c.args.begin c.args.outcome.now) c.deref_mut.ensures.value) c.drop_until.ensures c.close-self-inside.ensures,
      subst Under (sym c.give_up.ensures) (no_wire now),
    )

pub returns-clause-progress : goal.returns-clause-progress
returns-clause-progress g c =
    let s : NetState = (record { tree = c.self.inside.tree; devices = c.self.inside.devices.items; pulses = c.self.inside.pulses; close = c.self.inside.close; rest = c.self.inside.rest; heard = option_map (λ (w : EdgeWire). w.time) c.self.inside.begun }) in
    let Wave : List Stretch → Type 0 = IsWave in
    let Begins : NetState → Type 0 = λ t. next_start t ≡ Some c.args.begin in
    let Rounds : NetState → Type 0 = λ t. IsRound (seats_of t c.args.begin) c.args.begin t.pulses c.args.outcome.now in
    let Goes : Option EdgeWire → Type 0 = λ begun. IsProgress c.args.self.now c.args.begin (record { tree = c.self.inside.tree; devices = refill (length c.self.inside.devices.items) c.self.inside.devices.items c.end_round.new.devices; pulses = c.drop_until.new.self; close = c.close-self-inside.result; rest = c.args.outcome.now.rest; heard = option_map (λ (w : EdgeWire). w.time) begun }) in
    subst Goes (sym c.give_up.ensures) (
    progress-after s c.args.self.now (seats_of s c.args.begin) c.args.begin c.args.outcome.now c.end_round.new.devices c.drop_until.new.self c.as_slice-pulses.result.now c.close-self-inside.result
    (sound_so s c.self.invariant.0) c.self.view_is (subst Begins (sym c.self.view_is) c.requires.begins) c.as_slice-pulses.ensures.timely.order c.as_slice-pulses.ensures.pulls
    (subst Wave c.as_slice-stretches.ensures.stretches c.as_slice-stretches.ensures.wave) refl (subst Rounds (sym c.self.view_is) c.requires.round)
    (c.end_round.ensures ∙ ap (devices_after c.self.inside.rest c.args.begin c.args.outcome.now) c.deref_mut.ensures.value) c.drop_until.ensures c.close-self-inside.ensures)

pub returns-clause-once : goal.returns-clause-once
returns-clause-once g c =
    let s : NetState = (record { tree = c.self.inside.tree; devices = c.self.inside.devices.items; pulses = c.self.inside.pulses; close = c.self.inside.close; rest = c.self.inside.rest; heard = None }) in
    let Wave : List Stretch → Type 0 = IsWave in
    let Early : NetState → Type 0 = λ t. t.close ≤ latest_instant in
    let Begins : NetState → Type 0 = λ t. next_start t ≡ Some c.args.begin in
    let Rounds : NetState → Type 0 = λ t. IsRound (seats_of t c.args.begin) c.args.begin t.pulses c.args.outcome.now in
    (sound-after s (seats_of s c.args.begin) c.args.begin c.args.outcome.now c.end_round.new.devices c.drop_until.new.self c.as_slice-pulses.result.now c.close-self-inside.result
    c.self.invariant.0 (subst Early (sym c.self.view_is) c.requires.early) (subst Begins (sym c.self.view_is) c.requires.begins) c.as_slice-pulses.ensures.timely.order c.as_slice-pulses.ensures.pulls (subst Wave c.as_slice-stretches.ensures.stretches c.as_slice-stretches.ensures.wave) refl
    (subst Rounds (sym c.self.view_is) c.requires.round)
    (c.end_round.ensures ∙ ap (devices_after c.self.inside.rest c.args.begin c.args.outcome.now) c.deref_mut.ensures.value) c.drop_until.ensures c.close-self-inside.ensures).orderly.once
