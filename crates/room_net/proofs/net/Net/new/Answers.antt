use Rattle.std.proofs.Common.{◌≡◌, ap, sym, subst, ◌∙◌, ◌≤◌, List, None, length}
use Rattle.std.specs.List.{All, refill}
use Rattle.line_wave.specs.declared.Stretch.{Stretch}
use Rattle.line_wave.specs.Bounds.{latest_instant}
use Rattle.room_net.specs.State.{each_from, moved_by}
use Rattle.room_net.specs.Sound.{IsSound}
use Rattle.room_net.proofs.InRound.{no_wire}
use Rattle.room_net.proofs.Soundness.{sound-new, sparse-early}
use Rattle.room_net.proofs.Told.{early_timely}
use Rattle.room_net.proofs.net.Net.new.Goals as goal

pub become_those-requires : goal.become_those-requires
become_those-requires g c =
    let Early : List Stretch → Type 0 = All (λ (p : Stretch). p.from ≤ latest_instant) in
    early_timely c.as_slice.result.now c.as_slice.ensures.sparse (subst Early (sym c.as_slice.ensures.pulses) c.requires.early)

pub invariant_of-result : goal.invariant_of-result
invariant_of-result g c =
    let Early : List Stretch → Type 0 = All (λ (p : Stretch). p.from ≤ latest_instant) in
    let moved : c.rewire.new.devices ≡ each_from 0 (moved_by 0 c.args.tree) c.loose-devices.result.items =
    c.rewire.ensures ∙ ap (each_from 0 (moved_by 0 c.args.tree)) c.deref_mut.ensures.value in
    let Sound : List Stretch → Type 0 = λ ps. IsSound (record { tree = c.args.tree; devices = refill (length c.loose-devices.result.items) c.loose-devices.result.items c.rewire.new.devices; pulses = ps; close = 0; rest = 0; heard = None }) in (
      subst Sound (sym c.become_those.ensures) (sound-new c.args.tree c.as_slice.result.now c.loose-devices.result.items c.rewire.new.devices c.loose-devices.ensures.few (subst Early (sym c.as_slice.ensures.pulses) c.requires.early)
          (sparse-early c.as_slice.result.now c.as_slice.ensures.sparse) c.loose-devices.ensures.devices moved),
      no_wire _,
    )
