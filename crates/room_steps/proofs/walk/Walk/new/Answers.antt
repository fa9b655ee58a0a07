use Rattle.std.proofs.Common.{◌∙◌, ℕ, List, Option, ap, arith, sym, subst, Vec, Global}
use Rattle.std.specs.Option.{option_map}
use Rattle.edid_core.specs.declared.edid.Edid.{Edid}
use Rattle.room_script.specs.Script.{course_of}
use Rattle.room_net.specs.State.{first_net}
use Rattle.edid_core.specs.Root.{IsRoot}
use Rattle.room_steps.specs.Ready.{IsReady}
use Rattle.room_steps.proofs.Started.{has_address, ready_start, starts_at, stepper_at}
use Rattle.room_steps.proofs.walk.Walk.new.Goals as goal

pub invariant_of-result : goal.invariant_of-result
invariant_of-result c =
    let bytes : Option (List ℕ) = option_map (λ (v : Vec ℕ Global). v.items) c.args.topology.edid in
    let edid = c.in_ok-edid.edid.value in
    let root : IsRoot bytes edid = subst (λ (e : Option Edid). IsRoot bytes e) (sym c.in_ok-edid.ensures) c.in-Ok.ensures.read in
    let script = course_of c.args.script in
    let last = c.in_ok-last.ensures in
    let point = starts_at script.events c.in_ok-last.last (first_net c.args.topology.tree script.pulses) (last.0 ∙ ap (first_net c.args.topology.tree) c.deref.ensures.value) last.1 last.2 in (
      has_address bytes edid root,
      subst (IsReady script.end) (sym point) (ready_start c.args.topology.tree script c.requires.some (omega (arith, c.count-count.ensures.value, c.count-count.ensures.fits)) c.requires.script),
      tt,
      tt,
    )

pub returns : goal.returns
returns c =
    let bytes : Option (List ℕ) = option_map (λ (v : Vec ℕ Global). v.items) c.args.topology.edid in
    let edid = c.in_ok-edid.edid.value in
    let root : IsRoot bytes edid = subst (λ (e : Option Edid). IsRoot bytes e) (sym c.in_ok-edid.ensures) c.in-Ok.ensures.read in
    let script = course_of c.args.script in
    let last = c.in_ok-last.ensures in
    let point = starts_at script.events c.in_ok-last.last (first_net c.args.topology.tree script.pulses) (last.0 ∙ ap (first_net c.args.topology.tree) c.deref.ensures.value) last.1 last.2 in
    (edid, root, ap (stepper_at (record { form = c.args.form; edid = edid; events = script.events; end = script.end })) point)
