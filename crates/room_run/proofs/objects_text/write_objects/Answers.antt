use Rattle.std.proofs.Common.{rules, ◌≡◌, ◌∙◌, ◌++◌, false, List, Option, ap, subst}
use Rattle.std.specs.List.{flat_map}
use Rattle.text_core.specs.Adds.{Adds}
use Rattle.edid_core.specs.declared.edid.Edid.{Edid}
use Rattle.edid_tree.specs.Node.{Node}
use Rattle.device_core.specs.State.{State}
use Rattle.room_net.specs.State.{NetState}
use Rattle.record_core.specs.declared.cell.Form.TheVariants.{Json}
use Rattle.room_trace.specs.PortText.{port_texts}
use Rattle.room_trace.specs.Records.{end_text, state_text}
use Rattle.room_trace.specs.Room.{Room, heads_in}
use Rattle.text_core.proofs.Adding.{then}
use Rattle.room_run.specs.declared.run.Reporting.TheVariants.{Objects}
use Rattle.room_run.specs.Run.{start, start_reported, end_reported, IsRunText}
use Rattle.room_run.specs.Happening.{given, objects_of}
use Rattle.room_run.proofs.Whole.{heard_text, run_ended, run_told, objects_by}
use Rattle.room_run.proofs.objects_text.write_objects.Goals as goal

pub returns : goal.returns
returns g c =
    let edid = c.args.edid.now in
    let room = c.args.room.now in
    let from = start c.args.net.now c.args.events.now in
    let run = c.run_turns-totals.ensures in
    let before : Adds c.new-text.result c.add_new_ports.new.out (start_reported (Objects edid room) c.args.net.now) =
    subst (λ (tree : List Node). Adds c.new-text.result c.add_new_ports.new.out (heads_in room ++ port_texts Json 0 edid (λ device. false) tree)) c.tree.ensures
    (then _ _ _ _ _ c.add_room.ensures c.add_new_ports.ensures) in
    let heard : Adds c.add_new_ports.new.out c.run_turns-totals.new.reporter.text (flat_map (objects_of edid room) run.happened) =
    subst (λ (r : Option Room). Adds c.add_new_ports.new.out c.run_turns-totals.new.reporter.text (flat_map (objects_of edid r) run.happened)) c.room_again.ensures
    (heard_text (λ r. r.text) (λ r. given r.passed.edid.now r.room) (λ (k : Option Edid × Option Room). objects_of k.0 k.1) run.happened _ _ run.heard) in
    let devices : c.devices.result.now ≡ run.last.net.devices = c.devices.ensures ∙ ap (λ (s : NetState). s.devices) run.net_is in
    let after : Adds c.run_turns-totals.new.reporter.text c.add_last_lines.new.out (end_reported (Objects edid room) c.args.end run.last.net) =
    subst (λ (ds : List State). Adds c.run_turns-totals.new.reporter.text c.add_last_lines.new.out (flat_map (state_text Json) ds ++ end_text Json c.args.end)) devices c.add_last_lines.ensures in
    let told = run_told (Objects edid room) (objects_of edid room) (objects_by edid room) c.args.end from run.last run.happened c.run_turns-totals.result _ run.whole run.goes run.totals_is in
    run_ended g.S.Sink.contents g.S.Sink.is_stuck c.args.out.now _ c.into_sink-below.result.now _ c.into_sink-below.result.ghost_name
    (IsRunText (Objects edid room) c.args.end from) (start_reported (Objects edid room) c.args.net.now) (flat_map (objects_of edid room) run.happened) (end_reported (Objects edid room) c.args.end run.last.net) c.run_turns-totals.result
    c.new-text.result c.add_new_ports.new.out c.run_turns-totals.new.reporter.text c.add_last_lines.new.out c.written-written.result c.told.result
    c.new-text.ensures told before heard after c.written-written.ensures.failed c.written-written.ensures.text c.told.ensures
    c.into_sink-below.ensures.loan c.into_sink-below.ensures.known c.into_sink-below.ensures.stuck (search rules)
