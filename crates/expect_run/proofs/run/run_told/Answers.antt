use Rattle.std.proofs.Common.{◌≡◌, ◌∙◌, List, Ok, option_map, refl, rules, ap}
use Rattle.line_wave.specs.declared.Stretch.{Stretch}
use Rattle.room_net.specs.State.{first_net}
use Rattle.room_script.specs.Topology.{topology_of, plan_of}
use Rattle.room_script.specs.Script.{course_of}
use Rattle.room_run.proofs.Accepted.{early, ends_early, has_device}
use Rattle.expect_run.proofs.Running.{heard_of}
use Rattle.expect_run.proofs.run.run_told.Goals as goal

pub on_heap-requires-clause-some : goal.on_heap-requires-clause-some
on_heap-requires-clause-some g c =
    let plan : topology_of c.args.topology.now ≡ Ok (plan_of c.in_ok-topology.topology) = search rules in
    has_device c.args.topology.now (plan_of c.in_ok-topology.topology) plan

pub on_heap-requires-clause-early : goal.on_heap-requires-clause-early
on_heap-requires-clause-early g c = rw c.deref.ensures.value (early c.in_ok-script.script.pulses.items c.in_ok-script.ensures.script.early)

pub on_heap-requires-clause-ends : goal.on_heap-requires-clause-ends
on_heap-requires-clause-ends g c = rw c.deref.ensures.value (ends_early c.in_ok-script.script.pulses.items c.in_ok-script.ensures.script.early c.in_ok-script.ensures.script.wide)

pub returns-clause-ok : goal.returns-clause-ok
returns-clause-ok g c =
    let plan : topology_of c.args.topology.now ≡ Ok (plan_of c.in_ok-topology.topology) = search rules in
    heard_of g.R.Reporter.hears c.args.topology.now (g.T.ScriptSource.text c.args.script.now) c.args.reporter.now _ _ (plan_of c.in_ok-topology.topology) (course_of c.in_ok-script.script) (option_map (λ b. b.value) c.in_ok-_edid._edid) c.run_turns-totals.result
    c.deref_mut.result.now _ c.run_turns-totals.new.net c.deref-2.result.now plan c.in_ok-script.ensures.gives c.in_ok-_edid.ensures.read (c.deref_mut.ensures.value ∙ c.in-Ok.ensures ∙ ap (λ (ps : List Stretch). first_net c.in_ok-topology.topology.tree ps) c.deref.ensures.value) c.deref-2.ensures.value refl c.run_turns-totals.ensures

pub returns-clause-traced : goal.returns-clause-traced
returns-clause-traced g c =
    let plan : topology_of c.args.topology.now ≡ Ok (plan_of c.in_ok-topology.topology) = search rules in
    (c.texts_have_traces.ensures c.args.topology.now (g.T.ScriptSource.text c.args.script.now) (plan_of c.in_ok-topology.topology) (course_of c.in_ok-script.script) (option_map (λ b. b.value) c.in_ok-_edid._edid)
    (record { plan_is = plan; course_is = c.in_ok-script.ensures.gives }) c.in_ok-_edid.ensures.read).0
