use Rattle.std.proofs.Common.{rules, ◌≡◌, Ok, arith, option_map}
use Rattle.room_script.specs.Topology.{topology_of, plan_of}
use Rattle.room_script.specs.Script.{IsScriptRead, course_of}
use Rattle.room_net.specs.State.{first_net}
use Rattle.room_run.specs.Run.{start}
use Rattle.room_driven.specs.Named.{IsDump}
use Rattle.room_run.proofs.Accepted.{early, ends_early, has_device}
use Rattle.room_net.proofs.Kept.{started_count}
use Rattle.room_driven.proofs.HasDump.{dump_of_texts, runs_have_dumps}
use Rattle.room_driven.proofs.emulate.emulate_drives.Goals as goal

pub on_heap-requires-clause-some : goal.on_heap-requires-clause-some
on_heap-requires-clause-some g c =
    let plan : topology_of c.args.topology.now ≡ Ok (plan_of c.in_ok-topology.topology) = search rules in
    has_device c.args.topology.now (plan_of c.in_ok-topology.topology) plan

pub on_heap-requires-clause-early : goal.on_heap-requires-clause-early
on_heap-requires-clause-early g c = rw c.deref.ensures.value (early c.in_ok-script.script.pulses.items c.in_ok-script.ensures.script.early)

pub on_heap-requires-clause-ends : goal.on_heap-requires-clause-ends
on_heap-requires-clause-ends g c = rw c.deref.ensures.value (ends_early c.in_ok-script.script.pulses.items c.in_ok-script.ensures.script.early c.in_ok-script.ensures.script.wide)

pub run-requires-clause-few : goal.run-requires-clause-few
run-requires-clause-few g c = rw (c.deref_mut.ensures.value, c.in-Ok.ensures) (omega (arith, started_count c.in_ok-topology.topology.tree c.in_ok-script.script.pulses.items, c.count-count.ensures.value, c.count-count.ensures.fits))

pub returns-clause-cut : goal.returns-clause-cut
returns-clause-cut g c =
    let plan : topology_of c.args.topology.now ≡ Ok (plan_of c.in_ok-topology.topology) = search rules in
    let course : IsScriptRead c.in_ok-topology.topology.tree c.args.script.now (Ok (course_of c.in_ok-script.script)) = c.in_ok-script.ensures.gives in
    let due = runs_have_dumps c.args.wires c.in_ok-topology.topology.tree (course_of c.in_ok-script.script).pulses (course_of c.in_ok-script.script).events (course_of c.in_ok-script.script).end c.in_ok-script.ensures.script.timely.order in
    let front = c.in-Err.ensures.0 due.0 due.1 (rw (c.deref_mut.ensures.value, c.in-Ok.ensures, c.deref-2.ensures.value, c.deref.ensures.value) due.2) in (
      due.0,
      due.1,
      dump_of_texts c.args.wires c.args.topology.now c.args.script.now due.0 due.1 (plan_of c.in_ok-topology.topology) (course_of c.in_ok-script.script) (option_map (λ b. b.value) c.in_ok-_edid._edid)
          (record { plan_is = plan; course_is = course }) c.in_ok-_edid.ensures.read due.2,
      front.0,
      front.1,
      front.2,
      front.3,
    )

pub returns-in-Ok-run-clause-ok : goal.returns-in-Ok-run-clause-ok
returns-in-Ok-run-clause-ok g c =
    let plan : topology_of c.args.topology.now ≡ Ok (plan_of c.in_ok-topology.topology) = search rules in
    let course : IsScriptRead c.in_ok-topology.topology.tree c.args.script.now (Ok (course_of c.in_ok-script.script)) = c.in_ok-script.ensures.gives in
    let ran = c.in-Ok-run.ensures in
    let dump : IsDump c.args.wires (course_of c.in_ok-script.script).end (start (first_net c.in_ok-topology.topology.tree (course_of c.in_ok-script.script).pulses) (course_of c.in_ok-script.script).events) ran.0 c.in-Ok-run.totals =
    rw (← c.deref.ensures.value, ← c.deref-2.ensures.value, ← c.in-Ok.ensures, ← c.deref_mut.ensures.value) ran.1 in (
      ran.0,
      dump_of_texts c.args.wires c.args.topology.now c.args.script.now ran.0 c.in-Ok-run.totals (plan_of c.in_ok-topology.topology) (course_of c.in_ok-script.script) (option_map (λ b. b.value) c.in_ok-_edid._edid)
          (record { plan_is = plan; course_is = course }) c.in_ok-_edid.ensures.read dump,
      ran.2,
    )
