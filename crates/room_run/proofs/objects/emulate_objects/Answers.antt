use Rattle.std.proofs.Common.{rules, ◌≡◌, Ok, option_map}
use Rattle.room_script.specs.Topology.{topology_of, plan_of}
use Rattle.room_script.specs.Script.{IsScriptRead, course_of}
use Rattle.room_run.proofs.Accepted.{early, ends_early, has_device, one_text_of_objects}
use Rattle.room_run.proofs.HasRun.{texts_have_objects}
use Rattle.room_run.proofs.objects.emulate_objects.Goals as goal

pub started_net-requires-clause-some : goal.started_net-requires-clause-some
started_net-requires-clause-some g c =
    let plan : topology_of c.args.topology.now ≡ Ok (plan_of c.in_ok-plan.plan) = search rules in
    has_device c.args.topology.now (plan_of c.in_ok-plan.plan) plan

pub started_net-requires-clause-early : goal.started_net-requires-clause-early
started_net-requires-clause-early g c = early c.in_ok-course.course.pulses.items c.in_ok-course.ensures.script.early

pub started_net-requires-clause-ends : goal.started_net-requires-clause-ends
started_net-requires-clause-ends g c = ends_early c.in_ok-course.course.pulses.items c.in_ok-course.ensures.script.early c.in_ok-course.ensures.script.wide

pub returns-clause-cut : goal.returns-clause-cut
returns-clause-cut g c =
    let plan : topology_of c.args.topology.now ≡ Ok (plan_of c.in_ok-plan.plan) = search rules in
    let course : IsScriptRead c.in_ok-plan.plan.tree c.args.script.now (Ok (course_of c.in_ok-course.course)) = c.in_ok-course.ensures.gives in
    let due = texts_have_objects c.args.with_room c.args.topology.now c.args.script.now (plan_of c.in_ok-plan.plan) (course_of c.in_ok-course.course) (option_map (λ b. b.value) c.in_ok-edid.edid)
    (record { plan_is = plan; course_is = course }) c.in_ok-edid.ensures.read in
    let front = c.in-Err.ensures.cut due.0 due.1 (rw (c.deref_mut.ensures.value, c.in-Ok-started_net.ensures, c.deref-2.ensures.value, c.deref.ensures, c.in-Ok.ensures)
    (one_text_of_objects c.args.with_room c.args.topology.now c.args.script.now due.0 due.1 (plan_of c.in_ok-plan.plan) (course_of c.in_ok-course.course) (option_map (λ b. b.value) c.in_ok-edid.edid) plan course c.in_ok-edid.ensures.read due.2)) in
    (due.0, due.1, due.2, front.0, front.1, front.2, front.3)
