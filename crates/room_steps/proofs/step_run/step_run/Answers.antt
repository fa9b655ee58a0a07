use Rattle.std.proofs.Common.{rules, ◌≡◌, Ok, ap, List, All, sym, subst}
use Rattle.room_script.specs.Topology.{topology_of, plan_of}
use Rattle.room_script.specs.Script.{course_of}
use Rattle.room_run.proofs.Accepted.{has_device}
use Rattle.room_steps.specs.Steps.{device_count}
use Rattle.room_steps.specs.StepRun.{AreCut, NamesDevice}
use Rattle.room_step_text.specs.declared.commands.StepCommand.{StepCommand}
use Rattle.room_steps.proofs.Due.{commands_name_devices}
use Rattle.room_steps.proofs.step_run.step_run.Goals as goal

pub in_form-requires-clause-some : goal.in_form-requires-clause-some
in_form-requires-clause-some g c =
    let plan : topology_of c.args.topology.now ≡ Ok (plan_of c.in-Ok.topology) = search rules in
    has_device c.args.topology.now (plan_of c.in-Ok.topology) plan

pub take_commands-requires : goal.take_commands-requires
take_commands-requires g c =
    let commands = c.in-Ok-parse_commands.commands.items in
    let tree = c.in-Ok.topology.tree in
    let stepper = c.in-Ok-in_form.stepper in
    let named = commands_name_devices tree c.args.steps.now commands c.in-Ok-parse_commands.ensures.ok in
    let counted = subst (λ count. All (NamesDevice count) commands) (sym (ap device_count c.in-Ok-in_form.ensures.2)) named in
    subst (λ (xs : List StepCommand). All (NamesDevice (device_count stepper)) xs) (sym c.deref.ensures.value) counted

pub returns-clause-cut : goal.returns-clause-cut
returns-clause-cut g c =
    let commands = c.in-Ok-parse_commands.commands.items in
    let stepper = c.in-Ok-in_form.stepper in
    let plan : topology_of c.args.topology.now ≡ Ok (plan_of c.in-Ok.topology) = search rules in
    let old = g.S.Sink.contents c.args.out.now in
    let new = g.S.Sink.contents c.take_commands.new.out in (
      commands,
      stepper,
      record {
        plan = plan_of c.in-Ok.topology;
        course = course_of c.in-Ok-parse_script.script;
        edid = c.in-Ok-in_form.ensures.0;
        accepted = record { plan_is = plan; course_is = c.in-Ok-parse_script.ensures.gives };
        root = c.in-Ok-in_form.ensures.1;
        commands_are = c.in-Ok-parse_commands.ensures.ok;
        starts = c.in-Ok-in_form.ensures.2;
      },
      subst (λ (xs : List StepCommand). AreCut xs stepper old new c.in-Err-take_commands.fault) c.deref.ensures.value c.in-Err-take_commands.ensures.cut,
    )
