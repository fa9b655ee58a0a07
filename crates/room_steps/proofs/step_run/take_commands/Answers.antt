use Rattle.std.proofs.Common.{rules, ◌≡◌, ◌∙◌, slice_index_or, sym, subst}
use Rattle.room_steps.specs.StepRun.{NamesDevice}
use Rattle.room_step_text.specs.declared.commands.StepCommand.{StepCommand}
use Rattle.room_step_text.specs.declared.commands.StepCommand.TheVariants.{Edge}
use Rattle.room_steps.proofs.Due.{cut_next, dues_count, reached_more}
use Rattle.room_steps.proofs.step_run.take_commands.Goals as goal

pub take_command-requires : goal.take_command-requires
take_command-requires g c =
    let here = c.loop-command in
    let r = here.invariant.reached in
    let command : StepCommand = slice_index_or c.args.commands.now here.command-index Edge in
    subst (λ count. NamesDevice count command) (sym (dues_count _ c.args.stepper.now here.stepper r.text r.due)) (c.requires here.command-index Edge c.loop-command-test.true)

pub returns-in-Err-clause-cut : goal.returns-in-Err-clause-cut
returns-in-Err-clause-cut g c =
    let here = c.loop-command in
    let command : StepCommand = slice_index_or c.args.commands.now here.command-index Edge in
    let same : slice_index_or c.args.commands.now here.command-index command ≡ command = search rules in
    let taken = c.in-Err.ensures in
    cut_next c.args.commands.now here.command-index command c.args.stepper.now here.stepper taken.1 (g.S.Sink.contents c.args.out.now) (g.S.Sink.contents here.out) (g.S.Sink.contents c.take_command.new.out) (g.S.Sink.is_stuck here.out) (g.S.Sink.is_stuck c.take_command.new.out) here.written c.in-Err.fault c.cut_at.result
    c.loop-command-test.true same here.invariant.reached taken.0 taken.2 taken.3 c.cut_at.ensures

pub loop-command-preserved : goal.loop-command-preserved
loop-command-preserved g c =
    let here = c.loop-command in
    let command : StepCommand = slice_index_or c.args.commands.now here.command-index Edge in
    let same : slice_index_or c.args.commands.now here.command-index command ≡ command = search rules in
    let taken = c.in-Ok.ensures in
    record {
      reached = reached_more c.args.commands.now here.command-index command c.args.stepper.now here.stepper c.take_command.new.stepper (g.S.Sink.contents c.args.out.now) (g.S.Sink.contents here.out) (g.S.Sink.contents c.take_command.new.out) (g.S.Sink.is_stuck here.out) (g.S.Sink.is_stuck c.take_command.new.out) here.written c.in-Ok.count c.counted-written.result
          c.loop-command-test.true same here.invariant.reached taken.0 taken.1 taken.2 c.counted-written.ensures;
      flag = taken.2.2 ∙ here.invariant.flag;
    }
