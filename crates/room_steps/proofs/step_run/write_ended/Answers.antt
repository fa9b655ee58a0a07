use Rattle.std.proofs.Common.{rules}
use Rattle.text_core.proofs.Adding.{text_ended}
use Rattle.room_steps.specs.StepRun.{ended_text}
use Rattle.room_steps.proofs.step_run.write_ended.Goals as goal

pub returns : goal.returns
returns g c =
    text_ended g.S.Sink.contents g.S.Sink.is_stuck c.args.out.now _ c.into_sink-below.result.now _ c.into_sink-below.result.ghost_name c.new-text.result c.add_ended.new.out (ended_text c.args.form) c.written-written.result
    c.new-text.ensures c.add_ended.ensures c.written-written.ensures.text
    c.into_sink-below.ensures.loan c.into_sink-below.ensures.known c.into_sink-below.ensures.stuck (search rules)
