use Rattle.std.proofs.Common.{◌++◌, option_map, rules}
use Rattle.std.specs.Option.{option_to_list}
use Rattle.line_reading.specs.Reports.{listed_as}
use Rattle.text_core.proofs.Adding.{text_ended}
use Rattle.audit_notes.specs.Lines.{lines_text}
use Rattle.follow_audit.proofs.Audited.{puts_all, puts_cut, puts_some, two_told}
use Rattle.follow_audit.proofs.listener.Listener.tell.Goals as goal

pub returns-then-not-heard-clause-puts : goal.returns-then-not-heard-clause-puts
returns-then-not-heard-clause-puts g c =
    let more = option_to_list (option_map listed_as c.args.first) ++ option_to_list (option_map listed_as c.args.second) in
    let some = rw c.if-not-heard.true at c.hear_all-heard.ensures.says in (
      puts_some _ _ _ _ _ c.written-written.result some
          (text_ended g.S.Sink.contents g.S.Sink.is_stuck c.args.out.now _ c.into_sink-below.result.now _ c.into_sink-below.result.ghost_name c.new.result c.hear_all-heard.new.out.hearer.out (lines_text c.args.self.now.view.written some.says.lines) c.written-written.result
          c.new.ensures some.says.put.0.1 c.written-written.ensures.text
          c.into_sink-below.ensures.loan c.into_sink-below.ensures.known c.into_sink-below.ensures.stuck (search rules)),
      two_told _ _ _ more _ _ some c.hear_all-heard.ensures.waits,
    )

pub returns-in-Ok-clause-puts : goal.returns-in-Ok-clause-puts
returns-in-Ok-clause-puts g c =
    let more = option_to_list (option_map listed_as c.args.first) ++ option_to_list (option_map listed_as c.args.second) in
    let says = rw c.if-not-heard.false at c.hear_all-heard.ensures.says in
    puts_all _ _ _ _ _ _ _ c.written-written.result _ c.in-Ok.is says says.put.1
    (text_ended g.S.Sink.contents g.S.Sink.is_stuck c.args.out.now _ c.into_sink-below.result.now _ c.into_sink-below.result.ghost_name c.new.result c.hear_all-heard.new.out.hearer.out (lines_text c.args.self.now.view.written says.lines) c.written-written.result
    c.new.ensures says.put.0.1 c.written-written.ensures.text
    c.into_sink-below.ensures.loan c.into_sink-below.ensures.known c.into_sink-below.ensures.stuck (search rules))

pub returns-in-Err-clause-puts : goal.returns-in-Err-clause-puts
returns-in-Err-clause-puts g c =
    let more = option_to_list (option_map listed_as c.args.first) ++ option_to_list (option_map listed_as c.args.second) in
    let says = rw c.if-not-heard.false at c.hear_all-heard.ensures.says in (
      puts_cut _ _ _ _ _ c.written-written.result says
          (text_ended g.S.Sink.contents g.S.Sink.is_stuck c.args.out.now _ c.into_sink-below.result.now _ c.into_sink-below.result.ghost_name c.new.result c.hear_all-heard.new.out.hearer.out (lines_text c.args.self.now.view.written says.lines) c.written-written.result
          c.new.ensures says.put.0.1 c.written-written.ensures.text
          c.into_sink-below.ensures.loan c.into_sink-below.ensures.known c.into_sink-below.ensures.stuck (search rules)),
      tt,
    )

pub returns-in-Ok-clause-waits : goal.returns-in-Ok-clause-waits
returns-in-Ok-clause-waits g c = c.hear_all-heard.ensures.waits
