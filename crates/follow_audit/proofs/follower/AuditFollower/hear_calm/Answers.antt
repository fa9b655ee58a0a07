use Rattle.std.proofs.Common.{◌++◌, [], arith, option_map, refl}
use Rattle.std.specs.Option.{option_to_list}
use Rattle.line_reading.specs.Reports.{listed_as}
use Rattle.follow_audit.proofs.Followed.{goes, keeps_none, tells_calm, told_prompt}
use Rattle.follow_audit.proofs.follower.AuditFollower.hear_calm.Goals as goal

pub returns-clause-onward : goal.returns-clause-onward
returns-clause-onward g c = record {
  known = c.known.result;
  calm = λ signal number. (c.known.ensures.known signal number).none;
  goes = goes c.args.self.now (record { lines = c.args.self.now.lines; teller = c.calm-reading.new.self; listener = c.tell-told.new.self; remarked = c.tell-told.new.remarked }) c.args.self.now.listener [] c.known.result
      ([] ++ option_to_list (option_map listed_as c.calm-reading.result)) (g.S.Sink.contents c.args.out.now) (g.S.Sink.contents c.tell-told.new.out) c.tell-told.result (keeps_none c.args.self.now.listener)
      (tells_calm c.args.self.now.teller c.calm-reading.new.self c.known.result (option_map listed_as c.calm-reading.result) c.calm-reading.ensures) refl c.tell-told.ensures.puts;
}

pub returns-clause-prompt : goal.returns-clause-prompt
returns-clause-prompt g c =
    let lag = (c.known.ensures.known [] 0).lag in
    let reach = c.calm-reading.ensures.prompt in
    told_prompt c.tell-told.result (record { lines = c.args.self.now.lines; teller = c.calm-reading.new.self; listener = c.tell-told.new.self; remarked = c.tell-told.new.remarked }) (omega (arith, lag, reach)) c.tell-told.ensures.waits
