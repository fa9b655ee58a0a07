use Rattle.std.proofs.Common.{◌++◌, [], option_map, refl}
use Rattle.std.specs.Option.{option_to_list}
use Rattle.line_reading.specs.Reports.{listed_as}
use Rattle.follow_audit.proofs.Audited.{takes_edges}
use Rattle.follow_audit.proofs.Followed.{goes, goes_not, tells_edge}
use Rattle.follow_audit.proofs.follower.AuditFollower.hear_edge.Goals as goal

pub returns-in-Err-clause-onward : goal.returns-in-Err-clause-onward
returns-in-Err-clause-onward g c = (goes_not c.args.self.now (option_to_list c.args.edge) 0 _, tt)

pub returns-in-Ok-clause-onward : goal.returns-in-Ok-clause-onward
returns-in-Ok-clause-onward g c =
    goes c.args.self.now (record { lines = c.args.self.now.lines; teller = c.edge-reading.new.self; listener = c.tell-told.new.self; remarked = c.tell-told.new.remarked }) c.take.new.self (option_to_list c.args.edge) 0
    (option_to_list (option_map listed_as c.edge-reading.result) ++ []) (g.S.Sink.contents c.args.out.now) (g.S.Sink.contents c.tell-told.new.out) c.tell-told.result (takes_edges c.args.self.now.listener c.take.new.self c.args.edge c.in-Ok.ensures)
    (tells_edge c.args.self.now.teller c.edge-reading.new.self c.args.edge (option_map listed_as c.edge-reading.result) c.edge-reading.ensures) refl c.tell-told.ensures.puts
