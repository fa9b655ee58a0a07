use Rattle.std.proofs.Common.{◌++◌, Option, Some, option_map, ap, sym, ◌∙◌}
use Rattle.std.specs.Option.{option_to_list, option_or}
use Rattle.line_frames.specs.declared.Reading.{Reading}
use Rattle.line_reading.specs.Hears.{heard_by}
use Rattle.line_reading.specs.Readings.{Listed}
use Rattle.line_reading.specs.Reports.{listed_as, running_by}
use Rattle.line_reading.specs.Windows.{standard}
use Rattle.line_reading.specs.declared.times.Windows.{Windows}
use Rattle.capture_monitor.specs.Monitor.{FollowsEndBy}
use Rattle.capture_monitor.specs.ReadBy.{ended_before_by}
use Rattle.capture_monitor.proofs.Waiting.{end_reported, end_standard}
use Rattle.capture_monitor.proofs.monitor.Monitor.finish.Goals as goal

pub returns-in-Some : goal.returns-in-Some
returns-in-Some c =
    let by : (win : Windows) → FollowsEndBy win c.args.self c.args.t (option_map listed_as (Some c.in-Some.reading)) = λ win low n h l calm.
    end_reported win h.are low n c.args.t c.args.self c.wait.new.self c.wait.result h l calm (c.wait.ensures.heard h.still)
    ∙ ap (λ (o : Option Reading). ended_before_by win low n ++ option_to_list (option_or (option_map listed_as o) (running_by (heard_by c.wait.new.self.receiver.receiver) c.args.t))) c.in-Some.is in
    record { follows = end_standard c.args.self c.args.t (option_map listed_as (Some c.in-Some.reading)) (by standard); by = by }

pub returns-in-None : goal.returns-in-None
returns-in-None c =
    let by : (win : Windows) → FollowsEndBy win c.args.self c.args.t (option_map listed_as c.running.result) = λ win low n h l calm.
    end_reported win h.are low n c.args.t c.args.self c.wait.new.self c.wait.result h l calm (c.wait.ensures.heard h.still)
    ∙ ap (λ (o : Option Reading). ended_before_by win low n ++ option_to_list (option_or (option_map listed_as o) (running_by (heard_by c.wait.new.self.receiver.receiver) c.args.t))) c.in-None.is
    ∙ ap (λ (o : Option Listed). ended_before_by win low n ++ option_to_list o) (sym c.running.ensures.kept) in
    record { follows = end_standard c.args.self c.args.t (option_map listed_as c.running.result) (by standard); by = by }
