use Rattle.std.proofs.Common.{option_map}
use Rattle.std.specs.Option.{option_to_list}
use Rattle.line_reading.specs.Reports.{listed_as}
use Rattle.follow_audit.proofs.Audited.{all_heard, hears_then, says_two, some_first, some_heard, some_then}
use Rattle.follow_audit.proofs.listener.Listener.hear_all.Goals as goal

pub returns-then-not-hear-clause-says : goal.returns-then-not-hear-clause-says
returns-then-not-hear-clause-says g c =
    let first = option_to_list (option_map listed_as c.args.first) in
    let hears = g.H.LineHearer.hears in
    some_first hears _ _ first _ _ _
    (some_then hears g.met.H.LineHearer.then _ _ _ _ first _ _ _ c.settle.ensures.says (some_heard hears c.settle.new.self c.hear.new.self first c.hear.result c.settle.new.out c.hear.new.out c.if-not-hear.true c.hear.ensures.says))

pub returns-clause-says : goal.returns-clause-says
returns-clause-says g c =
    let first = option_to_list (option_map listed_as c.args.first) in
    let second = option_to_list (option_map listed_as c.args.second) in
    let hears = g.H.LineHearer.hears in
    let both = g.met.H.LineHearer.then in
    hears_then hears both _ c.hear.new.self c.hear-2.new.self first second c.hear-2.result _ c.hear.new.out c.hear-2.new.out
    (says_two hears both c.settle.ensures.says (all_heard hears c.settle.new.self c.hear.new.self first c.hear.result c.settle.new.out c.hear.new.out c.if-not-hear.false c.hear.ensures.says)) c.hear-2.ensures.says

pub returns-clause-waits : goal.returns-clause-waits
returns-clause-waits g c = c.hear-2.ensures.waits (c.hear.ensures.waits c.settle.ensures.waits)

pub returns-then-not-hear-clause-waits : goal.returns-then-not-hear-clause-waits
returns-then-not-hear-clause-waits g c = c.hear.ensures.waits c.settle.ensures.waits
