use Rattle.std.proofs.Common.{◌++◌, ◌||◌, option_map}
use Rattle.std.specs.Option.{option_to_list}
use Rattle.line_reading.specs.Reports.{listed_as}
use Rattle.capture_join.specs.Joined.{has_begun}
use Rattle.follow_core.specs.Teller.{listed_pair}
use Rattle.follow_core.proofs.Showing.{held_more, lines_then}
use Rattle.follow_core.proofs.shown.hear_readings.Goals as goal

pub returns-clause-hears : goal.returns-clause-hears
returns-clause-hears g c =
    let one = listed_pair c.args.heard.now.by_edge in
    let two = listed_pair c.args.heard.now.by_calm in
    let last = option_to_list (option_map listed_as c.args.heard.now.last) in
    lines_then g.H.LineHearer.hears g.met.H.LineHearer.then c.args.out.now c.hear_pair-by_edge.new.out c.hear_one.new.out c.args.start c.args.is_held c.hear_pair-by_edge.result one (two ++ last) c.hear_pair-by_edge.ensures.held c.hear_pair-by_edge.ensures.hears
    (lines_then g.H.LineHearer.hears g.met.H.LineHearer.then c.hear_pair-by_edge.new.out c.hear_pair-by_calm.new.out c.hear_one.new.out c.args.start c.hear_pair-by_edge.result c.hear_pair-by_calm.result two last c.hear_pair-by_calm.ensures.held
    c.hear_pair-by_calm.ensures.hears c.hear_one.ensures.hears)

pub returns-clause-held : goal.returns-clause-held
returns-clause-held g c =
    let one = listed_pair c.args.heard.now.by_edge in
    let two = listed_pair c.args.heard.now.by_calm in
    let last = option_to_list (option_map listed_as c.args.heard.now.last) in
    held_more c.args.start c.args.is_held c.hear_pair-by_edge.result c.hear_one.result one (two ++ last) c.hear_pair-by_edge.ensures.held
    (held_more c.args.start c.hear_pair-by_edge.result c.hear_pair-by_calm.result c.hear_one.result two last c.hear_pair-by_calm.ensures.held c.hear_one.ensures.held)
