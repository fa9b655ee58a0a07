use Rattle.std.proofs.Common.{option_map}
use Rattle.std.specs.Option.{option_to_list}
use Rattle.line_reading.specs.Reports.{listed_as}
use Rattle.follow_core.proofs.Showing.{held_more, lines_then}
use Rattle.follow_core.proofs.shown.hear_pair.Goals as goal

pub returns-clause-hears : goal.returns-clause-hears
returns-clause-hears g c =
    lines_then g.H.LineHearer.hears g.met.H.LineHearer.then c.args.out.now c.hear_one-first.new.out c.hear_one.new.out c.args.start c.args.is_held c.hear_one-first.result (option_to_list (option_map listed_as c.args.pair.now.first)) (option_to_list (option_map listed_as c.args.pair.now.second))
    c.hear_one-first.ensures.held c.hear_one-first.ensures.hears c.hear_one.ensures.hears

pub returns-clause-held : goal.returns-clause-held
returns-clause-held g c =
    held_more c.args.start c.args.is_held c.hear_one-first.result c.hear_one.result (option_to_list (option_map listed_as c.args.pair.now.first)) (option_to_list (option_map listed_as c.args.pair.now.second))
    c.hear_one-first.ensures.held c.hear_one.ensures.held
