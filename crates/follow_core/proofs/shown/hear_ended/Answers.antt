use Rattle.follow_core.proofs.shown.hear_ended.Goals as goal

pub returns-clause-hears : goal.returns-clause-hears
returns-clause-hears g c = g.met.H.LineHearer.then c.args.out.now c.hear_opened.new.out c.hear_readings.new.out _ _ c.hear_opened.ensures c.hear_readings.ensures.hears
