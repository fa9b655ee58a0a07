use Rattle.std.proofs.Common.{◌∙◌, sym}
use Rattle.line_wave.proofs.Kept.{timely_tested}
use Rattle.line_wave.proofs.pulls.Pulls.new.Goals as goal

pub become_those-requires : goal.become_those-requires
become_those-requires c = (timely_tested c.args.stretches.now).0 (sym c.are_timely.ensures ∙ c.if-not-are_timely.false)
