use Rattle.capture_core.proofs.Levels as Levels
use Rattle.capture_core.proofs.laws.levels_are_sampled.Goals as goal

pub returns-clause-line : goal.returns-clause-line
returns-clause-line c = Levels.sampled_so

pub returns-clause-both : goal.returns-clause-both
returns-clause-both c = Levels.samples_both

pub returns-clause-whole : goal.returns-clause-whole
returns-clause-whole c = Levels.rounded_whole
