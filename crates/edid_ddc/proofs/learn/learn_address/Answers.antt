use Rattle.std.proofs.Common.{List, ℕ, subst}
use Rattle.edid_ddc.specs.Learn.{IsLearnt}
use Rattle.edid_ddc.proofs.Learning.{reported}
use Rattle.edid_ddc.proofs.learn.learn_address.Goals as goal

pub returns-clause-reported : goal.returns-clause-reported
returns-clause-reported c = λ e address h a. reported c.read_address-answer.result e address (subst (λ (b : List ℕ). IsLearnt b c.read_address-answer.result) h c.read_address-answer.ensures.learnt) a
