use Rattle.std.proofs.Common.{arith}
use Rattle.edid_texts.proofs.BaseNexts.{descriptor_got, set_descriptor}
use Rattle.edid_texts.proofs.base_steps.put_descriptor.Goals as goal

pub returns-in_default : goal.returns-in_default
returns-in_default c = λ b e. let s = descriptor_got b c.args.number c.args.line.now (omega arith) e in c.in_default.ensures s.0 s.1

pub returns : goal.returns
returns c = set_descriptor c.args.base.now c.args.number c.in-Some.descriptor c.args.line.now (omega arith) (omega arith) c.in-Some.ensures
