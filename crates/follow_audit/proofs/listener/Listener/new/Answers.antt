use Rattle.std.proofs.Common.{refl}
use Rattle.follow_audit.proofs.Audited.{audited_first}
use Rattle.follow_audit.proofs.listener.Listener.new.Goals as goal

pub returns-clause-audited : goal.returns-clause-audited
returns-clause-audited c = λ edges. audited_first _ edges c.new-2.ensures.items refl refl c.new.ensures
