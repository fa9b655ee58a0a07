use Rattle.audit_expect.proofs.Alike as lemmas
use Rattle.audit_expect.proofs.laws.no_remark_is_judged_alike.Goals as goal

pub returns : goal.returns
returns c = lemmas.no_remark_is_judged_alike c.texts_have_one_line.ensures c.what_is_shown_was_met.ensures
