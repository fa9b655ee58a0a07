use Rattle.edid_texts.specs.Drafts.{draft_of}
use Rattle.edid_texts.proofs.Places.{not_all, whole_stage}
use Rattle.edid_texts.proofs.draft.EdidDraft.is_whole.Goals as goal

pub returns-in_default-clause-begun : goal.returns-in_default-clause-begun
returns-in_default-clause-begun c = λ begun e all. not_all (draft_of c.args.self.now) e (λ whole. c.in_default.not-Whole (whole_stage c.args.self.now whole)) all
