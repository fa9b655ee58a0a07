use Rattle.std.proofs.Common.{sym, ◌∙◌}
use Rattle.edid_texts.specs.declared.stage.Stage.TheVariants.{Whole as AtWhole}
use Rattle.edid_texts.proofs.Places.{lines_are, same_lines}
use Rattle.edid_texts.proofs.draft.EdidDraft.finish.Goals as goal

pub returns : goal.returns
returns c = c.edid_of.ensures ∙ sym (same_lines c.args.self ∙ lines_are c.args.self AtWhole c.requires)
