use Rattle.std.proofs.Common.{◌≡◌, ◌++◌, ◌∷◌, [], ◌∙◌}
use Rattle.edid_texts.proofs.Places.{put_as}
use Rattle.edid_texts.proofs.draft.EdidDraft.put.Goals as goal

pub returns-in-Begun : goal.returns-in-Begun
returns-in-Begun c = put_as c.put_begun.result c.args.self.now c.put_begun.new.draft c.args.line.now c.put_begun.ensures

pub returns-in-Whole : goal.returns-in-Whole
returns-in-Whole c = put_as c.put_whole.result c.args.self.now c.put_whole.new.draft c.args.line.now c.put_whole.ensures

pub returns-in-Opened : goal.returns-in-Opened
returns-in-Opened c = put_as c.put_opened.result c.args.self.now c.put_opened.new.draft c.args.line.now c.put_opened.ensures

pub returns-in-Bare : goal.returns-in-Bare
returns-in-Bare c = put_as c.put_bare.result c.args.self.now c.put_bare.new.draft c.args.line.now c.put_bare.ensures
