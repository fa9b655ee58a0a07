use Rattle.std.proofs.Common.{◌≡◌, true, false, ap, sym, ◌∙◌}
use Rattle.audit_notes.specs.Kinds.{is_remark}
use Rattle.audit_notes.specs.Notes.{kind_of}
use Rattle.expect_remarks.proofs.Shown.{kept, passed}
use Rattle.expect_remarks.proofs.kept.RemarksLineHearer.note.Goals as goal

pub returns-then-not-is_remark : goal.returns-then-not-is_remark
returns-then-not-is_remark c =
    let none : is_remark (kind_of c.args.note) ≡ false = sym (c.is_remark.ensures ∙ ap is_remark c.kind.ensures) ∙ c.if-not-is_remark.true in
    passed c.args.self.now.notes.items c.args.self.now.full c.args.note none

pub returns : goal.returns
returns c =
    let one : is_remark (kind_of c.args.note) ≡ true = sym (c.is_remark.ensures ∙ ap is_remark c.kind.ensures) ∙ c.if-not-is_remark.false in
    kept c.args.self.now.notes.items c.keep.new.self.notes.items c.args.self.now.full c.keep.new.self.full c.args.note one c.keep.ensures
