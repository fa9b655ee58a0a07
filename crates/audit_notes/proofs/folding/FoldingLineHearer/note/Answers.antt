use Rattle.std.proofs.Common.{◌∷◌, [], ◌++◌, refl}
use Rattle.audit_notes.specs.Lines.AuditLine.{Note}
use Rattle.audit_notes.specs.Folded.{closed, held_as}
use Rattle.audit_notes.proofs.Passed.{passed}
use Rattle.audit_notes.proofs.folding.FoldingLineHearer.note.Goals as goal

pub returns : goal.returns
returns g c = (
  closed (held_as c.args.self.now.run) ++ (Note c.args.note) ∷ [],
  g.met.H.LineHearer.then c.args.self.now.hearer c.close.new.self.hearer c.note.new.self (closed (held_as c.args.self.now.run)) ((Note c.args.note) ∷ []) c.close.ensures.heard c.note.ensures,
  passed (held_as c.args.self.now.run) (Note c.args.note) c.close.new.self.run refl c.close.ensures.none,
)
