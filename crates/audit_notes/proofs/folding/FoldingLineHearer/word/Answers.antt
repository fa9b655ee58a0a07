use Rattle.std.proofs.Common.{◌∷◌, [], ◌++◌, refl}
use Rattle.audit_notes.specs.Lines.AuditLine.{Word}
use Rattle.audit_notes.specs.Folded.{closed, held_as}
use Rattle.audit_notes.proofs.Passed.{passed}
use Rattle.audit_notes.proofs.folding.FoldingLineHearer.word.Goals as goal

pub returns : goal.returns
returns g c = (
  closed (held_as c.args.self.now.run) ++ (Word c.args.word.now) ∷ [],
  g.met.H.LineHearer.then c.args.self.now.hearer c.close.new.self.hearer c.word.new.self (closed (held_as c.args.self.now.run)) ((Word c.args.word.now) ∷ []) c.close.ensures.heard c.word.ensures,
  passed (held_as c.args.self.now.run) (Word c.args.word.now) c.close.new.self.run refl c.close.ensures.none,
)
