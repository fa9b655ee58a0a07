use Rattle.std.proofs.Common.{◌∷◌, [], ◌++◌, refl}
use Rattle.audit_notes.specs.Lines.AuditLine.{Group}
use Rattle.audit_notes.specs.Folded.{closed, held_as}
use Rattle.audit_notes.proofs.Passed.{passed}
use Rattle.audit_notes.proofs.folding.FoldingLineHearer.group.Goals as goal

pub returns : goal.returns
returns g c = (
  closed (held_as c.args.self.now.run) ++ (Group c.args.group) ∷ [],
  g.met.H.LineHearer.then c.args.self.now.hearer c.close.new.self.hearer c.group.new.self (closed (held_as c.args.self.now.run)) ((Group c.args.group) ∷ []) c.close.ensures.heard c.group.ensures,
  passed (held_as c.args.self.now.run) (Group c.args.group) c.close.new.self.run refl c.close.ensures.none,
)
