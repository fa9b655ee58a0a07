use Rattle.std.proofs.Common.{◌∷◌, [], ◌++◌, sym, ◌∙◌}
use Rattle.line_reading.specs.Reports.{listed_as}
use Rattle.audit_notes.specs.Lines.AuditLine.{Reading}
use Rattle.audit_notes.specs.Folded.{closed, held_as}
use Rattle.audit_notes.proofs.Passed.{passed}
use Rattle.audit_notes.proofs.folding.FoldingLineHearer.reading.Goals as goal

pub returns-else-is_bad_start : goal.returns-else-is_bad_start
returns-else-is_bad_start g c =
    let line = Reading (listed_as c.args.reading.now) in (
      closed (held_as c.args.self.now.run) ++ line ∷ [],
      g.met.H.LineHearer.then c.args.self.now.hearer c.close.new.self.hearer c.reading.new.self (closed (held_as c.args.self.now.run)) (line ∷ []) c.close.ensures.heard c.reading.ensures,
      passed (held_as c.args.self.now.run) line c.close.new.self.run (sym c.is_bad_start.ensures ∙ c.if-is_bad_start.false) c.close.ensures.none,
    )
