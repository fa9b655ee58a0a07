use Rattle.std.proofs.Common.{ℕ, List, ap₂}
use Rattle.std.specs.Prelude.{slice_set}
use Rattle.audit_contents.specs.declared.finding.Finding.{Finding}
use Rattle.audit_contents.proofs.contents.note_findings.Goals as goal

pub returns : goal.returns
returns c =
    ap₂ (λ (i : ℕ) (cs : List Finding). slice_set c.args.all.now i cs) c.sender-initiator.ensures.value
    (rw (c.all_rules.ensures, c.findings_at-findings.ensures, c.sender-initiator.ensures.value) at c.add_findings.ensures)
