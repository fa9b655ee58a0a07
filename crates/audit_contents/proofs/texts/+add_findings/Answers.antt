use Rattle.std.proofs.Common.{◌≡◌, ℕ, ◌≤◌, List, [], ◌∷◌, ◌++◌, length, get_or, drop, refl, arith}
use Rattle.std.proofs.lemmas.List.{take_rest}
use Rattle.text_core.proofs.Adding.{then}
use Rattle.record_core.specs.declared.cell.Form.{Form}
use Rattle.audit_contents.specs.declared.finding.Finding.{Finding}
use Rattle.audit_contents.specs.declared.rule.ContentRule.{ContentRule}
use Rattle.audit_contents.specs.Contents.{finding_of}
use Rattle.audit_contents.specs.Texts.{finding_text, findings_text}
use Rattle.audit_contents.proofs.Choosing.{adds_as}
use Rattle.audit_contents.proofs.texts.+add_findings.Goals as goal

-- a rule, and the rest
rules_more : (form : Form) (address : ℕ) (rs : List ContentRule) (cs : List Finding) (none : ContentRule) → 1 ≤ length rs
    → finding_text form address (get_or rs 0 none) (finding_of (get_or rs 0 none) cs) ++ findings_text form address (drop 1 rs) cs ≡ findings_text form address rs cs
rules_more form address [] cs none h = absurd (omega arith)
rules_more form address (r ∷ rs) cs none h = refl

pub returns : goal.returns
returns g t c =
    adds_as c.args.out.now c.add_findings.new.out _ _ (rw take_rest (rules_more c.args.form c.args.address c.args.rules.now c.args.findings.now _ c.in-len1-up.len_at_least))
    (then c.args.out.now c.add_finding.new.out c.add_findings.new.out _ _ (rw c.finding_of.ensures at c.add_finding.ensures) c.add_findings.ensures)
