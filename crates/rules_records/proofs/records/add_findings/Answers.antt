use Rattle.std.proofs.Common.{rules, ◌≡◌, slice_index_or}
use Rattle.rules_check.specs.declared.rule.Finding.{Finding}
use Rattle.rules_check.specs.declared.rule.Finding.TheVariants.{Edid}
use Rattle.rules_check.specs.declared.rule.Rule.TheVariants.{FirstTimingPreferred}
use Rattle.rules_records.specs.Records.{finding_record}
use Rattle.text_core.proofs.Adding.{more}
use Rattle.rules_records.proofs.records.add_findings.Goals as goal

pub findings-preserved : goal.findings-preserved
findings-preserved g c =
    let item : Finding = slice_index_or c.args.found.now c.findings.finding-index (Edid FirstTimingPreferred) in
    let same : slice_index_or c.args.found.now c.findings.finding-index item ≡ item = search rules in
    more (finding_record c.args.form) c.args.found.now c.findings.finding-index item _ _ _ c.findings-test.true same c.findings.invariant c.add_finding.ensures
