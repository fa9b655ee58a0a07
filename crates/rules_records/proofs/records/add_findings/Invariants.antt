use Rattle.std.proofs.Common.{take}
use Rattle.std.specs.List.{flat_map}
use Rattle.text_core.specs.Adds.{Adds}
use Rattle.rules_records.specs.Records.{finding_record}
use Rattle.rules_records.proofs.records.add_findings.Given as goal

-- the records so far are added
abbrev pub invariant-findings : goal.invariant-findings
invariant-findings g l = Adds l.fn.out l.out (flat_map (finding_record l.form) (take l.finding-index l.found))
