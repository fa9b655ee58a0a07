-- The records of findings (own): how much each matters, the detailed timing that breaks the rule, and the rule.
use Rattle.std.specs.Prelude.{◌≡◌, ℕ, List, [], ◌∷◌, codes}
use Rattle.std.specs.List.{flat_map}
use Rattle.rules_check.specs.Text.{finding_text, rule_name, severity_of, timing_rule_name}
use Rattle.rules_check.specs.declared.rule.Finding.{Finding}
use Rattle.rules_check.specs.declared.rule.Finding.TheVariants.{Edid, Timing}
use Rattle.rules_check.specs.declared.rule.Severity.{Severity}
use Rattle.rules_check.specs.declared.rule.Severity.TheVariants.{Fail, Warn}
use Rattle.record_core.specs.Cells.{PlainCell, both, hidden}
use Rattle.record_core.specs.ReadBack.{line_in}
use Rattle.record_core.specs.Records.{record_text}
use Rattle.record_core.specs.Values as values
use Rattle.record_core.specs.declared.cell.Form.{Form}
use Rattle.record_core.specs.declared.cell.Form.TheVariants.{Text, Json}

abbrev pub severity_name : Severity → List ℕ
severity_name Fail = codes "fail"
severity_name Warn = codes "warn"

-- a rule of the EDID that is broken
abbrev pub edid_cells : List ℕ → List ℕ → List PlainCell
edid_cells severity rule =
    both [] (codes "severity") (values.text severity) ∷ hidden (codes "timing") values.nothing ∷ both (codes " ") (codes "rule") (values.text rule) ∷ []

-- a rule that the detailed timing with a number breaks
abbrev pub timing_cells : List ℕ → ℕ → List ℕ → List PlainCell
timing_cells severity number rule =
    both [] (codes "severity") (values.text severity) ∷ both (codes " timing ") (codes "timing") (values.number number)
    ∷ both (codes " ") (codes "rule") (values.text rule) ∷ []

abbrev pub finding_cells : Finding → List PlainCell
finding_cells (Edid rule) = edid_cells (severity_name (severity_of (Edid rule))) (rule_name rule)
finding_cells (Timing number rule) = timing_cells (severity_name (severity_of (Timing number rule))) number (timing_rule_name rule)

abbrev pub finding_record : Form → Finding → List ℕ
finding_record form f = record_text form (codes "finding") (finding_cells f)

abbrev pub findings_record : Form → List Finding → List ℕ
findings_record form fs = flat_map (finding_record form) fs

-- the line of a finding's record is that of rules_check, and stands in its object
abbrev pub FindingLines : Type 0
FindingLines = (f : Finding) → finding_record Text f ≡ finding_text f

abbrev pub FindingsAreReadBack : Type 0
FindingsAreReadBack = (f : Finding) → line_in (finding_record Json f) ≡ finding_text f
