-- THE text of what a device says against the rules, by the cells of its lines (own): `  fault refuses-mandatory 2, first at 1000000 by 12.3`.
use Rattle.std.specs.Prelude.{ℕ, ◌==◌, if◌then◌else◌, List, [], ◌∷◌, ◌++◌, min, Option, Some, None, codes}
use Rattle.record_core.specs.Cells.{PlainCell, both, hidden}
use Rattle.record_core.specs.Records.{record_text}
use Rattle.record_core.specs.Values.{nibble_or, number, text}
use Rattle.record_core.specs.declared.cell.Form.{Form}
use Rattle.audit_contents.specs.declared.contents.Contents.{Contents}
use Rattle.audit_contents.specs.declared.finding.Finding.{Finding}
use Rattle.audit_contents.specs.declared.rule.ContentRule.{ContentRule}
use Rattle.audit_contents.specs.Contents.{finding_of, findings_at}
use Rattle.audit_contents.specs.Names.{all_rules, grade_of, name_of, section_of}

abbrev pub finding_cells : ℕ → List ℕ → List ℕ → Finding → List ℕ → List PlainCell
finding_cells address grade name c section =
    hidden (codes "logical_address") (nibble_or (Some address)) ∷ both (codes "  ") (codes "grade") (text grade) ∷ both (codes " ") (codes "rule") (text name)
    ∷ both (codes " ") (codes "count") (number c.count) ∷ both (codes ", first at ") (codes "first") (number c.first)
    ∷ both (codes " by ") (codes "section") (text section) ∷ []

-- nothing where no frame breaks it
abbrev pub finding_text : Form → ℕ → ContentRule → Finding → List ℕ
finding_text form address r c =
    if c.count == 0 then [] else record_text form (codes "content") (finding_cells address (grade_of r) (name_of r) c (section_of r))

abbrev pub findings_text : Form → ℕ → List ContentRule → List Finding → List ℕ
findings_text form address [] cs = []
findings_text form address (r ∷ rs) cs = finding_text form address r (finding_of r cs) ++ findings_text form address rs cs

-- of the device at an address, and of nobody
abbrev pub contents_text : Form → Option ℕ → Contents → List ℕ
contents_text form None c = []
contents_text form (Some address) c = findings_text form address all_rules (findings_at (min address 15) c.findings)
