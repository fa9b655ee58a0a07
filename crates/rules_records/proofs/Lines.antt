-- The line of a finding's record.
use Rattle.std.proofs.Common.{◌≡◌, ℕ, List, [], ◌++◌, append_assoc, append-nil, codes, ap, ◌∙◌}
use Rattle.std.specs.Fmt.{decimal}
use Rattle.rules_check.specs.Text.{rule_name, severity_of, severity_word, timing_rule_name}
use Rattle.rules_check.specs.declared.rule.Finding.TheVariants.{Edid, Timing}
use Rattle.rules_check.specs.declared.rule.Severity.{Severity}
use Rattle.rules_check.specs.declared.rule.Severity.TheVariants.{Fail, Warn}
use Rattle.record_core.specs.Records.{line_of}
use Rattle.record_core.proofs.Reading.{read_back}
use Rattle.rules_records.specs.Records.{FindingLines, FindingsAreReadBack, edid_cells, finding_cells, severity_name, timing_cells}

rule_line : (s : Severity) (rule : List ℕ) → line_of (edid_cells (severity_name s) rule) ≡ severity_word s ++ rule ++ codes "\n"
rule_line Fail rule = ap (λ (t : List ℕ). codes "fail " ++ t ++ codes "\n") (append-nil rule)
rule_line Warn rule = ap (λ (t : List ℕ). codes "warn " ++ t ++ codes "\n") (append-nil rule)

timing_flat : (number one rule end : List ℕ) → (number ++ ((one ++ rule) ++ [])) ++ end ≡ ((number ++ one) ++ rule) ++ end
timing_flat number one rule end = simp (append_assoc, append-nil)

timing_line : (s : Severity) (number : ℕ) (rule : List ℕ) → line_of (timing_cells (severity_name s) number rule) ≡ severity_word s ++ (codes "timing " ++ decimal number ++ codes " " ++ rule) ++ codes "\n"
timing_line Fail number rule = ap (λ (t : List ℕ). codes "fail timing " ++ t) (timing_flat (decimal number) (codes " ") rule (codes "\n"))
timing_line Warn number rule = ap (λ (t : List ℕ). codes "warn timing " ++ t) (timing_flat (decimal number) (codes " ") rule (codes "\n"))

pub finding_lines : FindingLines
finding_lines (Edid rule) = rule_line (severity_of (Edid rule)) (rule_name rule)
finding_lines (Timing number rule) = timing_line (severity_of (Timing number rule)) number (timing_rule_name rule)

pub findings_read_back : FindingsAreReadBack
findings_read_back = λ f. read_back (codes "finding") (finding_cells f) ∙ finding_lines f
