-- What is written of what is wrong with an EDID (own).
use Rattle.std.specs.Prelude.{◌≡◌, ℕ, Bool, true, false, List, Option, Result, Ok, Err}
use Rattle.std.specs.Io.KnownBytes.{Appends}
use Rattle.edid_core.specs.Bytes.{edid_bytes, IsRefused}
use Rattle.edid_core.specs.declared.edid.Edid.{Edid as EdidValue}
use Rattle.rules_check.specs.Findings.{findings}
use Rattle.rules_check.specs.Text.{findings_text, some_failure}
use Rattle.rules_check.specs.declared.rule.Finding.{Finding}
use Rattle.rules_check.specs.declared.rule.Origin.{Origin}
use Rattle.rules_check.specs.declared.rule.Origin.TheVariants.{Display}
use Rattle.conversion_calls.specs.EdidText.{IsCutAt}
use Rattle.conversion_calls.specs.declared.edid_text.EdidToTextError.{EdidToTextError}
use Rattle.conversion_calls.specs.declared.edid_text.EdidToTextError.TheVariants.{Edid, Write}

-- all that is wrong with an EDID of this origin
abbrev pub faults_of : Origin → EdidValue → List Finding
faults_of o e = findings o e.base e.extensions.items

-- The bytes spell an EDID, and the lines of all that is wrong with it are written, whole or their front; or they spell
-- none, for the first reason, and nothing is written.
abbrev pub FindingAnswers : Option (List ℕ) → Option (List ℕ) → Bool → Bool → List ℕ → Result Bool EdidToTextError → Type 0
FindingAnswers old new was is bytes (Ok fails) =
    (e : EdidValue) × (edid_bytes e ≡ bytes) × Appends old new (findings_text (faults_of Display e)) × (is ≡ was) × (fails ≡ some_failure (faults_of Display e))
FindingAnswers old new was is bytes (Err (Write count)) = (e : EdidValue) × (edid_bytes e ≡ bytes) × IsCutAt old new is (findings_text (faults_of Display e)) count
FindingAnswers old new was is bytes (Err (Edid cause)) = IsRefused bytes cause × ((e : EdidValue) → edid_bytes e ≡ bytes → ⊥) × (new ≡ old) × (is ≡ was)

abbrev pub is_finding_cut : Result Bool EdidToTextError → Bool
is_finding_cut (Err (Write count)) = true
is_finding_cut _ = false
