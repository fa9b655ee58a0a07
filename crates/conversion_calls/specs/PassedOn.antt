-- What is written of an EDID that is passed on, and of the address in an EDID (own).
use Rattle.std.specs.Prelude.{◌≡◌, ℕ, Bool, true, false, List, ◌++◌, Option, Some, None, Result, Ok, Err, codes}
use Rattle.std.specs.Io.KnownBytes.{Appends}
use Rattle.text_core.specs.Piece.{phys_text}
use Rattle.text_core.specs.declared.phys.Phys.{Phys}
use Rattle.edid_core.specs.Address.{edid_address}
use Rattle.edid_core.specs.Bytes.{edid_bytes, IsRefused}
use Rattle.edid_core.specs.declared.edid.Edid.{Edid as EdidValue}
use Rattle.rules_check.specs.Text.{findings_text, some_failure}
use Rattle.rules_check.specs.declared.rule.Origin.TheVariants as origins
use Rattle.conversion_calls.specs.EdidFindings.{faults_of}
use Rattle.conversion_calls.specs.EdidText.{IsCutAt}
use Rattle.conversion_calls.specs.Form.{form_text}
use Rattle.conversion_calls.specs.Passing.{IsPassedOn, IsNotPassedOn}
use Rattle.conversion_calls.specs.declared.form.EdidForm.{EdidForm}
use Rattle.conversion_calls.specs.declared.passing.Passing.{Passing}
use Rattle.conversion_calls.specs.declared.passing.PassOnError.{PassOnError}
use Rattle.conversion_calls.specs.declared.passing.PassOnError.TheVariants.{PortRange, Edid, NoHdmiBlock, Write}

-- nothing is written
abbrev pub IsUntouched : Option (List ℕ) → Option (List ℕ) → Bool → Bool → Type 0
IsUntouched old new was is = (new ≡ old) × (is ≡ was)

abbrev pub is_cut : Result (Unit {0}) PassOnError → Bool
is_cut (Err (Write count)) = true
is_cut _ = false

abbrev pub is_check_cut : Result Bool PassOnError → Bool
is_check_cut (Err (Write count)) = true
is_check_cut _ = false

-- ---- the EDID that is passed on

-- It is written, whole or its front; or there is none, for the first reason, and nothing is written.
abbrev pub PassedAnswers : Option (List ℕ) → Option (List ℕ) → Bool → Bool → List ℕ → Passing → EdidForm → Result (Unit {0}) PassOnError → Type 0
PassedAnswers old new was is bytes passing form (Ok done) = (p : EdidValue) × IsPassedOn bytes passing p × Appends old new (form_text form p) × (is ≡ was)
PassedAnswers old new was is bytes passing form (Err (Write count)) = (p : EdidValue) × IsPassedOn bytes passing p × IsCutAt old new is (form_text form p) count
PassedAnswers old new was is bytes passing form (Err PortRange) = IsNotPassedOn bytes passing PortRange × IsUntouched old new was is
PassedAnswers old new was is bytes passing form (Err (Edid cause)) = IsNotPassedOn bytes passing (Edid cause) × IsUntouched old new was is
PassedAnswers old new was is bytes passing form (Err NoHdmiBlock) = IsNotPassedOn bytes passing NoHdmiBlock × IsUntouched old new was is

-- ---- what is wrong with it

abbrev pub PassedFindingAnswers : Option (List ℕ) → Option (List ℕ) → Bool → Bool → List ℕ → Passing → Result Bool PassOnError → Type 0
PassedFindingAnswers old new was is bytes passing (Ok fails) =
    (p : EdidValue) × IsPassedOn bytes passing p × Appends old new (findings_text (faults_of origins.Port p)) × (is ≡ was) × (fails ≡ some_failure (faults_of origins.Port p))
PassedFindingAnswers old new was is bytes passing (Err (Write count)) =
    (p : EdidValue) × IsPassedOn bytes passing p × IsCutAt old new is (findings_text (faults_of origins.Port p)) count
PassedFindingAnswers old new was is bytes passing (Err PortRange) = IsNotPassedOn bytes passing PortRange × IsUntouched old new was is
PassedFindingAnswers old new was is bytes passing (Err (Edid cause)) = IsNotPassedOn bytes passing (Edid cause) × IsUntouched old new was is
PassedFindingAnswers old new was is bytes passing (Err NoHdmiBlock) = IsNotPassedOn bytes passing NoHdmiBlock × IsUntouched old new was is

-- ---- the address in an EDID

abbrev pub address_line : Phys → List ℕ
address_line address = phys_text address ++ codes "\n"

-- an EDID with these bytes reports this address, or none
abbrev pub Reports : List ℕ → Option Phys → Type 0
Reports bytes address = (e : EdidValue) × (edid_bytes e ≡ bytes) × (edid_address e ≡ address)

-- Its line is written, whole or its front; or there is none, for the first reason, and nothing is written.
abbrev pub AddressAnswers : Option (List ℕ) → Option (List ℕ) → Bool → Bool → List ℕ → Result (Unit {0}) PassOnError → Type 0
AddressAnswers old new was is bytes (Ok done) = (a : Phys) × Reports bytes (Some a) × Appends old new (address_line a) × (is ≡ was)
AddressAnswers old new was is bytes (Err (Write count)) = (a : Phys) × Reports bytes (Some a) × IsCutAt old new is (address_line a) count
AddressAnswers old new was is bytes (Err (Edid cause)) = IsRefused bytes cause × IsUntouched old new was is
AddressAnswers old new was is bytes (Err NoHdmiBlock) = Reports bytes None × IsUntouched old new was is
AddressAnswers old new was is bytes (Err PortRange) = ⊥
