-- What is written of an ELD (own).
use Rattle.std.specs.Prelude.{◌≡◌, ℕ, List, Option, None}
use Rattle.std.specs.Io.KnownBytes.{Appends}
use Rattle.conversion_calls.specs.Form.{hex_line}
use Rattle.edid_core.specs.Bytes.{edid_bytes}
use Rattle.edid_core.specs.declared.edid.Edid.{Edid}
use Rattle.edid_eld.specs.Display.{display_parts}
use Rattle.edid_eld.specs.Eld.{Parts, eld_bytes}
use Rattle.edid_eld.specs.Reading.{parts_at, refusal}
use Rattle.edid_eld.specs.declared.codes.Connection.TheVariants.{Hdmi}
use Rattle.meaning_eld.specs.Records.{eld_text}
use Rattle.record_core.specs.declared.cell.Form.{Form}
use Rattle.cli_choice.specs.declared.choice.EldShape.{EldShape}
use Rattle.cli_choice.specs.declared.choice.EldShape.TheVariants.{Hex, Bytes, Fields}

-- an ELD as one line of hex, as its bytes, or as what its fields say
abbrev pub eld_shown : EldShape → Parts → List ℕ
eld_shown Hex p = hex_line (eld_bytes p)
eld_shown Bytes p = eld_bytes p
eld_shown (Fields form) p = eld_text form p

-- the one that a sound driver makes of the EDID of some bytes; the network is HDMI
abbrev pub IsEld : EldShape → List ℕ → List ℕ → Type 0
IsEld shape bytes text = (e : Edid) × (edid_bytes e ≡ bytes) × (text ≡ eld_shown shape (display_parts e.base e.extensions.items Hdmi))

abbrev pub ShowsEld : EldShape → List ℕ → Option (List ℕ) → Option (List ℕ) → Type 0
ShowsEld shape bytes old new = (text : List ℕ) × IsEld shape bytes text × Appends old new text

-- what the fields of these bytes say, which are an ELD
abbrev pub IsEldRead : Form → List ℕ → List ℕ → Type 0
IsEldRead form input text = (refusal input ≡ None) × (text ≡ eld_text form (parts_at input))

abbrev pub ReadsEld : Form → List ℕ → Option (List ℕ) → Option (List ℕ) → Type 0
ReadsEld form input old new = (text : List ℕ) × IsEldRead form input text × Appends old new text
