-- What an InfoFrame says, and whether an EDID offers that (own).
use Rattle.std.specs.Prelude.{◌≡◌, ℕ, true, false, List, Option, Ok}
use Rattle.std.specs.Io.KnownBytes.{Appends}
use Rattle.edid_as_source.specs.Count.{counted}
use Rattle.edid_as_source.specs.Mend.{mended}
use Rattle.edid_as_source.specs.Source.{as_source}
use Rattle.edid_base.specs.declared.base.Base.{Base}
use Rattle.edid_core.specs.Bytes.{edid_bytes}
use Rattle.edid_core.specs.declared.edid.Edid.{Edid}
use Rattle.edid_cta.specs.declared.raw.Ext.{Ext}
use Rattle.infoframe_check.specs.Found.{is_right}
use Rattle.infoframe_check.specs.Records.{infoframe_text}
use Rattle.infoframe_tables.specs.Reading.{read_of}
use Rattle.record_core.specs.declared.cell.Form.{Form}
use Rattle.cli_choice.specs.declared.choice.EdidReading.{EdidReading}
use Rattle.cli_choice.specs.declared.choice.EdidReading.TheVariants.{Strict, Overridden, AsSource, Mended, MendedOverridden}
use Rattle.cli_choice.specs.declared.choice.Recipient.{Recipient}
use Rattle.cli_choice.specs.declared.choice.Source.{Source}
use Rattle.program_edids.specs.Edids.{IsGiven, IsRead}

-- the bytes that an input gives, as they are read
abbrev pub IsReadAs : EdidReading → List ℕ → List ℕ → Type 0
IsReadAs Strict given bytes = bytes ≡ given
IsReadAs Overridden given bytes = counted given ≡ Ok bytes
IsReadAs AsSource given bytes = as_source given ≡ Ok bytes
IsReadAs Mended given bytes = mended false given ≡ Ok bytes
IsReadAs MendedOverridden given bytes = (half : List ℕ) × (mended true given ≡ Ok half) × (counted half ≡ Ok bytes)

-- those of the EDID of an input for a device
abbrev pub IsFor : Source → EdidReading → Recipient → List ℕ → List ℕ → Type 0
IsFor source reading place input own = (given : List ℕ) × (bytes : List ℕ) × IsRead source input given × IsReadAs reading given bytes × IsGiven place bytes own

-- The text of what an InfoFrame says is written; it is as it has to be, and an EDID of these parts offers it.
abbrev pub TellsOffered : Form → List ℕ → Base → List Ext → Option (List ℕ) → Option (List ℕ) → Type 0
TellsOffered form frame base extensions old new = (is_right base extensions frame ≡ true) × Appends old new (infoframe_text form base extensions frame)

-- the same of the EDID of some bytes
abbrev pub ShowsOfferedBy : Form → List ℕ → List ℕ → Option (List ℕ) → Option (List ℕ) → Type 0
ShowsOfferedBy form frame bytes old new = (e : Edid) × (edid_bytes e ≡ bytes) × TellsOffered form frame e.base e.extensions.items old new

-- What an InfoFrame in hex says, which is as it has to be, and which the EDID of an input for a device offers.
abbrev pub IsOffered : Source → EdidReading → Recipient → Form → List ℕ → List ℕ → List ℕ → Type 0
IsOffered source reading place form hex input text =
    (frame : List ℕ) × (read_of hex ≡ Ok frame) × (e : Edid) × IsFor source reading place input (edid_bytes e) × (is_right e.base e.extensions.items frame ≡ true)
    × (text ≡ infoframe_text form e.base e.extensions.items frame)

-- it is written, and nothing else
abbrev pub ShowsOffered : Source → EdidReading → Recipient → Form → List ℕ → List ℕ → Option (List ℕ) → Option (List ℕ) → Type 0
ShowsOffered source reading place form hex input old new = (text : List ℕ) × IsOffered source reading place form hex input text × Appends old new text
