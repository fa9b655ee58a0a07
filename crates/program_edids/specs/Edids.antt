-- What is written of an EDID (own).
use Rattle.std.specs.Prelude.{◌≡◌, ℕ, ◌+◌, ◌*◌, Bool, true, false, nat_lt, List, [], length, take, drop, Option, Some, Ok, if◌then◌else◌, slice_index}
use Rattle.std.specs.Io.KnownBytes.{Appends}
use Rattle.conversion_fields.specs.Whole.{edid_text as fields_text}
use Rattle.conversion_notes.specs.EdidMeaning.{meaning_of}
use Rattle.conversion_notes.specs.Meanings.{plain_text}
use Rattle.edid_core.specs.Bytes.{edid_bytes}
use Rattle.edid_core.specs.declared.edid.Edid.{Edid}
use Rattle.edid_core.specs.declared.passing.AudioFrom.TheVariants.{Television, Amplifier}
use Rattle.rules_check.specs.Findings.{findings}
use Rattle.rules_check.specs.Text.{some_failure}
use Rattle.rules_records.specs.Records.{findings_record}
use Rattle.rules_check.specs.declared.rule.Origin.{Origin}
use Rattle.rules_check.specs.declared.rule.Origin.TheVariants as origins
use Rattle.conversion_calls.specs.Form.{form_text, hex_line}
use Rattle.conversion_calls.specs.Programs.{c_text, xml_text}
use Rattle.conversion_calls.specs.PassedOn.{Reports, address_line}
use Rattle.conversion_calls.specs.Passing.{IsPassedOn}
use Rattle.conversion_calls.specs.declared.form.EdidForm.{EdidForm}
use Rattle.conversion_calls.specs.declared.form.EdidForm.TheVariants as forms
use Rattle.conversion_calls.specs.declared.passing.Passing.{Passing}
use Rattle.conversion_calls.specs.declared.passing.Destination.TheVariants as to
use Rattle.text_core.specs.declared.phys.Phys.{Phys}
use Rattle.edid_cta.specs.declared.raw.Ext.{Ext}
use Rattle.edid_ddc.specs.Readout.{readout_text}
use Rattle.edid_dump.specs.Nth.{nth_in_dump}
use Rattle.edid_base.specs.Base.{base_bytes}
use Rattle.edid_base.specs.declared.base.Base.{Base}
use Rattle.conversion_calls.specs.EdidText.{IsNoText}
use Rattle.edid_texts.specs.Lines.{edid_text}
use Rattle.edid_texts.specs.declared.parse.TextError.{TextError}
use Rattle.edid_texts.specs.declared.parse.TextError.TheVariants as texts
use Rattle.program_edids.specs.declared.edid_fault.EdidFault.{EdidFault}
use Rattle.program_edids.specs.declared.edid_fault.EdidFault.TheVariants as faults
use Rattle.conversion_fit.specs.Answers.{IsAnswer}
use Rattle.edid_merge.specs.Speakers.{IsSpoken}
use Rattle.edid_as_source.specs.Count.{counted, first_count, with_count}
use Rattle.edid_as_source.specs.Mend.{mended}
use Rattle.edid_as_source.specs.Source.{as_source}
use Rattle.edid_room.specs.Records.{room_text}
use Rattle.edid_spelling.specs.Canonical.{canonical_text}
use Rattle.record_core.specs.declared.cell.Form.{Form}
use Rattle.program_edids.specs.Elds.{IsEld}
use Rattle.cli_choice.specs.declared.choice.EdidReading.{EdidReading}
use Rattle.cli_choice.specs.declared.choice.EdidReading.TheVariants.{Strict, Overridden, AsSource, Mended, MendedOverridden}
use Rattle.cli_choice.specs.declared.choice.Recipient.{Recipient}
use Rattle.cli_choice.specs.declared.choice.Recipient.TheVariants.{Own, At, Port}
use Rattle.cli_choice.specs.declared.choice.EdidShape.{EdidShape}
use Rattle.cli_choice.specs.declared.choice.EdidShape.TheVariants as shapes
use Rattle.cli_choice.specs.declared.choice.Sound.{Sound}
use Rattle.cli_choice.specs.declared.choice.Sound.TheVariants.{Kept, Amplified, Spoken}
use Rattle.cli_choice.specs.declared.choice.Source.{Source}
use Rattle.cli_choice.specs.declared.choice.Source.TheVariants as sources
use Rattle.cli_choice.specs.declared.choice.View.{View}
use Rattle.cli_choice.specs.declared.choice.View.TheVariants.{Whole, Meaning, Fields, Findings, Address, Readout, Room, Eld}

abbrev pub form_of : EdidShape → EdidForm
form_of shapes.Text = forms.Text
form_of shapes.Hex = forms.Hex
form_of shapes.Bytes = forms.Bytes
form_of shapes.C = forms.C
form_of shapes.Xml = forms.Xml

-- ---- the EDID for a device

-- what is passed on to an address, and in a port
abbrev pub at : Phys → Passing
at address = record { place = to.Address address; audio = Television }

abbrev pub in_port : ℕ → Bool → Passing
in_port port amplified = record { place = to.Port port; audio = if amplified then Amplifier else Television }

-- in a port, with the sound of the device that has the EDID, or of an amplifier, whose speakers are perhaps its own
abbrev pub IsInPort : ℕ → Sound → List ℕ → Edid → Type 0
IsInPort port Kept bytes e = IsPassedOn bytes (in_port port false) e
IsInPort port Amplified bytes e = IsPassedOn bytes (in_port port true) e
IsInPort port Spoken bytes e = (p : Edid) × IsPassedOn bytes (in_port port true) p × IsSpoken (edid_bytes p) (edid_bytes e)

-- the bytes of the last
abbrev pub IsSpokenIn : ℕ → List ℕ → List ℕ → Type 0
IsSpokenIn port bytes given = (p : Edid) × IsPassedOn bytes (in_port port true) p × IsSpoken (edid_bytes p) given

abbrev pub IsFor : Recipient → List ℕ → Edid → Type 0
IsFor Own bytes e = edid_bytes e ≡ bytes
IsFor (At address) bytes e = IsPassedOn bytes (at address) e
IsFor (Port port sound) bytes e = IsInPort port sound bytes e

-- the rules are those for the EDID of a display, or for one that is passed on
abbrev pub origin_of : Recipient → Origin
origin_of Own = origins.Display
origin_of (At address) = origins.Port
origin_of (Port port sound) = origins.Port

-- the bytes of that EDID; those of the device that has them may be any
abbrev pub IsGiven : Recipient → List ℕ → List ℕ → Type 0
IsGiven Own bytes given = given ≡ bytes
IsGiven (At address) bytes given = (e : Edid) × IsPassedOn bytes (at address) e × (given ≡ edid_bytes e)
IsGiven (Port port sound) bytes given = (e : Edid) × IsInPort port sound bytes e × (given ≡ edid_bytes e)

-- ---- what is written

-- what the lines of an EDID's text mean, its fields, the address in it, and what is read of it over DDC
abbrev pub IsMeant : List ℕ → List ℕ → Type 0
IsMeant bytes text = (e : Edid) × (edid_bytes e ≡ bytes) × (text ≡ meaning_of e)

abbrev pub AreFields : List ℕ → List ℕ → Type 0
AreFields bytes text = (e : Edid) × (edid_bytes e ≡ bytes) × (text ≡ fields_text e.base e.extensions.items)

abbrev pub IsAddress : List ℕ → List ℕ → Type 0
IsAddress bytes text = (a : Phys) × Reports bytes (Some a) × (text ≡ address_line a)

abbrev pub IsReadout : List ℕ → List ℕ → Type 0
IsReadout bytes text = (e : Edid) × (edid_bytes e ≡ bytes) × (text ≡ readout_text bytes)

-- the room in its blocks
abbrev pub IsRoom : Form → List ℕ → List ℕ → Type 0
IsRoom form bytes text = (e : Edid) × (edid_bytes e ≡ bytes) × (text ≡ room_text form e.base e.extensions.items)

-- What is found of an EDID of these parts is written, and none of it is a failure.
abbrev pub IsFound : Origin → Form → Base → List Ext → List ℕ → Type 0
IsFound origin form base extensions text = (text ≡ findings_record form (findings origin base extensions)) × (some_failure (findings origin base extensions) ≡ false)

-- the same of the EDID of some bytes
abbrev pub IsFoundIn : Origin → Form → List ℕ → List ℕ → Type 0
IsFoundIn origin form bytes text = (e : Edid) × (edid_bytes e ≡ bytes) × IsFound origin form e.base e.extensions.items text

-- The text that a view of the EDID of some bytes is. Of rules that are broken it is all, and none of them is a failure.
abbrev pub IsShown : View → List ℕ → List ℕ → Type 0
IsShown (Whole place shape) bytes text = (e : Edid) × IsFor place bytes e × (text ≡ form_text (form_of shape) e)
IsShown (Meaning place) bytes text = (given : List ℕ) × IsGiven place bytes given × IsMeant given text
IsShown (Fields place) bytes text = (given : List ℕ) × IsGiven place bytes given × AreFields given text
IsShown (Findings place form) bytes text = (given : List ℕ) × IsGiven place bytes given × IsFoundIn (origin_of place) form given text
IsShown (Address place) bytes text = (given : List ℕ) × IsGiven place bytes given × IsAddress given text
IsShown (Readout place) bytes text = (given : List ℕ) × IsGiven place bytes given × IsReadout given text
IsShown (Eld place shape) bytes text = (given : List ℕ) × IsGiven place bytes given × IsEld shape given text
IsShown (Room place form) bytes text = (given : List ℕ) × IsGiven place bytes given × IsRoom form given text

-- The fields of the EDID of some bytes are written.
abbrev pub ShowsFields : List ℕ → Option (List ℕ) → Option (List ℕ) → Type 0
ShowsFields bytes old new = (text : List ℕ) × AreFields bytes text × Appends old new text

-- and so is the room in its blocks
abbrev pub ShowsRoom : Form → List ℕ → Option (List ℕ) → Option (List ℕ) → Type 0
ShowsRoom form bytes old new = (text : List ℕ) × IsRoom form bytes text × Appends old new text

abbrev pub ShowsFound : Origin → Form → Base → List Ext → Option (List ℕ) → Option (List ℕ) → Type 0
ShowsFound origin form base extensions old new = (text : List ℕ) × IsFound origin form base extensions text × Appends old new text

-- of the EDID of some bytes
abbrev pub ShowsOwn : Origin → Form → List ℕ → Option (List ℕ) → Option (List ℕ) → Type 0
ShowsOwn origin form bytes old new = (text : List ℕ) × IsFoundIn origin form bytes text × Appends old new text

-- of the EDID of some bytes, judged by a base block that counts its extensions otherwise, as others do
abbrev pub IsJudged : Origin → Form → ℕ → List ℕ → List ℕ → List ℕ → Type 0
IsJudged origin form count front bytes text =
    (e : Edid) × (edid_bytes e ≡ bytes) × (b : Base) × (base_bytes b ≡ take 128 (with_count front count)) × IsFound origin form b e.extensions.items text

abbrev pub ShowsJudged : Origin → Form → ℕ → List ℕ → List ℕ → Option (List ℕ) → Option (List ℕ) → Type 0
ShowsJudged origin form count front bytes old new = (text : List ℕ) × IsJudged origin form count front bytes text × Appends old new text

-- The bytes of an EDID for a device, with another count in byte 126.
abbrev pub IsRecounted : ℕ → Recipient → List ℕ → List ℕ → Type 0
IsRecounted count place bytes new = (given : List ℕ) × IsGiven place bytes given × ((e : Edid) × (edid_bytes e ≡ given)) × (new ≡ with_count given count)

-- The same views where the HDMI Forum's override counts the extensions: bytes that are written have the count of byte 126, and the
-- rules judge by it.
abbrev pub IsShownCounted : ℕ → View → List ℕ → List ℕ → Type 0
IsShownCounted count (Whole place shapes.Hex) bytes text = (new : List ℕ) × IsRecounted count place bytes new × (text ≡ hex_line new)
IsShownCounted count (Whole place shapes.Bytes) bytes text = (new : List ℕ) × IsRecounted count place bytes new × (text ≡ new)
IsShownCounted count (Whole place shapes.C) bytes text = (new : List ℕ) × IsRecounted count place bytes new × (text ≡ c_text new)
IsShownCounted count (Whole place shapes.Xml) bytes text = (new : List ℕ) × IsRecounted count place bytes new × (text ≡ xml_text new)
IsShownCounted count (Readout place) bytes text = (new : List ℕ) × IsRecounted count place bytes new × (text ≡ readout_text new)
IsShownCounted count (Whole place shapes.Text) bytes text = IsShown (Whole place shapes.Text) bytes text
IsShownCounted count (Meaning place) bytes text = IsShown (Meaning place) bytes text
IsShownCounted count (Fields place) bytes text = IsShown (Fields place) bytes text
IsShownCounted count (Findings place form) bytes text = (given : List ℕ) × IsGiven place bytes given × IsJudged (origin_of place) form count bytes given text
IsShownCounted count (Address place) bytes text = IsShown (Address place) bytes text
IsShownCounted count (Eld place shape) bytes text = IsShown (Eld place shape) bytes text
IsShownCounted count (Room place form) bytes text = IsShown (Room place form) bytes text

-- the same of bytes with all blocks, where that override counts them
abbrev pub IsShownOverridden : ℕ → View → List ℕ → List ℕ → Type 0
IsShownOverridden count view given text = (bytes : List ℕ) × (counted given ≡ Ok bytes) × IsShownCounted count view bytes text

-- A view of the bytes that an input gives, as they are read. An override that is mended counts, and the bytes keep the mended byte 126.
abbrev pub IsShownAs : EdidReading → ℕ → View → List ℕ → List ℕ → Type 0
IsShownAs Strict count view given text = IsShown view given text
IsShownAs Overridden count view given text = IsShownOverridden count view given text
IsShownAs AsSource count view given text = (bytes : List ℕ) × (as_source given ≡ Ok bytes) × IsShown view bytes text
IsShownAs Mended count view given text = (bytes : List ℕ) × (mended false given ≡ Ok bytes) × IsShown view bytes text
IsShownAs MendedOverridden count view given text = (bytes : List ℕ) × (mended true given ≡ Ok bytes) × IsShownOverridden (slice_index bytes 126) view bytes text

-- what is passed on is written, and nothing else
abbrev pub ShowsPassed : Passing → EdidShape → List ℕ → Option (List ℕ) → Option (List ℕ) → Type 0
ShowsPassed passing shape bytes old new = (text : List ℕ) × ((e : Edid) × IsPassedOn bytes passing e × (text ≡ form_text (form_of shape) e)) × Appends old new text

-- two EDIDs one after the other: the first is as long as its byte 126 counts
abbrev pub display_half : List ℕ → List ℕ
display_half input = if nat_lt (128 * slice_index input 126 + 128) (length input) then take (128 * slice_index input 126 + 128) input else input

abbrev pub own_half : List ℕ → List ℕ
own_half input = if nat_lt (128 * slice_index input 126 + 128) (length input) then drop (128 * slice_index input 126 + 128) input else []

-- The bytes that an input gives: those of the EDID whose one text it is; in words that text once the payloads are in hex, without the
-- lines that begin with a space, which say what those above them mean.
abbrev pub IsRead : Source → List ℕ → List ℕ → Type 0
IsRead sources.Bytes input given = given ≡ input
IsRead (sources.Dump nth) input given = nth_in_dump nth input ≡ Ok given
IsRead sources.Text input given = (e : Edid) × (edid_text e ≡ input) × (given ≡ edid_bytes e)
IsRead sources.Words input given = (e : Edid) × (edid_text e ≡ canonical_text (plain_text input)) × (given ≡ edid_bytes e)
IsRead (sources.Pair true table) input given =
    (display : List ℕ) × (own : List ℕ) × (nth_in_dump 1 input ≡ Ok display) × (nth_in_dump 2 input ≡ Ok own) × IsAnswer table display own given
IsRead (sources.Pair false table) input given = IsAnswer table (display_half input) (own_half input) given

-- the fault of the program by that of a text
abbrev pub IsFaultOf : TextError → EdidFault → Type 0
IsFaultOf (texts.Syntax line) fault = fault ≡ faults.Syntax line
IsFaultOf (texts.Field line word) fault = fault ≡ faults.Field line word
IsFaultOf texts.Memory fault = Unit {0}

-- why a text is not read: it is no EDID's, for its first line at fault, or there was no memory
abbrev pub IsTextFault : List ℕ → EdidFault → Type 0
IsTextFault text (faults.Syntax line) = IsNoText text (texts.Syntax line)
IsTextFault text (faults.Field line word) = IsNoText text (texts.Field line word)
IsTextFault text (faults.Memory cause) = Unit {0}
IsTextFault text fault = ⊥

-- The count that byte 126 keeps: a text has none, so that it is 1 there where the override stands.
abbrev pub kept_count : Source → List ℕ → ℕ
kept_count sources.Bytes given = slice_index given 126
kept_count (sources.Dump nth) given = slice_index given 126
kept_count (sources.Pair dumps table) given = slice_index given 126
kept_count sources.Text given = first_count given
kept_count sources.Words given = first_count given

-- a view is written, and nothing else
abbrev pub Shows : View → List ℕ → Option (List ℕ) → Option (List ℕ) → Type 0
Shows view bytes old new = (text : List ℕ) × IsShown view bytes text × Appends old new text

abbrev pub ShowsCounted : ℕ → View → List ℕ → Option (List ℕ) → Option (List ℕ) → Type 0
ShowsCounted count view bytes old new = (text : List ℕ) × IsShownCounted count view bytes text × Appends old new text

abbrev pub ShowsAs : EdidReading → ℕ → View → List ℕ → Option (List ℕ) → Option (List ℕ) → Type 0
ShowsAs reading count view given old new = (text : List ℕ) × IsShownAs reading count view given text × Appends old new text

-- of what an input gives
abbrev pub IsMade : Source → EdidReading → View → List ℕ → List ℕ → Type 0
IsMade source reading view input text = (given : List ℕ) × IsRead source input given × IsShownAs reading (kept_count source given) view given text

abbrev pub Made : Source → EdidReading → View → List ℕ → Option (List ℕ) → Option (List ℕ) → Type 0
Made source reading view input old new = (text : List ℕ) × IsMade source reading view input text × Appends old new text
