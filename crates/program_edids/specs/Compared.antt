-- Where two EDIDs differ (own).
use Rattle.std.specs.Prelude.{◌≡◌, ℕ, Bool, true, false, List, [], Option, Ok}
use Rattle.std.specs.Io.KnownBytes.{Appends}
use Rattle.edid_base.specs.declared.base.Base.{Base}
use Rattle.edid_core.specs.Bytes.{edid_bytes}
use Rattle.edid_core.specs.declared.edid.Edid.{Edid}
use Rattle.edid_cta.specs.declared.raw.Ext.{Ext}
use Rattle.edid_difference.specs.Records.{difference_text}
use Rattle.edid_dump.specs.Nth.{nth_in_dump}
use Rattle.record_core.specs.declared.cell.Form.{Form}
use Rattle.program_edids.specs.Edids.{display_half, own_half}

-- the text of where two EDIDs of these parts differ is written, and is empty
abbrev pub TellsSame : Form → Base → List Ext → Base → List Ext → Option (List ℕ) → Option (List ℕ) → Type 0
TellsSame form b xs c ys old new = (difference_text form b xs c ys ≡ []) × Appends old new (difference_text form b xs c ys)

-- the same of an EDID of these parts and of that of some bytes
abbrev pub AreSame : Form → Base → List Ext → List ℕ → Option (List ℕ) → Option (List ℕ) → Type 0
AreSame form b xs second old new = (f : Edid) × (edid_bytes f ≡ second) × TellsSame form b xs f.base f.extensions.items old new

-- and of those of some bytes and of others
abbrev pub AreAlike : Form → List ℕ → List ℕ → Option (List ℕ) → Option (List ℕ) → Type 0
AreAlike form first second old new = (e : Edid) × (edid_bytes e ≡ first) × AreSame form e.base e.extensions.items second old new

-- the bytes of two EDIDs: the first dump of a text and the second, or one after the other
abbrev pub AreTwo : Bool → List ℕ → List ℕ → List ℕ → Type 0
AreTwo true input first second = (nth_in_dump 1 input ≡ Ok first) × (nth_in_dump 2 input ≡ Ok second)
AreTwo false input first second = (first ≡ display_half input) × (second ≡ own_half input)

-- Two EDIDs of an input are alike, and a text says so: it is empty.
abbrev pub IsAlike : Bool → Form → List ℕ → List ℕ → Type 0
IsAlike dumps form input text =
    (e : Edid) × (f : Edid) × AreTwo dumps input (edid_bytes e) (edid_bytes f) × (difference_text form e.base e.extensions.items f.base f.extensions.items ≡ [])
    × (text ≡ difference_text form e.base e.extensions.items f.base f.extensions.items)

-- it is written, and nothing else
abbrev pub ShowsAlike : Bool → Form → List ℕ → Option (List ℕ) → Option (List ℕ) → Type 0
ShowsAlike dumps form input old new = (text : List ℕ) × IsAlike dumps form input text × Appends old new text
