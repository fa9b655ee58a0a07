-- Laws of the difference of two EDIDs.
use Rattle.std.specs.Prelude.{◌≡◌, List, [], map}
use Rattle.std.specs.List.{filter_map}
use Rattle.edid_core.specs.Bytes.{edid_bytes}
use Rattle.edid_core.specs.declared.edid.Edid.{Edid as EdidValue}
use Rattle.record_core.specs.declared.cell.Form.{Form}
use Rattle.edid_difference.specs.Alignment.{Entry, aligned}
use Rattle.edid_difference.specs.Records.{difference_text}
use Rattle.edid_difference.specs.declared.part.Part.{Part}

-- Of EDIDs with the same bytes nothing is told.
abbrev pub SameAreAlike : Type 0
SameAreAlike = (form : Form) (e f : EdidValue) → edid_bytes e ≡ edid_bytes f → difference_text form e.base e.extensions.items f.base f.extensions.items ≡ []

-- Only of these.
abbrev pub AlikeAreSame : Type 0
AlikeAreSame = (form : Form) (e f : EdidValue) → difference_text form e.base e.extensions.items f.base f.extensions.items ≡ [] → edid_bytes e ≡ edid_bytes f

-- Each part of either EDID stands in the alignment once, in its order.
abbrev pub FirstsStand : Type 0
FirstsStand = (xs ys : List Part) → filter_map (λ (e : Entry). e.0) (aligned xs ys) ≡ xs

abbrev pub SecondsStand : Type 0
SecondsStand = (xs ys : List Part) → filter_map (λ (e : Entry). e.1) (aligned xs ys) ≡ ys

abbrev pub exchanged : Entry → Entry
exchanged e = (e.1, e.0)

-- Where the two EDIDs are exchanged, so are both sides of the alignment.
abbrev pub Exchanges : Type 0
Exchanges = (xs ys : List Part) → aligned ys xs ≡ map exchanged (aligned xs ys)
