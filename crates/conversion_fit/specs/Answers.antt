-- What a receiver answers with, of a display's EDID and of its own, where formats that the link does not carry are left out (own).
use Rattle.std.specs.Prelude.{◌≡◌, ℕ, Bool, true, false, not, List}
use Rattle.edid_core.specs.Bytes.{edid_bytes}
use Rattle.edid_core.specs.declared.edid.Edid.{Edid}
use Rattle.edid_merge.specs.Merge.{IsMerged, IsOne}
use Rattle.edid_merge.specs.declared.table.Formats.{Formats}
use Rattle.edid_merge.specs.declared.table.Formats.TheVariants.{All, Carried, ByForum}
use Rattle.edid_merge.specs.declared.table.Table.{Table}
use Rattle.rules_contents.specs.Contents.{is_forum_block}
use Rattle.rules_values.specs.ExtParts.{some_block}
use Rattle.conversion_fit.specs.Whole.{IsFitted}

-- formats are left out, by the row of a table and the receiver's own EDID
abbrev pub leaves_out : Formats → Edid → Bool
leaves_out All own = false
leaves_out Carried own = true
leaves_out ByForum own = not (some_block is_forum_block own.extensions.items)

abbrev pub IsPassedBy : Bool → Edid → Edid → Type 0
IsPassedBy true merged e = IsFitted merged e
IsPassedBy false merged e = e ≡ merged

-- what is passed on of what was made of the two
abbrev pub IsPassed : Table → Edid → Edid → Edid → Type 0
IsPassed t own merged e = IsPassedBy (leaves_out t.formats own) merged e

-- these bytes are the EDID that a receiver answers with, of a display with these and of its own
abbrev pub IsAnswer : Table → List ℕ → List ℕ → List ℕ → Type 0
IsAnswer t display own bytes = (d : Edid) × (o : Edid) × (m : Edid) × (e : Edid) × IsOne display d × IsOne own o × IsMerged t d o m × IsPassed t o m e × (edid_bytes e ≡ bytes)
