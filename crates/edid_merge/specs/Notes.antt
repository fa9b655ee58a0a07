-- What of a receiver's product has no place in the EDID that it answers with: a line each (own), names first.
use Rattle.std.specs.Prelude.{◌≡◌, ℕ, ◌⊎◌, List, [], ◌++◌, flat_map, codes}
use Rattle.edid_base.specs.declared.descriptor.Descriptor.{Descriptor}
use Rattle.edid_base.specs.declared.descriptor.Descriptor.TheVariants.{Timing, Name, Text, SerialText, Range, Dummy, Raw}
use Rattle.edid_core.specs.declared.edid.Edid.{Edid as EdidValue}
use Rattle.edid_merge.specs.Labels.{unplaced}
use Rattle.edid_merge.specs.Merge.{HasRoom, IsMerged, IsNoAnswer, IsOne}
use Rattle.edid_merge.specs.declared.labels.Label.TheVariants as labels
use Rattle.edid_merge.specs.declared.repeater.MergeError.{MergeError}
use Rattle.edid_merge.specs.declared.table.Table.{Table}
use Rattle.edid_merge.specs.declared.table.Whose.{Whose}
use Rattle.edid_merge.specs.declared.table.Whose.TheVariants.{Keep, Own}

abbrev pub name_note : List ℕ → List ℕ
name_note chars = codes "hdminet: passed over name \"" ++ chars ++ codes "\"\n"

abbrev pub serial_note : List ℕ → List ℕ
serial_note chars = codes "hdminet: passed over serial-text \"" ++ chars ++ codes "\"\n"

abbrev pub descriptor_note : Descriptor → List ℕ
descriptor_note (Name text) = name_note text.chars.items
descriptor_note (SerialText text) = serial_note text.chars.items
descriptor_note (Timing timing) = []
descriptor_note (Text text) = []
descriptor_note (Range limits) = []
descriptor_note Dummy = []
descriptor_note (Raw raw) = []

abbrev pub descriptor_notes : List Descriptor → List ℕ
descriptor_notes ds = flat_map descriptor_note ds

abbrev pub product_notes : Whose → List Descriptor → List Descriptor → List ℕ
product_notes Keep own merged = []
product_notes Own own merged = descriptor_notes (unplaced labels.Name own merged) ++ descriptor_notes (unplaced labels.Serial own merged)

-- of two EDIDs that have an answer there is what is left of the product, and of others nothing
abbrev pub IsNoted : Table → EdidValue → EdidValue → List ℕ → Type 0
IsNoted t d o text =
    ((m : EdidValue) × IsMerged t d o m × (text ≡ product_notes t.product o.base.descriptors m.base.descriptors)) ⊎ ((¬ HasRoom t d o) × (text ≡ []))

-- of bytes that are two such EDIDs, and of others nothing
abbrev pub IsNotes : Table → List ℕ → List ℕ → List ℕ → Type 0
IsNotes t display own text =
    ((d : EdidValue) × (o : EdidValue) × IsOne display d × IsOne own o × IsNoted t d o text)
    ⊎ (((error : MergeError) × IsNoAnswer t display own error) × (text ≡ []))
