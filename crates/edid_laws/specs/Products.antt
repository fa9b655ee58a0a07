-- The names and serial numbers of a receiver's in what it answers with (own).
use Rattle.std.specs.Prelude.{◌≡◌, ◌<◌, Bool, true, false, List, ◌++◌, length, map}
use Rattle.std.specs.List.{list_any}
use Rattle.edid_base.specs.declared.base.Base.{Base}
use Rattle.edid_base.specs.declared.descriptor.Descriptor.{Descriptor}
use Rattle.edid_base.specs.declared.descriptor.Descriptor.TheVariants.{Timing, Name, Text, SerialText, Range, Dummy, Raw}
use Rattle.edid_merge.specs.Bases.{IsRenamed}
use Rattle.edid_merge.specs.Labels.{labelled, unplaced}
use Rattle.edid_merge.specs.declared.labels.Label.{Label}

abbrev pub is_unused : Descriptor → Bool
is_unused Dummy = true
is_unused (Name text) = false
is_unused (SerialText text) = false
is_unused (Timing timing) = false
is_unused (Text text) = false
is_unused (Range limits) = false
is_unused (Raw raw) = false

-- a descriptor, where a place for a name or a serial number is as good as unused
abbrev pub but_labels : Descriptor → Descriptor
but_labels Dummy = Dummy
but_labels (Name text) = Dummy
but_labels (SerialText text) = Dummy
but_labels (Timing timing) = Timing timing
but_labels (Text text) = Text text
but_labels (Range limits) = Range limits
but_labels (Raw raw) = Raw raw

-- Each name and each serial number of the receiver's stands once, in their order, or has no place, and no others stand; where one has
-- none, no place is unused; and all else of the display's stands where it stood.
pub record StandOnce (own display merged : List Descriptor) : Type 0 where
  pub once : (label : Label) → labelled label own ≡ labelled label merged ++ unplaced label own merged
  pub full : (label : Label) → 0 < length (unplaced label own merged) → list_any is_unused merged ≡ false
  pub others : map but_labels merged ≡ map but_labels display

-- of a base block whose product is the receiver's
abbrev pub LabelsStandOnce : Type 0
LabelsStandOnce = (display own merged : Base) → IsRenamed display own merged → StandOnce own.descriptors display.descriptors merged.descriptors
