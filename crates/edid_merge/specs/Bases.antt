-- The base block that a receiver answers with (E-EDID Release A, sections 3.4 and 3.10.3; which of it is its own: own).
use Rattle.std.specs.Prelude.{◌≡◌}
use Rattle.edid_base.specs.declared.base.Base.{Base}
use Rattle.edid_merge.specs.Labels.{merged_descriptors}
use Rattle.edid_merge.specs.declared.table.Whose.{Whose}
use Rattle.edid_merge.specs.declared.table.Whose.TheVariants.{Keep, Own}

-- the receiver's product: its maker, its code, its serial number and its date
pub record HasProduct (own merged : Base) : Type 0 where
  pub maker : merged.maker ≡ own.maker
  pub product : merged.product ≡ own.product
  pub serial : merged.serial ≡ own.serial
  pub week : merged.week ≡ own.week
  pub year : merged.year ≡ own.year

-- all else is the display's
pub record HasPicture (display merged : Base) : Type 0 where
  pub revision : merged.revision ≡ display.revision
  pub input : merged.input ≡ display.input
  pub width : merged.width ≡ display.width
  pub height : merged.height ≡ display.height
  pub gamma : merged.gamma ≡ display.gamma
  pub features : merged.features ≡ display.features
  pub chroma : merged.chroma ≡ display.chroma
  pub established : merged.established ≡ display.established
  pub standard : merged.standard ≡ display.standard
  pub extensions : merged.extensions ≡ display.extensions

pub record IsRenamed (display own merged : Base) : Type 0 where
  pub product : HasProduct own merged
  pub picture : HasPicture display merged
  pub descriptors : merged.descriptors ≡ merged_descriptors own.descriptors display.descriptors

abbrev pub IsMergedBase : Whose → Base → Base → Base → Type 0
IsMergedBase Keep display own merged = merged ≡ display
IsMergedBase Own display own merged = IsRenamed display own merged
