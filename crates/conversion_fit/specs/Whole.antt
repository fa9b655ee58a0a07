-- An EDID without the formats that its link does not carry (own), as a relation of the two.
use Rattle.std.specs.Prelude.{◌≡◌, ℕ, ◌+◌, ◌*◌, ◌/◌, Bool, if◌then◌else◌, List, [], ◌∷◌, length, flat_map, map}
use Rattle.std.specs.List.{list_any}
use Rattle.edid_base.specs.Timing.{timing_bytes}
use Rattle.edid_base.specs.declared.base.Base.{Base}
use Rattle.edid_core.specs.declared.edid.Edid.{Edid}
use Rattle.edid_cta.specs.Block.{block_bytes}
use Rattle.edid_cta.specs.declared.cta.Cta.{Cta as CtaValue}
use Rattle.edid_cta.specs.declared.raw.Ext.{Ext}
use Rattle.edid_cta.specs.declared.raw.Ext.TheVariants.{Cta, Bare, Raw}
use Rattle.edid_cta.specs.declared.raw.RawExt.{RawExt}
use Rattle.rules_link.specs.Offers.{is_timing_beyond}
use Rattle.rules_values.specs.ExtParts.{timings_of}
use Rattle.conversion_fit.specs.Blocks.{fitted_blocks, part_of}
use Rattle.conversion_fit.specs.Sections.{fitted_section}
use Rattle.conversion_fit.specs.Timings.{leader, led_descriptors, led_timings}
use Rattle.conversion_fit.specs.Zeros.{zeros_after}

-- Of the flags the low four bits count native timings, the first ones (CTA-861-G, section 7.5): none where one goes.
abbrev pub left_flags : Bool → ℕ → ℕ
left_flags loses flags = if loses then flags / 16 * 16 else flags

pub record IsFittedCta (b : Base) (xs : List Ext) (c fitted : CtaValue) : Type 0 where
  pub flags : fitted.flags ≡ left_flags (list_any (is_timing_beyond xs) (timings_of b xs)) c.flags
  pub blocks : map part_of fitted.blocks.items ≡ fitted_blocks xs c.blocks.items
  pub timings : fitted.timings.items ≡ led_timings xs b.descriptors (leader xs b) c.timings.items
  pub tail : fitted.tail.items ≡ zeros_after (length (flat_map block_bytes fitted.blocks.items) + length (flat_map timing_bytes fitted.timings.items))

abbrev pub IsFittedRaw : List Ext → RawExt → Ext → Type 0
IsFittedRaw xs r (Raw s) = s.bytes ≡ fitted_section xs r.bytes
IsFittedRaw xs r x = ⊥

abbrev pub IsFittedExt : Base → List Ext → Ext → Ext → Type 0
IsFittedExt b xs (Cta c) (Cta d) = IsFittedCta b xs c d
IsFittedExt b xs (Bare c) x = x ≡ Bare c
IsFittedExt b xs (Raw r) x = IsFittedRaw xs r x
IsFittedExt b xs x y = ⊥

abbrev pub AreFitted : Base → List Ext → List Ext → List Ext → Type 0
AreFitted b xs [] [] = Unit {0}
AreFitted b xs (x ∷ some) (y ∷ fitted) = IsFittedExt b xs x y × AreFitted b xs some fitted
AreFitted b xs some fitted = ⊥

-- all but the descriptors stays
pub record IsFittedBase (xs : List Ext) (b fitted : Base) : Type 0 where
  pub maker : fitted.maker ≡ b.maker
  pub product : fitted.product ≡ b.product
  pub serial : fitted.serial ≡ b.serial
  pub week : fitted.week ≡ b.week
  pub year : fitted.year ≡ b.year
  pub revision : fitted.revision ≡ b.revision
  pub input : fitted.input ≡ b.input
  pub width : fitted.width ≡ b.width
  pub height : fitted.height ≡ b.height
  pub gamma : fitted.gamma ≡ b.gamma
  pub features : fitted.features ≡ b.features
  pub chroma : fitted.chroma ≡ b.chroma
  pub established : fitted.established ≡ b.established
  pub standard : fitted.standard ≡ b.standard
  pub extensions : fitted.extensions ≡ b.extensions
  pub descriptors : fitted.descriptors ≡ led_descriptors xs b.descriptors (leader xs b)

pub record IsFitted (e fitted : Edid) : Type 0 where
  pub base : IsFittedBase e.extensions.items e.base fitted.base
  pub extensions : AreFitted e.base e.extensions.items e.extensions.items fitted.extensions.items
