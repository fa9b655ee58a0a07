-- The 128 bytes of a base block (E-EDID Release A, section 3.1).
use Rattle.std.specs.Prelude.{ℕ, ◌-◌, List, [], ◌∷◌, ◌++◌, flat_map}
use Rattle.std.specs.Int.{w16, w32, to_le_bytes}
use Rattle.edid_base.specs.Check.{block_with_checksum}
use Rattle.edid_base.specs.Chroma.{chroma_bytes}
use Rattle.edid_base.specs.Descriptor.{descriptor_bytes}
use Rattle.edid_base.specs.Header.{header}
use Rattle.edid_base.specs.Maker.{maker_bytes}
use Rattle.edid_base.specs.Revisions.{revision_bytes}
use Rattle.edid_base.specs.Standard.{standard_bytes}
use Rattle.edid_base.specs.declared.base.Base.{Base}

-- bytes 8 to 24
abbrev pub product_bytes : Base → List ℕ
product_bytes b =
    maker_bytes b.maker ++ (to_le_bytes w16 b.product ++ (to_le_bytes w32 b.serial ++ (b.week ∷ (b.year - 1990) ∷ (revision_bytes b.revision ++ (
    b.input ∷ b.width ∷ b.height ∷ b.gamma ∷ b.features ∷ [])))))

-- bytes 25 to 126
abbrev pub display_bytes : Base → List ℕ
display_bytes b =
    chroma_bytes b.chroma ++ (b.established ++ (flat_map standard_bytes b.standard ++ (flat_map descriptor_bytes b.descriptors ++ (b.extensions ∷ []))))

abbrev pub front_bytes : Base → List ℕ
front_bytes b = header ++ (product_bytes b ++ display_bytes b)

abbrev pub base_bytes : Base → List ℕ
base_bytes b = block_with_checksum (front_bytes b)
