-- The forms in which an EDID is written (own).
use Rattle.std.specs.Prelude.{ℕ, List, ◌++◌, codes}
use Rattle.std.specs.List.{flat_map}
use Rattle.text_core.specs.Piece.{hex_text}
use Rattle.edid_base.specs.Base.{base_bytes}
use Rattle.edid_base.specs.declared.base.Base.{Base}
use Rattle.edid_cta.specs.Ext.{ext_bytes}
use Rattle.edid_cta.specs.declared.raw.Ext.{Ext}
use Rattle.edid_core.specs.Bytes.{edid_bytes}
use Rattle.edid_core.specs.declared.edid.Edid.{Edid}
use Rattle.edid_texts.specs.Lines.{edid_text, part_text}
use Rattle.conversion_calls.specs.declared.form.EdidForm.{EdidForm}
use Rattle.conversion_calls.specs.declared.form.EdidForm.TheVariants.{Text, Hex, Bytes, C, Xml}
use Rattle.conversion_calls.specs.Programs.{c_text, xml_text}

-- two lower-case hex digits for each byte, and a line feed
abbrev pub hex_line : List ℕ → List ℕ
hex_line bytes = flat_map hex_text bytes ++ codes "\n"

abbrev pub form_text : EdidForm → Edid → List ℕ
form_text Text e = edid_text e
form_text Hex e = hex_line (edid_bytes e)
form_text Bytes e = edid_bytes e
form_text C e = c_text (edid_bytes e)
form_text Xml e = xml_text (edid_bytes e)

-- of an EDID's parts
abbrev pub parts_text : EdidForm → Base → List Ext → List ℕ
parts_text Text base exts = part_text base exts
parts_text Hex base exts = hex_line (base_bytes base ++ flat_map ext_bytes exts)
parts_text Bytes base exts = base_bytes base ++ flat_map ext_bytes exts
parts_text C base exts = c_text (base_bytes base ++ flat_map ext_bytes exts)
parts_text Xml base exts = xml_text (base_bytes base ++ flat_map ext_bytes exts)
