-- The 128 bytes of an extension.
use Rattle.std.specs.Prelude.{ℕ, List}
use Rattle.edid_cta.specs.Whole.{cta_bytes, bare_bytes}
use Rattle.edid_cta.specs.declared.raw.Ext.{Ext}
use Rattle.edid_cta.specs.declared.raw.Ext.TheVariants.{Cta, Bare, Raw}

abbrev pub ext_bytes : Ext → List ℕ
ext_bytes (Cta c) = cta_bytes c
ext_bytes (Bare b) = bare_bytes b
ext_bytes (Raw r) = r.bytes
