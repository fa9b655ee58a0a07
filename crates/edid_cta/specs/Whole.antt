-- The 128 bytes of a block of the CTA form.
use Rattle.std.specs.Prelude.{ℕ, List}
use Rattle.edid_base.specs.Check.{block_with_checksum}
use Rattle.edid_cta.specs.Cta.{cta_front, bare_front}
use Rattle.edid_cta.specs.declared.cta.Cta.{Cta}
use Rattle.edid_cta.specs.declared.cta.Bare.{Bare}

abbrev pub cta_bytes : Cta → List ℕ
cta_bytes c = block_with_checksum (cta_front c.flags c.blocks.items c.timings.items c.tail.items)

abbrev pub bare_bytes : Bare → List ℕ
bare_bytes b = block_with_checksum (bare_front b.flags b.tail)
