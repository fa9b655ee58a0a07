-- The 18 bytes of a descriptor, a detailed timing descriptor or a display descriptor (E-EDID Release A, sections 3.10.2
-- and 3.10.3). That what fits no form is kept raw is own.
use Rattle.std.specs.Prelude.{ℕ, List, ◌∷◌, replicate}
use Rattle.edid_base.specs.Chars.{text_bytes}
use Rattle.edid_base.specs.Timing.{timing_bytes}
use Rattle.edid_base.specs.declared.descriptor.Descriptor.{Descriptor}
use Rattle.edid_base.specs.declared.descriptor.Descriptor.TheVariants.{Timing, Name, Text, SerialText, Range, Dummy, Raw}

-- a tag and the 14 bytes after it
abbrev pub tagged_bytes : ℕ → List ℕ → List ℕ
tagged_bytes tag rest = 0 ∷ 0 ∷ 0 ∷ tag ∷ rest

abbrev pub descriptor_bytes : Descriptor → List ℕ
descriptor_bytes (Timing timing) = timing_bytes timing
descriptor_bytes (Name text) = tagged_bytes 0xfc (0 ∷ text_bytes text.chars.items)
descriptor_bytes (Text text) = tagged_bytes 0xfe (0 ∷ text_bytes text.chars.items)
descriptor_bytes (SerialText text) = tagged_bytes 0xff (0 ∷ text_bytes text.chars.items)
descriptor_bytes (Range limits) = tagged_bytes 0xfd limits.bytes
descriptor_bytes Dummy = tagged_bytes 0x10 (replicate 14 0)
descriptor_bytes (Raw raw) = raw.bytes
