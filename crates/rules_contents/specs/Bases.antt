-- What the rules ask of values of the base block (E-EDID Release A, section 3, unless another is named).
use Rattle.std.specs.Prelude.{ℕ, ◌/◌, ◌%◌, ◌==◌, Bool, true, false, ◌&&◌, ◌||◌, not, nat_lt, nat_le, if◌then◌else◌, List, [], ◌∷◌, slice_index, drop}
use Rattle.std.specs.List.{list_all}
use Rattle.edid_base.specs.declared.base.Base.{Base}
use Rattle.edid_base.specs.declared.base.Revision.{Revision}
use Rattle.edid_base.specs.declared.base.Revision.TheVariants.{Three, Four}
use Rattle.edid_base.specs.declared.descriptor.Descriptor.{Descriptor}
use Rattle.edid_base.specs.declared.descriptor.Descriptor.TheVariants.{Raw}
use Rattle.edid_base.specs.Descriptor.{descriptor_bytes}
use Rattle.edid_fields.specs.Words.{some_reserved}
use Rattle.edid_tables.specs.Cuts.{descriptor_section}
use Rattle.edid_tables.specs.Sections.{section_parts}
use Rattle.rules_values.specs.BaseParts.{is_tagged, claims_srgb}

-- ---- texts: printable characters, and where they are fewer than 13 a line feed and spaces after them (section 3.10.3)

abbrev pub is_printable : ℕ → Bool
is_printable c = nat_le 0x20 c && nat_le c 0x7e

abbrev pub are_spaces : List ℕ → Bool
are_spaces bytes = list_all (λ b. b == 0x20) bytes

abbrev pub is_written : List ℕ → Bool
is_written [] = true
is_written (c ∷ cs) = if c == 0x0a then are_spaces cs else is_printable c && is_written cs

-- tag FC, FE or FF: a name, a text, a serial number
abbrev pub has_text_tag : List ℕ → Bool
has_text_tag bytes = is_tagged 0xfc bytes || is_tagged 0xfe bytes || is_tagged 0xff bytes

-- bytes 2 and 4 are reserved
abbrev pub has_clear_bytes : List ℕ → Bool
has_clear_bytes bytes = (slice_index bytes 2 == 0) && (slice_index bytes 4 == 0)

-- the other 13 bytes are the text
abbrev pub has_text_form : List ℕ → Bool
has_text_form bytes = has_clear_bytes bytes && is_written (drop 5 bytes)

-- all others have the form that they are read by
abbrev pub is_ill_text : Descriptor → Bool
is_ill_text (Raw r) = has_text_tag r.bytes && not (has_text_form r.bytes)
is_ill_text _ = false

-- A field of it has a value that the standard reserves, by its table (section 3.10); what a name, a text and a serial number may have is
-- above.
abbrev pub is_reserved_descriptor : Descriptor → Bool
is_reserved_descriptor d = not (has_text_tag (descriptor_bytes d)) && some_reserved (section_parts (descriptor_section (descriptor_bytes d))) (descriptor_bytes d)

-- ---- numbers

-- 1 to 53, in 1.4 also 54 (E-EDID 1.4, section 3.4.4); 0 is none, and 255 is a model year's
abbrev pub is_reserved_week : Base → Bool
is_reserved_week b = nat_lt 54 b.week && nat_lt b.week 255

-- no display is made so late (own)
abbrev pub is_late_year : Base → Bool
is_late_year b = nat_lt 2050 b.year

-- the gamma of sRGB is 2.2 (IEC 61966-2-1), which is 120 (section 3.6.3)
abbrev pub has_other_gamma : Base → Bool
has_other_gamma b = claims_srgb b && not (b.gamma == 120)

-- Of a digital input, bit 7, bits 6 to 1 are reserved in 1.3 (section 3.6.1). In 1.4 bits 6 to 4 are its depth, of which 7 is reserved, and
-- bits 3 to 0 its interface, up to 5 (E-EDID 1.4, section 3.6.1).
abbrev pub is_reserved_input : Revision → ℕ → Bool
is_reserved_input Three input = nat_lt 0 (input / 2 % 64)
is_reserved_input Four input = (input / 16 % 8 == 7) || nat_lt 5 (input % 16)

abbrev pub has_reserved_input : Base → Bool
has_reserved_input b = nat_le 128 b.input && is_reserved_input b.revision b.input
