-- What the sections of a base block are (E-EDID Release A, revision 2, section 3.10, table 3.22).
use Rattle.std.specs.Prelude.{ℕ, ◌==◌, ◌&&◌, ◌||◌, if◌then◌else◌, List, slice_index}
use Rattle.edid_tables.specs.declared.sections.Section.{Section}
use Rattle.edid_tables.specs.declared.sections.Section.TheVariants.{Timing, Text, Limits, Points, More, Management, Codes, EstablishedIii, Dummy, Other}

-- a byte past the end is 0
abbrev pub byte_at : List ℕ → ℕ → ℕ
byte_at bytes place = slice_index bytes place

abbrev pub display_section : ℕ → Section
display_section tag =
    if (tag == 0xff) || ((tag == 0xfe) || (tag == 0xfc)) then Text
    else if tag == 0xfd then Limits
    else if tag == 0xfb then Points
    else if tag == 0xfa then More
    else if tag == 0xf9 then Management
    else if tag == 0xf8 then Codes
    else if tag == 0xf7 then EstablishedIii
    else if tag == 0x10 then Dummy
    else Other

-- a detailed timing, whose first two bytes are not both 0, or a display descriptor
abbrev pub descriptor_section : List ℕ → Section
descriptor_section bytes = if (byte_at bytes 0 == 0) && (byte_at bytes 1 == 0) then display_section (byte_at bytes 3) else Timing
