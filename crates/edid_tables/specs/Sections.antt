-- The tables, as they stand in the code, and what they are called.
use Rattle.std.specs.Prelude.{ℕ, List, codes}
use Rattle.edid_fields.specs.Forms.{Part, table_in_constant}
use Rattle.edid_tables.specs.declared.base.TheConstants.{HEADER, PRODUCT, DISPLAY, COLORS, ESTABLISHED, STANDARD, COUNT, CHECKSUM, CTA}
use Rattle.edid_tables.specs.declared.timings.TheConstants.{TIMING}
use Rattle.edid_tables.specs.declared.displays.TheConstants.{TEXT, OTHER, DUMMY, LIMITS, POINTS, MORE, MANAGEMENT, CODES, ESTABLISHED_III}
use Rattle.edid_tables.specs.declared.sections.Section.{Section}
use Rattle.edid_tables.specs.declared.sections.Section.TheVariants.{Header, Product, Display, Colors, Established, Standard, Count, Checksum, Cta, Timing, Text, Other, Dummy, Limits, Points, More, Management, Codes, EstablishedIii}

unfoldable pub header_parts : List Part
header_parts = table_in_constant HEADER

unfoldable pub product_parts : List Part
product_parts = table_in_constant PRODUCT

unfoldable pub display_parts : List Part
display_parts = table_in_constant DISPLAY

unfoldable pub colors_parts : List Part
colors_parts = table_in_constant COLORS

unfoldable pub established_parts : List Part
established_parts = table_in_constant ESTABLISHED

unfoldable pub standard_parts : List Part
standard_parts = table_in_constant STANDARD

unfoldable pub count_parts : List Part
count_parts = table_in_constant COUNT

unfoldable pub checksum_parts : List Part
checksum_parts = table_in_constant CHECKSUM

unfoldable pub cta_parts : List Part
cta_parts = table_in_constant CTA

unfoldable pub timing_parts : List Part
timing_parts = table_in_constant TIMING

unfoldable pub text_parts : List Part
text_parts = table_in_constant TEXT

unfoldable pub other_parts : List Part
other_parts = table_in_constant OTHER

unfoldable pub dummy_parts : List Part
dummy_parts = table_in_constant DUMMY

unfoldable pub limits_parts : List Part
limits_parts = table_in_constant LIMITS

unfoldable pub points_parts : List Part
points_parts = table_in_constant POINTS

unfoldable pub more_parts : List Part
more_parts = table_in_constant MORE

unfoldable pub management_parts : List Part
management_parts = table_in_constant MANAGEMENT

unfoldable pub codes_parts : List Part
codes_parts = table_in_constant CODES

unfoldable pub established_iii_parts : List Part
established_iii_parts = table_in_constant ESTABLISHED_III

abbrev pub section_parts : Section → List Part
section_parts Header = header_parts
section_parts Product = product_parts
section_parts Display = display_parts
section_parts Colors = colors_parts
section_parts Established = established_parts
section_parts Standard = standard_parts
section_parts Count = count_parts
section_parts Checksum = checksum_parts
section_parts Cta = cta_parts
section_parts Timing = timing_parts
section_parts Text = text_parts
section_parts Other = other_parts
section_parts Dummy = dummy_parts
section_parts Limits = limits_parts
section_parts Points = points_parts
section_parts More = more_parts
section_parts Management = management_parts
section_parts Codes = codes_parts
section_parts EstablishedIii = established_iii_parts

abbrev pub section_name : Section → List ℕ
section_name Header = codes "Header"
section_name Product = codes "Vendor & Product Identification"
section_name Display = codes "EDID Structure Version & Revision, Basic Display Parameters & Features"
section_name Colors = codes "Color Characteristics"
section_name Established = codes "Established Timings"
section_name Standard = codes "Standard Timings"
section_name Count = codes "Extension Block Count N"
section_name Checksum = codes "Checksum C"
section_name Cta = codes "CTA Extension"
section_name Timing = codes "Detailed Timing Descriptor"
section_name Text = codes "Display Descriptor, text"
section_name Other = codes "Display Descriptor"
section_name Dummy = codes "Dummy Descriptor"
section_name Limits = codes "Display Range Limits"
section_name Points = codes "Color Point Data"
section_name More = codes "Standard Timing Identifications"
section_name Management = codes "Display Color Management Data"
section_name Codes = codes "CVT 3 Byte Timing Codes"
section_name EstablishedIii = codes "Established Timings III"
