-- Each table passes the check of tables.
use Rattle.std.proofs.Common.{◌≡◌, List, true, refl, subst, sym}
use Rattle.edid_fields.specs.Fields.{is_table, is_tiled}
use Rattle.edid_fields.specs.Forms.{Part}
use Rattle.edid_tables.specs.Sections.{section_parts, header_parts, product_parts, display_parts, colors_parts, established_parts, standard_parts, count_parts, checksum_parts, cta_parts, timing_parts, text_parts, other_parts, dummy_parts, limits_parts, points_parts, more_parts, management_parts, codes_parts, established_iii_parts}
use Rattle.edid_tables.specs.declared.sections.Section.{Section}
use Rattle.edid_tables.specs.declared.sections.Section.TheVariants.{Header, Product, Display, Colors, Established, Standard, Count, Checksum, Cta, Timing, Text, Other, Dummy, Limits, Points, More, Management, Codes, EstablishedIii}

pub are_tables : (s : Section) → is_table (section_parts s) ≡ true
unfolding is_tiled header_parts product_parts display_parts colors_parts established_parts standard_parts count_parts checksum_parts cta_parts timing_parts text_parts other_parts dummy_parts limits_parts points_parts more_parts management_parts codes_parts established_iii_parts
are_tables Header = refl
are_tables Product = refl
are_tables Display = refl
are_tables Colors = refl
are_tables Established = refl
are_tables Standard = refl
are_tables Count = refl
are_tables Checksum = refl
are_tables Cta = refl
are_tables Timing = refl
are_tables Text = refl
are_tables Other = refl
are_tables Dummy = refl
are_tables Limits = refl
are_tables Points = refl
are_tables More = refl
are_tables Management = refl
are_tables Codes = refl
are_tables EstablishedIii = refl

-- what the code has is one too
pub is_one : (s : Section) (parts : List Part) → parts ≡ section_parts s → is_table parts ≡ true
is_one s parts same = subst (λ x. is_table x ≡ true) (sym same) (are_tables s)
