use Rattle.edid_fields.specs.Forms.{table_in_code}
use Rattle.edid_tables.proofs.AreSections.{is_one}
use Rattle.edid_tables.specs.declared.sections.Section.TheVariants.{Header, Product, Display, Colors, Established, Standard, Count, Checksum, Cta, Timing, Text, Other, Dummy, Limits, Points, More, Management, Codes, EstablishedIii}
use Rattle.edid_tables.proofs.sections.section_parts.Goals as goal

pub returns-in-Header-clause-table : goal.returns-in-Header-clause-table
returns-in-Header-clause-table c = is_one Header (table_in_code c.header_parts.result.now) c.header_parts.ensures

pub returns-in-Product-clause-table : goal.returns-in-Product-clause-table
returns-in-Product-clause-table c = is_one Product (table_in_code c.product_parts.result.now) c.product_parts.ensures

pub returns-in-Display-clause-table : goal.returns-in-Display-clause-table
returns-in-Display-clause-table c = is_one Display (table_in_code c.display_parts.result.now) c.display_parts.ensures

pub returns-in-Colors-clause-table : goal.returns-in-Colors-clause-table
returns-in-Colors-clause-table c = is_one Colors (table_in_code c.colors_parts.result.now) c.colors_parts.ensures

pub returns-in-Established-clause-table : goal.returns-in-Established-clause-table
returns-in-Established-clause-table c = is_one Established (table_in_code c.established_parts.result.now) c.established_parts.ensures

pub returns-in-Standard-clause-table : goal.returns-in-Standard-clause-table
returns-in-Standard-clause-table c = is_one Standard (table_in_code c.standard_parts.result.now) c.standard_parts.ensures

pub returns-in-Count-clause-table : goal.returns-in-Count-clause-table
returns-in-Count-clause-table c = is_one Count (table_in_code c.count_parts.result.now) c.count_parts.ensures

pub returns-in-Checksum-clause-table : goal.returns-in-Checksum-clause-table
returns-in-Checksum-clause-table c = is_one Checksum (table_in_code c.checksum_parts.result.now) c.checksum_parts.ensures

pub returns-in-Cta-clause-table : goal.returns-in-Cta-clause-table
returns-in-Cta-clause-table c = is_one Cta (table_in_code c.cta_parts.result.now) c.cta_parts.ensures

pub returns-in-Timing-clause-table : goal.returns-in-Timing-clause-table
returns-in-Timing-clause-table c = is_one Timing (table_in_code c.timing_parts.result.now) c.timing_parts.ensures

pub returns-in-Text-clause-table : goal.returns-in-Text-clause-table
returns-in-Text-clause-table c = is_one Text (table_in_code c.text_parts.result.now) c.text_parts.ensures

pub returns-in-Other-clause-table : goal.returns-in-Other-clause-table
returns-in-Other-clause-table c = is_one Other (table_in_code c.other_parts.result.now) c.other_parts.ensures

pub returns-in-Dummy-clause-table : goal.returns-in-Dummy-clause-table
returns-in-Dummy-clause-table c = is_one Dummy (table_in_code c.dummy_parts.result.now) c.dummy_parts.ensures

pub returns-in-Limits-clause-table : goal.returns-in-Limits-clause-table
returns-in-Limits-clause-table c = is_one Limits (table_in_code c.limits_parts.result.now) c.limits_parts.ensures

pub returns-in-Points-clause-table : goal.returns-in-Points-clause-table
returns-in-Points-clause-table c = is_one Points (table_in_code c.points_parts.result.now) c.points_parts.ensures

pub returns-in-More-clause-table : goal.returns-in-More-clause-table
returns-in-More-clause-table c = is_one More (table_in_code c.more_parts.result.now) c.more_parts.ensures

pub returns-in-Management-clause-table : goal.returns-in-Management-clause-table
returns-in-Management-clause-table c = is_one Management (table_in_code c.management_parts.result.now) c.management_parts.ensures

pub returns-in-Codes-clause-table : goal.returns-in-Codes-clause-table
returns-in-Codes-clause-table c = is_one Codes (table_in_code c.codes_parts.result.now) c.codes_parts.ensures

pub returns-in-EstablishedIii-clause-table : goal.returns-in-EstablishedIii-clause-table
returns-in-EstablishedIii-clause-table c = is_one EstablishedIii (table_in_code c.established_iii_parts.result.now) c.established_iii_parts.ensures
