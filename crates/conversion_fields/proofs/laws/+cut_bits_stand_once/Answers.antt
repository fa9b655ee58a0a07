use Rattle.std.proofs.Common.{refl, rules}
use Rattle.std.proofs.lemmas.List.{take_rest}
use Rattle.conversion_fields.proofs.Tiles.{first_section, no_sections, total_rest}
use Rattle.conversion_fields.proofs.laws.+cut_bits_stand_once.Goals as goal

pub returns-in-len1-up : goal.returns-in-len1-up
returns-in-len1-up t c at =
    first_section c.args.rows.now _ _ c.args.bytes.now c.before-own.result.now c.after.result.now c.section_of.result c.in-len1-up.len_at_least refl c.requires
    c.before-own.ensures.value c.after.ensures c.section_of.ensures c.section_bits_stand_once.ensures (rw take_rest at c.cut_bits_stand_once.ensures) at

pub returns-in_default : goal.returns-in_default
returns-in_default t c at = no_sections c.args.rows.now c.args.bytes.now c.in_default.len_below c.requires at

pub cut_bits_stand_once-requires : goal.cut_bits_stand_once-requires
cut_bits_stand_once-requires t c =
    rw take_rest (search rules, total_rest c.args.rows.now _ _ c.args.bytes.now c.after.result.now c.in-len1-up.len_at_least refl c.requires c.after.ensures)
