use Rattle.std.proofs.Common.{subst}
use Rattle.std.proofs.lemmas.List.{take_rest}
use Rattle.edid_tables.specs.declared.sections.Section.TheVariants.{Timing}
use Rattle.conversion_fields.proofs.Tiles.{SectionLaw, first_timing, no_timings}
use Rattle.conversion_fields.proofs.laws.+timings_bits_stand_once.Goals as goal

pub returns-in-len1-up : goal.returns-in-len1-up
returns-in-len1-up t c at =
    first_timing c.args.timings.now c.timing-item.result _ c.in-len1-up.len_at_least c.timing-item.is
    (subst (SectionLaw Timing) c.write.ensures c.section_bits_stand_once.ensures) (rw take_rest at c.timings_bits_stand_once.ensures) at

pub returns-in_default : goal.returns-in_default
returns-in_default t c at = no_timings c.args.timings.now c.in_default.len_below at
