use Rattle.std.proofs.Common.{refl, subst, ◌+◌, List, ℕ}
use Rattle.std.proofs.lemmas.List.{take_rest}
use Rattle.text_core.specs.Adds.{Adds}
use Rattle.edid_base.specs.Timing.{timing_bytes}
use Rattle.edid_tables.specs.declared.sections.Section.TheVariants.{Timing}
use Rattle.conversion_fields.proofs.Adding.{first_then}
use Rattle.conversion_fields.specs.Parts.{part_text, parts_text}
use Rattle.conversion_fields.specs.Whole.{section_part, timings_parts}
use Rattle.conversion_fields.proofs.whole.+add_timings.Goals as goal

pub returns-in-len1-up : goal.returns-in-len1-up
unfolding timings_parts
returns-in-len1-up g t c =
    let n = c.args.number in
    let at = c.args.at in
    first_then (λ y. part_text n (section_part at Timing (timing_bytes y))) (λ y ys. parts_text n (timings_parts (at + 18) ys)) (λ ys. parts_text n (timings_parts at ys))
    (λ y ys. refl) c.args.timings.now c.timing-item.result _ c.args.out.now c.add_section.new.out c.add_timings.new.out c.in-len1-up.len_at_least c.timing-item.is
    (subst (λ (p : List ℕ). Adds c.args.out.now c.add_section.new.out (part_text n (section_part at Timing p))) c.write.ensures c.add_section.ensures)
    (rw take_rest at c.add_timings.ensures)
