use Rattle.std.proofs.Common.{refl}
use Rattle.std.proofs.lemmas.List.{take_rest}
use Rattle.conversion_fields.proofs.Adding.{cut_added}
use Rattle.conversion_fields.proofs.whole.+add_cut.Goals as goal

pub returns-in-len1-up : goal.returns-in-len1-up
returns-in-len1-up g t c =
    cut_added c.args.at c.args.rows.now _ _ c.args.bytes.now c.before-own.result.now c.after.result.now c.section_of.result c.args.out.now c.add_section.new.out c.add_cut.new.out
    c.in-len1-up.len_at_least refl c.before-own.ensures.value c.after.ensures c.section_of.ensures c.add_section.ensures (rw take_rest at c.add_cut.ensures)
