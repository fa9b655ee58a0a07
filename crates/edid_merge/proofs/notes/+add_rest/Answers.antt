use Rattle.std.proofs.Common.{◌∙◌, sym, arith}
use Rattle.std.proofs.lemmas.List.{take_rest}
use Rattle.edid_merge.proofs.Noting.{first_noted, nothing_left}
use Rattle.edid_merge.proofs.notes.+add_rest.Goals as goal

pub returns-in_default : goal.returns-in_default
returns-in_default g t c = nothing_left c.args.placed c.args.label c.args.own.now c.args.out.now c.in_default.len_below

pub returns-else-placed-gt0 : goal.returns-else-placed-gt0
returns-else-placed-gt0 g t c =
    first_noted c.args.placed c.args.label c.first-item.result _ c.args.own.now c.args.out.now c.add_note.new.out c.add_rest-else-placed-gt0.new.out
    c.in-len1-up.len_at_least c.first-item.is (sym c.is_labelled.ensures ∙ c.if-not-is_labelled.false) (omega (arith, c.if-placed-gt0.false))
    c.add_note.ensures (rw take_rest at c.add_rest-else-placed-gt0.ensures)
