use Rattle.std.proofs.Common.{refl, inl, inr, []}
use Rattle.text_core.proofs.Adding.{nothing}
use Rattle.edid_merge.specs.Notes.{product_notes}
use Rattle.edid_merge.proofs.notes.add_of_pair.Goals as goal

pub returns-in-Err : goal.returns-in-Err
returns-in-Err g c = ([], inr (c.in-Err.ensures.refused, refl), nothing c.args.out.now)

pub returns-in-Ok : goal.returns-in-Ok
returns-in-Ok g c =
    (product_notes c.args.table.now.product c.args.own.now.base.descriptors c.in-Ok.merged.base.descriptors, inl (c.in-Ok.merged, c.in-Ok.ensures.merged, refl), c.add_product.ensures)
