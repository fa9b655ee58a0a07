use Rattle.std.proofs.Common.{refl, ◌+◌}
use Rattle.std.proofs.lemmas.List.{take_rest}
use Rattle.conversion_fields.proofs.Adding.{first_then}
use Rattle.conversion_fields.specs.Parts.{parts_text}
use Rattle.conversion_fields.specs.Whole.{ext_parts, exts_text}
use Rattle.conversion_fields.proofs.whole.+add_exts.Goals as goal

pub returns-in-len1-up : goal.returns-in-len1-up
unfolding exts_text
returns-in-len1-up g t c =
    let n = c.args.number in
    first_then (λ y. parts_text n (ext_parts y)) (λ y ys. exts_text (n + 1) ys) (λ ys. exts_text n ys)
    (λ y ys. refl) c.args.extensions.now c.ext-item.result _ _ _ _ c.in-len1-up.len_at_least c.ext-item.is c.add_ext.ensures (rw take_rest at c.add_exts.ensures)
