use Rattle.std.proofs.Common.{◌≡◌, ◌∙◌, ◌+◌, ◌-◌, ◌*◌, ap, arith, length, subst}
use Rattle.text_core.specs.Adds.{Adds}
use Rattle.edid_as_source.specs.Notes.{rest_by}
use Rattle.edid_as_source.proofs.notes.add_rest.Goals as goal

pub returns : goal.returns
returns g c =
    let left : c.saturating_sub.result ≡ length c.args.bytes.now - (128 * c.extension_count.result + 128) = grind (arith, c.from.ensures, c.saturating_sub.ensures) in
    subst (λ n. Adds c.args.out.now c.add_rest_by.new.out (rest_by n)) (left ∙ ap (λ n. length c.args.bytes.now - (128 * n + 128)) c.extension_count.ensures) c.add_rest_by.ensures
