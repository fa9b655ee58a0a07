use Rattle.std.proofs.Common.{◌≡◌, ◌∙◌, ap, sym, false}
use Rattle.edid_merge.specs.Merge.{has_one_cta}
use Rattle.edid_merge.proofs.repeater.one_edid.Goals as goal

pub returns-else-has_one_cta-clause-refused : goal.returns-else-has_one_cta-clause-refused
returns-else-has_one_cta-clause-refused c =
    let none : has_one_cta c.in-Ok.edid.extensions.items ≡ false = ap has_one_cta (sym c.as_slice.ensures.value) ∙ sym c.has_one_cta.ensures ∙ c.if-has_one_cta.false in
    (c.in-Ok.edid, c.in-Ok.ensures.found, none)
