use Rattle.std.proofs.Common.{sym, ◌∙◌}
use Rattle.edid_core.proofs.Passed.{first_at, unaddressed, addressed}
use Rattle.edid_core.proofs.address.first_address.Goals as goal

pub returns-in-None : goal.returns-in-None
returns-in-None c = sym (unaddressed c.args.extensions.now (sym c.first_addressed.ensures ∙ c.in-None.is))

pub returns-in-Some : goal.returns-in-Some
returns-in-Some c =
    let index = c.in-Some.index in
    let x = c.index-extensions-index.result in
    let at = first_at c.args.extensions.now index (sym c.first_addressed.ensures ∙ c.in-Some.is) in
    c.hdmi_address.ensures ∙ sym (addressed c.args.extensions.now index x at c.index-extensions-index.is)
