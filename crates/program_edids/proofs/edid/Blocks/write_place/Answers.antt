use Rattle.std.proofs.Common.{ℕ, List, Some, refl, subst}
use Rattle.conversion_calls.specs.PassedOn.{Reports, address_line}
use Rattle.program_edids.proofs.edid.Blocks.write_place.Goals as goal

pub returns : goal.returns
returns g c =
    let reported = c.in_ok-write_address.ensures.answers in
    let P : List ℕ → Type 0 = λ b. Reports b (Some reported.0) in
    (address_line reported.0, (c.in_ok-given.given.items, c.in_ok-given.ensures, (reported.0, subst P c.as_slice.ensures.value reported.1, refl)), reported.2)
