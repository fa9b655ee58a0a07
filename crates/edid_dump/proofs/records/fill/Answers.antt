use Rattle.std.proofs.Common.{◌≡◌, ◌≤◌, Some, length, refl, sym, ◌∙◌, arith}
use Rattle.std.proofs.lemmas.Bool.Decides.{nat_tests}
use Rattle.edid_dump.proofs.Pairing.{filled_full}
use Rattle.edid_dump.proofs.Recording.{fill_end}
use Rattle.edid_dump.proofs.records.fill.Goals as goal

pub returns-in_default : goal.returns-in_default
returns-in_default c =
    let none : length c.bytes.rest.now ≡ 0 = omega (arith, c.in_default.len_below) in
    let fits : length c.bytes.bytes.items ≤ 512 = grind (arith, nat_tests) in
    sym c.bytes.invariant ∙ fill_end c.bytes.bytes.items c.bytes.rest.now none fits

pub returns : goal.returns
returns c =
    let full : length c.bytes.bytes.items ≡ 512 = grind (arith, nat_tests) in
    sym c.bytes.invariant ∙ filled_full c.bytes.bytes.items (Some c.bytes.rest.now) refl full
