use Rattle.std.proofs.Common.{◌≡◌, length, sym, ◌∙◌, arith}
use Rattle.std.proofs.lemmas.Bool.Decides.{nat_tests}
use Rattle.std.proofs.lemmas.Grind.{common_steps}
use Rattle.edid_dump.specs.Digits.{listed}
use Rattle.edid_dump.proofs.Listing.{listed_some}
use Rattle.edid_dump.proofs.Pairing.{filled_full, filled_onto, some_onto}
use Rattle.edid_dump.proofs.lists.push_listed.Goals as goal

pub bytes-preserved-then-not-is_prefix : goal.bytes-preserved-then-not-is_prefix
bytes-preserved-then-not-is_prefix c = record {
  so_far = grind (arith, common_steps, listed_some, filled_onto);
  some = grind (arith, common_steps, listed_some, some_onto);
}

pub returns : goal.returns
returns c =
    let full : length c.bytes.bytes.items ≡ 512 = grind (arith, nat_tests) in
    sym c.bytes.invariant.so_far ∙ filled_full c.bytes.bytes.items (listed c.bytes.rest.now) c.bytes.invariant.some full
