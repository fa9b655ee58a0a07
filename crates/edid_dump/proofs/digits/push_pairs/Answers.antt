use Rattle.std.proofs.Common.{◌≡◌, length, sym, ◌∙◌, arith}
use Rattle.std.proofs.lemmas.Bool.Decides.{nat_tests}
use Rattle.std.proofs.lemmas.Grind.{common_steps}
use Rattle.edid_dump.specs.Digits.{pairs}
use Rattle.edid_dump.proofs.Pairing.{filled_full, filled_onto, pairs_some, some_onto}
use Rattle.edid_dump.proofs.digits.push_pairs.Goals as goal

pub pairs-preserved : goal.pairs-preserved
pairs-preserved c = record {
  so_far = grind (arith, common_steps, pairs_some, filled_onto);
  some = grind (arith, common_steps, pairs_some, some_onto);
}

pub returns : goal.returns
returns c =
    let full : length c.pairs.bytes.items ≡ 512 = grind (arith, nat_tests) in
    sym c.pairs.invariant.so_far ∙ filled_full c.pairs.bytes.items (pairs c.args.column c.pairs.rest.now) c.pairs.invariant.some full
