use Rattle.std.proofs.Common.{◌≡◌, length, sym, ◌∙◌, arith}
use Rattle.std.proofs.lemmas.Bool.Decides.{nat_tests}
use Rattle.edid_dump.specs.Spelled.{words_bytes}
use Rattle.edid_dump.proofs.Pairing.{filled_full}
use Rattle.edid_dump.proofs.spelled.push_words.Goals as goal

pub returns : goal.returns
returns c =
    let full : length c.words.bytes.items ≡ 512 = grind (arith, nat_tests) in
    sym c.words.invariant.so_far ∙ filled_full c.words.bytes.items (words_bytes c.args.spelling c.words.rest.now) c.words.invariant.some full
