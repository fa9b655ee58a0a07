use Rattle.std.proofs.Common.{◌≡◌, ◌+◌, ◌-◌, ◌*◌, ◌≤◌, ℕ, [], ◌∷◌, length, take, drop, flat_map, ap, arith, ◌∙◌, length-append}
use Rattle.edid_cta.specs.Ext.{ext_bytes}
use Rattle.edid_core.proofs.Lengths.{counted}
use Rattle.edid_core.proofs.Reading.{one_more, sums_so, all_read}
use Rattle.edid_core.proofs.bytes.read_extensions.Goals as goal

pub loop-number-preserved : goal.loop-number-preserved
loop-number-preserved c =
    let bytes = c.args.bytes.now in
    let old = c.loop-number.extensions.items in
    let number = c.loop-number.number in
    let ext = c.in-Ok.extension in
    let count = c.loop-number.invariant.count in
    let least : 1 ≤ number = omega (arith, count) in
    let next : number ≡ number + 1 - 1 = omega arith in
    let spelled = c.in-Ok.ensures.found ∙ c.block_at.ensures in
    let len = ap length c.push.ensures.items ∙ length-append old (ext ∷ []) in
    record {
      read = ap (flat_map ext_bytes) c.push.ensures.items ∙ one_more bytes old ext number least c.loop-number.invariant.read spelled ∙ ap (λ (k : ℕ). take (128 * k) (drop 128 bytes)) next;
      count = omega (arith, len, count);
      summed = sums_so bytes ext number c.loop-number.invariant.summed spelled;
    }

pub returns-clause-found : goal.returns-clause-found
returns-clause-found c =
    let bytes = c.args.bytes.now in
    let number = c.loop-number.number in
    let count = c.loop-number.invariant.count in
    let least : 1 ≤ number = omega (arith, count) in
    let blocks = counted bytes c.requires.length in
    let len = blocks.len in
    let test = c.loop-number-test.false in
    let most : length bytes ≤ 128 * number = omega (arith, test, len) in
    c.loop-number.invariant.read ∙ all_read bytes number most least
