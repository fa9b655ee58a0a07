use Rattle.std.proofs.Common.{◌≡◌, ◌∙◌, ◌≤◌, length, ap, arith}
use Rattle.edid_as_source.specs.Count.{with_count}
use Rattle.program_edids.proofs.SoundLemmas.{counted_long}
use Rattle.program_edids.proofs.edid_judged.counted_base.Goals as goal

pub part-requires : goal.part-requires
part-requires c =
    let same : length c.as_slice.result.now ≡ length (with_count c.args.bytes.now c.args.count) = ap length (c.as_slice.ensures.value ∙ c.with_count.ensures) in
    let long : 128 ≤ length (with_count c.args.bytes.now c.args.count) = counted_long c.args.bytes.now c.args.count (omega (arith, c.if-bytes-lt-LEAST.false)) in
    (omega arith, omega (arith, same, long))
