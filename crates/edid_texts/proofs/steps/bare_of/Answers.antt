use Rattle.std.proofs.Common.{◌<◌, ◌∙◌, arith}
use Rattle.edid_base.proofs.Bytes.{are_bytes-cons}
use Rattle.edid_texts.proofs.ExtSteps.{bare_whole}
use Rattle.edid_texts.proofs.steps.bare_of.Goals as goal

pub invariant_of-result : goal.invariant_of-result
invariant_of-result c =
    let reported = c.in-Some.ensures in
    let flags : c.args.flags < 256 = omega arith in
    record {
      whole = bare_whole c.args.bytes.now c.array_from.result reported.0 (c.array_from.ensures.value ∙ (c.as_slice.ensures.value ∙ reported.1));
      bytes_fit = are_bytes-cons c.args.flags c.array_from.result flags c.array_from.ensures.fit;
    }
