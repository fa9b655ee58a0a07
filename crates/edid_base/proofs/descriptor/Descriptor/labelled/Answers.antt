use Rattle.std.proofs.Common.{◌≡◌, ap, drop, take, length, length-drop, arith, sym, ◌∙◌, replicate}
use Rattle.edid_base.proofs.Bytes.{are_bytes-cells, are_bytes-drop, are_bytes-take}
use Rattle.edid_base.specs.Bytes.{are_bytes}
use Rattle.edid_base.proofs.FormLemmas.{tagged_is, tail_of, zeros_are}
use Rattle.edid_base.proofs.descriptor.Descriptor.labelled.Goals as goal

pub returns-in-253 : goal.returns-in-253
returns-in-253 c =
    let read = rw c.unwrap-bytes.ensures at c.try_from.ensures.1 in
    tagged_is c.args.bytes.now 253 c.unwrap-bytes.result c.told-bytes c.requires c.if-bytes-ne0.false c.in-253.is
    (read.same ∙ tail_of c.args.bytes.now 4 14 (sym c.told-bytes))

pub returns-in-16 : goal.returns-in-16
returns-in-16 c =
    let bytes = c.args.bytes.now in
    let tail = tail_of bytes 4 14 (sym c.told-bytes) in
    let len : length (take 14 (drop 4 bytes)) ≡ 14 = rw tail (simp length-drop (omega arith)) in
    let zeros = zeros_are (take 14 (drop 4 bytes)) (sym c.are_zeros.ensures ∙ c.if-are_zeros.true) in
    tagged_is bytes 16 (replicate 14 0) c.told-bytes c.requires c.if-bytes-ne0.false c.in-16.is (sym (rw len at zeros) ∙ tail)

pub invariant_of-result-clause-bytes_fit : goal.invariant_of-result-clause-bytes_fit
invariant_of-result-clause-bytes_fit c =
    let read = rw c.unwrap-bytes.ensures at c.try_from.ensures.1 in
    let bytes = c.args.bytes.now in
    ap are_bytes read.same ∙ are_bytes-take 14 (drop 4 bytes) (are_bytes-drop 4 bytes (are_bytes-cells bytes c.fits-bytes))
