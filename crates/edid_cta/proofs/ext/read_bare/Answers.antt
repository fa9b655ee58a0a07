use Rattle.std.proofs.Common.{get_or, drop, ap, ◌∙◌, refl, sym}
use Rattle.edid_base.proofs.Bytes.{are_bytes-cells, are_bytes-cons, are_bytes-drop, are_bytes-take}
use Rattle.edid_base.specs.Bytes.{are_bytes}
use Rattle.edid_cta.proofs.WholeLemmas.{whole_is}
use Rattle.edid_cta.proofs.ext.read_bare.Goals as goal

pub returns-clause-found : goal.returns-clause-found
returns-clause-found c =
    whole_is c.args.bytes.now 2 3 0 _ c.part.result c.told-bytes (sym c.if-bytes-ne2.false) (sym c.if-bytes-ne3.false) (sym c.if-bytes-ne0.false) refl
    c.part.ensures (c.fits-bytes 127) c.requires

pub invariant_of-result-clause-bytes_fit : goal.invariant_of-result-clause-bytes_fit
invariant_of-result-clause-bytes_fit c =
    let bytes = c.args.bytes.now in
    let tail = ap are_bytes c.part.ensures ∙ are_bytes-take 123 (drop 4 bytes) (are_bytes-drop 4 bytes (are_bytes-cells bytes c.fits-bytes)) in
    are_bytes-cons (get_or bytes 3 0) c.part.result (c.fits-bytes 3) tail
