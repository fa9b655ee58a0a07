use Rattle.std.proofs.Common.{◌-◌, ◌++◌, get_or, drop, refl, sym, ap, ◌∙◌, flat_map}
use Rattle.edid_base.specs.Timing.{timing_bytes}
use Rattle.edid_base.proofs.Bytes.{are_bytes-cells, are_bytes-cons, are_bytes-drop, are_bytes-take, are_bytes-after}
use Rattle.edid_base.specs.Bytes.{are_bytes}
use Rattle.edid_cta.proofs.WholeLemmas.{whole_is, body_is, length_between}
use Rattle.edid_cta.proofs.ext.read_cta.Goals as goal

pub returns-clause-found : goal.returns-clause-found
returns-clause-found c =
    let bytes = c.args.bytes.now in
    let least = c.if-end-lt4.false in
    let most = c.if-end-gt127.false in
    let timings = flat_map timing_bytes c.read_timings-timings.result.0.items in
    let spelled = c.in_ok-read_blocks.ensures.found in
    let rest = c.read_timings-timings.ensures.found in
    let tail = c.append.ensures.items ∙ ap (λ xs. xs ++ c.read_timings-timings.result.1.now) c.new-tail.ensures in
    let len = length_between bytes (get_or bytes 2 0) _ c.told-bytes least most spelled in
    whole_is bytes 2 3 _ _ _ c.told-bytes (sym c.if-bytes-ne2.false) (sym c.if-bytes-ne3.false) len refl
    (body_is bytes (get_or bytes 2 0) _ (timings ++ c.append.new.block.items) least most spelled (ap (λ xs. timings ++ xs) tail ∙ rest)) (c.fits-bytes 127) c.requires.summed

pub returns-clause-bytes_fit : goal.returns-clause-bytes_fit
returns-clause-bytes_fit c =
    let bytes = c.args.bytes.now in
    let end = get_or bytes 2 0 in
    let timings = flat_map timing_bytes c.read_timings-timings.result.0.items in
    let rest = c.read_timings-timings.result.1.now in
    let whole = are_bytes-take (127 - end) (drop end bytes) (are_bytes-drop end bytes (are_bytes-cells bytes c.fits-bytes)) in
    let after = are_bytes-after timings rest (ap are_bytes c.read_timings-timings.ensures.found ∙ whole) in
    let tail = c.append.ensures.items ∙ ap (λ xs. xs ++ rest) c.new-tail.ensures in
    are_bytes-cons (get_or bytes 3 0) c.append.new.block.items (c.fits-bytes 3) (ap are_bytes tail ∙ after)
