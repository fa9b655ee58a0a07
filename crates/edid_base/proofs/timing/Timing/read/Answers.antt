use Rattle.std.proofs.Common.{◌≡◌, ◌+◌, ◌*◌, get_or, sym, ◌∙◌, arith}
use Rattle.edid_base.proofs.Bytes.{cells}
use Rattle.edid_base.proofs.TimingLemmas.{read_back}
use Rattle.edid_base.proofs.timing.Timing.read.Goals as goal

pub returns : goal.returns
returns c =
    let bytes = c.args.bytes.now in
    let clock : c.from_le_bytes-clock.result ≡ get_or bytes 0 0 + get_or bytes 1 0 * 256 = omega (arith, c.from_le_bytes-clock.ensures) in
    read_back (λ k. get_or bytes k 0) c.fits-bytes c.from_le_bytes-clock.result clock ∙ sym (cells bytes 18 c.told-bytes)
