use Rattle.edid_base.proofs.Bytes.{are_bytes-cells}
use Rattle.edid_base.proofs.descriptor.Descriptor.read.Goals as goal

pub invariant_of-result-clause-bytes_fit : goal.invariant_of-result-clause-bytes_fit
invariant_of-result-clause-bytes_fit c = are_bytes-cells c.args.bytes.now c.fits-bytes
