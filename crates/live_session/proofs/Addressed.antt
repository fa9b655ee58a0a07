-- The EDID that ports pass on has an address.
use Rattle.std.proofs.Common.{None, Some, subst, refl}
use Rattle.edid_core.specs.Root.{HasAddress}
use Rattle.room_run.specs.Accepted.{AddressedEach, AddressesAreThere}

pub each_address : AddressesAreThere
each_address e has root is = subst HasAddress is has

pub has_address : AddressedEach
has_address None each = tt
has_address (Some root) each = each root refl
