use Rattle.std.proofs.Common.{◌≡◌, ◌++◌, take, flat_map}
use Rattle.edid_base.specs.Base.{base_bytes}
use Rattle.edid_cta.specs.Ext.{ext_bytes}
use Rattle.edid_core.proofs.bytes.edid_to_bytes.Given as goal

abbrev pub invariant-loop-ext : goal.invariant-loop-ext
invariant-loop-ext l = l.bytes.items ≡ base_bytes l.edid.base ++ flat_map ext_bytes (take l.ext-index l.edid.extensions.items)
