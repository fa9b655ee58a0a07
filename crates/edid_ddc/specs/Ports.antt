-- What a device learns from the port that it is plugged into (HDMI 1.4, sections 8.7.2 and 8.7.3).
use Rattle.std.specs.Prelude.{◌≡◌, ℕ, false, Some, Result, Ok, List}
use Rattle.text_core.specs.declared.phys.Phys.{Phys}
use Rattle.edid_core.specs.Bytes.{edid_bytes}
use Rattle.edid_core.specs.declared.edid.Edid.{Edid}
use Rattle.edid_tree.specs.Node.{Node}
use Rattle.edid_tree.specs.Path.{address_of}
use Rattle.edid_tree.specs.Port.{IsPassedOn}
use Rattle.edid_tree.specs.Tree.{is_root, plug_of}
use Rattle.edid_tree.specs.declared.plug.Plug.{Plug}
use Rattle.edid_ddc.specs.Learn.{IsLearnt}
use Rattle.edid_ddc.specs.declared.error.DdcError.{DdcError}

-- whatever is learnt of the EDID that a port passes on is the address of the device that is plugged in there
abbrev pub PortsReportPlaces : Type 0
PortsReportPlaces = (tree : List Node) (root passed : Edid) (device : ℕ) (plug : Plug) (address : Phys) (result : Result Phys DdcError)
    → is_root tree device ≡ false → plug_of tree device ≡ Some plug → address_of tree device ≡ Some address
    → IsPassedOn root tree plug.parent plug.port passed → IsLearnt (edid_bytes passed) result → result ≡ Ok address
