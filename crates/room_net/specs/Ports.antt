-- A physical address is the path of ports from the root (HDMI 1.4, 8.7.2; CEC 10.1), wherever it is said: what a switch says
-- and selects by its own address, and what its ports' EDIDs have by the tree.
use Rattle.std.specs.Prelude.{◌≡◌, ◌≢◌, ℕ, ◌<◌, ◌≤◌, ◌↔◌, List, [], ◌∷◌, ◌++◌, length, All, IfSome, Some}
use Rattle.text_core.specs.declared.phys.Phys.{Phys}
use Rattle.edid_tree.specs.Node.{Node}
use Rattle.edid_tree.specs.Path.{path_of, address_by, address_of}
use Rattle.edid_tree.specs.Port.{port_address}
use Rattle.device_features.specs.Ways.{below, port_towards}

-- each device that is plugged in is in a port from 1 to 15
abbrev pub HasPorts : List Node → Type 0
HasPorts tree = All (λ node. IfSome node.plug (λ plug. (0 < plug.port) × (plug.port ≤ 15))) tree

-- What a switch says its port's address is, by its own, is the port's address in the tree; below four levels both are F.F.F.F.
abbrev pub BelowIsThePorts : Type 0
BelowIsThePorts = (tree : List Node) (device port : ℕ) (own : Phys) → HasPorts tree → address_of tree device ≡ Some own → below own port ≡ port_address tree device port

-- a path leads on by a port
abbrev pub IsBelowPort : List ℕ → ℕ → List ℕ → Type 0
IsBelowPort path port longer = (more : List ℕ) × (longer ≡ path ++ port ∷ more)

-- By the addresses of two devices on the wire, the second one within four levels, a port of the first leads to the second
-- exactly where the first is not the root and the second is at or below that port.
abbrev pub PortsLeadBelow : Type 0
PortsLeadBelow = (tree : List Node) (switch device port : ℕ) (own to : List ℕ) → HasPorts tree → path_of tree switch ≡ Some own → path_of tree device ≡ Some to
    → length to ≤ 4 → 0 < port → ((port_towards (address_by own) (address_by to) ≡ Some port) ↔ ((own ≢ []) × IsBelowPort own port to))
