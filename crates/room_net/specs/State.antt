-- Where a run stands between its events and rounds (own).
use Rattle.std.specs.Prelude.{ℕ, List, [], ◌∷◌, ◌+◌, map, Option, Some, None, Bool, true, false}
use Rattle.line_wave.specs.declared.Stretch.{Stretch}
use Rattle.text_core.specs.declared.phys.Phys.{Phys}
use Rattle.edid_tree.specs.Node.{Node}
use Rattle.edid_tree.specs.Path.{address_of}
use Rattle.device_core.specs.State.{State}
use Rattle.device_core.specs.Place.{is_on_wire, fresh, after_joining, after_leaving}
use Rattle.room_net.specs.Start.{sooner, least_start, first_onset}

-- the tree, its devices by number, the pulses that no round has taken, the end of the last round and that
-- of its last low stretch; and where a round was begun to be taken edge by edge, the instant before which its line is given
pub record NetState : Type 0 where
  pub tree : List Node
  pub devices : List State
  pub pulses : List Stretch
  pub close : ℕ
  pub rest : ℕ
  pub heard : Option ℕ

-- each device, from number n on, changed by its number
abbrev pub each_from : ℕ → (ℕ → State → State) → List State → List State
each_from n change [] = []
each_from n change (d ∷ devices) = change n d ∷ each_from (n + 1) change devices

-- A device that the tree joins to its root comes on the wire, and one that it no longer joins leaves it, at once: hot plug
-- detect (HDMI 1.4, 8.5) is not emulated (own).
abbrev pub after_move : ℕ → ℕ → Bool → Option Phys → State → State
after_move at number false (Some address) d = after_joining 16 d number address at
after_move at number false None d = d
after_move at number true (Some address) d = d
after_move at number true None d = after_leaving d

abbrev pub moved_by : ℕ → List Node → ℕ → State → State
moved_by at tree number d = after_move at number (is_on_wire d) (address_of tree number) d

abbrev pub with_tree : ℕ → List Node → NetState → NetState
with_tree at tree s = record s { tree = tree; devices = each_from 0 (moved_by at tree) s.devices }

-- a tree's devices, all off the wire
abbrev pub loose : List Node → List State
loose tree = map (λ node. fresh node.kind node.name node.ports) tree

-- A run begins at 0, where the devices that the tree joins come on the wire.
abbrev pub first_net : List Node → List Stretch → NetState
first_net tree pulses = with_tree 0 tree (record { tree = tree; devices = loose tree; pulses = pulses; close = 0; rest = 0; heard = None })

-- the begin of the next round: the least start of a device, or the onset of the next pulse where that is sooner
abbrev pub next_start : NetState → Option ℕ
next_start s = sooner (least_start s.rest s.devices) (first_onset s.pulses)
