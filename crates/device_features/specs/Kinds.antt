-- Kinds of devices and physical addresses, as the tables go by them.
use Rattle.std.specs.Prelude.{ℕ, ◌==◌, Bool, true, false, ◌&&◌, List, [], ◌∷◌, if◌then◌else◌}
use Rattle.std.specs.List.{list_any}
use Rattle.text_core.specs.declared.kind.Kind.{Kind}
use Rattle.text_core.specs.declared.kind.Kind.TheVariants.{Tv, Amp, Player, Recorder, Switch, Combo, Outside, OutsideTv}
use Rattle.text_core.specs.declared.phys.Phys.{Phys}
pub use Rattle.text_core.specs.Kind.{is_outside}

-- a television that does by itself what the tables say
abbrev pub is_tv : Kind → Bool
is_tv Tv = true
is_tv _ = false

abbrev pub is_amp : Kind → Bool
is_amp Amp = true
is_amp _ = false

abbrev pub is_deck : Kind → Bool
is_deck Player = true
is_deck Recorder = true
is_deck Combo = true
is_deck _ = false

abbrev pub is_switch : Kind → Bool
is_switch Switch = true
is_switch _ = false

-- this address is one of a list
abbrev pub is_in : List ℕ → ℕ → Bool
is_in list a = list_any (λ b. b == a) list

-- the addresses of recorders and of players, in order (CEC 10.2)
abbrev pub recorders : List ℕ
recorders = 1 ∷ 2 ∷ 9 ∷ []

abbrev pub players : List ℕ
players = 4 ∷ 8 ∷ 11 ∷ []

-- The addresses that a kind's first unit may take, in order (CEC 10.2; 14 for a television, and none for a switch and for
-- a device from outside, are own).
abbrev pub addresses : Kind → List ℕ
addresses Tv = 0 ∷ 14 ∷ []
addresses Recorder = recorders
addresses Player = players
addresses Amp = 5 ∷ []
addresses Switch = []
addresses Combo = recorders
addresses Outside = []
addresses OutsideTv = []

-- those that its second unit may take: a box has a player beside its recorder, any other kind has one unit
abbrev pub second_addresses : Kind → List ℕ
second_addresses Tv = []
second_addresses Recorder = []
second_addresses Player = []
second_addresses Amp = []
second_addresses Switch = []
second_addresses Combo = players
second_addresses Outside = []
second_addresses OutsideTv = []

-- The device type that Report Physical Address carries (CEC 17, Device Type), by the address that it comes from: the
-- units of a box differ in it. A device from outside carries none by itself.
abbrev pub type_of : Kind → ℕ → ℕ
type_of Tv from = 0
type_of Recorder from = 1
type_of Player from = 4
type_of Amp from = 5
type_of Switch from = 6
type_of Combo from = if is_in recorders from then 1 else 4
type_of Outside from = 6
type_of OutsideTv from = 0

abbrev pub same_phys : Phys → Phys → Bool
same_phys p q = (p.high == q.high) && (p.low == q.low)

-- F.F.F.F
abbrev pub is_nowhere : Phys → Bool
is_nowhere p = (p.high == 255) && (p.low == 255)
