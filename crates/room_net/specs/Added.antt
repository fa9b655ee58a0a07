-- A pulse or a pull that a network is told of while it runs (this profile's own).
use Rattle.std.specs.Prelude.{◌+◌, ◌++◌, ◌∷◌, [], ◌||◌, Bool, max, nat_lt, if◌then◌else◌, Option, Some, None}
use Rattle.line_wave.specs.declared.Stretch.{Stretch}
use Rattle.line_wave.specs.Pulls.{are_timely}
use Rattle.line_wave.specs.Bounds.{latest_instant}
use Rattle.room_net.specs.State.{NetState}
use Rattle.room_net.specs.declared.added.PulseError.{PulseError}
use Rattle.room_net.specs.declared.added.PulseError.TheVariants.{RoundBegun, Past, Late, NotInOrder}

-- it begins after the latest instant, or ends after that and is wider than a pulse
abbrev pub is_late : Stretch → Bool
is_late pull = nat_lt latest_instant pull.from || nat_lt (max latest_instant (pull.from + 10000)) pull.to

-- why it can't be told of, where no round was begun: the first cause
abbrev pub between_rounds : NetState → Stretch → Option PulseError
between_rounds net pulse =
    if nat_lt pulse.from net.rest then Some Past
    else if is_late pulse then Some Late
    else if are_timely (net.pulses ++ pulse ∷ []) then None
    else Some NotInOrder

abbrev pub pulse_fault_by : {A : Type 0} → Option A → NetState → Stretch → Option PulseError
pulse_fault_by None net pulse = between_rounds net pulse
pulse_fault_by (Some heard) net pulse = Some RoundBegun

abbrev pub pulse_fault : NetState → Stretch → Option PulseError
pulse_fault net pulse = pulse_fault_by net.heard net pulse

abbrev pub with_pulse : NetState → Stretch → NetState
with_pulse net pulse = record net { pulses = net.pulses ++ pulse ∷ [] }
