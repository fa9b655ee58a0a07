-- What is true of the network between its events and rounds: times are as early as the calls that told them (own), and
-- no address is held twice.
use Rattle.std.specs.Prelude.{◌≡◌, ℕ, ◌+◌, ◌≤◌, max, length, All}
use Rattle.line_wave.specs.declared.Stretch.{Stretch}
use Rattle.line_wave.specs.Bounds.{latest_instant}
use Rattle.device_core.specs.State.{State}
use Rattle.room_net.specs.State.{NetState}
use Rattle.room_net.specs.Held.{AreOrderly}

-- all that a device has to send was ready by then
pub record IsReadyBy (bound : ℕ) (d : State) : Type 0 where
  pub poll : d.poll_ready ≤ bound
  pub queue : All (λ q. q.ready ≤ bound) d.queue

-- a pull ends by the latest instant, or is a pulse
abbrev pub EndsEarly : Stretch → Type 0
EndsEarly p = p.to ≤ max latest_instant (p.from + 10000)

pub record IsSound (s : NetState) : Type 0 where
  pub few : length s.tree ≤ 15
  pub matched : length s.devices ≡ length s.tree
  pub rested : s.rest ≤ s.close
  pub closed : s.close ≤ 2400000000000
  pub ready : All (IsReadyBy (max latest_instant s.close)) s.devices
  pub early : All (λ p. p.from ≤ latest_instant) s.pulses
  pub ends : All EndsEarly s.pulses
  pub later : All (λ p. s.rest ≤ p.from) s.pulses
  pub orderly : AreOrderly s.devices
