-- Logical address allocation (CEC 10.2.1): a device polls and holds addresses of its kind's lists alone, each unit those of
-- its own.
use Rattle.std.specs.Prelude.{◌≡◌, ℕ, ◌<◌, ◌==◌, ◌&&◌, ◌||◌, Bool, true, List, slice_get, Some, None, zero, suc}
use Rattle.text_core.specs.declared.kind.Kind.{Kind}
use Rattle.text_core.specs.declared.phys.Phys.{Phys}
use Rattle.device_core.specs.declared.place.Place.{Place}
use Rattle.device_core.specs.declared.place.Place.TheVariants.{Off, Polls, Settled}
use Rattle.line_frames.specs.declared.Fate.{Fate}
use Rattle.device_features.specs.declared.keys.Key.{Key}
use Rattle.device_features.specs.Kinds.{addresses, is_in, second_addresses}
use Rattle.device_core.specs.declared.device.Ticket.{Ticket}
use Rattle.device_core.specs.State.{State, addresses_held, holds}
use Rattle.device_core.specs.Place.{after_sending, after_waiting, after_joining, after_leaving, after_submission}
use Rattle.device_core.specs.Effects.{after_frame}
use Rattle.device_core.specs.Keys.{after_key}

-- the addresses that a unit may take
abbrev pub unit_addresses : Kind → ℕ → List ℕ
unit_addresses kind zero = addresses kind
unit_addresses kind (suc unit) = second_addresses kind

-- a unit may settle at an address of its list, or at 15
abbrev pub may_take : List ℕ → ℕ → Bool
may_take list a = (a == 15) || is_in list a

-- off the wire, or each unit polling an address of its list, or settled at one or at 15
abbrev pub listed_at : Kind → Place → Bool
listed_at kind Off = true
listed_at kind (Polls None a) = is_in (addresses kind) a
listed_at kind (Polls (Some first) a) = may_take (addresses kind) first && is_in (second_addresses kind) a
listed_at kind (Settled first None) = may_take (addresses kind) first
listed_at kind (Settled first (Some second)) = may_take (addresses kind) first && may_take (second_addresses kind) second

abbrev pub is_listed : State → Bool
is_listed d = listed_at d.kind d.place

-- each call keeps it, and who is so holds addresses of the lists alone
pub record HoldsListed : Type 0 where
  pub leaving : (d : State) → is_listed (after_leaving d) ≡ true
  pub joining : (limit number at : ℕ) (phys : Phys) (d : State) → is_listed (after_joining limit d number phys at) ≡ true
  pub reporting : (limit at : ℕ) (fate : Fate) (d : State) → is_listed d ≡ true → is_listed (after_sending limit d fate at) ≡ true
  pub waiting : (d : State) → is_listed d ≡ true → is_listed (after_waiting d) ≡ true
  pub submitting : (limit at : ℕ) (frame : List ℕ) (ticket : Ticket) (d : State) → is_listed d ≡ true → is_listed (after_submission limit d frame ticket at) ≡ true
  pub following : (limit at : ℕ) (frame : List ℕ) (d : State) → is_listed d ≡ true → is_listed (after_frame limit d frame at) ≡ true
  pub keying : (limit at : ℕ) (key : Key) (press : Bool) (d : State) → is_listed d ≡ true → is_listed (after_key limit d key press at) ≡ true
  pub holding : (d : State) (unit a : ℕ) → is_listed d ≡ true → slice_get (addresses_held d.place) unit ≡ Some (Some a) → a < 15
      → is_in (unit_addresses d.kind unit) a ≡ true
  -- no two lists of a kind have an address in common, so no two units of a device hold the same one
  pub apart : (d : State) (unit other a : ℕ) → is_listed d ≡ true → slice_get (addresses_held d.place) unit ≡ Some (Some a)
      → slice_get (addresses_held d.place) other ≡ Some (Some a) → a < 15 → unit ≡ other
  -- what a unit holds below 15 the device holds
  pub units : (place : Place) (unit a : ℕ) → slice_get (addresses_held place) unit ≡ Some (Some a) → a < 15 → holds place a ≡ true
