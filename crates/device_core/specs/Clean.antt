-- What a device has queued goes to others, and until it has settled it has queued nothing. That is not said of a device from
-- outside, which sends and holds what it is told.
use Rattle.std.specs.Prelude.{◌≡◌, ℕ, Bool, true, false, List, [], ◌∷◌, ◌&&◌, Some, None}
use Rattle.std.specs.List.{list_all}
use Rattle.device_core.specs.declared.place.Place.{Place}
use Rattle.device_core.specs.declared.place.Place.TheVariants.{Off, Polls, Settled}
use Rattle.text_core.specs.declared.phys.Phys.{Phys}
use Rattle.line_frames.specs.declared.Fate.{Fate}
use Rattle.device_core.specs.declared.device.Queued.{Queued}
use Rattle.device_core.specs.declared.device.Ticket.{Ticket}
use Rattle.device_core.specs.State.{State, holds}
use Rattle.device_core.specs.Place.{after_sending, polled_at, after_waiting, after_joining, after_leaving, after_submission, front_of}
use Rattle.device_core.specs.Effects.{after_frame}
use Rattle.device_core.specs.declared.outside.Act.{Act}
use Rattle.device_core.specs.Outside.{after_act}
use Rattle.device_features.specs.declared.keys.Key.{Key}
use Rattle.device_features.specs.Kinds.{is_outside}
use Rattle.device_core.specs.Keys.{after_key}
use Rattle.device_core.specs.Once.{goes_elsewhere}
use Rattle.device_core.specs.Listed.{is_listed}

abbrev pub is_none_queued : List Queued → Bool
is_none_queued [] = true
is_none_queued (q ∷ queue) = false

abbrev pub clean_at : Place → List Queued → Bool
clean_at Off queue = is_none_queued queue
clean_at (Polls found a) queue = is_none_queued queue
clean_at (Settled first second) queue = list_all (λ q. goes_elsewhere (Settled first second) q.frame) queue

-- and it polls and holds addresses of its kind's lists alone, so a poll goes to nobody of its own units
abbrev pub is_clean : State → Bool
is_clean d = is_listed d && clean_at d.place d.queue

-- Each call keeps it. What a queue gives to the line goes to another device.
pub record KeepsClean : Type 0 where
  pub leaving : (d : State) → is_clean (after_leaving d) ≡ true
  pub joining : (limit number at : ℕ) (phys : Phys) (d : State) → is_clean (after_joining limit d number phys at) ≡ true
  pub reporting : (limit at : ℕ) (fate : Fate) (d : State) → is_clean d ≡ true → is_clean (after_sending limit d fate at) ≡ true
  pub waiting : (d : State) → is_clean d ≡ true → is_clean (after_waiting d) ≡ true
  pub submitting : (limit at : ℕ) (frame : List ℕ) (ticket : Ticket) (d : State) → is_outside d.kind ≡ false → is_clean d ≡ true → is_clean (after_submission limit d frame ticket at) ≡ true
  pub following : (limit at : ℕ) (frame : List ℕ) (d : State) → is_clean d ≡ true → is_clean (after_frame limit d frame at) ≡ true
  pub keying : (limit at : ℕ) (key : Key) (press : Bool) (d : State) → is_clean d ≡ true → is_clean (after_key limit d key press at) ≡ true
  pub sending : (d : State) (frame : List ℕ) → is_clean d ≡ true → front_of d ≡ Some frame → goes_elsewhere d.place frame ≡ true
  pub listing : (d : State) → is_clean d ≡ true → is_listed d ≡ true

-- Frames that are followed, keys, frames that are submitted, their fates and waiting move no device. (A device from outside
-- moves as it is told: `OnlyOutside`.)
pub record KeepsPlace : Type 0 where
  pub following : (limit at : ℕ) (frame : List ℕ) (d : State) → (after_frame limit d frame at).place ≡ d.place
  pub keying : (limit at : ℕ) (key : Key) (press : Bool) (d : State) → (after_key limit d key press at).place ≡ d.place
  pub submitting : (limit at : ℕ) (frame : List ℕ) (ticket : Ticket) (d : State) → (after_submission limit d frame ticket at).place ≡ d.place
  pub waiting : (d : State) → (after_waiting d).place ≡ d.place
  pub reporting : (limit at : ℕ) (fate : Fate) (d : State) → polled_at d.place ≡ None → (after_sending limit d fate at).place ≡ d.place

-- A device that joins, or has left, holds no address yet.
pub record HoldsNothingYet : Type 0 where
  pub joining : (limit number at a : ℕ) (phys : Phys) (d : State) → holds (after_joining limit d number phys at).place a ≡ false
  pub leaving : (a : ℕ) (d : State) → holds (after_leaving d).place a ≡ false

-- A device is given its number when it joins, and keeps it until it leaves.
pub record KeepsNumber : Type 0 where
  pub joining : (limit number at : ℕ) (phys : Phys) (d : State) → (after_joining limit d number phys at).number ≡ number
  pub reporting : (limit at : ℕ) (fate : Fate) (d : State) → (after_sending limit d fate at).number ≡ d.number
  pub waiting : (d : State) → (after_waiting d).number ≡ d.number
  pub submitting : (limit at : ℕ) (frame : List ℕ) (ticket : Ticket) (d : State) → (after_submission limit d frame ticket at).number ≡ d.number
  pub following : (limit at : ℕ) (frame : List ℕ) (d : State) → (after_frame limit d frame at).number ≡ d.number
  pub keying : (limit at : ℕ) (key : Key) (press : Bool) (d : State) → (after_key limit d key press at).number ≡ d.number

-- A device stays of its kind, whatever it does and is told.
pub record KeepsKind : Type 0 where
  pub joining : (limit number at : ℕ) (phys : Phys) (d : State) → (after_joining limit d number phys at).kind ≡ d.kind
  pub reporting : (limit at : ℕ) (fate : Fate) (d : State) → (after_sending limit d fate at).kind ≡ d.kind
  pub submitting : (limit at : ℕ) (frame : List ℕ) (ticket : Ticket) (d : State) → (after_submission limit d frame ticket at).kind ≡ d.kind
  pub following : (limit at : ℕ) (frame : List ℕ) (d : State) → (after_frame limit d frame at).kind ≡ d.kind
  pub keying : (limit at : ℕ) (key : Key) (press : Bool) (d : State) → (after_key limit d key press at).kind ≡ d.kind
  pub acting : (d : State) (act : Act) → (after_act d act).kind ≡ d.kind
