-- What an event does where no round is begun.
use Rattle.std.proofs.Common.{◌≡◌, ℕ, false, is_some, List, Option, Some, None, Result, Ok, Err, refl, sym, ap, ◌∙◌, subst}
use Rattle.std.specs.Prelude.{MatchResult, option_map}
use Rattle.device_core.specs.declared.device.Ticket.{Ticket}
use Rattle.room_event.specs.declared.event.Event.{Event}
use Rattle.room_event.specs.declared.event.Event.TheVariants.{Plug, Unplug, Key, Send, SendNamed, Outside}
use Rattle.room_event.specs.declared.event.EventError.{EventError}
use Rattle.room_net.specs.State.{NetState}
use Rattle.room_net.specs.Apply.{named_frame, event_fault, after_sent, after_accepted, applied_unless, net_after}

abbrev idle : NetState → NetState
idle s = record s { heard = None }

idle_sent : (at device : ℕ) (frame : Option (List ℕ)) (ticket : Ticket) (s : NetState) → after_sent at device frame ticket (idle s) ≡ idle (after_sent at device frame ticket s)
idle_sent at device None ticket s = refl
idle_sent at device (Some frame) ticket s = refl

idle_accepted : (at : ℕ) (event : Event) (s : NetState) → after_accepted at event (idle s) ≡ idle (after_accepted at event s)
idle_accepted at (Plug child parent port) s = refl
idle_accepted at (Unplug child) s = refl
idle_accepted at (Key device key press) s = refl
idle_accepted at (Send device frame ticket) s = refl
idle_accepted at (SendNamed device names frame ticket) s = idle_sent at device (named_frame s.devices names frame) ticket s
idle_accepted at (Outside device act) s = refl

idle_fault : (event : Event) (s : NetState) → event_fault (idle s) event ≡ event_fault s event
idle_fault (Plug child parent port) s = refl
idle_fault (Unplug child) s = refl
idle_fault (Key device key press) s = refl
idle_fault (Send device frame ticket) s = refl
idle_fault (SendNamed device names frame ticket) s = refl
idle_fault (Outside device act) s = refl

taken_from_idle : (at : ℕ) (event : Event) (s : NetState) → event_fault (idle s) event ≡ None → after_accepted at event (idle s) ≡ net_after at event s
taken_from_idle at event s f =
    let none : event_fault s event ≡ None = sym (idle_fault event s) ∙ f in
    idle_accepted at event s ∙ sym (ap (λ fault. applied_unless fault at event s) none)

-- an event that is taken after its round was given up
pub taken : (at : ℕ) (event : Event) (s new : NetState) (heard : Option ℕ) → heard ≡ None → event_fault (record s { heard = heard }) event ≡ None
    → new ≡ after_accepted at event (record s { heard = heard }) → new ≡ net_after at event s
taken at event s new heard none f e =
    e ∙ ap (λ (h : Option ℕ). after_accepted at event (record s { heard = h })) none
    ∙ taken_from_idle at event s (subst (λ (h : Option ℕ). event_fault (record s { heard = h }) event ≡ None) none f)

pub none_is_told : {A : Type 0} (f : A → ℕ) (o : Option A) → is_some o ≡ false → option_map f o ≡ None
none_is_told f None none = refl
none_is_told f (Some x) none = cc

-- an event where no round was begun, by what is answered
pub answered_event : (answer : Result Unit EventError) (at : ℕ) (event : Event) (s new : NetState) → s.heard ≡ None
    → MatchResult answer (λ _. (event_fault s event ≡ None) × (new ≡ after_accepted at event s)) (λ error. (event_fault s event ≡ Some error) × (new ≡ s))
    → new ≡ net_after at event s
answered_event (Ok _) at event s new none h =
    taken at event s new s.heard none h.0 h.1
answered_event (Err error) at event s new none h = h.1 ∙ sym (ap (λ fault. applied_unless fault at event s) h.0)
