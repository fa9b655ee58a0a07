-- The names of devices stay, whatever they meet.
use Rattle.std.proofs.Common.{◌≡◌, ℕ, zero, suc, ◌+◌, ◌%◌, ◌==◌, Bool, true, false, not, ◌&&◌, nat_lt, if◌then◌else◌, List, [], ◌∷◌, Option, Some, None, refl, ap, ap₂, ◌∙◌}
use Rattle.message_table.specs.Words.{reason_byte}
use Rattle.message_table.specs.declared.words.Reason.TheVariants.{Unrecognized}
use Rattle.message_table.specs.declared.message.Decoded.{Decoded}
use Rattle.message_table.specs.declared.message.Decoded.TheVariants.{Known, Poll, Short, Unknown as NoName}
use Rattle.message_table.specs.Table.{decoded_of}
use Rattle.line_rounds.specs.declared.Outcome.{Outcome}
use Rattle.line_rounds.specs.Round.{close_in, fate_in}
use Rattle.line_frames.specs.Blocks.{frame_in}
use Rattle.line_frames.specs.declared.Fate.{Fate}
use Rattle.line_frames.specs.declared.Fate.TheVariants.{Delivered, Unacked, Lost, Broken}
use Rattle.device_features.specs.declared.record.Heard.{Heard}
use Rattle.device_features.specs.declared.keys.Key.{Key}
use Rattle.device_features.specs.declared.say.Say.{Say}
use Rattle.device_features.specs.declared.say.Say.TheVariants.{Reply, Cast, Report, Refuse}
use Rattle.device_features.specs.Effect.{Effect}
use Rattle.device_features.specs.Effects.{effect_of, heard_of, refuses}
use Rattle.device_features.specs.Keys.{pressing, releasing}
use Rattle.device_core.specs.declared.device.Ticket.{Ticket}
use Rattle.device_core.specs.declared.device.SubmitError.{SubmitError}
use Rattle.device_core.specs.declared.keys.KeyError.{KeyError}
use Rattle.line_frames.specs.declared.free_time.FreeTime.TheVariants.{Retry}
use Rattle.device_core.specs.State.{State, addresses_held, with_queued, source}
use Rattle.device_core.specs.Say.{after_effect, say, say_all}
use Rattle.device_core.specs.Effects.{by_decoded, after_frame, is_for}
use Rattle.device_core.specs.Keys.{key_fault, after_key, keyed_by, own_doing}
use Rattle.device_core.specs.declared.outside.Act.{Act}
use Rattle.device_core.specs.declared.outside.Act.TheVariants.{Hold, Empty}
use Rattle.device_core.specs.Outside.{act_fault, after_act, acted_by}
use Rattle.device_core.specs.Place.{class_of_poll, after_front, after_failure, frame_sent, front_is_counted, front_is_poll, most_again, is_on_wire, polled_at, sent_by, place_after_fate, submit_fault, after_submission, submitted_by}
use Rattle.room_event.specs.declared.event.Event.{Event}
use Rattle.room_event.specs.declared.event.Event.TheVariants.{Plug, Unplug, Key as KeyEvent, Send, SendNamed, Outside}
use Rattle.room_event.specs.declared.event.EventError.{EventError}
use Rattle.room_net.specs.Start.{contends}
use Rattle.room_net.specs.State.{NetState, each_from}
use Rattle.room_net.specs.Apply.{net_after, applied_unless, changed_at, event_fault, named_frame, after_sent}
use Rattle.room_net.specs.Step.{after_round, device_after, followed_in, followed_unless, is_among, is_sent, after_fate}
use Rattle.room_driven.specs.Driven.{names_of}
use Rattle.capture_laws.proofs.Names.{name-queued, name-reported_by, names-each}

two : (t : Bool) (x y : State) (name : List ℕ) → x.name ≡ name → y.name ≡ name → (if t then x else y).name ≡ name
two true x y name h k = h
two false x y name h k = k

-- ---- what a device says and does

name-say : (limit : ℕ) (h : Heard) (s : Say) (d : State) → (say limit h s d).name ≡ d.name
name-say limit h (Reply bytes) d = two (nat_lt h.from 15) (with_queued limit h.at (source d.place h.to) h.from bytes d) d d.name (name-queued limit h.at (source d.place h.to) h.from bytes d) refl
name-say limit h (Cast bytes) d = name-queued limit h.at (source d.place h.to) 15 bytes d
name-say limit h (Report to bytes) d = two (nat_lt to 15) (with_queued limit h.at (source d.place h.to) to bytes d) d d.name (name-queued limit h.at (source d.place h.to) to bytes d) refl
name-say limit h (Refuse reason) d =
    two (nat_lt h.to 15 && (nat_lt h.from 15 && not (h.opcode == 0))) (with_queued limit h.at (source d.place h.to) h.from (0x00 ∷ h.opcode ∷ reason_byte reason ∷ []) d) d d.name
    (name-queued limit h.at (source d.place h.to) h.from (0x00 ∷ h.opcode ∷ reason_byte reason ∷ []) d) refl

name-say_all : (limit : ℕ) (h : Heard) (says : List Say) (d : State) → (say_all limit h says d).name ≡ d.name
name-say_all limit h [] d = refl
name-say_all limit h (s ∷ says) d = name-say_all limit h says (say limit h s d) ∙ name-say limit h s d

name-effected : (limit : ℕ) (h : Heard) (e : Effect) (d : State) → (after_effect limit h e d).name ≡ d.name
name-effected limit h e d = name-say_all limit h e.says (record d { record_of = e.after })

name-decoded : (limit : ℕ) (h : Heard) (d : State) (said : Decoded) → (by_decoded limit h d said).name ≡ d.name
name-decoded limit h d (Known message) = name-effected limit h (effect_of d.kind d.phys d.name d.ports h d.record_of message) d
name-decoded limit h d (NoName opcode) = name-effected limit h (refuses d.record_of Unrecognized) d
name-decoded limit h d (Short opcode) = refl
name-decoded limit h d Poll = refl

name-followed : (limit at : ℕ) (frame : List ℕ) (d : State) → (after_frame limit d frame at).name ≡ d.name
name-followed limit at [] d = refl
name-followed limit at (header ∷ []) d = refl
name-followed limit at (header ∷ opcode ∷ operands) d =
    two (is_for d (header % 16) opcode) (by_decoded limit (heard_of header opcode operands at) d (decoded_of (header ∷ opcode ∷ operands))) d d.name
    (name-decoded limit (heard_of header opcode operands at) d (decoded_of (header ∷ opcode ∷ operands))) refl

name-keyed_by : (limit at : ℕ) (key : Key) (press : Bool) (d : State) (fault : Option KeyError) → (keyed_by limit d key press at fault).name ≡ d.name
name-keyed_by limit at key press d None =
    name-effected limit (own_doing at) (if press then pressing d.kind d.phys d.record_of key else releasing d.kind d.record_of key) d
name-keyed_by limit at key press d (Some fault) = refl

name-submitted_by : (at : ℕ) (frame : List ℕ) (ticket : Ticket) (d : State) (fault : Option SubmitError) → (submitted_by d frame ticket at fault).name ≡ d.name
name-submitted_by at frame ticket d None = refl
name-submitted_by at frame ticket d (Some fault) = refl

name-acted_by : (d : State) (fault : Option KeyError) (act : Act) → (acted_by d fault act).name ≡ d.name
name-acted_by d (Some fault) act = refl
name-acted_by d None (Hold first second more) = refl
name-acted_by d None Empty = refl

-- ---- fates

name-failed : (d : State) → (after_failure d).name ≡ d.name
name-failed d = two (nat_lt d.attempts (most_again d.queue)) (record d { attempts = d.attempts + 1; class = Retry }) (after_front d) d.name refl refl

name-frame_sent : (fate : Fate) (d : State) → (frame_sent d fate).name ≡ d.name
name-frame_sent Lost d = two (front_is_counted d.queue) (after_failure d) d d.name (name-failed d) refl
name-frame_sent Delivered d = refl
name-frame_sent Unacked d = two (front_is_poll d.queue) (after_front d) (after_failure d) d.name refl (name-failed d)
name-frame_sent Broken d = two (front_is_poll d.queue) (record d { class = Retry }) (after_failure d) d.name refl (name-failed d)

name-sent_by : (limit at : ℕ) (fate : Fate) (d : State) (p : Option ℕ) → (sent_by limit d fate at p).name ≡ d.name
name-sent_by limit at fate d None = name-frame_sent fate d
name-sent_by limit at fate d (Some a) =
    let e : State = record d { place = place_after_fate d.kind d.place fate; poll_ready = at; class = class_of_poll fate } in
    name-reported_by limit at (addresses_held e.place) e

name-informed : (own others : Bool) (fate : Fate) (at : ℕ) (d : State) → (after_fate own others fate at d).name ≡ d.name
name-informed true others fate at d = name-sent_by 16 at fate d (polled_at d.place)
name-informed false true fate at d = refl
name-informed false false fate at d = refl

name-unless : (sends : Bool) (frame : Option (List ℕ)) (at : ℕ) (d : State) → (followed_unless sends frame at d).name ≡ d.name
name-unless sends None at d = refl
name-unless true (Some frame) at d = refl
name-unless false (Some frame) at d = name-followed 16 at frame d

name-after : (own others : Bool) (o : Outcome) (number : ℕ) (d : State) → (device_after own others o number d).name ≡ d.name
name-after own others o number d =
    two (is_on_wire d) (after_fate own others (fate_in o number) (close_in o) (followed_in o number d)) d d.name
    (name-informed own others (fate_in o number) (close_in o) (followed_in o number d) ∙ name-unless (is_among o.survivors.items number) (frame_in o.reading) (close_in o) d) refl

-- ---- all devices

names-all : (n : ℕ) (f : ℕ → State → State) (xs : List State) → ((m : ℕ) (d : State) → (f m d).name ≡ d.name) → names_of (each_from n f xs) ≡ names_of xs
names-all n f [] step = refl
names-all n f (x ∷ xs) step = ap₂ (λ a bs. a ∷ bs) (step n x) (names-all (n + 1) f xs step)

names-changed : (number : ℕ) (f : State → State) (xs : List State) → ((d : State) → (f d).name ≡ d.name) → names_of (changed_at number f xs) ≡ names_of xs
names-changed number f [] step = refl
names-changed zero f (x ∷ xs) step = ap (λ a. a ∷ names_of xs) (step x)
names-changed (suc number) f (x ∷ xs) step = ap (λ bs. x.name ∷ bs) (names-changed number f xs step)

names-sent : (at device : ℕ) (frame : Option (List ℕ)) (ticket : Ticket) (s : NetState) → names_of (after_sent at device frame ticket s).devices ≡ names_of s.devices
names-sent at device None ticket s = refl
names-sent at device (Some frame) ticket s = names-changed device (λ d. after_submission 16 d frame ticket at) s.devices (λ d. name-submitted_by at frame ticket d (submit_fault 16 d frame))

names-unless : (fault : Option EventError) (at : ℕ) (event : Event) (s : NetState) → names_of (applied_unless fault at event s).devices ≡ names_of s.devices
names-unless (Some error) at event s = refl
names-unless None at (Plug child parent port) s = names-each 0 at _ s.devices
names-unless None at (Unplug child) s = names-each 0 at _ s.devices
names-unless None at (KeyEvent device key press) s = names-changed device (λ d. after_key 16 d key press at) s.devices (λ d. name-keyed_by 16 at key press d (key_fault d key))
names-unless None at (Send device frame ticket) s = names-sent at device (Some frame) ticket s
names-unless None at (SendNamed device names frame ticket) s = names-sent at device (named_frame s.devices names frame) ticket s
names-unless None at (Outside device act) s = names-changed device (λ d. after_act d act) s.devices (λ d. name-acted_by d (act_fault d) act)

pub names_applied : (at : ℕ) (event : Event) (s : NetState) → names_of (net_after at event s).devices ≡ names_of s.devices
names_applied at event s = names-unless (event_fault s event) at event s

pub names_round : (s : NetState) (begin : ℕ) (o : Outcome) → names_of (after_round s begin o).devices ≡ names_of s.devices
names_round s begin o =
    names-all 0 (λ number d. device_after (contends s.rest begin d) (is_sent s.rest begin o s.devices) o number d) s.devices
    (λ number d. name-after (contends s.rest begin d) (is_sent s.rest begin o s.devices) o number d)
