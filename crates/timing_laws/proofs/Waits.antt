-- What a device keeps while it tries a frame again.
use Rattle.std.proofs.Common.{◌≡◌, ℕ, zero, suc, ◌+◌, ◌%◌, ◌==◌, ◌<◌, ◌≤◌, Bool, true, false, not, ◌&&◌, ◌||◌, nat_lt, if◌then◌else◌, max, min, List, [], ◌∷◌, ◌++◌, length, ◌⊎◌, inl, inr, Option, Some, None, is_some, refl, sym, ap, ◌∙◌, subst, append_assoc, append-nil, arith}
use Rattle.std.proofs.lemmas.Bool.{false≢true}
use Rattle.std.proofs.lemmas.Bool.Decides.{nat_tests}
use Rattle.text_core.specs.declared.kind.Kind.{Kind}
use Rattle.text_core.specs.declared.kind.Kind.TheVariants.{Tv, Amp, Player, Recorder, Switch, Combo, Outside as FromOutside, OutsideTv}
use Rattle.text_core.specs.declared.phys.Phys.{Phys}
use Rattle.edid_tree.specs.Node.{Node}
use Rattle.edid_tree.specs.Path.{address_of}
use Rattle.line_frames.specs.declared.Fate.{Fate}
use Rattle.line_frames.specs.declared.Fate.TheVariants.{Delivered, Unacked, Lost, Broken}
use Rattle.line_frames.specs.Blocks.{frame_in}
use Rattle.message_table.specs.Words.{reason_byte}
use Rattle.message_table.specs.declared.message.Decoded.{Decoded}
use Rattle.message_table.specs.declared.message.Decoded.TheVariants.{Known, Poll, Short, Unknown as NoName}
use Rattle.message_table.specs.declared.words.Reason.TheVariants.{Unrecognized}
use Rattle.message_table.specs.Table.{decoded_of}
use Rattle.device_features.specs.declared.record.Heard.{Heard}
use Rattle.device_features.specs.declared.say.Say.{Say}
use Rattle.device_features.specs.declared.say.Say.TheVariants.{Reply, Cast, Report, Refuse}
use Rattle.device_features.specs.Effect.{Effect}
use Rattle.device_features.specs.Effects.{effect_of, refuses, heard_of}
use Rattle.device_features.specs.Keys.{pressing, releasing}
use Rattle.device_features.specs.Kinds.{is_nowhere, is_outside, is_switch, type_of}
use Rattle.device_features.specs.declared.keys.Key.{Key}
use Rattle.device_core.specs.declared.device.Ticket.{Ticket}
use Rattle.device_core.specs.declared.device.Queued.{Queued}
use Rattle.device_core.specs.declared.device.SubmitError.{SubmitError}
use Rattle.line_frames.specs.declared.free_time.FreeTime.{FreeTime}
use Rattle.line_frames.specs.declared.free_time.FreeTime.TheVariants.{Retry, NewInitiator, PresentInitiator}
use Rattle.device_core.specs.declared.keys.KeyError.{KeyError}
use Rattle.device_core.specs.declared.keys.KeyError.TheVariants.{NotForKind, OffWire}
use Rattle.device_core.specs.declared.outside.Act.{Act}
use Rattle.device_core.specs.declared.outside.Act.TheVariants.{Hold, Empty}
use Rattle.device_core.specs.declared.place.Place.{Place}
use Rattle.device_core.specs.declared.place.Place.TheVariants.{Off, Polls, Settled}
use Rattle.device_core.specs.Effects.{after_frame, by_decoded, is_for}
use Rattle.line_frames.specs.FreeTime.{free_time_of}
use Rattle.device_core.specs.Keys.{after_key, key_fault, keyed_by, own_doing}
use Rattle.device_core.specs.Outside.{act_fault, acted_by, after_act, class_after_drop}
use Rattle.device_core.specs.Place.{after_failure, after_front, after_joining, after_submission, class_after_waiting, again_by, attempts_of, class_of_poll, fresh, frame_sent, front_is_counted, front_is_poll, most_again, is_allocating, is_off, is_on_wire, place_after_fate, place_after_poll, polled_at, ready_by, ready_of, reported_by, reported_from, sent_by, start_place, submit_fault, submitted_by, with_reports}
use Rattle.device_core.specs.Say.{after_effect, say, say_all}
use Rattle.device_core.specs.State.{State, addresses_held, frame_of, holds, one_more, source, speaks, with_queued}
use Rattle.room_event.specs.declared.event.Event.{Event}
use Rattle.room_event.specs.declared.event.Event.TheVariants.{Plug, Unplug, Key as KeyEvent, Send, SendNamed, Outside}
use Rattle.room_event.specs.declared.event.EventError.{EventError}
use Rattle.line_rounds.specs.declared.Outcome.{Outcome}
use Rattle.line_rounds.specs.Round.{close_in, fate_in}
use Rattle.room_net.specs.Apply.{applied_unless, changed_at, event_fault, net_after, named_frame, after_sent}
use Rattle.room_net.specs.Start.{contends, is_at, least_start, next_turn, sooner, start_by, start_of}
use Rattle.room_net.specs.State.{NetState, after_move, each_from, first_net, loose, moved_by}
use Rattle.room_net.specs.Step.{after_fate, device_after, followed_in, followed_unless, is_among}

-- ---- more is queued

-- of what it sends nothing else changes
pub record IsLonger (d e : State) : Type 0 where
  pub kind : e.kind ≡ d.kind
  pub place : e.place ≡ d.place
  pub attempts : e.attempts ≡ d.attempts
  pub class : e.class ≡ d.class
  pub more : List Queued
  pub queue : e.queue ≡ d.queue ++ more

longer-same : (d : State) → IsLonger d d
longer-same d = record { kind = refl; place = refl; attempts = refl; class = refl; more = []; queue = sym (append-nil d.queue) }

longer-trans : (d e f : State) → IsLonger d e → IsLonger e f → IsLonger d f
longer-trans d e f h k = record {
  kind = k.kind ∙ h.kind;
  place = k.place ∙ h.place;
  attempts = k.attempts ∙ h.attempts;
  class = k.class ∙ h.class;
  more = h.more ++ k.more;
  queue = k.queue ∙ ap (λ (q : List Queued). q ++ k.more) h.queue ∙ append_assoc d.queue h.more k.more;
}

longer-two : (t : Bool) (d x y : State) → IsLonger d x → IsLonger d y → IsLonger d (if t then x else y)
longer-two true d x y h k = h
longer-two false d x y h k = k

longer-queued : (limit at from to : ℕ) (bytes : List ℕ) (d : State) → IsLonger d (with_queued limit at from to bytes d)
longer-queued limit at from to bytes d =
    let q : Queued = record { frame = frame_of from to bytes; ready = at; ticket = None } in
    longer-two (not (speaks d) || holds d.place to) d d (if nat_lt (length d.queue) limit then record d { queue = d.queue ++ q ∷ [] } else record d { dropped = one_more d.dropped })
    (longer-same d)
    (longer-two (nat_lt (length d.queue) limit) d (record d { queue = d.queue ++ q ∷ [] }) (record d { dropped = one_more d.dropped })
    (record { kind = refl; place = refl; attempts = refl; class = refl; more = q ∷ []; queue = refl })
    (record { kind = refl; place = refl; attempts = refl; class = refl; more = []; queue = sym (append-nil d.queue) }))

longer-reported_from : (limit at : ℕ) (unit : Option ℕ) (d : State) → IsLonger d (reported_from limit at unit d)
longer-reported_from limit at None d = longer-same d
longer-reported_from limit at (Some from) d =
    longer-two (nat_lt from 15 || is_switch d.kind) d (with_queued limit at from 15 (0x84 ∷ d.phys.high ∷ d.phys.low ∷ type_of d.kind from ∷ []) d) d
    (longer-queued limit at from 15 (0x84 ∷ d.phys.high ∷ d.phys.low ∷ type_of d.kind from ∷ []) d) (longer-same d)

longer-reported_by : (limit at : ℕ) (units : List (Option ℕ)) (d : State) → IsLonger d (reported_by limit at units d)
longer-reported_by limit at [] d = longer-same d
longer-reported_by limit at (unit ∷ units) d =
    longer-trans d (reported_from limit at unit d) (reported_by limit at units (reported_from limit at unit d)) (longer-reported_from limit at unit d)
    (longer-reported_by limit at units (reported_from limit at unit d))

longer-reported : (limit at : ℕ) (d : State) → IsLonger d (with_reports limit at d)
longer-reported limit at d = longer-reported_by limit at (addresses_held d.place) d

longer-say : (limit : ℕ) (h : Heard) (s : Say) (d : State) → IsLonger d (say limit h s d)
longer-say limit h (Reply bytes) d = longer-two (nat_lt h.from 15) d (with_queued limit h.at (source d.place h.to) h.from bytes d) d (longer-queued limit h.at (source d.place h.to) h.from bytes d) (longer-same d)
longer-say limit h (Cast bytes) d = longer-queued limit h.at (source d.place h.to) 15 bytes d
longer-say limit h (Report to bytes) d = longer-two (nat_lt to 15) d (with_queued limit h.at (source d.place h.to) to bytes d) d (longer-queued limit h.at (source d.place h.to) to bytes d) (longer-same d)
longer-say limit h (Refuse reason) d =
    longer-two (nat_lt h.to 15 && (nat_lt h.from 15 && not (h.opcode == 0))) d (with_queued limit h.at (source d.place h.to) h.from (0x00 ∷ h.opcode ∷ reason_byte reason ∷ []) d) d
    (longer-queued limit h.at (source d.place h.to) h.from (0x00 ∷ h.opcode ∷ reason_byte reason ∷ []) d) (longer-same d)

longer-say_all : (limit : ℕ) (h : Heard) (says : List Say) (d : State) → IsLonger d (say_all limit h says d)
longer-say_all limit h [] d = longer-same d
longer-say_all limit h (s ∷ says) d = longer-trans d (say limit h s d) (say_all limit h says (say limit h s d)) (longer-say limit h s d) (longer-say_all limit h says (say limit h s d))

longer-effected : (limit : ℕ) (h : Heard) (e : Effect) (d : State) → IsLonger d (after_effect limit h e d)
longer-effected limit h e d =
    longer-trans d (record d { record_of = e.after }) (after_effect limit h e d)
    (record { kind = refl; place = refl; attempts = refl; class = refl; more = []; queue = sym (append-nil d.queue) })
    (longer-say_all limit h e.says (record d { record_of = e.after }))

longer-decoded : (limit : ℕ) (h : Heard) (d : State) (said : Decoded) → IsLonger d (by_decoded limit h d said)
longer-decoded limit h d (Known message) = longer-effected limit h (effect_of d.kind d.phys d.name d.ports h d.record_of message) d
longer-decoded limit h d (NoName opcode) = longer-effected limit h (refuses d.record_of Unrecognized) d
longer-decoded limit h d (Short opcode) = longer-same d
longer-decoded limit h d Poll = longer-same d

longer-followed : (limit at : ℕ) (frame : List ℕ) (d : State) → IsLonger d (after_frame limit d frame at)
longer-followed limit at [] d = longer-same d
longer-followed limit at (header ∷ []) d = longer-same d
longer-followed limit at (header ∷ opcode ∷ operands) d =
    longer-two (is_for d (header % 16) opcode) d (by_decoded limit (heard_of header opcode operands at) d (decoded_of (header ∷ opcode ∷ operands))) d
    (longer-decoded limit (heard_of header opcode operands at) d (decoded_of (header ∷ opcode ∷ operands))) (longer-same d)

longer-unless : (sends : Bool) (frame : Option (List ℕ)) (at : ℕ) (d : State) → IsLonger d (followed_unless sends frame at d)
longer-unless sends None at d = longer-same d
longer-unless true (Some frame) at d = longer-same d
longer-unless false (Some frame) at d = longer-followed 16 at frame d

-- ---- a device that tries again

-- the front of its queue was ready in time, and has had so many attempts, if it is no poll
abbrev pub IsFront : ℕ → ℕ → ℕ → List Queued → Type 0
IsFront rest most attempts [] = ⊥
IsFront rest most attempts (q ∷ queue) = (q.ready ≤ rest + 7200) × ((length q.frame == 1) ≡ false → most ≤ attempts)

pub record IsKept (rest most : ℕ) (d : State) : Type 0 where
  pub few : d.attempts ≤ 5
  pub outside : is_outside d.kind ≡ true → is_allocating d ≡ false
  pub on : d.class ≡ Retry → is_on_wire d ≡ true
  pub front : d.class ≡ Retry → is_allocating d ≡ false → IsFront rest most d.attempts d.queue

longer_front : (rest most attempts : ℕ) (queue more : List Queued) → IsFront rest most attempts queue → IsFront rest most attempts (queue ++ more)
longer_front rest most attempts [] more f = absurd f
longer_front rest most attempts (q ∷ queue) more f = f

kept-longer : (rest most : ℕ) (d e : State) → IsLonger d e → IsKept rest most d → IsKept rest most e
kept-longer rest most d e l h = record {
  few = let a = h.few in let b = l.attempts in omega (arith, a, b);
  outside = λ o. ap (λ (p : Place). is_some (polled_at p)) l.place ∙ h.outside (ap is_outside (sym l.kind) ∙ o);
  on = λ c. ap (λ (p : Place). not (is_off p)) l.place ∙ h.on (sym l.class ∙ c);
  front = λ c a. (
      let f : IsFront rest most d.attempts d.queue = h.front (sym l.class ∙ c) (ap (λ (p : Place). is_some (polled_at p)) (sym l.place) ∙ a) in
      subst (λ (q : List Queued). IsFront rest most e.attempts q) (sym l.queue)
      (subst (λ (n : ℕ). IsFront rest most n (d.queue ++ l.more)) (sym l.attempts) (longer_front rest most d.attempts d.queue l.more f))
      );
}

-- one that is not about to try again
no_new : NewInitiator ≡ Retry → ⊥
no_new e = cc

no_present : PresentInitiator ≡ Retry → ⊥
no_present e = cc

kept-calm : (rest most : ℕ) (d : State) → (d.class ≡ Retry → ⊥) → d.attempts ≤ 5 → (is_outside d.kind ≡ true → is_allocating d ≡ false) → IsKept rest most d
kept-calm rest most d none few out = record { few = few; outside = out; on = λ c. absurd (none c); front = λ c a. absurd (none c) }

-- ---- events

acts : (off out : Bool) → (if off then Some OffWire else (if out then None else Some NotForKind)) ≡ None → out ≡ true
acts true out h = cc
acts false true h = refl
acts false false h = cc

no_drop : (class : FreeTime) → class_after_drop class ≡ Retry → ⊥
no_drop Retry e = cc
no_drop NewInitiator e = cc
no_drop PresentInitiator e = cc

kept-acted : (rest most : ℕ) (d : State) (act : Act) → IsKept rest most d → IsKept rest most (after_act d act)
kept-acted rest most d act h = by (act_fault d) refl act
  where
    by : (fault : Option KeyError) → act_fault d ≡ fault → (act : Act) → IsKept rest most (acted_by d fault act)
    by (Some fault) e act = h
    by None e (Hold first second more) = record {
      few = h.few;
      outside = λ o. refl;
      on = λ c. refl;
      front = λ c a. h.front c (h.outside (acts (is_off d.place) (is_outside d.kind) e));
    }
    by None e Empty = kept-calm rest most (record d { queue = []; attempts = 0; class = class_after_drop d.class }) (no_drop d.class) (omega arith) h.outside

kept-keyed : (rest most limit at : ℕ) (key : Key) (press : Bool) (d : State) → IsKept rest most d → IsKept rest most (after_key limit d key press at)
kept-keyed rest most limit at key press d h = by (key_fault d key)
  where
    by : (fault : Option KeyError) → IsKept rest most (keyed_by limit d key press at fault)
    by None =
        kept-longer rest most d (keyed_by limit d key press at None)
        (longer-effected limit (own_doing at) (if press then pressing d.kind d.phys d.record_of key else releasing d.kind d.record_of key) d) h
    by (Some fault) = h

kept-submitted : (rest most limit at : ℕ) (frame : List ℕ) (ticket : Ticket) (d : State) → IsKept rest most d → IsKept rest most (after_submission limit d frame ticket at)
kept-submitted rest most limit at frame ticket d h = by (submit_fault limit d frame)
  where
    by : (fault : Option SubmitError) → IsKept rest most (submitted_by d frame ticket at fault)
    by None =
        kept-longer rest most d (submitted_by d frame ticket at None)
        (record { kind = refl; place = refl; attempts = refl; class = refl; more = record { frame = frame; ready = at; ticket = Some ticket } ∷ []; queue = refl }) h
    by (Some fault) = h

-- a device from outside looks for no address
settled_so : (nowhere : Bool) → is_some (polled_at (if nowhere then Settled 15 None else Settled 15 None)) ≡ false
settled_so true = refl
settled_so false = refl

joins_settled : (kind : Kind) (phys : Phys) → is_outside kind ≡ true → is_some (polled_at (start_place kind phys)) ≡ false
joins_settled Tv phys e = cc
joins_settled Amp phys e = cc
joins_settled Player phys e = cc
joins_settled Recorder phys e = cc
joins_settled Switch phys e = cc
joins_settled Combo phys e = cc
joins_settled FromOutside phys e = settled_so (is_nowhere phys)
joins_settled OutsideTv phys e = settled_so (is_nowhere phys)

kept-fresh : (rest most : ℕ) (kind : Kind) (name : List ℕ) (ports : ℕ) → IsKept rest most (fresh kind name ports)
kept-fresh rest most kind name ports = kept-calm rest most (fresh kind name ports) no_new (omega arith) (λ o. refl)

kept-joined : (rest most limit number at : ℕ) (phys : Phys) (d : State) → IsKept rest most (after_joining limit d number phys at)
kept-joined rest most limit number at phys d =
    let new : State = record (fresh d.kind d.name d.ports) { number = number; phys = phys; place = start_place d.kind phys; poll_ready = at } in
    kept-longer rest most new (after_joining limit d number phys at) (longer-reported limit at new)
    (kept-calm rest most new no_new (omega arith) (λ o. joins_settled d.kind phys o))

kept-moved : (rest most at number : ℕ) (plugged : Bool) (address : Option Phys) (d : State) → IsKept rest most d → IsKept rest most (after_move at number plugged address d)
kept-moved rest most at number false (Some address) d h = kept-joined rest most 16 number at address d
kept-moved rest most at number false None d h = h
kept-moved rest most at number true (Some address) d h = h
kept-moved rest most at number true None d h = kept-fresh rest most d.kind d.name d.ports

-- each device
abbrev pub AreKept : ℕ → ℕ → List State → Type 0
AreKept rest most [] = Unit {0}
AreKept rest most (d ∷ devices) = IsKept rest most d × AreKept rest most devices

kept-each : (rest most n : ℕ) (f : ℕ → State → State) (xs : List State) → ((m : ℕ) (d : State) → IsKept rest most d → IsKept rest most (f m d)) → AreKept rest most xs → AreKept rest most (each_from n f xs)
kept-each rest most n f [] step h = tt
kept-each rest most n f (x ∷ xs) step h = (step n x h.0, kept-each rest most (n + 1) f xs step h.1)

kept-changed : (rest most number : ℕ) (f : State → State) (xs : List State) → ((d : State) → IsKept rest most d → IsKept rest most (f d)) → AreKept rest most xs → AreKept rest most (changed_at number f xs)
kept-changed rest most number f [] step h = tt
kept-changed rest most zero f (x ∷ xs) step h = (step x h.0, h.1)
kept-changed rest most (suc number) f (x ∷ xs) step h = (h.0, kept-changed rest most number f xs step h.1)

kept-rewired : (rest most at : ℕ) (tree : List Node) (xs : List State) → AreKept rest most xs → AreKept rest most (each_from 0 (moved_by at tree) xs)
kept-rewired rest most at tree xs h = kept-each rest most 0 (moved_by at tree) xs (λ m d k. kept-moved rest most at m (is_on_wire d) (address_of tree m) d k) h

kept-loose : (rest most : ℕ) (tree : List Node) → AreKept rest most (loose tree)
kept-loose rest most [] = tt
kept-loose rest most (node ∷ tree) = (kept-fresh rest most node.kind node.name node.ports, kept-loose rest most tree)

pub kept-started : (rest most : ℕ) (tree : List Node) → AreKept rest most (first_net tree []).devices
kept-started rest most tree = kept-rewired rest most 0 tree (loose tree) (kept-loose rest most tree)

kept-sent : (rest most at device : ℕ) (frame : Option (List ℕ)) (ticket : Ticket) (s : NetState) → AreKept rest most s.devices → AreKept rest most (after_sent at device frame ticket s).devices
kept-sent rest most at device None ticket s h = h
kept-sent rest most at device (Some frame) ticket s h = kept-changed rest most device (λ d. after_submission 16 d frame ticket at) s.devices (λ d k. kept-submitted rest most 16 at frame ticket d k) h

pub kept-applied : (rest most at : ℕ) (event : Event) (s : NetState) → AreKept rest most s.devices → AreKept rest most (net_after at event s).devices
kept-applied rest most at event s h = by (event_fault s event) event
  where
    by : (fault : Option EventError) (event : Event) → AreKept rest most (applied_unless fault at event s).devices
    by (Some error) event = h
    by None (Plug child parent port) = kept-rewired rest most at _ s.devices h
    by None (Unplug child) = kept-rewired rest most at _ s.devices h
    by None (KeyEvent device key press) = kept-changed rest most device (λ d. after_key 16 d key press at) s.devices (λ d k. kept-keyed rest most 16 at key press d k) h
    by None (Send device frame ticket) = kept-sent rest most at device (Some frame) ticket s h
    by None (SendNamed device names frame ticket) = kept-sent rest most at device (named_frame s.devices names frame) ticket s h
    by None (Outside device act) = kept-changed rest most device (λ d. after_act d act) s.devices (λ d k. kept-acted rest most d act k) h

-- ---- who contends

-- the front of a queue was ready by an instant
abbrev IsReadyFront : ℕ → List Queued → Type 0
IsReadyFront begin [] = ⊥
IsReadyFront begin (q ∷ queue) = q.ready ≤ begin

record Started (rest begin : ℕ) (d : State) : Type 0 where
  free : rest + free_time_of d.class ≤ begin
  front : is_allocating d ≡ false → IsReadyFront begin d.queue

front_at : (begin poll_ready r : ℕ) (p : Option ℕ) (queue : List Queued) → ready_by p poll_ready queue ≡ Some r → r ≤ begin → is_some p ≡ false → IsReadyFront begin queue
front_at begin poll_ready r (Some a) queue e l n = cc
front_at begin poll_ready r None [] e l n = cc
front_at begin poll_ready r None (q ∷ queue) e l n = let same : q.ready ≡ r = cc in omega (arith, same, l)

started : (rest begin : ℕ) (d : State) → contends rest begin d ≡ true → Started rest begin d
started rest begin d h = step (is_on_wire d) (ready_of d) refl h
  where
    late : (ready : ℕ) (al : Bool) → ((if al then next_turn d.number (max ready (rest + free_time_of d.class)) else max ready (rest + free_time_of d.class)) == begin) ≡ true
        → (rest + free_time_of d.class ≤ begin) × (ready ≤ begin)
    late ready true e = let same : next_turn d.number (max ready (rest + free_time_of d.class)) ≡ begin = grind (arith, nat_tests) in (omega (arith, same), omega (arith, same))
    late ready false e = let same : max ready (rest + free_time_of d.class) ≡ begin = grind (arith, nat_tests) in (omega (arith, same), omega (arith, same))

    step : (on : Bool) (o : Option ℕ) → ready_of d ≡ o → is_at begin (start_by rest d on o) ≡ true → Started rest begin d
    step false o e k = absurd (false≢true k)
    step true None e k = absurd (false≢true k)
    step true (Some ready) e k =
        let l = late ready (is_allocating d) k in
        record { free = l.0; front = λ n. front_at begin d.poll_ready ready (polled_at d.place) d.queue e l.1 n }

-- who starts sooner than a new initiator tries again
retries : (rest begin : ℕ) (class : FreeTime) → rest + free_time_of class ≤ begin → begin < rest + 12000 → class ≡ Retry
retries rest begin Retry h l = refl
retries rest begin NewInitiator h l = absurd (omega (arith, h, l))
retries rest begin PresentInitiator h l = absurd (omega (arith, h, l))

-- nobody starts before
abbrev pub AllLate : ℕ → ℕ → List State → Type 0
AllLate rest begin [] = Unit {0}
AllLate rest begin (d ∷ devices) = ((t : ℕ) → start_of rest d ≡ Some t → begin ≤ t) × AllLate rest begin devices

no_some : (t : ℕ) → None ≡ Some t → ⊥
no_some t e = cc

none_late : (rest begin : ℕ) (xs : List State) → least_start rest xs ≡ None → AllLate rest begin xs
none_late rest begin [] h = tt
none_late rest begin (x ∷ xs) h = by (start_of rest x) (least_start rest xs) refl refl h (λ e. none_late rest begin xs e)
  where
    by : (o p : Option ℕ) → start_of rest x ≡ o → least_start rest xs ≡ p → sooner o p ≡ None → (least_start rest xs ≡ None → AllLate rest begin xs) → AllLate rest begin (x ∷ xs)
    by None None a b k ih = (λ t e. absurd (no_some t (sym a ∙ e)), ih b)
    by None (Some u) a b k ih = cc
    by (Some t) None a b k ih = cc
    by (Some t) (Some u) a b k ih = cc

later_late : (rest a b : ℕ) (xs : List State) → a ≤ b → AllLate rest b xs → AllLate rest a xs
later_late rest a b [] l h = tt
later_late rest a b (x ∷ xs) l h = (λ t e. (let m = h.0 t e in omega (arith, l, m)), later_late rest a b xs l h.1)

pub all_late : (rest begin : ℕ) (xs : List State) → least_start rest xs ≡ Some begin → AllLate rest begin xs
all_late rest begin [] h = cc
all_late rest begin (x ∷ xs) h = by (start_of rest x) (least_start rest xs) refl refl h (λ u e. all_late rest u xs e)
  where
    by : (o p : Option ℕ) → start_of rest x ≡ o → least_start rest xs ≡ p → sooner o p ≡ Some begin → ((u : ℕ) → least_start rest xs ≡ Some u → AllLate rest u xs) → AllLate rest begin (x ∷ xs)
    by None None a b k ih = cc
    by None (Some u) a b k ih =
        let same : u ≡ begin = cc in
        (λ t e. absurd (no_some t (sym a ∙ e)), later_late rest begin u xs (omega (arith, same)) (ih u b))
    by (Some t) None a b k ih =
        let same : t ≡ begin = cc in
        (λ v e. (let w : t ≡ v = cc in omega (arith, same, w)), none_late rest begin xs b)
    by (Some t) (Some u) a b k ih =
        let same : min t u ≡ begin = cc in
        (λ v e. (let w : t ≡ v = cc in omega (arith, same, w)), later_late rest begin u xs (omega (arith, same)) (ih u b))

-- who is about to try again contends in the next round
waits : (rest begin most : ℕ) (d : State) → IsKept rest most d → ((t : ℕ) → start_of rest d ≡ Some t → begin ≤ t) → rest + 7200 ≤ begin → d.class ≡ Retry → is_allocating d ≡ false → contends rest begin d ≡ true
waits rest begin most d h late least c n =
    ap (is_at begin) start ∙ (let m : begin ≤ rest + 7200 = late (rest + 7200) start in let e : (rest + 7200 == begin) ≡ true = grind (arith, nat_tests) in e)
  where
    by_queue : (p : Option ℕ) (queue : List Queued) → is_some p ≡ false → IsFront rest most d.attempts queue → (r : ℕ) × (ready_by p d.poll_ready queue ≡ Some r) × (r ≤ rest + 7200)
    by_queue (Some a) queue e f = absurd (false≢true (sym e))
    by_queue None [] e f = absurd f
    by_queue None (q ∷ queue) e f = (q.ready, refl, f.0)

    ready : (r : ℕ) × (ready_of d ≡ Some r) × (r ≤ rest + 7200)
    ready = by_queue (polled_at d.place) d.queue n (h.front c n)

    at : max ready.0 (rest + free_time_of d.class) ≡ rest + 7200
    at = let free : free_time_of d.class ≡ 7200 = ap free_time_of c in let r = ready.2 in omega (arith, free, r)

    start : start_of rest d ≡ Some (rest + 7200)
    start =
        ap (λ (on : Bool). start_by rest d on (ready_of d)) (h.on c) ∙ ap (λ (o : Option ℕ). start_by rest d true o) ready.1
        ∙ ap (λ (al : Bool). let o : Option ℕ = Some (if al then next_turn d.number (max ready.0 (rest + free_time_of d.class)) else max ready.0 (rest + free_time_of d.class)) in o) n
        ∙ ap (λ (t : ℕ). Some t) at

-- ---- a round

-- how many attempts the frames of a round have had, which begins soon after the one before, or not
abbrev pub Counted : ℕ → ℕ → ℕ → ℕ → Type 0
Counted rest begin most now = (now ≤ 1) ⊎ ((begin < rest + 12000) × (now ≤ most + 1))

-- of the front of its queue, if it is no poll
tried : (rest begin most now : ℕ) (d : State) → IsKept rest most d → Counted rest begin most now → contends rest begin d ≡ true → is_allocating d ≡ false → (q : Queued) (queue : List Queued) → d.queue ≡ q ∷ queue
    → (length q.frame == 1) ≡ false → now ≤ d.attempts + 1
tried rest begin most now d h (inl few) c n q queue e long = omega (arith, few)
tried rest begin most now d h (inr soon) c n q queue e long =
    let again : d.class ≡ Retry = retries rest begin d.class (started rest begin d c).free soon.0 in
    let front : IsFront rest most d.attempts (q ∷ queue) = subst (λ (xs : List Queued). IsFront rest most d.attempts xs) e (h.front again n) in
    let enough : most ≤ d.attempts = front.1 long in
    let more = soon.1 in
    omega (arith, enough, more)

fronted : (rest begin most now after : ℕ) (d : State) → IsKept rest most d → Counted rest begin most now → begin ≤ after → contends rest begin d ≡ true → is_allocating d ≡ false → IsFront after now (d.attempts + 1) d.queue
fronted rest begin most now after d h k l c n = by d.queue refl ((started rest begin d c).front n)
  where
    by : (queue : List Queued) → d.queue ≡ queue → IsReadyFront begin queue → IsFront after now (d.attempts + 1) queue
    by [] e r = absurd r
    by (q ∷ queue) e r = (omega (arith, r, l), λ long. tried rest begin most now d h k c n q queue e long)

-- of a poll nothing is counted
poll_front : (rest most one other : ℕ) (queue : List Queued) → front_is_poll queue ≡ true → IsFront rest most one queue → IsFront rest most other queue
poll_front rest most one other [] p f = absurd f
poll_front rest most one other (q ∷ queue) p f = (f.0, λ long. absurd (false≢true (sym long ∙ left (length q.frame == 1) (not (is_some (attempts_of q.ticket))) p)))
  where
    left : (a b : Bool) → (a && b) ≡ true → a ≡ true
    left true b h = refl
    left false b h = absurd (false≢true h)

kept-ended : (rest most : ℕ) (d : State) → (is_outside d.kind ≡ true → is_allocating d ≡ false) → IsKept rest most (after_front d)
kept-ended rest most d out = kept-calm rest most (after_front d) no_present (omega arith) out

-- a frame is sent again five times at most
again_few : (queue : List Queued) → most_again queue ≤ 5
again_few [] = omega arith
again_few (q ∷ queue) = by (attempts_of q.ticket)
  where
    by : (most : Option ℕ) → again_by most ≤ 5
    by None = omega arith
    by (Some most) = omega arith

kept-failed : (rest most : ℕ) (d : State) → is_on_wire d ≡ true → (is_outside d.kind ≡ true → is_allocating d ≡ false) → IsFront rest most (d.attempts + 1) d.queue → IsKept rest most (after_failure d)
kept-failed rest most d on out front = by (nat_lt d.attempts (most_again d.queue)) refl
  where
    by : (b : Bool) → nat_lt d.attempts (most_again d.queue) ≡ b → IsKept rest most (if b then record d { attempts = d.attempts + 1; class = Retry } else after_front d)
    by true e = record {
      few = let l : d.attempts < most_again d.queue = grind (arith, nat_tests) in let m = again_few d.queue in omega (arith, l, m);
      outside = out;
      on = λ c. on;
      front = λ c n. front;
    }
    by false e = kept-ended rest most d out

kept-either : (rest most : ℕ) (t : Bool) (x y : State) → (t ≡ true → IsKept rest most x) → IsKept rest most y → IsKept rest most (if t then x else y)
kept-either rest most true x y h k = h refl
kept-either rest most false x y h k = k

kept-frame_sent : (rest most : ℕ) (d : State) (fate : Fate) → d.attempts ≤ 5 → is_on_wire d ≡ true → (is_outside d.kind ≡ true → is_allocating d ≡ false) → IsFront rest most (d.attempts + 1) d.queue
    → IsKept rest most (frame_sent d fate)
kept-frame_sent rest most d Lost few on out front = by (front_is_counted d.queue) (nat_lt d.attempts (most_again d.queue)) refl
  where
    calm : (e : State) → e.attempts ≤ 5 → (is_outside e.kind ≡ true → is_allocating e ≡ false) → IsKept rest most (record e { class = NewInitiator })
    calm e small o = kept-calm rest most (record e { class = NewInitiator }) no_new small o

    by : (counted again : Bool) → nat_lt d.attempts (most_again d.queue) ≡ again
        → IsKept rest most (record (if counted then (if again then record d { attempts = d.attempts + 1; class = Retry } else after_front d) else d) { class = NewInitiator })
    by true true e =
        let l : d.attempts < most_again d.queue = grind (arith, nat_tests) in let m = again_few d.queue in
        calm (record d { attempts = d.attempts + 1; class = Retry }) (omega (arith, l, m)) out
    by true false e = calm (after_front d) (omega arith) out
    by false again e = calm d few out
kept-frame_sent rest most d Delivered few on out front = kept-ended rest most d out
kept-frame_sent rest most d Unacked few on out front = kept-either rest most (front_is_poll d.queue) (after_front d) (after_failure d) (λ p. kept-ended rest most d out) (kept-failed rest most d on out front)
kept-frame_sent rest most d Broken few on out front =
    kept-either rest most (front_is_poll d.queue) (record d { class = Retry }) (after_failure d)
    (λ p. record { few = few; outside = out; on = λ c. on; front = λ c n. poll_front rest most (d.attempts + 1) d.attempts d.queue p front })
    (kept-failed rest most d on out front)

-- a poll of an address that was broken is tried again
record StillPolls (place : Place) : Type 0 where
  on : is_off place ≡ false
  polls : is_some (polled_at place) ≡ true

still_polls : (kind : Kind) (found : Option ℕ) (a : ℕ) (fate : Fate) → class_of_poll fate ≡ Retry → StillPolls (place_after_poll kind found a fate)
still_polls kind found a Delivered e = absurd (no_present e)
still_polls kind found a Unacked e = absurd (no_present e)
still_polls kind found a Lost e = absurd (no_new e)
still_polls kind found a Broken e = record { on = refl; polls = refl }

still_there : (kind : Kind) (place : Place) (a : ℕ) (fate : Fate) → polled_at place ≡ Some a → class_of_poll fate ≡ Retry → StillPolls (place_after_fate kind place fate)
still_there kind Off a fate p e = cc
still_there kind (Polls found b) a fate p e = still_polls kind found b fate e
still_there kind (Settled first second) a fate p e = cc

kept-poll_sent : (rest most limit at a : ℕ) (d : State) (fate : Fate) → polled_at d.place ≡ Some a → d.attempts ≤ 5 → (is_outside d.kind ≡ true → is_allocating d ≡ false) → IsKept rest most (sent_by limit d fate at (Some a))
kept-poll_sent rest most limit at a d fate p few out =
    kept-longer rest most new (with_reports limit at new) (longer-reported limit at new) (record {
      few = few;
      outside = λ o. absurd (false≢true (sym (out o) ∙ ap is_some p));
      on = λ c. ap not (still_there d.kind d.place a fate p c).on;
      front = λ c n. absurd (false≢true (sym n ∙ (still_there d.kind d.place a fate p c).polls));
    })
  where
    new : State
    new = record d { place = place_after_fate d.kind d.place fate; poll_ready = at; class = class_of_poll fate }

no_wait : (class : FreeTime) → class_after_waiting class ≡ Retry → class ≡ Retry
no_wait Retry e = refl
no_wait NewInitiator e = e
no_wait PresentInitiator e = absurd (no_new e)

-- what a round leaves of a device, by what it has followed
kept-informed : (rest begin most now after : ℕ) (d e : State) (own any : Bool) (fate : Fate) (at : ℕ) → contends rest begin d ≡ own → IsLonger d e → is_on_wire d ≡ true → IsKept rest most d → Counted rest begin most now
    → begin ≤ after → (d.class ≡ Retry → is_allocating d ≡ false → contends rest begin d ≡ true) → IsKept after now (after_fate own any fate at e)
kept-informed rest begin most now after d e true any fate at c l on h k later waiting = by (polled_at e.place) refl
  where
    few : e.attempts ≤ 5
    few = let a = h.few in let b = l.attempts in omega (arith, a, b)

    out : is_outside e.kind ≡ true → is_allocating e ≡ false
    out o = ap (λ (p : Place). is_some (polled_at p)) l.place ∙ h.outside (ap is_outside (sym l.kind) ∙ o)

    on_too : is_on_wire e ≡ true
    on_too = ap (λ (p : Place). not (is_off p)) l.place ∙ on

    front : is_allocating e ≡ false → IsFront after now (e.attempts + 1) e.queue
    front n =
        subst (λ (q : List Queued). IsFront after now (e.attempts + 1) q) (sym l.queue)
        (subst (λ (a : ℕ). IsFront after now (a + 1) (d.queue ++ l.more)) (sym l.attempts)
        (longer_front after now (d.attempts + 1) d.queue l.more (fronted rest begin most now after d h k later c (ap (λ (p : Place). is_some (polled_at p)) (sym l.place) ∙ n))))

    by : (p : Option ℕ) → polled_at e.place ≡ p → IsKept after now (sent_by 16 e fate at p)
    by (Some a) p = kept-poll_sent after now 16 at a e fate p few out
    by None p = kept-frame_sent after now e fate few on_too out (front (ap is_some p))
kept-informed rest begin most now after d e false true fate at c l on h k later waiting = record {
  few = let a = h.few in let b = l.attempts in omega (arith, a, b);
  outside = λ o. ap (λ (p : Place). is_some (polled_at p)) l.place ∙ h.outside (ap is_outside (sym l.kind) ∙ o);
  on = λ r. ap (λ (p : Place). not (is_off p)) l.place ∙ on;
  front = λ r n. absurd (false≢true (sym c ∙ waiting (sym l.class ∙ no_wait e.class r) (ap (λ (p : Place). is_some (polled_at p)) (sym l.place) ∙ n)));
}
kept-informed rest begin most now after d e false false fate at c l on h k later waiting = record {
  few = let a = h.few in let b = l.attempts in omega (arith, a, b);
  outside = λ o. ap (λ (p : Place). is_some (polled_at p)) l.place ∙ h.outside (ap is_outside (sym l.kind) ∙ o);
  on = λ r. ap (λ (p : Place). not (is_off p)) l.place ∙ on;
  front = λ r n. absurd (false≢true (sym c ∙ waiting (sym l.class ∙ r) (ap (λ (p : Place). is_some (polled_at p)) (sym l.place) ∙ n)));
}

kept-after : (rest begin most now after : ℕ) (d : State) (any : Bool) (o : Outcome) (number : ℕ) → IsKept rest most d → Counted rest begin most now → begin ≤ after → rest + 7200 ≤ begin
    → ((t : ℕ) → start_of rest d ≡ Some t → begin ≤ t) → IsKept after now (device_after (contends rest begin d) any o number d)
kept-after rest begin most now after d any o number h k later least late = by (is_on_wire d) refl
  where
    by : (on : Bool) → is_on_wire d ≡ on → IsKept after now (if on then after_fate (contends rest begin d) any (fate_in o number) (close_in o) (followed_in o number d) else d)
    by true on =
        kept-informed rest begin most now after d (followed_in o number d) (contends rest begin d) any (fate_in o number) (close_in o) refl
        (longer-unless (is_among o.survivors.items number) (frame_in o.reading) (close_in o) d) on h k later (λ c n. waits rest begin most d h late least c n)
    by false on = kept-calm after now d (λ c. false≢true (sym on ∙ h.on c)) h.few h.outside

pub kept-round : (rest begin most now after n : ℕ) (any : Bool) (o : Outcome) (xs : List State) → AreKept rest most xs → AllLate rest begin xs → Counted rest begin most now → begin ≤ after → rest + 7200 ≤ begin
    → AreKept after now (each_from n (λ number d. device_after (contends rest begin d) any o number d) xs)
kept-round rest begin most now after n any o [] h late k later least = tt
kept-round rest begin most now after n any o (x ∷ xs) h late k later least =
    (kept-after rest begin most now after x any o n h.0 k later least late.0, kept-round rest begin most now after (n + 1) any o xs h.1 late.1 k later least)

pub started_again : (rest begin : ℕ) (d : State) → contends rest begin d ≡ true → begin < rest + 12000 → d.class ≡ Retry
started_again rest begin d c l = retries rest begin d.class (started rest begin d c).free l
