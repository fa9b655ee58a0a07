-- An event makes no round begin before its own instant, where none did.
use Rattle.std.proofs.Common.{◌≡◌, ℕ, zero, suc, ◌+◌, ◌%◌, ◌==◌, ◌≤◌, Bool, true, false, not, ◌&&◌, ◌||◌, nat_lt, if◌then◌else◌, max, min, List, [], ◌∷◌, ◌++◌, length, Option, Some, None, is_some, refl, sym, ap, subst, arith}
use Rattle.std.specs.List.{All}
use Rattle.std.proofs.lemmas.List.Elements.{All-nil, All-cons, All-head, All-tail}
use Rattle.text_core.specs.declared.kind.Kind.{Kind}
use Rattle.text_core.specs.declared.kind.Kind.TheVariants.{Tv, Amp, Player, Recorder, Switch, Combo, Outside as FromOutside, OutsideTv}
use Rattle.text_core.specs.declared.phys.Phys.{Phys}
use Rattle.edid_tree.specs.Node.{Node}
use Rattle.edid_tree.specs.Path.{address_of}
use Rattle.message_table.specs.declared.message.Decoded.{Decoded}
use Rattle.message_table.specs.declared.message.Decoded.TheVariants.{Known, Poll, Short, Unknown as NoName}
use Rattle.message_table.specs.declared.words.Reason.TheVariants.{Unrecognized}
use Rattle.message_table.specs.Table.{decoded_of}
use Rattle.message_table.specs.Words.{reason_byte}
use Rattle.line_wave.specs.declared.Stretch.{Stretch}
use Rattle.line_rounds.specs.declared.Outcome.{Outcome}
use Rattle.line_rounds.specs.Round.{fate_in, close_in}
use Rattle.line_frames.specs.Blocks.{frame_in}
use Rattle.line_frames.specs.declared.Fate.{Fate}
use Rattle.line_frames.specs.declared.Fate.TheVariants.{Delivered, Unacked, Lost, Broken}
use Rattle.device_features.specs.declared.record.Heard.{Heard}
use Rattle.device_features.specs.declared.record.Record.{Record}
use Rattle.device_features.specs.declared.keys.Key.{Key}
use Rattle.device_features.specs.declared.say.Say.{Say}
use Rattle.device_features.specs.declared.say.Say.TheVariants.{Reply, Cast, Report, Refuse}
use Rattle.device_features.specs.Effect.{Effect}
use Rattle.device_features.specs.Effects.{effect_of, refuses, heard_of}
use Rattle.device_features.specs.Keys.{pressing, releasing}
use Rattle.device_features.specs.Kinds.{addresses, is_nowhere, is_outside, is_switch, second_addresses, type_of}
use Rattle.device_core.specs.declared.device.Ticket.{Ticket}
use Rattle.device_core.specs.declared.device.Queued.{Queued}
use Rattle.device_core.specs.declared.device.SubmitError.{SubmitError}
use Rattle.line_frames.specs.declared.free_time.FreeTime.TheVariants.{Retry}
use Rattle.device_core.specs.declared.keys.KeyError.{KeyError}
use Rattle.device_core.specs.declared.keys.KeyError.TheVariants.{NotForKind, OffWire}
use Rattle.device_core.specs.declared.outside.Act.{Act}
use Rattle.device_core.specs.declared.outside.Act.TheVariants.{Hold, Empty}
use Rattle.line_frames.specs.FreeTime.{free_time_of}
use Rattle.device_core.specs.State.{State, addresses_held, frame_of, holds, one_more, source, speaks, with_queued}
use Rattle.device_core.specs.Say.{after_effect, say, say_all}
use Rattle.device_core.specs.Effects.{after_frame, by_decoded, is_for}
use Rattle.device_core.specs.Keys.{after_key, key_fault, keyed_by, own_doing}
use Rattle.device_core.specs.Outside.{act_fault, acted_by, after_act}
use Rattle.device_core.specs.Place.{after_failure, after_front, after_joining, after_sending, after_submission, class_of_poll, frame_sent, fresh, front_is_counted, front_is_poll, most_again, is_allocating, is_off, is_on_wire, place_after_fate, polled_at, ready_by, ready_of, reported_by, reported_from, sent_by, start_place, submit_fault, submitted_by, tries, unregistered, with_reports}
use Rattle.room_event.specs.declared.event.Event.{Event}
use Rattle.room_event.specs.declared.event.Event.TheVariants.{Plug, Unplug, Key as Press, Send, SendNamed, Outside}
use Rattle.room_event.specs.declared.event.EventError.{EventError}
use Rattle.room_net.specs.Start.{contends, first_onset, least_start, next_turn, sooner, start_by, start_from, start_of}
use Rattle.room_net.specs.State.{NetState, after_move, each_from, first_net, loose, moved_by, next_start}
use Rattle.room_net.specs.Apply.{after_sent, applied_unless, changed_at, event_fault, named_frame, net_after}
use Rattle.room_net.specs.Step.{after_fate, after_round, device_after, followed_in, followed_unless, is_among, is_sent}

-- ---- an instant that is not before another

abbrev pub From : ℕ → Option ℕ → Type 0
From h o = (b : ℕ) → o ≡ Some b → h ≤ b

pub from_none : (h : ℕ) → From h None
from_none h b e = cc

pub from_some : (h t : ℕ) → h ≤ t → From h (Some t)
from_some h t l b e = let same : t ≡ b = cc in omega (arith, l, same)

-- the sooner of two
from_both : (h : ℕ) (a c : Option ℕ) → From h a → From h c → From h (sooner a c)
from_both h None c f g = g
from_both h (Some t) None f g = f
from_both h (Some t) (Some u) f g = from_some h (min t u) (let x = f t refl in let y = g u refl in omega (arith, x, y))

from_left : (h : ℕ) (a c : Option ℕ) → From h (sooner a c) → From h a
from_left h None c f = from_none h
from_left h (Some t) None f = f
from_left h (Some t) (Some u) f = from_some h t (let x = f (min t u) refl in omega (arith, x))

pub from_right : (h : ℕ) (a c : Option ℕ) → From h (sooner a c) → From h c
from_right h None c f = f
from_right h (Some t) None f = from_none h
from_right h (Some t) (Some u) f = from_some h u (let x = f (min t u) refl in omega (arith, x))

-- ---- what is ready then starts then at the soonest

start_late : (h rest : ℕ) (d : State) (ready : ℕ) (on : Bool) → h ≤ ready → From h (start_by rest d on (Some ready))
start_late h rest d ready false l = from_none h
start_late h rest d ready true l = from_some h (start_from rest d ready) (by_turn (is_allocating d))
  where
    by_turn : (b : Bool) → h ≤ (if b then next_turn d.number (max ready (rest + free_time_of d.class)) else max ready (rest + free_time_of d.class))
    by_turn true = omega (arith, l)
    by_turn false = omega (arith, l)

no_start : (h rest : ℕ) (d : State) (on : Bool) → From h (start_by rest d on None)
no_start h rest d true = from_none h
no_start h rest d false = from_none h

-- ---- a device: no start before an instant, and one from outside looks for no address

abbrev pub Settles : State → Type 0
Settles d = is_outside d.kind ≡ true → polled_at d.place ≡ None

pub record IsLate (h rest : ℕ) (d : State) : Type 0 where
  pub start : From h (start_of rest d)
  pub settles : Settles d

-- what stays with what is queued from an instant on, and with the record
record Stays (h : ℕ) (P : State → Type 0) : Type 0 where
  queued : (at from to : ℕ) (bytes : List ℕ) (d : State) → h ≤ at → P d → P (with_queued 16 at from to bytes d)
  recorded : (r : Record) (d : State) → P d → P (record d { record_of = r })

two : (P : State → Type 0) (t : Bool) (x y : State) → P x → P y → P (if t then x else y)
two P true x y h k = h
two P false x y h k = k

say_stays : (h : ℕ) (P : State → Type 0) → Stays h P → (hd : Heard) (s : Say) (d : State) → h ≤ hd.at → P d → P (say 16 hd s d)
say_stays h P k hd (Reply bytes) d l p = two P (nat_lt hd.from 15) (with_queued 16 hd.at (source d.place hd.to) hd.from bytes d) d (k.queued hd.at (source d.place hd.to) hd.from bytes d l p) p
say_stays h P k hd (Cast bytes) d l p = k.queued hd.at (source d.place hd.to) 15 bytes d l p
say_stays h P k hd (Report to bytes) d l p = two P (nat_lt to 15) (with_queued 16 hd.at (source d.place hd.to) to bytes d) d (k.queued hd.at (source d.place hd.to) to bytes d l p) p
say_stays h P k hd (Refuse reason) d l p =
    two P (nat_lt hd.to 15 && (nat_lt hd.from 15 && not (hd.opcode == 0))) (with_queued 16 hd.at (source d.place hd.to) hd.from (0x00 ∷ hd.opcode ∷ reason_byte reason ∷ []) d) d
    (k.queued hd.at (source d.place hd.to) hd.from (0x00 ∷ hd.opcode ∷ reason_byte reason ∷ []) d l p) p

all_stays : (h : ℕ) (P : State → Type 0) → Stays h P → (hd : Heard) (says : List Say) (d : State) → h ≤ hd.at → P d → P (say_all 16 hd says d)
all_stays h P k hd [] d l p = p
all_stays h P k hd (s ∷ says) d l p = all_stays h P k hd says (say 16 hd s d) l (say_stays h P k hd s d l p)

effect_stays : (h : ℕ) (P : State → Type 0) → Stays h P → (hd : Heard) (e : Effect) (d : State) → h ≤ hd.at → P d → P (after_effect 16 hd e d)
effect_stays h P k hd e d l p = all_stays h P k hd e.says (record d { record_of = e.after }) l (k.recorded e.after d p)

decoded_stays : (h : ℕ) (P : State → Type 0) → Stays h P → (hd : Heard) (d : State) (said : Decoded) → h ≤ hd.at → P d → P (by_decoded 16 hd d said)
decoded_stays h P k hd d (Known message) l p = effect_stays h P k hd (effect_of d.kind d.phys d.name d.ports hd d.record_of message) d l p
decoded_stays h P k hd d (NoName opcode) l p = effect_stays h P k hd (refuses d.record_of Unrecognized) d l p
decoded_stays h P k hd d (Short opcode) l p = p
decoded_stays h P k hd d Poll l p = p

frame_stays : (h at : ℕ) (P : State → Type 0) → Stays h P → (frame : List ℕ) (d : State) → h ≤ at → P d → P (after_frame 16 d frame at)
frame_stays h at P k [] d l p = p
frame_stays h at P k (header ∷ []) d l p = p
frame_stays h at P k (header ∷ opcode ∷ operands) d l p =
    two P (is_for d (header % 16) opcode) (by_decoded 16 (heard_of header opcode operands at) d (decoded_of (header ∷ opcode ∷ operands))) d
    (decoded_stays h P k (heard_of header opcode operands at) d (decoded_of (header ∷ opcode ∷ operands)) l p) p

key_stays : (h at : ℕ) (P : State → Type 0) → Stays h P → (key : Key) (press : Bool) (d : State) (fault : Option KeyError) → h ≤ at → P d → P (keyed_by 16 d key press at fault)
key_stays h at P k key press d None l p = effect_stays h P k (own_doing at) (if press then pressing d.kind d.phys d.record_of key else releasing d.kind d.record_of key) d l p
key_stays h at P k key press d (Some fault) l p = p

unit_stays : (h at : ℕ) (P : State → Type 0) → Stays h P → (unit : Option ℕ) (d : State) → h ≤ at → P d → P (reported_from 16 at unit d)
unit_stays h at P k None d l p = p
unit_stays h at P k (Some from) d l p =
    two P (nat_lt from 15 || is_switch d.kind) (with_queued 16 at from 15 (0x84 ∷ d.phys.high ∷ d.phys.low ∷ type_of d.kind from ∷ []) d) d
    (k.queued at from 15 (0x84 ∷ d.phys.high ∷ d.phys.low ∷ type_of d.kind from ∷ []) d l p) p

units_stay : (h at : ℕ) (P : State → Type 0) → Stays h P → (units : List (Option ℕ)) (d : State) → h ≤ at → P d → P (reported_by 16 at units d)
units_stay h at P k [] d l p = p
units_stay h at P k (unit ∷ units) d l p = units_stay h at P k units (reported_from 16 at unit d) l (unit_stays h at P k unit d l p)

reports_stay : (h at : ℕ) (P : State → Type 0) → Stays h P → (d : State) → h ≤ at → P d → P (with_reports 16 at d)
reports_stay h at P k d l p = units_stay h at P k (addresses_held d.place) d l p

-- ---- these do

queue_settles : (h : ℕ) → Stays h Settles
queue_settles h = record {
  queued = λ at from to bytes d l p.
      two Settles (not (speaks d) || holds d.place to) d (if nat_lt (length d.queue) 16 then record d { queue = d.queue ++ record { frame = frame_of from to bytes; ready = at; ticket = None } ∷ [] } else record d { dropped = one_more d.dropped }) p
      (two Settles (nat_lt (length d.queue) 16) (record d { queue = d.queue ++ record { frame = frame_of from to bytes; ready = at; ticket = None } ∷ [] }) (record d { dropped = one_more d.dropped }) p p);
  recorded = λ r d p. p;
}

-- one more at the end of what waits
appended : (h rest : ℕ) (d : State) (q : Queued) → h ≤ q.ready → From h (start_of rest d) → From h (start_of rest (record d { queue = d.queue ++ q ∷ [] }))
appended h rest d q l f = by (is_on_wire d) (polled_at d.place) d.queue f
  where
    e : State
    e = record d { queue = d.queue ++ q ∷ [] }

    by : (on : Bool) (p : Option ℕ) (xs : List Queued) → From h (start_by rest d on (ready_by p d.poll_ready xs)) → From h (start_by rest e on (ready_by p d.poll_ready (xs ++ q ∷ [])))
    by false p xs g = from_none h
    by true (Some a) xs g = g
    by true None [] g = start_late h rest e q.ready true l
    by true None (x ∷ xs) g = g

dropped : (h rest n : ℕ) (d : State) → From h (start_of rest d) → From h (start_of rest (record d { dropped = n }))
dropped h rest n d f = by (is_on_wire d) (ready_of d) f
  where
    by : (on : Bool) (r : Option ℕ) → From h (start_by rest d on r) → From h (start_by rest (record d { dropped = n }) on r)
    by false r g = from_none h
    by true None g = from_none h
    by true (Some ready) g = g

recorded : (h rest : ℕ) (r : Record) (d : State) → From h (start_of rest d) → From h (start_of rest (record d { record_of = r }))
recorded h rest r d f = by (is_on_wire d) (ready_of d) f
  where
    by : (on : Bool) (o : Option ℕ) → From h (start_by rest d on o) → From h (start_by rest (record d { record_of = r }) on o)
    by false o g = from_none h
    by true None g = from_none h
    by true (Some ready) g = g

late_stays : (h rest : ℕ) → Stays h (IsLate h rest)
late_stays h rest = record {
  queued = λ at from to bytes d l p. (
      let q : Queued = record { frame = frame_of from to bytes; ready = at; ticket = None } in
      two (IsLate h rest) (not (speaks d) || holds d.place to) d (if nat_lt (length d.queue) 16 then record d { queue = d.queue ++ q ∷ [] } else record d { dropped = one_more d.dropped }) p
      (two (IsLate h rest) (nat_lt (length d.queue) 16) (record d { queue = d.queue ++ q ∷ [] }) (record d { dropped = one_more d.dropped })
      (record { start = appended h rest d q l p.start; settles = p.settles }) (record { start = dropped h rest (one_more d.dropped) d p.start; settles = p.settles }))
      );
  recorded = λ r d p. record { start = recorded h rest r d p.start; settles = p.settles };
}

late_submitted : (h rest at : ℕ) (frame : List ℕ) (ticket : Ticket) (d : State) (fault : Option SubmitError) → h ≤ at → IsLate h rest d → IsLate h rest (submitted_by d frame ticket at fault)
late_submitted h rest at frame ticket d None l p = record { start = appended h rest d (record { frame = frame; ready = at; ticket = Some ticket }) l p.start; settles = p.settles }
late_submitted h rest at frame ticket d (Some fault) l p = p

late_acted : (h rest : ℕ) (d : State) (act : Act) → IsLate h rest d → IsLate h rest (after_act d act)
late_acted h rest d act p = by (is_off d.place) (is_outside d.kind) act refl refl
  where
    by : (off outside : Bool) (act : Act) → is_off d.place ≡ off → is_outside d.kind ≡ outside
        → IsLate h rest (acted_by d (if off then Some OffWire else (if outside then None else Some NotForKind)) act)
    by true outside act e f = p
    by false false act e f = p
    by false true (Hold first second more) e f =
        let none : polled_at d.place ≡ None = p.settles f in
        let on : is_on_wire d ≡ true = ap not e in
        let before : From h (start_by rest d true (ready_by None d.poll_ready d.queue)) =
        subst (λ (o : Option ℕ). From h (start_by rest d true (ready_by o d.poll_ready d.queue))) none
        (subst (λ (b : Bool). From h (start_by rest d b (ready_of d))) on p.start) in
        record { start = held none d.queue before; settles = λ x. refl }
      where
        now : State
        now = (acted_by d None (Hold first second more))

        held : polled_at d.place ≡ None → (xs : List Queued) → From h (start_by rest d true (ready_by None d.poll_ready xs)) → From h (start_by rest now true (ready_by None d.poll_ready xs))
        held none [] g = from_none h
        held none (x ∷ xs) g =
            subst (λ (o : Option ℕ). From h (Some (if is_some o then next_turn d.number (max x.ready (rest + free_time_of d.class)) else max x.ready (rest + free_time_of d.class)))) none g
    by false true Empty e f =
        let none : polled_at d.place ≡ None = p.settles f in
        record { start = subst (λ (o : Option ℕ). From h (start_by rest (acted_by d None Empty) (is_on_wire d) (ready_by o d.poll_ready []))) (sym none) (no_start h rest (acted_by d None Empty) (is_on_wire d)); settles = p.settles }

-- ---- on the wire and off it

outside_place : (kind : Kind) (phys : Phys) → is_outside kind ≡ true → polled_at (start_place kind phys) ≡ None
outside_place Tv phys e = cc
outside_place Amp phys e = cc
outside_place Player phys e = cc
outside_place Recorder phys e = cc
outside_place Switch phys e = cc
outside_place Combo phys e = cc
outside_place FromOutside phys e = by (is_nowhere phys)
  where
    by : (b : Bool) → polled_at (if b then unregistered (second_addresses FromOutside) else tries FromOutside None (addresses FromOutside)) ≡ None
    by true = refl
    by false = refl
outside_place OutsideTv phys e = by (is_nowhere phys)
  where
    by : (b : Bool) → polled_at (if b then unregistered (second_addresses OutsideTv) else tries OutsideTv None (addresses OutsideTv)) ≡ None
    by true = refl
    by false = refl

late_joined : (h rest number at : ℕ) (phys : Phys) (d : State) → h ≤ at → IsLate h rest (after_joining 16 d number phys at)
late_joined h rest number at phys d l = reports_stay h at (IsLate h rest) (late_stays h rest) e l (record { start = by (is_on_wire e) (polled_at e.place); settles = outside_place d.kind phys })
  where
    e : State
    e = record (fresh d.kind d.name d.ports) { number = number; phys = phys; place = start_place d.kind phys; poll_ready = at }

    by : (on : Bool) (p : Option ℕ) → From h (start_by rest e on (ready_by p at []))
    by on None = no_start h rest e on
    by on (Some a) = start_late h rest e at on l

late_moved : (h rest at number : ℕ) (on : Bool) (address : Option Phys) (d : State) → h ≤ at → IsLate h rest d → IsLate h rest (after_move at number on address d)
late_moved h rest at number false (Some address) d l p = late_joined h rest number at address d l
late_moved h rest at number false None d l p = p
late_moved h rest at number true (Some address) d l p = p
late_moved h rest at number true None d l p = record { start = from_none h; settles = λ e. refl }

settled_moved : (at number : ℕ) (on : Bool) (address : Option Phys) (d : State) → Settles d → Settles (after_move at number on address d)
settled_moved at number false (Some address) d p =
    reports_stay 0 at Settles (queue_settles 0) (record (fresh d.kind d.name d.ports) { number = number; phys = address; place = start_place d.kind address; poll_ready = at }) (omega arith)
    (outside_place d.kind address)
settled_moved at number false None d p = p
settled_moved at number true (Some address) d p = p
settled_moved at number true None d p = λ e. refl

-- ---- all devices

each_keeps : (P : State → Type 0) (n : ℕ) (f : ℕ → State → State) (xs : List State) → ((m : ℕ) (d : State) → P d → P (f m d)) → All P xs → All P (each_from n f xs)
each_keeps P n f [] step h = All-nil P
each_keeps P n f (x ∷ xs) step h = All-cons P (f n x) (each_from (n + 1) f xs) (step n x (All-head P x xs h)) (each_keeps P (n + 1) f xs step (All-tail P x xs h))

changed_keeps : (P : State → Type 0) (number : ℕ) (f : State → State) (xs : List State) → ((d : State) → P d → P (f d)) → All P xs → All P (changed_at number f xs)
changed_keeps P number f [] step h = h
changed_keeps P zero f (x ∷ xs) step h = All-cons P (f x) xs (step x (All-head P x xs h)) (All-tail P x xs h)
changed_keeps P (suc number) f (x ∷ xs) step h = All-cons P x (changed_at number f xs) (All-head P x xs h) (changed_keeps P number f xs step (All-tail P x xs h))

-- no device starts before an instant, and no pull does
pub record AreLate (h : ℕ) (s : NetState) : Type 0 where
  pub devices : All (IsLate h s.rest) s.devices
  pub pulls : From h (first_onset s.pulses)

abbrev pub AreSettled : NetState → Type 0
AreSettled s = All Settles s.devices

are_late : (h rest : ℕ) (xs : List State) → All Settles xs → From h (least_start rest xs) → All (IsLate h rest) xs
are_late h rest [] settled f = All-nil (IsLate h rest)
are_late h rest (x ∷ xs) settled f =
    All-cons (IsLate h rest) x xs (record { start = from_left h (start_of rest x) (least_start rest xs) f; settles = All-head Settles x xs settled })
    (are_late h rest xs (All-tail Settles x xs settled) (from_right h (start_of rest x) (least_start rest xs) f))

least_late : (h rest : ℕ) (xs : List State) → All (IsLate h rest) xs → From h (least_start rest xs)
least_late h rest [] late = from_none h
least_late h rest (x ∷ xs) late = from_both h (start_of rest x) (least_start rest xs) (All-head (IsLate h rest) x xs late).start (least_late h rest xs (All-tail (IsLate h rest) x xs late))

pub late_of : (h : ℕ) (s : NetState) → AreSettled s → From h (next_start s) → AreLate h s
late_of h s settled f = record {
  devices = are_late h s.rest s.devices settled (from_left h (least_start s.rest s.devices) (first_onset s.pulses) f);
  pulls = from_right h (least_start s.rest s.devices) (first_onset s.pulses) f;
}

pub late_next : (h : ℕ) (s : NetState) → AreLate h s → From h (next_start s)
late_next h s late = from_both h (least_start s.rest s.devices) (first_onset s.pulses) (least_late h s.rest s.devices late.devices) late.pulls

-- a frame is handed in, or there is none
late_sent : (h at device : ℕ) (frame : Option (List ℕ)) (ticket : Ticket) (s : NetState) → h ≤ at → AreLate h s → AreLate h (record (after_sent at device frame ticket s) { heard = None })
late_sent h at device None ticket s l late = record { devices = late.devices; pulls = late.pulls }
late_sent h at device (Some frame) ticket s l late = record {
  devices = changed_keeps (IsLate h s.rest) device (λ d. after_submission 16 d frame ticket at) s.devices (λ d p. late_submitted h s.rest at frame ticket d (submit_fault 16 d frame) l p) late.devices;
  pulls = late.pulls;
}

late_unless : (h at : ℕ) (event : Event) (s : NetState) (fault : Option EventError) → h ≤ at → AreLate h s → AreLate h (applied_unless fault at event s)
late_unless h at event s (Some error) l late = late
late_unless h at (Plug child parent port) s None l late =
    record { devices = each_keeps (IsLate h s.rest) 0 (moved_by at _) s.devices (λ m d p. late_moved h s.rest at m (is_on_wire d) (address_of _ m) d l p) late.devices; pulls = late.pulls }
late_unless h at (Unplug child) s None l late =
    record { devices = each_keeps (IsLate h s.rest) 0 (moved_by at _) s.devices (λ m d p. late_moved h s.rest at m (is_on_wire d) (address_of _ m) d l p) late.devices; pulls = late.pulls }
late_unless h at (Press device key press) s None l late = record {
  devices = changed_keeps (IsLate h s.rest) device (λ d. after_key 16 d key press at) s.devices (λ d p. key_stays h at (IsLate h s.rest) (late_stays h s.rest) key press d (key_fault d key) l p) late.devices;
  pulls = late.pulls;
}
late_unless h at (Send device frame ticket) s None l late = late_sent h at device (Some frame) ticket s l late
late_unless h at (SendNamed device names frame ticket) s None l late = late_sent h at device (named_frame s.devices names frame) ticket s l late
late_unless h at (Outside device act) s None l late =
    record { devices = changed_keeps (IsLate h s.rest) device (λ d. after_act d act) s.devices (λ d p. late_acted h s.rest d act p) late.devices; pulls = late.pulls }

-- an event that is applied at an instant or later makes no round begin before it
pub late_event : (h at : ℕ) (event : Event) (s : NetState) → h ≤ at → AreLate h s → AreLate h (net_after at event s)
late_event h at event s l late = late_unless h at event s (event_fault s event) l late

-- ---- devices from outside stay settled

settled_handed : (at device : ℕ) (frame : Option (List ℕ)) (ticket : Ticket) (s : NetState) → AreSettled s → AreSettled (after_sent at device frame ticket s)
settled_handed at device None ticket s h = h
settled_handed at device (Some frame) ticket s h = changed_keeps Settles device (λ d. after_submission 16 d frame ticket at) s.devices (λ d p. submitted d (submit_fault 16 d frame) p) h
  where
    submitted : (d : State) (fault : Option SubmitError) → Settles d → Settles (submitted_by d frame ticket at fault)
    submitted d None p = p
    submitted d (Some error) p = p

settled_unless : (at : ℕ) (event : Event) (s : NetState) (fault : Option EventError) → AreSettled s → AreSettled (applied_unless fault at event s)
settled_unless at event s (Some error) h = h
settled_unless at (Plug child parent port) s None h = each_keeps Settles 0 (moved_by at _) s.devices (λ m d p. settled_moved at m (is_on_wire d) (address_of _ m) d p) h
settled_unless at (Unplug child) s None h = each_keeps Settles 0 (moved_by at _) s.devices (λ m d p. settled_moved at m (is_on_wire d) (address_of _ m) d p) h
settled_unless at (Press device key press) s None h =
    changed_keeps Settles device (λ d. after_key 16 d key press at) s.devices (λ d p. key_stays 0 at Settles (queue_settles 0) key press d (key_fault d key) (omega arith) p) h
settled_unless at (Send device frame ticket) s None h = settled_handed at device (Some frame) ticket s h
settled_unless at (SendNamed device names frame ticket) s None h = settled_handed at device (named_frame s.devices names frame) ticket s h
settled_unless at (Outside device act) s None h = changed_keeps Settles device (λ d. after_act d act) s.devices (λ d p. acted d (act_fault d) act p) h
  where
    acted : (d : State) (fault : Option KeyError) (act : Act) → Settles d → Settles (acted_by d fault act)
    acted d (Some error) act p = p
    acted d None (Hold first second more) p = λ e. refl
    acted d None Empty p = p

settled_sent : (at : ℕ) (fate : Fate) (d : State) → Settles d → Settles (after_sending 16 d fate at)
settled_sent at fate d p = by (polled_at d.place) refl
  where
    failed : Settles (after_failure d)
    failed = two Settles (nat_lt d.attempts (most_again d.queue)) (record d { attempts = d.attempts + 1; class = Retry }) (after_front d) p p

    sent : (fate : Fate) → Settles (frame_sent d fate)
    sent Lost = two Settles (front_is_counted d.queue) (after_failure d) d failed p
    sent Delivered = p
    sent Unacked = two Settles (front_is_poll d.queue) (after_front d) (after_failure d) p failed
    sent Broken = two Settles (front_is_poll d.queue) (record d { class = Retry }) (after_failure d) p failed

    no : (o : Option ℕ) (a : ℕ) → o ≡ Some a → o ≡ None → ⊥
    no o a e f = cc

    by : (o : Option ℕ) → polled_at d.place ≡ o → Settles (sent_by 16 d fate at o)
    by None e = sent fate
    by (Some a) e =
        reports_stay 0 at Settles (queue_settles 0) (record d { place = place_after_fate d.kind d.place fate; poll_ready = at; class = class_of_poll fate }) (omega arith)
        (λ f. absurd (no (polled_at d.place) a e (p f)))

settled_after : (own any : Bool) (o : Outcome) (number : ℕ) (d : State) → Settles d → Settles (device_after own any o number d)
settled_after own any o number d p =
    two Settles (is_on_wire d) (after_fate own any (fate_in o number) (close_in o) (followed_in o number d)) d
    (fate own any (followed_in o number d) (follows (is_among o.survivors.items number) (frame_in o.reading))) p
  where
    follows : (sends : Bool) (frame : Option (List ℕ)) → Settles (followed_unless sends frame (close_in o) d)
    follows sends None = p
    follows true (Some frame) = p
    follows false (Some frame) = frame_stays 0 (close_in o) Settles (queue_settles 0) frame d (omega arith) p

    fate : (own any : Bool) (e : State) → Settles e → Settles (after_fate own any (fate_in o number) (close_in o) e)
    fate true any e q = settled_sent (close_in o) (fate_in o number) e q
    fate false true e q = q
    fate false false e q = q

pub settled_event : (at : ℕ) (event : Event) (s : NetState) → AreSettled s → AreSettled (net_after at event s)
settled_event at event s h = settled_unless at event s (event_fault s event) h

pub settled_round : (s : NetState) (begin : ℕ) (o : Outcome) → AreSettled s → AreSettled (after_round s begin o)
settled_round s begin o h =
    each_keeps Settles 0 (λ number d. device_after (contends s.rest begin d) (is_sent s.rest begin o s.devices) o number d) s.devices
    (λ number d p. settled_after (contends s.rest begin d) (is_sent s.rest begin o s.devices) o number d p) h

settled_loose : (tree : List Node) → All Settles (loose tree)
settled_loose [] = All-nil Settles
settled_loose (node ∷ tree) = All-cons Settles (fresh node.kind node.name node.ports) (loose tree) (λ e. refl) (settled_loose tree)

pub settled_started : (tree : List Node) (pulses : List Stretch) → AreSettled (first_net tree pulses)
settled_started tree pulses = each_keeps Settles 0 (moved_by 0 tree) (loose tree) (λ m d p. settled_moved 0 m (is_on_wire d) (address_of tree m) d p) (settled_loose tree)
