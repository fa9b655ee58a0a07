-- What a device has to send stays a frame, whatever it meets.
use Rattle.message_table.specs.Words.{reason_byte}
use Rattle.message_table.specs.declared.words.Reason.TheVariants.{Unrecognized}
use Rattle.std.proofs.Common.{ℕ, zero, suc, ◌+◌, ◌/◌, ◌%◌, ◌<◌, ◌==◌, Bool, true, false, not, ◌&&◌, ◌||◌, nat_lt, if◌then◌else◌, map, List, [], ◌∷◌, ◌++◌, length, drop, slice_index, Option, Some, None, option_map, option_and_then, arith}
use Rattle.std.specs.List.{All, cons_option}
use Rattle.std.proofs.lemmas.List.Elements.{All-nil, All-cons, All-append}
use Rattle.message_table.specs.declared.message.Decoded.{Decoded}
use Rattle.message_table.specs.declared.message.Decoded.TheVariants.{Known, Poll, Short, Unknown as NoName}
use Rattle.message_table.specs.Table.{decoded_of}
use Rattle.text_core.specs.declared.phys.Phys.{Phys}
use Rattle.edid_tree.specs.Node.{Node}
use Rattle.edid_tree.specs.Path.{address_of}
use Rattle.line_rounds.specs.declared.Outcome.{Outcome}
use Rattle.line_rounds.specs.Round.{frames_of, fate_in, close_in}
use Rattle.line_rounds.specs.Contend.{AreFrames}
use Rattle.line_frames.specs.Blocks.{frame_in}
use Rattle.device_features.specs.declared.record.Heard.{Heard}
use Rattle.device_features.specs.declared.keys.Key.{Key}
use Rattle.device_core.specs.declared.device.Ticket.{Ticket}
use Rattle.device_core.specs.declared.keys.KeyError.{KeyError}
use Rattle.line_frames.specs.declared.Fate.{Fate}
use Rattle.line_frames.specs.declared.Fate.TheVariants.{Delivered, Unacked, Lost, Broken}
use Rattle.line_frames.specs.declared.free_time.FreeTime.TheVariants.{Retry}
use Rattle.device_core.specs.declared.device.Queued.{Queued}
use Rattle.device_core.specs.declared.device.SubmitError.{SubmitError}
use Rattle.device_core.specs.State.{State, addresses_held, with_queued, speaks, holds, frame_of, source, one_more}
use Rattle.device_features.specs.Kinds.{is_switch, type_of}
use Rattle.device_core.specs.Say.{say, say_all, after_effect}
use Rattle.device_features.specs.declared.say.Say.{Say}
use Rattle.device_features.specs.declared.say.Say.TheVariants.{Reply, Cast, Report, Refuse}
use Rattle.device_features.specs.Effect.{Effect}
use Rattle.device_core.specs.Effects.{by_decoded, after_frame, is_for}
use Rattle.device_features.specs.Effects.{effect_of, refuses, heard_of}
use Rattle.device_core.specs.Keys.{own_doing, key_fault, keyed_by, after_key}
use Rattle.device_core.specs.declared.outside.Act.{Act}
use Rattle.device_core.specs.declared.outside.Act.TheVariants.{Hold, Empty}
use Rattle.device_core.specs.Outside.{act_fault, after_act, acted_by}
use Rattle.device_features.specs.Keys.{pressing, releasing}
use Rattle.device_core.specs.Place.{is_on_wire, fresh, start_place, with_reports, reported_by, reported_from, after_joining, place_after_fate, polled_at, class_of_poll, after_front, after_failure, front_is_counted, front_is_poll, most_again, frame_sent, sent_by, submit_fault, submitted_by, after_submission, front_by, front_of}
use Rattle.room_event.specs.declared.event.Event.{Event}
use Rattle.room_event.specs.declared.event.Event.TheVariants.{Plug, Unplug, Key as KeyEvent, Send, SendNamed, Outside}
use Rattle.room_event.specs.declared.event.EventError.{EventError}
use Rattle.room_event.specs.declared.event.HeaderNames.{HeaderNames}
use Rattle.room_net.specs.Start.{contends}
use Rattle.room_net.specs.State.{NetState, each_from, after_move, moved_by, loose}
use Rattle.room_net.specs.Apply.{applied_unless, event_fault, changed_at, address_for, named_frame, after_sent}
use Rattle.room_net.specs.Step.{sent_in, seat_of, is_among, followed_unless, followed_in, after_fate, device_after, is_sent}
use Rattle.room_event.specs.Events.{IsFramedEvent}
use Rattle.room_net.specs.Framed.{HasBlock, IsFramed, AreFramed}
use Rattle.room_net.specs.Kept.{EventsKeepFramed, FramedSeatsFit, RoundsKeepFramed, StartsAreFramed}

-- ---- a device

two : (t : Bool) (x y : State) → IsFramed x → IsFramed y → IsFramed (if t then x else y)
two true x y h k = h
two false x y h k = k

framed-queued : (limit at from to : ℕ) (bytes : List ℕ) (d : State) → IsFramed d → IsFramed (with_queued limit at from to bytes d)
framed-queued limit at from to bytes d h =
    let q : Queued = record { frame = frame_of from to bytes; ready = at; ticket = None } in
    two (not (speaks d) || holds d.place to) d (if nat_lt (length d.queue) limit then record d { queue = d.queue ++ q ∷ [] } else record d { dropped = one_more d.dropped }) h
    (two (nat_lt (length d.queue) limit) (record d { queue = d.queue ++ q ∷ [] }) (record d { dropped = one_more d.dropped })
    (All-append HasBlock d.queue (q ∷ []) h (All-cons HasBlock q [] (omega arith) (All-nil HasBlock))) h)

framed-reported_from : (limit at : ℕ) (unit : Option ℕ) (d : State) → IsFramed d → IsFramed (reported_from limit at unit d)
framed-reported_from limit at None d f = f
framed-reported_from limit at (Some from) d f =
    two (nat_lt from 15 || is_switch d.kind) (with_queued limit at from 15 (0x84 ∷ d.phys.high ∷ d.phys.low ∷ type_of d.kind from ∷ []) d) d
    (framed-queued limit at from 15 (0x84 ∷ d.phys.high ∷ d.phys.low ∷ type_of d.kind from ∷ []) d f) f

framed-reported_by : (limit at : ℕ) (units : List (Option ℕ)) (d : State) → IsFramed d → IsFramed (reported_by limit at units d)
framed-reported_by limit at [] d f = f
framed-reported_by limit at (unit ∷ units) d f = framed-reported_by limit at units (reported_from limit at unit d) (framed-reported_from limit at unit d f)

framed-reported : (limit at : ℕ) (d : State) → IsFramed d → IsFramed (with_reports limit at d)
framed-reported limit at d f = framed-reported_by limit at (addresses_held d.place) d f

framed-say : (limit : ℕ) (h : Heard) (s : Say) (d : State) → IsFramed d → IsFramed (say limit h s d)
framed-say limit h (Reply bytes) d f = two (nat_lt h.from 15) (with_queued limit h.at (source d.place h.to) h.from bytes d) d (framed-queued limit h.at (source d.place h.to) h.from bytes d f) f
framed-say limit h (Cast bytes) d f = framed-queued limit h.at (source d.place h.to) 15 bytes d f
framed-say limit h (Report to bytes) d f = two (nat_lt to 15) (with_queued limit h.at (source d.place h.to) to bytes d) d (framed-queued limit h.at (source d.place h.to) to bytes d f) f
framed-say limit h (Refuse reason) d f =
    two (nat_lt h.to 15 && (nat_lt h.from 15 && not (h.opcode == 0))) (with_queued limit h.at (source d.place h.to) h.from (0x00 ∷ h.opcode ∷ reason_byte reason ∷ []) d) d
    (framed-queued limit h.at (source d.place h.to) h.from (0x00 ∷ h.opcode ∷ reason_byte reason ∷ []) d f) f

framed-say_all : (limit : ℕ) (h : Heard) (says : List Say) (d : State) → IsFramed d → IsFramed (say_all limit h says d)
framed-say_all limit h [] d f = f
framed-say_all limit h (s ∷ says) d f = framed-say_all limit h says (say limit h s d) (framed-say limit h s d f)

framed-effected : (limit : ℕ) (h : Heard) (e : Effect) (d : State) → IsFramed d → IsFramed (after_effect limit h e d)
framed-effected limit h e d f = framed-say_all limit h e.says (record d { record_of = e.after }) f

framed-decoded : (limit : ℕ) (h : Heard) (d : State) (said : Decoded) → IsFramed d → IsFramed (by_decoded limit h d said)
framed-decoded limit h d (Known message) f = framed-effected limit h (effect_of d.kind d.phys d.name d.ports h d.record_of message) d f
framed-decoded limit h d (NoName opcode) f = framed-effected limit h (refuses d.record_of Unrecognized) d f
framed-decoded limit h d (Short opcode) f = f
framed-decoded limit h d Poll f = f

framed-followed : (limit at : ℕ) (frame : List ℕ) (d : State) → IsFramed d → IsFramed (after_frame limit d frame at)
framed-followed limit at [] d f = f
framed-followed limit at (header ∷ []) d f = f
framed-followed limit at (header ∷ opcode ∷ operands) d f =
    two (is_for d (header % 16) opcode) (by_decoded limit (heard_of header opcode operands at) d (decoded_of (header ∷ opcode ∷ operands))) d
    (framed-decoded limit (heard_of header opcode operands at) d (decoded_of (header ∷ opcode ∷ operands)) f) f

framed-keyed_by : (limit at : ℕ) (key : Key) (press : Bool) (d : State) (fault : Option KeyError) → IsFramed d → IsFramed (keyed_by limit d key press at fault)
framed-keyed_by limit at key press d None f =
    framed-effected limit (own_doing at) (if press then pressing d.kind d.phys d.record_of key else releasing d.kind d.record_of key) d f
framed-keyed_by limit at key press d (Some fault) f = f

framed-submitted_by : (at : ℕ) (frame : List ℕ) (ticket : Ticket) (d : State) (fault : Option SubmitError) → 0 < length frame → IsFramed d → IsFramed (submitted_by d frame ticket at fault)
framed-submitted_by at frame ticket d None l f =
    let q : Queued = record { frame = frame; ready = at; ticket = Some ticket } in
    All-append HasBlock d.queue (q ∷ []) f (All-cons HasBlock q [] l (All-nil HasBlock))
framed-submitted_by at frame ticket d (Some fault) l f = f

framed-acted_by : (d : State) (fault : Option KeyError) (act : Act) → IsFramed d → IsFramed (acted_by d fault act)
framed-acted_by d (Some fault) act f = f
framed-acted_by d None (Hold first second more) f = f
framed-acted_by d None Empty f = All-nil HasBlock

framed-joined : (limit number at : ℕ) (phys : Phys) (d : State) → IsFramed (after_joining limit d number phys at)
framed-joined limit number at phys d =
    framed-reported limit at (record (fresh d.kind d.name d.ports) {
      number = number;
      phys = phys;
      place = start_place d.kind phys;
      poll_ready = at;
    }) (All-nil HasBlock)

framed-moved : (at number : ℕ) (plugged : Bool) (address : Option Phys) (d : State) → IsFramed d → IsFramed (after_move at number plugged address d)
framed-moved at number false (Some address) d f = framed-joined 16 number at address d
framed-moved at number false None d f = f
framed-moved at number true (Some address) d f = f
framed-moved at number true None d f = All-nil HasBlock

-- ---- fates

framed-ended : (d : State) (queue : List Queued) → All HasBlock queue → IsFramed (after_front (record d { queue = queue }))
framed-ended d [] f = All-nil HasBlock
framed-ended d (q ∷ queue) f = λ k y l. f (suc k) y (omega arith)

framed-failed : (d : State) → IsFramed d → IsFramed (after_failure d)
framed-failed d f = two (nat_lt d.attempts (most_again d.queue)) (record d { attempts = d.attempts + 1; class = Retry }) (after_front d) f (framed-ended d d.queue f)

framed-frame_sent : (fate : Fate) (d : State) → IsFramed d → IsFramed (frame_sent d fate)
framed-frame_sent Lost d f = two (front_is_counted d.queue) (after_failure d) d (framed-failed d f) f
framed-frame_sent Delivered d f = framed-ended d d.queue f
framed-frame_sent Unacked d f = two (front_is_poll d.queue) (after_front d) (after_failure d) (framed-ended d d.queue f) (framed-failed d f)
framed-frame_sent Broken d f = two (front_is_poll d.queue) (record d { class = Retry }) (after_failure d) f (framed-failed d f)

framed-sent_by : (limit at : ℕ) (fate : Fate) (d : State) (p : Option ℕ) → IsFramed d → IsFramed (sent_by limit d fate at p)
framed-sent_by limit at fate d None f = framed-frame_sent fate d f
framed-sent_by limit at fate d (Some a) f =
    framed-reported limit at (record d { place = place_after_fate d.kind d.place fate; poll_ready = at; class = class_of_poll fate }) f

framed-informed : (own others : Bool) (fate : Fate) (at : ℕ) (d : State) → IsFramed d → IsFramed (after_fate own others fate at d)
framed-informed true others fate at d f = framed-sent_by 16 at fate d (polled_at d.place) f
framed-informed false true fate at d f = f
framed-informed false false fate at d f = f

framed-unless : (sends : Bool) (frame : Option (List ℕ)) (at : ℕ) (d : State) → IsFramed d → IsFramed (followed_unless sends frame at d)
framed-unless sends None at d f = f
framed-unless true (Some frame) at d f = f
framed-unless false (Some frame) at d f = framed-followed 16 at frame d f

framed-after : (own others : Bool) (o : Outcome) (number : ℕ) (d : State) → IsFramed d → IsFramed (device_after own others o number d)
framed-after own others o number d f =
    two (is_on_wire d) (after_fate own others (fate_in o number) (close_in o) (followed_in o number d)) d
    (framed-informed own others (fate_in o number) (close_in o) (followed_in o number d) (framed-unless (is_among o.survivors.items number) (frame_in o.reading) (close_in o) d f)) f

-- ---- all devices

framed-each : (n : ℕ) (f : ℕ → State → State) (xs : List State) → ((m : ℕ) (d : State) → IsFramed d → IsFramed (f m d)) → All IsFramed xs → All IsFramed (each_from n f xs)
framed-each n f [] step h = All-nil IsFramed
framed-each n f (x ∷ xs) step h =
    All-cons IsFramed (f n x) (each_from (n + 1) f xs) (step n x (h 0 x (omega arith))) (framed-each (n + 1) f xs step (λ k d l. h (suc k) d (omega arith)))

framed-changed : (number : ℕ) (f : State → State) (xs : List State) → ((d : State) → IsFramed d → IsFramed (f d)) → All IsFramed xs → All IsFramed (changed_at number f xs)
framed-changed number f [] step h = h
framed-changed zero f (x ∷ xs) step h = All-cons IsFramed (f x) xs (step x (h 0 x (omega arith))) (λ k d l. h (suc k) d (omega arith))
framed-changed (suc number) f (x ∷ xs) step h =
    All-cons IsFramed x (changed_at number f xs) (h 0 x (omega arith)) (framed-changed number f xs step (λ k d l. h (suc k) d (omega arith)))

framed-rewired : (at : ℕ) (tree : List Node) (xs : List State) → All IsFramed xs → All IsFramed (each_from 0 (moved_by at tree) xs)
framed-rewired at tree xs h = framed-each 0 (moved_by at tree) xs (λ m d f. framed-moved at m (is_on_wire d) (address_of tree m) d f) h

framed-loose : (tree : List Node) → All IsFramed (loose tree)
framed-loose [] = All-nil IsFramed
framed-loose (node ∷ tree) = All-cons IsFramed (fresh node.kind node.name node.ports) (loose tree) (All-nil HasBlock) (framed-loose tree)

pub framed-started : StartsAreFramed
framed-started tree pulses = framed-rewired 0 tree (loose tree) (framed-loose tree)

HasBlockIfSome : Option (List ℕ) → Type 0
HasBlockIfSome None = Unit {0}
HasBlockIfSome (Some frame) = 0 < length frame

named_frame_has_block : (devices : List State) (names : HeaderNames) (frame : List ℕ) → HasBlockIfSome (named_frame devices names frame)
unfolding HasBlockIfSome
named_frame_has_block devices names frame = by (address_for devices names.initiator (slice_index frame 0 / 16)) (address_for devices names.destination (slice_index frame 0 % 16))
  where
    by : (from to : Option ℕ) → HasBlockIfSome (option_and_then (λ i. option_map (λ d. frame_of i d (drop 1 frame)) to) from)
    by None to = tt
    by (Some i) None = tt
    by (Some i) (Some d) = omega arith

framed-sent : (at device : ℕ) (frame : Option (List ℕ)) (ticket : Ticket) (s : NetState) → HasBlockIfSome frame → AreFramed s → AreFramed (after_sent at device frame ticket s)
unfolding HasBlockIfSome
framed-sent at device None ticket s e h = h
framed-sent at device (Some frame) ticket s e h =
    framed-changed device (λ d. after_submission 16 d frame ticket at) s.devices (λ d f. framed-submitted_by at frame ticket d (submit_fault 16 d frame) e f) h

framed-applied_unless : (fault : Option EventError) (at : ℕ) (event : Event) (s : NetState) → IsFramedEvent event → AreFramed s → AreFramed (applied_unless fault at event s)
framed-applied_unless (Some error) at event s e h = h
framed-applied_unless None at (Plug child parent port) s e h = framed-rewired at _ s.devices h
framed-applied_unless None at (Unplug child) s e h = framed-rewired at _ s.devices h
framed-applied_unless None at (KeyEvent device key press) s e h =
    framed-changed device (λ d. after_key 16 d key press at) s.devices (λ d f. framed-keyed_by 16 at key press d (key_fault d key) f) h
framed-applied_unless None at (Send device frame ticket) s e h =
    framed-changed device (λ d. after_submission 16 d frame ticket at) s.devices (λ d f. framed-submitted_by at frame ticket d (submit_fault 16 d frame) e f) h
framed-applied_unless None at (SendNamed device names frame ticket) s e h = framed-sent at device (named_frame s.devices names frame) ticket s (named_frame_has_block s.devices names frame) h
framed-applied_unless None at (Outside device act) s e h =
    framed-changed device (λ d. after_act d act) s.devices (λ d f. framed-acted_by d (act_fault d) act f) h

pub framed-applied : EventsKeepFramed
framed-applied at event s e h = framed-applied_unless (event_fault s event) at event s e h

pub framed-round : RoundsKeepFramed
framed-round s begin o h =
    framed-each 0 (λ number d. device_after (contends s.rest begin d) (is_sent s.rest begin o s.devices) o number d) s.devices
    (λ number d f. framed-after (contends s.rest begin d) (is_sent s.rest begin o s.devices) o number d f) h

-- ---- so who sends, sends a frame

Fits : Option (List ℕ) → Type 0
Fits None = Unit {0}
Fits (Some f) = 0 < length f

front : (p : Option ℕ) (queue : List Queued) → All HasBlock queue → Fits (front_by p queue)
unfolding Fits
front (Some a) queue h = omega arith
front None [] h = tt
front None (q ∷ queue) h = h 0 q (omega arith)

sent_fits : (rest begin : ℕ) (d : State) → IsFramed d → Fits (sent_in rest begin d)
unfolding Fits
sent_fits rest begin d h = by_test (contends rest begin d) (front (polled_at d.place) d.queue h)
  where
    by_test : (b : Bool) → Fits (front_of d) → Fits (if b then front_of d else None)
    by_test true k = k
    by_test false k = tt

frames_fit : (rest begin : ℕ) (xs : List State) → All IsFramed xs → AreFrames (map (seat_of rest begin) xs)
unfolding Fits
frames_fit rest begin [] h = All-nil (λ (f : List ℕ). 0 < length f)
frames_fit rest begin (x ∷ xs) h = by_frame (sent_in rest begin x) (sent_fits rest begin x (h 0 x (omega arith))) (frames_fit rest begin xs (λ k d l. h (suc k) d (omega arith)))
  where
    by_frame : (o : Option (List ℕ)) → Fits o → AreFrames (map (seat_of rest begin) xs) → All (λ (f : List ℕ). 0 < length f) (cons_option o (frames_of (map (seat_of rest begin) xs)))
    by_frame None k r = r
    by_frame (Some f) k r = All-cons (λ (g : List ℕ). 0 < length g) f (frames_of (map (seat_of rest begin) xs)) k r

pub seats_fit : FramedSeatsFit
seats_fit s begin h = frames_fit s.rest begin s.devices h
