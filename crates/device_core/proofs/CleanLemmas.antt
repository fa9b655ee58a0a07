-- Why no queued frame goes to the device's own address.
use Rattle.message_table.specs.Words.{reason_byte}
use Rattle.message_table.specs.declared.words.Reason.TheVariants.{Unrecognized}
use Rattle.std.proofs.Common.{◌≡◌, ℕ, ◌==◌, ◌<◌, ◌+◌, ◌*◌, ◌%◌, ◌/◌, Bool, true, false, not, ◌&&◌, ◌||◌, nat_lt, if◌then◌else◌, List, [], ◌∷◌, ◌++◌, length, slice_index, Option, Some, None, refl, ap, subst, ◌∙◌, arith, lit<}
use Rattle.std.proofs.lemmas.List.Folds.{list_all-append}
use Rattle.text_core.specs.declared.kind.Kind.{Kind}
use Rattle.text_core.specs.declared.phys.Phys.{Phys}
use Rattle.device_core.specs.declared.place.Place.{Place}
use Rattle.device_core.specs.declared.place.Place.TheVariants.{Off, Polls, Settled}
use Rattle.line_frames.specs.declared.Fate.{Fate}
use Rattle.line_frames.specs.declared.Fate.TheVariants.{Delivered, Unacked, Lost, Broken}
use Rattle.line_frames.specs.declared.free_time.FreeTime.TheVariants.{Retry}
use Rattle.device_core.specs.declared.device.Queued.{Queued}
use Rattle.device_core.specs.declared.device.Ticket.{Ticket}
use Rattle.device_core.specs.State.{State, addresses_held, holds, with_queued, speaks, may_speak, source, frame_of, one_more}
use Rattle.device_features.specs.Kinds.{is_switch, type_of}
use Rattle.device_core.specs.Place.{sent_by, polled_at, frame_sent, after_front, after_failure, with_reports, reported_by, reported_from, place_after_fate, front_is_counted, front_is_poll, most_again, class_of_poll}
use Rattle.device_core.specs.Once.{goes_elsewhere}
use Rattle.std.proofs.lemmas.Bool.Decides.{nat_tests}
use Rattle.device_core.specs.declared.device.SubmitError.TheVariants.{QueueFull, OwnAddress, NoAddress, OffWire}
use Rattle.device_features.specs.declared.record.Heard.{Heard}
use Rattle.message_table.specs.declared.message.Decoded.{Decoded}
use Rattle.message_table.specs.declared.message.Decoded.TheVariants.{Poll, Known, Short, Unknown as NoName}
use Rattle.message_table.specs.Table.{decoded_of}
use Rattle.device_features.specs.declared.keys.Key.{Key}
use Rattle.device_core.specs.declared.keys.KeyError.{KeyError}
use Rattle.device_core.specs.declared.device.SubmitError.{SubmitError}
use Rattle.device_core.specs.Say.{say, say_all, after_effect}
use Rattle.device_features.specs.declared.say.Say.{Say}
use Rattle.device_features.specs.declared.say.Say.TheVariants.{Reply, Cast, Report, Refuse}
use Rattle.device_features.specs.Effect.{Effect}
use Rattle.device_core.specs.Effects.{by_decoded, after_frame, is_for}
use Rattle.device_features.specs.Effects.{effect_of, refuses, heard_of}
use Rattle.device_core.specs.Keys.{own_doing, keyed_by, key_fault}
use Rattle.device_features.specs.Keys.{pressing, releasing}
use Rattle.device_core.specs.Place.{submitted_by, submit_fault, settled_at, front_by}
use Rattle.device_core.proofs.OnceLemmas.{frame_sent-place, queued-place}
use Rattle.device_core.specs.Clean.{is_none_queued, clean_at, KeepsPlace}

-- what is queued goes to others
abbrev pub is_clear : State → Bool
is_clear d = clean_at d.place d.queue

pub clean-empty : (p : Place) → clean_at p [] ≡ true
clean-empty Off = refl
clean-empty (Polls found a) = refl
clean-empty (Settled first second) = refl

none-clean : (p : Place) (queue : List Queued) → is_none_queued queue ≡ true → clean_at p queue ≡ true
none-clean p [] h = clean-empty p
none-clean p (q ∷ queue) h = cc

and_right : (a b : Bool) → (a && b) ≡ true → b ≡ true
and_right true b h = h
and_right false b h = cc

both : (a b : Bool) → a ≡ true → b ≡ true → (a && b) ≡ true
both true true h k = refl
both true false h k = k
both false b h k = h

or_right : (a b : Bool) → (a || b) ≡ false → b ≡ false
or_right true b h = cc
or_right false b h = h

clean-tail : (p : Place) (q : Queued) (queue : List Queued) → clean_at p (q ∷ queue) ≡ true → clean_at p queue ≡ true
clean-tail Off q queue h = cc
clean-tail (Polls found a) q queue h = cc
clean-tail (Settled first second) q queue h = and_right _ _ h

header : (a to : ℕ) → to < 16 → (a * 16 + to) % 16 ≡ to
header a to h = omega arith

elsewhere : (p : Place) (from to : ℕ) → to < 16 → holds p to ≡ false → not (holds p ((from * 16 + to) % 16)) ≡ true
elsewhere p from to h k = rw (header from to h) (ap not k)

clean-one_more : (p : Place) (kind : Kind) (phys : Phys) (from to at : ℕ) (bytes : List ℕ) (queue : List Queued) → to < 16
    → (not (may_speak kind phys p) || holds p to) ≡ false → clean_at p queue ≡ true
    → clean_at p (queue ++ record { frame = frame_of from to bytes; ready = at; ticket = None } ∷ []) ≡ true
clean-one_more Off kind phys from to at bytes queue s h k = cc
clean-one_more (Polls found a) kind phys from to at bytes queue s h k = cc
clean-one_more (Settled first second) kind phys from to at bytes queue s h k =
    let mine : List Queued = record { frame = frame_of from to bytes; ready = at; ticket = None } ∷ [] in
    list_all-append (λ (q : Queued). goes_elsewhere (Settled first second) q.frame) queue mine
    ∙ both _ _ k (both _ true (elsewhere (Settled first second) from to s (or_right _ _ h)) refl)

three : (b c : Bool) (d x y : State) → is_clear d ≡ true → (b ≡ false → is_clear x ≡ true) → is_clear y ≡ true
    → is_clear (if b then d else (if c then x else y)) ≡ true
three true c d x y k f h = k
three false true d x y k f h = f refl
three false false d x y k f h = h

two : (b : Bool) (x y : State) → is_clear x ≡ true → is_clear y ≡ true → is_clear (if b then x else y) ≡ true
two true x y h k = h
two false x y h k = k

clean-queued : (limit at from to : ℕ) (bytes : List ℕ) (d : State) → to < 16 → is_clear d ≡ true → is_clear (with_queued limit at from to bytes d) ≡ true
clean-queued limit at from to bytes d s k =
    three (not (speaks d) || holds d.place to) (nat_lt (length d.queue) limit) d
    (record d { queue = d.queue ++ record { frame = frame_of from to bytes; ready = at; ticket = None } ∷ [] }) (record d { dropped = one_more d.dropped })
    k (λ h. clean-one_more d.place d.kind d.phys from to at bytes d.queue s h k) k

clean-reported_from : (limit at : ℕ) (unit : Option ℕ) (d : State) → is_clear d ≡ true → is_clear (reported_from limit at unit d) ≡ true
clean-reported_from limit at None d k = k
clean-reported_from limit at (Some from) d k =
    two (nat_lt from 15 || is_switch d.kind) (with_queued limit at from 15 (0x84 ∷ d.phys.high ∷ d.phys.low ∷ type_of d.kind from ∷ []) d) d
    (clean-queued limit at from 15 (0x84 ∷ d.phys.high ∷ d.phys.low ∷ type_of d.kind from ∷ []) d (lit< tt) k) k

clean-reported_by : (limit at : ℕ) (units : List (Option ℕ)) (d : State) → is_clear d ≡ true → is_clear (reported_by limit at units d) ≡ true
clean-reported_by limit at [] d k = k
clean-reported_by limit at (unit ∷ units) d k = clean-reported_by limit at units (reported_from limit at unit d) (clean-reported_from limit at unit d k)

pub clean-reported : (limit at : ℕ) (d : State) → is_clear d ≡ true → is_clear (with_reports limit at d) ≡ true
clean-reported limit at d k = clean-reported_by limit at (addresses_held d.place) d k

clean-ended : (d : State) (queue : List Queued) → clean_at d.place queue ≡ true → is_clear (after_front (record d { queue = queue })) ≡ true
clean-ended d [] k = k
clean-ended d (q ∷ queue) k = clean-tail d.place q queue k

clean-failed : (d : State) → is_clear d ≡ true → is_clear (after_failure d) ≡ true
clean-failed d k = two (nat_lt d.attempts (most_again d.queue)) (record d { attempts = d.attempts + 1; class = Retry }) (after_front d) k (clean-ended d d.queue k)

clean-frame_sent : (fate : Fate) (d : State) → is_clear d ≡ true → is_clear (frame_sent d fate) ≡ true
clean-frame_sent Lost d k = two (front_is_counted d.queue) (after_failure d) d (clean-failed d k) k
clean-frame_sent Delivered d k = clean-ended d d.queue k
clean-frame_sent Unacked d k = two (front_is_poll d.queue) (after_front d) (after_failure d) (clean-ended d d.queue k) (clean-failed d k)
clean-frame_sent Broken d k = two (front_is_poll d.queue) (record d { class = Retry }) (after_failure d) k (clean-failed d k)

pub clean-sent : (limit at : ℕ) (fate : Fate) (d : State) (place : Place) → d.place ≡ place → clean_at place d.queue ≡ true
    → is_clear (sent_by limit d fate at (polled_at place)) ≡ true
clean-sent limit at fate d Off e k = clean-frame_sent fate d (rw e k)
clean-sent limit at fate d (Settled first second) e k = clean-frame_sent fate d (rw e k)
clean-sent limit at fate d (Polls found a) e k =
    clean-reported limit at (record d { place = place_after_fate d.kind d.place fate; poll_ready = at; class = class_of_poll fate })
    (none-clean (place_after_fate d.kind d.place fate) d.queue k)

-- a test before something is queued
kept_then : (b : Bool) (x d : State) → is_clear d ≡ true → (b ≡ true → is_clear x ≡ true) → is_clear (if b then x else d) ≡ true
kept_then true x d k f = f refl
kept_then false x d k f = k

and_left : (a b : Bool) → (a && b) ≡ true → a ≡ true
and_left true b h = refl
and_left false b h = cc

below_15 : (n : ℕ) → nat_lt n 15 ≡ true → n < 16
below_15 n h = grind (arith, nat_tests)

clean-say : (limit : ℕ) (h : Heard) (s : Say) (d : State) → is_clear d ≡ true → is_clear (say limit h s d) ≡ true
clean-say limit h (Reply bytes) d k =
    kept_then (nat_lt h.from 15) (with_queued limit h.at (source d.place h.to) h.from bytes d) d k
    (λ e. clean-queued limit h.at (source d.place h.to) h.from bytes d (below_15 h.from e) k)
clean-say limit h (Cast bytes) d k = clean-queued limit h.at (source d.place h.to) 15 bytes d (lit< tt) k
clean-say limit h (Report to bytes) d k =
    kept_then (nat_lt to 15) (with_queued limit h.at (source d.place h.to) to bytes d) d k
    (λ e. clean-queued limit h.at (source d.place h.to) to bytes d (below_15 to e) k)
clean-say limit h (Refuse reason) d k =
    kept_then (nat_lt h.to 15 && (nat_lt h.from 15 && not (h.opcode == 0))) (with_queued limit h.at (source d.place h.to) h.from (0x00 ∷ h.opcode ∷ reason_byte reason ∷ []) d) d k
    (λ e. clean-queued limit h.at (source d.place h.to) h.from (0x00 ∷ h.opcode ∷ reason_byte reason ∷ []) d
    (below_15 h.from (and_left (nat_lt h.from 15) (not (h.opcode == 0)) (and_right (nat_lt h.to 15) (nat_lt h.from 15 && not (h.opcode == 0)) e))) k)

clean-say_all : (limit : ℕ) (h : Heard) (says : List Say) (d : State) → is_clear d ≡ true → is_clear (say_all limit h says d) ≡ true
clean-say_all limit h [] d k = k
clean-say_all limit h (s ∷ says) d k = clean-say_all limit h says (say limit h s d) (clean-say limit h s d k)

clean-effected : (limit : ℕ) (h : Heard) (e : Effect) (d : State) → is_clear d ≡ true → is_clear (after_effect limit h e d) ≡ true
clean-effected limit h e d k = clean-say_all limit h e.says (record d { record_of = e.after }) k

clean-decoded : (limit : ℕ) (h : Heard) (d : State) (said : Decoded) → is_clear d ≡ true → is_clear (by_decoded limit h d said) ≡ true
clean-decoded limit h d (Known message) k = clean-effected limit h (effect_of d.kind d.phys d.name d.ports h d.record_of message) d k
clean-decoded limit h d (NoName opcode) k = clean-effected limit h (refuses d.record_of Unrecognized) d k
clean-decoded limit h d (Short opcode) k = k
clean-decoded limit h d Poll k = k

pub clean-followed : (limit at : ℕ) (frame : List ℕ) (d : State) → is_clear d ≡ true → is_clear (after_frame limit d frame at) ≡ true
clean-followed limit at [] d k = k
clean-followed limit at (header ∷ []) d k = k
clean-followed limit at (header ∷ opcode ∷ operands) d k =
    kept_then (is_for d (header % 16) opcode) (by_decoded limit (heard_of header opcode operands at) d (decoded_of (header ∷ opcode ∷ operands))) d k
    (λ _. clean-decoded limit (heard_of header opcode operands at) d (decoded_of (header ∷ opcode ∷ operands)) k)

pub clean-keyed : (limit at : ℕ) (key : Key) (press : Bool) (d : State) (fault : Option KeyError) → is_clear d ≡ true
    → is_clear (keyed_by limit d key press at fault) ≡ true
clean-keyed limit at key press d None k =
    clean-effected limit (own_doing at) (if press then pressing d.kind d.phys d.record_of key else releasing d.kind d.record_of key) d k
clean-keyed limit at key press d (Some fault) k = k

-- what the line is given is the front of the queue, or a poll, which goes to no unit of its own
pub clean-front : (p : Place) (queue : List Queued) (frame : List ℕ) → clean_at p queue ≡ true
    → ((found : Option ℕ) (a : ℕ) → p ≡ Polls found a → goes_elsewhere p ((a * 16 + a) ∷ []) ≡ true)
    → front_by (polled_at p) queue ≡ Some frame → goes_elsewhere p frame ≡ true
clean-front Off queue frame k f e = refl
clean-front (Polls found a) queue frame k f e =
    let same : (a * 16 + a) ∷ [] ≡ frame = cc in
    subst (λ (x : List ℕ). goes_elsewhere (Polls found a) x ≡ true) same (f found a refl)
clean-front (Settled first second) [] frame k f e = cc
clean-front (Settled first second) (q ∷ queue) frame k f e =
    let same : q.frame ≡ frame = cc in
    subst (λ (x : List ℕ). goes_elsewhere (Settled first second) x ≡ true) same (and_left _ _ k)

-- what a submitted frame passed
clean-appended : (p : Place) (frame : List ℕ) (ticket : Ticket) (at : ℕ) (queue : List Queued) → settled_at p (slice_index frame 0 / 16) ≡ true
    → holds p (slice_index frame 0 % 16) ≡ false → clean_at p queue ≡ true → clean_at p (queue ++ record { frame = frame; ready = at; ticket = Some ticket } ∷ []) ≡ true
clean-appended Off frame ticket at queue s h k = cc
clean-appended (Polls found a) frame ticket at queue s h k = cc
clean-appended (Settled first second) frame ticket at queue s h k =
    let mine : List Queued = record { frame = frame; ready = at; ticket = Some ticket } ∷ [] in
    list_all-append (λ (q : Queued). goes_elsewhere (Settled first second) q.frame) queue mine ∙ both _ _ k (both _ true (ap not h) refl)

pub clean-by_tests : (off at_address own room : Bool) (d : State) (frame : List ℕ) (ticket : Ticket) (at : ℕ)
    → settled_at d.place (slice_index frame 0 / 16) ≡ at_address → holds d.place (slice_index frame 0 % 16) ≡ own → is_clear d ≡ true
    → is_clear (submitted_by d frame ticket at (if off then Some OffWire else (if not at_address then Some NoAddress else (
    if own then Some OwnAddress else (if room then None else Some QueueFull))))) ≡ true
clean-by_tests true n o r d frame ticket at s h k = k
clean-by_tests false false o r d frame ticket at s h k = k
clean-by_tests false true true r d frame ticket at s h k = k
clean-by_tests false true false false d frame ticket at s h k = k
clean-by_tests false true false true d frame ticket at s h k = clean-appended d.place frame ticket at d.queue s h k

-- ---- who moves

place_then : (b : Bool) (x d : State) → x.place ≡ d.place → (if b then x else d).place ≡ d.place
place_then true x d h = h
place_then false x d h = refl

say-place : (limit : ℕ) (h : Heard) (s : Say) (d : State) → (say limit h s d).place ≡ d.place
say-place limit h (Reply bytes) d = place_then (nat_lt h.from 15) (with_queued limit h.at (source d.place h.to) h.from bytes d) d (queued-place limit h.at (source d.place h.to) h.from bytes d)
say-place limit h (Cast bytes) d = queued-place limit h.at (source d.place h.to) 15 bytes d
say-place limit h (Report to bytes) d = place_then (nat_lt to 15) (with_queued limit h.at (source d.place h.to) to bytes d) d (queued-place limit h.at (source d.place h.to) to bytes d)
say-place limit h (Refuse reason) d =
    place_then (nat_lt h.to 15 && (nat_lt h.from 15 && not (h.opcode == 0))) (with_queued limit h.at (source d.place h.to) h.from (0x00 ∷ h.opcode ∷ reason_byte reason ∷ []) d) d
    (queued-place limit h.at (source d.place h.to) h.from (0x00 ∷ h.opcode ∷ reason_byte reason ∷ []) d)

say_all-place : (limit : ℕ) (h : Heard) (says : List Say) (d : State) → (say_all limit h says d).place ≡ d.place
say_all-place limit h [] d = refl
say_all-place limit h (s ∷ says) d = say_all-place limit h says (say limit h s d) ∙ say-place limit h s d

effected-place : (limit : ℕ) (h : Heard) (e : Effect) (d : State) → (after_effect limit h e d).place ≡ d.place
effected-place limit h e d = say_all-place limit h e.says (record d { record_of = e.after })

decoded-place : (limit : ℕ) (h : Heard) (d : State) (said : Decoded) → (by_decoded limit h d said).place ≡ d.place
decoded-place limit h d (Known message) = effected-place limit h (effect_of d.kind d.phys d.name d.ports h d.record_of message) d
decoded-place limit h d (NoName opcode) = effected-place limit h (refuses d.record_of Unrecognized) d
decoded-place limit h d (Short opcode) = refl
decoded-place limit h d Poll = refl

followed-place : (limit at : ℕ) (frame : List ℕ) (d : State) → (after_frame limit d frame at).place ≡ d.place
followed-place limit at [] d = refl
followed-place limit at (header ∷ []) d = refl
followed-place limit at (header ∷ opcode ∷ operands) d =
    place_then (is_for d (header % 16) opcode) (by_decoded limit (heard_of header opcode operands at) d (decoded_of (header ∷ opcode ∷ operands))) d
    (decoded-place limit (heard_of header opcode operands at) d (decoded_of (header ∷ opcode ∷ operands)))

keyed-place : (limit at : ℕ) (key : Key) (press : Bool) (d : State) (fault : Option KeyError) → (keyed_by limit d key press at fault).place ≡ d.place
keyed-place limit at key press d None =
    effected-place limit (own_doing at) (if press then pressing d.kind d.phys d.record_of key else releasing d.kind d.record_of key) d
keyed-place limit at key press d (Some fault) = refl

submitted-place : (d : State) (frame : List ℕ) (ticket : Ticket) (at : ℕ) (fault : Option SubmitError) → (submitted_by d frame ticket at fault).place ≡ d.place
submitted-place d frame ticket at None = refl
submitted-place d frame ticket at (Some fault) = refl

pub keeps_place : KeepsPlace
keeps_place = record {
  following = followed-place;
  keying = λ limit at key press d. keyed-place limit at key press d (key_fault d key);
  submitting = λ limit at frame ticket d. submitted-place d frame ticket at (submit_fault limit d frame);
  waiting = λ d. refl;
  reporting = λ limit at fate d h. rw h (frame_sent-place d fate);
}
