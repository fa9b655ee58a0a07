-- What a device keeps: its number, its kind, and no address before it has polled one.
use Rattle.message_table.specs.Words.{reason_byte}
use Rattle.message_table.specs.declared.words.Reason.TheVariants.{Unrecognized}
use Rattle.std.proofs.Common.{◌≡◌, ℕ, ◌==◌, ◌%◌, Bool, true, false, not, ◌&&◌, ◌||◌, nat_lt, if◌then◌else◌, List, [], ◌∷◌, ◌++◌, length, Option, Some, None, refl, ap, ◌∙◌, ◌+◌}
use Rattle.text_core.specs.declared.kind.Kind.{Kind}
use Rattle.text_core.specs.declared.phys.Phys.{Phys}
use Rattle.message_table.specs.declared.message.Decoded.{Decoded}
use Rattle.message_table.specs.declared.message.Decoded.TheVariants.{Poll, Known, Short, Unknown as NoName}
use Rattle.message_table.specs.Table.{decoded_of}
use Rattle.device_core.specs.declared.place.Place.{Place}
use Rattle.device_features.specs.declared.record.Heard.{Heard}
use Rattle.line_frames.specs.declared.Fate.{Fate}
use Rattle.line_frames.specs.declared.Fate.TheVariants.{Delivered, Unacked, Lost, Broken}
use Rattle.line_frames.specs.declared.free_time.FreeTime.TheVariants.{Retry}
use Rattle.device_features.specs.declared.keys.Key.{Key}
use Rattle.device_core.specs.declared.keys.KeyError.{KeyError}
use Rattle.device_core.specs.declared.device.SubmitError.{SubmitError}
use Rattle.device_core.specs.declared.device.Ticket.{Ticket}
use Rattle.device_core.specs.State.{State, addresses_held, holds, with_queued, source, speaks, frame_of, one_more}
use Rattle.device_features.specs.Kinds.{addresses, is_nowhere, is_outside, is_switch, second_addresses, type_of}
use Rattle.device_core.specs.Say.{say, say_all, after_effect}
use Rattle.device_features.specs.declared.say.Say.{Say}
use Rattle.device_features.specs.declared.say.Say.TheVariants.{Reply, Cast, Report, Refuse}
use Rattle.device_features.specs.Effect.{Effect}
use Rattle.device_core.specs.Effects.{by_decoded, after_frame, is_for}
use Rattle.device_features.specs.Effects.{effect_of, refuses, heard_of}
use Rattle.device_core.specs.Keys.{own_doing, keyed_by, key_fault}
use Rattle.device_features.specs.Keys.{pressing, releasing}
use Rattle.device_core.specs.Place.{tries, unregistered, start_place, fresh, with_reports, reported_by, reported_from, after_joining, place_after_fate, polled_at, class_of_poll, after_front, after_failure, front_is_counted, front_is_poll, most_again, frame_sent, sent_by, submitted_by, submit_fault, is_off}
use Rattle.device_core.specs.declared.outside.Act.{Act}
use Rattle.device_core.specs.declared.outside.Act.TheVariants.{Hold, Empty}
use Rattle.device_core.specs.declared.keys.KeyError.TheVariants.{NotForKind, OffWire}
use Rattle.device_core.specs.Outside.{after_act, acted_by}
use Rattle.device_core.specs.Clean.{HoldsNothingYet, KeepsKind, KeepsNumber}
use Rattle.device_core.proofs.OnceLemmas.{reported-place, fifteen, tries-holds}

-- ---- no address before a poll

none_found : (kind : Kind) (list : List ℕ) (a : ℕ) → holds (tries kind None list) a ≡ false
none_found kind list a = not_so (holds (tries kind None list) a) (λ h. let x = tries-holds kind None list a h in cc)
  where
    not_so : (b : Bool) → (b ≡ true → true ≡ false) → b ≡ false
    not_so true f = f refl
    not_so false f = refl

unplaced-none : (list : List ℕ) (a : ℕ) → holds (unregistered list) a ≡ false
unplaced-none [] a = rw (fifteen a) refl
unplaced-none (x ∷ xs) a = rw (fifteen a) refl

start-none : (b : Bool) (kind : Kind) (a : ℕ) → holds (if b then unregistered (second_addresses kind) else tries kind None (addresses kind)) a ≡ false
start-none true kind a = unplaced-none (second_addresses kind) a
start-none false kind a = none_found kind (addresses kind) a

joined-none : (limit number at a : ℕ) (phys : Phys) (d : State) → holds (after_joining limit d number phys at).place a ≡ false
joined-none limit number at a phys d =
    ap (λ (p : Place). holds p a) (reported-place limit at (record (fresh d.kind d.name d.ports) {
      number = number;
      phys = phys;
      place = start_place d.kind phys;
      poll_ready = at;
    })) ∙ start-none (is_nowhere phys) d.kind a

pub joining_holds_nothing : HoldsNothingYet
joining_holds_nothing = record { joining = joined-none; leaving = λ a d. refl }

-- ---- the number and the kind

-- a state of the same device
abbrev pub Same : State → State → Type 0
Same x d = (x.number ≡ d.number) × (x.kind ≡ d.kind)

after : (x y z : State) → Same x y → Same y z → Same x z
after x y z p q = (p.0 ∙ q.0, p.1 ∙ q.1)

three : (b c : Bool) (d x y : State) → Same x d → Same y d → Same (if b then d else (if c then x else y)) d
three true c d x y p q = (refl, refl)
three false true d x y p q = p
three false false d x y p q = q

two : (b : Bool) (d x y : State) → Same x d → Same y d → Same (if b then x else y) d
two true d x y p q = p
two false d x y p q = q

queued-same : (limit at from to : ℕ) (bytes : List ℕ) (d : State) → Same (with_queued limit at from to bytes d) d
queued-same limit at from to bytes d =
    three (not (speaks d) || holds d.place to) (nat_lt (length d.queue) limit) d
    (record d { queue = d.queue ++ record { frame = frame_of from to bytes; ready = at; ticket = None } ∷ [] }) (record d { dropped = one_more d.dropped }) (refl, refl) (refl, refl)

failed-same : (d : State) → Same (after_failure d) d
failed-same d = two (nat_lt d.attempts (most_again d.queue)) d (record d { attempts = d.attempts + 1; class = Retry }) (after_front d) (refl, refl) (refl, refl)

frame_sent-same : (d : State) (fate : Fate) → Same (frame_sent d fate) d
frame_sent-same d Lost = two (front_is_counted d.queue) d (after_failure d) d (failed-same d) (refl, refl)
frame_sent-same d Delivered = (refl, refl)
frame_sent-same d Unacked = two (front_is_poll d.queue) d (after_front d) (after_failure d) (refl, refl) (failed-same d)
frame_sent-same d Broken = two (front_is_poll d.queue) d (record d { class = Retry }) (after_failure d) (refl, refl) (failed-same d)

then-same : (b : Bool) (x d : State) → Same x d → Same (if b then x else d) d
then-same true x d h = h
then-same false x d h = (refl, refl)

reported_from-same : (limit at : ℕ) (unit : Option ℕ) (d : State) → Same (reported_from limit at unit d) d
reported_from-same limit at None d = (refl, refl)
reported_from-same limit at (Some from) d =
    then-same (nat_lt from 15 || is_switch d.kind) (with_queued limit at from 15 (0x84 ∷ d.phys.high ∷ d.phys.low ∷ type_of d.kind from ∷ []) d) d
    (queued-same limit at from 15 (0x84 ∷ d.phys.high ∷ d.phys.low ∷ type_of d.kind from ∷ []) d)

reported_by-same : (limit at : ℕ) (units : List (Option ℕ)) (d : State) → Same (reported_by limit at units d) d
reported_by-same limit at [] d = (refl, refl)
reported_by-same limit at (unit ∷ units) d =
    after (reported_by limit at units (reported_from limit at unit d)) (reported_from limit at unit d) d
    (reported_by-same limit at units (reported_from limit at unit d)) (reported_from-same limit at unit d)

reported-same : (limit at : ℕ) (d : State) → Same (with_reports limit at d) d
reported-same limit at d = reported_by-same limit at (addresses_held d.place) d

pub sent-same : (limit at : ℕ) (fate : Fate) (d : State) (p : Option ℕ) → Same (sent_by limit d fate at p) d
sent-same limit at fate d None = frame_sent-same d fate
sent-same limit at fate d (Some a) = reported-same limit at (record d { place = place_after_fate d.kind d.place fate; poll_ready = at; class = class_of_poll fate })

say-same : (limit : ℕ) (h : Heard) (s : Say) (d : State) → Same (say limit h s d) d
say-same limit h (Reply bytes) d = then-same (nat_lt h.from 15) (with_queued limit h.at (source d.place h.to) h.from bytes d) d (queued-same limit h.at (source d.place h.to) h.from bytes d)
say-same limit h (Cast bytes) d = queued-same limit h.at (source d.place h.to) 15 bytes d
say-same limit h (Report to bytes) d = then-same (nat_lt to 15) (with_queued limit h.at (source d.place h.to) to bytes d) d (queued-same limit h.at (source d.place h.to) to bytes d)
say-same limit h (Refuse reason) d =
    then-same (nat_lt h.to 15 && (nat_lt h.from 15 && not (h.opcode == 0))) (with_queued limit h.at (source d.place h.to) h.from (0x00 ∷ h.opcode ∷ reason_byte reason ∷ []) d) d
    (queued-same limit h.at (source d.place h.to) h.from (0x00 ∷ h.opcode ∷ reason_byte reason ∷ []) d)

say_all-same : (limit : ℕ) (h : Heard) (says : List Say) (d : State) → Same (say_all limit h says d) d
say_all-same limit h [] d = (refl, refl)
say_all-same limit h (s ∷ says) d = after (say_all limit h says (say limit h s d)) (say limit h s d) d (say_all-same limit h says (say limit h s d)) (say-same limit h s d)

effected-same : (limit : ℕ) (h : Heard) (e : Effect) (d : State) → Same (after_effect limit h e d) d
effected-same limit h e d = say_all-same limit h e.says (record d { record_of = e.after })

decoded-same : (limit : ℕ) (h : Heard) (d : State) (said : Decoded) → Same (by_decoded limit h d said) d
decoded-same limit h d (Known message) = effected-same limit h (effect_of d.kind d.phys d.name d.ports h d.record_of message) d
decoded-same limit h d (NoName opcode) = effected-same limit h (refuses d.record_of Unrecognized) d
decoded-same limit h d (Short opcode) = (refl, refl)
decoded-same limit h d Poll = (refl, refl)

pub followed-same : (limit at : ℕ) (frame : List ℕ) (d : State) → Same (after_frame limit d frame at) d
followed-same limit at [] d = (refl, refl)
followed-same limit at (header ∷ []) d = (refl, refl)
followed-same limit at (header ∷ opcode ∷ operands) d =
    then-same (is_for d (header % 16) opcode) (by_decoded limit (heard_of header opcode operands at) d (decoded_of (header ∷ opcode ∷ operands))) d
    (decoded-same limit (heard_of header opcode operands at) d (decoded_of (header ∷ opcode ∷ operands)))

pub keyed-same : (limit at : ℕ) (key : Key) (press : Bool) (d : State) (fault : Option KeyError) → Same (keyed_by limit d key press at fault) d
keyed-same limit at key press d None =
    effected-same limit (own_doing at) (if press then pressing d.kind d.phys d.record_of key else releasing d.kind d.record_of key) d
keyed-same limit at key press d (Some fault) = (refl, refl)

pub submitted-same : (d : State) (frame : List ℕ) (ticket : Ticket) (at : ℕ) (fault : Option SubmitError) → Same (submitted_by d frame ticket at fault) d
submitted-same d frame ticket at None = (refl, refl)
submitted-same d frame ticket at (Some fault) = (refl, refl)

-- a device that is put onto the wire
abbrev pub put_on : ℕ → ℕ → Phys → State → State
put_on number at phys d = record (fresh d.kind d.name d.ports) {
  number = number;
  phys = phys;
  place = start_place d.kind phys;
  poll_ready = at;
}

pub joined-same : (limit number at : ℕ) (phys : Phys) (d : State) → Same (after_joining limit d number phys at) (put_on number at phys d)
joined-same limit number at phys d = reported-same limit at (put_on number at phys d)

pub numbers_stay : KeepsNumber
numbers_stay = record {
  joining = λ limit number at phys d. (joined-same limit number at phys d).0;
  reporting = λ limit at fate d. (sent-same limit at fate d (polled_at d.place)).0;
  waiting = λ d. refl;
  submitting = λ limit at frame ticket d. (submitted-same d frame ticket at (submit_fault limit d frame)).0;
  following = λ limit at frame d. (followed-same limit at frame d).0;
  keying = λ limit at key press d. (keyed-same limit at key press d (key_fault d key)).0;
}

acted-kind : (d : State) (act : Act) → (after_act d act).kind ≡ d.kind
acted-kind d act = by (is_off d.place) (is_outside d.kind) act
  where
    by : (off outside : Bool) (act : Act) → (acted_by d (if off then Some OffWire else (if outside then None else Some NotForKind)) act).kind ≡ d.kind
    by true outside act = refl
    by false false act = refl
    by false true (Hold first second more) = refl
    by false true Empty = refl

pub kinds_stay : KeepsKind
kinds_stay = record {
  joining = λ limit number at phys d. (joined-same limit number at phys d).1;
  reporting = λ limit at fate d. (sent-same limit at fate d (polled_at d.place)).1;
  submitting = λ limit at frame ticket d. (submitted-same d frame ticket at (submit_fault limit d frame)).1;
  following = λ limit at frame d. (followed-same limit at frame d).1;
  keying = λ limit at key press d. (keyed-same limit at key press d (key_fault d key)).1;
  acting = acted-kind;
}
