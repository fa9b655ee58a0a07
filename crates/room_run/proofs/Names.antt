-- The names of devices stay through a round, so that a round's line is the same by the devices before it and after it.
use Rattle.std.specs.Prelude.{codes}
use Rattle.std.specs.Fmt.{decimal}
use Rattle.std.specs.List.{concat}
use Rattle.line_rounds.specs.declared.Loser.{Loser}
use Rattle.message_text.specs.ReadingText.{reported_text, verdict_text, reading_text_of}
use Rattle.record_core.specs.Cells.{both}
use Rattle.record_core.specs.Records.{object_of}
use Rattle.record_core.specs.Values.{out, string, words}
use Rattle.record_core.specs.declared.cell.Form.TheVariants.{Json}
use Rattle.reading_record.specs.Reading.{reading_cells}
use Rattle.room_trace.specs.Records.{round_text}
use Rattle.room_trace.specs.TraceText.{comma_list, name_at, round_line}
use Rattle.std.proofs.Common.{map, zero, suc, ap, sym, ◌≡◌, ℕ, ◌+◌, ◌==◌, ◌&&◌, ◌||◌, Bool, true, false, not, nat_lt, if◌then◌else◌, List, [], ◌∷◌, ◌++◌, length, Option, Some, None, refl, ap₂, ◌∙◌, ◌%◌}
use Rattle.device_core.specs.State.{State, frame_of, addresses_held, holds, one_more, with_queued, speaks, source}
use Rattle.device_core.specs.Place.{is_on_wire, reported_by, reported_from, class_of_poll, after_front, after_failure, frame_sent, front_is_counted, front_is_poll, most_again, polled_at, sent_by, place_after_fate}
use Rattle.device_features.specs.Kinds.{is_switch, type_of}
use Rattle.room_net.specs.State.{each_from, NetState}
use Rattle.message_table.specs.Words.{reason_byte}
use Rattle.message_table.specs.declared.words.Reason.TheVariants.{Unrecognized}
use Rattle.message_table.specs.declared.message.Decoded.{Decoded}
use Rattle.message_table.specs.declared.message.Decoded.TheVariants.{Known, Poll, Short, Unknown as NoName}
use Rattle.message_table.specs.Table.{decoded_of}
use Rattle.line_rounds.specs.declared.Outcome.{Outcome}
use Rattle.line_rounds.specs.Round.{close_in, fate_in}
use Rattle.line_frames.specs.Blocks.{frame_in}
use Rattle.line_frames.specs.declared.Fate.{Fate}
use Rattle.line_frames.specs.declared.Fate.TheVariants.{Delivered, Unacked, Lost, Broken}
use Rattle.device_features.specs.declared.record.Heard.{Heard}
use Rattle.device_features.specs.declared.say.Say.{Say}
use Rattle.device_features.specs.declared.say.Say.TheVariants.{Reply, Cast, Report, Refuse}
use Rattle.device_features.specs.Effect.{Effect}
use Rattle.device_features.specs.Effects.{effect_of, heard_of, refuses}
use Rattle.line_frames.specs.declared.free_time.FreeTime.TheVariants.{Retry}
use Rattle.device_core.specs.Say.{after_effect, say, say_all}
use Rattle.device_core.specs.Effects.{by_decoded, after_frame, is_for}
use Rattle.room_net.specs.Start.{contends}
use Rattle.room_net.specs.Step.{after_round, device_after, followed_in, followed_unless, is_among, is_sent, after_fate}

abbrev pub names_of : List State → List (List ℕ)
names_of devices = map (λ d. d.name) devices

pub two : (t : Bool) (x y : State) (name : List ℕ) → x.name ≡ name → y.name ≡ name → (if t then x else y).name ≡ name
two true x y name h k = h
two false x y name h k = k

pub name-queued : (limit at from to : ℕ) (bytes : List ℕ) (d : State) → (with_queued limit at from to bytes d).name ≡ d.name
name-queued limit at from to bytes d =
    two (not (speaks d) || holds d.place to) d
    (if nat_lt (length d.queue) limit then record d { queue = d.queue ++ record { frame = frame_of from to bytes; ready = at; ticket = None } ∷ [] } else record d { dropped = one_more d.dropped }) d.name refl
    (two (nat_lt (length d.queue) limit) (record d { queue = d.queue ++ record { frame = frame_of from to bytes; ready = at; ticket = None } ∷ [] }) (record d { dropped = one_more d.dropped }) d.name refl refl)

name-reported_from : (limit at : ℕ) (unit : Option ℕ) (d : State) → (reported_from limit at unit d).name ≡ d.name
name-reported_from limit at None d = refl
name-reported_from limit at (Some from) d =
    two (nat_lt from 15 || is_switch d.kind) (with_queued limit at from 15 (0x84 ∷ d.phys.high ∷ d.phys.low ∷ type_of d.kind from ∷ []) d) d d.name
    (name-queued limit at from 15 (0x84 ∷ d.phys.high ∷ d.phys.low ∷ type_of d.kind from ∷ []) d) refl

pub name-reported_by : (limit at : ℕ) (units : List (Option ℕ)) (d : State) → (reported_by limit at units d).name ≡ d.name
name-reported_by limit at [] d = refl
name-reported_by limit at (unit ∷ units) d = name-reported_by limit at units (reported_from limit at unit d) ∙ name-reported_from limit at unit d

name-say : (limit : ℕ) (h : Heard) (s : Say) (d : State) → (say limit h s d).name ≡ d.name
name-say limit h (Reply bytes) d = two (nat_lt h.from 15) (with_queued limit h.at (source d.place h.to) h.from bytes d) d d.name (name-queued limit h.at (source d.place h.to) h.from bytes d) refl
name-say limit h (Cast bytes) d = name-queued limit h.at (source d.place h.to) 15 bytes d
name-say limit h (Report to bytes) d = two (nat_lt to 15) (with_queued limit h.at (source d.place h.to) to bytes d) d d.name (name-queued limit h.at (source d.place h.to) to bytes d) refl
name-say limit h (Refuse reason) d =
    two (nat_lt h.to 15 && (nat_lt h.from 15 && not (h.opcode == 0))) (with_queued limit h.at (source d.place h.to) h.from (0x00 ∷ h.opcode ∷ reason_byte reason ∷ []) d) d d.name
    (name-queued limit h.at (source d.place h.to) h.from (0x00 ∷ h.opcode ∷ reason_byte reason ∷ []) d) refl

name-say_all : (limit : ℕ) (h : Heard) (says : List Say) (d : State) → (say_all limit h says d).name ≡ d.name
name-say_all limit h [] d = refl
name-say_all limit h (s ∷ says) d = name-say_all limit h says (say limit h s d) ∙ name-say limit h s d

name-effected : (limit : ℕ) (h : Heard) (e : Effect) (d : State) → (after_effect limit h e d).name ≡ d.name
name-effected limit h e d = name-say_all limit h e.says (record d { record_of = e.after })

name-decoded : (limit : ℕ) (h : Heard) (d : State) (said : Decoded) → (by_decoded limit h d said).name ≡ d.name
name-decoded limit h d (Known message) = name-effected limit h (effect_of d.kind d.phys d.name d.ports h d.record_of message) d
name-decoded limit h d (NoName opcode) = name-effected limit h (refuses d.record_of Unrecognized) d
name-decoded limit h d (Short opcode) = refl
name-decoded limit h d Poll = refl

name-followed : (limit at : ℕ) (frame : List ℕ) (d : State) → (after_frame limit d frame at).name ≡ d.name
name-followed limit at [] d = refl
name-followed limit at (header ∷ []) d = refl
name-followed limit at (header ∷ opcode ∷ operands) d =
    two (is_for d (header % 16) opcode) (by_decoded limit (heard_of header opcode operands at) d (decoded_of (header ∷ opcode ∷ operands))) d d.name
    (name-decoded limit (heard_of header opcode operands at) d (decoded_of (header ∷ opcode ∷ operands))) refl

-- ---- fates

name-failed : (d : State) → (after_failure d).name ≡ d.name
name-failed d = two (nat_lt d.attempts (most_again d.queue)) (record d { attempts = d.attempts + 1; class = Retry }) (after_front d) d.name refl refl

name-frame_sent : (fate : Fate) (d : State) → (frame_sent d fate).name ≡ d.name
name-frame_sent Lost d = two (front_is_counted d.queue) (after_failure d) d d.name (name-failed d) refl
name-frame_sent Delivered d = refl
name-frame_sent Unacked d = two (front_is_poll d.queue) (after_front d) (after_failure d) d.name refl (name-failed d)
name-frame_sent Broken d = two (front_is_poll d.queue) (record d { class = Retry }) (after_failure d) d.name refl (name-failed d)

name-sent_by : (limit at : ℕ) (fate : Fate) (d : State) (p : Option ℕ) → (sent_by limit d fate at p).name ≡ d.name
name-sent_by limit at fate d None = name-frame_sent fate d
name-sent_by limit at fate d (Some a) =
    let e : State = record d { place = place_after_fate d.kind d.place fate; poll_ready = at; class = class_of_poll fate } in
    name-reported_by limit at (addresses_held e.place) e

name-informed : (own others : Bool) (fate : Fate) (at : ℕ) (d : State) → (after_fate own others fate at d).name ≡ d.name
name-informed true others fate at d = name-sent_by 16 at fate d (polled_at d.place)
name-informed false true fate at d = refl
name-informed false false fate at d = refl

name-unless : (sends : Bool) (frame : Option (List ℕ)) (at : ℕ) (d : State) → (followed_unless sends frame at d).name ≡ d.name
name-unless sends None at d = refl
name-unless true (Some frame) at d = refl
name-unless false (Some frame) at d = name-followed 16 at frame d

name-after : (own others : Bool) (o : Outcome) (number : ℕ) (d : State) → (device_after own others o number d).name ≡ d.name
name-after own others o number d =
    two (is_on_wire d) (after_fate own others (fate_in o number) (close_in o) (followed_in o number d)) d d.name
    (name-informed own others (fate_in o number) (close_in o) (followed_in o number d) ∙ name-unless (is_among o.survivors.items number) (frame_in o.reading) (close_in o) d) refl

-- ---- all devices

names-all : (n : ℕ) (f : ℕ → State → State) (xs : List State) → ((m : ℕ) (d : State) → (f m d).name ≡ d.name) → names_of (each_from n f xs) ≡ names_of xs
names-all n f [] step = refl
names-all n f (x ∷ xs) step = ap₂ (λ a bs. a ∷ bs) (step n x) (names-all (n + 1) f xs step)

pub names_round : (s : NetState) (begin : ℕ) (o : Outcome) → names_of (after_round s begin o).devices ≡ names_of s.devices
names_round s begin o =
    names-all 0 (λ number d. device_after (contends s.rest begin d) (is_sent s.rest begin o s.devices) o number d) s.devices
    (λ number d. name-after (contends s.rest begin d) (is_sent s.rest begin o s.devices) o number d)

-- ---- a round's line names its devices, and says nothing else of them

nth : List (List ℕ) → ℕ → List ℕ
nth [] n = []
nth (x ∷ xs) zero = x
nth (x ∷ xs) (suc n) = nth xs n

name_nth : (xs : List State) (n : ℕ) → name_at xs n ≡ nth (names_of xs) n
unfolding nth
name_nth [] n = refl
name_nth (x ∷ xs) zero = refl
name_nth (x ∷ xs) (suc n) = name_nth xs n

same_name : (xs ys : List State) → names_of xs ≡ names_of ys → (n : ℕ) → name_at xs n ≡ name_at ys n
same_name xs ys e n = name_nth xs n ∙ ap (λ (ns : List (List ℕ)). nth ns n) e ∙ sym (name_nth ys n)

abbrev line_by : Outcome → (ℕ → List ℕ) → List ℕ
line_by o name = concat (
    reading_text_of o.reading (reported_text o.reading) (verdict_text o.reading) ∷ codes " by " ∷ comma_list (map name o.survivors.items)
    ∷ codes " out " ∷ comma_list (map (λ (loser : Loser). name loser.seat ++ (64 ∷ decimal loser.slot)) o.losers.items) ∷ codes "\n" ∷ [])

pub same_line : (xs ys : List State) (o : Outcome) → names_of xs ≡ names_of ys → round_line xs o ≡ round_line ys o
same_line xs ys o e =
    let names : name_at xs ≡ name_at ys = λ i n. same_name xs ys e n i in
    ap (line_by o) names

pub line_before : (s : NetState) (begin : ℕ) (o : Outcome) → round_line s.devices o ≡ round_line (after_round s begin o).devices o
line_before s begin o = same_line s.devices (after_round s begin o).devices o (sym (names_round s begin o))

-- the same of its object
abbrev object_by : Outcome → (ℕ → List ℕ) → List ℕ
object_by o name =
    object_of (codes "round") (reading_cells o.reading
    ++ both (codes " by ") (codes "by") (words (λ n. string (name n)) (codes ",") o.survivors.items)
    ∷ both (codes " out ") (codes "out") (words (λ (l : Loser). out (name l.seat) l.slot) (codes ",") o.losers.items) ∷ [])

same_object : (xs ys : List State) (o : Outcome) → names_of xs ≡ names_of ys → round_text Json xs o ≡ round_text Json ys o
same_object xs ys o e =
    let names : name_at xs ≡ name_at ys = λ i n. same_name xs ys e n i in
    ap (object_by o) names

pub object_before : (s : NetState) (begin : ℕ) (o : Outcome) → round_text Json s.devices o ≡ round_text Json (after_round s begin o).devices o
object_before s begin o = same_object s.devices (after_round s begin o).devices o (sym (names_round s begin o))
