-- What a device does between its rounds keeps its front frame, and queues nothing that is ready later than the call.
use Rattle.message_table.specs.Words.{reason_byte}
use Rattle.message_table.specs.declared.words.Reason.TheVariants.{Unrecognized}
use Rattle.std.proofs.Common.{◌≡◌, ℕ, suc, ◌+◌, ◌≤◌, ◌%◌, ◌==◌, Bool, true, false, not, ◌&&◌, ◌||◌, nat_lt, if◌then◌else◌, List, [], ◌∷◌, ◌++◌, length, Option, Some, None, IsSome, refl, sym, ap, ◌∙◌, subst, arith, length-append}
use Rattle.std.specs.List.{All}
use Rattle.std.proofs.lemmas.List.Elements.{All-nil, All-cons, All-append}
use Rattle.message_table.specs.declared.message.Decoded.{Decoded}
use Rattle.message_table.specs.declared.message.Decoded.TheVariants.{Known, Poll, Short, Unknown as NoName}
use Rattle.message_table.specs.Table.{decoded_of}
use Rattle.device_features.specs.declared.record.Heard.{Heard}
use Rattle.device_features.specs.declared.keys.Key.{Key}
use Rattle.device_core.specs.declared.device.Ticket.{Ticket}
use Rattle.device_core.specs.declared.keys.KeyError.{KeyError}
use Rattle.line_frames.specs.declared.Fate.{Fate}
use Rattle.line_frames.specs.declared.Fate.TheVariants.{Delivered, Unacked, Lost, Broken}
use Rattle.line_frames.specs.declared.free_time.FreeTime.TheVariants.{Retry, NewInitiator}
use Rattle.device_core.specs.declared.device.Queued.{Queued}
use Rattle.device_core.specs.declared.device.SubmitError.{SubmitError}
use Rattle.device_core.specs.State.{State, with_queued, speaks, holds, frame_of, source, one_more}
use Rattle.device_core.specs.Say.{say, say_all, after_effect}
use Rattle.device_features.specs.declared.say.Say.{Say}
use Rattle.device_features.specs.declared.say.Say.TheVariants.{Reply, Cast, Report, Refuse}
use Rattle.device_features.specs.Effect.{Effect}
use Rattle.device_core.specs.Effects.{by_decoded, after_frame, is_for}
use Rattle.device_features.specs.Effects.{effect_of, refuses, heard_of}
use Rattle.device_core.specs.Keys.{own_doing, key_fault, keyed_by, after_key}
use Rattle.device_core.specs.declared.outside.Act.{Act}
use Rattle.device_core.specs.declared.outside.Act.TheVariants.{Hold, Empty}
use Rattle.device_core.specs.Outside.{act_fault, after_act, acted_by}
use Rattle.device_features.specs.Keys.{pressing, releasing}
use Rattle.device_core.specs.Place.{place_after_fate, polled_at, class_of_poll, after_front, after_failure, after_loss, front_is_counted, front_is_poll, most_again, frame_sent, sent_by, after_sending, after_waiting, submit_fault, submitted_by, after_submission, front_by, front_of, ready_by, ready_of}
use Rattle.room_net.specs.Step.{followed_unless}
use Rattle.room_net.specs.Sound.{IsReadyBy}
use Rattle.room_net.proofs.Ready.{ready-queued, ready-reported}

-- the second state comes from the first
pub record IsAhead (b : ℕ) (d e : State) : Type 0 where
  pub ready : IsReadyBy b d → IsReadyBy b e
  pub place : e.place ≡ d.place
  pub longer : length d.queue ≤ length e.queue

ahead-same : (b : ℕ) (d : State) → IsAhead b d d
ahead-same b d = record { ready = λ h. h; place = refl; longer = omega arith }

ahead-trans : (b : ℕ) (d e f : State) → IsAhead b d e → IsAhead b e f → IsAhead b d f
ahead-trans b d e f h k = record { ready = λ r. k.ready (h.ready r); place = k.place ∙ h.place; longer = omega (arith, h.longer, k.longer) }

ahead-then : (b : ℕ) (t : Bool) (d x : State) → IsAhead b d x → IsAhead b d (if t then x else d)
ahead-then b true d x h = h
ahead-then b false d x h = ahead-same b d

either_ahead : (b : ℕ) (p q : Bool) (d y z : State) → IsAhead b d y → IsAhead b d z → IsAhead b d (if p then d else (if q then y else z))
either_ahead b true q d y z h k = ahead-same b d
either_ahead b false true d y z h k = h
either_ahead b false false d y z h k = k

two_place : (p q : Bool) (d y z : State) → y.place ≡ d.place → z.place ≡ d.place → (if p then d else (if q then y else z)).place ≡ d.place
two_place true q d y z h k = refl
two_place false true d y z h k = h
two_place false false d y z h k = k

two_longer : (p q : Bool) (d y z : State) → length d.queue ≤ length y.queue → length d.queue ≤ length z.queue
    → length d.queue ≤ length (if p then d else (if q then y else z)).queue
two_longer true q d y z h k = omega arith
two_longer false true d y z h k = h
two_longer false false d y z h k = k

ahead-queued : (b limit at from to : ℕ) (bytes : List ℕ) (d : State) → at ≤ b → IsAhead b d (with_queued limit at from to bytes d)
ahead-queued b limit at from to bytes d le =
    let last : List Queued = record { frame = frame_of from to bytes; ready = at; ticket = None } ∷ [] in
    let y : State = record d { queue = d.queue ++ last } in
    let z : State = record d { dropped = one_more d.dropped } in
    record {
      ready = ready-queued b limit at from to bytes d le;
      place = two_place (not (speaks d) || holds d.place to) (nat_lt (length d.queue) limit) d y z refl refl;
      longer = two_longer (not (speaks d) || holds d.place to) (nat_lt (length d.queue) limit) d y z (omega (arith, length-append d.queue last)) (omega arith);
    }

ahead-say : (b limit : ℕ) (h : Heard) (s : Say) (d : State) → h.at ≤ b → IsAhead b d (say limit h s d)
ahead-say b limit h (Reply bytes) d le = ahead-then b (nat_lt h.from 15) d (with_queued limit h.at (source d.place h.to) h.from bytes d) (ahead-queued b limit h.at (source d.place h.to) h.from bytes d le)
ahead-say b limit h (Cast bytes) d le = ahead-queued b limit h.at (source d.place h.to) 15 bytes d le
ahead-say b limit h (Report to bytes) d le = ahead-then b (nat_lt to 15) d (with_queued limit h.at (source d.place h.to) to bytes d) (ahead-queued b limit h.at (source d.place h.to) to bytes d le)
ahead-say b limit h (Refuse reason) d le =
    ahead-then b (nat_lt h.to 15 && (nat_lt h.from 15 && not (h.opcode == 0))) d (with_queued limit h.at (source d.place h.to) h.from (0x00 ∷ h.opcode ∷ reason_byte reason ∷ []) d)
    (ahead-queued b limit h.at (source d.place h.to) h.from (0x00 ∷ h.opcode ∷ reason_byte reason ∷ []) d le)

ahead-say_all : (b limit : ℕ) (h : Heard) (says : List Say) (d : State) → h.at ≤ b → IsAhead b d (say_all limit h says d)
ahead-say_all b limit h [] d le = ahead-same b d
ahead-say_all b limit h (s ∷ says) d le =
    ahead-trans b d (say limit h s d) (say_all limit h says (say limit h s d)) (ahead-say b limit h s d le) (ahead-say_all b limit h says (say limit h s d) le)

ahead-effected : (b limit : ℕ) (h : Heard) (e : Effect) (d : State) → h.at ≤ b → IsAhead b d (after_effect limit h e d)
ahead-effected b limit h e d le =
    ahead-trans b d (record d { record_of = e.after }) (after_effect limit h e d)
    (record { ready = λ r. record { poll = r.poll; queue = r.queue }; place = refl; longer = omega arith })
    (ahead-say_all b limit h e.says (record d { record_of = e.after }) le)

ahead-decoded : (b limit : ℕ) (h : Heard) (d : State) (said : Decoded) → h.at ≤ b → IsAhead b d (by_decoded limit h d said)
ahead-decoded b limit h d (Known message) le = ahead-effected b limit h (effect_of d.kind d.phys d.name d.ports h d.record_of message) d le
ahead-decoded b limit h d (NoName opcode) le = ahead-effected b limit h (refuses d.record_of Unrecognized) d le
ahead-decoded b limit h d (Short opcode) le = ahead-same b d
ahead-decoded b limit h d Poll le = ahead-same b d

pub ahead-followed : (b limit at : ℕ) (frame : List ℕ) (d : State) → at ≤ b → IsAhead b d (after_frame limit d frame at)
ahead-followed b limit at [] d le = ahead-same b d
ahead-followed b limit at (header ∷ []) d le = ahead-same b d
ahead-followed b limit at (header ∷ opcode ∷ operands) d le =
    ahead-then b (is_for d (header % 16) opcode) d (by_decoded limit (heard_of header opcode operands at) d (decoded_of (header ∷ opcode ∷ operands)))
    (ahead-decoded b limit (heard_of header opcode operands at) d (decoded_of (header ∷ opcode ∷ operands)) le)

ahead-keyed_by : (b limit at : ℕ) (key : Key) (press : Bool) (d : State) (fault : Option KeyError) → at ≤ b → IsAhead b d (keyed_by limit d key press at fault)
ahead-keyed_by b limit at key press d None le =
    ahead-effected b limit (own_doing at) (if press then pressing d.kind d.phys d.record_of key else releasing d.kind d.record_of key) d le
ahead-keyed_by b limit at key press d (Some fault) le = ahead-same b d

pub ahead-keyed : (b limit at : ℕ) (key : Key) (press : Bool) (d : State) → at ≤ b → IsAhead b d (after_key limit d key press at)
ahead-keyed b limit at key press d le = ahead-keyed_by b limit at key press d (key_fault d key) le

-- ---- the front frame

front-longer : (p : Option ℕ) (xs ys : List Queued) → length xs ≤ length ys → IsSome (front_by p xs) → IsSome (front_by p ys)
front-longer (Some a) xs ys le h = refl
front-longer None [] ys le h = let e : false ≡ true = h in cc
front-longer None (x ∷ xs) [] le h = absurd (omega arith)
front-longer None (x ∷ xs) (y ∷ ys) le h = refl

pub front-ahead : (b : ℕ) (d e : State) → IsAhead b d e → IsSome (front_of d) → IsSome (front_of e)
front-ahead b d e a h =
    let Has : Option ℕ → Type 0 = λ p. IsSome (front_by p e.queue) in
    subst Has (ap polled_at (sym a.place)) (front-longer (polled_at d.place) d.queue e.queue a.longer h)

pub front-ready : (d : State) (ready : ℕ) → ready_of d ≡ Some ready → IsSome (front_of d)
front-ready d ready e = step (polled_at d.place) d.queue e
  where
    step : (p : Option ℕ) (xs : List Queued) → ready_by p d.poll_ready xs ≡ Some ready → IsSome (front_by p xs)
    step (Some a) xs h = refl
    step None [] h = cc
    step None (x ∷ xs) h = refl

-- ---- fates

ready-class : (b : ℕ) (d e : State) → e.poll_ready ≡ d.poll_ready → e.queue ≡ d.queue → IsReadyBy b d → IsReadyBy b e
ready-class b d e p q h = let Early : List Queued → Type 0 = λ xs. All (λ x. x.ready ≤ b) xs in record { poll = omega (arith, h.poll, p); queue = subst Early (sym q) h.queue }

two_ready : (b : ℕ) (t : Bool) (x y : State) → IsReadyBy b x → IsReadyBy b y → IsReadyBy b (if t then x else y)
two_ready b true x y h k = h
two_ready b false x y h k = k

ready-ended : (b : ℕ) (d : State) (queue : List Queued) → d.poll_ready ≤ b → All (λ x. x.ready ≤ b) queue → IsReadyBy b (after_front (record d { queue = queue }))
ready-ended b d [] p q = record { poll = p; queue = All-nil (λ (x : Queued). x.ready ≤ b) }
ready-ended b d (x ∷ queue) p q = record { poll = p; queue = λ k y l. q (suc k) y (omega arith) }

ready-failed : (b : ℕ) (d : State) → IsReadyBy b d → IsReadyBy b (after_failure d)
ready-failed b d h =
    two_ready b (nat_lt d.attempts (most_again d.queue)) (record d { attempts = d.attempts + 1; class = Retry }) (after_front d)
    (record { poll = h.poll; queue = h.queue }) (ready-ended b d d.queue h.poll h.queue)

ready-lost : (b : ℕ) (d : State) → IsReadyBy b d → IsReadyBy b (after_loss d)
ready-lost b d h = two_ready b (front_is_counted d.queue) (after_failure d) d (ready-failed b d h) h

ready-frame_sent : (b : ℕ) (fate : Fate) (d : State) → IsReadyBy b d → IsReadyBy b (frame_sent d fate)
ready-frame_sent b Lost d h = lost (ready-lost b d h)
  where
    lost : IsReadyBy b (after_loss d) → IsReadyBy b (record (after_loss d) { class = NewInitiator })
    lost k = record { poll = k.poll; queue = k.queue }
ready-frame_sent b Delivered d h = ready-ended b d d.queue h.poll h.queue
ready-frame_sent b Unacked d h = two_ready b (front_is_poll d.queue) (after_front d) (after_failure d) (ready-ended b d d.queue h.poll h.queue) (ready-failed b d h)
ready-frame_sent b Broken d h = two_ready b (front_is_poll d.queue) (record d { class = Retry }) (after_failure d) (record { poll = h.poll; queue = h.queue }) (ready-failed b d h)

ready-sent_by : (b limit at : ℕ) (fate : Fate) (d : State) (p : Option ℕ) → at ≤ b → IsReadyBy b d → IsReadyBy b (sent_by limit d fate at p)
ready-sent_by b limit at fate d None le h = ready-frame_sent b fate d h
ready-sent_by b limit at fate d (Some a) le h =
    ready-reported b limit at (record d { place = place_after_fate d.kind d.place fate; poll_ready = at; class = class_of_poll fate }) le (record { poll = le; queue = h.queue })

pub ready-sent : (b limit at : ℕ) (fate : Fate) (d : State) → at ≤ b → IsReadyBy b d → IsReadyBy b (after_sending limit d fate at)
ready-sent b limit at fate d le h = ready-sent_by b limit at fate d (polled_at d.place) le h

pub ready-waited : (b : ℕ) (d : State) → IsReadyBy b d → IsReadyBy b (after_waiting d)
ready-waited b d h = record { poll = h.poll; queue = h.queue }

ready-submitted_by : (b at : ℕ) (frame : List ℕ) (ticket : Ticket) (d : State) (fault : Option SubmitError) → at ≤ b → IsReadyBy b d → IsReadyBy b (submitted_by d frame ticket at fault)
ready-submitted_by b at frame ticket d None le h =
    let Early : Queued → Type 0 = λ q. q.ready ≤ b in
    record { poll = h.poll; queue = All-append Early d.queue (record { frame = frame; ready = at; ticket = Some ticket } ∷ []) h.queue (All-cons Early (record { frame = frame; ready = at; ticket = Some ticket }) [] le (All-nil Early)) }
ready-submitted_by b at frame ticket d (Some fault) le h = h

pub ready-submitted : (b limit at : ℕ) (frame : List ℕ) (ticket : Ticket) (d : State) → at ≤ b → IsReadyBy b d → IsReadyBy b (after_submission limit d frame ticket at)
ready-submitted b limit at frame ticket d le h = ready-submitted_by b at frame ticket d (submit_fault limit d frame) le h

pub ready-acted : (b : ℕ) (d : State) (act : Act) → IsReadyBy b d → IsReadyBy b (after_act d act)
ready-acted b d act h = by (act_fault d) act
  where
    by : (fault : Option KeyError) (act : Act) → IsReadyBy b (acted_by d fault act)
    by (Some fault) act = h
    by None (Hold first second more) = record { poll = h.poll; queue = h.queue }
    by None Empty = record { poll = h.poll; queue = All-nil (λ (q : Queued). q.ready ≤ b) }

-- a device that sent has its frame still when it is told what became of it
pub front-followed_unless : (sends : Bool) (frame : Option (List ℕ)) (at : ℕ) (d : State) → IsSome (front_of d) → IsSome (front_of (followed_unless sends frame at d))
front-followed_unless sends None at d h = h
front-followed_unless true (Some frame) at d h = h
front-followed_unless false (Some frame) at d h = front-ahead at d (after_frame 16 d frame at) (ahead-followed at 16 at frame d (omega arith)) h
