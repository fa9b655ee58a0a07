-- A wire hears a microsecond.
use Rattle.std.proofs.Common.{◌≡◌, ◌≢◌, ℕ, ◌+◌, ◌-◌, ◌%◌, ◌==◌, ◌<◌, ◌≤◌, Bool, true, false, not, ◌&&◌, ◌||◌, nat_lt, if◌then◌else◌, ◌⊎◌, inl, inr, List, [], ◌++◌, length, Option, Some, None, is_some, refl, arith, ap, ◌∙◌, sym, subst}
use Rattle.std.specs.List.{All}
use Rattle.std.proofs.lemmas.Bool.{cases_lt}
use Rattle.std.proofs.lemmas.Bool.Decides.{nat_tests}
use mathlib.Core.Bool.{beq}
use Rattle.line_wave.specs.declared.Stretch.{Stretch}
use Rattle.line_wave.specs.Line.{Line, was_low, IsWave}
use Rattle.line_frames.specs.declared.Ending.{Ending}
use Rattle.line_frames.specs.declared.Ending.TheVariants.{Short, Silent, BadStart}
use Rattle.line_reading.specs.declared.receiver.Receiver.{Receiver}
use Rattle.line_reading.specs.declared.receiver.ReceiverState.{ReceiverState}
use Rattle.line_reading.specs.declared.receiver.ReceiverState.TheVariants.{Rest, StartLow, StartHigh, Unsampled, Sampled}
use Rattle.line_reading.specs.declared.receiver.Told.{Told}
use Rattle.line_reading.specs.declared.receiver.Told.TheVariants.{Nothing, Bit, Last, Ended}
use Rattle.line_reading.specs.declared.sender.Sender.{Sender}
use Rattle.line_reading.specs.Follows.{StandsOn}
use Rattle.line_reading.specs.Hears.{Hears, Heard, heard_by, hear_in, hear_at, hears, wake_of, reported_so, rest, starts, due_in}
use Rattle.line_reading.specs.Kept.{reported_at}
use Rattle.line_reading.specs.Reading.{End}
use Rattle.line_rounds.specs.declared.Seat.{Seat}
use Rattle.line_wire.specs.declared.reading.Ended.{Ended as Ending_kept}
use Rattle.line_rounds.specs.Machine.{acks_until, is_short}
use Rattle.line_rounds.specs.Round.{IsRoundLine}
use Rattle.line_wire.specs.Listening.{AreSenders, AreBegun}
use Rattle.line_wire.specs.declared.edge_wire.EdgeWire.{EdgeWire}
use Rattle.line_wire.specs.Line.{HaveBegun}
use Rattle.line_wire.specs.Pulls.{low_in, held_in}
use Rattle.line_wire.specs.Steps.{StandsAfter, wakes_in}
use Rattle.line_wire.specs.Told.{told_of}
use Rattle.line_wire.specs.Turns.{Heeds, KeepsOver, IsToldNext, acks_by, ended_by, held_by, is_told_in}
use Rattle.line_wire.specs.Wire.{IsAt, Ticked, until_by, goes_on, bits_in, ends_as, held_from}
use Rattle.line_wire.specs.Wired.{EachLine, IsBegunWith, IsFresh, StandsOnLine, end_of, end_in, is_low_in, pulls_in}
use Rattle.line_wire.proofs.Calm.{told_stays, told_now, told_before_now}
use Rattle.line_wire.proofs.First.{first_low, first_tick}
use Rattle.line_wire.proofs.Goes.{low_is_found, calm_stays}
use Rattle.line_wire.proofs.Lows.{before_heard, wakes_ahead, runs_place, start_low}
use Rattle.line_wire.proofs.States.{followers_are_heard, held_goes}
use Rattle.line_wire.proofs.Ticks.{tick_goes, tick_over, tick_after}
use Rattle.line_wire.proofs.Told.{told_is_read, told_is_once}
use Rattle.line_wire.proofs.Turning.{later_sooner}
use Rattle.line_wire.proofs.Standing.{senders_kept}

-- ---- the line

first_until : (r : Receiver) (begin : ℕ) → heard_by r ≡ rest → until_by r None begin ≡ begin
first_until r begin e =
    ap (λ (h : Hears). if due_in h.place h.begin h.fall begin then begin - 1 else begin) e

-- as the round begins
low_first : (past later : List Stretch) (w : EdgeWire) (low : Line) → IsBegunWith past w → w.time ≡ w.begin → IsWave (past ++ later) → All (λ p. w.time + 1 ≤ p.from) later → IsRoundLine w.seats.items w.begin (past ++ later) low
    → low w.time ≡ pulls_in w
low_first past later w low b e wave late line =
    ap low e
    ∙ first_low w.seats.items w.begin past later w.last w.senders.items low (w.begin + 1) wave line (subst (λ n. All (λ p. n + 1 ≤ p.from) later) e late) (omega arith) (subst (λ n. HaveBegun w.begin past w.last n) e b.pulls) f.senders
    ∙ sym (ap (λ n. low_in w.senders.items w.last (until_by w.receiver (end_in w.ended) n) w.held (is_low_in w) n) e
    ∙ ap (λ (x : Option Ending_kept). low_in w.senders.items w.last (until_by w.receiver (end_in x) w.begin) w.held (is_low_in w) w.begin) f.ended
    ∙ ap (λ n. low_in w.senders.items w.last n w.held (is_low_in w) w.begin) (first_until w.receiver w.begin f.heard)
    ∙ ap (λ n. low_in w.senders.items w.last w.begin n (is_low_in w) w.begin) f.held
    ∙ ap (λ (o : Option ℕ). low_in w.senders.items w.last w.begin 0 (is_some o) w.begin) f.wave.1)
  where
    f : IsFresh w
    f = b.fresh e

low_after : (past later : List Stretch) (w : EdgeWire) (low : Line) → IsBegunWith past w → w.begin < w.time → IsWave (past ++ later) → All (λ p. w.time + 1 ≤ p.from) later → IsRoundLine w.seats.items w.begin (past ++ later) low
    → low w.time ≡ pulls_in w
low_after past later w low b after wave late line =
    low_is_found w.seats.items w.begin past later w.last w.receiver w.senders.items w.bits.items (end_in w.ended) w.held low (told_of low w.begin) w.time (w.time + 1) wave line late (omega arith) b.pulls
    (told_is_read low w.begin) s.at
    ∙ ap (λ c. low_in w.senders.items w.last (until_by w.receiver (end_in w.ended) w.time) w.held c w.time) s.records.was
  where
    s : StandsOnLine w low
    s = b.stands after later low wave (later_sooner w.time (w.time + 1) later (omega arith) late) line

-- the next microsecond of each line that the round can have
pub low_next : (past : List Stretch) (w : EdgeWire) → IsBegunWith past w → EachLine w.seats.items w.begin past (w.time + 1) (λ low. low w.time ≡ pulls_in w)
low_next past w b later low wave late line = elim (cases_lt w.begin w.time) [
  | inl lt ↦ low_after past later w low b lt wave late line
  | inr ge ↦ low_first past later w low b (let x : w.time ≡ w.begin = omega (arith, ge, b.from) in x) wave late line
]

-- ---- why something is told

or_left : (a b : Bool) → (a || b) ≡ false → a ≡ false
or_left true b e = cc
or_left false b e = refl

or_right : (a b : Bool) → (a || b) ≡ false → b ≡ false
or_right true b e = cc
or_right false b e = e

same_by : (a b : Bool) → not (beq a b) ≡ false → a ≡ b
same_by true true e = refl
same_by true false e = cc
same_by false true e = cc
same_by false false e = refl

other_by : (a b : Bool) → not (beq a b) ≡ true → a ≡ not b
other_by true true e = cc
other_by true false e = refl
other_by false true e = refl
other_by false false e = cc

wakes_so : (o : Option ℕ) (t : ℕ) → wakes_in o t ≡ true → o ≡ Some t
wakes_so None t e = cc
wakes_so (Some n) t e = ap (λ (m : ℕ). Some m) (let x : n ≡ t = grind (arith, nat_tests) in x)

not_same : (m t : ℕ) → (m == t) ≡ false → m ≡ t → ⊥
not_same m t e z = let k : (m == t) ≡ true = grind (arith, nat_tests) in let x : true ≡ false = sym k ∙ e in cc

not_wakes : (o : Option ℕ) (t n : ℕ) → wakes_in o t ≡ false → o ≡ Some n → t ≤ n → t < n
not_wakes None t n e h l = cc
not_wakes (Some m) t n e h l = let x : m ≡ n = cc in by_lt x (not_same m t e) (cases_lt t n)
  where
    by_lt : m ≡ n → (m ≡ t → ⊥) → (t < n) ⊎ (n ≤ t) → t < n
    by_lt x y (inl lt) = lt
    by_lt x y (inr ge) = absurd (y (omega (arith, x, ge, l)))

-- ---- nothing is told

pub none_told : (past : List Stretch) (w : EdgeWire) → IsBegunWith past w → is_told_in w (is_low_in w) (pulls_in w) ≡ false
    → EachLine w.seats.items w.begin past (w.time + 1) (λ low. IsToldNext w w (told_of low w.begin))
none_told past w b none later low wave late line =
    calm_stays w.seats.items w.begin w.receiver w.senders.items w.bits.items (end_in w.ended) w.held (told_of low w.begin) w.time s.at
    (told_stays low w.begin w.receiver w.time (w.time + 1) s.at.once s.at.stood after (λ n e. let x = wakes n e in omega (arith, x)) w.time (omega arith) (omega arith) same) wakes
  where
    late_now : All (λ p. w.time ≤ p.from) later
    late_now = later_sooner w.time (w.time + 1) later (omega arith) late

    rest_none : (not (beq (pulls_in w) (is_low_in w)) || wakes_in (wake_of (heard_by w.receiver)) w.time) ≡ false
    rest_none = or_right (w.time == w.begin) _ none

    after : w.begin < w.time
    after = let x : (w.time == w.begin) ≡ false = or_left (w.time == w.begin) _ none in let f = b.from in by_lt x (cases_lt w.begin w.time)
      where
        by_lt : (w.time == w.begin) ≡ false → (w.begin < w.time) ⊎ (w.time ≤ w.begin) → w.begin < w.time
        by_lt x (inl lt) = lt
        by_lt x (inr ge) = let f = b.from in let y : w.time ≡ w.begin = omega (arith, f, ge) in let z : (w.time == w.begin) ≡ true = grind (arith, nat_tests) in cc

    s : StandsOnLine w low
    s = b.stands after later low wave late_now line

    wakes : (n : ℕ) → wake_of (heard_by w.receiver) ≡ Some n → w.time < n
    wakes n e = not_wakes (wake_of (heard_by w.receiver)) w.time n (or_right (not (beq (pulls_in w) (is_low_in w))) _ rest_none) e (wakes_ahead w.receiver (told_of low w.begin) w.time s.at.stood n e)

    same : (v : ℕ) → w.time ≤ v → v < w.time + 1 → low v ≡ was_low low w.time
    same v x y =
        ap low (let z : v ≡ w.time = omega (arith, x, y) in z) ∙ low_next past w b later low wave late line ∙ same_by (pulls_in w) (is_low_in w) (or_left (not (beq (pulls_in w) (is_low_in w))) _ rest_none)
        ∙ sym s.records.was

-- ---- where a slot falls

-- no slot falls where its bit is sampled
bit_no_fall : (place : ReceiverState) (t : ℕ) (falls rises is_low : Bool) (h : Hears) (slot : ℕ) (value : Bool) → (hear_at place t falls rises is_low h).reported ≡ Bit slot value → falls ≡ false
bit_no_fall place t false rises is_low h slot value e = refl
bit_no_fall Rest t true rises is_low h slot value e = cc
bit_no_fall StartLow t true rises is_low h slot value e = by_late (nat_lt (h.begin + 3900) t) e
  where
    by_soon : (c : Bool) → (if c then reported_so rest (Ended BadStart) else reported_so (record h { place = StartHigh }) Nothing).reported ≡ Bit slot value → true ≡ false
    by_soon true e2 = cc
    by_soon false e2 = cc

    by_rise : (d : Bool) → (if d then (if nat_lt t (h.begin + 3500) then reported_so rest (Ended BadStart) else reported_so (record h { place = StartHigh }) Nothing) else reported_so h Nothing).reported ≡ Bit slot value → true ≡ false
    by_rise true e2 = by_soon (nat_lt t (h.begin + 3500)) e2
    by_rise false e2 = cc

    by_late : (c : Bool) → (if c then reported_so (starts t true) (Ended BadStart) else if rises then (if nat_lt t (h.begin + 3500) then reported_so rest (Ended BadStart) else reported_so (record h { place = StartHigh }) Nothing) else reported_so h Nothing).reported ≡ Bit slot value → true ≡ false
    by_late true e2 = cc
    by_late false e2 = by_rise rises e2
bit_no_fall StartHigh t true rises is_low h slot value e = by_late (nat_lt (h.begin + 4700) t) e
  where
    by_soon : (c : Bool) → (if c then reported_so rest (Ended BadStart) else reported_so (record h { place = Unsampled; fall = t }) Nothing).reported ≡ Bit slot value → true ≡ false
    by_soon true e2 = cc
    by_soon false e2 = cc

    by_late : (c : Bool) → (if c then reported_so (starts t true) (Ended BadStart) else (if nat_lt t (h.begin + 4300) then reported_so rest (Ended BadStart) else reported_so (record h { place = Unsampled; fall = t }) Nothing)).reported ≡ Bit slot value → true ≡ false
    by_late true e2 = cc
    by_late false e2 = by_soon (nat_lt t (h.begin + 4300)) e2
bit_no_fall Unsampled t true rises is_low h slot value e = cc
bit_no_fall Sampled t true rises is_low h slot value e = by_late (nat_lt (h.fall + 2750) t) e
  where
    by_soon : (c : Bool) → (if c then reported_so rest (Ended Short) else reported_so (record h { place = Unsampled; fall = t }) Nothing).reported ≡ Bit slot value → true ≡ false
    by_soon true e2 = cc
    by_soon false e2 = cc

    by_late : (c : Bool) → (if c then reported_so (starts t true) (Ended Silent) else (if nat_lt t (h.fall + 2050) then reported_so rest (Ended Short) else reported_so (record h { place = Unsampled; fall = t }) Nothing)).reported ≡ Bit slot value → true ≡ false
    by_late true e2 = cc
    by_late false e2 = by_soon (nat_lt t (h.fall + 2050)) e2

-- in the start bit nobody acknowledges
no_acks : (seats : List Seat) (senders : List (Option Sender)) (bits : List Bool) (t : ℕ) → bits ≡ [] → acks_by seats senders bits t ≡ 0
no_acks seats senders bits t e = ap (λ (bs : List Bool). acks_by seats senders bs t) e

either_way : (falls : Bool) (a : ℕ) → a ≡ 0 → (if falls then a else 0) ≡ 0
either_way true a e = e
either_way false a e = refl

-- ---- something is told

-- what a tick did with a wire
pub record Ticks (w v : EdgeWire) (reported : Told) (low falls : Bool) : Type 0 where
  pub heard : reported_so (heard_by v.receiver) reported ≡ hear_in w.time w.receiver.was_low low (heard_by w.receiver)
  pub level : (v.receiver.was_low ≡ low) × (v.receiver.is_low ≡ low)
  pub stands : StandsAfter w.receiver w.time low reported v.receiver
  pub runs : w.ended ≡ None → Heeds w reported falls (until_by w.receiver None w.time) v
  pub over : (e : Ending_kept) → w.ended ≡ Some e → KeepsOver w v

is_at_same : (seats : List Seat) (begin : ℕ) (r : Receiver) (os : List (Option Sender)) (bits bits2 : List Bool) (ended ended2 : Option End) (held held2 : ℕ) (told : Line) (t : ℕ) → bits2 ≡ bits → ended2 ≡ ended → held2 ≡ held
    → IsAt seats begin r os bits ended held told t → IsAt seats begin r os bits2 ended2 held2 told t
is_at_same seats begin r os bits bits2 ended ended2 held held2 told t a b c s =
    subst (λ (bs : List Bool). IsAt seats begin r os bs ended2 held2 told t) (sym a) (subst (λ (o : Option End). IsAt seats begin r os bits o held2 told t) (sym b) (subst (λ n. IsAt seats begin r os bits ended n told t) (sym c) s))

first_told : (past later : List Stretch) (w v : EdgeWire) (reported : Told) (falls : Bool) (low : Line) → IsBegunWith past w → w.time ≡ w.begin → Ticks w v reported true falls → IsRoundLine w.seats.items w.begin (past ++ later) low
    → IsAt w.seats.items w.begin v.receiver v.senders.items v.bits.items (end_in v.ended) v.held (told_of low w.begin) (w.time + 1)
first_told past later w v reported falls low b e k line =
    subst (λ n. IsAt w.seats.items w.begin v.receiver v.senders.items v.bits.items (end_in v.ended) v.held (told_of low w.begin) (n + 1)) (sym e)
    (is_at_same w.seats.items w.begin v.receiver v.senders.items [] v.bits.items None (end_in v.ended) 0 v.held (told_of low w.begin) (w.begin + 1) bits ended held
    (first_tick w.seats.items w.begin w.receiver v.receiver reported v.senders.items (told_of low w.begin) (told_is_once w.seats.items w.begin (past ++ later) low line)
    (record {
      fresh = f.heard;
      heard = k.heard ∙ ap (λ n. hear_in n w.receiver.was_low true (heard_by w.receiver)) e ∙ ap (λ c. hear_in w.begin c true (heard_by w.receiver)) f.level.0;
      level = k.level;
    }) (subst (λ (os : List (Option Sender)). AreBegun w.seats.items w.begin os) (sym (heeds.quiet nothing)) f.senders)))
  where
    f : IsFresh w
    f = b.fresh e

    heeds : Heeds w reported falls (until_by w.receiver None w.time) v
    heeds = k.runs f.ended

    nothing : reported ≡ Nothing
    nothing = ap (λ (x : Heard). x.reported) k.heard ∙ ap (λ (h : Hears). (hear_in w.time w.receiver.was_low true h).reported) f.heard

    bits : v.bits.items ≡ []
    bits = heeds.bits ∙ ap (λ (bs : List Bool). bs ++ bits_in reported) f.bits ∙ ap bits_in nothing

    ended : end_in v.ended ≡ None
    ended = heeds.ended ∙ ap (λ x. ended_by x w.time (until_by w.receiver None w.time)) nothing

    held : v.held ≡ 0
    held = heeds.held ∙ ap (λ x. held_by w x falls) nothing ∙ ap (λ n. if falls then acks_by w.seats.items w.senders.items w.bits.items w.time else n) f.held
        ∙ either_way falls (acks_by w.seats.items w.senders.items w.bits.items w.time) (no_acks w.seats.items w.senders.items w.bits.items w.time f.bits)

-- the line's fall, or another where the receiver waits for the start bit's rise
abbrev FallsSo : Receiver → Line → ℕ → Bool → Type 0
FallsSo r told t falls = (falls ≡ (told t && not (was_low told t))) ⊎ ((r.place ≡ StartLow) × (r.bits.items ≡ []))

no_fall_low : (a b : Bool) → b ≡ true → (a && not b) ≡ false
no_fall_low true b e = ap not e
no_fall_low false b e = refl

-- until when those who follow hold the line, where the reading goes on
goes_held : (w v : EdgeWire) (reported : Told) (falls : Bool) (told : Line) → w.ended ≡ None → IsAt w.seats.items w.begin w.receiver w.senders.items w.bits.items None w.held told w.time → Heeds w reported falls (until_by w.receiver None w.time) v
    → reported_so (heard_by v.receiver) reported ≡ hear_in w.time (was_low told w.time) (told w.time) (heard_by w.receiver) → FallsSo w.receiver told w.time falls → goes_on reported ≡ true
    → v.held ≡ held_in w.seats.items v.receiver.place v.receiver.fall v.receiver.bits.items
goes_held w v reported falls told none s heeds heard so goes = by_falls so ∙ sym (ap (λ (x : Hears). held_in w.seats.items x.place x.fall x.bits) (ap (λ (x : Heard). x.state) heard) ∙ law)
  where
    r : Receiver
    r = w.receiver

    tf : Bool
    tf = told w.time && not (was_low told w.time)

    same : heard_by r ≡ hears told w.time
    same = s.stood.keeps ∙ before_heard told w.time

    runs : r.place ≢ Rest
    runs = λ z. runs_place told w.begin w.time s.once s.from s.read.0 (ap (λ (x : Hears). x.place) (sym same) ∙ z)

    low_then : r.place ≡ StartLow → was_low told w.time ≡ true
    low_then e = start_low told w.time (ap (λ (x : Hears). x.place) (sym same) ∙ e)

    no_fall : r.place ≡ StartLow → tf ≡ false
    no_fall e = no_fall_low (told w.time) (was_low told w.time) (low_then e)

    what : (hear_at r.place w.time tf (not (told w.time) && was_low told w.time) (told w.time) (heard_by r)).reported ≡ reported
    what = sym (ap (λ (x : Heard). x.reported) heard)

    law : held_in w.seats.items (hear_in w.time (was_low told w.time) (told w.time) (heard_by r)).state.place (hear_in w.time (was_low told w.time) (told w.time) (heard_by r)).state.fall (hear_in w.time (was_low told w.time) (told w.time) (heard_by r)).state.bits
        ≡ (if tf then acks_until w.seats.items r.bits.items w.time else held_in w.seats.items r.place r.fall r.bits.items)
    law = held_goes w.seats.items w.time r.place r.begin r.fall r.bits.items tf (not (told w.time) && was_low told w.time) (told w.time) runs no_fall (ap goes_on what ∙ goes)

    -- those who follow are the same by the senders and by the bits
    acks_same : acks_by w.seats.items w.senders.items w.bits.items w.time ≡ acks_until w.seats.items r.bits.items w.time
    acks_same =
        ap (λ c. if ((length w.bits.items + 1) % 10 == 0) && c then w.time + 1500 else 0) (followers_are_heard w.seats.items w.begin r w.senders.items w.bits.items w.held told w.time s).0
        ∙ ap (λ (bs : List Bool). acks_until w.seats.items bs w.time) s.read.1

    held_now : (f : Bool) → (if f then acks_by w.seats.items w.senders.items w.bits.items w.time else w.held) ≡ (if f then acks_until w.seats.items r.bits.items w.time else held_in w.seats.items r.place r.fall r.bits.items)
    held_now true = acks_same
    held_now false = s.read.2

    start_zero : r.place ≡ StartLow → w.held ≡ 0
    start_zero e = s.read.2 ∙ ap (λ p. held_in w.seats.items p r.fall r.bits.items) e

    by_told : (x : Told) → reported ≡ x → (falls ≡ tf) → goes_on x ≡ true → held_by w x falls ≡ (if tf then acks_until w.seats.items r.bits.items w.time else held_in w.seats.items r.place r.fall r.bits.items)
    by_told Nothing h e g = held_now falls ∙ ap (λ f. if f then acks_until w.seats.items r.bits.items w.time else held_in w.seats.items r.place r.fall r.bits.items) e
    by_told (Bit slot value) h e g =
        s.read.2
        ∙ sym (ap (λ f. if f then acks_until w.seats.items r.bits.items w.time else held_in w.seats.items r.place r.fall r.bits.items)
        (bit_no_fall r.place w.time tf (not (told w.time) && was_low told w.time) (told w.time) (heard_by r) slot value (what ∙ h)))
    by_told (Last value ending) h e g = cc
    by_told (Ended ending) h e g = cc

    by_start : (x : Told) → r.place ≡ StartLow → r.bits.items ≡ [] → goes_on x ≡ true → held_by w x falls ≡ 0
    by_start Nothing p n g =
        ap (λ m. if falls then acks_by w.seats.items w.senders.items w.bits.items w.time else m) (start_zero p)
        ∙ either_way falls (acks_by w.seats.items w.senders.items w.bits.items w.time) (no_acks w.seats.items w.senders.items w.bits.items w.time (s.read.1 ∙ n))
    by_start (Bit slot value) p n g = start_zero p
    by_start (Last value ending) p n g = cc
    by_start (Ended ending) p n g = cc

    by_falls : (falls ≡ tf) ⊎ ((r.place ≡ StartLow) × (r.bits.items ≡ [])) → v.held ≡ (if tf then acks_until w.seats.items r.bits.items w.time else held_in w.seats.items r.place r.fall r.bits.items)
    by_falls (inl e) = heeds.held ∙ by_told reported refl e goes
    by_falls (inr p) =
        heeds.held ∙ by_start reported p.0 p.1 goes
        ∙ sym (ap (λ f. if f then acks_until w.seats.items r.bits.items w.time else held_in w.seats.items r.place r.fall r.bits.items) (no_fall p.0)
        ∙ ap (λ q. held_in w.seats.items q r.fall r.bits.items) p.0)

-- an ending kept
pub kept_end : (o : Option Ending_kept) → (o ≡ None) ⊎ ((e : Ending_kept) × (o ≡ Some e))
kept_end None = inl refl
kept_end (Some e) = inr (e, refl)

later_told : (past later : List Stretch) (w v : EdgeWire) (reported : Told) (lowb falls : Bool) (low : Line) → IsBegunWith past w → w.begin < w.time → Ticks w v reported lowb falls → IsWave (past ++ later) → All (λ p. w.time + 1 ≤ p.from) later
    → IsRoundLine w.seats.items w.begin (past ++ later) low → told_of low w.begin w.time ≡ lowb → FallsSo w.receiver (told_of low w.begin) w.time falls
    → IsAt w.seats.items w.begin v.receiver v.senders.items v.bits.items (end_in v.ended) v.held (told_of low w.begin) (w.time + 1)
later_told past later w v reported lowb falls low b after k wave late line told_is so = by_kept (kept_end w.ended)
  where
    told : Line
    told = told_of low w.begin

    s : StandsOnLine w low
    s = b.stands after later low wave (later_sooner w.time (w.time + 1) later (omega arith) late) line

    stood : StandsOn v.receiver told w.time × (reported ≡ reported_at told w.time)
    stood = k.stands told s.at.stood told_is (wakes_ahead w.receiver told w.time s.at.stood)

    heard : reported_so (heard_by v.receiver) reported ≡ hear_in w.time (was_low told w.time) (told w.time) (heard_by w.receiver)
    heard = k.heard ∙ ap (λ c. hear_in w.time c lowb (heard_by w.receiver)) s.at.stood.level ∙ ap (λ c. hear_in w.time (was_low told w.time) c (heard_by w.receiver)) (sym told_is)

    over : (e : Ending_kept) → w.ended ≡ Some e → IsAt w.seats.items w.begin v.receiver v.senders.items v.bits.items (end_in v.ended) v.held told (w.time + 1)
    over e h =
        let o = k.over e h in
        subst (λ (os : List (Option Sender)). IsAt w.seats.items w.begin v.receiver os v.bits.items (end_in v.ended) v.held told (w.time + 1)) (sym o.senders)
        (is_at_same w.seats.items w.begin v.receiver w.senders.items w.bits.items v.bits.items (Some (end_of e)) (end_in v.ended) w.held v.held told (w.time + 1) o.bits (ap end_in (o.ended ∙ h)) o.held
        (tick_after w.seats.items w.begin w.receiver v.receiver w.senders.items w.bits.items (end_of e) w.held told w.time
        (subst (λ (x : Option Ending_kept). IsAt w.seats.items w.begin w.receiver w.senders.items w.bits.items (end_in x) w.held told w.time) h s.at) stood.0))

    runs : w.ended ≡ None → IsAt w.seats.items w.begin v.receiver v.senders.items v.bits.items (end_in v.ended) v.held told (w.time + 1)
    runs h = by_told reported refl
      where
        at : IsAt w.seats.items w.begin w.receiver w.senders.items w.bits.items None w.held told w.time
        at = subst (λ (x : Option Ending_kept). IsAt w.seats.items w.begin w.receiver w.senders.items w.bits.items (end_in x) w.held told w.time) h s.at

        heeds : Heeds w reported falls (until_by w.receiver None w.time) v
        heeds = k.runs h

        kept : (x : Told) → reported ≡ x → AreSenders w.seats.items w.begin v.senders.items
        kept Nothing e = subst (λ (os : List (Option Sender)). AreSenders w.seats.items w.begin os) (sym (heeds.quiet e)) at.whose
        kept (Bit slot value) e = senders_kept w.seats.items w.begin reported w.time w.senders.items v.senders.items (heeds.each (λ z. let y : Bit slot value ≡ Nothing = sym e ∙ z in cc)) at.whose
        kept (Last value ending) e = senders_kept w.seats.items w.begin reported w.time w.senders.items v.senders.items (heeds.each (λ z. let y : Last value ending ≡ Nothing = sym e ∙ z in cc)) at.whose
        kept (Ended ending) e = senders_kept w.seats.items w.begin reported w.time w.senders.items v.senders.items (heeds.each (λ z. let y : Ended ending ≡ Nothing = sym e ∙ z in cc)) at.whose

        ticked : Ticked w.seats.items w.begin w.receiver v.receiver reported w.senders.items v.senders.items told w.time
        ticked = record { stands = stood.0; reported_is = stood.1; heard = heard; whose = kept reported refl; quiet = heeds.quiet; each = heeds.each }

        goes : goes_on reported ≡ true → ended_by reported w.time (until_by w.receiver None w.time) ≡ None → IsAt w.seats.items w.begin v.receiver v.senders.items v.bits.items (end_in v.ended) v.held told (w.time + 1)
        goes g n =
            is_at_same w.seats.items w.begin v.receiver v.senders.items (w.bits.items ++ bits_in reported) v.bits.items None (end_in v.ended) (held_in w.seats.items v.receiver.place v.receiver.fall v.receiver.bits.items) v.held told (w.time + 1)
            heeds.bits (heeds.ended ∙ n) (goes_held w v reported falls told h at heeds heard so g)
            (tick_goes w.seats.items w.begin w.receiver v.receiver reported w.senders.items v.senders.items w.bits.items w.held told w.time at ticked g)

        ends : (ending : Ending) → ends_as reported ≡ Some ending → ended_by reported w.time (until_by w.receiver None w.time) ≡ Some (record { ending = ending; at = w.time; until = until_by w.receiver None w.time })
            → held_by w reported falls ≡ held_from w.seats.items w.bits.items reported w.held w.time → IsAt w.seats.items w.begin v.receiver v.senders.items v.bits.items (end_in v.ended) v.held told (w.time + 1)
        ends ending g n m =
            is_at_same w.seats.items w.begin v.receiver v.senders.items (w.bits.items ++ bits_in reported) v.bits.items (Some (record { ending = ending; at = w.time; until = until_by w.receiver None w.time })) (end_in v.ended)
            (held_from w.seats.items w.bits.items reported w.held w.time) v.held told (w.time + 1)
            heeds.bits (heeds.ended ∙ n) (heeds.held ∙ m)
            (tick_over w.seats.items w.begin w.receiver v.receiver reported w.senders.items v.senders.items w.bits.items w.held told w.time ending at ticked g)

        by_told : (x : Told) → reported ≡ x → IsAt w.seats.items w.begin v.receiver v.senders.items v.bits.items (end_in v.ended) v.held told (w.time + 1)
        by_told Nothing e = goes (ap goes_on e) (ap (λ y. ended_by y w.time (until_by w.receiver None w.time)) e)
        by_told (Bit slot value) e = goes (ap goes_on e) (ap (λ y. ended_by y w.time (until_by w.receiver None w.time)) e)
        by_told (Last value ending) e =
            ends ending (ap ends_as e) (ap (λ y. ended_by y w.time (until_by w.receiver None w.time)) e) (ap (λ y. held_by w y falls) e ∙ sym (ap (λ y. held_from w.seats.items w.bits.items y w.held w.time) e))
        by_told (Ended ending) e =
            ends ending (ap ends_as e) (ap (λ y. ended_by y w.time (until_by w.receiver None w.time)) e)
            (ap (λ y. held_by w y falls) e
            ∙ ap (λ c. if is_short ending && c then w.time + 3600 else w.held) (followers_are_heard w.seats.items w.begin w.receiver w.senders.items w.bits.items w.held told w.time at).1
            ∙ sym (ap (λ y. held_from w.seats.items w.bits.items y w.held w.time) e))

    by_kept : (w.ended ≡ None) ⊎ ((e : Ending_kept) × (w.ended ≡ Some e)) → IsAt w.seats.items w.begin v.receiver v.senders.items v.bits.items (end_in v.ended) v.held told (w.time + 1)
    by_kept (inl h) = runs h
    by_kept (inr h) = over h.0 h.1

-- ---- both

yes_so : (a : Bool) → (a || true) ≡ true
yes_so true = refl
yes_so false = refl

or_no : (a b : Bool) → b ≡ false → (a || b) ≡ a
or_no true b e = refl
or_no false b e = e

-- what the tick says of each line that the round can have
pub some_told : (past : List Stretch) (w v : EdgeWire) (reported : Told) → IsBegunWith past w → is_told_in w (is_low_in w) (pulls_in w) ≡ true
    → Ticks w v reported (pulls_in w || (w.time == w.begin)) (pulls_in w && not (is_low_in w))
    → EachLine w.seats.items w.begin past (w.time + 1) (λ low. IsAt w.seats.items w.begin v.receiver v.senders.items v.bits.items (end_in v.ended) v.held (told_of low w.begin) (w.time + 1))
some_told past w v reported b why k later low wave late line = elim (cases_lt w.begin w.time) [
  | inl lt ↦ after lt
  | inr ge ↦ first (let f = b.from in omega (arith, ge, f))
]
  where
    first : w.time ≡ w.begin → IsAt w.seats.items w.begin v.receiver v.senders.items v.bits.items (end_in v.ended) v.held (told_of low w.begin) (w.time + 1)
    first e =
        let x : (w.time == w.begin) ≡ true = grind (arith, nat_tests) in
        first_told past later w v reported (pulls_in w && not (is_low_in w)) low b e (subst (λ c. Ticks w v reported c (pulls_in w && not (is_low_in w))) (ap (λ c. pulls_in w || c) x ∙ yes_so (pulls_in w)) k) line

    after : w.begin < w.time → IsAt w.seats.items w.begin v.receiver v.senders.items v.bits.items (end_in v.ended) v.held (told_of low w.begin) (w.time + 1)
    after lt = later_told past later w v reported (pulls_in w || (w.time == w.begin)) (pulls_in w && not (is_low_in w)) low b lt k wave late line told_is falls_so
      where
        s : StandsOnLine w low
        s = b.stands lt later low wave (later_sooner w.time (w.time + 1) later (omega arith) late) line

        not_begin : (w.time == w.begin) ≡ false
        not_begin = grind (arith, nat_tests)

        low_is : low w.time ≡ pulls_in w
        low_is = low_next past w b later low wave late line

        reason : (low w.time ≡ not (was_low low w.time)) ⊎ (wake_of (heard_by w.receiver) ≡ Some w.time)
        reason = by_why (not (beq (pulls_in w) (is_low_in w))) refl (sym (ap (λ c. c || (not (beq (pulls_in w) (is_low_in w)) || wakes_in (wake_of (heard_by w.receiver)) w.time)) not_begin) ∙ why)
          where
            by_why : (c : Bool) → not (beq (pulls_in w) (is_low_in w)) ≡ c → (c || wakes_in (wake_of (heard_by w.receiver)) w.time) ≡ true
                → (low w.time ≡ not (was_low low w.time)) ⊎ (wake_of (heard_by w.receiver) ≡ Some w.time)
            by_why true h g = inl (low_is ∙ other_by (pulls_in w) (is_low_in w) h ∙ ap not (sym s.records.was))
            by_why false h g = inr (wakes_so (wake_of (heard_by w.receiver)) w.time g)

        told_same : told_of low w.begin w.time ≡ low w.time
        told_same = told_now low w.begin w.receiver w.time s.at.once s.at.stood lt reason

        told_is : told_of low w.begin w.time ≡ (pulls_in w || (w.time == w.begin))
        told_is = told_same ∙ low_is ∙ sym (or_no (pulls_in w) (w.time == w.begin) not_begin)

        falls_so : FallsSo w.receiver (told_of low w.begin) w.time (pulls_in w && not (is_low_in w))
        falls_so = by_was (told_before_now low w.begin w.time s.at.once lt)
          where
            by_was : (was_low (told_of low w.begin) w.time ≡ was_low low w.time) ⊎ (hears (told_of low w.begin) w.time ≡ record { place = StartLow; begin = w.begin; fall = 0; bits = [] })
                → ((pulls_in w && not (is_low_in w)) ≡ (told_of low w.begin w.time && not (was_low (told_of low w.begin) w.time))) ⊎ ((w.receiver.place ≡ StartLow) × (w.receiver.bits.items ≡ []))
            by_was (inl e) = inl (ap (λ c. c && not (is_low_in w)) (sym low_is ∙ sym told_same) ∙ ap (λ c. told_of low w.begin w.time && not c) (sym s.records.was ∙ sym e))
            by_was (inr e) =
                let h : heard_by w.receiver ≡ record { place = StartLow; begin = w.begin; fall = 0; bits = [] } = s.at.stood.keeps ∙ before_heard (told_of low w.begin) w.time ∙ e in
                inr (ap (λ (x : Hears). x.place) h, ap (λ (x : Hears). x.bits) h)

-- by what the code found
pub tells_none : (past : List Stretch) (w : EdgeWire) (was is_low told : Bool) → IsBegunWith past w → was ≡ is_low_in w → is_low ≡ pulls_in w → told ≡ is_told_in w was is_low → told ≡ false
    → EachLine w.seats.items w.begin past (w.time + 1) (λ low. (low w.time ≡ is_low) × IsToldNext w w (told_of low w.begin))
tells_none past w was is_low told b e f g h later low wave late line =
    (low_next past w b later low wave late line ∙ sym f, none_told past w b (ap (λ c. is_told_in w c (pulls_in w)) (sym e) ∙ ap (λ c. is_told_in w was c) (sym f) ∙ sym g ∙ h) later low wave late line)

pub tells_some : (past : List Stretch) (w v : EdgeWire) (reported : Told) (was is_low told lowb falls : Bool) → IsBegunWith past w → was ≡ is_low_in w → is_low ≡ pulls_in w → told ≡ is_told_in w was is_low → told ≡ true
    → lowb ≡ (is_low || (w.time == w.begin)) → falls ≡ (is_low && not was) → Ticks w v reported lowb falls
    → EachLine w.seats.items w.begin past (w.time + 1) (λ low. (low w.time ≡ is_low) × IsToldNext w v (told_of low w.begin))
tells_some past w v reported was is_low told lowb falls b e f g h k m ticks later low wave late line = (
  low_next past w b later low wave late line ∙ sym f,
  some_told past w v reported b (ap (λ c. is_told_in w c (pulls_in w)) (sym e) ∙ ap (λ c. is_told_in w was c) (sym f) ∙ sym g ∙ h)
      (subst (λ c. Ticks w v reported c (pulls_in w && not (is_low_in w))) (k ∙ ap (λ c. c || (w.time == w.begin)) f)
      (subst (λ c. Ticks w v reported lowb c) (m ∙ ap (λ c. c && not was) f ∙ ap (λ c. pulls_in w && not c) e) ticks)) later low wave late line,
)
