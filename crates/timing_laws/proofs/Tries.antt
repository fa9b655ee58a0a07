-- The attempts that an audit counts in a run without pulses.
use Rattle.std.proofs.Common.{◌≡◌, ◌≢◌, ℕ, zero, suc, ◌+◌, ◌-◌, ◌*◌, ◌/◌, ◌==◌, ◌<◌, ◌≤◌, Bool, true, false, not, ◌&&◌, ◌||◌, nat_le, nat_lt, if◌then◌else◌, List, [], ◌∷◌, ◌++◌, length, slice_index_or, slice_set, map, ◌⊎◌, inl, inr, Option, Some, None, is_some, refl, arith, ap, ◌∙◌, sym, subst}
use Rattle.std.specs.List.{filter, list_any, cons_option}
use Rattle.std.proofs.lemmas.Bool.{cases_lt, false≢true}
use Rattle.std.proofs.lemmas.Bool.Decides.{nat_tests}
use mathlib.Core.Bool.{beq}
use Rattle.line_wave.specs.declared.Edge.{Edge}
use Rattle.line_wave.specs.declared.Stretch.{Stretch}
use Rattle.line_frames.specs.declared.Ending.{Ending}
use Rattle.line_frames.specs.declared.Ending.TheVariants.{Complete, Short, Silent, BadStart, Long, Open}
use Rattle.line_frames.specs.Bits.{frame_bits}
use Rattle.line_reading.specs.Reading.{first_in}
use Rattle.line_reading.specs.Readings.{Listed}
use Rattle.capture_core.specs.Edges.{edges_of}
use Rattle.audit_widths.specs.declared.low.Low.{Low as LowOf}
use Rattle.audit_widths.specs.Spreads.{sum_of}
use Rattle.audit_remarks.specs.declared.attempts.Attempts.{Attempts}
use Rattle.audit_remarks.specs.declared.attempts.LastFrame.{LastFrame}
use Rattle.audit_remarks.specs.declared.free.Previous.{Previous}
use Rattle.audit_remarks.specs.Attempts.{after_attempt, attempt_after, attempt_of, earlier_of, failure_at, failure_of, repeats, same_from, since_with}
use Rattle.audit_remarks.specs.Free.{before_of, final_bit, free_before, is_bad_start, is_over}
use Rattle.audit_remarks.specs.Header.{failed_block, initiator_of, is_poll, is_taken, seeks_address}
use Rattle.audit_core.specs.Audit.{Tape, after, come_to, first_tape, lows_of}
use Rattle.line_rounds.specs.declared.Seat.{Seat}
use Rattle.line_rounds.specs.declared.Outcome.{Outcome}
use Rattle.line_rounds.specs.Alone.{outcome_listed}
use Rattle.line_rounds.specs.Round.{IsRound, frames_of}
use Rattle.device_core.specs.declared.device.Queued.{Queued}
use Rattle.line_frames.specs.declared.free_time.FreeTime.TheVariants.{Retry}
use Rattle.device_core.specs.Place.{front_by, front_of, polled_at}
use Rattle.device_core.specs.State.{State}
use Rattle.room_net.specs.Apply.{net_after}
use Rattle.room_net.specs.Framed.{AreFramed}
use Rattle.room_net.specs.Line.{Move, Happens, Goes, GoesFrom, Moves, rounds_of, run_wave}
use Rattle.room_net.specs.Start.{contends, first_onset, least_start, sooner}
use Rattle.room_net.specs.State.{NetState, next_start}
use Rattle.room_net.specs.Step.{after_round, is_sent, seat_of, seats_of, sent_in}
use Rattle.timing_laws.specs.Attempts.{AreOfSix, IsOfSix}
use Rattle.timing_laws.proofs.Nominal.{LastStarts, last_starts}
use Rattle.timing_laws.proofs.Runs.{AreTimed, In, IsLed, OldBefore, come_here, event_keeps, final_by_round, framed-applied, framed-round, leads, old_before, rested_after, runs_are_timed, seats_fit}
use Rattle.timing_laws.proofs.Waits.{AreKept, Counted, IsFront, IsKept, all_late, kept-applied, kept-round, started_again}

-- ---- what is kept of frames

-- none began later than `until`, and those since an instant are of so many attempts
abbrev OneBounded : ℕ → ℕ → ℕ → Option LastFrame → Type 0
OneBounded since most until None = Unit {0}
OneBounded since most until (Some e) = (e.begin ≤ until) × (since ≤ e.begin → e.attempt ≤ most)

abbrev AllBounded : ℕ → ℕ → ℕ → List (Option LastFrame) → Type 0
AllBounded since most until [] = Unit {0}
AllBounded since most until (x ∷ xs) = OneBounded since most until x × AllBounded since most until xs

abbrev pub IsBounded : ℕ → ℕ → Attempts → Type 0
IsBounded most until a = AllBounded a.since most until a.last

bounded_at : (since most until : ℕ) (xs : List (Option LastFrame)) → AllBounded since most until xs → (i : ℕ) → OneBounded since most until (slice_index_or xs i None)
bounded_at since most until [] h i = tt
bounded_at since most until (x ∷ xs) h zero = h.0
bounded_at since most until (x ∷ xs) h (suc i) = bounded_at since most until xs h.1 i

bounded_set : (since most until : ℕ) (xs : List (Option LastFrame)) → AllBounded since most until xs → (i : ℕ) (x : Option LastFrame) → OneBounded since most until x → AllBounded since most until (slice_set xs i x)
bounded_set since most until [] h i x k = tt
bounded_set since most until (y ∷ xs) h zero x k = (k, h.1)
bounded_set since most until (y ∷ xs) h (suc i) x k = (h.0, bounded_set since most until xs h.1 i x k)

record Weaker (since most until from now later : ℕ) : Type 0 where
  span : until ≤ later
  count : (b n : ℕ) → b ≤ until → (since ≤ b → n ≤ most) → from ≤ b → n ≤ now

one_weaker : (since most until from now later : ℕ) → Weaker since most until from now later → (x : Option LastFrame) → OneBounded since most until x → OneBounded from now later x
one_weaker since most until from now later w None h = tt
one_weaker since most until from now later w (Some e) h = (let a = h.0 in let b = w.span in omega (arith, a, b), w.count e.begin e.attempt h.0 h.1)

all_weaker : (since most until from now later : ℕ) → Weaker since most until from now later → (xs : List (Option LastFrame)) → AllBounded since most until xs → AllBounded from now later xs
all_weaker since most until from now later w [] h = tt
all_weaker since most until from now later w (x ∷ xs) h = (one_weaker since most until from now later w x h.0, all_weaker since most until from now later w xs h.1)

-- ---- which attempt a reading is

one_of : (t n r : Bool) (attempt most : ℕ) → (n ≡ true → attempt ≤ most) → (if t && (n && r) then sum_of attempt 1 else 1) ≤ most + 1
one_of true true true attempt most h = let l = h refl in omega (arith, l)
one_of true true false attempt most h = omega arith
one_of true false r attempt most h = omega arith
one_of false n r attempt most h = omega arith

attempt_bound : (since most until : ℕ) (bits : List Bool) (o : Option LastFrame) → OneBounded since most until o → attempt_after since bits o ≤ most + 1
attempt_bound since most until bits None h = omega arith
attempt_bound since most until bits (Some e) h =
    one_of (not e.taken) (nat_le since e.begin) (repeats e.bits.items bits) e.attempt most (λ n. h.1 (let l : since ≤ e.begin = grind (arith, nat_tests) in l))

-- the first one
first_of : (t n r : Bool) (attempt : ℕ) → (n && r) ≡ false → (if t && (n && r) then sum_of attempt 1 else 1) ≤ 1
first_of true true true attempt h = absurd (false≢true (sym h))
first_of true true false attempt h = omega arith
first_of true false r attempt h = omega arith
first_of false n r attempt h = omega arith

and_none : (a b : Bool) → a ≡ false → (a && b) ≡ false
and_none true b h = absurd (false≢true (sym h))
and_none false b h = refl

none_and : (a b : Bool) → b ≡ false → (a && b) ≡ false
none_and true b h = h
none_and false b h = refl

attempt_first : (since most until from : ℕ) (bits : List Bool) (o : Option LastFrame) → OneBounded since most until o → until < from → attempt_after from bits o ≤ 1
attempt_first since most until from bits None h l = omega arith
attempt_first since most until from bits (Some e) h l =
    let past : nat_le from e.begin ≡ false = (let b = h.0 in grind (arith, nat_tests)) in
    first_of (not e.taken) (nat_le from e.begin) (repeats e.bits.items bits) e.attempt (and_none (nat_le from e.begin) (repeats e.bits.items bits) past)

-- a poll repeats nothing
no_poll : (a p s : Bool) → p ≡ true → (not (a || p) && s) ≡ false
no_poll true p s h = refl
no_poll false true s h = refl
no_poll false false s h = absurd (false≢true h)

attempt_poll : (since : ℕ) (bits : List Bool) (o : Option LastFrame) → is_poll bits ≡ true → attempt_after since bits o ≤ 1
attempt_poll since bits None h = omega arith
attempt_poll since bits (Some e) h =
    first_of (not e.taken) (nat_le since e.begin) (repeats e.bits.items bits) e.attempt
    (none_and (nat_le since e.begin) (repeats e.bits.items bits) (no_poll (is_poll e.bits.items) (is_poll bits) (same_from 0 e.bits.items bits) h))

-- ---- a reading

-- how many attempts frames have had after it
abbrev pub count_after : Bool → ℕ → ℕ
count_after soon most = if soon then most + 1 else 1

abbrev since_by : Bool → ℕ → ℕ → ℕ
since_by soon since begin = if soon then since else begin

weaker_by : (soon : Bool) (since most until begin later : ℕ) → until < begin → begin ≤ later → Weaker since most until (since_by soon since begin) (count_after soon most) later
weaker_by true since most until begin later l k = record { span = omega (arith, l, k); count = λ b n a f g. (let m = f g in omega (arith, m)) }
weaker_by false since most until begin later l k = record { span = omega (arith, l, k); count = λ b n a f g. absurd (omega (arith, a, g, l)) }

attempt_by : (soon : Bool) (since most until begin : ℕ) (bits : List Bool) (o : Option LastFrame) → OneBounded since most until o → until < begin → attempt_after (since_by soon since begin) bits o ≤ count_after soon most
attempt_by true since most until begin bits o h l = attempt_bound since most until bits o h
attempt_by false since most until begin bits o h l = attempt_first since most until begin bits o h l

either_bounded : (most until : ℕ) (b : Bool) (x y : Attempts) → IsBounded most until x → IsBounded most until y → IsBounded most until (if b then x else y)
either_bounded most until true x y h k = h
either_bounded most until false x y h k = k

no_bad_start : (ending : Ending) → ending ≢ BadStart → is_bad_start ending ≡ false
no_bad_start Complete h = refl
no_bad_start Short h = refl
no_bad_start Silent h = refl
no_bad_start BadStart h = absurd (h refl)
no_bad_start Long h = refl
no_bad_start Open h = refl

bounded_after : (a : Attempts) (x : Listed) (free most until later : ℕ) → x.reported.ending ≢ BadStart → IsBounded most until a → until < x.begin → x.begin ≤ later
    → IsBounded (count_after (nat_lt free 12000) most) later (after_attempt a x free)
bounded_after a x free most until later begun h l k =
    subst (λ (b : Bool). IsBounded (count_after (nat_lt free 12000) most) later (if b then a else if nat_lt (length x.reported.bits) 8 || seeks_address x.reported.bits then none else one)) (sym (no_bad_start x.reported.ending begun))
    (either_bounded (count_after (nat_lt free 12000) most) later (nat_lt (length x.reported.bits) 8 || seeks_address x.reported.bits) none one same
    (bounded_set (since_with a x.begin free) (count_after (nat_lt free 12000) most) later a.last same (initiator_of x.reported.bits) (Some (earlier_of a x free)) (k, λ s. attempt)))
  where
    none : Attempts
    none = record { since = since_with a x.begin free; last = a.last }

    one : Attempts
    one = record { since = since_with a x.begin free; last = slice_set a.last (initiator_of x.reported.bits) (Some (earlier_of a x free)) }

    same : AllBounded (since_with a x.begin free) (count_after (nat_lt free 12000) most) later a.last
    same = all_weaker a.since most until (since_with a x.begin free) (count_after (nat_lt free 12000) most) later (weaker_by (nat_lt free 12000) a.since most until x.begin later l k) a.last h

    attempt : attempt_of a x.begin free x.reported.bits ≤ count_after (nat_lt free 12000) most
    attempt = attempt_by (nat_lt free 12000) a.since most until x.begin x.reported.bits (slice_index_or a.last (initiator_of x.reported.bits) None) (bounded_at a.since most until a.last h (initiator_of x.reported.bits)) l

-- ---- what is remarked

six : (a : Attempts) (begin free : ℕ) (bits : List Bool) → attempt_of a begin free bits ≤ 6 → IsOfSix (failure_of a begin free bits)
six a begin free bits h = by (seeks_address bits) (failed_block bits)
  where
    by : (seeks : Bool) (block : Option ℕ) → IsOfSix (if seeks then None else failure_at (attempt_of a begin free bits) bits block)
    by true block = tt
    by false None = tt
    by false (Some block) = h

first_none : (test : ℕ → Bool) (count : ℕ) → count ≡ 0 → first_in test 1 count ≡ None
unfolding first_in
first_none test zero e = refl
first_none test (suc count) e = absurd (omega (arith, e))

no_block : (a : Attempts) (begin free : ℕ) (bits : List Bool) → length bits < 10 → IsOfSix (failure_of a begin free bits)
no_block a begin free bits h =
    subst (λ (o : Option ℕ). IsOfSix (if seeks_address bits then None else failure_at (attempt_of a begin free bits) bits o))
    (sym (first_none (λ block. not (is_taken bits block)) (length bits / 10) (omega (arith, h)))) (by (seeks_address bits))
  where
    by : (seeks : Bool) → IsOfSix (if seeks then None else failure_at (attempt_of a begin free bits) bits None)
    by true = tt
    by false = tt

-- ---- who sends

-- more than a poll
abbrev is_long : Option (List ℕ) → Bool
is_long None = false
is_long (Some f) = not (length f == 1)

abbrev long_in : ℕ → ℕ → List State → Bool
long_in rest begin xs = list_any (λ d. is_long (sent_in rest begin d)) xs

not_false : (b : Bool) → not b ≡ true → b ≡ false
not_false true h = absurd (false≢true h)
not_false false h = refl

long_here : (rest begin most : ℕ) (d : State) → IsKept rest most d → begin < rest + 12000 → is_long (sent_in rest begin d) ≡ true → most ≤ 5
long_here rest begin most d h l long = by (contends rest begin d) refl long
  where
    by_front : contends rest begin d ≡ true → (p : Option ℕ) (queue : List Queued) → polled_at d.place ≡ p → d.queue ≡ queue → is_long (front_by p queue) ≡ true → most ≤ 5
    by_front c (Some a) queue p e k = absurd (false≢true k)
    by_front c None [] p e k = absurd (false≢true k)
    by_front c None (q ∷ queue) p e k =
        let again : d.class ≡ Retry = started_again rest begin d c l in
        let front : IsFront rest most d.attempts (q ∷ queue) = subst (λ (xs : List Queued). IsFront rest most d.attempts xs) e (h.front again (ap is_some p)) in
        let enough : most ≤ d.attempts = front.1 (not_false (length q.frame == 1) k) in
        let few = h.few in
        omega (arith, enough, few)

    by : (c : Bool) → contends rest begin d ≡ c → is_long (if c then front_of d else None) ≡ true → most ≤ 5
    by true c k = by_front c (polled_at d.place) d.queue refl refl k
    by false c k = absurd (false≢true k)

long_bound : (rest begin most : ℕ) (xs : List State) → AreKept rest most xs → begin < rest + 12000 → long_in rest begin xs ≡ true → most ≤ 5
long_bound rest begin most [] h l long = absurd (false≢true long)
long_bound rest begin most (x ∷ xs) h l long = by (is_long (sent_in rest begin x)) refl long (λ k. long_bound rest begin most xs h.1 l k)
  where
    by : (b : Bool) → is_long (sent_in rest begin x) ≡ b → (b || long_in rest begin xs) ≡ true → (long_in rest begin xs ≡ true → most ≤ 5) → most ≤ 5
    by true e k more = long_here rest begin most x h.0 l e
    by false e k more = more k

one_block : (f : List ℕ) → not (length f == 1) ≡ false → length f ≡ 1
one_block f h = by (length f == 1) refl h
  where
    by : (b : Bool) → (length f == 1) ≡ b → not b ≡ false → length f ≡ 1
    by true e k = grind (arith, nat_tests)
    by false e k = absurd (false≢true (sym k))

or_left_none : (a b : Bool) → (a || b) ≡ false → a ≡ false
or_left_none true b h = absurd (false≢true (sym h))
or_left_none false b h = refl

or_right_none : (a b : Bool) → (a || b) ≡ false → b ≡ false
or_right_none true b h = absurd (false≢true (sym h))
or_right_none false b h = h

all_polls : (rest begin : ℕ) (xs : List State) → long_in rest begin xs ≡ false → (f : List ℕ) → In f (frames_of (map (seat_of rest begin) xs)) → length f ≡ 1
all_polls rest begin [] h f i = absurd i
all_polls rest begin (x ∷ xs) h f i =
    by (sent_in rest begin x) (or_left_none (is_long (sent_in rest begin x)) (long_in rest begin xs) h) i
    (λ k. all_polls rest begin xs (or_right_none (is_long (sent_in rest begin x)) (long_in rest begin xs) h) f k)
  where
    by : (o : Option (List ℕ)) → is_long o ≡ false → In f (cons_option o (frames_of (map (seat_of rest begin) xs))) → (In f (frames_of (map (seat_of rest begin) xs)) → length f ≡ 1) → length f ≡ 1
    by None e k more = more k
    by (Some g) e (inl same) more = ap length same ∙ one_block g e
    by (Some g) e (inr k) more = more k

-- ---- a poll is read as one

poll_bit : (f : List ℕ) → length f ≡ 1 → slice_index_or (frame_bits f) 8 false ≡ true
poll_bit [] h = absurd (omega (arith, h))
poll_bit (b ∷ []) h = refl
poll_bit (b ∷ c ∷ f) h = absurd (omega (arith, h))

front_bit : (xs ys : List Bool) (i : ℕ) → i < length xs → slice_index_or (xs ++ ys) i false ≡ slice_index_or xs i false
front_bit [] ys i h = absurd (omega (arith, h))
front_bit (x ∷ xs) ys zero h = refl
front_bit (x ∷ xs) ys (suc i) h = front_bit xs ys i (omega (arith, h))

same_true : (x y : Bool) → not (beq x y) ≡ false → y ≡ true → x ≡ true
same_true true y h e = refl
same_true false true h e = absurd (false≢true (sym h))
same_true false false h e = e

poll_read : (seats : List Seat) (bits : List Bool) → LastStarts seats bits → ((f : List ℕ) → In f (frames_of seats) → length f ≡ 1) → (length bits < 10) ⊎ (is_poll bits ≡ true)
poll_read seats bits s polls = elim (cases_lt (length s.before) 9) [
  | inl short ↦ inl (let n = counts in omega (arith, n, short))
  | inr long ↦ inr (
      ap (λ (xs : List Bool). slice_index_or xs 8 false) s.all ∙ front_bit s.before (s.last ∷ []) 8 (omega (arith, long))
      ∙ same_true (slice_index_or s.before 8 false) (slice_index_or (frame_bits s.starts.frame) 8 false) (s.starts.stays 9 (omega arith) long) (poll_bit s.starts.frame (polls s.starts.frame s.starts.among))
      )
]
  where
    counts : length bits ≡ length s.before + 1
    counts = ap length s.all ∙ more s.before
      where
        more : (xs : List Bool) → length (xs ++ s.last ∷ []) ≡ length xs + 1
        more [] = refl
        more (x ∷ xs) = let m = more xs in omega (arith, m)

-- ---- a run

least_is : (s : NetState) (begin : ℕ) → s.pulses ≡ [] → next_start s ≡ Some begin → least_start s.rest s.devices ≡ Some begin
least_is s begin none next = by (least_start s.rest s.devices) (ap (λ (ps : List Stretch). sooner (least_start s.rest s.devices) (first_onset ps)) (sym none) ∙ next)
  where
    by : (o : Option ℕ) → sooner o None ≡ Some begin → o ≡ Some begin
    by None h = h
    by (Some t) h = h

-- a round, of which no attempt past the sixth is remarked
round_of_six : (s : NetState) (begin : ℕ) (o : Outcome) → AreFramed s → s.pulses ≡ [] → GoesFrom s begin o → (a : Attempts) (p : Previous) (most : ℕ) → AreKept s.rest most s.devices → IsBounded most s.rest a
    → s.rest < o.reading.begin → p.final_bit ≤ s.rest → IsOfSix (failure_of a o.reading.begin (free_before p o.reading.begin) o.reading.bits.items)
round_of_six s begin o framed none g a p most kept_all bounded late past = by (nat_lt (free_before p o.reading.begin) 12000) refl
  where
    bits : List Bool
    bits = o.reading.bits.items

    one : Option LastFrame
    one = slice_index_or a.last (initiator_of bits) None

    at : OneBounded a.since most s.rest one
    at = bounded_at a.since most s.rest a.last bounded (initiator_of bits)

    attempt_is : (soon : Bool) → nat_lt (free_before p o.reading.begin) 12000 ≡ soon → attempt_of a o.reading.begin (free_before p o.reading.begin) bits ≡ attempt_after (since_by soon a.since o.reading.begin) bits one
    attempt_is soon e = ap (λ (b : Bool). attempt_after (if b then a.since else o.reading.begin) bits one) e

    few : (soon : Bool) → nat_lt (free_before p o.reading.begin) 12000 ≡ soon → (n : ℕ) → attempt_after (since_by soon a.since o.reading.begin) bits one ≤ n → n ≤ 6
        → IsOfSix (failure_of a o.reading.begin (free_before p o.reading.begin) bits)
    few soon e n l m = six a o.reading.begin (free_before p o.reading.begin) bits (let same = attempt_is soon e in omega (arith, same, l, m))

    round : IsRound (seats_of s begin) begin [] o
    round = subst (λ (ps : List Stretch). IsRound (seats_of s begin) begin ps o) none g.round

    lead : IsLed s.rest begin s.devices
    lead = leads s begin none g.begins

    starts : LastStarts (seats_of s begin) bits
    starts = (last_starts (seats_of s begin) begin o (seats_fit s begin framed) round lead.sends).0

    soon_begin : nat_lt (free_before p o.reading.begin) 12000 ≡ true → begin < s.rest + 12000
    soon_begin e =
        let lt : free_before p o.reading.begin < 12000 = grind (arith, nat_tests) in
        let free : free_before p o.reading.begin ≡ o.reading.begin - p.final_bit = refl in
        let same : o.reading.begin ≡ begin = g.round.starts in
        omega (arith, lt, free, same, past)

    polls : nat_lt (free_before p o.reading.begin) 12000 ≡ true → (length bits < 10) ⊎ (is_poll bits ≡ true) → IsOfSix (failure_of a o.reading.begin (free_before p o.reading.begin) bits)
    polls e (inl short) = no_block a o.reading.begin (free_before p o.reading.begin) bits short
    polls e (inr poll) = few true e 1 (attempt_poll a.since bits one poll) (omega arith)

    by_long : nat_lt (free_before p o.reading.begin) 12000 ≡ true → (b : Bool) → long_in s.rest begin s.devices ≡ b → IsOfSix (failure_of a o.reading.begin (free_before p o.reading.begin) bits)
    by_long e true long =
        few true e (most + 1) (attempt_bound a.since most s.rest bits one at) (let l = long_bound s.rest begin most s.devices kept_all (soon_begin e) long in omega (arith, l))
    by_long e false short = polls e (poll_read (seats_of s begin) bits starts (all_polls s.rest begin s.devices short))

    by : (soon : Bool) → nat_lt (free_before p o.reading.begin) 12000 ≡ soon → IsOfSix (failure_of a o.reading.begin (free_before p o.reading.begin) bits)
    by true e = by_long e (long_in s.rest begin s.devices) refl
    by false e = few false e 1 (attempt_first a.since most s.rest o.reading.begin bits one at late) (omega arith)

pub runs_of_six : (s t : NetState) (ms : List Move) → AreFramed s → s.pulses ≡ [] → Moves s ms t → (tape : Tape) (old : List Edge) → tape.place ≡ old ++ edges_of (run_wave (rounds_of ms)) → OldBefore old (rounds_of ms)
    → (most : ℕ) → AreKept s.rest most s.devices → IsBounded most s.rest tape.attempts → tape.previous.final_bit ≤ s.rest → AreOfSix tape (map outcome_listed (rounds_of ms))
runs_of_six s t [] framed none m tape old left past most kept_all bounded final = tt
runs_of_six s t (Happens at event ∷ ms) framed none m tape old left past most kept_all bounded final =
    let rest : (net_after at event s).rest ≡ s.rest = (event_keeps at event s (net_after at event s) refl).rest in
    runs_of_six (net_after at event s) t ms (framed-applied at event s m.0 framed) ((event_keeps at event s (net_after at event s) refl).pulses ∙ none) m.1 tape old left past most
    (subst (λ (r : ℕ). AreKept r most (net_after at event s).devices) (sym rest) (kept-applied s.rest most at event s kept_all))
    (subst (λ (r : ℕ). IsBounded most r tape.attempts) (sym rest) bounded)
    (omega (arith, rest, final))
runs_of_six s t (Goes begin o ∷ ms) framed none m tape old left past most kept_all bounded final = (
  round_of_six s begin o framed none m.0 tape.attempts tape.previous most kept_all bounded (omega (arith, late, starts)) final,
  runs_of_six (after_round s begin o) t ms (framed-round s begin o framed) no_pulse m.1 (after x tape) (edges_of o.wave) here (old_before o (rounds_of ms) timed) now
      (kept-round s.rest begin most now o.rest 0 (is_sent s.rest begin o s.devices) o s.devices kept_all (all_late s.rest begin s.devices (least_is s begin none m.0.begins)) counted (omega (arith, low, starts)) late)
      (bounded_after tape.attempts x free most s.rest o.rest begun bounded (omega (arith, late, starts)) (omega (arith, low)))
      (past_bit (is_bad_start o.reading.ending) refl),
)
  where
    x : Listed
    x = outcome_listed o

    free : ℕ
    free = free_before tape.previous o.reading.begin

    now : ℕ
    now = count_after (nat_lt free 12000) most

    timed : AreTimed (o ∷ rounds_of ms)
    timed = runs_are_timed s t (Goes begin o ∷ ms) framed none m

    here : (come_to x tape).place ≡ edges_of o.wave ++ edges_of (run_wave (rounds_of ms))
    here = come_here o (rounds_of ms) timed tape old left past

    lead : IsLed s.rest begin s.devices
    lead = leads s begin none m.0.begins

    late : s.rest + 7200 ≤ begin
    late = lead.late

    starts : o.reading.begin ≡ begin
    starts = m.0.round.starts

    low : o.reading.begin + 2100 + 2400 * length o.reading.bits.items < o.rest
    low = (rested_after s begin o framed none m.0).low

    no_pulse : filter (λ p. nat_lt o.rest p.from) s.pulses ≡ []
    no_pulse = ap (filter (λ (p : Stretch). nat_lt o.rest p.from)) none

    round : IsRound (seats_of s begin) begin [] o
    round = subst (λ (ps : List Stretch). IsRound (seats_of s begin) begin ps o) none m.0.round

    begun : o.reading.ending ≢ BadStart
    begun = (last_starts (seats_of s begin) begin o (seats_fit s begin framed) round lead.sends).1

    counted : Counted s.rest begin most now
    counted = by (nat_lt free 12000) refl
      where
        by : (soon : Bool) → nat_lt free 12000 ≡ soon → Counted s.rest begin most (count_after soon most)
        by true e =
            let lt : free < 12000 = grind (arith, nat_tests) in
            let is : free ≡ o.reading.begin - tape.previous.final_bit = refl in
            inr (omega (arith, lt, is, starts, final), omega arith)
        by false e = inl (omega arith)

    lows : List LowOf
    lows = lows_of x (come_to x tape).place

    past_bit : (bad : Bool) → is_bad_start o.reading.ending ≡ bad → (after x tape).previous.final_bit ≤ o.rest
    past_bit true e = absurd (false≢true (sym (no_bad_start o.reading.ending begun) ∙ e))
    past_bit false e =
        subst (λ (b : Bool). (let q : Previous = if b then tape.previous else record { frame = before_of o.reading.ending o.reading.bits.items; final_bit = final_bit x lows; whole = is_over o.reading.ending o.reading.bits.items } in q).final_bit ≤ o.rest) (sym e)
        (let f : final_bit x lows ≤ o.reading.begin + 2100 + 2400 * length o.reading.bits.items = final_by_round o (rounds_of ms) timed (come_to x tape).place here in omega (arith, f, low))

-- nothing is kept when an audit begins
pub first_of_six : (s t : NetState) (ms : List Move) → AreFramed s → s.pulses ≡ [] → Moves s ms t → AreKept s.rest 0 s.devices
    → AreOfSix (first_tape (edges_of (run_wave (rounds_of ms)))) (map outcome_listed (rounds_of ms))
first_of_six s t ms framed none m kept_all =
    runs_of_six s t ms framed none m (first_tape (edges_of (run_wave (rounds_of ms)))) [] refl (past (rounds_of ms)) 0 kept_all bounded (omega arith)
  where
    past : (os : List Outcome) → OldBefore [] os
    past [] = tt
    past (o ∷ os) = tt

    bounded : IsBounded 0 s.rest (first_tape (edges_of (run_wave (rounds_of ms)))).attempts
    bounded = (tt, (tt, (tt, (tt, (tt, (tt, (tt, (tt, (tt, (tt, (tt, (tt, (tt, (tt, (tt, (tt, tt))))))))))))))))
