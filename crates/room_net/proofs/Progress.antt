-- A round goes on from the one before.
use Rattle.std.proofs.Common.{◌≡◌, ℕ, ◌+◌, ◌==◌, ◌<◌, ◌≤◌, Bool, true, false, ◌&&◌, ◌||◌, nat_lt, nat_le, if◌then◌else◌, min, max, map, List, [], ◌∷◌, length, fold, inl, inr, Option, Some, None, IsSome, refl, sym, ap, ◌∙◌, subst, arith}
use Rattle.std.specs.List.{All, list_any, filter, cons_option, refill}
use Rattle.std.proofs.lemmas.Bool.{cases_lt}
use Rattle.std.proofs.lemmas.Bool.Decides.{nat_tests}
use Rattle.std.proofs.lemmas.List.Sums.{length-filter, count_by-le-length}
use Rattle.line_wave.specs.declared.Stretch.{Stretch}
use Rattle.line_wave.specs.Line.{Line, line_of, covers, was_low, IsWave, IsWaveFrom}
use Rattle.line_wave.specs.Bounds.{latest_instant}
use Rattle.line_wave.specs.Pulses.{AreSparse}
use Rattle.line_reading.specs.Reading.{Known, known_at, reading_of}
use Rattle.line_reading.proofs.Causes.{known_start_low}
use Rattle.line_reading.proofs.Ends.{begin_by}
use Rattle.line_rounds.specs.declared.Seat.{Seat}
use Rattle.line_rounds.specs.declared.Outcome.{Outcome}
use Rattle.line_reading.specs.Sending.{sender_pulls}
use Rattle.line_rounds.specs.Round.{IsRound, IsRoundLine, is_pulled, pulse_pulls, is_acknowledged, is_broken, frames_of, rest_of}
use Rattle.device_core.specs.State.{State}
use Rattle.device_core.specs.Place.{front_of, ready_of, is_on_wire, is_allocating}
use Rattle.line_frames.specs.FreeTime.{free_time_of}
use Rattle.line_frames.specs.declared.free_time.FreeTime.{FreeTime}
use Rattle.line_frames.specs.declared.free_time.FreeTime.TheVariants.{Retry, NewInitiator, PresentInitiator}
use Rattle.room_net.specs.Start.{next_turn, start_from, start_by, start_of, sooner, least_start, first_onset, is_at, contends}
use Rattle.room_net.specs.State.{NetState, next_start}
use Rattle.room_net.specs.Step.{sent_in, seat_of, seats_of, after_round}
use Rattle.room_net.specs.Progress.{ComeLater, IsGoing, IsProgress, RoundsGoOn}
use Rattle.room_net.proofs.Ahead.{front-ready}
use Rattle.line_rounds.proofs.Bounds.{rounds_are_short}
use Rattle.line_rounds.specs.Bounds.{longest_pulsed_round, longest_round}
use Rattle.room_net.proofs.Each.{refill-all, length-each_from}
use Rattle.room_net.specs.Step.{devices_after, device_after, is_sent}
use Rattle.room_net.specs.Sound.{EndsEarly, IsSound}
use Rattle.line_rounds.specs.Round.{close_in}
use Rattle.line_reading.specs.Known.{nothing}
use Rattle.line_rounds.specs.Elements.{In}
use Rattle.room_net.proofs.Lists.{any_in, in_any}

-- ---- the line is low at the begin

known_begin : (low : Line) (begin : ℕ) → known_at begin (reading_of low begin) ≡ nothing
known_begin low begin = known_start_low low begin begin (omega arith) (λ u a b. absurd (omega arith))

pub or_true : (a b : Bool) → b ≡ true → (a || b) ≡ true
or_true true b h = refl
or_true false b h = h

pub true_or : (a b : Bool) → a ≡ true → (a || b) ≡ true
true_or true b h = refl
true_or false b h = cc

low_by_sender : (seats : List Seat) (begin : ℕ) (pulses : List Stretch) (low : Line) → IsRoundLine seats begin pulses low → (f : List ℕ) → In f (frames_of seats) → low begin ≡ true
unfolding nothing
low_by_sender seats begin pulses low line f i =
    let c : covers (record { from = begin; to = begin + 3700 }) begin ≡ true = grind (arith, nat_tests) in
    let sends : sender_pulls begin nothing begin f ≡ true = rw c refl in
    let any : list_any (sender_pulls begin nothing begin) (frames_of seats) ≡ true = any_in (sender_pulls begin nothing begin) (frames_of seats) f i sends in
    let goes : (list_any (sender_pulls begin nothing begin) (frames_of seats) && true) ≡ true = rw any refl in
    line begin ∙ ap (λ (k : Known). is_pulled seats begin pulses (was_low low begin) k begin) (known_begin low begin)
    ∙ or_true (list_any (pulse_pulls begin nothing.ended (was_low low begin) begin) pulses)
    ((list_any (sender_pulls begin nothing begin) (frames_of seats) && true) || (is_acknowledged seats nothing begin || is_broken seats nothing begin nothing.ended))
    (true_or (list_any (sender_pulls begin nothing begin) (frames_of seats) && true) (is_acknowledged seats nothing begin || is_broken seats nothing begin nothing.ended) goes)

low_by_pulse : (seats : List Seat) (begin : ℕ) (p : Stretch) (pulses : List Stretch) (low : Line) → IsRoundLine seats begin (p ∷ pulses) low → p.from ≡ begin → begin < p.to → low begin ≡ true
unfolding nothing
low_by_pulse seats begin p pulses low line from to =
    let a : nat_le p.from begin ≡ true = grind (arith, nat_tests) in
    let b : nat_lt begin p.to ≡ true = grind (arith, nat_tests) in
    let c : nat_le begin p.from ≡ true = grind (arith, nat_tests) in
    let own : pulse_pulls begin nothing.ended (was_low low begin) begin p ≡ true = rw (a, b, c) refl in
    line begin ∙ ap (λ (k : Known). is_pulled seats begin (p ∷ pulses) (was_low low begin) k begin) (known_begin low begin)
    ∙ true_or (list_any (pulse_pulls begin nothing.ended (was_low low begin) begin) (p ∷ pulses))
    ((list_any (sender_pulls begin nothing begin) (frames_of seats) && true) || (is_acknowledged seats nothing begin || is_broken seats nothing begin nothing.ended))
    (true_or (pulse_pulls begin nothing.ended (was_low low begin) begin p) (list_any (pulse_pulls begin nothing.ended (was_low low begin) begin) pulses) own)

-- ---- the rest comes after it

pub wave-weaker : (a b : ℕ) (xs : List Stretch) → a ≤ b → IsWaveFrom b xs → IsWaveFrom a xs
wave-weaker a b [] l h = tt
wave-weaker a b (x ∷ xs) l h = (omega (arith, h.0), h.1, h.2)

-- the rest of these stretches, after `was`
abbrev rest_from : ℕ → ℕ → List Stretch → ℕ
rest_from until was ss = fold (λ rest s. if nat_le s.from until then s.to else rest) was ss

either_rest : (until : ℕ) (b : Bool) (was to : ℕ) (ss : List Stretch) → was ≤ to → to ≤ rest_from until to ss → was ≤ rest_from until was ss → was ≤ rest_from until (if b then to else was) ss
either_rest until true was to ss l h k = omega (arith, l, h)
either_rest until false was to ss l h k = k

rest_keeps : (until : ℕ) (ss : List Stretch) (was : ℕ) → IsWaveFrom was ss → was ≤ rest_from until was ss
rest_keeps until [] was w = omega arith
rest_keeps until (s ∷ ss) was w =
    either_rest until (nat_le s.from until) was s.to ss (omega (arith, w.0, w.1))
    (rest_keeps until ss s.to (wave-weaker s.to (s.to + 1) ss (omega arith) w.2))
    (rest_keeps until ss was (wave-weaker was (s.to + 1) ss (omega (arith, w.0, w.1)) w.2))

rest_after : (until : ℕ) (ss : List Stretch) (from was : ℕ) (s : Stretch) → IsWaveFrom from ss → In s ss → s.from ≤ until → s.to ≤ rest_from until was ss
rest_after until [] from was s w i h = absurd i
rest_after until (x ∷ ss) from was s w (inl e) h =
    let f : s.from ≡ x.from = ap (λ (q : Stretch). q.from) e in
    let t : nat_le x.from until ≡ true = grind (arith, nat_tests) in
    let keeps : x.to ≤ rest_from until x.to ss = rest_keeps until ss x.to (wave-weaker x.to (x.to + 1) ss (omega arith) w.2) in
    let same : s.to ≡ x.to = ap (λ (q : Stretch). q.to) e in
    let P : ℕ → Type 0 = λ v. s.to ≤ rest_from until v ss in
    subst P (sym (ap (λ b. if b then x.to else was) t)) (omega (arith, keeps, same))
rest_after until (x ∷ ss) from was s w (inr i) h = rest_after until ss (x.to + 1) (if nat_le x.from until then x.to else was) s w.2 i h

rest_low : (ss : List Stretch) (begin until : ℕ) → IsWave ss → line_of ss begin ≡ true → begin ≤ until → begin < rest_of until ss
rest_low ss begin until wave low le =
    let found = in_any (λ s. covers s begin) ss low in
    let a : found.0.from ≤ begin = grind (arith, nat_tests, found.2) in
    let b : begin < found.0.to = grind (arith, nat_tests, found.2) in
    let c = rest_after until ss 0 0 found.0 wave found.1 (omega arith) in
    omega arith

-- ---- who starts it

free-least : (class : FreeTime) → 7200 ≤ free_time_of class
free-least Retry = omega arith
free-least NewInitiator = omega arith
free-least PresentInitiator = omega arith

-- a device starts the shortest signal free time after the rest, and has a frame
record Starts (rest : ℕ) (d : State) (t : ℕ) : Type 0 where
  pub late : rest + 7200 ≤ t
  pub front : IsSome (front_of d)

starts : (rest : ℕ) (d : State) (t : ℕ) → start_of rest d ≡ Some t → Starts rest d t
starts rest d t h = step (is_on_wire d) (ready_of d) refl h
  where
    late : (ready : ℕ) (own : Bool) → (if own then next_turn d.number (max ready (rest + free_time_of d.class)) else max ready (rest + free_time_of d.class)) ≡ t → rest + 7200 ≤ t
    late ready true e = (let f = free-least d.class in omega arith)
    late ready false e = (let f = free-least d.class in omega arith)

    step : (on : Bool) (o : Option ℕ) → ready_of d ≡ o → start_by rest d on o ≡ Some t → Starts rest d t
    step false o e k = cc
    step true None e k = cc
    step true (Some ready) e k = record { late = late ready (is_allocating d) (let s : start_from rest d ready ≡ t = cc in s); front = front-ready d ready e }

-- somebody starts at the least start
pub record Led (rest t : ℕ) (xs : List State) : Type 0 where
  pub late : rest + 7200 ≤ t
  pub frame : List ℕ
  pub sent : In frame (frames_of (map (seat_of rest t) xs))

more_frames : (rest t : ℕ) (x : State) (xs : List State) (f : List ℕ) → In f (frames_of (map (seat_of rest t) xs)) → In f (frames_of (map (seat_of rest t) (x ∷ xs)))
more_frames rest t x xs f i = step (sent_in rest t x)
  where
    step : (o : Option (List ℕ)) → In f (cons_option o (frames_of (map (seat_of rest t) xs)))
    step None = i
    step (Some g) = inr i

led_here : (rest t : ℕ) (x : State) (xs : List State) → start_of rest x ≡ Some t → Led rest t (x ∷ xs)
led_here rest t x xs h =
    let s = starts rest x t h in
    by_front (front_of x) refl s.front
  where
    contending : contends rest t x ≡ true
    contending = ap (is_at t) h ∙ (let e : (t == t) ≡ true = grind (arith, nat_tests) in e)

    by_front : (o : Option (List ℕ)) → front_of x ≡ o → IsSome o → Led rest t (x ∷ xs)
    by_front None e k = let f : false ≡ true = k in cc
    by_front (Some f) e k =
        let sends : sent_in rest t x ≡ Some f = ap (λ b. if b then front_of x else None) contending ∙ e in
        let Has : Option (List ℕ) → Type 0 = λ o. In f (cons_option o (frames_of (map (seat_of rest t) xs))) in
        record { late = (starts rest x t h).late; frame = f; sent = subst Has (sym sends) (inl refl) }

pub led : (rest t : ℕ) (xs : List State) → least_start rest xs ≡ Some t → Led rest t xs
led rest t [] h = cc
led rest t (x ∷ xs) h = step (start_of rest x) (least_start rest xs) refl refl h (λ u e. led rest u xs e)
  where
    later : (u : ℕ) → u ≡ t → Led rest u xs → Led rest t (x ∷ xs)
    later u e l =
        let m : Led rest t xs = (let P : ℕ → Type 0 = λ v. Led rest v xs in subst P e l) in
        record { late = m.late; frame = m.frame; sent = more_frames rest t x xs m.frame m.sent }

    step : (o p : Option ℕ) → start_of rest x ≡ o → least_start rest xs ≡ p → sooner o p ≡ Some t → ((u : ℕ) → least_start rest xs ≡ Some u → Led rest u xs) → Led rest t (x ∷ xs)
    step None None a b k ih = cc
    step None (Some u) a b k ih = later u (let e : u ≡ t = cc in e) (ih u b)
    step (Some u) None a b k ih = led_here rest t x xs (a ∙ k)
    step (Some u) (Some v) a b k ih =
        let e : min u v ≡ t = cc in
        elim (cases_lt v u) [
          | inl lt ↦ later v (omega arith) (ih v b)
          | inr ge ↦ led_here rest t x xs (a ∙ ap Some (let f : u ≡ t = omega arith in f))
        ]

-- ---- the step

less_pulses : (rest : ℕ) (p : Stretch) (ps : List Stretch) → p.from < rest → length (filter (λ q. nat_lt rest q.from) (p ∷ ps)) < length (p ∷ ps)
less_pulses rest p ps h =
    let e : nat_lt rest p.from ≡ false = grind (arith, nat_tests) in
    let l : length (filter (λ q. nat_lt rest q.from) ps) ≤ length ps = (let a = length-filter (λ q. nat_lt rest q.from) ps in let b = count_by-le-length (λ q. nat_lt rest q.from) ps in omega arith) in
    rw e (omega arith)

-- it comes later, pulls, and takes what it had
pub going : RoundsGoOn
going s begin o order later next wave round = by_cause (least_start s.rest s.devices) s.pulses refl refl next
  where
    low_then : line_of o.wave begin ≡ true → begin < o.rest
    low_then low =
        let a = rest_low o.wave begin (reading_of (line_of o.wave) begin).until wave low (begin_by (line_of o.wave) begin) in
        omega (arith, a, round.rest)

    keeps : length (filter (λ q. nat_lt o.rest q.from) s.pulses) ≤ length s.pulses
    keeps = (let a = length-filter (λ q. nat_lt o.rest q.from) s.pulses in let b = count_by-le-length (λ q. nat_lt o.rest q.from) s.pulses in omega arith)

    by_device : least_start s.rest s.devices ≡ Some begin → IsGoing s begin (after_round s begin o)
    by_device e =
        let l = led s.rest begin s.devices e in
        record {
          apart = inl l.late;
          kept = keeps;
          later = omega (arith, l.late);
          low = low_then (low_by_sender (seats_of s begin) begin s.pulses (line_of o.wave) round.line l.frame l.sent);
        }

    by_pulse : (p : Stretch) (ps : List Stretch) → s.pulses ≡ p ∷ ps → p.from ≡ begin → IsGoing s begin (after_round s begin o)
    by_pulse p ps e from =
        let Ordered : List Stretch → Type 0 = IsWave in
        let Later : List Stretch → Type 0 = λ qs. ComeLater s.rest qs in
        let Lines : List Stretch → Type 0 = λ qs. IsRoundLine (seats_of s begin) begin qs (line_of o.wave) in
        let wide : p.from < p.to = (subst Ordered e order).1 in
        let after : s.rest ≤ p.from = (subst Later e later) 0 p (omega arith) in
        let low : begin < o.rest = low_then (low_by_pulse (seats_of s begin) begin p ps (line_of o.wave) (subst Lines e round.line) from (omega (arith, wide))) in
        let Fewer : List Stretch → Type 0 = λ qs. length (filter (λ q. nat_lt o.rest q.from) qs) < length qs in
        record {
          apart = inr (subst Fewer (sym e) (less_pulses o.rest p ps (omega arith)));
          kept = keeps;
          later = omega arith;
          low = low;
        }

    by_cause : (least : Option ℕ) (ps : List Stretch) → least_start s.rest s.devices ≡ least → s.pulses ≡ ps → sooner least (first_onset ps) ≡ Some begin → IsGoing s begin (after_round s begin o)
    by_cause None [] a b k = cc
    by_cause None (p ∷ ps) a b k = by_pulse p ps b (let e : p.from ≡ begin = cc in e)
    by_cause (Some t) [] a b k = by_device (a ∙ k)
    by_cause (Some t) (p ∷ ps) a b k =
        let e : min t p.from ≡ begin = cc in
        elim (cases_lt p.from t) [
          | inl lt ↦ by_pulse p ps b (omega arith)
          | inr ge ↦ by_device (a ∙ ap Some (let f : t ≡ begin = omega arith in f))
        ]

-- when it closes
pub closes_by : (seats : List Seat) (begin : ℕ) (pulls : List Stretch) (o : Outcome) (bound : ℕ) → IsWave pulls → IsWave o.wave → IsRound seats begin pulls o
    → begin + longest_round ≤ bound → All (λ p. p.from ≤ begin + longest_round → p.to ≤ bound) pulls → close_in o ≤ bound
closes_by seats begin pulls o bound order wave round late all =
    let at = rounds_are_short.ends (line_of o.wave) begin in
    let rest = rounds_are_short.rests seats begin pulls o bound order wave round (omega (arith, late)) (λ k p l e. all k p l (omega (arith, e))) in
    omega (arith, at, rest, round.ends, late)

pub closes_early : (seats : List Seat) (begin : ℕ) (pulls : List Stretch) (o : Outcome) → IsWave pulls → All EndsEarly pulls → IsWave o.wave → IsRound seats begin pulls o
    → close_in o ≤ max latest_instant (begin + longest_pulsed_round)
closes_early seats begin pulls o order ends wave round =
    closes_by seats begin pulls o (max latest_instant (begin + longest_pulsed_round)) order wave round (omega arith) (λ k p l e. (let x = ends k p l in omega (arith, x, e)))

pub progress : (s : NetState) (begin : ℕ) (o : Outcome) → IsWave s.pulses → All EndsEarly s.pulses → ComeLater s.rest s.pulses → next_start s ≡ Some begin
    → IsWave o.wave → IsRound (seats_of s begin) begin s.pulses o → IsProgress s begin (after_round s begin o)
progress s begin o order ends later next wave round =
    let g = going s begin o order later next wave round in
    record {
      apart = g.apart;
      kept = g.kept;
      later = g.later;
      low = g.low;
      closed = closes_early (seats_of s begin) begin s.pulses o order ends wave round;
      soon = λ bound late all. closes_by (seats_of s begin) begin s.pulses o bound order wave round late all;
    }

-- with sparse pulses it closes so long after its begin
pub closed_soon : (s t : NetState) (begin : ℕ) → IsProgress s begin t → AreSparse s.pulses → t.close ≤ begin + longest_pulsed_round
closed_soon s t begin p sparse = p.soon (begin + longest_pulsed_round) (omega arith) (λ k q l e. (let n = (sparse.narrow k q l).1 in omega (arith, n, e)))

-- the same of the values that the round was run with
pub progress-after : (s t : NetState) (seats : List Seat) (begin : ℕ) (o : Outcome) (ys : List State) (ps pulls : List Stretch) (close : ℕ) → IsSound s → s ≡ t
    → next_start s ≡ Some begin → IsWave pulls → pulls ≡ s.pulses → IsWave o.wave → seats ≡ seats_of s begin → IsRound seats begin s.pulses o
    → ys ≡ devices_after s.rest begin o s.devices → ps ≡ filter (λ p. nat_lt o.rest p.from) s.pulses → close ≡ close_in o
    → IsProgress t begin (record { tree = s.tree; devices = refill (length s.devices) s.devices ys; pulses = ps; close = close; rest = o.rest; heard = None })
progress-after s t seats begin o ys ps pulls close h e next order same wave sat round y p c =
    let Ordered : List Stretch → Type 0 = IsWave in
    let Rounds : List Seat → Type 0 = λ x. IsRound x begin s.pulses o in
    let after = λ (number : ℕ) (d : State). device_after (contends s.rest begin d) (is_sent s.rest begin o s.devices) o number d in
    let whole : refill (length s.devices) s.devices ys ≡ devices_after s.rest begin o s.devices = refill-all s.devices ys (ap length y ∙ length-each_from 0 after s.devices) ∙ y in
    let new : NetState = record { tree = s.tree; devices = refill (length s.devices) s.devices ys; pulses = ps; close = close; rest = o.rest; heard = None } in
    let is_after : new ≡ after_round s begin o = (λ i. record { tree = s.tree; devices = whole i; pulses = p i; close = c i; rest = o.rest; heard = None }) in
    let From : NetState → Type 0 = λ x. IsProgress x begin new in
    let To : NetState → Type 0 = λ x. IsProgress s begin x in
    subst From e (subst To (sym is_after) (progress s begin o (subst Ordered same order) h.ends h.later next wave (subst Rounds sat round)))
