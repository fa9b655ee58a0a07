-- The known turns of a session, and the round that is on, in a run that may still come.
use Rattle.std.proofs.Common.{◌≡◌, ℕ, zero, suc, ◌+◌, ◌<◌, ◌≤◌, Bool, true, false, ◌||◌, nat_lt, if◌then◌else◌, max, List, [], ◌∷◌, ◌++◌, ◌⊎◌, filter, length, slice_index_or, inl, inr, Option, Some, None, refl, sym, ap, ap₂, ◌∙◌, subst, arith, append-nil, append_assoc}
use Rattle.std.specs.List.{All, list_any}
use Rattle.std.proofs.lemmas.Bool.{cases_lt}
use Rattle.std.proofs.lemmas.Bool.Decides.{nat_tests}
use Rattle.std.proofs.lemmas.Grind.{flat_map-append}
use Rattle.std.proofs.lemmas.List.Elements.{All-head, All-tail}
use Rattle.std.proofs.lemmas.List.Folds.{list_any-append, list_any_none}
use Rattle.line_wave.specs.declared.Stretch.{Stretch}
use Rattle.line_wave.specs.Line.{IsWave, IsWaveFrom, covers, line_of, was_low}
use Rattle.line_wave.specs.Bounds.{latest_event, latest_instant}
use Rattle.line_reading.specs.Reading.{known_at, reading_of}
use Rattle.line_rounds.specs.declared.Outcome.{Outcome}
use Rattle.line_rounds.specs.declared.Seat.{Seat}
use Rattle.line_rounds.specs.Round.{close_in, is_pulled, pulse_pulls, IsRound}
use Rattle.line_rounds.specs.Alone.{RoundsAreLone}
use Rattle.room_script.specs.declared.script.TimedEvent.{TimedEvent}
use Rattle.room_net.specs.Framed.{AreFramed}
use Rattle.room_net.specs.Start.{first_onset, least_start}
use Rattle.room_net.specs.Taken.{IsOn, RoundsTakePulses}
use Rattle.room_net.specs.State.{NetState, next_start}
use Rattle.room_net.specs.Step.{seats_of, IsNextRound}
use Rattle.room_net.specs.Apply.{net_after}
use Rattle.room_net.specs.Line.{run_wave, AreFollowing, ComesAfter, GoesFrom, RunsAreInOrder, RunsAreWaves}
use Rattle.room_run.specs.declared.run.Reporting.{Reporting}
use Rattle.room_run.specs.declared.run.Turn.{Turn}
use Rattle.room_run.specs.declared.run.Turn.TheVariants.{Stop, Apply, Round}
use Rattle.room_run.specs.Run.{Config, event_turn, first_time, is_by, round_turn, turn_at, turn_of, IsEventTurn, IsTurn, IsTurnBy}
use Rattle.room_run.specs.RunLine.{rounds_by}
use Rattle.room_run.specs.Certain.{ComesFrom, IsHeld, IsHeldBy, IsOverBy, LeadsBy, with_more, with_pulses}
use Rattle.record_core.specs.declared.cell.Form.{Form}
use Rattle.live_session.specs.declared.edges.InstantRange.{InstantRange}
use Rattle.live_session.specs.Edges.{edges_reported, pinned, pinned_by}
use Rattle.live_session.specs.Turns.{AreEdgesOf, LeadsWith, MayCome, certain_until, form_of}
use Rattle.live_session.specs.Told.{edges_in}
use Rattle.live_session.proofs.Below.{begun, event_keeps, is_late, later_pulses, no_turn, one_outcome, one_turn, round_begins, round_more, round_same, same_outcome, seats_fit, turns_are_certain, until_by}
use Rattle.live_session.proofs.EdgesOf.{edges_append, wave_from, FirstFrom}
use Rattle.live_session.proofs.PinnedEdges.{pinned_after, pinned_before, pinned_wave}
use Rattle.live_session.proofs.SameEdges.{Agree, quiet, same_edges}
use Rattle.live_session.proofs.Wholly.{comes_from}
use Rattle.live_session.proofs.LaterStarts.{AreLate, From, from_none, from_right, from_some, late_event, late_next, late_of}
use Rattle.live_session.proofs.Moving.{AreRising, AreRisingFrom, IsKnown, IsMoved, IsRunning, RunsTo, moved, running_turn}

-- ---- rounds that have closed before an instant

abbrev pub AreOver : ℕ → List Outcome → Type 0
AreOver until [] = Unit {0}
AreOver until (o ∷ os) = (close_in o < until) × AreOver until os

over_append : (until : ℕ) (xs ys : List Outcome) → AreOver until xs → AreOver until ys → AreOver until (xs ++ ys)
over_append until [] ys h k = k
over_append until (x ∷ xs) ys h k = (h.0, over_append until xs ys h.1 k)

-- ---- one known turn

no_event : (until at : ℕ) (o : Option ℕ) → round_turn until o ≡ Apply at → ⊥
no_event until at None k = cc
no_event until at (Some b) k = step (nat_lt b until) k
  where
    step : (t : Bool) → (if t then Round b else Stop) ≡ Apply at → ⊥
    step true l = cc
    step false l = cc

same_begin : (turn : Turn) (a b : ℕ) → turn ≡ Round a → turn ≡ Round b → a ≡ b
same_begin turn a b e f = cc

not_apply : (turn : Turn) (at b : ℕ) → turn ≡ Apply at → turn ≡ Round b → ⊥
not_apply turn at b e f = cc

not_stop : (turn : Turn) (b : ℕ) → turn ≡ Stop → turn ≡ Round b → ⊥
not_stop turn b e f = cc

pub record IsFirst (until : ℕ) (net : NetState) (turn : Turn) (first : List Outcome) : Type 0 where
  pub over : AreOver until first
  pub edges : (form : Form) (span : InstantRange) (told : List ℕ) → AreEdgesOf form span None net turn told → told ≡ edges_reported form span (run_wave first)

-- an event is none of the rounds
not_both : (reporting : Reporting) (until at : ℕ) (xs : List TimedEvent) (c mid there : Config) (line : List ℕ) (events : List TimedEvent) (later : List Stretch) → c.events ≡ xs → turn_at until c ≡ Apply at
    → IsEventTurn reporting at xs c line mid → there ≡ with_more events later mid → there.events ≡ c.events ++ events → ⊥
not_both reporting until at [] c mid there line events later same turn t place left = no_event until at (next_start c.net) (ap (λ (es : List TimedEvent). turn_of until c.net (first_time es)) (sym same) ∙ turn)
not_both reporting until at (x ∷ xs) c mid there line events later same turn t place left =
    let rest : mid.events ≡ xs = ap (λ (d : Config). d.events) t.1 in
    let here : xs ++ events ≡ x ∷ (xs ++ events) =
    ap (λ (es : List TimedEvent). es ++ events) (sym rest) ∙ sym (ap (λ (d : Config). d.events) place) ∙ left ∙ ap (λ (es : List TimedEvent). es ++ events) same in
    let long : length (xs ++ events) ≡ suc (length (xs ++ events)) = ap length here in
    absurd (omega (arith, long))

first_is : RoundsAreLone → (reporting : Reporting) (until end : ℕ) (c mid there : Config) (line text : List ℕ) (events : List TimedEvent) (later : List Stretch) (known turn : Turn) → IsRunning c → ComesFrom until events later end
    → turn_at until c ≡ known → turn_at end (with_more events later c) ≡ turn → IsTurnBy reporting known c line mid → IsOverBy until known mid → there ≡ with_more events later mid
    → (t : IsTurnBy reporting turn (with_more events later c) text there) → IsFirst until c.net known (rounds_by reporting turn (with_more events later c) text there t)
first_is lone reporting until end c mid there line text events later Stop turn r comes k h is over place t = absurd is
first_is lone reporting until end c mid there line text events later (Apply at) Stop r comes k h is over place t = absurd t
first_is lone reporting until end c mid there line text events later (Apply at) (Apply on) r comes k h is over place t = record { over = tt; edges = λ form span told e. e }
first_is lone reporting until end c mid there line text events later (Apply at) (Round b) r comes k h is over place t = absurd (not_both reporting until at c.events c mid there line events later refl k is place t.1)
first_is lone reporting until end c mid there line text events later (Round a) Stop r comes k h is over place t = absurd t
first_is lone reporting until end c mid there line text events later (Round a) (Apply on) r comes k h is over place t =
    absurd (not_apply (turn_at end (with_more events later c)) on a h (round_same until end a c.net c.events events later k comes))
first_is lone reporting until end c mid there line text events later (Round a) (Round b) r comes k h is over place t =
    let same : b ≡ a = same_begin (turn_at end (with_more events later c)) b a h (round_same until end a c.net c.events events later k comes) in
    let close : there.net.close ≡ close_in t.0.outcome = ap (λ (n : NetState). n.close) t.0.next.after_is in
    let early : there.net.close ≡ mid.net.close = ap (λ (d : Config). d.net.close) place in
    let own : mid.net.close ≡ close_in is.0.outcome = ap (λ (n : NetState). n.close) is.0.next.after_is in
    let next : IsNextRound (with_pulses later c.net) a t.0.outcome there.net = subst (λ (x : ℕ). IsNextRound (with_pulses later c.net) x t.0.outcome there.net) same t.0.next in
    let begins : next_start c.net ≡ Some a = (round_begins until c.net (first_time c.events) a k).0 in
    let high = (lone.lone (seats_of c.net a) a c.net.pulses is.0.outcome (seats_fit c.net a r.framed) r.order is.0.wave is.0.next.round (begun c.net a begins)).after in
    let more = round_more (seats_of c.net a) a until c.net.pulses later is.0.outcome high (omega (arith, own, over)) comes.begun is.0.next.round in
    let one : is.0.outcome ≡ t.0.outcome =
    same_outcome is.0.outcome t.0.outcome (one_outcome (seats_of c.net a) a (c.net.pulses ++ later) is.0.outcome t.0.outcome is.0.wave t.0.wave more next.round) in
    record {
      over = (omega (arith, close, early, over), tt);
      edges = λ form span told has. (
          let that : has.0 ≡ is.0.outcome = same_outcome has.0 is.0.outcome (one_outcome (seats_of c.net a) a c.net.pulses has.0 is.0.outcome has.2 is.0.wave has.3.round is.0.next.round) in
          has.4 ∙ ap (λ (o : Outcome). edges_reported form span o.wave) (that ∙ one) ∙ ap (λ (w : List Stretch). edges_reported form span w) (sym (append-nil t.0.outcome.wave))
          );
    }

pub record IsStepped (reporting : Reporting) (until end : ℕ) (c mid : Config) (events : List TimedEvent) (later : List Stretch) (os : List Outcome) (last : Config) : Type 0 where
  pub turns : ℕ
  pub first : List Outcome
  pub rest : List Outcome
  pub runs : RunsTo reporting end turns (with_more events later mid) rest last
  pub whole : os ≡ first ++ rest
  pub there : IsRunning (with_more events later mid)
  pub is : IsFirst until c.net (turn_at until c) first

stepped : RoundsAreLone → (reporting : Reporting) (until end m : ℕ) (c mid last : Config) (line : List ℕ) (events : List TimedEvent) (later : List Stretch) (os : List Outcome) → IsRunning c → IsRunning (with_more events later c) → ComesFrom until events later end
    → IsTurn reporting until c line mid → IsOverBy until (turn_at until c) mid → RunsTo reporting end m (with_more events later c) os last → turn_at end last ≡ Stop → IsStepped reporting until end c mid events later os last
stepped lone reporting until end m c mid last line events later os r all comes turn over runs stops = by m runs
  where
    single : (text : List ℕ) × IsTurn reporting end (with_more events later c) text (with_more events later mid)
    single =
        let l = turns_are_certain reporting until end (suc zero) c mid (line ++ []) events later r.order r.framed r.events comes (mid, line, [], turn, over, (refl, refl), refl) in
        (l.1, subst (λ (d : Config). IsTurn reporting end (with_more events later c) l.1 d) (sym l.4.1) l.3)

    by : (m : ℕ) → RunsTo reporting end m (with_more events later c) os last → IsStepped reporting until end c mid events later os last
    by zero w = absurd (no_turn reporting end (with_more events later c) single.0 (with_more events later mid) (ap (turn_at end) (sym w.1) ∙ stops) single.1)
    by (suc m) (there, text, rest, next, after, e) =
        let one = one_turn reporting (turn_at end (with_more events later c)) (with_more events later c) text single.0 there (with_more events later mid) next single.1 in
        record {
          turns = m;
          first = rounds_by reporting (turn_at end (with_more events later c)) (with_more events later c) text there next;
          rest = rest;
          runs = subst (λ (d : Config). RunsTo reporting end m d rest last) one.1 after;
          whole = e;
          there = subst IsRunning one.1 (running_turn reporting (turn_at end (with_more events later c)) (with_more events later c) there text next all);
          is = first_is lone reporting until end c mid there line text events later (turn_at until c) (turn_at end (with_more events later c)) r comes refl refl turn over one.1 next;
        }

-- ---- all known turns

-- the rounds of a run, parted at a place
pub record IsParted (reporting : Reporting) (until end : ℕ) (from last : Config) (os : List Outcome) : Type 0 where
  pub turns : ℕ
  pub past : List Outcome
  pub rest : List Outcome
  pub runs : RunsTo reporting end turns from rest last
  pub whole : os ≡ past ++ rest
  pub there : IsRunning from
  pub over : AreOver until past

pub parted : RoundsAreLone → (reporting : Reporting) (until end n m : ℕ) (c d last : Config) (text : List ℕ) (events : List TimedEvent) (later : List Stretch) (os : List Outcome) → IsRunning c → IsRunning (with_more events later c) → ComesFrom until events later end
    → LeadsBy reporting until n c text d → RunsTo reporting end m (with_more events later c) os last → turn_at end last ≡ Stop → IsParted reporting until end (with_more events later d) last os
parted lone reporting until end zero m c d last text events later os r all comes l runs stops = record {
  turns = m;
  past = [];
  rest = os;
  runs = subst (λ (x : Config). RunsTo reporting end m (with_more events later x) os last) (sym l.1) runs;
  whole = refl;
  there = subst (λ (x : Config). IsRunning (with_more events later x)) (sym l.1) all;
  over = tt;
}
parted lone reporting until end (suc n) m c d last text events later os r all comes (mid, line, others, turn, over, after, e) runs stops =
    let one = stepped lone reporting until end m c mid last line events later os r all comes turn over runs stops in
    let go = parted lone reporting until end n one.turns mid d last others events later one.rest (running_turn reporting (turn_at until c) c mid line turn r) one.there comes after one.runs stops in
    record {
      turns = go.turns;
      past = one.first ++ go.past;
      rest = go.rest;
      runs = go.runs;
      whole = one.whole ∙ ap (λ xs. one.first ++ xs) go.whole ∙ sym (append_assoc one.first go.past go.rest);
      there = go.there;
      over = over_append until one.first go.past one.is.over go.over;
    }

-- ---- and their edges

pub record IsToldOf (reporting : Reporting) (until end : ℕ) (from last : Config) (os : List Outcome) (span : InstantRange) (told : List ℕ) : Type 0 where
  pub turns : ℕ
  pub past : List Outcome
  pub rest : List Outcome
  pub runs : RunsTo reporting end turns from rest last
  pub whole : os ≡ past ++ rest
  pub there : IsRunning from
  pub edges : told ≡ edges_reported (form_of reporting) span (run_wave past)

pub waves_append : (form : Form) (span : InstantRange) (xs ys : List Outcome) → edges_reported form span (run_wave (xs ++ ys)) ≡ edges_reported form span (run_wave xs) ++ edges_reported form span (run_wave ys)
waves_append form span xs ys = ap (λ w. edges_reported form span w) (flat_map-append (λ (o : Outcome). o.wave) xs ys) ∙ edges_append form span (run_wave xs) (run_wave ys)

pub told_of_turns : RoundsAreLone → (reporting : Reporting) (seats : Bool) (span : InstantRange) (until end n m : ℕ) (c d last : Config) (reported text : List ℕ) (events : List TimedEvent) (later : List Stretch) (os : List Outcome) → IsRunning c
    → IsRunning (with_more events later c) → ComesFrom until events later end → (l : LeadsWith reporting false seats span until n c reported text d) → RunsTo reporting end m (with_more events later c) os last → turn_at end last ≡ Stop
    → IsToldOf reporting until end (with_more events later d) last os span (edges_in reporting false seats span until n c reported text d l)
told_of_turns lone reporting seats span until end zero m c d last reported text events later os r all comes l runs stops = record {
  turns = m;
  past = [];
  rest = os;
  runs = subst (λ (x : Config). RunsTo reporting end m (with_more events later x) os last) (sym l.2) runs;
  whole = refl;
  there = subst (λ (x : Config). IsRunning (with_more events later x)) (sym l.2) all;
  edges = refl;
}
told_of_turns lone reporting seats span until end (suc n) m c d last reported text events later os r all comes (mid, line, edges, others, rest, turn, over, own, after, e, f) runs stops =
    let one = stepped lone reporting until end m c mid last line events later os r all comes turn over runs stops in
    let go = told_of_turns lone reporting seats span until end n one.turns mid d last others rest events later one.rest (running_turn reporting (turn_at until c) c mid line turn r) one.there comes after one.runs stops in
    record {
      turns = go.turns;
      past = one.first ++ go.past;
      rest = go.rest;
      runs = go.runs;
      whole = one.whole ∙ ap (λ xs. one.first ++ xs) go.whole ∙ sym (append_assoc one.first go.past go.rest);
      there = go.there;
      edges = ap₂ (λ x y. x ++ y) (one.is.edges (form_of reporting) span edges own) go.edges ∙ sym (waves_append (form_of reporting) span one.first go.past);
    }

-- ---- where nothing comes before an instant

-- each event that is left comes then or later
abbrev pub EventsFrom : ℕ → ℕ → List TimedEvent → Type 0
EventsFrom h close [] = Unit {0}
EventsFrom h close (e ∷ es) = (h ≤ max close e.at) × EventsFrom h close es

events_append : (h close : ℕ) (xs ys : List TimedEvent) → EventsFrom h close xs → All (λ e. h ≤ e.at) ys → EventsFrom h close (xs ++ ys)
events_append h close [] [] f late = tt
events_append h close [] (y ∷ ys) f late = ((let x : h ≤ y.at = late zero y (omega arith) in omega (arith, x)), events_append h close [] ys tt (All-tail (λ (e : TimedEvent). h ≤ e.at) y ys late))
events_append h close (x ∷ xs) ys f late = (f.0, events_append h close xs ys f.1 late)

in_order : (h close from : ℕ) (es : List TimedEvent) → AreRisingFrom from es → h ≤ max close from → EventsFrom h close es
in_order h close from [] s l = tt
in_order h close from (e ∷ es) s l = ((let x = s.0 in omega (arith, l, x)), in_order h close e.at es s.1 (let x = s.0 in omega (arith, l, x)))

-- where no turn comes before an instant, no round begins before it, and the next event does not come before
stop_round : (until : ℕ) (o : Option ℕ) → round_turn until o ≡ Stop → From until o
stop_round until None e = from_none until
stop_round until (Some b) e = by (nat_lt b until) refl e
  where
    by : (t : Bool) → nat_lt b until ≡ t → (if t then Round b else Stop) ≡ Stop → From until (Some b)
    by true g k = cc
    by false g k = from_some until b (grind (arith, nat_tests))

stop_start : (until : ℕ) (s : NetState) (time : Option ℕ) → turn_of until s time ≡ Stop → From until (next_start s)
stop_start until s None e = stop_round until (next_start s) e
stop_start until s (Some t) e = by (is_by (max s.close t) (next_start s)) refl e
  where
    early : (b : Bool) → nat_lt (max s.close t) until ≡ b → (if b then Apply (max s.close t) else Stop) ≡ Stop → until ≤ max s.close t
    early true g k = cc
    early false g k = grind (arith, nat_tests)

    from : (o : Option ℕ) → until ≤ max s.close t → is_by (max s.close t) o ≡ true → From until o
    from None l i = from_none until
    from (Some b) l i = from_some until b (let x : max s.close t ≤ b = grind (arith, nat_tests) in omega (arith, x, l))

    by : (i : Bool) → is_by (max s.close t) (next_start s) ≡ i → (if i then event_turn until (max s.close t) else round_turn until (next_start s)) ≡ Stop → From until (next_start s)
    by true i k = from (next_start s) (early (nat_lt (max s.close t) until) refl k) i
    by false i k = stop_round until (next_start s) k

stop_event : (until t : ℕ) (s : NetState) → turn_of until s (Some t) ≡ Stop → until ≤ max s.close t
stop_event until t s e = by (is_by (max s.close t) (next_start s)) refl e
  where
    early : (b : Bool) → nat_lt (max s.close t) until ≡ b → (if b then Apply (max s.close t) else Stop) ≡ Stop → until ≤ max s.close t
    early true g k = cc
    early false g k = grind (arith, nat_tests)

    later : (o : Option ℕ) → is_by (max s.close t) o ≡ false → From until o → until ≤ max s.close t
    later None i f = cc
    later (Some b) i f = (let x = f b refl in let y : b < max s.close t = grind (arith, nat_tests) in omega (arith, x, y))

    by : (i : Bool) → is_by (max s.close t) (next_start s) ≡ i → (if i then event_turn until (max s.close t) else round_turn until (next_start s)) ≡ Stop → until ≤ max s.close t
    by true i k = early (nat_lt (max s.close t) until) refl k
    by false i k = later (next_start s) i (stop_round until (next_start s) k)

-- with pulls that come then or later too
onset_from : (until : ℕ) (ps later : List Stretch) → From until (first_onset ps) → All (λ p. until ≤ p.from) later → From until (first_onset (ps ++ later))
onset_from until [] [] f late = from_none until
onset_from until [] (p ∷ later) f late = from_some until p.from (All-head (λ (q : Stretch). until ≤ q.from) p later late)
onset_from until (p ∷ ps) later f late = f

late_more : (until : ℕ) (later : List Stretch) (s : NetState) → AreLate until s → All (λ p. until ≤ p.from) later → AreLate until (with_pulses later s)
late_more until later s l late = record { devices = l.devices; pulls = onset_from until s.pulses later l.pulls late }

-- ---- no round before it

at_event : (end at t : ℕ) (s : NetState) → turn_of end s (Some t) ≡ Apply at → at ≡ max s.close t
at_event end at t s e = by (is_by (max s.close t) (next_start s)) e
  where
    early : (b : Bool) → (if b then Apply (max s.close t) else Stop) ≡ Apply at → at ≡ max s.close t
    early true k = cc
    early false k = cc

    by : (i : Bool) → (if i then event_turn end (max s.close t) else round_turn end (next_start s)) ≡ Apply at → at ≡ max s.close t
    by true k = early (nat_lt (max s.close t) end) k
    by false k = absurd (no_event end at (next_start s) k)

begins_at : (reporting : Reporting) (turn : Turn) (b : ℕ) (c d : Config) (line : List ℕ) (t : IsTurnBy reporting turn c line d) (h : ℕ) (rest : List Outcome) → turn ≡ Round b → h ≤ b
    → FirstFrom h (rounds_by reporting turn c line d t ++ rest)
begins_at reporting Stop b c d line t h rest e l = absurd t
begins_at reporting (Apply at) b c d line t h rest e l = cc
begins_at reporting (Round a) b c d line t h rest e l =
    let same : a ≡ b = same_begin (Round a) a b refl e in
    let starts : t.0.outcome.reading.begin ≡ a = t.0.next.round.starts in
    omega (arith, same, starts, l)

-- laws of the crates below
pub record Laws : Type 0 where
  pub lone : RoundsAreLone
  pub waves : RunsAreWaves
  pub order : RunsAreInOrder
  pub takes : RoundsTakePulses

-- the line of rounds that begin at an instant or later is high before it
from_first : Laws → (reporting : Reporting) (h end n : ℕ) (c last : Config) (os : List Outcome) → IsRunning c → RunsTo reporting end n c os last → FirstFrom h os → IsWaveFrom h (run_wave os)
from_first laws reporting h end n c last os r runs first =
    let m = moved laws.lone reporting end n c last os runs r in
    let wave : IsWave (run_wave os) = subst (λ (xs : List Outcome). IsWave (run_wave xs)) m.rounds (laws.waves c.net last.net m.moves r.order r.framed m.goes) in
    wave_from h os wave m.lone first

quiet_until : Laws → (reporting : Reporting) (h end n : ℕ) (c last : Config) (os : List Outcome) → IsRunning c → AreLate h c.net → EventsFrom h c.net.close c.events → RunsTo reporting end n c os last → IsWaveFrom h (run_wave os)
quiet_until laws reporting h end zero c last os r late events (none, same) = subst (λ (xs : List Outcome). IsWaveFrom h (run_wave xs)) (sym none) tt
quiet_until laws reporting h end (suc n) c last os r late events (mid, line, rest, turn, after, e) =
    by (turn_at end c) refl turn e (λ here there. quiet_until laws reporting h end n mid last rest (running_turn reporting (turn_at end c) c mid line turn r) here there after)
  where
    applied : (at : ℕ) (xs : List TimedEvent) → c.events ≡ xs → turn_of end c.net (first_time xs) ≡ Apply at → IsEventTurn reporting at xs c line mid → os ≡ rest
        → (AreLate h mid.net → EventsFrom h mid.net.close mid.events → IsWaveFrom h (run_wave rest)) → IsWaveFrom h (run_wave os)
    applied at [] same k t whole go = absurd (no_event end at (next_start c.net) k)
    applied at (x ∷ xs) same k t whole go =
        let left : EventsFrom h c.net.close (x ∷ xs) = subst (EventsFrom h c.net.close) same events in
        let on : at ≡ max c.net.close x.at = at_event end at x.at c.net k in
        let net : mid.net ≡ net_after at x.event c.net = ap (λ (d : Config). d.net) t.1 in
        let close : mid.net.close ≡ c.net.close = (event_keeps at x.event c.net mid.net net).close in
        let here : AreLate h mid.net = subst (AreLate h) (sym net) (late_event h at x.event c.net (let y = left.0 in omega (arith, on, y)) late) in
        let there : EventsFrom h mid.net.close mid.events =
        subst (λ (es : List TimedEvent). EventsFrom h mid.net.close es) (sym (ap (λ (d : Config). d.events) t.1)) (subst (λ (k : ℕ). EventsFrom h k xs) (sym close) left.1) in
        subst (λ (ys : List Outcome). IsWaveFrom h (run_wave ys)) (sym whole) (go here there)

    by : (kind : Turn) → turn_at end c ≡ kind → (t : IsTurnBy reporting kind c line mid) → os ≡ rounds_by reporting kind c line mid t ++ rest
        → (AreLate h mid.net → EventsFrom h mid.net.close mid.events → IsWaveFrom h (run_wave rest)) → IsWaveFrom h (run_wave os)
    by Stop k t whole go = absurd t
    by (Apply at) k t whole go = applied at c.events refl k t whole go
    by (Round b) k t whole go =
        let begins : next_start c.net ≡ Some b = (round_begins end c.net (first_time c.events) b k).0 in
        let first : FirstFrom h os = subst (FirstFrom h) (sym whole) (begins_at reporting (Round b) b c mid line t h rest refl (late_next h c.net late b begins)) in
        from_first laws reporting h end (suc n) c last os r (mid, line, rest, turn, after, e) first

-- ---- a pull that begins before the end is on the line, whole

abbrev pub Has : Stretch → List Stretch → Type 0
Has p [] = ⊥
Has p (q ∷ qs) = (p ≡ q) ⊎ Has p qs

pub has_later : (p : Stretch) (ps qs : List Stretch) → Has p (ps ++ p ∷ qs)
has_later p [] qs = inl refl
has_later p (q ∷ ps) qs = inr (has_later p ps qs)

has_all : (P : Stretch → Type 0) (p : Stretch) (ps : List Stretch) → All P ps → Has p ps → P p
has_all P p [] all has = absurd has
has_all P p (q ∷ ps) all (inl e) = subst P (sym e) (All-head P q ps all)
has_all P p (q ∷ ps) all (inr has) = has_all P p ps (All-tail P q ps all) has

has_left : (rest : ℕ) (p : Stretch) (ps : List Stretch) → rest < p.from → Has p ps → Has p (filter (λ q. nat_lt rest q.from) ps)
has_left rest p [] l has = has
has_left rest p (q ∷ ps) l (inl e) =
    let t : nat_lt rest q.from ≡ true = (let x : rest < q.from = (let f : p.from ≡ q.from = ap (λ (y : Stretch). y.from) e in omega (arith, f, l)) in grind (arith, nat_tests)) in
    subst (λ (b : Bool). Has p (if b then q ∷ filter (λ q. nat_lt rest q.from) ps else filter (λ q. nat_lt rest q.from) ps)) (sym t) (inl e)
has_left rest p (q ∷ ps) l (inr has) = by (nat_lt rest q.from) (has_left rest p ps l has)
  where
    by : (b : Bool) → Has p (filter (λ q. nat_lt rest q.from) ps) → Has p (if b then q ∷ filter (λ q. nat_lt rest q.from) ps else filter (λ q. nat_lt rest q.from) ps)
    by true k = inr k
    by false k = k

-- none begins before the first
onset_first : (h from : ℕ) (p : Stretch) (ps : List Stretch) → IsWaveFrom from ps → Has p ps → From h (first_onset ps) → h ≤ p.from
onset_first h from p [] w has f = absurd has
onset_first h from p (q ∷ ps) w has f = (let x = f q.from refl in let y = after q.from (q ∷ ps) (omega arith, w.1, w.2) has in omega (arith, x, y))
  where
    after : (a : ℕ) (qs : List Stretch) → IsWaveFrom a qs → Has p qs → a ≤ p.from
    after a [] v k = absurd k
    after a (r ∷ qs) v (inl e) = (let g : p.from ≡ r.from = ap (λ (y : Stretch). y.from) e in let x = v.0 in omega (arith, g, x))
    after a (r ∷ qs) v (inr k) = (let x = after (r.to + 1) qs v.2 k in let y = v.0 in let z = v.1 in omega (arith, x, y, z))

or_left : (a b : Bool) → a ≡ true → (a || b) ≡ true
or_left true b e = refl
or_left false b e = cc

or_right : (a b : Bool) → b ≡ true → (a || b) ≡ true
or_right true b e = refl
or_right false b e = e

pub pull_is_on : Laws → (reporting : Reporting) (end n : ℕ) (c last : Config) (os : List Outcome) (p : Stretch) → IsRunning c → RunsTo reporting end n c os last → turn_at end last ≡ Stop → Has p c.net.pulses → p.from < end
    → (t : ℕ) → p.from ≤ t → t < p.to → line_of (run_wave os) t ≡ true
pull_is_on laws reporting end zero c last os p r (none, same) stops has early t a b =
    let from : From end (first_onset c.net.pulses) = from_right end (least_start c.net.rest c.net.devices) (first_onset c.net.pulses) (stop_start end c.net (first_time c.events) (ap (turn_at end) (sym same) ∙ stops)) in
    absurd (let x = onset_first end 0 p c.net.pulses r.order has from in omega (arith, x, early))
pull_is_on laws reporting end (suc n) c last os p r (mid, line, rest, turn, after, e) stops has early t a b =
    by (turn_at end c) refl turn e (λ k. pull_is_on laws reporting end n mid last rest p (running_turn reporting (turn_at end c) c mid line turn r) after stops k early t a b)
  where
    low : (o : Outcome) → line_of (o.wave ++ run_wave rest) t ≡ (line_of o.wave t || line_of (run_wave rest) t)
    low o = list_any-append (λ s. covers s t) o.wave (run_wave rest)

    applied : (at : ℕ) (xs : List TimedEvent) → IsEventTurn reporting at xs c line mid → Has p mid.net.pulses
    applied at [] t = subst (λ (d : Config). Has p d.net.pulses) (sym t.1) has
    applied at (x ∷ xs) t = subst (λ (ps : List Stretch). Has p ps) (sym (event_keeps at x.event c.net mid.net (ap (λ (d : Config). d.net) t.1)).pulses) has

    by : (kind : Turn) → turn_at end c ≡ kind → (k : IsTurnBy reporting kind c line mid) → os ≡ rounds_by reporting kind c line mid k ++ rest → (Has p mid.net.pulses → line_of (run_wave rest) t ≡ true)
        → line_of (run_wave os) t ≡ true
    by Stop h k whole go = absurd k
    by (Apply at) h k whole go = ap (λ (xs : List Outcome). line_of (run_wave xs) t) whole ∙ go (applied at c.events k)
    by (Round begin) h k whole go =
        let begins : next_start c.net ≡ Some begin = (round_begins end c.net (first_time c.events) begin h).0 in
        let goes : GoesFrom c.net begin k.0.outcome = record { begins = begins; wave = k.0.wave; round = k.0.next.round } in
        ap (λ (xs : List Outcome). line_of (run_wave xs) t) whole ∙ low k.0.outcome
        ∙ elim (cases_lt k.0.outcome.rest p.from) [
          | inl lt ↦ or_right (line_of k.0.outcome.wave t) (line_of (run_wave rest) t)
              (go (subst (λ (s : NetState). Has p s.pulses) (sym k.0.next.after_is) (has_left k.0.outcome.rest p c.net.pulses lt has)))
          | inr ge ↦ or_left (line_of k.0.outcome.wave t) (line_of (run_wave rest) t)
              (has_all (λ q. q.from ≤ k.0.outcome.rest → IsOn (line_of k.0.outcome.wave) q) p c.net.pulses (laws.takes.taken c.net begin k.0.outcome r.order goes) has ge t a b)
        ]

-- ---- the round that is on

-- the first round of a run
record IsBegun (reporting : Reporting) (end b : ℕ) (c last : Config) (os : List Outcome) : Type 0 where
  turns : ℕ
  mid : Config
  outcome : Outcome
  rest : List Outcome
  wave : IsWave outcome.wave
  next : IsNextRound c.net b outcome mid.net
  running : IsRunning mid
  runs : RunsTo reporting end turns mid rest last
  whole : os ≡ outcome ∷ rest

first_round : (reporting : Reporting) (end b n : ℕ) (c last : Config) (os : List Outcome) → IsRunning c → turn_at end c ≡ Round b → RunsTo reporting end n c os last → turn_at end last ≡ Stop → IsBegun reporting end b c last os
first_round reporting end b zero c last os r begins runs stops = absurd (not_stop (turn_at end c) b (ap (turn_at end) (sym runs.1) ∙ stops) begins)
first_round reporting end b (suc n) c last os r begins (mid, line, rest, turn, after, e) stops = by (turn_at end c) begins turn e
  where
    running : IsRunning mid
    running = running_turn reporting (turn_at end c) c mid line turn r

    by : (kind : Turn) → kind ≡ Round b → (t : IsTurnBy reporting kind c line mid) → os ≡ rounds_by reporting kind c line mid t ++ rest → IsBegun reporting end b c last os
    by Stop k t whole = absurd t
    by (Apply at) k t whole = absurd (not_apply (Apply at) at b refl k)
    by (Round a) k t whole =
        let same : a ≡ b = same_begin (Round a) a b refl k in
        record {
          turns = n;
          mid = mid;
          outcome = t.0.outcome;
          rest = rest;
          wave = t.0.wave;
          next = subst (λ (x : ℕ). IsNextRound c.net x t.0.outcome mid.net) same t.0.next;
          running = running;
          runs = after;
          whole = whole;
        }

or_false : (b : Bool) → (b || false) ≡ b
or_false true = refl
or_false false = refl

-- a round that closes before an instant is the same without what comes then or later
round_less : (seats : List Seat) (begin until : ℕ) (pulses later : List Stretch) (o : Outcome) → ((u : ℕ) → o.rest ≤ u → line_of o.wave u ≡ false) → close_in o < until
    → All (λ p. until ≤ p.from) later → IsRound seats begin (pulses ++ later) o → IsRound seats begin pulses o
round_less seats begin until pulses later o high c late r = record {
  line = λ t. r.line t ∙ same t;
  starts = r.starts;
  ends = r.ends;
  ending = r.ending;
  bits = r.bits;
  survivors = r.survivors;
  losers = r.losers;
  rest = r.rest;
}
  where
    rests : o.rest < until
    rests = omega (arith, c)

    ends : (reading_of (line_of o.wave) begin).until < until
    ends = omega (arith, c, r.ends, until_by (line_of o.wave) begin)

    none : (t : ℕ) → list_any (pulse_pulls begin (known_at t (reading_of (line_of o.wave) begin)).ended (was_low (line_of o.wave) t) t) (pulses ++ later)
        ≡ list_any (pulse_pulls begin (known_at t (reading_of (line_of o.wave) begin)).ended (was_low (line_of o.wave) t) t) pulses
    none t =
        let pulls = pulse_pulls begin (known_at t (reading_of (line_of o.wave) begin)).ended (was_low (line_of o.wave) t) t in
        list_any-append pulls pulses later
        ∙ ap (λ b. list_any pulls pulses || b) (list_any_none pulls later (λ i d m. is_late begin (line_of o.wave) o.rest until t (slice_index_or later i d) high rests ends (late i d m)))
        ∙ or_false (list_any pulls pulses)

    same : (t : ℕ) → is_pulled seats begin (pulses ++ later) (was_low (line_of o.wave) t) (known_at t (reading_of (line_of o.wave) begin)) t
        ≡ is_pulled seats begin pulses (was_low (line_of o.wave) t) (known_at t (reading_of (line_of o.wave) begin)) t
    same t = rw (none t) refl

-- so one that is on then closes then or later, whatever comes
closes_late : RoundsAreLone → (until b : ℕ) (s after there : NetState) (later : List Stretch) (o p : Outcome) → AreFramed s → IsWave (s.pulses ++ later) → next_start (with_pulses later s) ≡ Some b
    → All (λ p. until ≤ p.from) later → IsWave o.wave → IsWave p.wave → IsNextRound s b o after → until ≤ after.close → IsNextRound (with_pulses later s) b p there → until ≤ close_in p
closes_late lone until b s after there later o p framed order begins late wave wave' next held next' =
    elim (cases_lt (close_in p) until) [
      | inl lt ↦ (
          let high = (lone.lone (seats_of (with_pulses later s) b) b (s.pulses ++ later) p (seats_fit (with_pulses later s) b framed) order wave' next'.round (begun (with_pulses later s) b begins)).after in
          let less = round_less (seats_of s b) b until s.pulses later p high lt late next'.round in
          let same : o ≡ p = same_outcome o p (one_outcome (seats_of s b) b s.pulses o p wave wave' next.round less) in
          let close : after.close ≡ close_in o = ap (λ (n : NetState). n.close) next.after_is in
          let one : close_in o ≡ close_in p = ap close_in same in
          absurd (omega (arith, close, one, held, lt))
          )
      | inr ge ↦ ge
    ]

comes_after : (h : ℕ) (o : Outcome) (os : List Outcome) → h ≤ close_in o → ComesAfter o os → FirstFrom h os
comes_after h o [] l c = tt
comes_after h o (p ∷ os) l c = (let x = c.0 in omega (arith, l, x))

-- ---- what is told of the turn that is not over

-- the round that is on, or none, has before an instant the line that the run has
record IsOnLine (form : Form) (span : InstantRange) (pin : Option ℕ) (until : ℕ) (on : List ℕ) (rest : List Outcome) : Type 0 where
  wave : List Stretch
  order : IsWave wave
  on_is : on ≡ edges_reported form span (pinned_by pin wave)
  whole : IsWave (run_wave rest)
  agree : Agree until wave (run_wave rest)

on_line : Laws → (reporting : Reporting) (span : InstantRange) (pin : Option ℕ) (until end m : ℕ) (d last : Config) (on : List ℕ) (events : List TimedEvent) (later : List Stretch) (rest : List Outcome) → IsKnown d
    → IsRunning (with_more events later d) → ComesFrom until events later end → IsHeld until d → AreEdgesOf (form_of reporting) span pin d.net (turn_at until d) on → RunsTo reporting end m (with_more events later d) rest last → turn_at end last ≡ Stop
    → IsOnLine (form_of reporting) span pin until on rest
on_line laws reporting span pin until end m d last on events later rest known there comes held own runs stops = by (turn_at until d) refl held own
  where
    all : IsMoved (with_pulses later d.net) last.net rest
    all = moved laws.lone reporting end m (with_more events later d) last rest runs there

    whole : IsWave (run_wave rest)
    whole = subst (λ (xs : List Outcome). IsWave (run_wave xs)) all.rounds (laws.waves (with_pulses later d.net) last.net all.moves there.order there.framed all.goes)

    stop_events : (es : List TimedEvent) → d.events ≡ es → turn_of until d.net (first_time es) ≡ Stop → EventsFrom until d.net.close es
    stop_events [] same k = tt
    stop_events (e ∷ es) same k =
        let first : until ≤ max d.net.close e.at = stop_event until e.at d.net k in
        (first, in_order until d.net.close e.at es (subst AreRising same known.rising) first)

    by : (turn : Turn) → turn_at until d ≡ turn → IsHeldBy until d.net turn → AreEdgesOf (form_of reporting) span pin d.net turn on → IsOnLine (form_of reporting) span pin until on rest
    by Stop k h e =
        let late : AreLate until d.net = late_of until d.net known.running.settled (stop_start until d.net (first_time d.events) k) in
        let left : EventsFrom until d.net.close (d.events ++ events) = events_append until d.net.close d.events events (stop_events d.events refl k) comes.scheduled in
        let from = quiet_until laws reporting until end m (with_more events later d) last rest there (late_more until later d.net late comes.begun) left runs in
        record { wave = []; order = tt; on_is = e; whole = whole; agree = λ t l. sym (quiet (run_wave rest) until t from l) }
    by (Apply at) k h e = absurd h
    by (Round b) k (o, after, wave, next, late) (p, other, wave', next', e) =
        let same : turn_at end (with_more events later d) ≡ Round b = round_same until end b d.net d.events events later k comes in
        let one = first_round reporting end b m (with_more events later d) last rest there same runs stops in
        let begins : next_start (with_pulses later d.net) ≡ Some b = (round_begins end (with_pulses later d.net) (first_time (d.events ++ events)) b same).0 in
        let close = closes_late laws.lone until b d.net after one.mid.net later o one.outcome known.running.framed there.order begins comes.begun wave one.wave next late one.next in
        let follows : AreFollowing rest = subst AreFollowing all.rounds (laws.order (with_pulses later d.net) last.net all.moves there.order there.framed all.goes) in
        let first : ComesAfter one.outcome one.rest = (subst AreFollowing one.whole follows).0 in
        let tail : IsWaveFrom until (run_wave one.rest) = from_first laws reporting until end one.turns one.mid last one.rest one.running one.runs (comes_after until one.outcome one.rest close first) in
        record {
          wave = p.wave;
          order = wave';
          on_is = e;
          whole = whole;
          agree = λ t l.
              later_pulses (seats_of d.net b) b d.net.pulses later until (line_of p.wave) (line_of one.outcome.wave) comes.begun next'.round.line one.next.round.line t l
              ∙ sym (or_false (line_of one.outcome.wave t))
              ∙ ap (λ (x : Bool). line_of one.outcome.wave t || x) (sym (quiet (run_wave one.rest) until t tail l))
              ∙ sym (list_any-append (λ s. covers s t) one.outcome.wave (run_wave one.rest))
              ∙ ap (λ (xs : List Outcome). line_of (run_wave xs) t) (sym one.whole);
        }

-- a pin that is low is so within the times of a session
abbrev pub AreEarly : Option ℕ → ℕ → Type 0
AreEarly None horizon = Unit {0}
AreEarly (Some low) horizon = (low ≤ latest_event) × (horizon ≤ latest_event)

pub told_on : Laws → (reporting : Reporting) (pin : Option ℕ) (span : InstantRange) (horizon end m : ℕ) (d last : Config) (on : List ℕ) (events : List TimedEvent) (later : List Stretch) (rest : List Outcome) → IsKnown d
    → IsRunning (with_more events later d) → MayCome pin horizon events later end → AreEarly pin horizon → IsHeld (certain_until pin horizon) d → AreEdgesOf (form_of reporting) span pin d.net (turn_at (certain_until pin horizon) d) on
    → span.until ≤ horizon → RunsTo reporting end m (with_more events later d) rest last → turn_at end last ≡ Stop → on ≡ edges_reported (form_of reporting) span (run_wave rest)
told_on laws reporting None span horizon end m d last on events later rest known there comes early held own within runs stops =
    let w = on_line laws reporting span None horizon end m d last on events later rest known there comes held own runs stops in
    w.on_is ∙ same_edges (form_of reporting) span horizon 0 0 w.wave (run_wave rest) within w.order w.whole w.agree
told_on laws reporting (Some low) span horizon end m d last on events [] rest known there comes early held own within runs stops = absurd comes
told_on laws reporting (Some low) span horizon end m d last on events (pull ∷ later) rest known there comes early held own within runs stops =
    w.on_is ∙ same_edges (form_of reporting) span horizon 0 0 (pinned low w.wave) (run_wave rest) within (pinned_wave 0 low w.wave w.order (omega arith) before) w.whole agree
  where
    until : ℕ
    until = certain_until (Some low) horizon

    w : IsOnLine (form_of reporting) span (Some low) until on rest
    w = on_line laws reporting span (Some low) until end m d last on events (pull ∷ later) rest known there (comes_from (Some low) horizon end events (pull ∷ later) comes) held own runs stops

    before : low < latest_instant
    before = (let x = early.0 in omega (arith, x))

    agree : Agree horizon (pinned low w.wave) (run_wave rest)
    agree t l =
        elim (cases_lt t low) [
          | inl lt ↦ pinned_before 0 low t w.wave w.order before lt ∙ w.agree t (omega (arith, l, lt))
          | inr ge ↦ pinned_after low t w.wave ge (let x = early.1 in omega (arith, l, x))
              ∙ sym (pull_is_on laws reporting end m (with_more events (pull ∷ later) d) last rest pull there runs stops (has_later pull d.net.pulses later)
              (let x = comes.0 in let y = comes.2.over in omega (arith, x, y, ge, l)) t (let x = comes.0 in omega (arith, x, ge)) (let x = comes.1 in omega (arith, x, l)))
        ]
