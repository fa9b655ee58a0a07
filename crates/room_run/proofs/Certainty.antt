-- Why turns that are over before an instant stand, whatever comes for that instant or later.
use Rattle.std.proofs.Common.{◌≡◌, ℕ, zero, suc, ◌-◌, ◌<◌, ◌≤◌, Bool, true, false, ◌&&◌, ◌||◌, nat_lt, nat_le, if◌then◌else◌, max, min, List, [], ◌∷◌, ◌++◌, filter, slice_index_or, inl, inr, Option, Some, None, refl, sym, ap, ap₂, ◌∙◌, subst, arith, append_assoc}
use Rattle.device_core.specs.declared.device.Ticket.{Ticket}
use Rattle.std.specs.List.{All, list_any}
use Rattle.std.proofs.lemmas.Bool.Decides.{nat_tests}
use Rattle.std.proofs.lemmas.Bool.{cases_lt}
use Rattle.std.proofs.lemmas.List.Folds.{list_any-append, list_any_none}
use Rattle.std.proofs.lemmas.List.Elements.{filter-append}
use Rattle.line_wave.specs.declared.Stretch.{Stretch}
use Rattle.line_wave.specs.Line.{Line as WaveLine, IsWave, line_of, covers, was_low}
use Rattle.line_wave.proofs.Kept.{wave_filter}
use Rattle.line_reading.specs.Reading.{known_at, reading_of}
use Rattle.line_reading.proofs.Ends.{until_by}
use Rattle.line_rounds.specs.declared.Outcome.{Outcome}
use Rattle.line_rounds.specs.Round.{IsRound, is_within, pulse_pulls, is_pulled, close_in}
use Rattle.line_rounds.proofs.Alone.{rounds_are_lone}
use Rattle.room_event.specs.declared.event.Event.{Event}
use Rattle.room_event.specs.declared.event.Event.TheVariants.{Plug, Unplug, Key, Send, SendNamed, Outside}
use Rattle.room_event.specs.declared.event.EventError.{EventError}
use Rattle.room_net.specs.Start.{sooner, least_start, first_onset}
use Rattle.room_net.specs.State.{NetState, next_start, first_net}
use Rattle.room_net.specs.Apply.{net_after, applied_unless, event_fault, named_frame, after_sent}
use Rattle.room_net.specs.Step.{seats_of, devices_after, after_round}
use Rattle.room_net.specs.Framed.{AreFramed}
use Rattle.room_net.proofs.Framed.{framed-started, framed-applied, framed-round, seats_fit}
use Rattle.room_net.proofs.Lines.{begun}
use Rattle.room_trace.specs.TraceText.{event_line}
use Rattle.record_core.specs.declared.cell.Form.TheVariants.{Json}
use Rattle.room_trace.specs.PortText.{port_lines, port_texts}
use Rattle.room_trace.specs.Room.{event_object}
use Rattle.edid_tree.specs.Node.{Node}
use Rattle.edid_tree.specs.Path.{is_on_wire}
use Rattle.room_script.specs.Script.{AreFramedEvents}
use Rattle.room_script.specs.declared.script.TimedEvent.{TimedEvent}
use Rattle.room_run.specs.declared.run.Reporting.{Reporting}
use Rattle.room_run.specs.declared.run.Reporting.TheVariants.{Trace, Objects, Line}
use Rattle.room_run.specs.declared.run.Totals.{Totals}
use Rattle.room_run.specs.declared.run.Turn.{Turn}
use Rattle.room_run.specs.declared.run.Turn.TheVariants.{Stop, Apply, Round}
use Rattle.room_run.specs.Run.{Config, start, turn_at, turn_of, is_by, round_turn, event_turn, first_time, event_reported, counted_event, start_reported, IsEventTurn, IsRoundTurn, IsTurnBy, IsTurn, Leads}
use Rattle.room_net.proofs.Kept.{event_keeps}
use Rattle.room_run.proofs.Advance.{round_begins}
use Rattle.room_run.proofs.Turns.{front_of_text}
use Rattle.room_run.specs.Certain.{with_pulses, with_more, LatePulsesDoNotPull, RoundTurnsStay, RoundsStay, ComesFrom, IsOverBy, LeadsBy, TurnsAreCertain, TurnsStayCertain, ReportedIsFront}

-- ---- a pulse that begins after the close is no pulse of the round

not_covered : (p : Stretch) (t : ℕ) → t < p.from → covers p t ≡ false
not_covered p t l = let e : nat_le p.from t ≡ false = grind (arith, nat_tests) in rw e refl

is_high : (low : WaveLine) (rest t : ℕ) → ((u : ℕ) → rest ≤ u → low u ≡ false) → rest < t → was_low low t ≡ false
is_high low rest t h l = by_test (nat_lt 0 t) (low (t - 1)) (h (t - 1) (omega (arith, l)))
  where
    by_test : (a b : Bool) → b ≡ false → (a && b) ≡ false
    by_test true b e = e
    by_test false b e = refl

pub is_late : LatePulsesDoNotPull
is_late begin low rest until t p high r k l =
    elim (cases_lt t p.from) [
      | inl lt ↦ (let e : covers p t ≡ false = not_covered p t lt in rw e refl)
      | inr ge ↦ (
          let was : was_low low t ≡ false = is_high low rest t high (omega (arith, r, l, ge)) in
          let over : nat_lt (reading_of low begin).until t ≡ true = (let x : (reading_of low begin).until < t = omega (arith, k, l, ge) in grind (arith, nat_tests)) in
          let past : nat_le p.from (reading_of low begin).until ≡ false = (let x : (reading_of low begin).until < p.from = omega (arith, k, l) in grind (arith, nat_tests)) in
          let none : is_within (known_at t (reading_of low begin)).ended p.from ≡ false =
          ap (λ b. is_within (if b then Some (record { ending = (reading_of low begin).ending; at = (reading_of low begin).at; until = (reading_of low begin).until }) else None) p.from) over ∙ past in
          no (covers p t) (nat_le begin p.from) _ _ none was
          )
    ]
  where
    no : (a b x y : Bool) → x ≡ false → y ≡ false → (a && (b && (x || y))) ≡ false
    no true true x y e f = ap₂ (λ m n. m || n) e f
    no true false x y e f = refl
    no false b x y e f = refl

or_false : (b : Bool) → (b || false) ≡ b
or_false true = refl
or_false false = refl

none_late : (begin : ℕ) (low : WaveLine) (rest until t : ℕ) (pulses later : List Stretch) → ((u : ℕ) → rest ≤ u → low u ≡ false) → rest < until
    → (reading_of low begin).until < until → All (λ p. until ≤ p.from) later
    → list_any (pulse_pulls begin (known_at t (reading_of low begin)).ended (was_low low t) t) (pulses ++ later)
    ≡ list_any (pulse_pulls begin (known_at t (reading_of low begin)).ended (was_low low t) t) pulses
none_late begin low rest until t pulses later high r k late =
    list_any-append (pulse_pulls begin (known_at t (reading_of low begin)).ended (was_low low t) t) pulses later
    ∙ ap (λ b. list_any (pulse_pulls begin (known_at t (reading_of low begin)).ended (was_low low t) t) pulses || b)
    (list_any_none (pulse_pulls begin (known_at t (reading_of low begin)).ended (was_low low t) t) later
    (λ i d m. is_late begin low rest until t (slice_index_or later i d) high r k (late i d m)))
    ∙ or_false (list_any (pulse_pulls begin (known_at t (reading_of low begin)).ended (was_low low t) t) pulses)

pub round_more : RoundsStay
round_more seats begin until pulses later o high c late r = record {
  line = λ t. r.line t ∙ same t;
  starts = r.starts;
  ends = r.ends;
  ending = r.ending;
  bits = r.bits;
  survivors = r.survivors;
  losers = r.losers;
  rest = r.rest;
}
  where
    rests : o.rest < until
    rests = omega (arith, c)

    ends : (reading_of (line_of o.wave) begin).until < until
    ends = omega (arith, c, r.ends, until_by (line_of o.wave) begin)

    same : (t : ℕ) → is_pulled seats begin pulses (was_low (line_of o.wave) t) (known_at t (reading_of (line_of o.wave) begin)) t
        ≡ is_pulled seats begin (pulses ++ later) (was_low (line_of o.wave) t) (known_at t (reading_of (line_of o.wave) begin)) t
    same t = rw (none_late begin (line_of o.wave) o.rest until t pulses later high rests ends late) refl

-- From its rest on a round's line is high.
rests_high : (s : NetState) (begin : ℕ) (o : Outcome) → AreFramed s → IsWave s.pulses → next_start s ≡ Some begin → IsWave o.wave → IsRound (seats_of s begin) begin s.pulses o
    → (u : ℕ) → o.rest ≤ u → line_of o.wave u ≡ false
rests_high s begin o framed order begins wave round =
    (rounds_are_lone.lone (seats_of s begin) begin s.pulses o (seats_fit s begin framed) order wave round (begun s begin begins)).after

-- ---- the next start

start_same : (least : Option ℕ) (ps later : List Stretch) (until b : ℕ) → sooner least (first_onset ps) ≡ Some b → b < until → All (λ p. until ≤ p.from) later
    → sooner least (first_onset (ps ++ later)) ≡ Some b
start_same least (p ∷ ps) later until b h l late = h
start_same least [] [] until b h l late = h
start_same None [] (q ∷ later) until b h l late = cc
start_same (Some t) [] (q ∷ later) until b h l late =
    let e : t ≡ b = cc in let x : until ≤ q.from = late zero q (omega arith) in
    let m : min t q.from ≡ b = omega (arith, e, x, l) in ap Some m

by_same : (least : Option ℕ) (ps later : List Stretch) (until at : ℕ) → is_by at (sooner least (first_onset ps)) ≡ true → at < until → All (λ p. until ≤ p.from) later
    → is_by at (sooner least (first_onset (ps ++ later))) ≡ true
by_same least (p ∷ ps) later until at h l late = h
by_same least [] [] until at h l late = h
by_same None [] (q ∷ later) until at h l late = let x : until ≤ q.from = late zero q (omega arith) in grind (arith, nat_tests)
by_same (Some t) [] (q ∷ later) until at h l late =
    let x : until ≤ q.from = late zero q (omega arith) in
    let y : nat_le at t ≡ true = h in
    let z : at ≤ t = grind (arith, nat_tests) in
    let w : at ≤ min t q.from = omega (arith, x, z, l) in grind (arith, nat_tests)

-- ---- the next turn

event_same : (until end at : ℕ) (s : NetState) (time : ℕ) (later : List Stretch) → turn_of until s (Some time) ≡ Apply at → until ≤ end → All (λ p. until ≤ p.from) later
    → turn_of end (with_pulses later s) (Some time) ≡ Apply at
event_same until end at s time later h e late = by_test (is_by m (next_start s)) refl h
  where
    m : ℕ
    m = max s.close time

    from_round : (o : Option ℕ) → round_turn until o ≡ Apply at → ⊥
    from_round None k = cc
    from_round (Some b) k = step (nat_lt b until) k
      where
        step : (t : Bool) → (if t then Round b else Stop) ≡ Apply at → ⊥
        step true l = cc
        step false l = cc

    by_time : (t : Bool) → nat_lt m until ≡ t → is_by m (next_start s) ≡ true → (if t then Apply m else Stop) ≡ Apply at
        → (if is_by m (next_start (with_pulses later s)) then event_turn end m else round_turn end (next_start (with_pulses later s))) ≡ Apply at
    by_time true g i k =
        let soon : m < until = grind (arith, nat_tests) in
        let here : m ≡ at = cc in
        let by : is_by m (next_start (with_pulses later s)) ≡ true = by_same (least_start s.rest s.devices) s.pulses later until m i soon late in
        let early : nat_lt m end ≡ true = (let x : m < end = omega (arith, soon, e) in grind (arith, nat_tests)) in
        rw (by, early) (ap Apply here)
    by_time false g i k = cc

    by_test : (t : Bool) → is_by m (next_start s) ≡ t → (if t then event_turn until m else round_turn until (next_start s)) ≡ Apply at
        → turn_of end (with_pulses later s) (Some time) ≡ Apply at
    by_test true i k = by_time (nat_lt m until) refl i k
    by_test false i k = absurd (from_round (next_start s) k)

-- where a round begins, the next event does not come before it
not_by : (until b : ℕ) (s : NetState) (time : ℕ) → turn_of until s (Some time) ≡ Round b → is_by (max s.close time) (next_start s) ≡ false
not_by until b s time h = by_test (is_by (max s.close time) (next_start s)) refl h
  where
    not_event : (t : Bool) → (if t then Apply (max s.close time) else Stop) ≡ Round b → ⊥
    not_event true k = cc
    not_event false k = cc

    by_test : (t : Bool) → is_by (max s.close time) (next_start s) ≡ t → (if t then event_turn until (max s.close time) else round_turn until (next_start s)) ≡ Round b
        → is_by (max s.close time) (next_start s) ≡ false
    by_test true i k = absurd (not_event (nat_lt (max s.close time) until) k)
    by_test false i k = i

rounds : (end b : ℕ) (o : Option ℕ) → o ≡ Some b → b < end → round_turn end o ≡ Round b
rounds end b o e l = let t : nat_lt b end ≡ true = grind (arith, nat_tests) in subst (λ x. round_turn end x ≡ Round b) (sym e) (rw t refl)

pub round_same : RoundTurnsStay
round_same until end b s xs events later h f = by_events xs events h f.scheduled
  where
    begins : (time : Option ℕ) → turn_of until s time ≡ Round b → (next_start (with_pulses later s) ≡ Some b) × (b < until)
    begins time k = let g = round_begins until s time b k in (start_same (least_start s.rest s.devices) s.pulses later until b g.0 g.1 f.begun, g.1)

    goes : (time : ℕ) → next_start (with_pulses later s) ≡ Some b → b < end → b < max s.close time → turn_of end (with_pulses later s) (Some time) ≡ Round b
    goes time e l m =
        let no : is_by (max s.close time) (next_start (with_pulses later s)) ≡ false =
        subst (λ o. is_by (max s.close time) o ≡ false) (sym e) (let x : nat_le (max s.close time) b ≡ false = grind (arith, nat_tests) in x) in
        rw no (rounds end b (next_start (with_pulses later s)) e l)

    by_events : (ys zs : List TimedEvent) → turn_of until s (first_time ys) ≡ Round b → All (λ e. until ≤ e.at) zs → turn_of end (with_pulses later s) (first_time (ys ++ zs)) ≡ Round b
    by_events [] [] k late = let g = begins None k in rounds end b (next_start (with_pulses later s)) g.0 (omega (arith, g.1, f.over))
    by_events [] (z ∷ zs) k late =
        let g = begins None k in let x : until ≤ z.at = late zero z (omega arith) in
        goes z.at g.0 (omega (arith, g.1, f.over)) (omega (arith, g.1, x))
    by_events (y ∷ ys) zs k late =
        let g = begins (Some y.at) k in
        let start : next_start s ≡ Some b = (round_begins until s (Some y.at) b k).0 in
        let no : nat_le (max s.close y.at) b ≡ false = subst (λ o. is_by (max s.close y.at) o ≡ false) start (not_by until b s y.at k) in
        let m : b < max s.close y.at = grind (arith, nat_tests) in
        goes y.at g.0 (omega (arith, g.1, f.over)) m

-- ---- an event

fault_same : (later : List Stretch) (s : NetState) (event : Event) → event_fault (with_pulses later s) event ≡ event_fault s event
fault_same later s (Plug child parent port) = refl
fault_same later s (Unplug child) = refl
fault_same later s (Key device key press) = refl
fault_same later s (Send device frame ticket) = refl
fault_same later s (SendNamed device names frame ticket) = refl
fault_same later s (Outside device act) = refl

sent_same : (later : List Stretch) (at device : ℕ) (frame : Option (List ℕ)) (ticket : Ticket) (s : NetState)
    → record (after_sent at device frame ticket (with_pulses later s)) { heard = None } ≡ with_pulses later (record (after_sent at device frame ticket s) { heard = None })
sent_same later at device None ticket s = refl
sent_same later at device (Some frame) ticket s = refl

unless_same : (later : List Stretch) (fault : Option EventError) (at : ℕ) (event : Event) (s : NetState)
    → applied_unless fault at event (with_pulses later s) ≡ with_pulses later (applied_unless fault at event s)
unless_same later (Some error) at event s = refl
unless_same later None at (Plug child parent port) s = refl
unless_same later None at (Unplug child) s = refl
unless_same later None at (Key device key press) s = refl
unless_same later None at (Send device frame ticket) s = refl
unless_same later None at (SendNamed device names frame ticket) s = sent_same later at device (named_frame s.devices names frame) ticket s
unless_same later None at (Outside device act) s = refl

applied_same : (later : List Stretch) (at : ℕ) (event : Event) (s : NetState) → net_after at event (with_pulses later s) ≡ with_pulses later (net_after at event s)
applied_same later at event s = ap (λ f. applied_unless f at event (with_pulses later s)) (fault_same later s event) ∙ unless_same later (event_fault s event) at event s

reported_same : (reporting : Reporting) (later : List Stretch) (at : ℕ) (e : TimedEvent) (s : NetState) → event_reported reporting at e (with_pulses later s) ≡ event_reported reporting at e s
reported_same (Trace edid) later at e s =
    ap₂ (λ f n. event_line at e.line f ++ port_lines at edid (is_on_wire s.tree) n) (fault_same later s e.event) (ap (λ (x : NetState). x.tree) (applied_same later at e.event s))
reported_same (Objects edid room) later at e s =
    ap₂ (λ f n. event_object room at e.line f ++ port_texts Json at edid (is_on_wire s.tree) n) (fault_same later s e.event) (ap (λ (x : NetState). x.tree) (applied_same later at e.event s))
reported_same (Line format) later at e s = refl

-- ---- turns with more to come

late_kept : (rest until : ℕ) (later : List Stretch) → rest < until → All (λ p. until ≤ p.from) later → filter (λ p. nat_lt rest p.from) later ≡ later
late_kept rest until [] l late = refl
late_kept rest until (p ∷ later) l late =
    let x : until ≤ p.from = late zero p (omega arith) in
    let e : nat_lt rest p.from ≡ true = grind (arith, nat_tests) in
    rw e (ap (λ (ps : List Stretch). p ∷ ps) (late_kept rest until later l (λ k d m. late (suc k) d (omega (arith, m)))))

after_more : (s : NetState) (begin until : ℕ) (o : Outcome) (later : List Stretch) → o.rest < until → All (λ p. until ≤ p.from) later
    → with_pulses later (after_round s begin o) ≡ after_round (with_pulses later s) begin o
after_more s begin until o later l late =
    let same : filter (λ p. nat_lt o.rest p.from) s.pulses ++ later ≡ filter (λ p. nat_lt o.rest p.from) (s.pulses ++ later) =
    ap (λ (ps : List Stretch). filter (λ p. nat_lt o.rest p.from) s.pulses ++ ps) (sym (late_kept o.rest until later l late)) ∙ sym (filter-append (λ p. nat_lt o.rest p.from) s.pulses later) in
    ap (λ (ps : List Stretch). let n : NetState = record { tree = s.tree; devices = devices_after s.rest begin o s.devices; pulses = ps; close = close_in o; rest = o.rest; heard = None } in n) same

round_turn_more : (reporting : Reporting) (begin until : ℕ) (s after : NetState) (later : List Stretch) (t u : Totals) (text : List ℕ) → IsWave s.pulses → AreFramed s → next_start s ≡ Some begin
    → after.close < until → All (λ p. until ≤ p.from) later → IsRoundTurn reporting begin s t text after u → IsRoundTurn reporting begin (with_pulses later s) t text (with_pulses later after) u
round_turn_more reporting begin until s after later t u text order framed begins closed late r = record {
  outcome = r.outcome;
  wave = r.wave;
  next = record {
    round = round_more (seats_of s begin) begin until s.pulses later r.outcome
        (rests_high s begin r.outcome framed order begins r.wave r.next.round) soon late r.next.round;
    after_is = ap (with_pulses later) r.next.after_is ∙ after_more s begin until r.outcome later (omega (arith, soon)) late;
  };
  reported = r.reported;
  totals = r.totals;
}
  where
    soon : close_in r.outcome < until
    soon = let e : after.close ≡ close_in r.outcome = ap (λ (n : NetState). n.close) r.next.after_is in omega (arith, closed, e)

-- what a place in a run has to have
record IsReady (c : Config) : Type 0 where
  order : IsWave c.net.pulses
  framed : AreFramed c.net
  events : AreFramedEvents c.events

-- a turn with more to come
record IsMore (reporting : Reporting) (until end : ℕ) (events : List TimedEvent) (later : List Stretch) (c d : Config) (text : List ℕ) : Type 0 where
  turn : IsTurn reporting end (with_more events later c) text (with_more events later d)
  over : IsOverBy end (turn_at end (with_more events later c)) (with_more events later d)
  ready : IsReady d

no_event : (until at : ℕ) (o : Option ℕ) → round_turn until o ≡ Apply at → ⊥
no_event until at None k = cc
no_event until at (Some b) k = step (nat_lt b until) k
  where
    step : (t : Bool) → (if t then Round b else Stop) ≡ Apply at → ⊥
    step true l = cc
    step false l = cc

event_more : (reporting : Reporting) (until end at : ℕ) (xs events : List TimedEvent) (later : List Stretch) (c d : Config) (text : List ℕ) → c.events ≡ xs → IsReady c
    → turn_of until c.net (first_time xs) ≡ Apply at → ComesFrom until events later end → IsEventTurn reporting at xs c text d
    → (turn_of end (with_pulses later c.net) (first_time (xs ++ events)) ≡ Apply at)
    × IsEventTurn reporting at (xs ++ events) (with_more events later c) text (with_more events later d) × IsReady d
event_more reporting until end at [] events later c d text same r h f t = absurd (no_event until at (next_start c.net) h)
event_more reporting until end at (x ∷ xs) events later c d text same r h f t =
    let framed : AreFramedEvents (x ∷ xs) = subst AreFramedEvents same r.events in
    let net : d.net ≡ net_after at x.event c.net = ap (λ (e : Config). e.net) t.1 in
    let kept = event_keeps at x.event c.net d.net net in (
      event_same until end at c.net x.at later h f.over f.begun,
      (
        t.0 ∙ sym (reported_same reporting later at x c.net),
        ap (with_more events later) t.1
            ∙ ap₂ (λ n fault. let e : Config = record { net = n; events = xs ++ events; totals = counted_event fault c.totals } in e)
            (sym (applied_same later at x.event c.net)) (sym (fault_same later c.net x.event)),
      ),
      record {
        order = subst (λ (ps : List Stretch). IsWave ps) (sym kept.pulses) r.order;
        framed = subst AreFramed (sym net) (framed-applied at x.event c.net framed.0 r.framed);
        events = subst AreFramedEvents (sym (ap (λ (e : Config). e.events) t.1)) framed.1;
      },
    )

turn_more : (reporting : Reporting) (until end : ℕ) (events : List TimedEvent) (later : List Stretch) (c d : Config) (text : List ℕ) (turn : Turn) → IsReady c → turn_at until c ≡ turn
    → ComesFrom until events later end → IsTurnBy reporting turn c text d → IsOverBy until turn d → IsMore reporting until end events later c d text
turn_more reporting until end events later c d text Stop r h f t o = absurd t
turn_more reporting until end events later c d text (Apply at) r h f t o =
    let m = event_more reporting until end at c.events events later c d text refl r h f t in
    record {
      turn = subst (λ turn. IsTurnBy reporting turn (with_more events later c) text (with_more events later d)) (sym m.0) m.1;
      over = subst (λ turn. IsOverBy end turn (with_more events later d)) (sym m.0) tt;
      ready = m.2;
    }
turn_more reporting until end events later c d text (Round begin) r h f t o =
    let same : turn_at end (with_more events later c) ≡ Round begin = round_same until end begin c.net c.events events later h f in
    let starts : next_start c.net ≡ Some begin = (round_begins until c.net (first_time c.events) begin h).0 in
    let round = round_turn_more reporting begin until c.net d.net later c.totals d.totals text r.order r.framed starts o f.begun t.0 in
    record {
      turn = subst (λ turn. IsTurnBy reporting turn (with_more events later c) text (with_more events later d)) (sym same) (round, ap (λ (xs : List TimedEvent). xs ++ events) t.1);
      over = subst (λ turn. IsOverBy end turn (with_more events later d)) (sym same) (omega (arith, o, f.over));
      ready = record {
        order = subst (λ (n : NetState). IsWave n.pulses) (sym t.0.next.after_is) (wave_filter (λ (p : Stretch). nat_lt t.0.outcome.rest p.from) c.net.pulses r.order);
        framed = subst AreFramed (sym t.0.next.after_is) (framed-round c.net begin t.0.outcome r.framed);
        events = subst AreFramedEvents (sym t.1) r.events;
      };
    }

turns_certain : (reporting : Reporting) (until end turns : ℕ) (c d : Config) (text : List ℕ) (events : List TimedEvent) (later : List Stretch)
    → IsReady c → ComesFrom until events later end → LeadsBy reporting until turns c text d → Leads reporting end turns (with_more events later c) text (with_more events later d)
turns_certain reporting until end zero c d text events later r f l = (l.0, ap (with_more events later) l.1)
turns_certain reporting until end (suc turns) c d text events later r f (mid, reported, rest, turn, over, after, e) =
    let m = turn_more reporting until end events later c mid reported (turn_at until c) r refl f turn over in
    (with_more events later mid, reported, rest, m.turn, turns_certain reporting until end turns mid d rest events later m.ready f after, e)

stay_certain : (reporting : Reporting) (until on turns : ℕ) (c d : Config) (text : List ℕ) (events : List TimedEvent) (later : List Stretch)
    → IsReady c → ComesFrom until events later on → LeadsBy reporting until turns c text d → LeadsBy reporting on turns (with_more events later c) text (with_more events later d)
stay_certain reporting until on zero c d text events later r f l = (l.0, ap (with_more events later) l.1)
stay_certain reporting until on (suc turns) c d text events later r f (mid, reported, rest, turn, over, after, e) =
    let m = turn_more reporting until on events later c mid reported (turn_at until c) r refl f turn over in
    (with_more events later mid, reported, rest, m.turn, m.over, stay_certain reporting until on turns mid d rest events later m.ready f after, e)

pub turns_are_certain : TurnsAreCertain
turns_are_certain reporting until end turns c d text events later order framed known f l =
    turns_certain reporting until end turns c d text events later (record { order = order; framed = framed; events = known }) f l

pub turns_stay_certain : TurnsStayCertain
turns_stay_certain reporting until on turns c d text events later order framed known f l =
    stay_certain reporting until on turns c d text events later (record { order = order; framed = framed; events = known }) f l

-- ---- the front of the text

started_same : (reporting : Reporting) (tree : List Node) (pulses later : List Stretch) → start_reported reporting (first_net tree (pulses ++ later)) ≡ start_reported reporting (first_net tree pulses)
started_same (Trace edid) tree pulses later = refl
started_same (Objects edid room) tree pulses later = refl
started_same (Line format) tree pulses later = refl

pub reported_is_front : ReportedIsFront
reported_is_front reporting tree pulses later known events until end turns d body whole totals order framed f l w =
    let leads = turns_are_certain reporting until end turns (start (first_net tree pulses) known) d body events later order (framed-started tree pulses) framed f l in
    let front = front_of_text reporting end turns (start (first_net tree (pulses ++ later)) (known ++ events)) (with_more events later d) body w.rest totals leads w.run in (
      front.0,
      w.whole ∙ ap₂ (λ a b. a ++ b) (started_same reporting tree pulses later) front.1 ∙ sym (append_assoc (start_reported reporting (first_net tree pulses)) body front.0),
    )
