-- The rounds of a run, turn by turn, and what holds of them.
use Rattle.std.proofs.Common.{◌≡◌, ℕ, zero, suc, ◌≤◌, nat_lt, List, [], ◌∷◌, ◌++◌, Some, refl, sym, ap, subst}
use Rattle.line_wave.specs.declared.Stretch.{Stretch}
use Rattle.line_wave.specs.Line.{IsWave}
use Rattle.line_reading.specs.Readings.{IsLone}
use Rattle.line_rounds.specs.declared.Outcome.{Outcome}
use Rattle.line_rounds.specs.Alone.{RoundsAreLone, part_of}
use Rattle.room_script.specs.Script.{AreFramedEvents, IsSchedule}
use Rattle.room_script.specs.declared.script.TimedEvent.{TimedEvent}
use Rattle.room_net.specs.State.{NetState, next_start}
use Rattle.room_net.specs.Step.{after_round, seats_of}
use Rattle.room_net.specs.Apply.{net_after}
use Rattle.room_net.specs.Framed.{AreFramed}
use Rattle.room_net.specs.Line.{Move, Happens, Goes, Moves, rounds_of}
use Rattle.room_run.specs.declared.run.Reporting.{Reporting}
use Rattle.room_run.specs.declared.run.Turn.{Turn}
use Rattle.room_run.specs.declared.run.Turn.TheVariants.{Stop, Apply, Round}
use Rattle.room_run.specs.Run.{Config, first_time, turn_at, IsEventTurn, IsTurn, IsTurnBy, Leads}
use Rattle.room_run.specs.RunLine.{rounds_by, rounds_in}
use Rattle.live_session.proofs.Below.{begun, event_keeps, framed-applied, framed-round, round_begins, seats_fit, wave_filter}
use Rattle.live_session.proofs.LaterStarts.{AreSettled, settled_event, settled_round}

-- ---- turn by turn

-- so many turns lead along these rounds
abbrev pub RunsTo : Reporting → ℕ → ℕ → Config → List Outcome → Config → Type 0
RunsTo reporting end zero c os d = (os ≡ []) × (d ≡ c)
RunsTo reporting end (suc turns) c os d =
    (mid : Config) × (line : List ℕ) × (rest : List Outcome) × (turn : IsTurn reporting end c line mid) × RunsTo reporting end turns mid rest d
    × (os ≡ rounds_by reporting (turn_at end c) c line mid turn ++ rest)

pub of_leads : (reporting : Reporting) (end turns : ℕ) (c d : Config) (text : List ℕ) (l : Leads reporting end turns c text d) → RunsTo reporting end turns c (rounds_in reporting end turns c text d l) d
of_leads reporting end zero c d text l = (refl, l.1)
of_leads reporting end (suc turns) c d text l = (l.0, l.1, rounds_in reporting end turns l.0 l.2 d l.4, l.3, of_leads reporting end turns l.0 d l.2 l.4, refl)

-- ---- what every place in a run has

pub record IsRunning (c : Config) : Type 0 where
  pub order : IsWave c.net.pulses
  pub framed : AreFramed c.net
  pub events : AreFramedEvents c.events
  pub settled : AreSettled c.net

running_event : (reporting : Reporting) (at : ℕ) (events : List TimedEvent) (c d : Config) (line : List ℕ) → c.events ≡ events → IsEventTurn reporting at events c line d → IsRunning c → IsRunning d
running_event reporting at [] c d line same t r = subst IsRunning (sym t.1) r
running_event reporting at (e ∷ events) c d line same t r =
    let framed : AreFramedEvents (e ∷ events) = subst AreFramedEvents same r.events in
    let net : d.net ≡ net_after at e.event c.net = ap (λ (x : Config). x.net) t.1 in
    record {
      order = subst (λ (ps : List Stretch). IsWave ps) (sym (event_keeps at e.event c.net d.net net).pulses) r.order;
      framed = subst AreFramed (sym net) (framed-applied at e.event c.net framed.0 r.framed);
      events = subst AreFramedEvents (sym (ap (λ (x : Config). x.events) t.1)) framed.1;
      settled = subst AreSettled (sym net) (settled_event at e.event c.net r.settled);
    }

pub running_turn : (reporting : Reporting) (turn : Turn) (c d : Config) (line : List ℕ) → IsTurnBy reporting turn c line d → IsRunning c → IsRunning d
running_turn reporting Stop c d line t r = absurd t
running_turn reporting (Apply at) c d line t r = running_event reporting at c.events c d line refl t r
running_turn reporting (Round begin) c d line t r =
    let net : d.net ≡ after_round c.net begin t.0.outcome = t.0.next.after_is in
    record {
      order = subst (λ (n : NetState). IsWave n.pulses) (sym net) (wave_filter (λ (p : Stretch). nat_lt t.0.outcome.rest p.from) c.net.pulses r.order);
      framed = subst AreFramed (sym net) (framed-round c.net begin t.0.outcome r.framed);
      events = subst AreFramedEvents (sym t.1) r.events;
      settled = subst AreSettled (sym net) (settled_round c.net begin t.0.outcome r.settled);
    }

-- ---- the events that are left are in order

abbrev pub AreRisingFrom : ℕ → List TimedEvent → Type 0
AreRisingFrom from [] = Unit {0}
AreRisingFrom from (e ∷ events) = (from ≤ e.at) × AreRisingFrom e.at events

abbrev pub AreRising : List TimedEvent → Type 0
AreRising [] = Unit {0}
AreRising (e ∷ events) = AreRisingFrom e.at events

pub rising_of : (count end from : ℕ) (events : List TimedEvent) → IsSchedule count end from events → AreRising events
rising_of count end from [] s = tt
rising_of count end from (e ∷ events) s = rest e.at events s.3
  where
    rest : (from : ℕ) (es : List TimedEvent) → IsSchedule count end from es → AreRisingFrom from es
    rest from [] k = tt
    rest from (x ∷ es) k = (k.0, rest x.at es k.3)

rising_rest : (from : ℕ) (events : List TimedEvent) → AreRisingFrom from events → AreRising events
rising_rest from [] r = tt
rising_rest from (e ∷ events) r = r.1

rising_event : (reporting : Reporting) (at : ℕ) (events : List TimedEvent) (c d : Config) (line : List ℕ) → c.events ≡ events → IsEventTurn reporting at events c line d → AreRising c.events → AreRising d.events
rising_event reporting at [] c d line same t r = subst (λ (x : Config). AreRising x.events) (sym t.1) r
rising_event reporting at (e ∷ events) c d line same t r =
    subst AreRising (sym (ap (λ (x : Config). x.events) t.1)) (rising_rest e.at events (subst AreRising same r))

-- what a place that the lines so far lead to has
pub record IsKnown (c : Config) : Type 0 where
  pub running : IsRunning c
  pub rising : AreRising c.events

pub known_turn : (reporting : Reporting) (turn : Turn) (c d : Config) (line : List ℕ) → IsTurnBy reporting turn c line d → IsKnown c → IsKnown d
known_turn reporting Stop c d line t k = absurd t
known_turn reporting (Apply at) c d line t k = record { running = running_turn reporting (Apply at) c d line t k.running; rising = rising_event reporting at c.events c d line refl t k.rising }
known_turn reporting (Round begin) c d line t k = record { running = running_turn reporting (Round begin) c d line t k.running; rising = subst AreRising (sym t.1) k.rising }

-- ---- its moves, and each round's line by itself

abbrev pub AreLone : List Outcome → Type 0
AreLone [] = Unit {0}
AreLone (o ∷ os) = IsLone (part_of o) × IsWave o.wave × AreLone os

pub record IsMoved (s t : NetState) (os : List Outcome) : Type 0 where
  pub moves : List Move
  pub goes : Moves s moves t
  pub rounds : rounds_of moves ≡ os
  pub lone : AreLone os

by_event : (reporting : Reporting) (at : ℕ) (events : List TimedEvent) (c d last : Config) (line : List ℕ) (os : List Outcome) → IsEventTurn reporting at events c line d → AreFramedEvents events
    → IsMoved d.net last.net os → IsMoved c.net last.net os
by_event reporting at [] c d last line os t f m = subst (λ (s : NetState). IsMoved s last.net os) (ap (λ (x : Config). x.net) t.1) m
by_event reporting at (e ∷ events) c d last line os t f m =
    let n : IsMoved (net_after at e.event c.net) last.net os = subst (λ (s : NetState). IsMoved s last.net os) (ap (λ (x : Config). x.net) t.1) m in
    record { moves = Happens at e.event ∷ n.moves; goes = (f.0, n.goes); rounds = n.rounds; lone = n.lone }

by_turn : RoundsAreLone → (reporting : Reporting) (end : ℕ) (turn : Turn) (c d last : Config) (line : List ℕ) (os : List Outcome) → turn_at end c ≡ turn → (t : IsTurnBy reporting turn c line d)
    → IsRunning c → IsMoved d.net last.net os → IsMoved c.net last.net (rounds_by reporting turn c line d t ++ os)
by_turn lone reporting end Stop c d last line os same t r m = absurd t
by_turn lone reporting end (Apply at) c d last line os same t r m = by_event reporting at c.events c d last line os t r.events m
by_turn lone reporting end (Round begin) c d last line os same t r m =
    let n : IsMoved (after_round c.net begin t.0.outcome) last.net os = subst (λ (s : NetState). IsMoved s last.net os) t.0.next.after_is m in
    let begins : next_start c.net ≡ Some begin = (round_begins end c.net (first_time c.events) begin same).0 in
    record {
      moves = Goes begin t.0.outcome ∷ n.moves;
      goes = (record { begins = begins; wave = t.0.wave; round = t.0.next.round }, n.goes);
      rounds = ap (λ xs. t.0.outcome ∷ xs) n.rounds;
      lone = (lone.lone (seats_of c.net begin) begin c.net.pulses t.0.outcome (seats_fit c.net begin r.framed) r.order t.0.wave t.0.next.round (begun c.net begin begins), t.0.wave, n.lone);
    }

pub moved : RoundsAreLone → (reporting : Reporting) (end turns : ℕ) (c d : Config) (os : List Outcome) → RunsTo reporting end turns c os d → IsRunning c → IsMoved c.net d.net os
moved lone reporting end zero c d os (none, same) r = record { moves = []; goes = ap (λ (x : Config). x.net) same; rounds = sym none; lone = subst AreLone (sym none) tt }
moved lone reporting end (suc turns) c d os (mid, line, rest, turn, after, e) r =
    let m = moved lone reporting end turns mid d rest after (running_turn reporting (turn_at end c) c mid line turn r) in
    subst (λ (xs : List Outcome). IsMoved c.net d.net xs) (sym e) (by_turn lone reporting end (turn_at end c) c mid d line rest refl turn r m)
