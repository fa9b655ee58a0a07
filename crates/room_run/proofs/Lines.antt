-- The line of a run that turns lead along is read round by round.
use Rattle.std.proofs.Common.{◌≡◌, ℕ, zero, suc, max, false, List, [], ◌∷◌, ◌++◌, map, refl, sym, ap, ◌∙◌, subst, arith}
use Rattle.line_wave.specs.Line.{line_of, IsWave}
use Rattle.line_reading.specs.Readings.{readings_of}
use Rattle.line_rounds.specs.declared.Outcome.{Outcome}
use Rattle.line_rounds.specs.Alone.{outcome_listed}
use Rattle.room_net.specs.State.{NetState, first_net}
use Rattle.room_net.specs.Apply.{net_after}
use Rattle.room_net.specs.Step.{after_round}
use Rattle.room_net.specs.Line.{Move, Happens, Goes, Moves, rounds_of, run_wave}
use Rattle.room_net.proofs.Framed.{framed-started}
use Rattle.room_net.proofs.Lines.{runs_are_over, runs_are_read, runs_are_waves}
use Rattle.room_script.specs.Script.{AreFramedEvents}
use Rattle.room_script.specs.declared.script.TimedEvent.{TimedEvent}
use Rattle.room_run.specs.declared.run.Turn.{Turn}
use Rattle.room_run.specs.declared.run.Turn.TheVariants.{Stop, Apply, Round}
use Rattle.room_run.specs.declared.run.Reporting.{Reporting}
use Rattle.room_run.specs.Run.{Config, start, turn_at, first_time, IsEventTurn, IsTurnBy, Leads}
use Rattle.room_run.specs.RunLine.{rounds_by, rounds_in, RunsAreRead}
use Rattle.room_run.proofs.Advance.{round_begins}

-- the moves of a run, with these rounds
record IsMoved (s t : NetState) (os : List Outcome) : Type 0 where
  moves : List Move
  goes : Moves s moves t
  rounds : rounds_of moves ≡ os

-- an event's turn, and then the rest
by_event : (reporting : Reporting) (at : ℕ) (events : List TimedEvent) (c d last : Config) (text : List ℕ) (os : List Outcome) → IsEventTurn reporting at events c text d → c.events ≡ events
    → AreFramedEvents events → (AreFramedEvents d.events → IsMoved d.net last.net os) → IsMoved c.net last.net os
by_event reporting at [] c d last text os t same f k =
    let m : IsMoved d.net last.net os = k (subst AreFramedEvents (sym (ap (λ (x : Config). x.events) t.1 ∙ same)) tt) in
    subst (λ (s : NetState). IsMoved s last.net os) (ap (λ (x : Config). x.net) t.1) m
by_event reporting at (e ∷ events) c d last text os t same f k =
    let m : IsMoved d.net last.net os = k (subst AreFramedEvents (sym (ap (λ (x : Config). x.events) t.1)) f.1) in
    let n : IsMoved (net_after at e.event c.net) last.net os = subst (λ (s : NetState). IsMoved s last.net os) (ap (λ (x : Config). x.net) t.1) m in
    record { moves = Happens at e.event ∷ n.moves; goes = (f.0, n.goes); rounds = n.rounds }

-- some turn, and then the rest
by_turn : (reporting : Reporting) (end : ℕ) (turn : Turn) (c d last : Config) (text : List ℕ) (os : List Outcome) → turn_at end c ≡ turn → (t : IsTurnBy reporting turn c text d)
    → AreFramedEvents c.events → (AreFramedEvents d.events → IsMoved d.net last.net os) → IsMoved c.net last.net (rounds_by reporting turn c text d t ++ os)
by_turn reporting end Stop c d last text os same t f k = absurd t
by_turn reporting end (Apply at) c d last text os same t f k = by_event reporting at c.events c d last text os t refl f k
by_turn reporting end (Round begin) c d last text os same t f k =
    let m : IsMoved d.net last.net os = k (subst AreFramedEvents (sym t.1) f) in
    let n : IsMoved (after_round c.net begin t.0.outcome) last.net os = subst (λ (s : NetState). IsMoved s last.net os) t.0.next.after_is m in
    record {
      moves = Goes begin t.0.outcome ∷ n.moves;
      goes = (record { begins = (round_begins end c.net (first_time c.events) begin same).0; wave = t.0.wave; round = t.0.next.round }, n.goes);
      rounds = ap (λ xs. t.0.outcome ∷ xs) n.rounds;
    }

moved : (reporting : Reporting) (end turns : ℕ) (c d : Config) (text : List ℕ) (l : Leads reporting end turns c text d) → AreFramedEvents c.events
    → IsMoved c.net d.net (rounds_in reporting end turns c text d l)
moved reporting end zero c d text l f = record { moves = []; goes = ap (λ (x : Config). x.net) l.1; rounds = refl }
moved reporting end (suc turns) c d text l f =
    by_turn reporting end (turn_at end c) c l.0 d l.1 (rounds_in reporting end turns l.0 l.2 d l.4) refl l.3 f (λ g. moved reporting end turns l.0 d l.2 l.4 g)

pub runs_read : RunsAreRead
runs_read reporting tree pulses events end turns text d order framed leads =
    let m = moved reporting end turns (start (first_net tree pulses) events) d text leads framed in
    record {
      wave = subst (λ (os : List Outcome). IsWave (run_wave os)) m.rounds (runs_are_waves (first_net tree pulses) d.net m.moves order (framed-started tree pulses) m.goes);
      over = λ u l. subst (λ (os : List Outcome). line_of (run_wave os) u ≡ false) m.rounds (runs_are_over (first_net tree pulses) d.net m.moves order (framed-started tree pulses) m.goes u (omega (arith, l)));
      readings = subst (λ (os : List Outcome). readings_of (line_of (run_wave os)) (max end d.net.close) ≡ map outcome_listed os) m.rounds
          (runs_are_read (first_net tree pulses) d.net m.moves (max end d.net.close) order (framed-started tree pulses) m.goes (omega arith));
    }
