-- Why a run has few rounds.
use Rattle.std.proofs.Common.{◌≡◌, ℕ, zero, suc, ◌+◌, Bool, true, false, List, [], ◌∷◌, length, Option, Some, None, refl, sym, ap, ◌∙◌, subst, arith}
use Rattle.room_event.specs.declared.event.EventError.{EventError}
use Rattle.room_net.specs.State.{NetState, first_net}
use Rattle.room_net.specs.Line.{Move, Happens, Goes, Moves, rounds_of}
use Rattle.room_net.specs.Few.{BeginBefore}
use Rattle.room_net.proofs.Few.{runs_are_short}
use Rattle.room_script.specs.Script.{AreFramedEvents}
use Rattle.room_script.specs.declared.script.TimedEvent.{TimedEvent}
use Rattle.room_run.specs.declared.run.Reporting.{Reporting}
use Rattle.room_run.specs.declared.run.Totals.{Totals}
use Rattle.room_run.specs.declared.run.Turn.{Turn}
use Rattle.room_run.specs.declared.run.Turn.TheVariants.{Stop, Apply, Round}
use Rattle.room_run.specs.Run.{Config, start, turn_at, first_time, counted_event, counted_round, IsEventTurn, IsTurnBy, Leads}
use Rattle.room_run.specs.RunLine.{RunsAreShort}
use Rattle.room_run.proofs.Advance.{round_begins}

event-rounds : (fault : Option EventError) (t : Totals) → (counted_event fault t).rounds ≡ t.rounds
event-rounds None t = refl
event-rounds (Some error) t = refl

round-rounds : (whole : Bool) (t : Totals) → (counted_round whole t).rounds ≡ t.rounds + 1
round-rounds true t = refl
round-rounds false t = refl

-- the moves of a run, all before its end, with as many rounds as it counts
record IsCounted (end : ℕ) (c d : Config) : Type 0 where
  moves : List Move
  goes : Moves c.net moves d.net
  before : BeginBefore end moves
  counts : d.totals.rounds ≡ c.totals.rounds + length (rounds_of moves)

by_event : (reporting : Reporting) (end at : ℕ) (events : List TimedEvent) (c d last : Config) (text : List ℕ) → IsEventTurn reporting at events c text d → c.events ≡ events
    → AreFramedEvents events → (AreFramedEvents d.events → IsCounted end d last) → IsCounted end c last
by_event reporting end at [] c d last text t same f k =
    let m : IsCounted end d last = k (subst AreFramedEvents (sym (ap (λ (x : Config). x.events) t.1 ∙ same)) tt) in
    subst (λ (x : Config). IsCounted end x last) t.1 m
by_event reporting end at (e ∷ events) c d last text t same f k =
    let m : IsCounted end d last = k (subst AreFramedEvents (sym (ap (λ (x : Config). x.events) t.1)) f.1) in
    let n = subst (λ (x : Config). IsCounted end x last) t.1 m in
    record { moves = Happens at e.event ∷ n.moves; goes = (f.0, n.goes); before = n.before; counts = n.counts ∙ ap (λ r. r + length (rounds_of n.moves)) (event-rounds _ c.totals) }

by_turn : (reporting : Reporting) (end : ℕ) (turn : Turn) (c d last : Config) (text : List ℕ) → turn_at end c ≡ turn → IsTurnBy reporting turn c text d
    → AreFramedEvents c.events → (AreFramedEvents d.events → IsCounted end d last) → IsCounted end c last
by_turn reporting end Stop c d last text same t f k = absurd t
by_turn reporting end (Apply at) c d last text same t f k = by_event reporting end at c.events c d last text t refl f k
by_turn reporting end (Round begin) c d last text same t f k =
    let m : IsCounted end d last = k (subst AreFramedEvents (sym t.1) f) in
    let begins = round_begins end c.net (first_time c.events) begin same in
    let more : d.totals.rounds ≡ c.totals.rounds + 1 = ap (λ (x : Totals). x.rounds) t.0.totals ∙ round-rounds _ c.totals in
    let counted : last.totals.rounds ≡ d.totals.rounds + length (rounds_of m.moves) = m.counts in
    record {
      moves = Goes begin t.0.outcome ∷ m.moves;
      goes = (record { begins = begins.0; wave = t.0.wave; round = t.0.next.round }, subst (λ (s : NetState). Moves s m.moves last.net) t.0.next.after_is m.goes);
      before = (begins.1, m.before);
      counts = omega (arith, more, counted);
    }

counted : (reporting : Reporting) (end turns : ℕ) (c d : Config) (text : List ℕ) → Leads reporting end turns c text d → AreFramedEvents c.events → IsCounted end c d
counted reporting end zero c d text l f = record { moves = []; goes = ap (λ (x : Config). x.net) l.1; before = tt; counts = (let e : d.totals.rounds ≡ c.totals.rounds = ap (λ (x : Config). x.totals.rounds) l.1 in omega (arith, e)) }
counted reporting end (suc turns) c d text l f = by_turn reporting end (turn_at end c) c l.0 d l.1 refl l.3 f (λ g. counted reporting end turns l.0 d l.2 l.4 g)

pub runs_short : RunsAreShort
runs_short reporting tree pulses events end text totals order framed trace =
    let m = counted reporting end trace.run.turns (start (first_net tree pulses) events) trace.run.last trace.run.body trace.run.leads framed in
    let few = runs_are_short (first_net tree pulses) trace.run.last.net m.moves end order (λ k p l. omega arith) m.goes m.before in
    let reported : totals.rounds ≡ trace.run.last.totals.rounds = ap (λ (x : Totals). x.rounds) trace.run.counts in
    omega (arith, few, reported, m.counts)
