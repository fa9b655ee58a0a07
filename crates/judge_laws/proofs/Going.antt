-- What holds of the turns of a run that texts spell.
use Rattle.std.proofs.Common.{◌≡◌, ℕ, zero, suc, List, [], ◌∷◌, ◌++◌, Result, Ok, refl, sym, ap, ap₂, subst, ◌∙◌, append_assoc}
use Rattle.std.specs.List.{flat_map}
use Rattle.line_rounds.specs.declared.Outcome.{Outcome}
use Rattle.line_rounds.specs.OneOutcome.{OneOutcome}
use Rattle.text_core.specs.declared.at.At.{At}
use Rattle.room_net.specs.State.{first_net}
use Rattle.room_net.specs.Step.{after_round, seats_of}
use Rattle.room_script.specs.Script.{Course, IsScriptRead}
use Rattle.room_script.specs.Topology.{Plan, topology_of}
use Rattle.room_script.specs.declared.script.ScriptCause.{ScriptCause}
use Rattle.room_script.specs.declared.script.TimedEvent.{TimedEvent}
use Rattle.room_script.specs.declared.topology.TopologyCause.{TopologyCause}
use Rattle.room_script.proofs.OneReading.{one_script}
use Rattle.message_text.specs.ReadingText.{is_complete}
use Rattle.room_run.specs.declared.run.Reporting.{Reporting}
use Rattle.room_run.specs.declared.run.Turn.{Turn}
use Rattle.room_run.specs.declared.run.Turn.TheVariants.{Stop, Apply, Round}
use Rattle.room_run.specs.Emulate.{IsAccepted}
use Rattle.room_run.specs.Happening.{Goes, Happening, Happens, HappensBy, IsRoundOf, after_event}
use Rattle.room_run.specs.Run.{Config, IsEventTurn, IsTurn, IsTurnBy, Leads, counted_round, start, turn_at}
use Rattle.room_run.specs.RunLine.{rounds_by, rounds_in}
use Rattle.room_run.proofs.Turns.{same_outcome}
use Rattle.expect_told.specs.Turns.{IsRunOf}
use Rattle.judge_laws.specs.Told.{applied_in, outcomes_in}

-- ---- what accepted texts spell is one

pub same_plan : (p q : Plan) (r : Result Plan (At TopologyCause)) → r ≡ Ok p → r ≡ Ok q → q ≡ p
same_plan p q r a b = cc

pub same_course : (a b : Course) → ◌≡◌ {A = Result Course (At ScriptCause)} (Ok a) (Ok b) → a ≡ b
same_course a b e = cc

pub record GoesSo (plan : Plan) (course : Course) (happened : List Happening) (last : Config) : Type 0 where
  pub goes : Goes course.end (start (first_net plan.tree course.pulses) course.events) happened last
  pub stops : turn_at course.end last ≡ Stop

pub same_run : (topology plain : List ℕ) (happened : List Happening) (last : Config) (plan : Plan) (course : Course) → IsAccepted topology plain plan course → IsRunOf topology plain happened last
    → GoesSo plan course happened last
same_run topology plain happened last plan course a q =
    let same : q.plan ≡ plan = same_plan plan q.plan (topology_of topology) a.plan_is q.accepted.plan_is in
    let read : IsScriptRead plan.tree plain (Ok q.course) = subst (λ (x : Plan). IsScriptRead x.tree plain (Ok q.course)) same q.accepted.course_is in
    let one : q.course ≡ course = same_course q.course course (one_script plan.tree plain course (Ok q.course) a.course_is read) in
    record {
      goes = subst (λ (x : Plan). Goes course.end (start (first_net x.tree course.pulses) course.events) happened last) same
          (subst (λ (x : Course). Goes x.end (start (first_net q.plan.tree x.pulses) x.events) happened last) one q.goes);
      stops = subst (λ (x : Course). turn_at x.end last ≡ Stop) one q.stops;
    }

-- ---- the events, from the first on

applied_by : (turn : Turn) (c d : Config) (x : Happening) (xs : List TimedEvent) → HappensBy turn c x d → d.events ≡ xs → c.events ≡ applied_in x ++ xs
applied_by Stop c d x xs h e = absurd h
applied_by (Apply at) c d x xs h e =
    h.next ∙ ap (λ (es : List TimedEvent). h.event ∷ es) (sym (ap (λ (k : Config). k.events) h.after) ∙ e) ∙ sym (ap (λ (y : Happening). applied_in y ++ xs) h.is)
applied_by (Round begin) c d x xs h e = sym h.events ∙ e ∙ sym (ap (λ (y : Happening). applied_in y ++ xs) h.is)

pub in_order : (end : ℕ) (xs : List Happening) (c d : Config) → Goes end c xs d → c.events ≡ flat_map applied_in xs ++ d.events
in_order end [] c d h = sym (ap (λ (k : Config). k.events) h)
in_order end (x ∷ xs) c d (mid, step, rest) =
    applied_by (turn_at end c) c mid x (flat_map applied_in xs ++ d.events) step (in_order end xs mid d rest) ∙ sym (append_assoc (applied_in x) (flat_map applied_in xs) d.events)

-- ---- the rounds that a text of it reports

-- a turn reports the round of the turn, and leads to one place
abbrev IsSameTurn : (reporting : Reporting) (turn : Turn) (c : Config) (line : List ℕ) (d e : Config) (x : Happening) → IsTurnBy reporting turn c line d → Type 0
IsSameTurn reporting turn c line d e x t = (rounds_by reporting turn c line d t ≡ outcomes_in x) × (d ≡ e)

first_or : TimedEvent → List TimedEvent → TimedEvent
first_or event [] = event
first_or event (e ∷ events) = e

others_of : List TimedEvent → List TimedEvent
others_of [] = []
others_of (e ∷ events) = events

same_event : (reporting : Reporting) (at : ℕ) (events : List TimedEvent) (c d : Config) (line : List ℕ) (event : TimedEvent) (others : List TimedEvent) → IsEventTurn reporting at events c line d → events ≡ event ∷ others
    → d ≡ after_event at c event others
unfolding first_or others_of
same_event reporting at [] c d line event others t h = cc
same_event reporting at (e ∷ events) c d line event others t h =
    t.1 ∙ ap₂ (λ (v : TimedEvent) (vs : List TimedEvent). after_event at c v vs) (ap (first_or e) h) (ap others_of h)

same_round : OneOutcome → (reporting : Reporting) (begin : ℕ) (c d e : Config) (line : List ℕ) (x : Happening) → (t : IsTurnBy reporting (Round begin) c line d) → IsRoundOf begin c x e
    → IsSameTurn reporting (Round begin) c line d e x t
same_round one reporting begin c d e line x t h =
    let o = t.0.outcome in
    let same : o ≡ h.outcome = same_outcome o h.outcome (one (seats_of c.net begin) begin c.net.pulses o h.outcome t.0.wave h.wave t.0.next.round h.next.round) in
    let net : d.net ≡ e.net = t.0.next.after_is ∙ ap (after_round c.net begin) same ∙ sym h.next.after_is in
    let events : d.events ≡ e.events = t.1 ∙ sym h.events in
    let totals : d.totals ≡ e.totals = t.0.totals ∙ ap (λ (p : Outcome). counted_round (is_complete p.reading.ending) c.totals) same ∙ sym h.totals in (
      ap (λ (p : Outcome). p ∷ []) same ∙ sym (ap outcomes_in h.is),
      λ i. record { net = net i; events = events i; totals = totals i },
    )

same_turn : OneOutcome → (reporting : Reporting) (turn : Turn) (c d e : Config) (line : List ℕ) (x : Happening) → (t : IsTurnBy reporting turn c line d) → HappensBy turn c x e
    → IsSameTurn reporting turn c line d e x t
same_turn one reporting Stop c d e line x t h = absurd h
same_turn one reporting (Apply at) c d e line x t h = (sym (ap outcomes_in h.is), same_event reporting at c.events c d line h.event h.others t h.next ∙ sym h.after)
same_turn one reporting (Round begin) c d e line x t h = same_round one reporting begin c d e line x t h

no_turn : (end : ℕ) (c d : Config) (x : Happening) → turn_at end c ≡ Stop → Happens end c x d → ⊥
no_turn end c d x stops h = subst (λ turn. HappensBy turn c x d) stops h

none_told : (reporting : Reporting) (end : ℕ) (c d : Config) (line : List ℕ) → turn_at end c ≡ Stop → IsTurn reporting end c line d → ⊥
none_told reporting end c d line stops t = subst (λ turn. IsTurnBy reporting turn c line d) stops t

pub same_rounds : OneOutcome → (reporting : Reporting) (end turns : ℕ) (c d e : Config) (text : List ℕ) (xs : List Happening) → (l : Leads reporting end turns c text d) → Goes end c xs e
    → turn_at end d ≡ Stop → turn_at end e ≡ Stop → rounds_in reporting end turns c text d l ≡ flat_map outcomes_in xs
same_rounds one reporting end zero c d e text [] l h s t = refl
same_rounds one reporting end zero c d e text (x ∷ xs) l (mid, step, rest) s t = absurd (no_turn end c mid x (ap (turn_at end) (sym l.1) ∙ s) step)
same_rounds one reporting end (suc turns) c d e text [] l h s t = absurd (none_told reporting end c l.0 l.1 (ap (turn_at end) (sym h) ∙ t) l.3)
same_rounds one reporting end (suc turns) c d e text (x ∷ xs) l (mid, step, rest) s t =
    let same = same_turn one reporting (turn_at end c) c l.0 mid l.1 x l.3 step in
    ap₂ (λ (a b : List Outcome). a ++ b) same.0 (same_rounds one reporting end turns l.0 d e l.2 xs l.4 (subst (λ (m : Config). Goes end m xs e) (sym same.1) rest) s t)
