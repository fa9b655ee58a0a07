-- The texts have one run: each turn is one, and leads to one place.
use Rattle.std.proofs.Common.{◌≡◌, ◌∙◌, List, [], ◌∷◌, ℕ, ap, ap₂, refl, subst, sym, Result, Ok}
use Rattle.room_script.specs.Script.{Course, IsScriptRead, OneScript}
use Rattle.text_core.specs.declared.at.At.{At}
use Rattle.room_script.specs.declared.script.ScriptCause.{ScriptCause}
use Rattle.room_script.specs.Topology.{Plan, topology_of}
use Rattle.room_script.specs.declared.topology.TopologyCause.{TopologyCause}
use Rattle.room_script.specs.declared.script.TimedEvent.{TimedEvent}
use Rattle.room_net.specs.State.{first_net}
use Rattle.room_net.specs.Step.{after_round, seats_of}
use Rattle.message_text.specs.ReadingText.{is_complete}
use Rattle.line_rounds.specs.declared.Outcome.{Outcome}
use Rattle.line_rounds.specs.OneOutcome.{OneOutcome}
use Rattle.room_run.proofs.Turns.{same_outcome}
use Rattle.room_run.specs.Emulate.{IsAccepted}
use Rattle.room_run.specs.Happening.{Goes, Happening, Happens, HappensBy, IsEvent, IsRoundOf, after_event}
use Rattle.room_run.specs.Happening.Happening.{OfEvent, OfRound}
use Rattle.room_run.specs.Run.{Config, counted_round, start, turn_at}
use Rattle.room_run.specs.declared.run.Turn.{Turn}
use Rattle.room_run.specs.declared.run.Turn.TheVariants.{Apply, Round, Stop}
use Rattle.expect_text.specs.Line.{plain_script}
use Rattle.expect_text.specs.Names.{has_names}
use Rattle.expect_told.specs.Turns.{TextsEndSo, TextsHaveOneTold, told_by}

-- ---- one turn

first_or : TimedEvent → List TimedEvent → TimedEvent
first_or event [] = event
first_or event (e ∷ events) = e

others_of : List TimedEvent → List TimedEvent
others_of [] = []
others_of (e ∷ events) = events

abbrev IsOne : Happening → Happening → Config → Config → Type 0
IsOne x y d e = (x ≡ y) × (d ≡ e)

one_event : (at : ℕ) (c d e : Config) (x y : Happening) → IsEvent at c x d → IsEvent at c y e → IsOne x y d e
unfolding first_or others_of
one_event at c d e x y h k =
    let same : h.event ∷ h.others ≡ k.event ∷ k.others = sym h.next ∙ k.next in
    let event : h.event ≡ k.event = ap (first_or h.event) same in
    let others : h.others ≡ k.others = ap others_of same in (
      h.is ∙ ap (λ (v : TimedEvent). OfEvent at v c.net) event ∙ sym k.is,
      h.after ∙ ap₂ (λ (v : TimedEvent) (vs : List TimedEvent). after_event at c v vs) event others ∙ sym k.after,
    )

one_round : OneOutcome → (begin : ℕ) (c d e : Config) (x y : Happening) → IsRoundOf begin c x d → IsRoundOf begin c y e → IsOne x y d e
one_round one begin c d e x y h k =
    let same : h.outcome ≡ k.outcome =
    same_outcome h.outcome k.outcome (one (seats_of c.net begin) begin c.net.pulses h.outcome k.outcome h.wave k.wave h.next.round k.next.round) in
    let net : d.net ≡ e.net = h.next.after_is ∙ ap (after_round c.net begin) same ∙ sym k.next.after_is in
    let events : d.events ≡ e.events = h.events ∙ sym k.events in
    let totals : d.totals ≡ e.totals = h.totals ∙ ap (λ (o : Outcome). counted_round (is_complete o.reading.ending) c.totals) same ∙ sym k.totals in (
      h.is ∙ ap (λ (o : Outcome). OfRound begin c.net o) same ∙ sym k.is,
      λ i. record { net = net i; events = events i; totals = totals i },
    )

one_by : OneOutcome → (turn : Turn) (c d e : Config) (x y : Happening) → HappensBy turn c x d → HappensBy turn c y e → IsOne x y d e
one_by one Stop c d e x y h k = absurd h
one_by one (Apply at) c d e x y h k = one_event at c d e x y h k
one_by one (Round begin) c d e x y h k = one_round one begin c d e x y h k

no_turn : (end : ℕ) (c d : Config) (x : Happening) → turn_at end c ≡ Stop → Happens end c x d → ⊥
no_turn end c d x stops h = subst (λ turn. HappensBy turn c x d) stops h

-- ---- one turn after another

one_run : OneOutcome → (end : ℕ) (xs ys : List Happening) (c d e : Config) → Goes end c xs d → Goes end c ys e → turn_at end d ≡ Stop → turn_at end e ≡ Stop → (xs ≡ ys) × (d ≡ e)
one_run law end [] [] c d e h k s t = (refl, h ∙ sym k)
one_run law end [] (y ∷ ys) c d e h (mid, step, rest) s t = absurd (no_turn end c mid y (ap (turn_at end) (sym h) ∙ s) step)
one_run law end (x ∷ xs) [] c d e (mid, step, rest) k s t = absurd (no_turn end c mid x (ap (turn_at end) (sym k) ∙ t) step)
one_run law end (x ∷ xs) (y ∷ ys) c d e (mid, step, rest) (mid', step', rest') s t =
    let one = one_by law (turn_at end c) c mid mid' x y step step' in
    let go = one_run law end xs ys mid d e rest (subst (λ (m : Config). Goes end m ys e) (sym one.1) rest') s t in
    (ap₂ (λ (v : Happening) (vs : List Happening). v ∷ vs) one.0 go.0, go.1)

-- ---- of texts

same_plan : (p q : Plan) (r : Result Plan (At TopologyCause)) → r ≡ Ok p → r ≡ Ok q → q ≡ p
same_plan p q r a b = cc

same_course : (p q : Course) (r : Result Course (At ScriptCause)) → r ≡ Ok p → r ≡ Ok q → p ≡ q
same_course p q r a b = cc

one_course : OneScript → (topology script : List ℕ) (plan other : Plan) (course otherwise : Course) → other ≡ plan → IsAccepted topology script plan course → IsAccepted topology script other otherwise → course ≡ otherwise
one_course law topology script plan other course otherwise same a b =
    let read : IsScriptRead plan.tree script (Ok otherwise) = subst (λ (q : Plan). IsScriptRead q.tree script (Ok otherwise)) same b.course_is in
    same_course course otherwise (Ok otherwise) (law plan.tree script course (Ok otherwise) a.course_is read) refl

pub texts_end_so : OneOutcome → OneScript → TextsEndSo
texts_end_so outcome read topology plain xs ys c d p q =
    let plan : q.plan ≡ p.plan = same_plan p.plan q.plan (topology_of topology) p.accepted.plan_is q.accepted.plan_is in
    let course : p.course ≡ q.course = one_course read topology plain p.plan q.plan p.course q.course plan p.accepted q.accepted in
    let goes : Goes p.course.end (start (first_net p.plan.tree p.course.pulses) p.course.events) ys d =
    subst (λ (plan : Plan). Goes p.course.end (start (first_net plan.tree p.course.pulses) p.course.events) ys d) plan
    (subst (λ (course : Course). Goes course.end (start (first_net q.plan.tree course.pulses) course.events) ys d) (sym course) q.goes) in
    let stops : turn_at p.course.end d ≡ Stop = subst (λ (course : Course). turn_at course.end d ≡ Stop) (sym course) q.stops in
    one_run outcome p.course.end xs ys (start (first_net p.plan.tree p.course.pulses) p.course.events) c d p.goes goes p.stops stops

pub texts_have_one_told : TextsEndSo → TextsHaveOneTold
texts_have_one_told law form topology script t u p q =
    p.told_is ∙ ap (told_by form (has_names script)) (law topology (plain_script script) p.happened q.happened p.last q.last p.run q.run).0 ∙ sym q.told_is
