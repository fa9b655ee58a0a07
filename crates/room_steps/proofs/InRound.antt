-- A round that is reported edge by edge: its first edge, one after another, and its end.
use Rattle.std.proofs.Common.{◌≡◌, ℕ, ◌+◌, ◌<◌, ◌≤◌, Bool, true, false, List, [], ◌∷◌, length, drop, inl, inr, IsSome, IfSome, Option, Some, None, Result, Ok, Err, ap, ◌∙◌, sym, refl, subst, arith}
use Rattle.line_wave.specs.declared.Edge.{Edge}
use Rattle.line_wave.specs.Line.{IsWave}
use Rattle.line_rounds.specs.declared.Outcome.{Outcome}
use Rattle.line_rounds.specs.Edges.{IsNextEdge}
use Rattle.text_core.specs.declared.sink.WriteFault.{WriteFault}
use Rattle.text_core.specs.Cut.{WrittenText}
use Rattle.room_net.specs.State.{NetState, next_start}
use Rattle.room_net.specs.Apply.{net_after}
use Rattle.room_net.specs.Step.{IsNextRound}
use Rattle.room_net.specs.Progress.{IsProgress}
use Rattle.room_net.specs.Underway.{OfRound, standing_reported}
use Rattle.room_script.specs.declared.script.TimedEvent.{TimedEvent}
use Rattle.room_run.specs.declared.run.Turn.{Turn}
use Rattle.room_run.specs.declared.run.Turn.TheVariants.{Stop, Apply, Round}
use Rattle.room_run.specs.Run.{turn_of, first_time}
use Rattle.room_run.proofs.Advance.{round_begins}
use Rattle.room_steps.specs.declared.position.Ahead.{Ahead}
use Rattle.room_steps.specs.declared.position.Position.{Position}
use Rattle.room_steps.specs.declared.position.RunInput.{RunInput}
use Rattle.room_steps.specs.declared.stepper.StepError.{StepError}
use Rattle.room_steps.specs.declared.stepper.StepError.TheVariants.{Write}
use Rattle.record_core.specs.declared.cell.Form.{Form}
use Rattle.room_step_text.specs.EdgeText.{edge_text}
use Rattle.room_steps.specs.Steps.{Point, Run, Steps, IsEdgeStep, IsEdgeStepBy, IsFirstEdge, IsFirstStep, IsNoEdge, IsNoEdgeBy, IsOver, IsRoundStep, IsTaken, in_round, after_events, passed_by, passed_from}
use Rattle.room_steps.specs.Ready.{AreAlike, Begins, InsideIf, IsAhead, IsInside, IsReady, begun_in, point_of, run_of, written_in, written_of}
use Rattle.room_steps.proofs.Passing.{ready_event}
use Rattle.room_steps.proofs.Rounds.{alike_point, ready_round}
use Rattle.room_steps.proofs.Taken.{taken_as}

same_begin : {begin x : ℕ} → Some begin ≡ Some x → begin ≡ x
same_begin e = cc

ready_from : (end : ℕ) (s : NetState) (es : List TimedEvent) (first : Bool) → IsReady end (record { net = s; events = es; is_first = first }) → IsReady end (passed_from end s es first)
unfolding passed_from
ready_from end s [] first r = r
ready_from end s (e ∷ es) first r =
    by (turn_of end s (Some e.at)) (λ at. passed_from end (net_after at e.event s) es first)
    (λ at. ready_from end (net_after at e.event s) es first (ready_event end at (record { net = s; events = e ∷ es; is_first = first }) (net_after at e.event s) first e es refl refl r))
  where
    by : (t : Turn) (on : ℕ → Point) → ((at : ℕ) → IsReady end (on at)) → IsReady end (passed_by t (record { net = s; events = e ∷ es; is_first = first }) on)
    by (Apply at) on h = h at
    by Stop on h = r
    by (Round begin) on h = r

-- a run is ready after its events
pub ready_passed : (end : ℕ) (p : Point) → IsReady end p → IsReady end (after_events end p)
ready_passed end p r = ready_from end p.net p.events p.is_first r

-- a round has a device still
pub some_inside : (end : ℕ) (p q : Point) → IsReady end p → IsInside end p q → 0 < length q.net.tree
some_inside end p q r i = subst (λ n. 0 < n) (sym (ap (λ (x : Point). length x.net.tree) i.reported)) (ready_passed end p r).some

-- nor more than fifteen
pub few_inside : (end : ℕ) (p q : Point) → IsReady end p → IsInside end p q → length q.net.devices ≤ 15
few_inside end p q r i = subst (λ n. n ≤ 15) (sym (ap (λ (x : Point). length x.net.devices) i.reported)) (ready_passed end p r).few

-- ---- its first edge

pub begun_inside : (end : ℕ) (p q : Point) (e : Edge) → Begins end p e q → IsInside end p q
begun_inside end p q e b = record { begin = b.begin; heard = e.at + 1; turn = b.turn; reported = b.reported }

-- a text reports an edge
abbrev pub Reports : Form → NetState → Edge → List ℕ → Type 0
Reports form net e text = OfRound net (λ begin heard low. text ≡ edge_text form net.devices e (standing_reported low begin heard))

pub reports_at : (form : Form) (p q : Position) (e : Edge) (text : List ℕ) → p ≡ q → Reports form p.net.value e text → Reports form q.net.value e text
reports_at form p q e text same line = subst (λ (x : Position). Reports form x.net.value e text) same line

-- a round that was begun from a copy of a position, in the run that a stepper shows
pub begins_from : (input : RunInput) (run : Run) (copy here next : Position) (e : Edge) → run_of input ≡ run → point_of input.events.items copy ≡ point_of input.events.items here
    → Begins input.end (point_of input.events.items copy) e (point_of input.events.items next) → Begins run.end (point_of run.events here) e (point_of run.events next)
begins_from input run copy here next e shown same begins =
    subst (λ (r : Run). Begins r.end (point_of r.events here) e (point_of r.events next)) shown
    (subst (λ (p : Point). Begins input.end p e (point_of input.events.items next)) same begins)

pub first_gives : (form : Form) (end : ℕ) (p q : Point) (e : Edge) (text : List ℕ) → Begins end p e q → Reports form q.net e text → IsFirstEdge form end p text q.net
first_gives form end p q e text b line =
    record { begin = b.begin; turn = b.turn; edge = record { edge = e; next = b.first; reported = ap (λ (x : Point). x.net) b.reported; line = line } }

-- ---- what was written of an edge

pub edge_reported : (Gives : List ℕ → Steps → Type 0) (Over : Type 0) (s t : Steps) (form : Form) (net : NetState) (e : Edge) (old new : Option (List ℕ)) (was is : Bool) (n : ℕ) → form ≡ s.run.form
    → ((text : List ℕ) → Reports s.run.form net e text → Gives text t) → (text : List ℕ) × Reports form net e text × WrittenText old new was is text (Ok n) → IsTaken Gives Over s t old new (Ok n)
edge_reported Gives Over s t form net e old new was is n same gives (text, line, (counted, wrote, flag)) =
    (text, gives text (subst (λ (f : Form). Reports f net e text) same line), counted, wrote)

pub edge_cut : (Gives : List ℕ → Steps → Type 0) (Over : Type 0) (s t : Steps) (form : Form) (net : NetState) (e : Edge) (old new : Option (List ℕ)) (was is : Bool) (fault : WriteFault) (error : StepError)
    → form ≡ s.run.form → error ≡ Write fault.count → ((text : List ℕ) → Reports s.run.form net e text → Gives text t) → (text : List ℕ) × Reports form net e text × WrittenText old new was is text (Err fault)
    → IsTaken Gives Over s s old new (Err error)
edge_cut Gives Over s t form net e old new was is fault error formed same gives (text, line, ((count, short, reported, wrote), flag)) =
    let here : IsTaken Gives Over s s old new (Err (Write fault.count)) = (refl, text, t, gives text (subst (λ (f : Form). Reports f net e text) formed line), count, short, reported, wrote) in
    subst (λ x. IsTaken Gives Over s s old new (Err x)) (sym same) here

-- ---- in a round

abbrev pub steps : Run → Point → Option NetState → Steps
steps run last begun = record { run = run; last = last; begun = begun }

-- a stepper stands in a round, as far as it was written
pub record IsIn (s : Steps) (ahead : Option Ahead) (inside : Position) : Type 0 where
  pub net : s.begun ≡ Some (written_of ahead inside.net.value)
  pub ready : IsReady s.run.end s.last
  pub round : IsInside s.run.end s.last (point_of s.run.events inside)

pub is_in : (input : RunInput) (last inside : Position) (ahead : Option Ahead) (b : Bool) → IsSome (begun_in b (written_in ahead (point_of input.events.items inside))) → IsReady input.end (point_of input.events.items last)
    → InsideIf b input.end (point_of input.events.items last) (point_of input.events.items inside)
    → IsIn (steps (run_of input) (point_of input.events.items last) (begun_in b (written_in ahead (point_of input.events.items inside)))) ahead inside
is_in input last inside ahead true some r i = record { net = refl; ready = r; round = i }
is_in input last inside ahead false some r i = cc

pub alike_in : (s : Steps) (ahead : Option Ahead) (p q : Position) → AreAlike p q → IsIn s ahead q → IsIn s ahead p
alike_in s ahead p q alike stands = record {
  net = stands.net ∙ ap (λ (n : NetState). Some (written_of ahead n)) (sym alike.net);
  ready = stands.ready;
  round = subst (λ (x : Point). IsInside s.run.end s.last x) (sym (alike_point s.run.events p q alike)) stands.round;
}

-- what was written of it is the same
pub same_written : (run : Run) (last q r : Point) (b : Bool) → r.net ≡ q.net → steps run last (begun_in b r) ≡ steps run last (begun_in b q)
same_written run last q r true e = ap (λ (n : NetState). steps run last (Some n)) e
same_written run last q r false e = refl

-- where it stands it is written up to another instant of the round
pub still_in : (run : Run) (last q next : Point) (b : Bool) → IsSome (begun_in b q)
    → steps run last (begun_in b next) ≡ in_round (steps run last (begun_in b q)) last next.net
still_in run last q next true some = refl
still_in run last q next false some = cc

-- ---- what is heard ahead

some_of : (o : Option ℕ) → IsSome o → (h : ℕ) × (o ≡ Some h)
some_of (Some h) some = (h, refl)
some_of None some = cc

pub is_at : (s : NetState) (h : ℕ) → s.heard ≡ Some h → record s { heard = Some h } ≡ s
is_at s h e = ap (λ (o : Option ℕ). record s { heard = o }) (sym e)

at_instant : (ahead : Option Ahead) (s : NetState) (h : ℕ) → record (written_of ahead s) { heard = Some h } ≡ record s { heard = Some h }
at_instant None s h = refl
at_instant (Some a) s h = refl

heard_as : (was now : Option Ahead) (s t : NetState) (h : ℕ) → written_of now t ≡ written_of was s → t.heard ≡ Some h → t ≡ record s { heard = Some h }
heard_as was now s t h e at = sym (is_at t h at) ∙ sym (at_instant now t h) ∙ ap (λ (n : NetState). record n { heard = Some h }) e ∙ at_instant was s h

-- a position that was heard further stands in the same round
pub heard_on : (s : Steps) (was now : Option Ahead) (p q : Position) → IsIn s was p → written_of now q.net.value ≡ written_of was p.net.value → q.applied ≡ p.applied → q.is_first ≡ p.is_first → IsSome q.net.value.heard
    → IsIn s now q
heard_on s was now p q stands e applied first some =
    let there : Point = after_events s.run.end s.last in
    let inside = stands.round in
    let h = some_of q.net.value.heard some in
    let net : q.net.value ≡ record there.net { heard = Some h.0 } =
    heard_as was now p.net.value q.net.value h.0 e h.1 ∙ ap (λ (x : Point). record x.net { heard = Some h.0 }) inside.reported in
    let events : drop q.applied s.run.events ≡ there.events = ap (λ (n : ℕ). drop n s.run.events) applied ∙ ap (λ (x : Point). x.events) inside.reported in
    let is_first : q.is_first ≡ there.is_first = first ∙ ap (λ (x : Point). x.is_first) inside.reported in
    record {
      net = stands.net ∙ ap (λ (n : NetState). Some n) (sym e);
      ready = stands.ready;
      round = record { begin = inside.begin; heard = h.0; turn = inside.turn; reported = (λ i. record { net = net i; events = events i; is_first = is_first i }) };
    }

-- what is heard of a round from an instant on is ahead of it there
pub ahead_of : (s t : NetState) (written h : ℕ) (edge : Option Edge) → Some written ≡ s.heard → t ≡ record s { heard = Some h } → OfRound s (λ begin heard low. IsNextEdge low heard edge) → IfSome edge (λ e. e.at + 1 ≡ h)
    → (record t { heard = Some written } ≡ s) × IsAhead t (record { written = written; edge = edge })
ahead_of s t written h edge was is next at =
    let back : record t { heard = Some written } ≡ s = ap (λ (n : NetState). record n { heard = Some written }) is ∙ is_at s written (sym was) in
    let heard : t.heard ≡ Some h = ap (λ (n : NetState). n.heard) is in (
      back,
      record {
        underway = subst (λ (o : Option ℕ). IsSome o) (sym heard) refl;
        next = subst (λ (n : NetState). OfRound n (λ begin heard low. IsNextEdge low heard edge)) (sym back) next;
        reported = by edge at heard;
      },
    )
  where
    by : (edge : Option Edge) → IfSome edge (λ e. e.at + 1 ≡ h) → t.heard ≡ Some h → IfSome edge (λ e. t.heard ≡ Some (e.at + 1))
    by None at heard = tt
    by (Some e) at heard = heard ∙ ap (λ (k : ℕ). Some k) (sym at)

-- a round that was begun is underway
pub inside_underway : (end : ℕ) (p q : Point) → IsInside end p q → IsSome q.net.heard
inside_underway end p q i = subst (λ (o : Option ℕ). IsSome o) (sym (ap (λ (x : Point). x.net.heard) i.reported)) refl

pub edge_gives : (s t : Steps) (net after : NetState) (e : Edge) (h : ℕ) (text : List ℕ) → s.begun ≡ Some net → OfRound net (λ begin heard low. IsNextEdge low heard (Some e))
    → after ≡ record net { heard = Some h } → e.at + 1 ≡ h → Reports s.run.form after e text → t ≡ in_round s s.last after → IsEdgeStep s text t
edge_gives s t net after e h text is next reported at line stands =
    subst (λ x. IsEdgeStepBy s x text t) (sym is)
    (inl (after, record { edge = e; next = next; reported = reported ∙ ap (λ (k : ℕ). record net { heard = Some k }) (sym at); line = line }, stands))

-- the next edge, where it is left
pub ahead_gives : (s t : Steps) (now : Option Ahead) (q : NetState) (a : Ahead) (e : Edge) (text : List ℕ) → s.begun ≡ Some (written_of now q) → now ≡ Some a → a.edge ≡ Some e → IsAhead q a → Reports s.run.form q e text
    → t ≡ in_round s s.last q → IsEdgeStep s text t
ahead_gives s t now q a e text is now_is edge h line stands =
    let next = subst (λ (x : Option Edge). OfRound (record q { heard = Some a.written }) (λ begin heard low. IsNextEdge low heard x)) edge h.next in
    let reported : q.heard ≡ Some (e.at + 1) = subst (λ (x : Option Edge). IfSome x (λ e. q.heard ≡ Some (e.at + 1))) edge h.reported in
    edge_gives s t (record q { heard = Some a.written }) q e (e.at + 1) text (is ∙ ap (λ (o : Option Ahead). Some (written_of o q)) now_is) next (sym (is_at q (e.at + 1) reported)) refl line stands

-- there is none where none is left
pub ahead_ends : (s : Steps) (now : Option Ahead) (q : NetState) (a : Ahead) → s.begun ≡ Some (written_of now q) → now ≡ Some a → a.edge ≡ None → IsAhead q a
    → (s.begun ≡ Some (record q { heard = Some a.written })) × OfRound (record q { heard = Some a.written }) (λ begin heard low. IsNextEdge low heard None)
ahead_ends s now q a is now_is edge h = (
  is ∙ ap (λ (o : Option Ahead). Some (written_of o q)) now_is,
  subst (λ (x : Option Edge). OfRound (record q { heard = Some a.written }) (λ begin heard low. IsNextEdge low heard x)) edge h.next,
)

-- ---- its end

plain_round : (s t : NetState) (h b : ℕ) (o : Outcome) → IsNextRound (record s { heard = Some h }) b o t → IsNextRound s b o t
plain_round s t h b o next = record { round = next.round; after_is = next.after_is }

plain_progress : (s t : NetState) (h b : ℕ) → IsProgress (record s { heard = Some h }) b t → IsProgress s b t
plain_progress s t h b x = record { apart = x.apart; kept = x.kept; later = x.later; low = x.low; closed = x.closed; soon = x.soon }

pub ends : (end : ℕ) (p i : Point) (n t : NetState) (h b : ℕ) (o : Outcome) → IsReady end p → IsInside end p i → n ≡ record i.net { heard = Some h } → IsWave o.wave
    → next_start n ≡ Some b → IsNextRound n b o t → IsProgress n b t
    → IsRoundStep end p o (record { net = t; events = i.events; is_first = false }) × IsReady end (record { net = t; events = i.events; is_first = false })
ends end p i n t h b o r inside reported wave begins next progress =
    let s = (after_events end p).net in
    let there : n ≡ record s { heard = Some h } = reported ∙ ap (λ (x : Point). record x.net { heard = Some h }) inside.reported in
    let round : IsNextRound s b o t = plain_round s t h b o (subst (λ (m : NetState). IsNextRound m b o t) there next) in
    let later : IsProgress s b t = plain_progress s t h b (subst (λ (m : NetState). IsProgress m b t) there progress) in
    let events : i.events ≡ (after_events end p).events = ap (λ (x : Point). x.events) inside.reported in
    let first = round_begins end s (first_time (after_events end p).events) inside.begin inside.turn in
    let begin : next_start s ≡ Some b = subst (λ (m : NetState). next_start m ≡ Some b) there begins in
    let same : b ≡ inside.begin = same_begin (sym begin ∙ first.0) in
    let ready = ready_round end b (after_events end p) o t (ready_passed end p r) (omega (arith, same, first.1)) round later in (
      record { begin = inside.begin; turn = inside.turn; wave = wave; next = subst (λ x. IsNextRound s x o t) same round; left = events; later = refl },
      subst (λ es. IsReady end (record { net = t; events = es; is_first = false })) (sym events) ready,
    )

-- the first edge after it
pub taken_after : (s t : Steps) (net : NetState) (o : Outcome) (q : Point) (old new : Option (List ℕ)) (r : Result ℕ StepError) → s.begun ≡ Some net
    → OfRound net (λ begin heard low. IsNextEdge low heard None) → IsRoundStep s.run.end s.last o q
    → IsTaken (IsFirstStep s q) (IsOver s.run.end q) s t old new r → IsTaken (IsEdgeStep s) (IsNoEdge s) s t old new r
taken_after s t net o q old new r is silent step taken =
    taken_as (IsFirstStep s q) (IsEdgeStep s) (IsOver s.run.end q) (IsNoEdge s) s t old new r
    (λ text u first. subst (λ x. IsEdgeStepBy s x text u) (sym is) (inr (record { silent = silent; outcome = o; last = q; step = step; first = first })))
    (λ over. subst (λ x. IsNoEdgeBy s x) (sym is) (silent, o, q, step, over)) taken
