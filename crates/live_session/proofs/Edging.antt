-- `edge T`, from what the calls give to what a session has.
use Rattle.std.proofs.Common.{◌≡◌, ℕ, ◌<◌, ◌≤◌, ◌∙◌, ◌++◌, ◌∷◌, [], max, Bool, true, false, nat_lt, if◌then◌else◌, List, Option, Some, refl, sym, ap, ap₂, subst, arith}
use Rattle.std.proofs.lemmas.Bool.Decides.{nat_tests}
use Rattle.line_wave.specs.Line.{IsWave}
use Rattle.line_rounds.specs.declared.Outcome.{Outcome}
use Rattle.room_net.specs.Progress.{IsProgress}
use Rattle.room_net.specs.State.{NetState}
use Rattle.room_net.specs.Step.{IsNextRound, after_round, seats_of}
use Rattle.line_wave.specs.declared.Stretch.{Stretch}
use Rattle.record_core.specs.declared.cell.Form.{Form}
use Rattle.live_session.specs.declared.edges.InstantRange.{InstantRange}
use Rattle.live_session.specs.Edges.{edge_reported, edge_text, edges_reported, first_edge, is_in, pinned_by}
use Rattle.live_session.specs.declared.answer.RefusalCause.TheVariants.{Past}
use Rattle.live_session.specs.declared.live.Step.{Step}
use Rattle.live_session.specs.declared.live.Step.TheVariants.{Edge}
use Rattle.live_session.specs.Session.{Session, edge_horizon, pin_by, refuse, IsEdge, IsEdgeStep, IsEdgeStepBy}
use Rattle.live_session.proofs.Below.{one_outcome, same_outcome}

pub edge_past : (s t : Session) (until : ℕ) (step : Step) → until < s.horizon → step ≡ refuse 1 Past → t ≡ s → IsEdgeStep s (Some until) step t
edge_past s t until step l asks stands = let e : nat_lt until s.horizon ≡ true = grind (arith, nat_tests) in subst (λ (b : Bool). IsEdgeStepBy b s until step t) (sym e) (asks, stands)

pub edge_on : (s t : Session) (until to : ℕ) (step : Step) → s.horizon ≤ until → step ≡ Edge → IsEdge s.notes.pin s.horizon until s.place to → t ≡ record s { horizon = max s.horizon to } → IsEdgeStep s (Some until) step t
edge_on s t until to step l asks edge stands =
    let e : nat_lt until s.horizon ≡ false = grind (arith, nat_tests) in subst (λ (b : Bool). IsEdgeStepBy b s until step t) (sym e) (asks, to, edge, stands)

-- the first edge and the close are of one round
pub edge_in_round : (net mid : NetState) (begin from until close to : ℕ) (pin edge : Option ℕ) → mid ≡ net
    → (outcome : Outcome) × (after : NetState) × IsWave outcome.wave × IsNextRound net begin outcome after × (edge ≡ first_edge from (pinned_by (pin_by pin after.close) outcome.wave))
    → (outcome : Outcome) × (after : NetState) × IsWave outcome.wave × IsNextRound mid begin outcome after × IsProgress mid begin after × (close ≡ after.close) → to ≡ edge_horizon until close edge
    → (outcome : Outcome) × (after : NetState) × IsWave outcome.wave × IsNextRound net begin outcome after × (to ≡ edge_horizon until after.close (first_edge from (pinned_by (pin_by pin after.close) outcome.wave)))
edge_in_round net mid begin from until close to pin edge same (o, after, wave, next, first) (p, other, wave', next', progress, closes) is =
    let there : IsNextRound net begin p other = subst (λ (n : NetState). IsNextRound n begin p other) same next' in
    let one : o ≡ p = same_outcome o p (one_outcome (seats_of net begin) begin net.pulses o p wave wave' next.round there.round) in
    let ends : other ≡ after = there.after_is ∙ ap (after_round net begin) (sym one) ∙ sym next.after_is in
    (o, after, wave, next, is ∙ ap₂ (edge_horizon until) (closes ∙ ap (λ (n : NetState). n.close) ends) first)

-- ---- a span with no instant has no edge

not_in : (span : InstantRange) (at : ℕ) → span.until ≤ span.from → is_in span at ≡ false
not_in span at empty = grind (arith, nat_tests)

pub no_edges : (form : Form) (span : InstantRange) (wave : List Stretch) → span.until ≤ span.from → edges_reported form span wave ≡ []
no_edges form span [] empty = refl
no_edges form span (s ∷ wave) empty =
    let none : (at level : ℕ) → edge_reported form span at level ≡ [] = λ at level. ap (λ (b : Bool). if b then edge_text form at level else []) (not_in span at empty) in
    ap₂ (λ (x y : List ℕ). x ++ y) (ap₂ (λ (x y : List ℕ). x ++ y) (none s.from 0) (none s.to 1)) (no_edges form span wave empty)
