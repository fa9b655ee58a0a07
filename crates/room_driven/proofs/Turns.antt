-- A run has one text of its drives: each turn leads to one place, and reports one text.
use Rattle.std.proofs.Common.{◌≡◌, ℕ, zero, suc, max, List, [], ◌∷◌, ◌++◌, ap, ap₂, ◌∙◌, sym, subst, append_assoc, append-nil}
use Rattle.line_wave.specs.declared.Stretch.{Stretch}
use Rattle.line_wave.specs.Line.{IsWave}
use Rattle.line_rounds.specs.declared.Seat.{Seat}
use Rattle.line_rounds.specs.declared.Outcome.{Outcome}
use Rattle.line_rounds.specs.Round.{IsRound}
use Rattle.line_rounds.proofs.OneOutcome.{one_outcome}
use Rattle.room_net.specs.Step.{after_round, seats_of}
use Rattle.capture_vcd.specs.Text.{last}
use Rattle.capture_forms.specs.declared.form.CaptureForm.TheVariants.{Vcd}
use Rattle.room_run.specs.declared.run.Reporting.TheVariants.{Line}
use Rattle.room_run.specs.declared.run.Totals.{Totals}
use Rattle.room_run.specs.declared.run.Turn.{Turn}
use Rattle.room_run.specs.declared.run.Turn.TheVariants.{Stop, Apply, Round}
use Rattle.room_script.specs.declared.script.TimedEvent.{TimedEvent}
use Rattle.message_text.specs.ReadingText.{is_complete}
use Rattle.room_run.specs.Run.{Config, turn_at, counted_round, IsEventTurn}
use Rattle.room_run.proofs.Turns.{same_outcome}
use Rattle.room_driven.specs.Driven.{round_drives, IsDrivenBy, IsDrivenTurn, Drives, IsDrivenFrom}

-- a round has one outcome
pub same_round : (seats : List Seat) (begin : ℕ) (pulses : List Stretch) (o p : Outcome) → IsWave o.wave → IsWave p.wave → IsRound seats begin pulses o → IsRound seats begin pulses p → o ≡ p
same_round seats begin pulses o p v w r s = same_outcome o p (one_outcome seats begin pulses o p v w r s)

one_event : (at : ℕ) (events : List TimedEvent) (c d e : Config) (x y : List ℕ) → IsEventTurn (Line Vcd) at events c x d → IsEventTurn (Line Vcd) at events c y e → d ≡ e
one_event at [] c d e x y r s = r.1 ∙ sym s.1
one_event at (event ∷ events) c d e x y r s = r.1 ∙ sym s.1

one_by : (turn : Turn) (c d e : Config) (x y p q : List ℕ) → IsDrivenBy turn c x p d → IsDrivenBy turn c y q e → (p ≡ q) × (d ≡ e)
one_by Stop c d e x y p q r s = absurd r
one_by (Apply at) c d e x y p q r s = (r.1 ∙ sym s.1, one_event at c.events c d e x y r.0 s.0)
one_by (Round begin) c d e x y p q r s =
    let one = r.0 in
    let two = s.0 in
    let same = same_round (seats_of c.net begin) begin c.net.pulses one.outcome two.outcome one.wave two.wave one.next.round two.next.round in
    let net : d.net ≡ e.net = one.next.after_is ∙ ap (after_round c.net begin) same ∙ sym two.next.after_is in
    let events : d.events ≡ e.events = r.1 ∙ sym s.1 in
    let totals : d.totals ≡ e.totals = one.totals ∙ ap (λ (o : Outcome). counted_round (is_complete o.reading.ending) c.totals) same ∙ sym two.totals in (
      r.2 ∙ ap (round_drives (seats_of c.net begin) begin c.net.pulses) same ∙ sym s.2,
      λ i. record { net = net i; events = events i; totals = totals i },
    )

one_turn : (end : ℕ) (c d e : Config) (x y p q : List ℕ) → IsDrivenTurn end c x p d → IsDrivenTurn end c y q e → (p ≡ q) × (d ≡ e)
one_turn end c d e x y p q r s = one_by (turn_at end c) c d e x y p q r s

-- there is no turn where the run stops
no_turn : (end : ℕ) (c d : Config) (x p : List ℕ) → turn_at end c ≡ Stop → IsDrivenTurn end c x p d → ⊥
no_turn end c d x p stops r = subst (λ turn. IsDrivenBy turn c x p d) stops r

-- some turns come first in every way to where the run stops
leads_on : (end n m : ℕ) (c d e : Config) (x y text whole : List ℕ) → Drives end n c x text d → Drives end m c y whole e → turn_at end e ≡ Stop
    → (more : ℕ) × (line : List ℕ) × (rest : List ℕ) × Drives end more d line rest e × (whole ≡ text ++ rest)
leads_on end zero m c d e x y text whole l w stops = (m, y, whole, subst (λ s. Drives end m s y whole e) (sym l.2) w, ap (λ t. t ++ whole) (sym l.1))
leads_on end (suc n) zero c d e x y text whole (mid, reported, rest, driven, left, turn, after, a, b) w stops =
    absurd (no_turn end c mid reported driven (ap (turn_at end) (sym w.2) ∙ stops) turn)
leads_on end (suc n) (suc m) c d e x y text whole (mid, reported, rest, driven, left, turn, after, a, b) (mid', reported', rest', driven', left', turn', after', a', b') stops =
    let one = one_turn end c mid mid' reported reported' driven driven' turn turn' in
    let there : Drives end m mid rest' left' e = subst (λ s. Drives end m s rest' left' e) (sym one.1) after' in
    let go = leads_on end n m mid d e rest rest' left left' after there stops in
    (go.0, go.1, go.2, go.3, b' ∙ ap₂ (λ s t. s ++ t) (sym one.0) go.4 ∙ sym (append_assoc driven left go.2) ∙ ap (λ t. t ++ go.2) (sym b))

-- nothing comes after the stop
stays : (end more : ℕ) (d e : Config) (line rest : List ℕ) → turn_at end d ≡ Stop → Drives end more d line rest e → (rest ≡ []) × (e ≡ d)
stays end zero d e line rest stops l = (l.1, l.2)
stays end (suc more) d e line rest stops (mid, reported, others, driven, left, turn, after, a, b) = absurd (no_turn end d mid reported driven stops turn)

-- what the turns so far told is the front of the text
pub front_of_text : (end n : ℕ) (c d : Config) (line body text : List ℕ) (totals : Totals) → Drives end n c line body d → IsDrivenFrom end c text totals
    → (rest : List ℕ) × (text ≡ body ++ rest)
front_of_text end n c d line body text totals l w =
    let go = leads_on end n w.turns c d w.at_end line w.line body w.body l w.drives w.stops in
    let tail = last (max end w.at_end.net.close) in
    (go.2 ++ tail, w.whole ∙ ap (λ b. b ++ tail) go.4 ∙ append_assoc body go.2 tail)

-- and where the run stops there, the text is what is reported from there on
pub whole_text : (end n : ℕ) (c d : Config) (line body text : List ℕ) (totals : Totals) → Drives end n c line body d → turn_at end d ≡ Stop → IsDrivenFrom end c text totals
    → (text ≡ body ++ last (max end d.net.close)) × (totals ≡ d.totals)
whole_text end n c d line body text totals l stops w =
    let go = leads_on end n w.turns c d w.at_end line w.line body w.body l w.drives w.stops in
    let over = stays end go.0 d w.at_end go.1 go.2 stops go.3 in
    let same : w.body ≡ body = go.4 ∙ ap (λ t. body ++ t) over.0 ∙ append-nil body in
    (w.whole ∙ ap₂ (λ b e. b ++ last (max end e.net.close)) same over.1, w.counts ∙ ap (λ e. e.totals) over.1)
