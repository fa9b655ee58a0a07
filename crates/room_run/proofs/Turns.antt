-- A run writes one text: each turn leads to one place and reports one text.
use Rattle.std.proofs.Common.{◌≡◌, ℕ, zero, suc, List, [], ◌∷◌, ◌++◌, ap, ap₂, ◌∙◌, sym, refl, subst, append_assoc, append-nil}
use Rattle.line_rounds.proofs.OneOutcome.{one_outcome}
use Rattle.room_net.specs.State.{NetState}
use Rattle.room_net.specs.Step.{after_round, seats_of}
use Rattle.room_run.specs.declared.run.Totals.{Totals}
use Rattle.room_run.specs.declared.run.Turn.{Turn}
use Rattle.room_run.specs.declared.run.Turn.TheVariants.{Stop, Apply, Round}
use Rattle.room_script.specs.declared.script.TimedEvent.{TimedEvent}
use Rattle.room_run.specs.declared.run.Reporting.{Reporting}
use Rattle.room_run.specs.declared.run.Reporting.TheVariants.{Trace}
use Rattle.message_text.specs.ReadingText.{is_complete}
use Rattle.room_run.specs.Turns.{NoneAfterStop, SameOutcomesAreOne, TextsBeginSo}
use Rattle.room_run.specs.Run.{Config, turn_at, counted_round, IsEventTurn, IsRoundTurn, IsTurnBy, IsTurn, Leads, IsRunTextFrom, start_reported, round_reported, end_reported, OneRunText, OneTrace}

-- outcomes that report the same are one
pub same_outcome : SameOutcomesAreOne
same_outcome o p s = λ i. record {
  reading = record { begin = s.begin i; at = s.at i; ending = s.ending i; bits = record { items = s.bits i } };
  survivors = record { items = s.survivors i };
  losers = record { items = s.losers i };
  rest = s.rest i;
  wave = s.wave i;
}

one_round : (reporting : Reporting) (begin : ℕ) (before after other : NetState) (t u v : Totals) (line text : List ℕ) → IsRoundTurn reporting begin before t line after u → IsRoundTurn reporting begin before t text other v
    → (line ≡ text) × (after ≡ other) × (u ≡ v)
one_round reporting begin before after other t u v line text r s =
    let same : r.outcome ≡ s.outcome =
    same_outcome r.outcome s.outcome (one_outcome (seats_of before begin) begin before.pulses r.outcome s.outcome r.wave s.wave r.next.round s.next.round) in
    let net : after ≡ other = r.next.after_is ∙ ap (after_round before begin) same ∙ sym s.next.after_is in (
      r.reported ∙ ap₂ (λ n o. round_reported reporting n.devices o) net same ∙ sym s.reported,
      net,
      r.totals ∙ ap (λ o. counted_round (is_complete o.reading.ending) t) same ∙ sym s.totals,
    )

one_event : (reporting : Reporting) (at : ℕ) (events : List TimedEvent) (c : Config) (line other : List ℕ) (d e : Config) → IsEventTurn reporting at events c line d → IsEventTurn reporting at events c other e → (line ≡ other) × (d ≡ e)
one_event reporting at [] c line other d e r s = (r.0 ∙ sym s.0, r.1 ∙ sym s.1)
one_event reporting at (x ∷ xs) c line other d e r s = (r.0 ∙ sym s.0, r.1 ∙ sym s.1)

one_turn_by : (reporting : Reporting) (turn : Turn) (c : Config) (line other : List ℕ) (d e : Config) → IsTurnBy reporting turn c line d → IsTurnBy reporting turn c other e → (line ≡ other) × (d ≡ e)
one_turn_by reporting Stop c line other d e r s = absurd r
one_turn_by reporting (Apply at) c line other d e r s = one_event reporting at c.events c line other d e r s
one_turn_by reporting (Round begin) c line other d e r s =
    let one = one_round reporting begin c.net d.net e.net c.totals d.totals e.totals line other r.0 s.0 in
    let events : d.events ≡ e.events = r.1 ∙ sym s.1 in
    (one.0, λ i. record { net = one.1 i; events = events i; totals = one.2 i })

one_turn : (reporting : Reporting) (end : ℕ) (c : Config) (line other : List ℕ) (d e : Config) → IsTurn reporting end c line d → IsTurn reporting end c other e → (line ≡ other) × (d ≡ e)
one_turn reporting end c line other d e r s = one_turn_by reporting (turn_at end c) c line other d e r s

-- there is no turn where the run stops
pub no_turn : NoneAfterStop
no_turn reporting end c line d stops r = subst (λ turn. IsTurnBy reporting turn c line d) stops r

-- some turns come first in every way to where the run stops
pub leads_on : (reporting : Reporting) (end n m : ℕ) (c d last : Config) (text whole : List ℕ) → Leads reporting end n c text d → Leads reporting end m c whole last → turn_at end last ≡ Stop
    → (more : ℕ) × (rest : List ℕ) × Leads reporting end more d rest last × (whole ≡ text ++ rest)
leads_on reporting end zero m c d last text whole l w stops =
    (m, whole, subst (λ x. Leads reporting end m x whole last) (sym l.1) w, ap (λ t. t ++ whole) (sym l.0))
leads_on reporting end (suc n) zero c d last text whole (mid, line, rest, turn, after, e) w stops =
    absurd (no_turn reporting end c line mid (ap (turn_at end) (sym w.1) ∙ stops) turn)
leads_on reporting end (suc n) (suc m) c d last text whole (mid, line, rest, turn, after, e) (mid', line', rest', turn', after', e') stops =
    let one = one_turn reporting end c line line' mid mid' turn turn' in
    let there : Leads reporting end m mid rest' last = subst (λ x. Leads reporting end m x rest' last) (sym one.1) after' in
    let go = leads_on reporting end n m mid d last rest rest' after there stops in
    (go.0, go.1, go.2, e' ∙ ap₂ (λ a b. a ++ b) (sym one.0) go.3 ∙ sym (append_assoc line rest go.1) ∙ ap (λ t. t ++ go.1) (sym e))

-- one turn more
pub one_more : (reporting : Reporting) (end n : ℕ) (c mid d : Config) (text line : List ℕ) → Leads reporting end n c text mid → IsTurn reporting end mid line d → Leads reporting end (suc n) c (text ++ line) d
one_more reporting end zero c mid d text line l turn =
    (d, line, [], subst (λ x. IsTurn reporting end x line d) l.1 turn, (refl, refl), ap (λ t. t ++ line) l.0 ∙ sym (append-nil line))
one_more reporting end (suc n) c mid d text line (first, head, rest, turn, after, e) last =
    (first, head, rest ++ line, turn, one_more reporting end n first mid d rest line after last, ap (λ t. t ++ line) e ∙ append_assoc head rest line)

-- nothing comes after the stop
stays : (reporting : Reporting) (end more : ℕ) (d last : Config) (rest : List ℕ) → turn_at end d ≡ Stop → Leads reporting end more d rest last → (rest ≡ []) × (last ≡ d)
stays reporting end zero d last rest stops l = (l.0, l.1)
stays reporting end (suc more) d last rest stops (mid, line, others, turn, after, e) = absurd (no_turn reporting end d line mid stops turn)

-- what the turns so far told is the front of the text
pub front_of_text : TextsBeginSo
front_of_text reporting end n c d body text totals l w =
    let go = leads_on reporting end n w.turns c d w.last body w.body l w.leads w.stops in
    (go.1 ++ end_reported reporting end w.last.net, w.whole ∙ ap (λ b. b ++ end_reported reporting end w.last.net) go.3 ∙ append_assoc body go.1 _)

-- and where the run stops there, the text is what is reported from there on
pub whole_text : (reporting : Reporting) (end n : ℕ) (c d : Config) (body text : List ℕ) (totals : Totals) → Leads reporting end n c body d → turn_at end d ≡ Stop → IsRunTextFrom reporting end c text totals
    → (text ≡ body ++ end_reported reporting end d.net) × (totals ≡ d.totals)
whole_text reporting end n c d body text totals l stops w =
    let go = leads_on reporting end n w.turns c d w.last body w.body l w.leads w.stops in
    let last = stays reporting end go.0 d w.last go.1 stops go.2 in
    let same : w.body ≡ body = go.3 ∙ ap (λ t. body ++ t) last.0 ∙ append-nil body in
    (w.whole ∙ ap₂ (λ b e. b ++ end_reported reporting end e.net) same last.1, w.counts ∙ ap (λ e. e.totals) last.1)

-- two texts from one place are one
one_rest : (reporting : Reporting) (end : ℕ) (c : Config) (x y : List ℕ) (s t : Totals) → IsRunTextFrom reporting end c x s → IsRunTextFrom reporting end c y t → (x ≡ y) × (s ≡ t)
one_rest reporting end c x y s t p q =
    let whole = whole_text reporting end p.turns c p.last p.body y t p.leads p.stops q in
    (p.whole ∙ sym whole.0, p.counts ∙ sym whole.1)

pub one_run_text : OneRunText
one_run_text reporting end c x y s t p q =
    let one = one_rest reporting end c p.rest q.rest s t p.run q.run in
    (p.whole ∙ ap (λ rest. start_reported reporting c.net ++ rest) one.0 ∙ sym q.whole, one.1)

pub one_trace : OneTrace
one_trace edid = one_run_text (Trace edid)
