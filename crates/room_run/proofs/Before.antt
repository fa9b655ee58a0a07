-- All turns that are over before an instant: there are such, in one way.
use Rattle.std.proofs.Common.{◌≡◌, ℕ, zero, suc, List, [], ◌∷◌, ◌++◌, inl, inr, refl, sym, ap, ap₂, ◌∙◌, subst, arith, append_assoc, append-nil}
use Rattle.std.proofs.lemmas.Bool.{cases_lt}
use Rattle.line_rounds.specs.declared.Outcome.{Outcome}
use Rattle.line_rounds.proofs.OneOutcome.{one_outcome}
use Rattle.line_wave.specs.Line.{IsWave}
use Rattle.room_script.specs.declared.script.TimedEvent.{TimedEvent}
use Rattle.room_net.specs.State.{NetState}
use Rattle.room_net.specs.Step.{IsNextRound, after_round, seats_of}
use Rattle.message_text.specs.ReadingText.{is_complete}
use Rattle.room_run.specs.declared.run.Reporting.{Reporting}
use Rattle.room_run.specs.declared.run.Totals.{Totals}
use Rattle.room_run.specs.declared.run.Turn.{Turn}
use Rattle.room_run.specs.declared.run.Turn.TheVariants.{Stop, Apply, Round}
use Rattle.room_run.specs.Turns.{TurnsAreOne}
use Rattle.room_run.specs.Run.{Config, turn_at, counted_round, round_reported, IsEventTurn, IsRoundTurn, IsTurnBy, IsTurn, Leads}
use Rattle.room_run.proofs.Turns.{same_outcome}
use Rattle.room_run.specs.Certain.{IsOverBy, LeadsIf, IsHeldBy, IsHeld, AllBefore, AllBeforeIsOne, NoneAfterHeld, NoTurn}

-- ---- there are such

abbrev pub HasAllBefore : Reporting → ℕ → Config → Type 0
HasAllBefore reporting until c = (text : List ℕ) × (last : Config) × AllBefore reporting until c text last

-- nothing is over from here on
none_before : (reporting : Reporting) (until : ℕ) (c : Config) → IsHeld until c → HasAllBefore reporting until c
none_before reporting until c held = ([], c, record { turns = zero; leads = (refl, refl); held = held })

-- one turn that is over, and all after it
more_before : (reporting : Reporting) (until : ℕ) (c mid : Config) (reported : List ℕ) → IsTurn reporting until c reported mid → IsOverBy until (turn_at until c) mid → HasAllBefore reporting until mid
    → HasAllBefore reporting until c
more_before reporting until c mid reported turn over (text, last, all) =
    (reported ++ text, last, record { turns = suc all.turns; leads = (mid, reported, text, turn, over, all.leads, refl); held = all.held })

-- the first of the turns of a run to the instant, and all after it
first_before : (reporting : Reporting) (until : ℕ) (c mid : Config) (reported : List ℕ) (turn : Turn) → turn_at until c ≡ turn → IsTurnBy reporting turn c reported mid → HasAllBefore reporting until mid
    → HasAllBefore reporting until c
first_before reporting until c mid reported Stop e t all = absurd t
first_before reporting until c mid reported (Apply at) e t all =
    more_before reporting until c mid reported (subst (λ turn. IsTurnBy reporting turn c reported mid) (sym e) t) (subst (λ turn. IsOverBy until turn mid) (sym e) tt) all
first_before reporting until c mid reported (Round begin) e t all =
    elim (cases_lt mid.net.close until) [
      | inl lt ↦ more_before reporting until c mid reported (subst (λ turn. IsTurnBy reporting turn c reported mid) (sym e) t) (subst (λ turn. IsOverBy until turn mid) (sym e) lt) all
      | inr ge ↦ none_before reporting until c (subst (IsHeldBy until c.net) (sym e) (t.0.outcome, mid.net, t.0.wave, t.0.next, ge))
    ]

pub has_all_before : (reporting : Reporting) (until turns : ℕ) (c d : Config) (text : List ℕ) → Leads reporting until turns c text d → turn_at until d ≡ Stop → HasAllBefore reporting until c
has_all_before reporting until zero c d text l stops =
    none_before reporting until c (subst (IsHeldBy until c.net) (sym (ap (turn_at until) (sym l.1) ∙ stops)) tt)
has_all_before reporting until (suc turns) c d text (mid, reported, rest, turn, after, e) stops =
    first_before reporting until c mid reported (turn_at until c) refl turn (has_all_before reporting until turns mid d rest after stops)

-- ---- a turn reports one text, and leads to one place

one_next : (begin : ℕ) (before after other : NetState) (o p : Outcome) → IsWave o.wave → IsWave p.wave → IsNextRound before begin o after → IsNextRound before begin p other → (o ≡ p) × (after ≡ other)
one_next begin before after other o p v w r s =
    let same : o ≡ p = same_outcome o p (one_outcome (seats_of before begin) begin before.pulses o p v w r.round s.round) in
    (same, r.after_is ∙ ap (after_round before begin) same ∙ sym s.after_is)

one_round : (reporting : Reporting) (begin : ℕ) (before after other : NetState) (t u v : Totals) (line text : List ℕ) → IsRoundTurn reporting begin before t line after u → IsRoundTurn reporting begin before t text other v
    → (line ≡ text) × (after ≡ other) × (u ≡ v)
one_round reporting begin before after other t u v line text r s =
    let one = one_next begin before after other r.outcome s.outcome r.wave s.wave r.next s.next in (
      r.reported ∙ ap₂ (λ n o. round_reported reporting n.devices o) one.1 one.0 ∙ sym s.reported,
      one.1,
      r.totals ∙ ap (λ o. counted_round (is_complete o.reading.ending) t) one.0 ∙ sym s.totals,
    )

one_event : (reporting : Reporting) (at : ℕ) (events : List TimedEvent) (c : Config) (line other : List ℕ) (d e : Config) → IsEventTurn reporting at events c line d → IsEventTurn reporting at events c other e → (line ≡ other) × (d ≡ e)
one_event reporting at [] c line other d e r s = (r.0 ∙ sym s.0, r.1 ∙ sym s.1)
one_event reporting at (x ∷ xs) c line other d e r s = (r.0 ∙ sym s.0, r.1 ∙ sym s.1)

pub one_turn : TurnsAreOne
one_turn reporting Stop c line other d e r s = absurd r
one_turn reporting (Apply at) c line other d e r s = one_event reporting at c.events c line other d e r s
one_turn reporting (Round begin) c line other d e r s =
    let one = one_round reporting begin c.net d.net e.net c.totals d.totals e.totals line other r.0 s.0 in
    let events : d.events ≡ e.events = r.1 ∙ sym s.1 in
    (one.0, λ i. record { net = one.1 i; events = events i; totals = one.2 i })

-- ---- no turn is over where all that are over were told

pub no_turn_before : (reporting : Reporting) (until : ℕ) (turn : Turn) (c d : Config) (line : List ℕ) → IsHeldBy until c.net turn → IsTurnBy reporting turn c line d → IsOverBy until turn d → ⊥
no_turn_before reporting until Stop c d line held t over = t
no_turn_before reporting until (Apply at) c d line held t over = held
no_turn_before reporting until (Round begin) c d line (outcome, after, wave, next, late) t over =
    let one = one_next begin c.net d.net after t.0.outcome outcome t.0.wave wave t.0.next next in
    let close : d.net.close ≡ after.close = ap (λ (n : NetState). n.close) one.1 in
    omega (arith, close, late, over)

-- some turns of which it holds come first in all of them
pub all_begin : (Holds : Turn → Config → Type 0) (reporting : Reporting) (until n m : ℕ) (c d last : Config) (text whole : List ℕ) → LeadsIf Holds reporting until n c text d
    → LeadsIf Holds reporting until m c whole last → NoTurn Holds reporting until last
    → (more : ℕ) × (rest : List ℕ) × LeadsIf Holds reporting until more d rest last × (whole ≡ text ++ rest)
all_begin Holds reporting until zero m c d last text whole l w none =
    (m, whole, subst (λ x. LeadsIf Holds reporting until m x whole last) (sym l.1) w, ap (λ t. t ++ whole) (sym l.0))
all_begin Holds reporting until (suc n) zero c d last text whole (mid, line, rest, turn, over, after, e) w none =
    absurd (subst (NoTurn Holds reporting until) w.1 none line mid turn over)
all_begin Holds reporting until (suc n) (suc m) c d last text whole (mid, line, rest, turn, over, after, e) (mid', line', rest', turn', over', after', e') none =
    let one = one_turn reporting (turn_at until c) c line line' mid mid' turn turn' in
    let there : LeadsIf Holds reporting until m mid rest' last = subst (λ x. LeadsIf Holds reporting until m x rest' last) (sym one.1) after' in
    let go = all_begin Holds reporting until n m mid d last rest rest' after there none in
    (go.0, go.1, go.2, e' ∙ ap₂ (λ a b. a ++ b) (sym one.0) go.3 ∙ sym (append_assoc line rest go.1) ∙ ap (λ t. t ++ go.1) (sym e))

-- none of them comes after the last
pub ends : (Holds : Turn → Config → Type 0) (reporting : Reporting) (until more : ℕ) (d last : Config) (rest : List ℕ) → NoTurn Holds reporting until d → LeadsIf Holds reporting until more d rest last
    → (rest ≡ []) × (last ≡ d)
ends Holds reporting until zero d last rest none l = (l.0, l.1)
ends Holds reporting until (suc more) d last rest none (mid, line, others, turn, over, after, e) = absurd (none line mid turn over)

pub held_ends : NoneAfterHeld
held_ends reporting until c held line d turn over = no_turn_before reporting until (turn_at until c) c d line held turn over

pub all_before_is_one : AllBeforeIsOne
all_before_is_one reporting until c d e text other a b =
    let go = all_begin (IsOverBy until) reporting until a.turns b.turns c d e text other a.leads b.leads (held_ends reporting until e b.held) in
    let end = ends (IsOverBy until) reporting until go.0 d e go.1 (held_ends reporting until d a.held) go.2 in
    (sym (go.3 ∙ ap (λ t. text ++ t) end.0 ∙ append-nil text), sym end.1)

-- ---- one turn after others

-- one more
pub one_more_if : (Holds : Turn → Config → Type 0) (reporting : Reporting) (until n : ℕ) (c mid d : Config) (text line : List ℕ) → LeadsIf Holds reporting until n c text mid
    → IsTurn reporting until mid line d → Holds (turn_at until mid) d → LeadsIf Holds reporting until (suc n) c (text ++ line) d
one_more_if Holds reporting until zero c mid d text line l turn over =
    (d, line, [], subst (λ x. IsTurn reporting until x line d) l.1 turn, subst (λ x. Holds (turn_at until x) d) l.1 over, (refl, refl), ap (λ t. t ++ line) l.0 ∙ sym (append-nil line))
one_more_if Holds reporting until (suc n) c mid d text line (first, head, rest, turn, over, after, e) last end =
    (first, head, rest ++ line, turn, over, one_more_if Holds reporting until n first mid d rest line after last end, ap (λ t. t ++ line) e ∙ append_assoc head rest line)
