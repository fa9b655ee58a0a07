-- The next edge of a round is found by the next pulse alone.
use Rattle.std.proofs.Common.{◌≡◌, ℕ, zero, suc, ◌+◌, ◌-◌, ◌<◌, ◌≤◌, Bool, true, false, not, ◌&&◌, nat_lt, List, [], ◌∷◌, ◌++◌, append_assoc, append-nil, inl, inr, Option, Some, None, refl, arith, ap, ap₂, ◌∙◌, sym, subst}
use Rattle.std.specs.List.{All}
use Rattle.std.specs.Option.{option_to_list}
use Rattle.std.proofs.lemmas.Bool.{cases_lt}
use Rattle.std.proofs.lemmas.Bool.Decides.{nat_tests}
use Rattle.line_wave.specs.declared.Stretch.{Stretch}
use Rattle.line_wave.specs.declared.Edge.{Edge}
use Rattle.line_wave.specs.Line.{Line, IsWave, is_fall, was_low}
use Rattle.line_wave.specs.Pulses.{AreFarApart, AreSparse, IsNarrow}
use Rattle.line_reading.specs.Reading.{reading_of}
use Rattle.line_reading.proofs.Ends.{until_by}
use Rattle.line_rounds.specs.declared.Seat.{Seat}
use Rattle.line_rounds.specs.Edges.{IsNextEdge}
use Rattle.line_rounds.specs.Round.{IsRoundLine}
use Rattle.line_rounds.proofs.Afterwards.{no_fall_after}
use Rattle.line_rounds.proofs.Exists.{has_line, later_pulses}
use Rattle.line_rounds.proofs.Still.{high_sparse}
use Rattle.line_wire.specs.declared.edge_wire.EdgeWire.{EdgeWire}
use Rattle.capture_laws.specs.NextEdges.{EdgesComeSoon, EdgesStay, IsFoundNext}
use Rattle.capture_laws.proofs.Calm.{over_soon}

-- ---- a line that stays

-- from t on, before `end`, the line is so
abbrev StaysBefore : Line → ℕ → ℕ → Bool → Type 0
StaysBefore low t end level = (u : ℕ) → t ≤ u → u < end → low u ≡ level

-- while it stays it does not fall
calm : (low : Line) (t end u : ℕ) (level : Bool) → StaysBefore low t end level → t < u → u < end → is_fall low u ≡ false
calm low t end u level stays after before =
    let some : nat_lt 0 u ≡ true = grind (arith, nat_tests) in
    let now = stays u (omega (arith, after)) before in
    let was = stays (u - 1) (omega (arith, after)) (omega (arith, after, before)) in
    ap₂ (λ a b. a && not (nat_lt 0 u && b)) now was ∙ ap (λ c. level && not (c && level)) some ∙ never level
  where
    never : (b : Bool) → (b && not (true && b)) ≡ false
    never true = refl
    never false = refl

-- the reading that began is over soon
ends : (low : Line) (begin t end : ℕ) (level : Bool) → begin ≤ t → t + 4702 ≤ end → StaysBefore low t end level → (reading_of low begin).at ≤ t + 4701
ends low begin t end level begun long stays = over_soon low begin t begun (λ u after near. calm low t end u level stays after (omega (arith, near, long)))

-- with sparse pulses it does not stay low so long
not_low : (seats : List Seat) (begin : ℕ) (pulses : List Stretch) (low : Line) (t end : ℕ) → IsRoundLine seats begin pulses low → AreSparse pulses
    → begin ≤ t → t + 18302 ≤ end → StaysBefore low t end true → ⊥
not_low seats begin pulses low t end line sparse begun long stays =
    let over = ends low begin t end true begun (omega (arith, long)) stays in
    let high = high_sparse seats begin pulses low line sparse (t + 18301) (omega (arith, over)) in
    let is = stays (t + 18301) (omega arith) (omega (arith, long)) in
    cc

-- and once it was high so long, it does not fall any more
no_fall : (seats : List Seat) (begin : ℕ) (pulses : List Stretch) (low : Line) (t end u : ℕ) → IsRoundLine seats begin pulses low
    → begin ≤ t → t + 4702 ≤ end → StaysBefore low t end false → end ≤ u → is_fall low u ≡ false
no_fall seats begin pulses low t end u line begun long stays past =
    no_fall_after seats begin pulses low line u (omega (arith, ends low begin t end false begun long stays, until_by low begin, long, past))

-- so it is high for good
high_on : (seats : List Seat) (begin : ℕ) (pulses : List Stretch) (low : Line) (t end n : ℕ) → IsRoundLine seats begin pulses low
    → begin ≤ t → t + 4702 ≤ end → StaysBefore low t end false → low (end + n - 1) ≡ false
high_on seats begin pulses low t end zero line begun long stays = stays (end + 0 - 1) (omega (arith, long)) (omega (arith, long))
high_on seats begin pulses low t end (suc n) line begun long stays =
    let before = high_on seats begin pulses low t end n line begun long stays in
    let same : end + suc n - 1 ≡ end + n = omega arith in
    let some : nat_lt 0 (end + n) ≡ true = grind (arith, nat_tests, long) in
    let none = no_fall seats begin pulses low t end (end + n) line begun long stays (omega arith) in
    ap low same ∙ level (low (end + n)) (low (end + n - 1)) before (ap (λ b. low (end + n) && not (b && low (end + n - 1))) (sym some) ∙ none)
  where
    level : (a b : Bool) → b ≡ false → (a && not (true && b)) ≡ false → a ≡ false
    level false b h k = refl
    level true true h k = cc
    level true false h k = cc

lowers : (b : Bool) → not b ≡ false → b ≡ true
lowers true k = refl
lowers false k = cc

-- low after high is a fall
fallen : (a s b : Bool) → a ≡ true → b ≡ false → (a && not (s && b)) ≡ false → ⊥
fallen false s b x y z = cc
fallen true s true x y z = cc
fallen true true false x y z = cc
fallen true false false x y z = cc

-- ---- pulses that follow

-- those after a pulse begin 25,000 after its end
far_after : (p : Stretch) (later : List Stretch) → AreFarApart (p ∷ later) → All IsNarrow later → All (λ q. p.to + 25000 ≤ q.from) later
far_after p [] far narrow k d l = absurd (omega (arith, l))
far_after p (q ∷ later) far narrow zero d l = far.0
far_after p (q ∷ later) far narrow (suc k) d l =
    let wide : q.from < q.to = (narrow 0 q (omega arith)).0 in
    let rest = far_after q later far.1 (λ i e m. narrow (suc i) e (omega (arith, m))) k d (omega (arith, l)) in
    omega (arith, rest, wide, far.0)

far_end : (past more : List Stretch) → AreFarApart (past ++ more) → AreFarApart more
far_end [] more far = far
far_end (p ∷ []) [] far = far
far_end (p ∷ []) (q ∷ more) far = far.1
far_end (p ∷ q ∷ past) more far = far_end (q ∷ past) more far.1

narrow_end : (past more : List Stretch) → All IsNarrow (past ++ more) → All IsNarrow more
narrow_end [] more narrow = narrow
narrow_end (p ∷ past) more narrow = narrow_end past more (λ k d l. narrow (suc k) d (omega (arith, l)))

-- ---- the next edge, with pulses that follow the next one

module _ (seats : List Seat) (begin t : ℕ) (past later : List Stretch) (p : Stretch) (alone low : Line) (line : IsRoundLine seats begin (past ++ p ∷ []) alone) (whole : IsRoundLine seats begin (past ++ (p ∷ later)) low) (sparse : AreSparse (past ++ (p ∷ later))) (begun : begin ≤ t) (late : t ≤ p.from) where
  wide : p.from < p.to
  wide = (narrow_end past (p ∷ later) sparse.narrow 0 p (omega arith)).0

  far : All (λ q. p.to + 25000 ≤ q.from) later
  far = far_after p later (far_end past (p ∷ later) sparse.far) (λ k d l. narrow_end past (p ∷ later) sparse.narrow (suc k) d (omega (arith, l)))

  -- before they begin both lines are one
  same : (u : ℕ) → u < p.to + 25000 → alone u ≡ low u
  same u l =
      later_pulses seats begin (past ++ p ∷ []) later (p.to + 25000) alone low far line
      (subst (λ (ps : List Stretch). IsRoundLine seats begin ps low) (sym (append_assoc past (p ∷ []) later)) whole) u l

  same_was : was_low alone t ≡ was_low low t
  same_was = ap (λ b. nat_lt 0 t && b) (same (t - 1) (omega (arith, late, wide)))

  long : t + 18302 ≤ p.to + 25000
  long = omega (arith, late, wide)

  short : t + 4702 ≤ p.to + 25000
  short = omega (arith, late, wide)

  never_low : StaysBefore low t (p.to + 25000) true → ⊥
  never_low stays = not_low seats begin (past ++ (p ∷ later)) low t (p.to + 25000) whole sparse begun long stays

  -- an edge comes before they begin
  edge_early : (e : Edge) → IsNextEdge alone t (Some e) → p.to + 25000 ≤ e.at → ⊥
  edge_early e h ge = by (was_low alone t) refl
    where
      stays : (level : Bool) → was_low alone t ≡ level → StaysBefore alone t (p.to + 25000) level
      stays level was u l m = h.3 u l (omega (arith, m, ge)) ∙ was

      by : (level : Bool) → was_low alone t ≡ level → ⊥
      by true was = never_low (λ u l m. sym (same u m) ∙ stays true was u l m)
      by false was =
          let falls = no_fall seats begin (past ++ p ∷ []) alone t (p.to + 25000) e.at line begun short (stays false was) ge in
          let high : alone (e.at - 1) ≡ false = h.3 (e.at - 1) (omega (arith, ge, long)) (omega (arith, ge)) ∙ was in
          let low_then : e.low ≡ true = lowers e.low (sym h.2 ∙ was) in
          let is : alone e.at ≡ true = h.1 ∙ low_then in
          fallen (alone e.at) (nat_lt 0 e.at) (alone (e.at - 1)) is high falls

  -- where none comes, none does with them
  none_later : IsNextEdge alone t None → IsNextEdge low t None
  none_later h = by (was_low alone t) refl
    where
      stays : (level : Bool) → was_low alone t ≡ level → StaysBefore low t (p.to + 25000) level
      stays level was u l m = sym (same u m) ∙ h u l ∙ was

      by : (level : Bool) → was_low alone t ≡ level → (u : ℕ) → t ≤ u → low u ≡ was_low low t
      by true was u l = absurd (never_low (stays true was))
      by false was u l = elim (cases_lt u (p.to + 25000)) [
        | inl lt ↦ stays false was u l lt ∙ sym was ∙ same_was
        | inr ge ↦ (
            let at : p.to + 25000 + (u + 1 - (p.to + 25000)) - 1 ≡ u = omega (arith, ge) in
            sym (ap low at) ∙ high_on seats begin (past ++ (p ∷ later)) low t (p.to + 25000) (u + 1 - (p.to + 25000)) whole begun short (stays false was) ∙ sym was ∙ same_was
            )
      ]

  pub same_edge : (edge : Option Edge) → IsNextEdge alone t edge → IsNextEdge low t edge
  same_edge None h = none_later h
  same_edge (Some e) h = elim (cases_lt e.at (p.to + 25000)) [
    | inl lt ↦ (
      h.0,
      sym (same e.at lt) ∙ h.1,
      sym same_was ∙ h.2,
      λ u l m. sym (same u (omega (arith, m, lt))) ∙ h.3 u l m ∙ same_was,
    )
    | inr ge ↦ absurd (edge_early e h ge)
  ]

-- ---- the laws

none_after : (t : ℕ) → All (λ (p : Stretch). t ≤ p.from) []
none_after t k d l = absurd (omega (arith, l))

-- what is found is the next edge where no pulse follows
found_alone : (past : List Stretch) (next : Option Stretch) (old new : EdgeWire) (edge : Option Edge) → IsFoundNext past next old new edge
    → (low : Line) → IsRoundLine old.seats.items old.begin (past ++ (option_to_list next ++ [])) low → IsNextEdge low old.time edge
found_alone past next old new edge is low line =
    is.found.edge_is [] low (subst (λ (ps : List Stretch). IsWave (past ++ ps)) (sym (append-nil (option_to_list next))) is.is_next.wave) (none_after new.time) line

pub edges_stay : EdgesStay
edges_stay past None old new edge is later low sparse follow line =
    found_alone past None old new edge is low (subst (λ (ps : List Stretch). IsRoundLine old.seats.items old.begin (past ++ ps) low) follow line)
edges_stay past (Some p) old new edge is later low sparse follow line =
    let alone = has_line old.seats.items old.begin (past ++ p ∷ []) in
    let begun : old.begin ≤ old.time = is.begun.from in
    let late : old.time ≤ p.from = is.is_next.late 0 p (omega arith) in
    same_edge old.seats.items old.begin old.time past later p alone.0 low alone.1 line sparse begun late edge (found_alone past (Some p) old new edge is alone.0 alone.1)

-- an edge that comes, comes soon
soon : (seats : List Seat) (begin t : ℕ) (pulses : List Stretch) (low : Line) (e : Edge) → IsRoundLine seats begin pulses low → AreSparse pulses → begin ≤ t
    → IsNextEdge low t (Some e) → t + 23000 ≤ e.at → ⊥
soon seats begin t pulses low e line sparse begun h late = by (was_low low t) refl
  where
    stays : (level : Bool) → was_low low t ≡ level → StaysBefore low t e.at level
    stays level was u l m = h.3 u l m ∙ was

    by : (level : Bool) → was_low low t ≡ level → ⊥
    by true was = not_low seats begin pulses low t e.at line sparse begun (omega (arith, late)) (stays true was)
    by false was =
        let falls = no_fall seats begin pulses low t e.at e.at line begun (omega (arith, late)) (stays false was) (omega arith) in
        let high : low (e.at - 1) ≡ false = stays false was (e.at - 1) (omega (arith, late)) (omega (arith, late)) in
        let low_then : e.low ≡ true = lowers e.low (sym h.2 ∙ was) in
        fallen (low e.at) (nat_lt 0 e.at) (low (e.at - 1)) (h.1 ∙ low_then) high falls

pub edges_come_soon : EdgesComeSoon
edges_come_soon past next old new None is sparse = tt
edges_come_soon past next old new (Some e) is sparse =
    let line = has_line old.seats.items old.begin (past ++ (option_to_list next ++ [])) in
    let edge = found_alone past next old new (Some e) is line.0 line.1 in
    let few = subst (λ (ps : List Stretch). AreSparse (past ++ ps)) (sym (append-nil (option_to_list next))) sparse in
    elim (cases_lt e.at (old.time + 23000)) [
      | inl lt ↦ lt
      | inr ge ↦ absurd (soon old.seats.items old.begin old.time (past ++ (option_to_list next ++ [])) line.0 e line.1 few is.begun.from edge ge)
    ]
