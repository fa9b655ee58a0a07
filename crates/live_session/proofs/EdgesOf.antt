-- The edges of the lines of rounds that lie in a span.
use Rattle.std.proofs.Common.{◌≡◌, ℕ, ◌+◌, ◌-◌, ◌<◌, ◌≤◌, Bool, true, false, ◌&&◌, ◌||◌, nat_lt, nat_le, if◌then◌else◌, List, [], ◌∷◌, ◌++◌, inl, inr, refl, sym, ap, ap₂, ◌∙◌, arith}
use Rattle.std.proofs.lemmas.Bool.{cases_lt}
use Rattle.std.proofs.lemmas.Bool.Decides.{nat_tests}
use Rattle.std.proofs.lemmas.Grind.{flat_map-append}
use Rattle.line_wave.specs.declared.Stretch.{Stretch}
use Rattle.line_wave.specs.Line.{IsWave, IsWaveFrom, covers, line_of}
use Rattle.line_rounds.specs.declared.Outcome.{Outcome}
use Rattle.room_net.specs.Line.{run_wave}
use Rattle.record_core.specs.declared.cell.Form.{Form}
use Rattle.live_session.specs.declared.edges.InstantRange.{InstantRange}
use Rattle.live_session.specs.Edges.{edge_reported, edge_text, edges_reported, stretch_reported}
use Rattle.live_session.proofs.Moving.{AreLone}

pub edges_append : (form : Form) (span : InstantRange) (xs ys : List Stretch) → edges_reported form span (xs ++ ys) ≡ edges_reported form span xs ++ edges_reported form span ys
edges_append form span xs ys = flat_map-append (stretch_reported form span) xs ys

-- ---- past a span, and before it

pub past : (form : Form) (span : InstantRange) (at level : ℕ) → span.until ≤ at → edge_reported form span at level ≡ []
past form span at level l =
    let e : nat_lt at span.until ≡ false = grind (arith, nat_tests) in
    ap (λ b. if nat_le span.from at && b then edge_text form at level else []) e ∙ off (nat_le span.from at)
  where
    off : (a : Bool) → (if a && false then edge_text form at level else []) ≡ []
    off true = refl
    off false = refl

pub before : (form : Form) (span : InstantRange) (at level : ℕ) → at < span.from → edge_reported form span at level ≡ []
before form span at level l = let e : nat_le span.from at ≡ false = grind (arith, nat_tests) in ap (λ b. if b && nat_lt at span.until then edge_text form at level else []) e

pub all_past : (form : Form) (span : InstantRange) (from : ℕ) (ss : List Stretch) → IsWaveFrom from ss → span.until ≤ from → edges_reported form span ss ≡ []
all_past form span from [] w l = refl
all_past form span from (s ∷ ss) w l =
    let a : edge_reported form span s.from 0 ≡ [] = past form span s.from 0 (let x = w.0 in omega (arith, l, x)) in
    let b : edge_reported form span s.to 1 ≡ [] = past form span s.to 1 (let x = w.0 in let y = w.1 in omega (arith, l, x, y)) in
    let rest : edges_reported form span ss ≡ [] = all_past form span (s.to + 1) ss w.2 (let x = w.0 in let y = w.1 in omega (arith, l, x, y)) in
    ap₂ (λ x y. x ++ y) (ap₂ (λ x y. x ++ y) a b) rest

low_in : (s : Stretch) (ss : List Stretch) (t : ℕ) → s.from ≤ t → t < s.to → line_of (s ∷ ss) t ≡ true
low_in s ss t l m =
    let e : nat_le s.from t ≡ true = grind (arith, nat_tests) in
    let f : nat_lt t s.to ≡ true = grind (arith, nat_tests) in
    ap (λ b. b || line_of ss t) (ap₂ (λ a b. a && b) e f)

not_low : (b : Bool) → b ≡ true → b ≡ false → ⊥
not_low b e f = cc

-- a line that is high from an instant on has no edge after it
pub all_before : (form : Form) (span : InstantRange) (a end : ℕ) (ss : List Stretch) → IsWaveFrom a ss → ((u : ℕ) → end ≤ u → line_of ss u ≡ false) → end < span.from → edges_reported form span ss ≡ []
all_before form span a end [] w high l = refl
all_before form span a end (s ∷ ss) w high l =
    let to : s.to ≤ end = elim (cases_lt end s.to) [
      | inl lt ↦ (let x = w.1 in absurd (not_low (line_of (s ∷ ss) (s.to - 1)) (low_in s ss (s.to - 1) (omega (arith, x)) (omega (arith, x))) (high (s.to - 1) (omega (arith, lt)))))
      | inr ge ↦ ge
    ] in
    let x : edge_reported form span s.from 0 ≡ [] = before form span s.from 0 (let y = w.1 in omega (arith, l, to, y)) in
    let y : edge_reported form span s.to 1 ≡ [] = before form span s.to 1 (omega (arith, l, to)) in
    ap₂ (λ x y. x ++ y) (ap₂ (λ x y. x ++ y) x y) (all_before form span (s.to + 1) end ss w.2 (λ u m. second (covers s u) (line_of ss u) (high u m)) l)
  where
    second : (a b : Bool) → (a || b) ≡ false → b ≡ false
    second true b k = cc
    second false b k = k

-- ---- rounds that begin at an instant or later

abbrev pub FirstFrom : ℕ → List Outcome → Type 0
FirstFrom h [] = Unit {0}
FirstFrom h (o ∷ os) = h ≤ o.reading.begin

pub wave_from : (h : ℕ) (os : List Outcome) → IsWave (run_wave os) → AreLone os → FirstFrom h os → IsWaveFrom h (run_wave os)
wave_from h [] wave lone first = tt
wave_from h (o ∷ os) wave lone first = by o.wave refl wave
  where
    by : (w : List Stretch) → o.wave ≡ w → IsWave (w ++ run_wave os) → IsWaveFrom h (w ++ run_wave os)
    by [] e v = absurd (not_low (line_of [] o.reading.begin) (ap (λ (w : List Stretch). line_of w o.reading.begin) (sym e) ∙ lone.0.first) refl)
    by (s ∷ ss) e v = (
      elim (cases_lt s.from h) [
        | inl lt ↦ absurd (not_low (line_of (s ∷ ss) s.from) (low_in s ss s.from (omega arith) v.1) (ap (λ (w : List Stretch). line_of w s.from) (sym e) ∙ lone.0.before s.from (omega (arith, lt, first))))
        | inr ge ↦ ge
      ],
      v.1,
      v.2,
    )
