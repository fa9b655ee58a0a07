-- Lines that agree before an instant have the same edges before it.
use Rattle.std.proofs.Common.{◌≡◌, ℕ, ◌+◌, ◌<◌, ◌≤◌, Bool, true, false, ◌&&◌, ◌||◌, nat_lt, nat_le, if◌then◌else◌, List, [], ◌∷◌, ◌++◌, inl, inr, refl, sym, ap, ap₂, ◌∙◌, arith}
use Rattle.std.proofs.lemmas.Bool.{cases_lt}
use Rattle.std.proofs.lemmas.Bool.Decides.{nat_tests}
use Rattle.line_wave.specs.declared.Stretch.{Stretch}
use Rattle.line_wave.specs.Line.{IsWaveFrom, covers, line_of}
use Rattle.record_core.specs.declared.cell.Form.{Form}
use Rattle.live_session.specs.declared.edges.InstantRange.{InstantRange}
use Rattle.live_session.specs.Edges.{edge_reported, edge_text, edges_reported}

-- ---- edges past a span

none_past : (form : Form) (span : InstantRange) (at level : ℕ) → span.until ≤ at → edge_reported form span at level ≡ []
none_past form span at level l =
    let e : nat_lt at span.until ≡ false = grind (arith, nat_tests) in
    ap (λ b. if nat_le span.from at && b then edge_text form at level else []) e ∙ off (nat_le span.from at)
  where
    off : (a : Bool) → (if a && false then edge_text form at level else []) ≡ []
    off true = refl
    off false = refl

all_past : (form : Form) (span : InstantRange) (from : ℕ) (ss : List Stretch) → IsWaveFrom from ss → span.until ≤ from → edges_reported form span ss ≡ []
all_past form span from [] w l = refl
all_past form span from (s ∷ ss) w l =
    let a : edge_reported form span s.from 0 ≡ [] = none_past form span s.from 0 (let x = w.0 in omega (arith, l, x)) in
    let b : edge_reported form span s.to 1 ≡ [] = none_past form span s.to 1 (let x = w.0 in let y = w.1 in omega (arith, l, x, y)) in
    let rest : edges_reported form span ss ≡ [] = all_past form span (s.to + 1) ss w.2 (let x = w.0 in let y = w.1 in omega (arith, l, x, y)) in
    ap₂ (λ x y. x ++ y) (ap₂ (λ x y. x ++ y) a b) rest

-- ---- where a wave is low

pub before_it : (s : Stretch) (t : ℕ) → t < s.from → covers s t ≡ false
before_it s t l = let e : nat_le s.from t ≡ false = grind (arith, nat_tests) in ap (λ b. b && nat_lt t s.to) e

pub quiet : (ss : List Stretch) (from t : ℕ) → IsWaveFrom from ss → t < from → line_of ss t ≡ false
quiet [] from t w l = refl
quiet (s ∷ ss) from t w l =
    let a : covers s t ≡ false = before_it s t (let x = w.0 in omega (arith, l, x)) in
    let b : line_of ss t ≡ false = quiet ss (s.to + 1) t w.2 (let x = w.0 in let y = w.1 in omega (arith, l, x, y)) in
    ap₂ (λ x y. x || y) a b

after_it : (s : Stretch) (t : ℕ) → s.to ≤ t → covers s t ≡ false
after_it s t l = let e : nat_lt t s.to ≡ false = grind (arith, nat_tests) in ap (λ b. nat_le s.from t && b) e ∙ off (nat_le s.from t)
  where
    off : (a : Bool) → (a && false) ≡ false
    off true = refl
    off false = refl

pub in_it : (s : Stretch) (t : ℕ) → s.from ≤ t → t < s.to → covers s t ≡ true
in_it s t l m =
    let e : nat_le s.from t ≡ true = grind (arith, nat_tests) in
    let f : nat_lt t s.to ≡ true = grind (arith, nat_tests) in
    ap₂ (λ a b. a && b) e f

pub low_in : (s : Stretch) (ss : List Stretch) (t : ℕ) → s.from ≤ t → t < s.to → line_of (s ∷ ss) t ≡ true
low_in s ss t l m = ap (λ b. b || line_of ss t) (in_it s t l m)

pub past_first : (s : Stretch) (ss : List Stretch) (t : ℕ) → s.to ≤ t → line_of (s ∷ ss) t ≡ line_of ss t
past_first s ss t l = ap (λ b. b || line_of ss t) (after_it s t l)

-- between the first stretch and the next one the line is high
gap : (s : Stretch) (ss : List Stretch) → IsWaveFrom (s.to + 1) ss → line_of (s ∷ ss) s.to ≡ false
gap s ss w = past_first s ss s.to (omega arith) ∙ quiet ss (s.to + 1) s.to w (omega arith)

-- ---- lines that agree

abbrev pub Agree : ℕ → List Stretch → List Stretch → Type 0
Agree u a b = (t : ℕ) → t < u → line_of a t ≡ line_of b t

not_both : (x y : Bool) → x ≡ y → x ≡ true → y ≡ false → ⊥
not_both x y e f g = cc

-- neither falls first
no_sooner : (u h : ℕ) (r : Stretch) (rs bs : List Stretch) → r.from < r.to → IsWaveFrom h bs → Agree u (r ∷ rs) bs → r.from < u → r.from < h → ⊥
no_sooner u h r rs bs some w same l m = not_both (line_of (r ∷ rs) r.from) (line_of bs r.from) (same r.from l) (low_in r rs r.from (omega arith) some) (quiet bs h r.from w m)

-- or rises first
no_shorter : (u : ℕ) (r s : Stretch) (rs ss : List Stretch) → IsWaveFrom (r.to + 1) rs → Agree u (s ∷ ss) (r ∷ rs) → r.to < u → s.from ≤ r.to → r.to < s.to → ⊥
no_shorter u r s rs ss w same l m n = not_both (line_of (s ∷ ss) r.to) (line_of (r ∷ rs) r.to) (same r.to l) (low_in s ss r.to m n) (gap r rs w)

turned : (u : ℕ) (a b : List Stretch) → Agree u a b → Agree u b a
turned u a b same t l = sym (same t l)

-- after a stretch that both have
tails : (u : ℕ) (r s : Stretch) (rs ss : List Stretch) → r.to ≡ s.to → IsWaveFrom (r.to + 1) rs → IsWaveFrom (s.to + 1) ss → Agree u (r ∷ rs) (s ∷ ss) → Agree u rs ss
tails u r s rs ss e w v same t l =
    elim (cases_lt t (r.to + 1)) [
      | inl lt ↦ quiet rs (r.to + 1) t w lt ∙ sym (quiet ss (s.to + 1) t v (omega (arith, lt, e)))
      | inr ge ↦ sym (past_first r rs t (omega (arith, ge))) ∙ same t l ∙ past_first s ss t (omega (arith, ge, e))
    ]

pub same_edges : (form : Form) (span : InstantRange) (u f g : ℕ) (a b : List Stretch) → span.until ≤ u → IsWaveFrom f a → IsWaveFrom g b → Agree u a b → edges_reported form span a ≡ edges_reported form span b
same_edges form span u f g [] [] l w v same = refl
same_edges form span u f g [] (s ∷ ss) l w v same =
    elim (cases_lt s.from u) [
      | inl lt ↦ absurd (no_sooner u (s.from + 1) s ss [] v.1 tt (turned u [] (s ∷ ss) same) lt (omega arith))
      | inr ge ↦ sym (all_past form span u (s ∷ ss) (ge, v.1, v.2) l)
    ]
same_edges form span u f g (r ∷ rs) [] l w v same =
    elim (cases_lt r.from u) [
      | inl lt ↦ absurd (no_sooner u (r.from + 1) r rs [] w.1 tt same lt (omega arith))
      | inr ge ↦ all_past form span u (r ∷ rs) (ge, w.1, w.2) l
    ]
same_edges form span u f g (r ∷ rs) (s ∷ ss) l w v same =
    elim (cases_lt r.from u) [
      | inl lt ↦ begun (λ h. same_edges form span u (r.to + 1) (s.to + 1) rs ss l w.2 v.2 (tails u r s rs ss h w.2 v.2 same)) lt
      | inr ge ↦ elim (cases_lt s.from u) [
        | inl lt ↦ absurd (no_sooner u r.from s ss (r ∷ rs) v.1 (omega arith, w.1, w.2) (turned u (r ∷ rs) (s ∷ ss) same) lt (omega (arith, lt, ge)))
        | inr other ↦ all_past form span u (r ∷ rs) (ge, w.1, w.2) l ∙ sym (all_past form span u (s ∷ ss) (other, v.1, v.2) l)
      ]
    ]
  where
    back : Agree u (s ∷ ss) (r ∷ rs)
    back = turned u (r ∷ rs) (s ∷ ss) same

    not_later : r.from < u → s.from ≤ r.from
    not_later lt =
        elim (cases_lt r.from s.from) [
          | inl less ↦ absurd (no_sooner u s.from r rs (s ∷ ss) w.1 (omega arith, v.1, v.2) same lt less)
          | inr ge ↦ ge
        ]

    not_sooner : s.from < u → r.from ≤ s.from
    not_sooner lt =
        elim (cases_lt s.from r.from) [
          | inl less ↦ absurd (no_sooner u r.from s ss (r ∷ rs) v.1 (omega arith, w.1, w.2) back lt less)
          | inr ge ↦ ge
        ]

    both : edges_reported form span rs ≡ edges_reported form span ss → r.from ≡ s.from → r.to ≡ s.to → edges_reported form span (r ∷ rs) ≡ edges_reported form span (s ∷ ss)
    both rest e h = ap₂ (λ x y. x ++ y) (ap₂ (λ x y. edge_reported form span x 0 ++ edge_reported form span y 1) e h) rest

    -- a stretch that is on at the instant
    open_at : r.from ≡ s.from → u ≤ r.to → u ≤ s.to → edges_reported form span (r ∷ rs) ≡ edges_reported form span (s ∷ ss)
    open_at e m n =
        let a : edge_reported form span r.to 1 ≡ edge_reported form span s.to 1 = none_past form span r.to 1 (omega (arith, l, m)) ∙ sym (none_past form span s.to 1 (omega (arith, l, n))) in
        let b : edges_reported form span rs ≡ edges_reported form span ss = all_past form span (r.to + 1) rs w.2 (omega (arith, l, m)) ∙ sym (all_past form span (s.to + 1) ss v.2 (omega (arith, l, n))) in
        ap₂ (λ x y. x ++ y) (ap₂ (λ x y. edge_reported form span x 0 ++ y) e a) b

    begun : (r.to ≡ s.to → edges_reported form span rs ≡ edges_reported form span ss) → r.from < u → edges_reported form span (r ∷ rs) ≡ edges_reported form span (s ∷ ss)
    begun rest lt =
        let k = not_later lt in
        let j = not_sooner (omega (arith, k, lt)) in
        let e : r.from ≡ s.from = omega (arith, k, j) in
        let some = w.1 in
        let other = v.1 in
        elim (cases_lt r.to u) [
          | inl short ↦ elim (cases_lt r.to s.to) [
            | inl less ↦ absurd (no_shorter u r s rs ss w.2 back short (omega (arith, k, some)) less)
            | inr ge ↦ elim (cases_lt s.to r.to) [
              | inl less ↦ absurd (no_shorter u s r ss rs v.2 same (omega (arith, less, short)) (omega (arith, j, other)) less)
              | inr le ↦ (let h : r.to ≡ s.to = omega (arith, ge, le) in both (rest h) e h)
            ]
          ]
          | inr long ↦ elim (cases_lt s.to u) [
            | inl short ↦ absurd (no_shorter u s r ss rs v.2 same short (omega (arith, j, other)) (omega (arith, short, long)))
            | inr other_long ↦ open_at e long other_long
          ]
        ]
