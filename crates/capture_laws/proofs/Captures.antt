-- Two captures of one line are one.
use Rattle.std.proofs.Common.{◌≡◌, ℕ, ◌+◌, ◌<◌, ◌≤◌, Bool, true, false, not, nat_lt, if◌then◌else◌, List, [], ◌∷◌, inl, inr, refl, sym, ap, ap₂, ◌∙◌, subst, arith}
use Rattle.std.proofs.lemmas.Bool.{cases_lt}
use Rattle.std.proofs.lemmas.Bool.Decides.{nat_tests}
use Rattle.line_wave.specs.declared.Edge.{Edge}
use Rattle.capture_core.specs.Edges.{AreInTurn, Captured, IsCapture, level_at, line_of_edges}
use Rattle.capture_core.proofs.Recording.{before_turn}

-- at an edge the level is the edge's
at_edge : (b : Bool) (from : ℕ) (e : Edge) (es : List Edge) → AreInTurn b from (e ∷ es) → level_at b (e ∷ es) e.at ≡ not b
at_edge b from e es h =
    let late : nat_lt e.at e.at ≡ false = grind (arith, nat_tests) in
    ap (λ x. if x then b else level_at e.low es e.at) late ∙ before_turn e.low (e.at + 1) es h.2 e.at (omega arith) ∙ h.0

before_edge : (b : Bool) (e : Edge) (es : List Edge) (u : ℕ) → u < e.at → level_at b (e ∷ es) u ≡ b
before_edge b e es u l = let early : nat_lt u e.at ≡ true = grind (arith, nat_tests) in ap (λ x. if x then b else level_at e.low es u) early

after_edge : (b : Bool) (e : Edge) (es : List Edge) (u : ℕ) → e.at ≤ u → level_at b (e ∷ es) u ≡ level_at e.low es u
after_edge b e es u l = let late : nat_lt u e.at ≡ false = grind (arith, nat_tests) in ap (λ x. if x then b else level_at e.low es u) late

differ : (b : Bool) → not b ≡ b → ⊥
differ true h = cc
differ false h = cc

-- edges in turn that tell the same levels are the same edges
same_edges : (b : Bool) (from : ℕ) (es fs : List Edge) → AreInTurn b from es → AreInTurn b from fs → ((u : ℕ) → from ≤ u → level_at b es u ≡ level_at b fs u) → es ≡ fs
same_edges b from [] [] h k same = refl
same_edges b from [] (f ∷ fs) h k same = absurd (differ b (sym (at_edge b from f fs k) ∙ sym (same f.at k.1)))
same_edges b from (e ∷ es) [] h k same = absurd (differ b (sym (at_edge b from e es h) ∙ same e.at h.1))
same_edges b from (e ∷ es) (f ∷ fs) h k same = elim (cases_lt e.at f.at) [
  | inl lt ↦ absurd (differ b (sym (at_edge b from e es h) ∙ same e.at h.1 ∙ before_edge b f fs e.at lt))
  | inr ge ↦ elim (cases_lt f.at e.at) [
    | inl lt ↦ absurd (differ b (sym (at_edge b from f fs k) ∙ sym (same f.at k.1) ∙ before_edge b e es f.at lt))
    | inr le ↦ (
        let at : e.at ≡ f.at = omega (arith, ge, le) in
        let low : e.low ≡ f.low = h.0 ∙ sym k.0 in
        let one : e ≡ f = (λ i. record { at = at i; low = low i }) in
        let there : AreInTurn e.low (e.at + 1) fs = subst (λ (x : Edge). AreInTurn x.low (x.at + 1) fs) (sym one) k.2 in
        let levels : (u : ℕ) → e.at + 1 ≤ u → level_at e.low es u ≡ level_at e.low fs u = (λ u l.
        let from_e : e.at ≤ u = omega (arith, l) in
        let from_f : f.at ≤ u = omega (arith, l, at) in
        let begun : from ≤ e.at = h.1 in
        let now : from ≤ u = omega (arith, l, begun) in
        sym (after_edge b e es u from_e) ∙ same u now ∙ after_edge b f fs u from_f ∙ ap (λ x. level_at x fs u) (sym low)) in
        ap₂ (λ (x : Edge) (xs : List Edge). x ∷ xs) one (same_edges e.low (e.at + 1) es fs h.2 there levels)
        )
  ]
]

pub same_captures : (c d : Captured) → IsCapture c.edges c.end → IsCapture d.edges d.end → ((u : ℕ) → line_of_edges c.edges u ≡ line_of_edges d.edges u) → c.end ≡ d.end → c ≡ d
same_captures c d h k line end =
    let edges : c.edges ≡ d.edges = same_edges false 0 c.edges d.edges h.turn k.turn (λ u l. line u) in
    λ i. record { edges = edges i; end = end i }
