-- The first lines of those of rounds that are seen.
use Rattle.std.proofs.Common.{◌≡◌, ℕ, zero, suc, ◌-◌, ◌≤◌, Bool, true, List, [], ◌∷◌, ◌++◌, length, map, take, drop, get_or, filter, cond, ap, sym, refl, ◌∙◌, append_assoc, arith}
use Rattle.std.specs.List.{flat_map}
use Rattle.expect_judge.specs.Told.{RoundLine, round_as}
use Rattle.expect_judge.specs.declared.lines.RoundLine.{RoundLine as RoundRead}
use Rattle.expect_run.specs.Report.{shown_round}

abbrev pub shown_first : ℕ → (RoundLine → Bool) → List RoundRead → List ℕ
shown_first n P rounds = flat_map shown_round (take n (filter P (map round_as rounds)))

shown_at : (P : RoundLine → Bool) (r : RoundRead) (rest rounds : List RoundRead) (k : ℕ) (out new goal : List ℕ) → rounds ≡ r ∷ rest → P (round_as r) ≡ true → new ≡ out ++ shown_round (round_as r)
    → out ++ shown_first (suc k) P rounds ≡ goal → new ++ shown_first k P rest ≡ goal
shown_at P r rest rounds k out new goal split seen made before =
    let others : List RoundLine = filter P (map round_as rest) in
    let more : filter P (map round_as rounds) ≡ round_as r ∷ others =
    ap (λ (rs : List RoundRead). filter P (map round_as rs)) split ∙ ap (λ b. cond b (round_as r ∷ others) others) seen in
    ap (λ o. o ++ shown_first k P rest) made ∙ append_assoc out (shown_round (round_as r)) (shown_first k P rest)
    ∙ sym (ap (λ (rs : List RoundLine). out ++ flat_map shown_round (take (suc k) rs)) more) ∙ before

-- one more line
pub shown_more : (P : RoundLine → Bool) (r : RoundRead) (rest rounds : List RoundRead) (left : ℕ) (out new goal : List ℕ) → (left ≡ 0 → ⊥) → rounds ≡ r ∷ rest → P (round_as r) ≡ true
    → new ≡ out ++ shown_round (round_as r) → out ++ shown_first left P rounds ≡ goal → new ++ shown_first (left - 1) P rest ≡ goal
shown_more P r rest rounds zero out new goal some split seen made before = absurd (some refl)
shown_more P r rest rounds (suc k) out new goal some split seen made before =
    let e : suc k - 1 ≡ k = omega arith in
    ap (λ n. new ++ shown_first n P rest) e ∙ shown_at P r rest rounds k out new goal split seen made before

-- the same of the first round of a slice
pub shown_more_at : (P : RoundLine → Bool) (rounds : List RoundRead) (d : RoundRead) (left : ℕ) (out new goal : List ℕ) → (left ≡ 0 → ⊥) → 1 ≤ length rounds → P (round_as (get_or rounds 0 d)) ≡ true
    → new ≡ out ++ shown_round (round_as (get_or rounds 0 d)) → out ++ shown_first left P rounds ≡ goal → new ++ shown_first (left - 1) P (drop 1 rounds) ≡ goal
shown_more_at P [] d left out new goal more some seen made before = absurd (omega (arith, some))
shown_more_at P (r ∷ rest) d left out new goal more some seen made before = shown_more P r rest (r ∷ rest) left out new goal more refl seen made before
