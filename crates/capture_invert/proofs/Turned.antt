-- Edges that are turned, and the line that they report.
use Rattle.std.proofs.Common.{◌≡◌, ℕ, ◌+◌, ◌≤◌, ◌==◌, zero, suc, not, Bool, true, false, nat_lt, if◌then◌else◌, List, [], ◌∷◌, ◌++◌, length, drop, map, refl, sym, ap, subst, ◌∙◌, append-nil, arith}
use Rattle.std.proofs.Math.ListN.{drop_of_length-le}
use Rattle.std.proofs.lemmas.Bool.Decides.{nat_tests}
use Rattle.line_wave.specs.declared.Edge.{Edge}
use Rattle.capture_core.specs.Edges.{AreInTurn, EndBy, IsCapture, level_at, line_of_edges}
use Rattle.capture_invert.specs.Inverted.{Inverting, falls_at_0, inverted_edges, turned}

not_not : (b : Bool) → not (not b) ≡ b
not_not true = refl
not_not false = refl

never_0 : (n : ℕ) → (suc n == 0) ≡ false
never_0 n = grind (arith, nat_tests)

-- all are turned
pub all_turned : (k : ℕ) (kept edges turned_edges : List Edge) → length edges ≤ k → turned_edges ≡ kept ++ map turned (drop k edges) → kept ≡ turned_edges
all_turned k kept edges turned_edges l so_far = sym (append-nil kept) ∙ sym (so_far ∙ ap (λ es. kept ++ map turned es) (drop_of_length-le edges l))

-- ---- edges in turn

turn_all : (low : Bool) (from : ℕ) (es : List Edge) → AreInTurn low from es → AreInTurn (not low) from (map turned es)
turn_all low from [] h = tt
turn_all low from (e ∷ es) h = (ap not h.0, h.1, turn_all e.low (e.at + 1) es h.2)

sooner : (low : Bool) (from to : ℕ) (es : List Edge) → from ≤ to → AreInTurn low to es → AreInTurn low from es
sooner low from to [] l h = tt
sooner low from to (e ∷ es) l h = let k = h.1 in (h.0, omega (arith, l, k), h.2)

ends_all : (end : ℕ) (es : List Edge) → EndBy end es → EndBy end (map turned es)
ends_all end [] h = tt
ends_all end (e ∷ es) h = (h.0, ends_all end es h.1)

-- edges later than 0, after a fall at 0
after_fall : (es : List Edge) → AreInTurn false 1 es → AreInTurn false 0 (falls_at_0 ∷ map turned es)
after_fall es h = (refl, omega arith, turn_all false 1 es h)

turn_by : (e : Edge) (es : List Edge) (n : ℕ) → e.at ≡ n → AreInTurn false 0 (e ∷ es) → AreInTurn false 0 (if n == 0 then map turned es else falls_at_0 ∷ map turned (e ∷ es))
turn_by e es zero k h = sooner false 0 (e.at + 1) (map turned es) (omega arith) (subst (λ low. AreInTurn low (e.at + 1) (map turned es)) (ap not h.0) (turn_all e.low (e.at + 1) es h.2))
turn_by e es (suc n) k h = subst (λ b. AreInTurn false 0 (if b then map turned es else falls_at_0 ∷ map turned (e ∷ es))) (sym (never_0 n)) (after_fall (e ∷ es) (h.0, omega (arith, k), h.2))

turn : (es : List Edge) → AreInTurn false 0 es → AreInTurn false 0 (inverted_edges es)
turn [] h = after_fall [] tt
turn (e ∷ es) h = turn_by e es e.at refl h

ends_by : (end : ℕ) (e : Edge) (es : List Edge) (b : Bool) → EndBy end (e ∷ es) → EndBy end (if b then map turned es else falls_at_0 ∷ map turned (e ∷ es))
ends_by end e es true h = ends_all end es h.1
ends_by end e es false h = (omega arith, ends_all end (e ∷ es) h)

ends : (end : ℕ) (es : List Edge) → EndBy end es → EndBy end (inverted_edges es)
ends end [] h = (omega arith, tt)
ends end (e ∷ es) h = ends_by end e es (e.at == 0) h

pub inverted_capture : (es : List Edge) (end : ℕ) → IsCapture es end → IsCapture (inverted_edges es) end
inverted_capture es end h = record { turn = turn es h.turn; ends = ends end es h.ends; early = h.early }

-- ---- the level

level_by : (b c x y : Bool) → x ≡ not y → (if b then not c else x) ≡ not (if b then c else y)
level_by true c x y h = refl
level_by false c x y h = h

level_all : (low : Bool) (es : List Edge) (u : ℕ) → level_at (not low) (map turned es) u ≡ not (level_at low es u)
level_all low [] u = refl
level_all low (e ∷ es) u = level_by (nat_lt u e.at) low (level_at (not e.low) (map turned es) u) (level_at e.low es u) (level_all e.low es u)

never_before : (u : ℕ) → nat_lt u 0 ≡ false
never_before u = grind (arith, nat_tests)

after_0 : (u : ℕ) (es : List Edge) → level_at false (falls_at_0 ∷ map turned es) u ≡ not (level_at false es u)
after_0 u es = ap (λ b. if b then false else level_at true (map turned es) u) (never_before u) ∙ level_all false es u

level_case : (e : Edge) (es : List Edge) (u n : ℕ) → e.at ≡ n → e.low ≡ true → level_at false (if n == 0 then map turned es else falls_at_0 ∷ map turned (e ∷ es)) u ≡ not (level_at false (e ∷ es) u)
level_case e es u zero k low =
    let here : level_at false (e ∷ es) u ≡ level_at true es u =
    ap (λ n. if nat_lt u n then false else level_at e.low es u) k ∙ ap (λ b. if b then false else level_at e.low es u) (never_before u) ∙ ap (λ b. level_at b es u) low in
    level_all true es u ∙ sym (ap not here)
level_case e es u (suc n) k low = ap (λ b. level_at false (if b then map turned es else falls_at_0 ∷ map turned (e ∷ es)) u) (never_0 n) ∙ after_0 u (e ∷ es)

level : (es : List Edge) (end u : ℕ) → IsCapture es end → line_of_edges (inverted_edges es) u ≡ not (line_of_edges es u)
level [] end u h = after_0 u []
level (e ∷ es) end u h = level_case e es u e.at refl h.turn.0

-- ---- turned twice

turned_twice : (e : Edge) → turned (turned e) ≡ e
turned_twice e = ap (λ b. let r : Edge = record { at = e.at; low = b } in r) (not_not e.low)

all_twice : (es : List Edge) → map turned (map turned es) ≡ es
all_twice [] = refl
all_twice (e ∷ es) = ap (λ x. x ∷ map turned (map turned es)) (turned_twice e) ∙ ap (λ xs. e ∷ xs) (all_twice es)

-- edges that are all later than 0, turned, get a fall at 0
later : (low : Bool) (es : List Edge) → AreInTurn low 1 es → inverted_edges (map turned es) ≡ falls_at_0 ∷ es
later low [] h = refl
later low (e ∷ es) h =
    let never : (e.at == 0) ≡ false = (let l = h.1 in grind (arith, nat_tests, l)) in
    ap (λ b. if b then map turned (map turned es) else falls_at_0 ∷ map turned (map turned (e ∷ es))) never ∙ ap (λ xs. falls_at_0 ∷ xs) (all_twice (e ∷ es))

fall_is : (e : Edge) → e.at ≡ 0 → e.low ≡ true → falls_at_0 ≡ e
fall_is e k low =
    sym (ap (λ n. let r : Edge = record { at = n; low = e.low } in r) k ∙ ap (λ b. let r : Edge = record { at = 0; low = b } in r) low)

twice_by : (e : Edge) (es : List Edge) (n : ℕ) → e.at ≡ n → AreInTurn false 0 (e ∷ es) → inverted_edges (if n == 0 then map turned es else falls_at_0 ∷ map turned (e ∷ es)) ≡ e ∷ es
twice_by e es zero k h =
    let next : AreInTurn e.low 1 es = subst (λ n. AreInTurn e.low (n + 1) es) k h.2 in
    later e.low es next ∙ ap (λ x. x ∷ es) (fall_is e k h.0)
twice_by e es (suc n) k h = ap (λ b. inverted_edges (if b then map turned es else falls_at_0 ∷ map turned (e ∷ es))) (never_0 n) ∙ all_twice (e ∷ es)

twice : (es : List Edge) (end : ℕ) → IsCapture es end → inverted_edges (inverted_edges es) ≡ es
twice [] end h = refl
twice (e ∷ es) end h = twice_by e es e.at refl h.turn

pub inverting : Inverting
inverting = record { level = level; capture = inverted_capture; twice = twice }
