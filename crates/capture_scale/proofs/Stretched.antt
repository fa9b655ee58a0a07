-- Edges that are scaled.
use Rattle.std.proofs.Common.{◌≡◌, ℕ, ◌+◌, ◌*◌, ◌/◌, ◌≤◌, ◌&&◌, min, Bool, true, false, nat_le, List, [], ◌∷◌, ◌++◌, length, drop, map, refl, sym, ap, subst₂, ◌∙◌, append-nil, arith}
use Rattle.std.proofs.Math.ListN.{drop_of_length-le}
use Rattle.std.proofs.lemmas.Nat.{div-add-mod', div_below, mod_below, mul-le}
use Rattle.std.proofs.lemmas.Bool.Decides.{nat_tests}
use Rattle.line_wave.specs.declared.Edge.{Edge}
use Rattle.line_wave.specs.Bounds.{latest_instant}
use Rattle.capture_core.specs.Edges.{AreInTurn, Captured, EndBy, IsCapture}
use Rattle.capture_core.proofs.Recording.{sooner_turn}
use Rattle.capture_smooth.specs.Smooth.{AreApart, smooth_edges}
use Rattle.capture_smooth.proofs.Pairs.{smoothing}
use Rattle.capture_scale.specs.Scaled.{Scaling, cut_edge, is_scalable, scaled, scaled_at, scaled_edge, scaled_edges, shortest_kept}

-- all are scaled
pub all_cut : (factor k : ℕ) (kept edges : List Edge) → length edges ≤ k → map (cut_edge factor) edges ≡ kept ++ map (cut_edge factor) (drop k edges) → kept ≡ map (cut_edge factor) edges
all_cut factor k kept edges l so_far = sym (append-nil kept) ∙ sym (so_far ∙ ap (λ es. kept ++ map (cut_edge factor) es) (drop_of_length-le edges l))

-- ---- instants

-- a later instant is no sooner when it is scaled
later : (factor a b : ℕ) → a ≤ b → scaled_at factor a ≤ scaled_at factor b
later factor a b l = let m = mul-le a factor b factor l (omega arith) in omega (arith, m)

-- a pulse that is kept lasts a microsecond
lasts : (factor n : ℕ) → 1 ≤ factor → shortest_kept factor ≤ n → 10000 ≤ n * factor
lasts factor n some l =
    let whole = div-add-mod' 9999 factor in
    let rest = mod_below 9999 factor (omega (arith, some)) in
    let product = mul-le (9999 / factor + 1) factor n factor l (omega arith) in
    let split : (9999 / factor + 1) * factor ≡ 9999 / factor * factor + factor = grind arith in
    omega (arith, whole, rest, product, split)

apart_at : (factor a b : ℕ) → 1 ≤ factor → a + shortest_kept factor ≤ b → scaled_at factor a + 1 ≤ scaled_at factor b
apart_at factor a b some l =
    let one = lasts factor (shortest_kept factor) some (omega arith) in
    let product = mul-le (a + shortest_kept factor) factor b factor l (omega arith) in
    let split : (a + shortest_kept factor) * factor ≡ a * factor + shortest_kept factor * factor = grind arith in
    omega (arith, one, product, split)

-- ---- edges in turn

in_turn : (factor : ℕ) (b : Bool) (from : ℕ) (es : List Edge) → 1 ≤ factor → AreInTurn b from es → AreApart (shortest_kept factor) es → AreInTurn b (scaled_at factor from) (map (scaled_edge factor) es)
in_turn factor b from [] some t a = tt
in_turn factor b from (e ∷ []) some t a = (t.0, later factor from e.at t.1, tt)
in_turn factor b from (e ∷ f ∷ es) some t a =
    let more = in_turn factor e.low f.at (f ∷ es) some (t.2.0, omega arith, t.2.2) a.1 in
    (t.0, later factor from e.at t.1, (t.2.0, apart_at factor e.at f.at some a.0, more.2))

ends_at : (factor end : ℕ) (es : List Edge) → EndBy end es → EndBy (scaled_at factor end) (map (scaled_edge factor) es)
ends_at factor end [] h = tt
ends_at factor end (e ∷ es) h = (later factor e.at end h.0, ends_at factor end es h.1)

-- ---- the limit

parts : (a b c : Bool) → (a && b && c) ≡ true → (a ≡ true) × (b ≡ true) × (c ≡ true)
parts true true c h = (refl, refl, h)
parts true false c h = cc
parts false b c h = cc

pub some_of : (factor end : ℕ) → is_scalable factor end ≡ true → 1 ≤ factor
some_of factor end h =
    let p = parts (nat_le 1 factor) (nat_le factor 10000000) (nat_le (scaled_at factor end) latest_instant) h in
    let l = p.0 in
    grind (arith, nat_tests, l)

pub early_of : (factor end : ℕ) → is_scalable factor end ≡ true → scaled_at factor end ≤ latest_instant
early_of factor end h =
    let p = parts (nat_le 1 factor) (nat_le factor 10000000) (nat_le (scaled_at factor end) latest_instant) h in
    let l = p.2 in
    grind (arith, nat_tests, l)

-- the limit cuts no edge of a capture whose end is scaled within it
pub cut_is : (factor end : ℕ) (es : List Edge) → scaled_at factor end ≤ latest_instant → EndBy end es → map (cut_edge factor) es ≡ map (scaled_edge factor) es
cut_is factor end [] l h = refl
cut_is factor end (e ∷ es) l h =
    let early = later factor e.at end h.0 in
    let same : min (scaled_at factor e.at) latest_instant ≡ scaled_at factor e.at = omega (arith, l, early) in
    ap (λ n. (let r : Edge = record { at = n; low = e.low } in r) ∷ map (cut_edge factor) es) same ∙ ap (λ xs. scaled_edge factor e ∷ xs) (cut_is factor end es l h.1)

pub cut_end : (factor end : ℕ) → scaled_at factor end ≤ latest_instant → min (scaled_at factor end) latest_instant ≡ scaled_at factor end
cut_end factor end l = omega (arith, l)

-- ---- laws

pub scaled_capture : (factor : ℕ) (es : List Edge) (end : ℕ) → IsCapture es end → is_scalable factor end ≡ true → IsCapture (scaled_edges factor es) (scaled_at factor end)
scaled_capture factor es end h can =
    let n = shortest_kept factor in
    let long = smoothing.capture n es end h in
    let turn = in_turn factor false 0 (smooth_edges n es) (some_of factor end can) long.turn (smoothing.apart n es end h) in
    record {
      turn = sooner_turn false (scaled_at factor 0) 0 (scaled_edges factor es) (omega arith) turn;
      ends = ends_at factor end (smooth_edges n es) long.ends;
      early = early_of factor end can;
    }

-- what is kept and cut
pub kept_is : (factor n end : ℕ) (es long kept : List Edge) → IsCapture es end → is_scalable factor end ≡ true → n ≡ shortest_kept factor → long ≡ smooth_edges n es → kept ≡ map (cut_edge factor) long
    → kept ≡ scaled_edges factor es
kept_is factor n end es long kept h can least thin cut =
    let least_thin : smooth_edges n es ≡ smooth_edges (shortest_kept factor) es = ap (λ m. smooth_edges m es) least in
    cut ∙ ap (map (cut_edge factor)) (thin ∙ least_thin) ∙ cut_is factor end (smooth_edges (shortest_kept factor) es) (early_of factor end can) (smoothing.capture (shortest_kept factor) es end h).ends

pub made : (factor n end last : ℕ) (es long kept : List Edge) → IsCapture es end → is_scalable factor end ≡ true → n ≡ shortest_kept factor → long ≡ smooth_edges n es → kept ≡ map (cut_edge factor) long
    → last ≡ min (scaled_at factor end) latest_instant → IsCapture kept last
made factor n end last es long kept h can least thin cut ended =
    subst₂ IsCapture (sym (kept_is factor n end es long kept h can least thin cut)) (sym (ended ∙ cut_end factor end (early_of factor end can))) (scaled_capture factor es end h can)

one_apart : (b : Bool) (from : ℕ) (es : List Edge) → AreInTurn b from es → AreApart 1 es
one_apart b from [] t = tt
one_apart b from (e ∷ []) t = tt
one_apart b from (e ∷ f ∷ es) t = (t.2.1, one_apart e.low (e.at + 1) (f ∷ es) t.2)

same_at : (at : ℕ) → scaled_at 10000 at ≡ at
same_at at = omega arith

same_edges : (es : List Edge) → map (scaled_edge 10000) es ≡ es
same_edges [] = refl
same_edges (e ∷ es) = ap (λ n. (let r : Edge = record { at = n; low = e.low } in r) ∷ map (scaled_edge 10000) es) (same_at e.at) ∙ ap (λ xs. e ∷ xs) (same_edges es)

one : (es : List Edge) (end : ℕ) → IsCapture es end → scaled 10000 (record { edges = es; end = end }) ≡ record { edges = es; end = end }
one es end h =
    let stay : scaled_edges 10000 es ≡ es = ap (map (scaled_edge 10000)) (smoothing.long 1 es (one_apart false 0 es h.turn)) ∙ same_edges es in
    ap (λ xs. let c : Captured = record { edges = xs; end = scaled_at 10000 end } in c) stay ∙ ap (λ n. let c : Captured = record { edges = es; end = n } in c) (same_at end)

all : (factor : ℕ) (es : List Edge) (end : ℕ) → 10000 ≤ factor → IsCapture es end → scaled_edges factor es ≡ map (scaled_edge factor) es
all factor es end l h =
    let below = div_below 9999 factor 1 (omega (arith, l)) (omega (arith, l)) in
    let least : shortest_kept factor ≡ 1 = omega (arith, below) in
    ap (λ n. map (scaled_edge factor) (smooth_edges n es)) least ∙ ap (map (scaled_edge factor)) (smoothing.long 1 es (one_apart false 0 es h.turn))

pub scaling : Scaling
scaling = record { one = one; capture = scaled_capture; all = all }
