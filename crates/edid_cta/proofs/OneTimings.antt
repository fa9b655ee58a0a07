-- Timings, and a tail after them.
use Rattle.std.proofs.Common.{◌≡◌, ℕ, ◌+◌, ◌-◌, ◌*◌, ◌<◌, ◌≤◌, true, false, nat_lt, IsTrue, List, [], ◌∷◌, ◌++◌, length, take, drop, flat_map, ap, arith, refl, sym, ◌∙◌, append_assoc, length-append, length-drop, take-append-drop}
use Rattle.std.proofs.lemmas.Grind.{flat_map-append}
use Rattle.std.proofs.lemmas.List.{take_all}
use borrow.Author.Tests.{tests}
use Rattle.edid_base.proofs.OneTiming.{one_timing}
use Rattle.edid_base.specs.Timing.{timing_bytes, low, high}
use Rattle.edid_base.specs.declared.timing.Timing.{Timing}
use Rattle.edid_cta.specs.Cta.{is_tail}
use Rattle.edid_cta.proofs.OneBlock.{append_same}

pub one_more : (ts : List Timing) (t : Timing) (new : List Timing) (rest bytes : List ℕ)
    → new ≡ ts ++ t ∷ [] → timing_bytes t ≡ take 18 rest → flat_map timing_bytes ts ++ rest ≡ bytes
    → (n : ℕ) → n ≡ length rest - 18 → flat_map timing_bytes new ++ take n (drop 18 rest) ≡ bytes
one_more ts t new rest bytes e f g n h =
    let fits : length (drop 18 rest) ≤ n = simp length-drop (omega arith) in
    let all : take n (drop 18 rest) ≡ drop 18 rest = take_all n (drop 18 rest) fits in
    let cut = take-append-drop 18 rest in
    let made : flat_map timing_bytes new ≡ flat_map timing_bytes ts ++ timing_bytes t = ap (flat_map timing_bytes) e ∙ flat_map-append timing_bytes ts (t ∷ []) in
    let two : (flat_map timing_bytes ts ++ take 18 rest) ++ drop 18 rest ≡ flat_map timing_bytes ts ++ rest =
    append_assoc (flat_map timing_bytes ts) (take 18 rest) (drop 18 rest) ∙ ap (λ x. flat_map timing_bytes ts ++ x) cut in
    cc

pub room_more : (ts : List Timing) (t : Timing) (new : List Timing) (rest : List ℕ) → new ≡ ts ++ t ∷ [] → 18 ≤ length rest
    → (total : ℕ) → 18 * length ts + length rest ≡ total → 18 * length new + length (take (length rest - 18) (drop 18 rest)) ≡ total
room_more ts t new rest e some total h =
    let fits : length (drop 18 rest) ≤ length rest - 18 = simp length-drop (omega arith) in
    let all = ap length (take_all (length rest - 18) (drop 18 rest) fits) in
    omega (arith, all, length-drop 18 rest, ap length e, length-append ts (t ∷ []))

not_tail : (t : Timing) (rest : List ℕ) → is_tail (timing_bytes t ++ rest) ≡ false
not_tail t rest =
    let runs = t.runs in
    let some : 0 < low t.clock + high t.clock = omega arith in
    let clock : nat_lt 0 (low t.clock + high t.clock) ≡ true = grind (arith, tests) in
    let long : 18 ≤ length (timing_bytes t ++ rest) = omega (arith, length-append (timing_bytes t) rest) in
    let short : nat_lt (length (timing_bytes t ++ rest)) 18 ≡ false = grind (arith, tests) in
    rw (clock, short) refl

clash : (t : Timing) (rest tail : List ℕ) → IsTrue (is_tail tail) → tail ≡ timing_bytes t ++ rest → ⊥
clash t rest tail ended e = let no = not_tail t rest in let same = ap is_tail e in cc

pub one_timings : (xs ys : List Timing) (t u : List ℕ) → IsTrue (is_tail t) → IsTrue (is_tail u)
    → flat_map timing_bytes xs ++ t ≡ flat_map timing_bytes ys ++ u → (xs ≡ ys) × (t ≡ u)
one_timings [] [] t u a b e = (refl, e)
one_timings [] (y ∷ ys) t u a b e = absurd (clash y (flat_map timing_bytes ys ++ u) t a (e ∙ append_assoc (timing_bytes y) (flat_map timing_bytes ys) u))
one_timings (x ∷ xs) [] t u a b e = absurd (clash x (flat_map timing_bytes xs ++ t) u b (sym e ∙ append_assoc (timing_bytes x) (flat_map timing_bytes xs) t))
one_timings (x ∷ xs) (y ∷ ys) t u a b e =
    let regrouped = sym (append_assoc (timing_bytes x) (flat_map timing_bytes xs) t) ∙ e ∙ append_assoc (timing_bytes y) (flat_map timing_bytes ys) u in
    let parts = append_same (timing_bytes x) (timing_bytes y) (flat_map timing_bytes xs ++ t) (flat_map timing_bytes ys ++ u) refl regrouped in
    let first = one_timing x y parts.0 in
    let rest = one_timings xs ys t u a b parts.1 in
    let others = rest.0 in (cc, rest.1)
