-- Between two ends of stretches no wire changes.
use Rattle.std.proofs.Common.{◌≡◌, ℕ, zero, suc, ◌+◌, ◌-◌, ◌==◌, ◌<◌, ◌≤◌, Bool, true, false, not, ◌&&◌, ◌||◌, nat_lt, nat_le, List, [], ◌∷◌, ◌++◌, refl, arith, ap, ap₂, ◌∙◌, sym, append_assoc}
use Rattle.std.specs.List.{flat_map, list_any, range_with_len}
use Rattle.std.proofs.lemmas.Bool.Decides.{nat_tests}
use Rattle.line_wave.specs.declared.Stretch.{Stretch}
use Rattle.line_wave.specs.Line.{covers, line_of}
use Rattle.capture_wires.specs.Wires.{high_at_first, turns}

-- a stretch begins or ends at u
abbrev pub is_end : ℕ → Stretch → Bool
is_end u s = (s.from == u) || (s.to == u)

or_left : (a b : Bool) → (a || b) ≡ false → a ≡ false
or_left true b h = h
or_left false b h = refl

or_right : (a b : Bool) → (a || b) ≡ false → b ≡ false
or_right true b h = cc
or_right false b h = h

-- the first of so many numbers
pub one_high : (number count : ℕ) → 0 < count → flat_map high_at_first (range_with_len number count) ≡ high_at_first number ++ flat_map high_at_first (range_with_len (number + 1) (count - 1))
one_high number zero some = absurd (omega arith)
one_high number (suc count) some = let less : suc count - 1 ≡ count = omega arith in rw less refl

-- ---- no wire changes

same_cover : (s : Stretch) (u : ℕ) → 0 < u → (s.from == u) ≡ false → (s.to == u) ≡ false → covers s u ≡ covers s (u - 1)
same_cover s u some begins ends = ap₂ (λ a b. a && b) begun over
  where
    begun : nat_le s.from u ≡ nat_le s.from (u - 1)
    begun = grind (arith, nat_tests)

    over : nat_lt u s.to ≡ nat_lt (u - 1) s.to
    over = grind (arith, nat_tests)

same_level : (ss : List Stretch) (u : ℕ) → 0 < u → list_any (is_end u) ss ≡ false → line_of ss u ≡ line_of ss (u - 1)
same_level [] u some quiet = refl
same_level (s ∷ ss) u some quiet =
    let here = or_left (is_end u s) (list_any (is_end u) ss) quiet in
    ap₂ (λ a b. a || b) (same_cover s u some (or_left (s.from == u) (s.to == u) here) (or_right (s.from == u) (s.to == u) here))
    (same_level ss u some (or_right (is_end u s) (list_any (is_end u) ss) quiet))

pub no_turn : (ss : List Stretch) (u : ℕ) → 0 < u → list_any (is_end u) ss ≡ false → turns (line_of ss) u ≡ false
no_turn ss u some quiet =
    let past : nat_lt 0 u ≡ true = grind (arith, nat_tests) in
    ap (λ b. (line_of ss u && not (b && line_of ss (u - 1))) || (not (line_of ss u) && (b && line_of ss (u - 1)))) past
    ∙ ap (λ b. (b && not (line_of ss (u - 1))) || (not b && line_of ss (u - 1))) (same_level ss u some quiet)
    ∙ never (line_of ss (u - 1))
  where
    never : (b : Bool) → ((b && not b) || (not b && b)) ≡ false
    never true = refl
    never false = refl

pub no_turns : (wires : List (List Stretch)) (u : ℕ) → 0 < u → list_any (λ wire. list_any (is_end u) wire) wires ≡ false → list_any (λ wire. turns (line_of wire) u) wires ≡ false
no_turns [] u some quiet = refl
no_turns (wire ∷ wires) u some quiet =
    ap₂ (λ a b. a || b) (no_turn wire u some (or_left (list_any (is_end u) wire) (list_any (λ w. list_any (is_end u) w) wires) quiet))
    (no_turns wires u some (or_right (list_any (is_end u) wire) (list_any (λ w. list_any (is_end u) w) wires) quiet))

-- ---- microseconds in two parts

pub parted : (f : ℕ → List ℕ) (a m n total b : ℕ) → total ≡ m + n → b ≡ a + m → flat_map f (range_with_len a total) ≡ flat_map f (range_with_len a m) ++ flat_map f (range_with_len b n)
parted f a zero n total b t e = let here : b ≡ a = omega arith in let all : total ≡ n = omega arith in rw (here, all) refl
parted f a (suc m) n zero b t e = absurd (omega arith)
parted f a (suc m) n (suc total) b t e =
    ap (λ l. f a ++ l) (parted f (a + 1) m n total b (omega arith) (omega arith)) ∙ sym (append_assoc (f a) (flat_map f (range_with_len (a + 1) m)) (flat_map f (range_with_len b n)))
