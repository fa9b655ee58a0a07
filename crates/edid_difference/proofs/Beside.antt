-- The parts of both EDIDs in the alignment.
use Rattle.std.proofs.Common.{◌≡◌, refl, ◌∙◌, ap, ℕ, ◌==◌, Bool, true, false, cond, not, nat_lt, List, [], ◌∷◌, map, filter_map, arith, Option}
use borrow.Author.Tests.{tests}
use Rattle.edid_difference.specs.Alignment.{Entry, aligned, aligned_from, both_of, has_kind, is_first_lone, is_lone, lone_first, lone_second}
use Rattle.edid_difference.specs.Laws.{exchanged, Exchanges, FirstsStand, SecondsStand}
use Rattle.edid_difference.specs.declared.part.Part.{Part}

abbrev first_of : Entry → Option Part
first_of e = e.0

abbrev second_of : Entry → Option Part
second_of e = e.1

-- ---- each part stands once

no_firsts : (ys : List Part) → filter_map first_of (map lone_second ys) ≡ []
no_firsts [] = refl
no_firsts (y ∷ ys) = no_firsts ys

all_firsts : (xs : List Part) → filter_map first_of (map lone_first xs) ≡ xs
all_firsts [] = refl
all_firsts (x ∷ xs) = ap (λ zs. x ∷ zs) (all_firsts xs)

no_seconds : (xs : List Part) → filter_map second_of (map lone_first xs) ≡ []
no_seconds [] = refl
no_seconds (x ∷ xs) = no_seconds xs

all_seconds : (ys : List Part) → filter_map second_of (map lone_second ys) ≡ ys
all_seconds [] = refl
all_seconds (y ∷ ys) = ap (λ zs. y ∷ zs) (all_seconds ys)

firsts_from : (x : Part) (xs ys : List Part) → ((zs : List Part) → filter_map first_of (aligned xs zs) ≡ xs)
    → filter_map first_of (aligned_from x xs (aligned xs) ys) ≡ x ∷ xs
firsts_from x xs [] later = all_firsts (x ∷ xs)
firsts_from x xs (y ∷ ys) later = by (x.kind == y.kind) (is_first_lone x xs y ys) (firsts_from x xs ys later)
  where
    by : (v w : Bool) → filter_map first_of (aligned_from x xs (aligned xs) ys) ≡ x ∷ xs
        → filter_map first_of (cond v (both_of x y ∷ aligned xs ys) (cond w (lone_first x ∷ aligned xs (y ∷ ys)) (lone_second y ∷ aligned_from x xs (aligned xs) ys))) ≡ x ∷ xs
    by true w more = ap (λ zs. x ∷ zs) (later ys)
    by false true more = ap (λ zs. x ∷ zs) (later (y ∷ ys))
    by false false more = more

pub firsts_stand : FirstsStand
firsts_stand [] ys = no_firsts ys
firsts_stand (x ∷ xs) ys = firsts_from x xs ys (firsts_stand xs)

seconds_from : (x : Part) (xs ys : List Part) → ((zs : List Part) → filter_map second_of (aligned xs zs) ≡ zs)
    → filter_map second_of (aligned_from x xs (aligned xs) ys) ≡ ys
seconds_from x xs [] later = no_seconds (x ∷ xs)
seconds_from x xs (y ∷ ys) later = by (x.kind == y.kind) (is_first_lone x xs y ys) (seconds_from x xs ys later)
  where
    by : (v w : Bool) → filter_map second_of (aligned_from x xs (aligned xs) ys) ≡ ys
        → filter_map second_of (cond v (both_of x y ∷ aligned xs ys) (cond w (lone_first x ∷ aligned xs (y ∷ ys)) (lone_second y ∷ aligned_from x xs (aligned xs) ys))) ≡ y ∷ ys
    by true w more = ap (λ zs. y ∷ zs) (later ys)
    by false true more = later (y ∷ ys)
    by false false more = ap (λ zs. y ∷ zs) more

pub seconds_stand : SecondsStand
seconds_stand [] ys = all_seconds ys
seconds_stand (x ∷ xs) ys = seconds_from x xs ys (seconds_stand xs)

-- ---- both sides exchanged

seconds_exchanged : (ys : List Part) → map lone_first ys ≡ map exchanged (map lone_second ys)
seconds_exchanged [] = refl
seconds_exchanged (y ∷ ys) = ap (λ zs. lone_first y ∷ zs) (seconds_exchanged ys)

firsts_exchanged : (xs : List Part) → map lone_second xs ≡ map exchanged (map lone_first xs)
firsts_exchanged [] = refl
firsts_exchanged (x ∷ xs) = ap (λ zs. lone_second x ∷ zs) (firsts_exchanged xs)

other_lone : (a b less : Bool) → is_lone b a (not less) ≡ not (is_lone a b less)
other_lone true true true = refl
other_lone true true false = refl
other_lone true false true = refl
other_lone true false false = refl
other_lone false true true = refl
other_lone false true false = refl
other_lone false false true = refl
other_lone false false false = refl

other_kind : (m n : ℕ) → (n == m) ≡ (m == n)
other_kind m n = grind (arith, tests)

other_less : (m n : ℕ) → (m == n) ≡ false → nat_lt n m ≡ not (nat_lt m n)
other_less m n h = grind (arith, tests, h)

other_first : (x y : Part) (xs ys : List Part) → (x.kind == y.kind) ≡ false → is_first_lone y ys x xs ≡ not (is_first_lone x xs y ys)
other_first x y xs ys h =
    ap (λ l. is_lone (has_kind y.kind xs) (has_kind x.kind ys) l) (other_less x.kind y.kind h) ∙ other_lone (has_kind x.kind ys) (has_kind y.kind xs) (nat_lt x.kind y.kind)

exchanged_from : (x : Part) (xs ys : List Part) → ((zs : List Part) → aligned zs xs ≡ map exchanged (aligned xs zs))
    → aligned ys (x ∷ xs) ≡ map exchanged (aligned_from x xs (aligned xs) ys)
exchanged_from x xs [] later = firsts_exchanged (x ∷ xs)
exchanged_from x xs (y ∷ ys) later =
    ap (λ v. cond v (both_of y x ∷ aligned ys xs) (cond (is_first_lone y ys x xs) (lone_first y ∷ aligned ys (x ∷ xs)) (lone_second x ∷ aligned (y ∷ ys) xs)))
    (other_kind x.kind y.kind)
    ∙ by (x.kind == y.kind) refl (exchanged_from x xs ys later)
  where
    by_lone : (u w : Bool) → u ≡ not w → aligned ys (x ∷ xs) ≡ map exchanged (aligned_from x xs (aligned xs) ys)
        → cond u (lone_first y ∷ aligned ys (x ∷ xs)) (lone_second x ∷ aligned (y ∷ ys) xs)
        ≡ map exchanged (cond w (lone_first x ∷ aligned xs (y ∷ ys)) (lone_second y ∷ aligned_from x xs (aligned xs) ys))
    by_lone true false e more = ap (λ zs. lone_first y ∷ zs) more
    by_lone false true e more = ap (λ zs. lone_second x ∷ zs) (later (y ∷ ys))
    by_lone true true e more = cc
    by_lone false false e more = cc

    by : (v : Bool) → (x.kind == y.kind) ≡ v → aligned ys (x ∷ xs) ≡ map exchanged (aligned_from x xs (aligned xs) ys)
        → cond v (both_of y x ∷ aligned ys xs) (cond (is_first_lone y ys x xs) (lone_first y ∷ aligned ys (x ∷ xs)) (lone_second x ∷ aligned (y ∷ ys) xs))
        ≡ map exchanged (cond v (both_of x y ∷ aligned xs ys) (cond (is_first_lone x xs y ys) (lone_first x ∷ aligned xs (y ∷ ys)) (lone_second y ∷ aligned_from x xs (aligned xs) ys)))
    by true e more = ap (λ zs. both_of y x ∷ zs) (later ys)
    by false e more = by_lone (is_first_lone y ys x xs) (is_first_lone x xs y ys) (other_first x y xs ys e) more

pub exchanges : Exchanges
exchanges [] [] = refl
exchanges [] (y ∷ ys) = seconds_exchanged (y ∷ ys)
exchanges (x ∷ xs) ys = exchanged_from x xs ys (exchanges xs)
