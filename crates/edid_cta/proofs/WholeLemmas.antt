-- The parts of a block, one after another.
use Rattle.std.proofs.Common.{◌≡◌, ℕ, ◌<◌, ◌≤◌, ◌+◌, ◌-◌, ◌%◌, List, [], ◌∷◌, ◌++◌, length, get_or, drop, take, sum, arith, sym, ◌∙◌, ap, drop-cons, drop-drop, take-append-drop, length-drop}
use Rattle.std.proofs.Math.Seq.{take-add}
use Rattle.std.proofs.lemmas.List.{take_all, length-take-le}
use Rattle.edid_base.proofs.PartLemmas.{checked}
use Rattle.edid_base.specs.Check.{block_with_checksum}

pub whole_is : (xs : List ℕ) (a b c d : ℕ) (body : List ℕ) → length xs ≡ 128 → a ≡ get_or xs 0 0 → b ≡ get_or xs 1 0 → c ≡ get_or xs 2 0 → d ≡ get_or xs 3 0
    → body ≡ take 123 (drop 4 xs) → get_or xs 127 0 < 256 → sum xs % 256 ≡ 0 → block_with_checksum (a ∷ b ∷ c ∷ d ∷ body) ≡ xs
whole_is xs a b c d body len ha hb hc hd hbody fits total =
    let none : length (drop 128 xs) ≤ 0 = simp length-drop (omega arith) in
    let end : drop 128 xs ≡ [] = sym (take_all 0 (drop 128 xs) none) in
    let d127 = drop-cons xs 127 0 (omega arith) in
    let d4 = sym (take-append-drop 123 (drop 4 xs)) ∙ ap (λ t. take 123 (drop 4 xs) ++ t) (drop-drop 123 4 xs) in
    let d3 = drop-cons xs 3 0 (omega arith) in
    let d2 = drop-cons xs 2 0 (omega arith) in
    let d1 = drop-cons xs 1 0 (omega arith) in
    let d0 = drop-cons xs 0 0 (omega arith) in
    let parts : (a ∷ b ∷ c ∷ d ∷ body) ++ (get_or xs 127 0 ∷ []) ≡ xs = cc in
    checked (a ∷ b ∷ c ∷ d ∷ body) (get_or xs 127 0) xs fits total parts

pub body_is : (xs : List ℕ) (e : ℕ) (front rest : List ℕ) → 4 ≤ e → e ≤ 127
    → front ≡ take (e - 4) (drop 4 xs) → rest ≡ take (127 - e) (drop e xs) → front ++ rest ≡ take 123 (drop 4 xs)
body_is xs e front rest least most h k =
    let total : (e - 4) + (127 - e) ≡ 123 = omega arith in
    let place : 4 + (e - 4) ≡ e = omega arith in
    let cut = take-add (e - 4) (127 - e) (drop 4 xs) in
    let from : drop (e - 4) (drop 4 xs) ≡ drop e xs = drop-drop (e - 4) 4 xs ∙ ap (λ n. drop n xs) place in
    let one = ap (λ n. take n (drop 4 xs)) total in
    cc

pub length_between : (xs : List ℕ) (e : ℕ) (front : List ℕ) → length xs ≡ 128 → 4 ≤ e → e ≤ 127
    → front ≡ take (e - 4) (drop 4 xs) → length front + 4 ≡ e
length_between xs e front len least most h =
    let there : e - 4 ≤ length (drop 4 xs) = simp length-drop (omega arith) in
    let same = ap length h ∙ length-take-le (e - 4) (drop 4 xs) there in
    omega (arith, same)
