-- What is read as a text is written again.
use Rattle.std.proofs.Common.{◌≡◌, ◌==◌, ℕ, ◌+◌, ◌-◌, ◌≤◌, Bool, true, false, ◌&&◌, List, [], ◌∷◌, length, take, drop, replicate, refl, arith, cond, one-add, take-append-drop, length-drop, length-take}
use Rattle.std.proofs.lemmas.Bool.{eqb-true}
use Rattle.std.specs.List.{prefix_len, list_all}
use borrow.Author.Tests.{tests}
use Rattle.edid_base.specs.Chars.{is_padding, padding, text_bytes}

both_true : (a b : Bool) → (a && b) ≡ true → (a ≡ true) × (b ≡ true)
both_true true b h = (refl, h)
both_true false b h = cc

front_cons : (p : ℕ → Bool) (x : ℕ) (xs : List ℕ) (b : Bool) → p x ≡ b → list_all p (take (prefix_len p xs) xs) ≡ true
    → list_all p (take (cond b (1 + prefix_len p xs) 0) (x ∷ xs)) ≡ true
front_cons p x xs true e h = rw one-add (rw e h)
front_cons p x xs false e h = refl

pub list_all-front : (p : ℕ → Bool) (xs : List ℕ) → list_all p (take (prefix_len p xs) xs) ≡ true
list_all-front p [] = refl
list_all-front p (x ∷ xs) = front_cons p x xs (p x) refl (list_all-front p xs)

pub are_spaces : (xs : List ℕ) → list_all (λ b. b == 0x20) xs ≡ true → xs ≡ replicate (length xs) 0x20
are_spaces [] h = refl
are_spaces (x ∷ xs) h =
    let parts = both_true (x == 0x20) (list_all (λ b. b == 0x20) xs) h in
    let first = eqb-true x 0x20 parts.0 in let others = are_spaces xs parts.1 in cc

pub is_padding-is : (xs : List ℕ) → is_padding xs ≡ true → xs ≡ padding (length xs)
is_padding-is [] h = refl
is_padding-is (x ∷ xs) h =
    let some : (length (x ∷ xs) == 0) ≡ false = grind (arith, tests) in
    let parts = both_true (x == 0x0a) (list_all (λ b. b == 0x20) xs) (rw some at h) in
    let first = eqb-true x 0x0a parts.0 in let others = are_spaces xs parts.1 in cc

-- the front of a text, and padding after it
pub text_again : (xs : List ℕ) (n : ℕ) → length xs ≡ 13 → n ≤ length xs → is_padding (drop n xs) ≡ true → text_bytes (take n xs) ≡ xs
text_again xs n len le h =
    let rest : drop n xs ≡ padding (length (drop n xs)) = is_padding-is (drop n xs) h in
    let count : 13 - length (take n xs) ≡ length (drop n xs) = simp (length-drop, length-take) (omega arith) in
    rw count (rw (← rest) (take-append-drop n xs))
