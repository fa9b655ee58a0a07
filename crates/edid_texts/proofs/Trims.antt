-- Trailing zeros.
use Rattle.std.proofs.Common.{◌≡◌, ℕ, ◌+◌, ◌<◌, ◌==◌, Bool, true, false, ◌&&◌, cond, List, [], ◌∷◌, ◌++◌, length, get_or, take, ap, arith, refl, sym, ◌∙◌, length-append}
use Rattle.std.proofs.lemmas.List.{take_more}
use borrow.Author.Tests.{tests}
use Rattle.edid_texts.specs.Lines.{bytes_without_zeros}

pub trimmed_zero : (xs : List ℕ) → bytes_without_zeros (xs ++ 0 ∷ []) ≡ bytes_without_zeros xs
trimmed_zero [] = refl
trimmed_zero (x ∷ xs) = rw (trimmed_zero xs) refl

pub trimmed_some : (xs : List ℕ) (b : ℕ) → (b ≡ 0 → ⊥) → bytes_without_zeros (xs ++ b ∷ []) ≡ xs ++ b ∷ []
trimmed_some [] b h = let some : (b == 0) ≡ false = grind (arith, tests) in rw some refl
trimmed_some (x ∷ xs) b h =
    let rest = trimmed_some xs b h in
    let len = length-append xs (b ∷ []) in
    let some : (length (xs ++ b ∷ []) == 0) ≡ false = grind (arith, tests) in
    rw (rest, some) (both (x == 0))
  where
    both : (v : Bool) → cond (v && false) [] (x ∷ (xs ++ b ∷ [])) ≡ x ∷ (xs ++ b ∷ [])
    both true = refl
    both false = refl

-- one byte more
pub more_zero : (xs : List ℕ) (i len : ℕ) (b : ℕ) → i < length xs → b ≡ get_or xs i 0 → b ≡ 0 → take len xs ≡ bytes_without_zeros (take i xs) → take len xs ≡ bytes_without_zeros (take (i + 1) xs)
more_zero xs i len b h e z k =
    let more = take_more xs i 0 h in
    let same : get_or xs i 0 ≡ 0 = sym e ∙ z in
    k ∙ sym (trimmed_zero (take i xs)) ∙ ap (λ c. bytes_without_zeros (take i xs ++ c ∷ [])) (sym same) ∙ ap bytes_without_zeros (sym more)

pub more_some : (xs : List ℕ) (i : ℕ) (b : ℕ) → i < length xs → b ≡ get_or xs i 0 → (b ≡ 0 → ⊥) → take (i + 1) xs ≡ bytes_without_zeros (take (i + 1) xs)
more_some xs i b h e z =
    let more = take_more xs i 0 h in
    more ∙ sym (trimmed_some (take i xs) (get_or xs i 0) (λ k. z (e ∙ k))) ∙ ap bytes_without_zeros (sym more)
