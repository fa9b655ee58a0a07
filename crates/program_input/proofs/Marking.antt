-- A mark at the front of a text.
use Rattle.std.proofs.Common.{◌≡◌, ℕ, ◌+◌, ◌<◌, ◌≤◌, ◌==◌, Bool, true, false, if◌then◌else◌, List, [], ◌∷◌, ◌++◌, length, length-append, drop, take, remove, slice_set, slice_index_or, Option, Some, None, refl, sym, ap, ◌∙◌, append-nil, arith}
use Rattle.std.specs.Io.KnownBytes.{Consumes, IsAtEnd, Keeps}
use Rattle.std.specs.Str.{bytes_eq}
use Rattle.std.proofs.lemmas.Slice.Eq.{bytes_eq-Decides}
use Rattle.std.proofs.lemmas.Bool.Decides.{nat_tests}
use Rattle.program_input.specs.Plain.{mark, without_mark}
use Rattle.program_input.specs.PlainReading.{IsGrown, unmarked_left}

-- the mark goes
pub is_mark : (front : List ℕ) (rest : Option (List ℕ)) → bytes_eq front mark ≡ true → Keeps (unmarked_left true front rest) (unmarked_left false [] rest)
is_mark front None e = tt
is_mark front (Some xs) e = sym (ap (λ f. without_mark (f ++ xs)) ((bytes_eq-Decides front mark).0 e))

-- what may be a mark stands at the front
front_of : (front xs : List ℕ) → length front ≤ 3 → (length front < 3 → xs ≡ []) → take 3 (front ++ xs) ≡ front
front_of [] xs fits end = ap (take 3) (end (omega arith))
front_of (a ∷ []) xs fits end = ap (λ l. a ∷ take 2 l) (end (omega arith))
front_of (a ∷ b ∷ []) xs fits end = ap (λ l. a ∷ b ∷ take 1 l) (end (omega arith))
front_of (a ∷ b ∷ c ∷ []) xs fits end = refl
front_of (a ∷ b ∷ c ∷ d ∷ front) xs fits end = absurd (omega arith)

-- another text stays
pub is_none : (front : List ℕ) (rest : Option (List ℕ)) → bytes_eq front mark ≡ false → length front ≤ 3 → (length front < 3 → IsAtEnd rest) → Keeps (unmarked_left true front rest) (unmarked_left false front rest)
is_none front None e fits end = tt
is_none front (Some xs) e fits end =
    sym (ap (λ f. if bytes_eq f mark then drop 3 (front ++ xs) else front ++ xs) (front_of front xs fits end) ∙ ap (λ v. if v then drop 3 (front ++ xs) else front ++ xs) e)

-- nothing is left, so nothing was read
nothing_left : (y : List ℕ) → length y ≡ 0 → y ≡ []
nothing_left [] e = refl
nothing_left (b ∷ y) e = absurd (omega (arith, e))

ends_stay : (a b x y : List ℕ) → a ++ x ≡ b ++ y → x ≡ [] → length a ≤ length b → y ≡ []
ends_stay a b x y same none grows = nothing_left y (omega (arith, lengths))
  where
    lengths : length a ≡ length b + length y
    lengths = sym (ap length (append-nil a)) ∙ ap (λ l. length (a ++ l)) (sym none) ∙ ap length same ∙ length-append b y

-- after three reads of a byte there are three bytes, or there is none left
at_end : (f₀ f₁ f₂ f₃ x₀ x₁ x₂ x₃ : List ℕ) → IsGrown (Some x₀) (Some x₁) f₀ f₁ → IsGrown (Some x₁) (Some x₂) f₁ f₂ → IsGrown (Some x₂) (Some x₃) f₂ f₃ → length f₃ < 3 → x₃ ≡ []
at_end f₀ f₁ f₂ f₃ x₀ x₁ x₂ x₃ one two three few = third (length f₃ == length f₂) refl
  where
    first : (v : Bool) → (length f₁ == length f₀) ≡ v → (length f₂ == length f₁) ≡ false → (length f₃ == length f₂) ≡ false → x₃ ≡ []
    first true e d c =
        let le = three.2 in let le2 = two.2 in
        ends_stay f₂ f₃ x₂ x₃ three.0 (ends_stay f₁ f₂ x₁ x₂ two.0 (one.1 (grind (arith, nat_tests)) (omega (arith, le, le2, one.2))) two.2) three.2
    first false e d c = absurd (grind (arith, nat_tests, few, one.2, two.2, three.2))

    second : (v : Bool) → (length f₂ == length f₁) ≡ v → (length f₃ == length f₂) ≡ false → x₃ ≡ []
    second true e c = ends_stay f₂ f₃ x₂ x₃ three.0 (two.1 (grind (arith, nat_tests)) (omega (arith, two.2, three.2))) three.2
    second false e c = first (length f₁ == length f₀) refl e c

    third : (v : Bool) → (length f₃ == length f₂) ≡ v → x₃ ≡ []
    third true e = three.1 (grind (arith, nat_tests)) (omega (arith, three.2))
    third false e = second (length f₂ == length f₁) refl e

-- what was read up to three times is what may be a mark
pub begun_is : (f₀ f₁ f₂ f₃ f₄ : List ℕ) (r₀ r₁ r₂ r₃ r₄ : Option (List ℕ)) → IsGrown r₀ r₁ f₀ f₁ → IsGrown r₁ r₂ f₁ f₂ → IsGrown r₂ r₃ f₂ f₃
    → ((length f₃ < 3 → IsAtEnd r₃) → Keeps (unmarked_left true f₃ r₃) (unmarked_left false f₄ r₄)) → Keeps (unmarked_left true f₀ r₀) (unmarked_left false f₄ r₄)
begun_is f₀ f₁ f₂ f₃ f₄ None r₁ r₂ r₃ r₄ one two three done = tt
begun_is f₀ f₁ f₂ f₃ f₄ (Some x₀) None r₂ r₃ r₄ one two three done = absurd one.0
begun_is f₀ f₁ f₂ f₃ f₄ (Some x₀) (Some x₁) None r₃ r₄ one two three done = absurd two.0
begun_is f₀ f₁ f₂ f₃ f₄ (Some x₀) (Some x₁) (Some x₂) None r₄ one two three done = absurd three.0
begun_is f₀ f₁ f₂ f₃ f₄ (Some x₀) (Some x₁) (Some x₂) (Some x₃) None one two three done = absurd (done (at_end f₀ f₁ f₂ f₃ x₀ x₁ x₂ x₃ one two three))
begun_is f₀ f₁ f₂ f₃ f₄ (Some x₀) (Some x₁) (Some x₂) (Some x₃) (Some x₄) one two three done =
    done (at_end f₀ f₁ f₂ f₃ x₀ x₁ x₂ x₃ one two three) ∙ ap without_mark (sym (one.0 ∙ two.0 ∙ three.0))

-- the first byte of what was read
pub first_is : (front bytes : List ℕ) (first : ℕ) (rest : Option (List ℕ)) → first ≡ slice_index_or front 0 first → 0 < length front → 0 < length bytes
    → Consumes (unmarked_left false front rest) (unmarked_left false (remove front 0) rest) (take 1 (slice_set bytes 0 first))
first_is front bytes first None is some room = tt
first_is [] bytes first (Some xs) is some room = absurd (omega arith)
first_is (b ∷ front) [] first (Some xs) is some room = absurd (omega arith)
first_is (b ∷ front) (y ∷ bytes) first (Some xs) is some room = ap (λ n. n ∷ front ++ xs) (sym is)
