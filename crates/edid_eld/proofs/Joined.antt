-- What is said of a list is that of its first element, and then that of the others.
use Rattle.std.proofs.Common.{◌≡◌, refl, ◌∙◌, sym, ap, ℕ, zero, suc, ◌+◌, ◌-◌, ◌<◌, ◌≤◌, ◌%◌, Bool, true, false, ◌||◌, min, arith, List, [], ◌∷◌, ◌++◌, length, get_or, take, drop, append-nil, append_assoc, length-append}
use Rattle.std.proofs.lemmas.List.{length-take, take_all, take_min}
use Rattle.std.proofs.Math.Seq.{take-append-add}
use Rattle.std.proofs.lemmas.List.Sums.{prefix_len-le-length}
use Rattle.std.specs.List.{prefix_len}
use Rattle.edid_eld.specs.Display.{last_of}

pub prefix_short : (p : ℕ → Bool) (xs : List ℕ) → prefix_len p xs ≤ length xs
prefix_short p xs = prefix_len-le-length p xs

-- ---- the last

last_after : {A : Type 0} (a : A) (xs ys : List A) → last_of a (xs ++ ys) ≡ last_of (last_of a xs) ys
last_after a [] ys = refl
last_after a (x ∷ xs) ys = last_after x xs ys

pub last_joined : {A X : Type 0} (first : X → List A) (whole : List X → List A) → ((y : X) (ys : List X) → whole (y ∷ ys) ≡ first y ++ whole ys)
    → (xs : List X) (x d : X) (a b c : A) → 1 ≤ length xs → x ≡ get_or xs 0 d → b ≡ last_of a (first x) → c ≡ last_of b (whole (drop 1 xs)) → c ≡ last_of a (whole xs)
last_joined first whole step [] x d a b c h e one more = absurd (omega (arith, h))
last_joined first whole step (y ∷ ys) x d a b c h e one more =
    more ∙ ap (λ z. last_of z (whole ys)) (one ∙ ap (λ z. last_of a (first z)) e) ∙ sym (last_after a (first y) (whole ys)) ∙ ap (last_of a) (sym (step y ys))

-- ---- any

or_after : (a b c : Bool) → ((a || b) || c) ≡ (a || (b || c))
or_after true b c = refl
or_after false b c = refl

pub any_joined : {X : Type 0} (first : X → Bool) (whole : List X → Bool) → ((y : X) (ys : List X) → whole (y ∷ ys) ≡ (first y || whole ys))
    → (xs : List X) (x d : X) (a b c : Bool) → 1 ≤ length xs → x ≡ get_or xs 0 d → b ≡ (a || first x) → c ≡ (b || whole (drop 1 xs)) → c ≡ (a || whole xs)
any_joined first whole step [] x d a b c h e one more = absurd (omega (arith, h))
any_joined first whole step (y ∷ ys) x d a b c h e one more =
    more ∙ ap (λ z. z || whole ys) (one ∙ ap (λ z. a || first z) e) ∙ or_after a (first y) (whole ys) ∙ ap (λ z. a || z) (sym (step y ys))

-- ---- descriptors, as far as there is room

take_twice : (n : ℕ) (u v : List ℕ) → take n (take n u ++ v) ≡ take n (u ++ v)
take_twice zero u v = refl
take_twice (suc n) [] v = refl
take_twice (suc n) (x ∷ u) v = ap (λ l. x ∷ l) (take_twice n u v)

pub audio_joined : {X : Type 0} (first : X → List ℕ) (whole : List X → List ℕ) → ((y : X) (ys : List X) → whole (y ∷ ys) ≡ first y ++ whole ys)
    → (xs : List X) (x d : X) (a b c : List ℕ) → 1 ≤ length xs → x ≡ get_or xs 0 d → b ≡ take 45 (a ++ first x) → c ≡ take 45 (b ++ whole (drop 1 xs)) → c ≡ take 45 (a ++ whole xs)
audio_joined first whole step [] x d a b c h e one more = absurd (omega (arith, h))
audio_joined first whole step (y ∷ ys) x d a b c h e one more =
    more ∙ ap (λ l. take 45 (l ++ whole ys)) (one ∙ ap (λ z. take 45 (a ++ first z)) e) ∙ take_twice 45 (a ++ first y) (whole ys)
    ∙ ap (take 45) (append_assoc a (first y) (whole ys)) ∙ ap (λ l. take 45 (a ++ l)) (sym (step y ys))

pub audio_stays : {X : Type 0} (whole : List X → List ℕ) → whole [] ≡ [] → (xs : List X) (a : List ℕ) → length xs < 1 → length a ≤ 45 → a ≡ take 45 (a ++ whole xs)
audio_stays whole none [] a h k = sym (ap (λ l. take 45 (a ++ l)) none ∙ ap (take 45) (append-nil a) ∙ take_all 45 a k)
audio_stays whole none (x ∷ xs) a h k = absurd (omega (arith, h))

-- as many as there is room for
pub audio_fits : (a b : List ℕ) (n : ℕ) → length a ≤ 45 → n ≡ 45 - length a → a ++ take (min n (length b)) b ≡ take 45 (a ++ b)
audio_fits a b n h e =
    let whole : length a + n ≡ 45 = omega (arith, h, e) in
    ap (λ l. a ++ l) (take_min n b) ∙ sym (take-append-add a b n) ∙ ap (λ k. take k (a ++ b)) whole

pub audio_whole : (a b : List ℕ) → length a % 3 ≡ 0 → length b % 3 ≡ 0 → length (take 45 (a ++ b)) % 3 ≡ 0
audio_whole a b h k = ap (λ n. n % 3) (length-take 45 (a ++ b) ∙ ap (min 45) (length-append a b)) ∙ least (length a) (length b) h k
  where
    least : (m n : ℕ) → m % 3 ≡ 0 → n % 3 ≡ 0 → min 45 (m + n) % 3 ≡ 0
    least m n h k = omega (arith, h, k)
