-- Bytes of a list, one after another, and words.
use Rattle.std.proofs.Common.{◌≡◌, ℕ, ◌+◌, ◌*◌, Bool, true, false, List, [], ◌∷◌, ◌++◌, Option, Some, None, IsSome, refl, sym, ◌∙◌, append_assoc}
use Rattle.std.proofs.lemmas.Bool.{false≢true}
use Rattle.std.specs.Char.{is_ascii_hexdigit}
use Rattle.edid_dump.specs.Digits.{digit, is_between, is_prefix, listed, onto, swapped}

pub listed_between : (x : ℕ) (xs : List ℕ) → is_between x ≡ true → listed (x ∷ xs) ≡ listed xs
listed_between x [] b = rw b refl
listed_between x (y ∷ ys) b = rw b refl

pub listed_lone : (x : ℕ) → is_between x ≡ false → listed (x ∷ []) ≡ None
listed_lone x b = rw b refl

pub listed_prefix : (x y : ℕ) (xs : List ℕ) → is_between x ≡ false → is_prefix x y ≡ true → listed (x ∷ y ∷ xs) ≡ listed xs
listed_prefix x y xs b p = rw (b, p) refl

pub listed_pair : (x y : ℕ) (xs : List ℕ) → is_between x ≡ false → is_prefix x y ≡ false → is_ascii_hexdigit x ≡ true → is_ascii_hexdigit y ≡ true
    → listed (x ∷ y ∷ xs) ≡ onto (digit x * 16 + digit y) (listed xs)
listed_pair x y xs b p d e = rw (b, p, d, e) refl

pub listed_first : (x y : ℕ) (xs : List ℕ) → is_between x ≡ false → is_prefix x y ≡ false → is_ascii_hexdigit x ≡ false → listed (x ∷ y ∷ xs) ≡ None
listed_first x y xs b p d = rw (b, p, d) refl

pub listed_second : (x y : ℕ) (xs : List ℕ) → is_between x ≡ false → is_prefix x y ≡ false → is_ascii_hexdigit x ≡ true → is_ascii_hexdigit y ≡ false
    → listed (x ∷ y ∷ xs) ≡ None
listed_second x y xs b p d e = rw (b, p, d, e) refl

-- ---- pushed

none_some : (o : Option (List ℕ)) → o ≡ None → IsSome o → ⊥
none_some None h some = false≢true some
none_some (Some bytes) h some = cc

-- a pair, where the list can be read
pub listed_some : (x y : ℕ) (xs : List ℕ) → is_between x ≡ false → is_prefix x y ≡ false → IsSome (listed (x ∷ y ∷ xs))
    → listed (x ∷ y ∷ xs) ≡ onto (digit x * 16 + digit y) (listed xs)
listed_some x y xs b p some = by (is_ascii_hexdigit x) (is_ascii_hexdigit y) refl refl
  where
    by : (d e : Bool) → is_ascii_hexdigit x ≡ d → is_ascii_hexdigit y ≡ e → listed (x ∷ y ∷ xs) ≡ onto (digit x * 16 + digit y) (listed xs)
    by true true f g = listed_pair x y xs b p f g
    by true false f g = absurd (none_some (listed (x ∷ y ∷ xs)) (listed_second x y xs b p f g) some)
    by false e f g = absurd (none_some (listed (x ∷ y ∷ xs)) (listed_first x y xs b p f) some)

-- ---- words

pub swapped_more : (done : List ℕ) (b c : ℕ) (more : List ℕ) → done ++ swapped (b ∷ c ∷ more) ≡ ((done ++ c ∷ []) ++ b ∷ []) ++ swapped more
swapped_more done b c more =
    sym (append_assoc (done ++ c ∷ []) (b ∷ []) (swapped more) ∙ append_assoc done (c ∷ []) (b ∷ swapped more))

pub swapped_last : (done : List ℕ) (b : ℕ) → done ++ swapped (b ∷ []) ≡ done ++ b ∷ []
swapped_last done b = refl
