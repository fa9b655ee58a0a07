-- Pairs of digits, one after another.
use Rattle.std.proofs.Common.{◌≡◌, ℕ, ◌+◌, ◌*◌, Bool, true, false, List, [], ◌∷◌, ◌++◌, ◌≤◌, length, take, Option, Some, None, IsSome, is_some, refl, sym, ap, ◌∙◌, append_assoc, append-nil, arith}
use Rattle.std.proofs.lemmas.Bool.{false≢true}
use Rattle.std.proofs.lemmas.List.{take_all, take-append-le}
use Rattle.std.specs.Option.{option_map}
use Rattle.std.specs.Char.{is_ascii_hexdigit}
use Rattle.edid_dump.specs.declared.digits.Column.{Column}
use Rattle.edid_dump.specs.Digits.{digit, bytes_with_row, is_blank, is_column, onto, pairs}

pub pairs_column : (c : Column) (x : ℕ) (xs : List ℕ) → is_column c (x ∷ xs) ≡ true → pairs c (x ∷ xs) ≡ Some []
pairs_column c x [] h = rw h refl
pairs_column c x (y ∷ ys) h = rw h refl

pub pairs_blank : (c : Column) (x : ℕ) (xs : List ℕ) → is_column c (x ∷ xs) ≡ false → is_blank x ≡ true → pairs c (x ∷ xs) ≡ pairs c xs
pairs_blank c x [] h b = rw (h, b) refl
pairs_blank c x (y ∷ ys) h b = rw (h, b) refl

pub pairs_lone : (c : Column) (x : ℕ) → is_column c (x ∷ []) ≡ false → is_blank x ≡ false → pairs c (x ∷ []) ≡ None
pairs_lone c x h b = rw (h, b) refl

pub pairs_pair : (c : Column) (x y : ℕ) (xs : List ℕ) → is_column c (x ∷ y ∷ xs) ≡ false → is_blank x ≡ false → is_ascii_hexdigit x ≡ true → is_ascii_hexdigit y ≡ true
    → pairs c (x ∷ y ∷ xs) ≡ onto (digit x * 16 + digit y) (pairs c xs)
pairs_pair c x y xs h b d e = rw (h, b, d, e) refl

pub pairs_first : (c : Column) (x y : ℕ) (xs : List ℕ) → is_column c (x ∷ y ∷ xs) ≡ false → is_blank x ≡ false → is_ascii_hexdigit x ≡ false → pairs c (x ∷ y ∷ xs) ≡ None
pairs_first c x y xs h b d = rw (h, b, d) refl

pub pairs_second : (c : Column) (x y : ℕ) (xs : List ℕ) → is_column c (x ∷ y ∷ xs) ≡ false → is_blank x ≡ false → is_ascii_hexdigit x ≡ true → is_ascii_hexdigit y ≡ false
    → pairs c (x ∷ y ∷ xs) ≡ None
pairs_second c x y xs h b d e = rw (h, b, d, e) refl

-- ---- counted

abbrev pub counts : ℕ → Option (List ℕ) → Option ℕ
counts n None = None
counts n (Some bytes) = Some (n + length bytes)

pub counts_onto : (n b : ℕ) (o : Option (List ℕ)) → counts n (onto b o) ≡ counts (n + 1) o
counts_onto n b None = refl
counts_onto n b (Some bytes) = ap Some (omega arith)

pub counts_all : (o : Option (List ℕ)) → counts 0 o ≡ option_map length o
counts_all None = refl
counts_all (Some bytes) = ap Some (omega arith)

-- ---- pushed

none_some : (o : Option (List ℕ)) → o ≡ None → IsSome o → ⊥
none_some None h some = false≢true some
none_some (Some bytes) h some = cc

-- a pair, where the digits can be read
pub pairs_some : (c : Column) (x y : ℕ) (xs : List ℕ) → is_column c (x ∷ y ∷ xs) ≡ false → is_blank x ≡ false → IsSome (pairs c (x ∷ y ∷ xs))
    → pairs c (x ∷ y ∷ xs) ≡ onto (digit x * 16 + digit y) (pairs c xs)
pairs_some c x y xs h b some = by (is_ascii_hexdigit x) (is_ascii_hexdigit y) refl refl
  where
    by : (d e : Bool) → is_ascii_hexdigit x ≡ d → is_ascii_hexdigit y ≡ e → pairs c (x ∷ y ∷ xs) ≡ onto (digit x * 16 + digit y) (pairs c xs)
    by true true f g = pairs_pair c x y xs h b f g
    by true false f g = absurd (none_some (pairs c (x ∷ y ∷ xs)) (pairs_second c x y xs h b f g) some)
    by false e f g = absurd (none_some (pairs c (x ∷ y ∷ xs)) (pairs_first c x y xs h b f) some)

pub some_onto : (b : ℕ) (o : Option (List ℕ)) → is_some (onto b o) ≡ is_some o
some_onto b None = refl
some_onto b (Some bytes) = refl

pub filled_onto : (bytes : List ℕ) (b : ℕ) (o : Option (List ℕ)) → bytes_with_row bytes (onto b o) ≡ bytes_with_row (bytes ++ b ∷ []) o
filled_onto bytes b None = refl
filled_onto bytes b (Some next) = ap (λ l. Some (take 512 l)) (sym (append_assoc bytes (b ∷ []) next))

-- no more
pub filled_none : (bytes : List ℕ) → length bytes ≤ 512 → bytes_with_row bytes (Some []) ≡ Some bytes
filled_none bytes h = ap Some (ap (take 512) (append-nil bytes) ∙ take_all 512 bytes h)

pub filled_column : (c : Column) (x : ℕ) (xs bytes : List ℕ) → is_column c (x ∷ xs) ≡ true → length bytes ≤ 512 → bytes_with_row bytes (pairs c (x ∷ xs)) ≡ Some bytes
filled_column c x xs bytes h fits = ap (bytes_with_row bytes) (pairs_column c x xs h) ∙ filled_none bytes fits

-- no room
pub filled_full : (bytes : List ℕ) (o : Option (List ℕ)) → IsSome o → length bytes ≡ 512 → bytes_with_row bytes o ≡ Some bytes
filled_full bytes None some full = absurd (false≢true some)
filled_full bytes (Some next) some full =
    let low : 512 ≤ length bytes = omega arith in
    ap Some (take-append-le 512 bytes next low ∙ take_all 512 bytes (omega arith))
