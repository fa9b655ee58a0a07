-- Fields of what is left of a line.
use Rattle.std.proofs.Common.{◌≡◌, ℕ, suc, zero, ◌+◌, ◌-◌, true, false, List, ◌∷◌, length, Option, Some, None, refl, ap, ◌∙◌, arith}
use Rattle.capture_csv.specs.Csv.{column_from, field_at, is_named}

abbrev pub left_length : Option (List ℕ) → ℕ
left_length None = 0
left_length (Some rest) = suc (length rest)

-- a later column
pub field_more : (column : ℕ) (all fields : List (List ℕ)) (field : List ℕ) → (column ≡ 0 → ⊥) → all ≡ field ∷ fields → field_at column all ≡ field_at (column - 1) fields
field_more zero all fields field some is = absurd (some refl)
field_more (suc k) all fields field some is = ap (field_at (suc k)) is ∙ ap (λ n. field_at n fields) (let x : k ≡ suc k - 1 = omega arith in x)

-- this column
pub field_here : (column : ℕ) (all fields : List (List ℕ)) (field : List ℕ) → column ≡ 0 → all ≡ field ∷ fields → field_at column all ≡ Some field
field_here column all fields field none is = ap (λ n. field_at n all) none ∙ ap (field_at 0) is

-- columns of another name
pub column_more : (column : ℕ) (signal field : List ℕ) (all fields : List (List ℕ)) → is_named field signal ≡ false → all ≡ field ∷ fields → column_from column signal all ≡ column_from (column + 1) signal fields
column_more column signal field all fields other is = ap (column_from column signal) is ∙ rw other refl

pub column_here : (column : ℕ) (signal field : List ℕ) (all fields : List (List ℕ)) → is_named field signal ≡ true → all ≡ field ∷ fields → column_from column signal all ≡ Some column
column_here column signal field all fields named is = ap (column_from column signal) is ∙ rw named refl
