-- One row, and those after it.
use Rattle.std.proofs.Common.{◌≡◌, refl, ℕ, zero, suc, ◌+◌, ◌-◌, ◌<◌, arith, List, ◌++◌, take, drop, sym, subst}
use Rattle.text_core.proofs.Adding.{then}
use Rattle.text_core.specs.Adds.{Adds, Tally}
use Rattle.edid_ddc.specs.Readout.{row_text, rows_text}

rows_of : (count row : ℕ) (bytes : List ℕ) → 0 < count → rows_text count row bytes ≡ row_text row (take 16 bytes) ++ rows_text (count - 1) (row + 1) (drop 16 bytes)
rows_of zero row bytes h = absurd (omega (arith, h))
rows_of (suc count) row bytes h = let less : suc count - 1 ≡ count = omega arith in rw less refl

pub one_more : (a b c : Tally) (count row : ℕ) (bytes : List ℕ) → 0 < count → Adds a b (row_text row (take 16 bytes)) → Adds b c (rows_text (count - 1) (row + 1) (drop 16 bytes))
    → Adds a c (rows_text count row bytes)
one_more a b c count row bytes h first later =
    subst (λ t. Adds a c t) (sym (rows_of count row bytes h)) (then a b c (row_text row (take 16 bytes)) (rows_text (count - 1) (row + 1) (drop 16 bytes)) first later)
