-- Each row counts what is told of its address.
use Rattle.std.proofs.Common.{◌≡◌, ◌≢◌, ℕ, ◌==◌, ◌<◌, Bool, true, false, if◌then◌else◌, List, [], ◌∷◌, length, refl, sym, subst, ap, ◌∙◌, arith}
use Rattle.std.specs.Prelude.{slice_index_or, slice_set}
use Rattle.std.proofs.lemmas.Bool.Decides.{nat_tests}
use Rattle.std.proofs.lemmas.List.{get_or-replicate, get_or-set_same, get_or-set_other, length-set}
use Rattle.audit_report.specs.declared.row.Row.{Row}
use Rattle.audit_report.specs.Charges.{Charge, no_rows, place_of, rows_with, with_charge}
use Rattle.audit_report.specs.Laws.{RowsAreTold, row_with, told_at}
use Rattle.audit_report.specs.Rows.{Told, no_row, with_told}

-- the row there
abbrev at : List Row → ℕ → Row
at rows place = slice_index_or rows place no_row

rows_stay : (c : Charge) (rows : List Row) → length (with_charge c.who c.told rows) ≡ length rows
rows_stay c rows = length-set rows (place_of c.who) (with_told c.told (at rows (place_of c.who)))

same_place : (p place : ℕ) (t : Told) (rows : List Row) (b : Bool) → (p == place) ≡ b → place < length rows
    → at (slice_set rows p (with_told t (at rows p))) place ≡ (if b then with_told t (at rows place) else at rows place)
same_place p place t rows true e l =
    let same : p ≡ place = grind (arith, nat_tests) in
    subst (λ (q : ℕ). at (slice_set rows q (with_told t (at rows q))) place ≡ with_told t (at rows place)) (sym same)
    (get_or-set_same rows place (with_told t (at rows place)) no_row l)
same_place p place t rows false e l =
    get_or-set_other rows p place (with_told t (at rows p)) no_row (let other : place ≢ p = grind (arith, nat_tests) in other)

step : (b : Bool) (t : Told) (ts : List Told) (r : Row) → row_with ts (if b then with_told t r else r) ≡ row_with (if b then t ∷ ts else ts) r
step true t ts r = refl
step false t ts r = refl

rows_from : (cs : List Charge) (place : ℕ) (rows : List Row) → place < length rows → at (rows_with cs rows) place ≡ row_with (told_at place cs) (at rows place)
rows_from [] place rows l = refl
rows_from (c ∷ cs) place rows l =
    rows_from cs place (with_charge c.who c.told rows) (subst (λ (n : ℕ). place < n) (sym (rows_stay c rows)) l)
    ∙ ap (row_with (told_at place cs)) (same_place (place_of c.who) place c.told rows (place_of c.who == place) refl l)
    ∙ step (place_of c.who == place) c.told (told_at place cs) (at rows place)

none_yet : (place : ℕ) → place < 17 → at no_rows place ≡ no_row
none_yet place l = get_or-replicate 17 place no_row no_row l

pub rows_are : RowsAreTold
rows_are cs place l = rows_from cs place no_rows l ∙ ap (row_with (told_at place cs)) (none_yet place l)
