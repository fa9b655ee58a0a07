-- The lines of rows, added one after another.
use Rattle.std.proofs.Common.{◌≡◌, List, ℕ, ◌≤◌, [], ◌∷◌, ◌++◌, drop, get_or, length, map, refl, sym, ap, subst, ◌∙◌, append-nil, append_assoc, arith}
use Rattle.std.specs.List.{flat_map}
use Rattle.record_core.specs.declared.cell.Form.{Form}
use Rattle.text_core.specs.Adds.{Adds, Tally}
use Rattle.text_core.proofs.Adding.{nothing, then}
use Rattle.capture_difference.specs.Lines.{row_text}
use Rattle.capture_difference.specs.Rows.{Row, row_as}
use Rattle.capture_difference.specs.declared.row.Row.{Row as RowRead}

-- so much is added, and the lines of these rows are left
pub record AddsFront (a b : Tally) (form : Form) (rest : List Row) (whole : List ℕ) : Type 0 where
  pub done : List ℕ
  pub added : Adds a b done
  pub parts : done ++ flat_map (row_text form) rest ≡ whole

pub none_added : (a : Tally) (form : Form) (rows : List Row) → AddsFront a a form rows (flat_map (row_text form) rows)
none_added a form rows = record { done = []; added = nothing a; parts = refl }

pub one_added : (a b c : Tally) (form : Form) (row : Row) (rows : List Row) (whole : List ℕ) → AddsFront a b form (row ∷ rows) whole → Adds b c (row_text form row)
    → AddsFront a c form rows whole
one_added a b c form row rows whole before adds = record {
  done = before.done ++ row_text form row;
  added = then a b c before.done (row_text form row) before.added adds;
  parts = append_assoc before.done (row_text form row) (flat_map (row_text form) rows) ∙ before.parts;
}

clash : 1 ≤ 0 → ⊥
clash h = omega (arith, h)

-- a list that is not empty has a first element
split_of : {X : Type 0} (xs : List X) (d : X) → 1 ≤ length xs → xs ≡ get_or xs 0 d ∷ drop 1 xs
split_of [] d h = absurd (clash h)
split_of (x ∷ xs) d h = refl

-- of a row of the loop, which is the first of the rest
pub one_at : (a b c : Tally) (form : Form) (rest : List RowRead) (row : RowRead) (whole : List ℕ) → 1 ≤ length rest → get_or rest 0 row ≡ row → AddsFront a b form (map row_as rest) whole
    → Adds b c (row_text form (row_as row)) → AddsFront a c form (map row_as (drop 1 rest)) whole
one_at a b c form rest row whole h item before adds =
    one_added a b c form (row_as row) (map row_as (drop 1 rest)) whole
    (subst (λ (rows : List RowRead). AddsFront a b form (map row_as rows) whole) (split_of rest row h ∙ ap (λ (first : RowRead). first ∷ drop 1 rest) item) before) adds

pub all_added : (a b : Tally) (form : Form) (rest : List RowRead) (whole : List ℕ) → rest ≡ [] → AddsFront a b form (map row_as rest) whole → Adds a b whole
all_added a b form rest whole none adds =
    subst (λ (text : List ℕ). Adds a b text)
    (sym (append-nil adds.done) ∙ ap (λ (rows : List RowRead). adds.done ++ flat_map (row_text form) (map row_as rows)) (sym none) ∙ adds.parts) adds.added
