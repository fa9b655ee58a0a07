-- A line that is read is one of a row of the table.
use Rattle.std.proofs.Common.{◌≡◌, ℕ, Bool, true, false, if◌then◌else◌, List, [], ◌∷◌, ◌++◌, Option, Some, None, Result, Ok, Err, refl, ap, subst}
use Rattle.text_core.specs.declared.at.AtWord.{AtWord}
use Rattle.text_forms.specs.Forms.{Meaning, Place, Said, fault_in, is_whole, meanings_of, most_fitting, read_by, read_of, row_of, unless}
use Rattle.text_forms.specs.declared.form.LineCause.{LineCause}
use Rattle.room_lines.specs.Script.{script_rows}
use Rattle.room_lines.specs.declared.script.ScriptVerb.{ScriptVerb}
use Rattle.room_script.specs.Script.{line_said}
use Rattle.room_script.specs.Lines.{IsOfRow, LinesAreOfRows}

-- the row that is found stands in the table, and its words fit whole
record IsFound (rows : List (ScriptVerb × List Place)) (words : List (List ℕ)) (found : ScriptVerb × List Place) : Type 0 where
  before : List (ScriptVerb × List Place)
  after : List (ScriptVerb × List Place)
  rows_are : rows ≡ before ++ found ∷ after
  whole : is_whole found.1 words ≡ true

found_in : (rows : List (ScriptVerb × List Place)) (words : List (List ℕ)) (found : ScriptVerb × List Place) → row_of rows words ≡ Some found → IsFound rows words found
unfolding row_of
found_in [] words found h = cc
found_in (row ∷ others) words found h = by (is_whole row.1 words) refl h (found_in others words found)
  where
    by : (b : Bool) → is_whole row.1 words ≡ b → (if b then Some row else row_of others words) ≡ Some found → (row_of others words ≡ Some found → IsFound others words found) → IsFound (row ∷ others) words found
    by true e h later =
        let same : row ≡ found = cc in
        let P : ScriptVerb × List Place → Type 0 = λ r. IsFound (row ∷ others) words r in
        subst P same (record { before = []; after = others; rows_are = refl; whole = e })
    by false e h later =
        let more = later h in
        record { before = row ∷ more.before; after = more.after; rows_are = ap (λ t. row ∷ t) more.rows_are; whole = more.whole }

-- what is read has the row's verb
own_verb : (verb read_verb : ScriptVerb) (values read_values : List Meaning) (words first second : Option (AtWord LineCause)) → unless words (unless first (unless second (Ok (verb, values)))) ≡ Ok (read_verb, read_values) → verb ≡ read_verb
own_verb verb read_verb values read_values (Some fault) first second h = cc
own_verb verb read_verb values read_values None (Some fault) second h = cc
own_verb verb read_verb values read_values None None (Some fault) h = cc
own_verb verb read_verb values read_values None None None h =
    let same : ◌≡◌ {A = ScriptVerb × List Meaning} (verb, values) (read_verb, read_values) = cc in ap (λ p. p.0) same

pub of_rows : LinesAreOfRows
unfolding line_said
of_rows words verb values h = by (row_of script_rows words) refl h
  where
    by : (row : Option (ScriptVerb × List Place)) → row_of script_rows words ≡ row → read_of (most_fitting script_rows words) row words ≡ Ok (verb, values) → IsOfRow words verb values
    by None e h = cc
    by (Some row) e h =
        let is = found_in script_rows words row e in
        let same : row.0 ≡ verb = own_verb row.0 verb (meanings_of row.1 words) values (fault_in 0 0 row.1 words) (fault_in 1 0 row.1 words) (fault_in 2 0 row.1 words) h in
        record {
          before = is.before;
          form = row.1;
          after = is.after;
          row_is = subst (λ v. script_rows ≡ is.before ++ (v, row.1) ∷ is.after) same is.rows_are;
          whole = is.whole;
          read = subst (λ v. read_by v row.1 words ≡ Ok (verb, values)) same h;
        }
