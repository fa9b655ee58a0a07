-- A line of a table is at fault no further on than its longest form goes.
use Rattle.std.proofs.Common.{◌≡◌, ℕ, ◌+◌, ◌≤◌, ◌==◌, ◌&&◌, Bool, true, false, if◌then◌else◌, List, [], ◌∷◌, length, max, Option, Some, None, IfSome, is_none, Result, Ok, Err, IfErr, refl, sym, subst, arith}
use Rattle.text_core.specs.At.{at_word}
use Rattle.text_core.specs.declared.at.AtWord.{AtWord}
use Rattle.text_forms.specs.Forms.{Meaning, Place, Said, fault_in, fits, fitting, is_whole, late_time_at, late_time_of_meaning, line_of, meaning_of, meanings_of, most_fitting, read_by, read_of, row_of, said, cause_of, turn_of, unless}
use Rattle.text_forms.specs.Forms.Meaning.{Itself, Number, PortOf, PortsOf, Level, KindOf, Text, Words}
use Rattle.text_forms.specs.Limits.{latest}
use Rattle.text_forms.specs.declared.form.LineCause.{LineCause}
use Rattle.text_forms.specs.declared.read.FormLine.{FormLine}
use Rattle.room_lines.specs.Expect.{expect_rows}
use Rattle.room_lines.specs.declared.expect.ExpectVerb.{ExpectVerb}

abbrev longest : {V : Type 0} → List (V × List Place) → ℕ
longest [] = 0
longest (row ∷ others) = max (length row.1) (longest others)

left_max : (m n k : ℕ) → m ≤ n → m ≤ max n k
left_max m n k h = grind (arith)

right_max : (m n k : ℕ) → m ≤ k → m ≤ max n k
right_max m n k h = grind (arith)

both_max : (m n x y : ℕ) → m ≤ x → n ≤ y → max m n ≤ max x y
both_max m n x y h k = grind (arith)

few_fit : (form : List Place) (words : List (List ℕ)) → fitting form words ≤ length form
unfolding fitting
few_fit [] words = omega arith
few_fit (place ∷ others) [] = omega arith
few_fit (place ∷ others) (word ∷ words) = by (fits place word) (few_fit others words)
  where
    by : (b : Bool) → fitting others words ≤ length others → (if b then 1 + fitting others words else 0) ≤ length (place ∷ others)
    by true h = omega (arith, h)
    by false h = omega arith

most_fit : {V : Type 0} (table : List (V × List Place)) (words : List (List ℕ)) → most_fitting table words ≤ longest table
unfolding most_fitting
most_fit [] words = omega arith
most_fit (row ∷ others) words = both_max (fitting row.1 words) (most_fitting others words) (length row.1) (longest others) (few_fit row.1 words) (most_fit others words)

abbrev IsBelow : ℕ → Option (AtWord LineCause) → Type 0
IsBelow n fault = IfSome fault (λ f. f.word ≤ n)

below_more : (n m : ℕ) (fault : Option (AtWord LineCause)) → n ≤ m → IsBelow n fault → IsBelow m fault
below_more n m None h k = tt
below_more n m (Some f) h k = omega (arith, h, k)

fault_below : (turn before : ℕ) (form : List Place) (words : List (List ℕ)) → IsBelow (before + length form) (fault_in turn before form words)
unfolding fault_in
fault_below turn before [] words = tt
fault_below turn before (place ∷ others) [] = tt
fault_below turn before (place ∷ others) (word ∷ words) =
    by ((turn_of place.0 == turn) && is_none (meaning_of place.0 word)) (fault_in turn (before + 1) others words) (fault_below turn (before + 1) others words)
  where
    by : (b : Bool) (later : Option (AtWord LineCause)) → IsBelow (before + 1 + length others) later → IsBelow (before + length (place ∷ others)) (if b then Some (at_word before (cause_of place.0)) else later)
    by true later h = omega arith
    by false later h = below_more (before + 1 + length others) (before + length (place ∷ others)) later (omega arith) h

unless_below : {V : Type 0} (n : ℕ) (fault : Option (AtWord LineCause)) (read : Said V) → IsBelow n fault → IfErr read (λ f. f.word ≤ n) → IfErr (unless fault read) (λ f. f.word ≤ n)
unless_below n None read h k = k
unless_below n (Some f) read h k = h

read_below : {V : Type 0} (n : ℕ) (verb : V) (form : List Place) (words : List (List ℕ)) → length form ≤ n → IfErr (read_by verb form words) (λ f. f.word ≤ n)
read_below n verb form words h =
    unless_below n (fault_in 0 0 form words) _ (near 0) (unless_below n (fault_in 1 0 form words) _ (near 1) (unless_below n (fault_in 2 0 form words) (Ok (verb, meanings_of form words)) (near 2) tt))
  where
    near : (turn : ℕ) → IsBelow n (fault_in turn 0 form words)
    near turn = below_more (0 + length form) n (fault_in turn 0 form words) (omega (arith, h)) (fault_below turn 0 form words)

-- a row, or one of those after it
row_of_two : {V : Type 0} (row : V × List Place) (later : Option (V × List Place)) (n : ℕ) (b : Bool) → IfSome later (λ r. length r.1 ≤ n) → IfSome (if b then Some row else later) (λ r. length r.1 ≤ max (length row.1) n)
row_of_two row later n true h = left_max (length row.1) (length row.1) n (omega arith)
row_of_two row None n false h = tt
row_of_two row (Some r) n false h = right_max (length r.1) (length row.1) n h

row_below : {V : Type 0} (table : List (V × List Place)) (words : List (List ℕ)) → IfSome (row_of table words) (λ row. length row.1 ≤ longest table)
unfolding row_of
row_below [] words = tt
row_below (row ∷ others) words = row_of_two row (row_of others words) (longest others) (is_whole row.1 words) (row_below others words)

of_row : {V : Type 0} (n most : ℕ) (row : Option (V × List Place)) (words : List (List ℕ)) → most ≤ n → IfSome row (λ r. length r.1 ≤ n) → IfErr (read_of most row words) (λ f. f.word ≤ n)
of_row n most None words h k = h
of_row n most (Some row) words h k = read_below n row.0 row.1 words k

line_below : {V : Type 0} (table : List (V × List Place)) (words : List (List ℕ)) → IfErr (line_of table words) (λ f. f.word ≤ longest table)
line_below table words = of_row (longest table) (most_fitting table words) (row_of table words) words (most_fit table words) (row_below table words)

nine : longest expect_rows ≡ 9
nine = refl

near_by : (words : List (List ℕ)) → IfErr (line_of expect_rows words) (λ f. f.word ≤ 9)
near_by words = subst (λ n. IfErr (line_of expect_rows words) (λ f. f.word ≤ n)) nine (line_below expect_rows words)

pub near_said : (result : Result (FormLine ExpectVerb) (AtWord LineCause)) (words : List (List ℕ)) → said result ≡ line_of expect_rows words → IfErr result (λ f. f.word ≤ 9)
near_said (Ok line) words h = tt
near_said (Err f) words h = subst (λ (read : Said ExpectVerb). IfErr read (λ f. f.word ≤ 9)) (sym h) (near_by words)

-- ---- times

by_meaning : (m : Meaning) → IfSome (late_time_of_meaning m) (λ t. t ≤ latest)
by_meaning (Number n) = grind (arith)
by_meaning Itself = tt
by_meaning (PortOf n) = tt
by_meaning (PortsOf n) = tt
by_meaning (Level is) = tt
by_meaning (KindOf kind) = tt
by_meaning (Text word) = tt
by_meaning (Words words) = tt

pub late_time_early : (values : List Meaning) (place : ℕ) → IfSome (late_time_at values place) (λ t. t ≤ latest)
late_time_early values place = by_meaning _
