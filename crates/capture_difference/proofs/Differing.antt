-- What is told of two captures, and what their frames say.
use Rattle.std.proofs.Common.{◌≡◌, ◌↔◌, ℕ, zero, suc, ◌+◌, ◌&&◌, Bool, true, false, not, is_some, if◌then◌else◌, nat_lt, map, length, take, drop, slice_get, List, [], ◌∷◌, ◌++◌, Option, Some, None, refl, sym, ap, ap₂, ◌∙◌, append-nil, append_assoc, arith}
use Rattle.std.specs.List.{flat_map}
use Rattle.std.specs.Option.{option_to_list}
use Rattle.std.specs.Str.{bytes_eq}
use Rattle.std.proofs.lemmas.Bool.Decides.{nat_tests}
use Rattle.std.proofs.lemmas.Grind.{flat_map-append}
use Rattle.std.proofs.lemmas.Slice.Eq.{bytes_eq-Decides}
use Rattle.capture_difference.specs.Aligned.{aligned_by, alone, go_on, meeting_from, meets_at, met, met_or, nearest, nearest_from, or_further, past, up_to}
use Rattle.capture_difference.specs.Laws.{FirstIsTold, NoDifferenceIsEquality, SecondIsTold, first_in, said_of, second_in}
use Rattle.capture_difference.specs.Rows.{FirstRow, Row, first_from, is_none_different, is_one, is_same}
use Rattle.capture_difference.specs.Rows.Row.{Both, First, Second}
use Rattle.capture_difference.specs.declared.nearest.Meeting.{Meeting}
use Rattle.capture_frames.specs.Frames.{FrameLine}

-- ---- each frame is told once

-- a list in three parts
in_parts : {X : Type 0} (n : ℕ) (xs : List X) → (take n xs ++ option_to_list (slice_get xs n)) ++ drop 1 (drop n xs) ≡ xs
in_parts zero [] = refl
in_parts zero (x ∷ xs) = refl
in_parts (suc n) [] = refl
in_parts (suc n) (x ∷ xs) = ap (λ rest. x ∷ rest) (in_parts n xs)

first_alone : (xs : List FrameLine) → flat_map first_in (map First xs) ≡ xs
first_alone [] = refl
first_alone (x ∷ xs) = ap (λ (rest : List FrameLine). x ∷ rest) (first_alone xs)

first_lacking : (ys : List FrameLine) → flat_map first_in (map Second ys) ≡ []
first_lacking [] = refl
first_lacking (y ∷ ys) = first_lacking ys

first_of_alone : (xs ys : List FrameLine) → flat_map first_in (alone xs ys) ≡ xs
first_of_alone xs ys = flat_map-append first_in (map First xs) (map Second ys) ∙ ap₂ (λ (a b : List FrameLine). a ++ b) (first_alone xs) (first_lacking ys) ∙ append-nil xs

first_of_met : (x y : Option FrameLine) → flat_map first_in (met x y) ≡ option_to_list x
first_of_met None None = refl
first_of_met None (Some y) = refl
first_of_met (Some x) None = refl
first_of_met (Some x) (Some y) = refl

first_up_to : (xs ys : List FrameLine) (m : Meeting) → flat_map first_in (up_to xs ys m) ≡ take m.first xs ++ option_to_list (slice_get xs m.first)
first_up_to xs ys m =
    flat_map-append first_in (alone (take m.first xs) (take m.second ys)) (met (slice_get xs m.first) (slice_get ys m.second))
    ∙ ap₂ (λ (a b : List FrameLine). a ++ b) (first_of_alone (take m.first xs) (take m.second ys)) (first_of_met (slice_get xs m.first) (slice_get ys m.second))

first_by : (rest : List FrameLine → List FrameLine → List Row) → ((us vs : List FrameLine) → flat_map first_in (rest us vs) ≡ us) → (xs ys : List FrameLine) (o : Option Meeting)
    → flat_map first_in (go_on rest xs ys o) ≡ xs
first_by rest told xs ys None = first_of_alone xs ys
first_by rest told xs ys (Some m) =
    flat_map-append first_in (up_to xs ys m) (rest (past m.first xs) (past m.second ys))
    ∙ ap₂ (λ (a b : List FrameLine). a ++ b) (first_up_to xs ys m) (told (past m.first xs) (past m.second ys)) ∙ in_parts m.first xs

first_told : (n : ℕ) (xs ys : List FrameLine) → flat_map first_in (aligned_by n xs ys) ≡ xs
first_told zero xs ys = first_of_alone xs ys
first_told (suc n) xs ys = first_by (aligned_by n) (first_told n) xs ys (nearest xs ys)

second_lacking : (xs : List FrameLine) → flat_map second_in (map First xs) ≡ []
second_lacking [] = refl
second_lacking (x ∷ xs) = second_lacking xs

second_alone : (ys : List FrameLine) → flat_map second_in (map Second ys) ≡ ys
second_alone [] = refl
second_alone (y ∷ ys) = ap (λ (rest : List FrameLine). y ∷ rest) (second_alone ys)

second_of_alone : (xs ys : List FrameLine) → flat_map second_in (alone xs ys) ≡ ys
second_of_alone xs ys = flat_map-append second_in (map First xs) (map Second ys) ∙ ap₂ (λ (a b : List FrameLine). a ++ b) (second_lacking xs) (second_alone ys)

second_of_met : (x y : Option FrameLine) → flat_map second_in (met x y) ≡ option_to_list y
second_of_met None None = refl
second_of_met None (Some y) = refl
second_of_met (Some x) None = refl
second_of_met (Some x) (Some y) = refl

second_up_to : (xs ys : List FrameLine) (m : Meeting) → flat_map second_in (up_to xs ys m) ≡ take m.second ys ++ option_to_list (slice_get ys m.second)
second_up_to xs ys m =
    flat_map-append second_in (alone (take m.first xs) (take m.second ys)) (met (slice_get xs m.first) (slice_get ys m.second))
    ∙ ap₂ (λ (a b : List FrameLine). a ++ b) (second_of_alone (take m.first xs) (take m.second ys)) (second_of_met (slice_get xs m.first) (slice_get ys m.second))

second_by : (rest : List FrameLine → List FrameLine → List Row) → ((us vs : List FrameLine) → flat_map second_in (rest us vs) ≡ vs) → (xs ys : List FrameLine) (o : Option Meeting)
    → flat_map second_in (go_on rest xs ys o) ≡ ys
second_by rest told xs ys None = second_of_alone xs ys
second_by rest told xs ys (Some m) =
    flat_map-append second_in (up_to xs ys m) (rest (past m.first xs) (past m.second ys))
    ∙ ap₂ (λ (a b : List FrameLine). a ++ b) (second_up_to xs ys m) (told (past m.first xs) (past m.second ys)) ∙ in_parts m.second ys

second_told : (n : ℕ) (xs ys : List FrameLine) → flat_map second_in (aligned_by n xs ys) ≡ ys
second_told zero xs ys = second_of_alone xs ys
second_told (suc n) xs ys = second_by (aligned_by n) (second_told n) xs ys (nearest xs ys)

pub first_is_told : FirstIsTold
first_is_told xs ys = first_told (length xs) xs ys

pub second_is_told : SecondIsTold
second_is_told xs ys = second_told (length xs) xs ys

-- ---- frames that are the same

and_left : (a b : Bool) → (a && b) ≡ true → a ≡ true
and_left true b h = refl
and_left false b h = h

and_right : (a b : Bool) → (a && b) ≡ true → b ≡ true
and_right true b h = h
and_right false b h = cc

same_said : (x y : FrameLine) → is_same x y ≡ true → said_of x ≡ said_of y
same_said x y h =
    ap₂ (λ (a b : List ℕ). (a, b)) ((bytes_eq-Decides x.text y.text).0 (and_left (is_one x y) (bytes_eq x.verdict y.verdict) h))
    ((bytes_eq-Decides x.verdict y.verdict).0 (and_right (is_one x y) (bytes_eq x.verdict y.verdict) h))

-- ---- no difference, so the same frames

none_after : (b : Bool) (n : ℕ) (row : Row) (rows : List Row) → (if b then first_from (n + 1) rows else Some (record { common = n; row = row })) ≡ None → (b ≡ true) × (first_from (n + 1) rows ≡ None)
none_after true n row rows h = (refl, h)
none_after false n row rows h = cc

none_same : (n : ℕ) (rows : List Row) → first_from n rows ≡ None → map said_of (flat_map first_in rows) ≡ map said_of (flat_map second_in rows)
none_same n [] h = refl
none_same n (Both x y ∷ rows) h =
    let after = none_after (is_same x y) n (Both x y) rows h in
    ap₂ (λ (a : List ℕ × List ℕ) (rest : List (List ℕ × List ℕ)). a ∷ rest) (same_said x y after.0) (none_same (n + 1) rows after.1)
none_same n (First x ∷ rows) h = cc
none_same n (Second y ∷ rows) h = cc

none_found : (o : Option FirstRow) → not (is_some o) ≡ true → o ≡ None
none_found None h = refl
none_found (Some d) h = cc

equal_then : (xs ys : List FrameLine) → is_none_different (aligned_by (length xs) xs ys) ≡ true → map said_of xs ≡ map said_of ys
equal_then xs ys h =
    let rows = aligned_by (length xs) xs ys in
    ap (map said_of) (sym (first_told (length xs) xs ys)) ∙ none_same 0 rows (none_found (first_from 0 rows) h) ∙ ap (map said_of) (second_told (length xs) xs ys)

-- ---- the same frames, so no difference

tail_of : List (List ℕ × List ℕ) → List (List ℕ × List ℕ)
tail_of [] = []
tail_of (s ∷ rest) = rest

first_text : List (List ℕ × List ℕ) → List ℕ
first_text [] = []
first_text (s ∷ rest) = s.0

first_verdict : List (List ℕ × List ℕ) → List ℕ
first_verdict [] = []
first_verdict (s ∷ rest) = s.1

both_true : (a b : Bool) → a ≡ true → b ≡ true → (a && b) ≡ true
both_true true b h e = e
both_true false b h e = cc

none_below : nat_lt 0 zero ≡ true → ⊥
none_below h = cc

met_first : (x y : FrameLine) (xs ys : List FrameLine) (n : ℕ) → nat_lt 0 n ≡ true → is_one x y ≡ true → nearest_from (x ∷ xs) (y ∷ ys) n 0 ≡ Some (record { first = 0; second = 0 })
met_first x y xs ys zero h e = absurd (none_below h)
met_first x y xs ys (suc n) h e = ap (λ b. or_further (met_or b 0 0 None) (nearest_from (x ∷ xs) (y ∷ ys) n (0 + 1))) e

some_left : (xs ys : List FrameLine) (x y : FrameLine) → nat_lt 0 (length (x ∷ xs) + length (y ∷ ys)) ≡ true
some_left xs ys x y = grind (arith, nat_tests)

none_then : (k : ℕ) (xs ys : List FrameLine) → map said_of xs ≡ map said_of ys → first_from k (aligned_by (length xs) xs ys) ≡ None
unfolding first_text first_verdict tail_of
none_then k [] [] h = refl
none_then k [] (y ∷ ys) h = cc
none_then k (x ∷ xs) [] h = cc
none_then k (x ∷ xs) (y ∷ ys) h =
    let one : is_one x y ≡ true = (bytes_eq-Decides x.text y.text).1 (ap first_text h) in
    let same : is_same x y ≡ true = both_true (is_one x y) (bytes_eq x.verdict y.verdict) one ((bytes_eq-Decides x.verdict y.verdict).1 (ap first_verdict h)) in
    let here = met_first x y xs ys (length (x ∷ xs) + length (y ∷ ys)) (some_left xs ys x y) one in
    let rows = aligned_by (length xs) xs ys in
    ap (λ (o : Option Meeting). first_from k (go_on (aligned_by (length xs)) (x ∷ xs) (y ∷ ys) o)) here
    ∙ ap (λ b. if b then first_from (k + 1) rows else Some (record { common = k; row = Both x y })) same ∙ none_then (k + 1) xs ys (ap tail_of h)

pub no_difference_is_equality : NoDifferenceIsEquality
no_difference_is_equality xs ys = (equal_then xs ys, λ h. ap (λ (o : Option FirstRow). not (is_some o)) (none_then 0 xs ys h))
