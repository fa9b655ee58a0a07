-- A dump, line by line.
use Rattle.std.proofs.Common.{◌≡◌, ℕ, zero, suc, ◌+◌, ◌-◌, ◌<◌, ◌≤◌, ◌||◌, nat_lt, Bool, true, false, List, [], ◌∷◌, ◌++◌, length, take, slice_index, Option, Some, None, is_some, Result, Err, refl, sym, ap, ◌∙◌, arith, length-append}
use Rattle.std.specs.Option.{option_map}
use Rattle.std.specs.List.{list_any}
use Rattle.std.proofs.lemmas.List.{take_all}
use Rattle.std.proofs.lemmas.Bool.Decides.{nat_tests}
use Rattle.edid_dump.specs.declared.rows.DumpForm.{DumpForm}
use Rattle.edid_dump.specs.declared.dump.DumpError.{DumpError}
use Rattle.edid_dump.specs.declared.dump.DumpError.TheVariants.{Long}
use Rattle.edid_dump.specs.Digits.{bytes_with_row}
use Rattle.edid_dump.specs.Rows.{form_of, next_form}
use Rattle.edid_dump.specs.Dump.{dumped_from, dump_at_end, bytes_of_rows, gathered_by, left_out, ordered, with_repeats, after_line, with_line, with_row}
use Rattle.edid_dump.specs.declared.dump.Taken.TheVariants.{Row, TooLong, Other}

abbrev Answer : Type 0
Answer = Result (List ℕ) DumpError

pub length_repeated : (count : ℕ) (bytes : List ℕ) → length (with_repeats count bytes) ≡ length bytes + count
length_repeated zero bytes = omega arith
length_repeated (suc count) bytes =
    let b = slice_index bytes (length bytes - 16) in
    omega (arith, length_repeated count (bytes ++ b ∷ []), length-append bytes (b ∷ []))

pub repeated_more : (left : ℕ) (bytes : List ℕ) → 0 < left → with_repeats left bytes ≡ with_repeats (left - 1) (bytes ++ slice_index bytes (length bytes - 16) ∷ [])
repeated_more zero bytes h = absurd (omega arith)
repeated_more (suc left) bytes h =
    let e : left ≡ suc left - 1 = omega arith in
    ap (λ n. with_repeats n (bytes ++ slice_index bytes (length bytes - 16) ∷ [])) e

-- a row is added, or has no room
pub row_other : (form : DumpForm) (number : ℕ) (skips : Bool) (bytes line : List ℕ) (o : Option (List ℕ)) (n : Option ℕ) (more : List ℕ → Answer) → n ≡ None → n ≡ option_map length o
    → with_row form number skips bytes line o more ≡ dump_at_end number skips bytes
row_other form number skips bytes line None n more e f = refl
row_other form number skips bytes line (Some next) n more e f = cc

pub row_long : (form : DumpForm) (number : ℕ) (skips : Bool) (bytes line : List ℕ) (o : Option (List ℕ)) (count above : ℕ) (more : List ℕ → Answer) → Some count ≡ option_map length o
    → above ≡ left_out form skips bytes line → 512 < length bytes + above + count → with_row form number skips bytes line o more ≡ Err (Long number)
row_long form number skips bytes line None count above more e a h = cc
row_long form number skips bytes line (Some next) count above more e a h =
    let same : count ≡ length next = cc in
    let long : nat_lt 512 (length bytes + left_out form skips bytes line + length next) ≡ true = grind (arith, nat_tests) in
    rw long refl

pub row_taken : (form : DumpForm) (number : ℕ) (skips : Bool) (bytes line now new : List ℕ) (o : Option (List ℕ)) (count above : ℕ) (more : List ℕ → Answer) → Some count ≡ option_map length o
    → above ≡ left_out form skips bytes line → length bytes + above + count ≤ 512 → now ≡ with_repeats above bytes → bytes_with_row now o ≡ Some new
    → with_row form number skips bytes line o more ≡ more new
row_taken form number skips bytes line now new None count above more e a h r f = cc
row_taken form number skips bytes line now new (Some next) count above more e a h r f =
    let same : count ≡ length next = cc in
    let short : nat_lt 512 (length bytes + left_out form skips bytes line + length next) ≡ false = grind (arith, nat_tests) in
    let fits : length (now ++ next) ≤ 512 = omega (arith, length-append now next, ap length r, length_repeated above bytes) in
    let is : take 512 (now ++ next) ≡ new = cc in
    let all : now ++ next ≡ new = sym (take_all 512 (now ++ next) fits) ∙ is in
    let front : with_repeats (left_out form skips bytes line) bytes ++ next ≡ new = ap (λ n. with_repeats n bytes ++ next) (sym a) ∙ ap (λ l. l ++ next) (sym r) ∙ all in
    rw short (ap more front)

-- the lines so far
pub gathered_more : (form : DumpForm) (number : ℕ) (skips s : Bool) (bytes b line : List ℕ) (lines after : List (List ℕ)) (all : Answer) → all ≡ bytes_of_rows form number skips bytes lines
    → lines ≡ line ∷ after → with_line form number skips bytes line (λ t now. bytes_of_rows (next_form form) (number + 1) t now after) ≡ after_line number Row s b (λ t now. bytes_of_rows (next_form form) (number + 1) t now after)
    → all ≡ bytes_of_rows (next_form form) (number + 1) s b after
gathered_more form number skips s bytes b line lines after all h e k = h ∙ ap (bytes_of_rows form number skips bytes) e ∙ k

pub gathered_long : (form : DumpForm) (number : ℕ) (skips s : Bool) (bytes b line : List ℕ) (lines after : List (List ℕ)) (all : Answer) → all ≡ bytes_of_rows form number skips bytes lines
    → lines ≡ line ∷ after → with_line form number skips bytes line (λ t now. bytes_of_rows (next_form form) (number + 1) t now after) ≡ after_line number TooLong s b (λ t now. bytes_of_rows (next_form form) (number + 1) t now after)
    → all ≡ Err (Long number)
gathered_long form number skips s bytes b line lines after all h e k = h ∙ ap (bytes_of_rows form number skips bytes) e ∙ k

pub gathered_end : (form : DumpForm) (number : ℕ) (skips s : Bool) (bytes b line : List ℕ) (lines after : List (List ℕ)) (all : Answer) → all ≡ bytes_of_rows form number skips bytes lines
    → lines ≡ line ∷ after → with_line form number skips bytes line (λ t now. bytes_of_rows (next_form form) (number + 1) t now after) ≡ after_line number Other s b (λ t now. bytes_of_rows (next_form form) (number + 1) t now after)
    → all ≡ dump_at_end number s b
gathered_end form number skips s bytes b line lines after all h e k = h ∙ ap (bytes_of_rows form number skips bytes) e ∙ k

-- the lines before a dump
pub dumped_here : (number : ℕ) (line : List ℕ) (lines after : List (List ℕ)) (form : DumpForm) (all : Answer) → all ≡ dumped_from number lines → lines ≡ line ∷ after → form_of line ≡ Some form
    → all ≡ ordered form (bytes_of_rows form number false [] lines)
dumped_here number line lines after form all h e f =
    h ∙ ap (dumped_from number) e ∙ ap (λ o. gathered_by o number (line ∷ after) (dumped_from (number + 1) after)) f ∙ ap (λ ls. ordered form (bytes_of_rows form number false [] ls)) (sym e)

pub dumped_later : (number : ℕ) (line : List ℕ) (lines after : List (List ℕ)) (all : Answer) → all ≡ dumped_from number lines → lines ≡ line ∷ after → form_of line ≡ None
    → all ≡ dumped_from (number + 1) after
dumped_later number line lines after all h e f =
    h ∙ ap (dumped_from number) e ∙ ap (λ o. gathered_by o number (line ∷ after) (dumped_from (number + 1) after)) f

abbrev any_form : List (List ℕ) → Bool
any_form lines = list_any (λ line. is_some (form_of line)) lines

pub any_here : (line : List ℕ) (lines after : List (List ℕ)) (form : DumpForm) (all : Bool) → all ≡ any_form lines → lines ≡ line ∷ after → form_of line ≡ Some form → true ≡ all
any_here line lines after form all h e f = sym (h ∙ ap any_form e ∙ ap (λ o. is_some o || any_form after) f)

pub any_later : (line : List ℕ) (lines after : List (List ℕ)) (all : Bool) → all ≡ any_form lines → lines ≡ line ∷ after → form_of line ≡ None → all ≡ any_form after
any_later line lines after all h e f = h ∙ ap any_form e ∙ ap (λ o. is_some o || any_form after) f
