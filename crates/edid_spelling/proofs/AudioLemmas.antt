-- The bytes of the words of an audio line, descriptor by descriptor.
use Rattle.std.proofs.Common.{◌≡◌, ℕ, zero, suc, ◌+◌, ◌*◌, ◌/◌, nat_le, ◌==◌, true, false, not, cond, List, [], ◌∷◌, ◌++◌, length, drop, flat_map, Option, Some, None, Result, Ok, Err, refl, sym, ◌∙◌, ap, arith}
use Rattle.std.specs.Result.{is_err}
use Rattle.std.proofs.lemmas.Bool.Decides.{nat_tests}
use Rattle.edid_spelling.specs.Rows.{fault_place, stands_for}
use Rattle.edid_spelling.specs.Audio.{Four, bytes_said, descriptor, descriptor_by, descriptor_of, descriptor_of_format, descriptor_said, descriptors_of, first_fault, format_rows, in_fours, says_no_descriptor, word_at_fault, channels_of, set_of, rate_rows, third_of}
use Rattle.text_core.specs.Number.{number_of}
use Rattle.edid_spelling.proofs.WordLemmas.{descriptors_after, onward, within, word_after}
use Rattle.edid_spelling.proofs.VideoLemmas.{nil_after, not_first, same_test}

-- ---- by fours

fours_after : List ℕ → List Four → Result (List ℕ) ℕ
fours_after before [] = Ok before
fours_after before (d ∷ ds) = within before (descriptor d) (λ next. fours_after next ds)

within_same : (before : List ℕ) (said : Result (List ℕ) ℕ) (on off : List ℕ → Result (List ℕ) ℕ) → ((next : List ℕ) → on next ≡ off next) → within before said on ≡ within before said off
within_same before (Err word) on off same = refl
within_same before (Ok bytes) on off same = ap (cond (nat_le 30 (length before)) (Err (word_after before 0))) (same (before ++ bytes))

by_fours : (before : List ℕ) (words : List (List ℕ)) → descriptors_after before words ≡ fours_after before (in_fours words)
unfolding fours_after
by_fours before [] = refl
by_fours before (f ∷ []) = refl
by_fours before (f ∷ c ∷ []) = refl
by_fours before (f ∷ c ∷ r ∷ []) = refl
by_fours before (f ∷ c ∷ r ∷ t ∷ more) =
    within_same before (descriptor_of f c r t) (λ next. descriptors_after next more) (λ next. fours_after next (in_fours more)) (λ next. by_fours next more)

-- ---- three bytes a descriptor

three_by : (format : ℕ) (channels rates third : Option ℕ) (bytes : List ℕ) → descriptor_by format channels rates third ≡ Ok bytes → length bytes ≡ 3
three_by format None rates third bytes e = absurd cc
three_by format (Some c) None third bytes e = absurd cc
three_by format (Some c) (Some r) None bytes e = absurd cc
three_by format (Some c) (Some r) (Some t) bytes e = sym (ap (λ o. length (bytes_said o)) e)

three_of : (format : Option ℕ) (c r t bytes : List ℕ) → descriptor_of_format format c r t ≡ Ok bytes → length bytes ≡ 3
three_of None c r t bytes e = absurd cc
three_of (Some n) c r t bytes e = three_by n (channels_of (number_of c)) (set_of rate_rows r) (third_of n t) bytes e

three : (d : Four) (bytes : List ℕ) → descriptor d ≡ Ok bytes → length bytes ≡ 3
unfolding descriptor_of
three d bytes e = three_of (stands_for format_rows d.format) d.channels d.rates d.third bytes e

-- ---- what is told, after so many descriptors

told : List ℕ → ℕ → List Four → ℕ → Result (List ℕ) ℕ
told before done ds place =
    cond (place == length ds) (Ok (before ++ flat_map descriptor_said ds))
    (Err ((done + place) * 4 + 1 + cond (done + place == 10) 0 (first_fault (drop place ds))))

long : (xs ys : List ℕ) → length (xs ++ ys) ≡ length xs + length ys
long [] ys = omega arith
long (x ∷ xs) ys = omega (arith, long xs ys)

joined : (xs ys zs : List ℕ) → (xs ++ ys) ++ zs ≡ xs ++ (ys ++ zs)
joined [] ys zs = refl
joined (x ∷ xs) ys zs = ap (λ w. x ∷ w) (joined xs ys zs)

full : (before : List ℕ) (done : ℕ) (d : Four) (ds : List Four) → length before ≡ 3 * done → done ≡ 10 → within before (descriptor d) (λ next. fours_after next ds) ≡ told before done (d ∷ ds) 0
unfolding told
full before done d ds size all =
    let over : nat_le 30 (length before) ≡ true = grind (arith, nat_tests) in
    let ten : (done + 0 == 10) ≡ true = grind (arith, nat_tests) in
    let number : length before / 3 * 4 + 1 + 0 ≡ (done + 0) * 4 + 1 + 0 = omega arith in
    ap (λ b. cond b (Err (word_after before 0)) (onward before (descriptor d) (λ next. fours_after next ds))) over
    ∙ (ap Err number
    ∙ (sym (ap (λ b. Err ((done + 0) * 4 + 1 + cond b 0 (first_fault (d ∷ ds)))) ten)
    ∙ sym (ap (λ b. cond b (Ok (before ++ flat_map descriptor_said (d ∷ ds))) (Err ((done + 0) * 4 + 1 + cond (done + 0 == 10) 0 (first_fault (d ∷ ds))))) (not_first (length ds)))))

at_fault : (before : List ℕ) (done : ℕ) (d : Four) (ds : List Four) (word : ℕ) → length before ≡ 3 * done → (done + 0 == 10) ≡ false → descriptor d ≡ Err word
    → Err (word_after before word) ≡ told before done (d ∷ ds) 0
unfolding told
at_fault before done d ds word size few says =
    let number : length before / 3 * 4 + 1 + word ≡ (done + 0) * 4 + 1 + word = omega arith in
    let own : word_at_fault (descriptor d) ≡ word = ap word_at_fault says in
    ap Err number
    ∙ (sym (ap (λ w. Err ((done + 0) * 4 + 1 + w)) own)
    ∙ (sym (ap (λ b. Err ((done + 0) * 4 + 1 + cond b 0 (word_at_fault (descriptor d)))) few)
    ∙ sym (ap (λ b. cond b (Ok (before ++ flat_map descriptor_said (d ∷ ds))) (Err ((done + 0) * 4 + 1 + cond (done + 0 == 10) 0 (word_at_fault (descriptor d))))) (not_first (length ds)))))

told_more : (before : List ℕ) (done : ℕ) (d : Four) (ds : List Four) (bytes : List ℕ) (place : ℕ) → descriptor d ≡ Ok bytes → told (before ++ bytes) (done + 1) ds place ≡ told before done (d ∷ ds) (1 + place)
unfolding told
told_more before done d ds bytes place says =
    let said : descriptor_said d ≡ bytes = ap bytes_said says in
    let all : (before ++ bytes) ++ flat_map descriptor_said ds ≡ before ++ (descriptor_said d ++ flat_map descriptor_said ds) =
    joined before bytes (flat_map descriptor_said ds) ∙ ap (λ s. before ++ (s ++ flat_map descriptor_said ds)) (sym said) in
    let number : done + 1 + place ≡ done + (1 + place) = omega arith in
    let next : 1 + place ≡ suc place = omega arith in
    let rest : drop (1 + place) (d ∷ ds) ≡ drop place ds = ap (λ k. drop k (d ∷ ds)) next in
    ap (λ b. cond b (Ok ((before ++ bytes) ++ flat_map descriptor_said ds)) (Err ((done + 1 + place) * 4 + 1 + cond (done + 1 + place == 10) 0 (first_fault (drop place ds))))) (sym (same_test place (length ds)))
    ∙ (ap (λ o. cond (1 + place == suc (length ds)) (Ok o) (Err ((done + 1 + place) * 4 + 1 + cond (done + 1 + place == 10) 0 (first_fault (drop place ds))))) all
    ∙ (ap (λ n. cond (1 + place == suc (length ds)) (Ok (before ++ (descriptor_said d ++ flat_map descriptor_said ds))) (Err (n * 4 + 1 + cond (n == 10) 0 (first_fault (drop place ds))))) number
    ∙ ap (λ w. cond (1 + place == suc (length ds)) (Ok (before ++ (descriptor_said d ++ flat_map descriptor_said ds))) (Err ((done + (1 + place)) * 4 + 1 + cond (done + (1 + place) == 10) 0 (first_fault w)))) (sym rest)))

one_read : (before : List ℕ) (done : ℕ) (d : Four) (ds : List Four) (place : ℕ) (said : Result (List ℕ) ℕ) → descriptor d ≡ said → length before ≡ 3 * done → (done + 0 == 10) ≡ false
    → ((bytes : List ℕ) → length bytes ≡ 3 → fours_after (before ++ bytes) ds ≡ told (before ++ bytes) (done + 1) ds place)
    → onward before said (λ next. fours_after next ds) ≡ told before done (d ∷ ds) (cond (not (is_err said)) (1 + place) 0)
one_read before done d ds place (Err word) says size few more = at_fault before done d ds word size few says
one_read before done d ds place (Ok bytes) says size few more = more bytes (three d bytes says) ∙ told_more before done d ds bytes place says

one_by_one : (before : List ℕ) (done : ℕ) (ds : List Four) (room : ℕ) → length before ≡ 3 * done → done + room ≡ 10 → fours_after before ds ≡ told before done ds (fault_place says_no_descriptor room ds)
unfolding fours_after told
one_by_one before done [] zero size rest = ap Ok (sym (nil_after before))
one_by_one before done [] (suc room) size rest = ap Ok (sym (nil_after before))
one_by_one before done (d ∷ ds) zero size rest = full before done d ds size (omega (arith, rest))
one_by_one before done (d ∷ ds) (suc room) size rest =
    let free : nat_le 30 (length before) ≡ false = grind (arith, nat_tests) in
    let few : (done + 0 == 10) ≡ false = grind (arith, nat_tests) in
    let more : (bytes : List ℕ) → length bytes ≡ 3 → fours_after (before ++ bytes) ds ≡ told (before ++ bytes) (done + 1) ds (fault_place says_no_descriptor room ds)
    = λ bytes three. one_by_one (before ++ bytes) (done + 1) ds room (omega (arith, long before bytes, three, size)) (omega (arith, rest)) in
    ap (λ b. cond b (Err (word_after before 0)) (onward before (descriptor d) (λ next. fours_after next ds))) free
    ∙ one_read before done d ds (fault_place says_no_descriptor room ds) (descriptor d) refl size few more

pub all_descriptors : (words : List (List ℕ)) → descriptors_after [] words ≡ descriptors_of words
unfolding told
all_descriptors words =
    let place = fault_place says_no_descriptor 10 (in_fours words) in
    let number : 0 + place ≡ place = omega arith in
    by_fours [] words
    ∙ (one_by_one [] 0 (in_fours words) 10 refl refl
    ∙ ap (λ n. cond (place == length (in_fours words)) (Ok (flat_map descriptor_said (in_fours words))) (Err (n * 4 + 1 + cond (n == 10) 0 (first_fault (drop place (in_fours words)))))) number)
