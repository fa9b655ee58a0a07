-- The bytes of the words of a video line, word by word.
use Rattle.std.proofs.Common.{◌≡◌, ℕ, zero, suc, ◌+◌, nat_le, ◌==◌, true, false, not, cond, List, [], ◌∷◌, ◌++◌, length, flat_map, Option, Some, None, Result, Ok, Err, refl, sym, ◌∙◌, ap, arith}
use Rattle.std.specs.Option.{is_none, option_to_list}
use Rattle.std.proofs.lemmas.Bool.Decides.{nat_tests}
use Rattle.edid_spelling.specs.Rows.{fault_place}
use Rattle.edid_spelling.specs.Video.{code_of, code_said, codes_of, says_no_code}

abbrev pub with_code : List ℕ → Option ℕ → (List ℕ → Result (List ℕ) ℕ) → Result (List ℕ) ℕ
with_code before None on = Err (length before + 1)
with_code before (Some code) on = on (before ++ code ∷ [])

-- the bytes of these words after those before
abbrev pub codes_after : List ℕ → List (List ℕ) → Result (List ℕ) ℕ
codes_after before [] = Ok before
codes_after before (word ∷ words) =
    cond (nat_le 31 (length before)) (Err (length before + 1)) (with_code before (code_of word) (λ next. codes_after next words))

abbrev pub told : List ℕ → List (List ℕ) → ℕ → Result (List ℕ) ℕ
told before words place = cond (place == length words) (Ok (before ++ flat_map code_said words)) (Err (length before + place + 1))

pub nil_after : (xs : List ℕ) → xs ++ [] ≡ xs
nil_after [] = refl
nil_after (x ∷ xs) = ap (λ ys. x ∷ ys) (nil_after xs)

onto : (xs : List ℕ) (y : ℕ) (zs : List ℕ) → (xs ++ y ∷ []) ++ zs ≡ xs ++ (y ∷ zs)
onto [] y zs = refl
onto (x ∷ xs) y zs = ap (λ ys. x ∷ ys) (onto xs y zs)

one_more : (xs : List ℕ) (y : ℕ) → length (xs ++ y ∷ []) ≡ length xs + 1
one_more [] y = refl
one_more (x ∷ xs) y = omega (arith, one_more xs y)

pub not_first : (n : ℕ) → (0 == suc n) ≡ false
not_first n = grind (arith, nat_tests)

pub same_test : (n m : ℕ) → (1 + n == suc m) ≡ (n == m)
same_test n m = grind (arith, nat_tests)

-- a word more, which says a code
told_more : (before : List ℕ) (word : List ℕ) (words : List (List ℕ)) (code place : ℕ) → code_of word ≡ Some code
    → told (before ++ code ∷ []) words place ≡ told before (word ∷ words) (1 + place)
told_more before word words code place says =
    let said : code_said word ≡ code ∷ [] = ap option_to_list says in
    let bytes : (before ++ code ∷ []) ++ flat_map code_said words ≡ before ++ (code_said word ++ flat_map code_said words) =
    onto before code (flat_map code_said words) ∙ ap (λ s. before ++ (s ++ flat_map code_said words)) (sym said) in
    let number : length (before ++ code ∷ []) + place + 1 ≡ length before + (1 + place) + 1 = omega (arith, one_more before code) in
    ap (λ b. cond b (Ok ((before ++ code ∷ []) ++ flat_map code_said words)) (Err (length (before ++ code ∷ []) + place + 1))) (sym (same_test place (length words)))
    ∙ (ap (λ o. cond (1 + place == suc (length words)) (Ok o) (Err (length (before ++ code ∷ []) + place + 1))) bytes
    ∙ ap (λ n. cond (1 + place == suc (length words)) (Ok (before ++ (code_said word ++ flat_map code_said words))) (Err n)) number)

word_read : (before : List ℕ) (word : List ℕ) (words : List (List ℕ)) (place : ℕ) (said : Option ℕ) → code_of word ≡ said
    → ((code : ℕ) → codes_after (before ++ code ∷ []) words ≡ told (before ++ code ∷ []) words place)
    → with_code before said (λ next. codes_after next words) ≡ told before (word ∷ words) (cond (not (is_none said)) (1 + place) 0)
word_read before word words place None says more =
    let number : length before + 1 ≡ length before + 0 + 1 = omega arith in
    ap Err number ∙ sym (ap (λ b. cond b (Ok (before ++ flat_map code_said (word ∷ words))) (Err (length before + 0 + 1))) (not_first (length words)))
word_read before word words place (Some code) says more = more code ∙ told_more before word words code place says

pub word_by_word : (before : List ℕ) (words : List (List ℕ)) (room : ℕ) → length before + room ≡ 31 → codes_after before words ≡ told before words (fault_place says_no_code room words)
word_by_word before [] room e = empty room
  where
    empty : (room : ℕ) → Ok before ≡ told before [] (fault_place says_no_code room [])
    empty zero = ap Ok (sym (nil_after before))
    empty (suc room) = ap Ok (sym (nil_after before))
word_by_word before (word ∷ words) zero e =
    let full : nat_le 31 (length before) ≡ true = grind (arith, nat_tests) in
    let number : length before + 1 ≡ length before + 0 + 1 = omega arith in
    ap (λ b. cond b (Err (length before + 1)) (with_code before (code_of word) (λ next. codes_after next words))) full
    ∙ (ap Err number
    ∙ sym (ap (λ b. cond b (Ok (before ++ flat_map code_said (word ∷ words))) (Err (length before + 0 + 1))) (not_first (length words))))
word_by_word before (word ∷ words) (suc room) e =
    let free : nat_le 31 (length before) ≡ false = grind (arith, nat_tests) in
    let more : (code : ℕ) → codes_after (before ++ code ∷ []) words ≡ told (before ++ code ∷ []) words (fault_place says_no_code room words)
    = λ code. word_by_word (before ++ code ∷ []) words room (omega (arith, one_more before code, e)) in
    ap (λ b. cond b (Err (length before + 1)) (with_code before (code_of word) (λ next. codes_after next words))) free
    ∙ word_read before word words (fault_place says_no_code room words) (code_of word) refl more

pub all_words : (words : List (List ℕ)) → codes_after [] words ≡ codes_of words
all_words words =
    let place = fault_place says_no_code 31 words in
    let number : 0 + place + 1 ≡ place + 1 = omega arith in
    word_by_word [] words 31 refl ∙ ap (λ n. cond (place == length words) (Ok (flat_map code_said words)) (Err n)) number
