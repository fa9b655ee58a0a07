-- The words of a line's text, one after the other.
use Rattle.std.proofs.Common.{◌≡◌, ℕ, zero, suc, ◌+◌, ◌-◌, ◌<◌, ◌≤◌, ◌==◌, Bool, true, false, ◌&&◌, not, nat_lt, cond, List, [], ◌∷◌, ◌++◌, length, map, take, drop, get_or, flat_map, ap, arith, refl, sym, ◌∙◌, append_assoc, append-nil}
use Rattle.std.specs.Fmt.{decimal}
use Rattle.std.specs.List.{onto_first, position_or_len, count_by}
use Rattle.std.proofs.Math.Seq.{drop-cons}
use Rattle.std.proofs.lemmas.List.Splits.{length-slice_split}
use Rattle.std.proofs.lemmas.List.Sums.{sum_by-take-le}
use borrow.Author.Tests.{tests}
use Rattle.std.proofs.lemmas.Bool.{and_parts}
use Rattle.text_core.specs.Piece.{phys_text}
use Rattle.text_core.specs.Words.{words_of}
use Rattle.text_core.specs.declared.phys.Phys.{Phys}
use Rattle.edid_text_lines.specs.Formed.{is_spaceless, BeginsSpaced, are_numbers}
use Rattle.edid_text_lines.specs.Text.{word_text, number_text}
use Rattle.edid_text_lines.specs.declared.line.Keyword.{Keyword}
use Rattle.edid_text_lines.proofs.OneWord.{solid}
use Rattle.edid_text_lines.proofs.Words.{without_decimal}
use Rattle.edid_texts.specs.Refusal.{first_word, first_words, word_count}
use Rattle.edid_texts.proofs.CutTexts.{phys_clean, number_fits}
use Rattle.edid_texts.proofs.Good.{is_clean, are_clean, and}

is_false : (v : Bool) → not v ≡ true → v ≡ false
is_false true h = cc
is_false false h = refl

pub is_less : (k n : ℕ) → k < n → nat_lt k n ≡ true
is_less k n h = grind (arith, tests)

-- the words after a word
abbrev pub words_after : List ℕ → List (List ℕ)
words_after [] = []
words_after (c ∷ cs) = words_of cs

pub words_front : (w t : List ℕ) → is_spaceless w ≡ true → BeginsSpaced t → words_of (w ++ t) ≡ w ∷ words_after t
words_front [] [] h b = refl
words_front [] (c ∷ cs) h b = let e : (c == 32) ≡ true = ap (λ n. n == 32) b in rw e refl
words_front (x ∷ w) t h b =
    let p = and_parts (not (x == 32)) (is_spaceless w) h in
    let e = is_false (x == 32) p.0 in
    let rest = words_front w t p.1 b in
    rw (e, rest) refl

numbers_words : (w ns t : List ℕ) → is_spaceless w ≡ true → are_numbers ns ≡ true → BeginsSpaced t → words_of (w ++ (flat_map number_text ns ++ t)) ≡ w ∷ (map decimal ns ++ words_after t)
numbers_words w [] t h k b = words_front w t h b
numbers_words w (n ∷ ns) t h k b =
    let p = number_fits n ns k in
    words_front w (32 ∷ ((decimal n ++ flat_map number_text ns) ++ t)) h refl
    ∙ ap (λ x. w ∷ words_of x) (append_assoc (decimal n) (flat_map number_text ns) t)
    ∙ ap (λ x. w ∷ x) (numbers_words (decimal n) ns t (without_decimal 32 n (omega arith) p.0) p.1 b)

pub numbers_front : (w : Keyword) (ns : List ℕ) → are_numbers ns ≡ true → words_of (word_text w ++ flat_map number_text ns) ≡ word_text w ∷ map decimal ns
numbers_front w ns k =
    ap (λ x. words_of (word_text w ++ x)) (sym (append-nil (flat_map number_text ns)))
    ∙ numbers_words (word_text w) ns [] (solid w) k tt
    ∙ ap (λ x. word_text w ∷ x) (append-nil (map decimal ns))

pub timed_front : (w : Keyword) (ns hex : List ℕ) → are_numbers ns ≡ true → words_of (word_text w ++ (flat_map number_text ns ++ (32 ∷ hex))) ≡ word_text w ∷ (map decimal ns ++ words_of hex)
timed_front w ns hex k = numbers_words (word_text w) ns (32 ∷ hex) (solid w) k refl

clean_spaceless : (xs : List ℕ) → are_clean xs ≡ true → is_spaceless xs ≡ true
clean_spaceless [] h = refl
clean_spaceless (c ∷ cs) h =
    let p = and_parts (is_clean c) (are_clean cs) h in
    let q = and_parts (not (c == 10) && not (c == 32)) (not (c == 34)) p.0 in
    let r = and_parts (not (c == 10)) (not (c == 32)) q.0 in
    and (not (c == 32)) (is_spaceless cs) r.1 (clean_spaceless cs p.1)

pub address_front : (w : Keyword) (p : Phys) (hex : List ℕ) → words_of (word_text w ++ (32 ∷ (phys_text p ++ (32 ∷ hex)))) ≡ word_text w ∷ phys_text p ∷ words_of hex
address_front w p hex =
    words_front (word_text w) (32 ∷ (phys_text p ++ (32 ∷ hex))) (solid w) refl
    ∙ ap (λ x. word_text w ∷ x) (words_front (phys_text p) (32 ∷ hex) (clean_spaceless (phys_text p) (phys_clean p)) refl)

-- the first word
pub first_of : (xs : List ℕ) → get_or (words_of xs) 0 [] ≡ first_word xs
first_of [] = refl
first_of (c ∷ cs) = at (c == 32) (first_of cs)
  where
    more : take (1 + position_or_len (λ c. c == 32) cs) (c ∷ cs) ≡ c ∷ take (position_or_len (λ c. c == 32) cs) cs
    more = let one : 1 + position_or_len (λ c. c == 32) cs ≡ suc (position_or_len (λ c. c == 32) cs) = omega arith in ap (λ n. take n (c ∷ cs)) one

    onto : (parts : List (List ℕ)) → get_or (onto_first c parts) 0 [] ≡ c ∷ get_or parts 0 []
    onto [] = refl
    onto (p ∷ ps) = refl

    at : (v : Bool) → get_or (words_of cs) 0 [] ≡ first_word cs → get_or (cond v ([] ∷ words_of cs) (onto_first c (words_of cs))) 0 [] ≡ take (cond (not v) (1 + position_or_len (λ c. c == 32) cs) 0) (c ∷ cs)
    at true e = refl
    at false e = onto (words_of cs) ∙ ap (λ t. c ∷ t) e ∙ sym more

pub enough_words : (xs : List ℕ) → word_count xs ≤ length (words_of xs)
enough_words xs =
    let len = length-slice_split (λ b. b == 32) xs in
    let some : count_by (λ b. b == 32) (take (position_or_len (λ b. b == 34) xs) xs) ≤ count_by (λ b. b == 32) xs = sum_by-take-le (λ b. cond (b == 32) 1 0) xs (position_or_len (λ b. b == 34) xs) in
    omega (arith, len, some)

-- up to a number, words are these
abbrev pub Agree : ℕ → ℕ → List (List ℕ) → List (List ℕ) → Type 0
Agree k i words [] = Unit {0}
Agree k i words (y ∷ ys) = (i < k → get_or words i [] ≡ y) × Agree k (suc i) words ys

agree_take : (k i n : ℕ) (words ys : List (List ℕ)) → Agree k i words ys → k ≡ i + n → n ≤ length ys → k ≤ length words → take n (drop i words) ≡ take n ys
agree_take k i zero words ys a e h l = refl
agree_take k i (suc n) words [] a e h l = absurd (omega arith)
agree_take k i (suc n) words (y ∷ ys) a e h l =
    let less : i < k = omega (arith, e) in
    let next : k ≡ suc i + n = omega (arith, e) in
    ap (take (suc n)) (drop-cons words i [] (omega (arith, less, l)))
    ∙ ap (λ x. x ∷ take n (drop (suc i) words)) (a.0 less)
    ∙ ap (λ t. y ∷ t) (agree_take k (suc i) n words ys a.1 next (omega (arith, h)) l)

pub shared : (k : ℕ) (front other : List ℕ) (ys : List (List ℕ)) → k < word_count front → word_count front ≡ word_count other → take k (words_of other) ≡ take k ys → Agree k 0 (words_of front) ys → k ≤ length ys
    → first_words k front ≡ first_words k other
shared k front other ys less same is a h =
    let enough = enough_words front in
    let zero_more : k ≡ 0 + k = omega arith in
    let first : take k (words_of front) ≡ take k ys = agree_take k 0 k (words_of front) ys a zero_more h (omega (arith, less, enough)) in
    let one : nat_lt k (word_count front) ≡ true = is_less k (word_count front) less in
    let two : nat_lt k (word_count other) ≡ true = is_less k (word_count other) (omega (arith, less, same)) in
    ap (λ v. cond v (take k (words_of front)) (front ∷ [])) one ∙ first ∙ sym is ∙ sym (ap (λ v. cond v (take k (words_of other)) (other ∷ [])) two)
