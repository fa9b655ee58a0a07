-- The words of a line's text.
use Rattle.std.proofs.Math.Seq.{take-append_seam}
use Rattle.std.proofs.Common.{◌≡◌, ℕ, suc, ◌+◌, ◌≤◌, ◌==◌, Bool, true, false, ◌&&◌, ◌||◌, not, cond, List, [], ◌∷◌, ◌++◌, length, take, drop, get_or, position, flat_map, Some, None, ap, subst, arith, refl, sym, ◌∙◌, append_assoc, append-nil, length-append, take-append-drop}
use Rattle.std.specs.Fmt.{decimal}
use Rattle.std.specs.List.{count_by, position_or_len}
use Rattle.std.proofs.lemmas.Bool.{and_parts, eqb-true}
use Rattle.std.proofs.lemmas.Grind.{common_steps}
use Rattle.std.proofs.lemmas.List.{take_all}
use Rattle.std.proofs.lemmas.List.Sums.{sum_by-cons}
use Rattle.hex.specs.Hex.{encode_lower}
use Rattle.text_core.specs.Piece.{phys_text}
use Rattle.edid_text_lines.specs.Formed.{form_of, BeginsSpaced, FormedFields, are_numbers}
use Rattle.edid_texts.specs.Refusal.{first_word, word_count}
use Rattle.edid_text_lines.specs.Text.{word_text, number_text, hex_word, fields_text, line_text}
use Rattle.edid_texts.specs.Words.{has_words}
use Rattle.edid_text_lines.specs.declared.line.Fields.{Fields}
use Rattle.edid_text_lines.specs.declared.line.Fields.TheVariants.{Nothing, Letters, Numbers, Timed, Bytes, Address, Quoted}
use Rattle.edid_text_lines.specs.declared.line.LineContent.{LineContent}
use Rattle.edid_text_lines.specs.declared.line.LineContent.TheVariants.{Empty, Three, One, Two, Eight, Unused, Timing as OfTiming, Hex, Address as OfAddress, Quoted as OfQuoted}
use Rattle.edid_text_lines.specs.declared.line.Keyword.{Keyword}
use Rattle.edid_text_lines.specs.declared.line.Line.{Line}
use Rattle.edid_texts.proofs.CutTexts.{hex_clean, flags_clean, decimal_clean, phys_clean, word_clean, number_fits}
use Rattle.edid_texts.proofs.Good.{is_clean, are_clean, PlainFields, Good}
use Rattle.edid_text_lines.proofs.OneWord.{solid, fields_begin}
use Rattle.edid_texts.proofs.Samples.{words_of}
use Rattle.edid_text_lines.proofs.Words.{cut_at}
use Rattle.edid_texts.proofs.Gets.{append_same}

-- what stands before a character
pub before_some : (k : ℕ) (xs : List ℕ) (i : ℕ) → position (λ b. b == k) xs ≡ Some i → take i xs ≡ take (position_or_len (λ b. b == k) xs) xs
before_some k xs i h = let at : position_or_len (λ b. b == k) xs ≡ i = grind (arith, common_steps) in ap (λ n. take n xs) (sym at)

pub before_none : (k : ℕ) (xs : List ℕ) → position (λ b. b == k) xs ≡ None → xs ≡ take (position_or_len (λ b. b == k) xs) xs
before_none k xs h = let far : length xs ≤ position_or_len (λ b. b == k) xs = grind (arith, common_steps) in sym (take_all (position_or_len (λ b. b == k) xs) xs far)

-- the spaces before the first quote
abbrev spaces : List ℕ → ℕ
spaces [] = 0
spaces (c ∷ cs) = cond (c == 34) 0 (cond (c == 32) (suc (spaces cs)) (spaces cs))

abbrev counted : List ℕ → ℕ
counted xs = count_by (λ c. c == 32) (take (position_or_len (λ c. c == 34) xs) xs)

spaces_is : (xs : List ℕ) → counted xs ≡ spaces xs
spaces_is [] = refl
spaces_is (c ∷ cs) = quote (spaces_is cs) (c == 34)
  where
    space : counted cs ≡ spaces cs → (w : Bool) → cond w 1 0 + counted cs ≡ cond w (suc (spaces cs)) (spaces cs)
    space h true = omega (arith, h)
    space h false = omega (arith, h)

    more : take (1 + position_or_len (λ c. c == 34) cs) (c ∷ cs) ≡ c ∷ take (position_or_len (λ c. c == 34) cs) cs
    more = let one : 1 + position_or_len (λ c. c == 34) cs ≡ suc (position_or_len (λ c. c == 34) cs) = omega arith in ap (λ n. take n (c ∷ cs)) one

    quote : counted cs ≡ spaces cs → (v : Bool) → count_by (λ c. c == 32) (take (cond (not v) (1 + position_or_len (λ c. c == 34) cs) 0) (c ∷ cs)) ≡ cond v 0 (cond (c == 32) (suc (spaces cs)) (spaces cs))
    quote h true = refl
    quote h false = ap (count_by (λ c. c == 32)) more ∙ sum_by-cons (λ c. cond (c == 32) 1 0) c (take (position_or_len (λ c. c == 34) cs) cs) ∙ space h (c == 32)

spaces_clean : (xs ys : List ℕ) → are_clean xs ≡ true → spaces (xs ++ ys) ≡ spaces ys
spaces_clean [] ys h = refl
spaces_clean (c ∷ cs) ys h =
    let p = and_parts (is_clean c) (are_clean cs) h in
    let q = and_parts (not (c == 10) && not (c == 32)) (not (c == 34)) p.0 in
    let r = and_parts (not (c == 10)) (not (c == 32)) q.0 in
    passed (c == 34) (c == 32) q.1 r.1 (spaces_clean cs ys p.1)
  where
    passed : (v w : Bool) → not v ≡ true → not w ≡ true → spaces (cs ++ ys) ≡ spaces ys → cond v 0 (cond w (suc (spaces (cs ++ ys))) (spaces (cs ++ ys))) ≡ spaces ys
    passed true w h k e = absurd (no h)
      where
        no : false ≡ true → ⊥
        no h = cc
    passed false true h k e = absurd (no k)
      where
        no : false ≡ true → ⊥
        no h = cc
    passed false false h k e = e

clean_spaces : (xs : List ℕ) → are_clean xs ≡ true → spaces xs ≡ 0
clean_spaces xs h = ap spaces (sym (append-nil xs)) ∙ spaces_clean xs [] h

numbers_spaces : (ns ys : List ℕ) → are_numbers ns ≡ true → spaces (flat_map number_text ns ++ ys) ≡ length ns + spaces ys
numbers_spaces [] ys h = omega arith
numbers_spaces (n ∷ ns) ys h =
    let p = number_fits n ns h in
    let one : spaces ((decimal n ++ flat_map number_text ns) ++ ys) ≡ spaces (flat_map number_text ns ++ ys) =
    ap spaces (append_assoc (decimal n) (flat_map number_text ns) ys) ∙ spaces_clean (decimal n) (flat_map number_text ns ++ ys) (decimal_clean n p.0) in
    let rest = numbers_spaces ns ys p.1 in
    let all : suc (spaces ((decimal n ++ flat_map number_text ns) ++ ys)) ≡ suc (length ns) + spaces ys = omega (arith, one, rest) in
    all

-- the fields of a line
fields_spaces : (form : LineContent) (f : Fields) → FormedFields form f → PlainFields f → suc (spaces (fields_text f)) ≡ words_of f
fields_spaces form Nothing h k = refl
fields_spaces form (Letters letters) h k = let none = clean_spaces letters.items k in omega (arith, none)
fields_spaces form (Bytes bytes) h k = let none = clean_spaces (hex_word bytes.items) (hex_clean bytes.items) in omega (arith, none)
fields_spaces form (Address p bytes) h k =
    let first = spaces_clean (phys_text p) (32 ∷ hex_word bytes.items) (phys_clean p) in
    let none = clean_spaces (hex_word bytes.items) (hex_clean bytes.items) in
    let all : suc (suc (spaces (phys_text p ++ (32 ∷ hex_word bytes.items)))) ≡ 3 = omega (arith, first, none) in
    all
fields_spaces form (Quoted chars) h k = refl
fields_spaces form (Numbers numbers) h k =
    let all = ap spaces (sym (append-nil (flat_map number_text numbers.items))) ∙ numbers_spaces numbers.items [] (fits form h) in
    omega (arith, all)
  where
    fits : (form : LineContent) → FormedFields form (Numbers numbers) → are_numbers numbers.items ≡ true
    fits One h = h.1
    fits Two h = h.1
    fits Eight h = h.1
    fits Unused h = h.1
    fits Empty h = absurd h
    fits Three h = absurd h
    fits OfTiming h = absurd h
    fits Hex h = absurd h
    fits OfAddress h = absurd h
    fits OfQuoted h = absurd h
fields_spaces form (Timed numbers flags) h k =
    let all = numbers_spaces numbers.items (32 ∷ encode_lower (flags ∷ [])) (fits form h) in
    let none = clean_spaces (encode_lower (flags ∷ [])) (flags_clean flags) in
    let one : spaces (32 ∷ encode_lower (flags ∷ [])) ≡ 1 = omega (arith, none) in
    omega (arith, all, one)
  where
    fits : (form : LineContent) → FormedFields form (Timed numbers flags) → are_numbers numbers.items ≡ true
    fits OfTiming h = h.0.1
    fits One h = absurd h
    fits Two h = absurd h
    fits Eight h = absurd h
    fits Unused h = absurd h
    fits Empty h = absurd h
    fits Three h = absurd h
    fits Hex h = absurd h
    fits OfAddress h = absurd h
    fits OfQuoted h = absurd h

-- a line without its line feed
abbrev pub front_text : Line → List ℕ
front_text l = word_text l.word ++ fields_text l.fields

pub first_is : (l : Line) → first_word (front_text l) ≡ word_text l.word
first_is l =
    ap (λ n. take n (front_text l)) (cut_at (word_text l.word) (fields_text l.fields) (solid l.word) (fields_begin l.fields)) ∙ take-append_seam (word_text l.word) (fields_text l.fields)

-- what begins with a space
after_space : (xs : List ℕ) → BeginsSpaced (drop (position_or_len (λ c. c == 32) xs) xs)
after_space [] = tt
after_space (c ∷ cs) = at (c == 32) refl (after_space cs)
  where
    more : drop (1 + position_or_len (λ c. c == 32) cs) (c ∷ cs) ≡ drop (position_or_len (λ c. c == 32) cs) cs
    more = let one : 1 + position_or_len (λ c. c == 32) cs ≡ suc (position_or_len (λ c. c == 32) cs) = omega arith in ap (λ n. drop n (c ∷ cs)) one

    at : (v : Bool) → (c == 32) ≡ v → BeginsSpaced (drop (position_or_len (λ c. c == 32) cs) cs) → BeginsSpaced (drop (cond (not v) (1 + position_or_len (λ c. c == 32) cs) 0) (c ∷ cs))
    at true e h = eqb-true _ _ e
    at false e h = subst BeginsSpaced (sym more) h

no_space : (rest : List ℕ) → BeginsSpaced rest → spaces rest ≡ 0 → rest ≡ []
no_space [] b h = refl
no_space (c ∷ cs) b h = absurd (none (ap (λ n. spaces (n ∷ cs)) (sym b) ∙ h))
  where
    none : suc (spaces cs) ≡ 0 → ⊥
    none e = omega (arith, e)

-- a line of one word
pub alone : (w : Keyword) (xs : List ℕ) → first_word xs ≡ word_text w → word_count xs ≡ 1 → xs ≡ word_text w
alone w xs first one =
    let at = position_or_len (λ c. c == 32) xs in
    let rest = drop at xs in
    let whole : word_text w ++ rest ≡ xs = ap (λ t. t ++ rest) (sym first) ∙ take-append-drop at xs in
    let left : spaces rest ≡ spaces xs = sym (spaces_clean (word_text w) rest (word_clean w)) ∙ ap spaces whole in
    let counts = spaces_is xs in
    let none = no_space rest (after_space xs) (omega (arith, left, counts, one)) in
    sym whole ∙ ap (λ t. word_text w ++ t) none ∙ append-nil (word_text w)

pub words_are : (l : Line) → Good l → word_count (front_text l) ≡ words_of l.fields
words_are l h =
    ap (λ n. suc n) (spaces_is (front_text l) ∙ spaces_clean (word_text l.word) (fields_text l.fields) (word_clean l.word))
    ∙ fields_spaces (form_of l.word) l.fields h.0 h.1

pub with_feed : (l : Line) → line_text l ≡ front_text l ++ 10 ∷ []
with_feed l = sym (append_assoc (word_text l.word) (fields_text l.fields) (10 ∷ []))

pub same_front : (xs ys : List ℕ) (x y : ℕ) → xs ++ x ∷ [] ≡ ys ++ y ∷ [] → (xs ≡ ys) × (x ≡ y)
same_front xs ys x y e =
    let len = ap length e in
    let one : length xs ≡ length ys = omega (arith, len, length-append xs (x ∷ []), length-append ys (y ∷ [])) in
    let parts = append_same xs ys (x ∷ []) (y ∷ []) one e in
    (parts.0, ap (λ t. get_or t 0 x) parts.1)

pub formed_words : (form : LineContent) (f : Fields) → FormedFields form f → has_words form (words_of f) ≡ true
formed_words Empty Nothing h = refl
formed_words Three (Letters letters) h = refl
formed_words One (Numbers numbers) h = ap (λ k. suc k == 2) h.0
formed_words Two (Numbers numbers) h = ap (λ k. suc k == 3) h.0
formed_words Eight (Numbers numbers) h = ap (λ k. suc k == 9) h.0
formed_words Unused (Letters letters) h = refl
formed_words Unused (Numbers numbers) h = ap (λ k. (suc k == 2) || (suc k == 4)) h.0
formed_words OfTiming (Timed numbers flags) h = ap (λ k. suc (suc k) == 15) h.0.0
formed_words Hex (Bytes bytes) h = refl
formed_words OfAddress (Address p bytes) h = refl
formed_words OfQuoted (Quoted chars) h = refl
formed_words form f h = absurd h
