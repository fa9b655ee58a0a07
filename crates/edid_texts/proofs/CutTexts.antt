-- A text and its lines.
use Rattle.std.proofs.Common.{◌≡◌, ℕ, zero, suc, ◌+◌, ◌/◌, ◌%◌, ◌^◌, ◌<◌, ◌==◌, Bool, true, false, ◌&&◌, not, nat_lt, cond, List, [], ◌∷◌, ◌++◌, map, slice_index, flat_map, ap, arith, refl, sym, ◌∙◌, append_assoc, codes}
use Rattle.std.specs.Fmt.{decimal}
use Rattle.std.proofs.lemmas.Bool.{and_parts, ltb-true}
use Rattle.std.proofs.lemmas.Fmt.{decimal_by_steps}
use Rattle.hex.specs.Hex.{encode_lower, encode_with, lower_digits}
use Rattle.text_core.specs.Piece.{nibble_text, phys_text}
use Rattle.text_core.specs.declared.phys.Phys.{Phys}
use Rattle.edid_texts.specs.Cut.{lines_with_feeds, onto_line, has_no_feed, AreLines}
use Rattle.edid_texts.specs.Lines.{edid_lines}
use Rattle.edid_core.specs.declared.edid.Edid.{Edid as WholeEdid}
use Rattle.edid_text_lines.specs.Formed.{form_of, FormedFields, are_numbers}
use Rattle.edid_text_lines.specs.Text.{word_text, number_text, hex_word, fields_text, line_text}
use Rattle.edid_text_lines.specs.declared.line.Fields.{Fields}
use Rattle.edid_text_lines.specs.declared.line.Fields.TheVariants.{Nothing, Letters, Numbers, Timed, Bytes, Address, Quoted}
use Rattle.edid_text_lines.specs.declared.line.LineContent.{LineContent}
use Rattle.edid_text_lines.specs.declared.line.LineContent.TheVariants.{Empty, Three, One, Two, Eight, Unused, Timing as OfTiming, Hex, Address as OfAddress, Quoted as OfQuoted}
use Rattle.edid_text_lines.specs.declared.line.Line.{Line}
use Rattle.edid_cta.specs.declared.block.BlockKind.TheVariants.{Tag0, Audio, Video, Vendor, Speakers, Tag5, Tag6, Extended}
use Rattle.edid_text_lines.specs.declared.line.Keyword.{Keyword}
use Rattle.edid_text_lines.specs.declared.line.Keyword.TheVariants.{Edid, Maker, Product, Serial, Made, Input, Size, Gamma, Features, Chroma, Established, Standard, Timing, Name, Text, SerialText, Range, Dummy, Raw, Cta, CtaNone, Block, Hdmi, Tail, Ext}
use Rattle.edid_texts.proofs.Good.{is_clean, are_clean, PlainFields, Good, EachGood, and, clean-cons, edid_good}

-- a line of all the characters of some lines
joined_onto : (b : ℕ) (ls : List (List ℕ)) → flat_map (λ x. x) (onto_line b ls) ≡ b ∷ flat_map (λ x. x) ls
joined_onto b [] = refl
joined_onto b (x ∷ xs) = refl

pub joined : (text : List ℕ) → flat_map (λ x. x) (lines_with_feeds text) ≡ text
joined [] = refl
joined (b ∷ bs) = cases (joined bs) (b == 10)
  where
    cases : flat_map (λ x. x) (lines_with_feeds bs) ≡ bs → (v : Bool) → flat_map (λ x. x) (cond v ((b ∷ []) ∷ lines_with_feeds bs) (onto_line b (lines_with_feeds bs))) ≡ b ∷ bs
    cases h true = ap (λ x. b ∷ x) h
    cases h false = joined_onto b (lines_with_feeds bs) ∙ ap (λ x. b ∷ x) h

pub joined_lines : (ls : List Line) → flat_map (λ x. x) (map line_text ls) ≡ flat_map line_text ls
joined_lines [] = refl
joined_lines (l ∷ ls) = ap (λ t. line_text l ++ t) (joined_lines ls)

pub line_split : (w rest : List ℕ) → has_no_feed w ≡ true → lines_with_feeds (w ++ (10 ∷ rest)) ≡ (w ++ (10 ∷ [])) ∷ lines_with_feeds rest
line_split [] rest h = refl
line_split (c ∷ w) rest h =
    let p = and_parts (not (c == 10)) (has_no_feed w) h in
    cases (line_split w rest p.1) (c == 10) p.0
  where
    cases : lines_with_feeds (w ++ (10 ∷ rest)) ≡ (w ++ (10 ∷ [])) ∷ lines_with_feeds rest → (v : Bool) → not v ≡ true
        → cond v ((c ∷ []) ∷ lines_with_feeds (w ++ (10 ∷ rest))) (onto_line c (lines_with_feeds (w ++ (10 ∷ rest)))) ≡ (c ∷ (w ++ (10 ∷ []))) ∷ lines_with_feeds rest
    cases e true h = absurd (no h)
      where
        no : false ≡ true → ⊥
        no h = cc
    cases e false h = ap (onto_line c) e

pub clean-append : (xs ys : List ℕ) → are_clean xs ≡ true → are_clean ys ≡ true → are_clean (xs ++ ys) ≡ true
clean-append [] ys h k = k
clean-append (x ∷ xs) ys h k = let p = and_parts (is_clean x) (are_clean xs) h in and (is_clean x) (are_clean (xs ++ ys)) p.0 (clean-append xs ys p.1 k)

-- hex digits, and what stands past them
digit_clean : (n : ℕ) → is_clean (slice_index lower_digits n) ≡ true
digit_clean zero = refl
digit_clean (suc zero) = refl
digit_clean (suc (suc zero)) = refl
digit_clean (suc (suc (suc zero))) = refl
digit_clean (suc (suc (suc (suc zero)))) = refl
digit_clean (suc (suc (suc (suc (suc zero))))) = refl
digit_clean (suc (suc (suc (suc (suc (suc zero)))))) = refl
digit_clean (suc (suc (suc (suc (suc (suc (suc zero))))))) = refl
digit_clean (suc (suc (suc (suc (suc (suc (suc (suc zero)))))))) = refl
digit_clean (suc (suc (suc (suc (suc (suc (suc (suc (suc zero))))))))) = refl
digit_clean (suc (suc (suc (suc (suc (suc (suc (suc (suc (suc zero)))))))))) = refl
digit_clean (suc (suc (suc (suc (suc (suc (suc (suc (suc (suc (suc zero))))))))))) = refl
digit_clean (suc (suc (suc (suc (suc (suc (suc (suc (suc (suc (suc (suc zero)))))))))))) = refl
digit_clean (suc (suc (suc (suc (suc (suc (suc (suc (suc (suc (suc (suc (suc zero))))))))))))) = refl
digit_clean (suc (suc (suc (suc (suc (suc (suc (suc (suc (suc (suc (suc (suc (suc zero)))))))))))))) = refl
digit_clean (suc (suc (suc (suc (suc (suc (suc (suc (suc (suc (suc (suc (suc (suc (suc zero))))))))))))))) = refl
digit_clean (suc (suc (suc (suc (suc (suc (suc (suc (suc (suc (suc (suc (suc (suc (suc (suc n)))))))))))))))) = refl

three : (a b c : Bool) → a ≡ true → b ≡ true → c ≡ true → (a && (b && c)) ≡ true
three a b c h k l = rw (h, k, l) refl

encoded_clean : (xs : List ℕ) → are_clean (encode_lower xs) ≡ true
unfolding encode_with
encoded_clean [] = refl
encoded_clean (x ∷ xs) = three _ _ _ (digit_clean (x / 16)) (digit_clean (x % 16)) (encoded_clean xs)

pub hex_clean : (xs : List ℕ) → are_clean (hex_word xs) ≡ true
hex_clean [] = refl
hex_clean (x ∷ xs) = encoded_clean (x ∷ xs)

pub flags_clean : (flags : ℕ) → are_clean (encode_lower (flags ∷ [])) ≡ true
flags_clean flags = encoded_clean (flags ∷ [])

pub decimal_clean : (n : ℕ) → n < 2 ^ 64 → are_clean (decimal n) ≡ true
decimal_clean n fits =
    decimal_by_steps (λ n ds. are_clean ds ≡ true) (λ n small. clean-cons (48 + n) [] (omega arith) refl)
    (λ n ds large rest. clean-append ds ((48 + n % 10) ∷ []) rest (clean-cons (48 + n % 10) [] (omega arith) refl)) n fits

nibble_clean : (n : ℕ) → are_clean (nibble_text n) ≡ true
nibble_clean n = cases (nat_lt n 10)
  where
    cases : (v : Bool) → are_clean (cond v (48 + n) (87 + n) ∷ []) ≡ true
    cases true = clean-cons (48 + n) [] (omega arith) refl
    cases false = clean-cons (87 + n) [] (omega arith) refl

pub phys_clean : (p : Phys) → are_clean (phys_text p) ≡ true
phys_clean p =
    let dot : are_clean (codes ".") ≡ true = refl in
    let d = nibble_clean (p.low % 16) in
    let c = clean-append (nibble_text (p.low / 16)) (codes "." ++ nibble_text (p.low % 16)) (nibble_clean (p.low / 16)) (clean-append (codes ".") (nibble_text (p.low % 16)) dot d) in
    let b = clean-append (nibble_text (p.high % 16)) (codes "." ++ nibble_text (p.low / 16) ++ codes "." ++ nibble_text (p.low % 16)) (nibble_clean (p.high % 16))
    (clean-append (codes ".") (nibble_text (p.low / 16) ++ codes "." ++ nibble_text (p.low % 16)) dot c) in
    clean-append (nibble_text (p.high / 16)) (codes "." ++ nibble_text (p.high % 16) ++ codes "." ++ nibble_text (p.low / 16) ++ codes "." ++ nibble_text (p.low % 16)) (nibble_clean (p.high / 16))
    (clean-append (codes ".") (nibble_text (p.high % 16) ++ codes "." ++ nibble_text (p.low / 16) ++ codes "." ++ nibble_text (p.low % 16)) dot b)

pub word_clean : (w : Keyword) → are_clean (word_text w) ≡ true
word_clean Edid = refl
word_clean Maker = refl
word_clean Product = refl
word_clean Serial = refl
word_clean Made = refl
word_clean Input = refl
word_clean Size = refl
word_clean Gamma = refl
word_clean Features = refl
word_clean Chroma = refl
word_clean Established = refl
word_clean Standard = refl
word_clean Timing = refl
word_clean Name = refl
word_clean Text = refl
word_clean SerialText = refl
word_clean Range = refl
word_clean Dummy = refl
word_clean Raw = refl
word_clean Cta = refl
word_clean CtaNone = refl
word_clean (Block Tag0) = refl
word_clean (Block Audio) = refl
word_clean (Block Video) = refl
word_clean (Block Vendor) = refl
word_clean (Block Speakers) = refl
word_clean (Block Tag5) = refl
word_clean (Block Tag6) = refl
word_clean (Block Extended) = refl
word_clean Hdmi = refl
word_clean Tail = refl
word_clean Ext = refl

clean_feed : (xs : List ℕ) → are_clean xs ≡ true → has_no_feed xs ≡ true
clean_feed [] h = refl
clean_feed (x ∷ xs) h =
    let p = and_parts (is_clean x) (are_clean xs) h in
    and (not (x == 10)) (has_no_feed xs) (and_parts _ _ (and_parts (not (x == 10) && not (x == 32)) (not (x == 34)) p.0).0).0 (clean_feed xs p.1)

feed-append : (xs ys : List ℕ) → has_no_feed xs ≡ true → has_no_feed ys ≡ true → has_no_feed (xs ++ ys) ≡ true
feed-append [] ys h k = k
feed-append (x ∷ xs) ys h k = let p = and_parts (not (x == 10)) (has_no_feed xs) h in and (not (x == 10)) (has_no_feed (xs ++ ys)) p.0 (feed-append xs ys p.1 k)

pub number_fits : (n : ℕ) (ns : List ℕ) → are_numbers (n ∷ ns) ≡ true → (n < 2 ^ 64) × (are_numbers ns ≡ true)
number_fits n ns h =
    let p = and_parts (nat_lt n (2 ^ 32)) (are_numbers ns) h in
    let less = ltb-true _ _ p.0 in
    (omega (arith, less), p.1)

numbers_feed : (ns : List ℕ) → are_numbers ns ≡ true → has_no_feed (flat_map number_text ns) ≡ true
numbers_feed [] h = refl
numbers_feed (n ∷ ns) h =
    let p = number_fits n ns h in
    feed-append (decimal n) (flat_map number_text ns) (clean_feed (decimal n) (decimal_clean n p.0)) (numbers_feed ns p.1)

-- the fields of a line
fields_feed : (form : LineContent) (f : Fields) → FormedFields form f → PlainFields f → has_no_feed (fields_text f) ≡ true
fields_feed form Nothing h k = refl
fields_feed form (Letters letters) h k = clean_feed letters.items k
fields_feed form (Bytes bytes) h k = clean_feed (hex_word bytes.items) (hex_clean bytes.items)
fields_feed form (Address p bytes) h k =
    feed-append (phys_text p) (32 ∷ hex_word bytes.items) (clean_feed (phys_text p) (phys_clean p)) (clean_feed (hex_word bytes.items) (hex_clean bytes.items))
fields_feed form (Quoted chars) h k = feed-append chars.items (34 ∷ []) k refl
fields_feed form (Numbers numbers) h k = numbers_feed numbers.items (fits form h)
  where
    fits : (form : LineContent) → FormedFields form (Numbers numbers) → are_numbers numbers.items ≡ true
    fits One h = h.1
    fits Two h = h.1
    fits Eight h = h.1
    fits Unused h = h.1
    fits Empty h = absurd h
    fits Three h = absurd h
    fits OfTiming h = absurd h
    fits Hex h = absurd h
    fits OfAddress h = absurd h
    fits OfQuoted h = absurd h
fields_feed form (Timed numbers flags) h k =
    feed-append (flat_map number_text numbers.items) (32 ∷ encode_lower (flags ∷ [])) (numbers_feed numbers.items (fits form h)) (clean_feed (encode_lower (flags ∷ [])) (flags_clean flags))
  where
    fits : (form : LineContent) → FormedFields form (Timed numbers flags) → are_numbers numbers.items ≡ true
    fits OfTiming h = h.0.1
    fits One h = absurd h
    fits Two h = absurd h
    fits Eight h = absurd h
    fits Unused h = absurd h
    fits Empty h = absurd h
    fits Three h = absurd h
    fits Hex h = absurd h
    fits OfAddress h = absurd h
    fits OfQuoted h = absurd h

pub one_line_of : (l : Line) (rest : List ℕ) → Good l → lines_with_feeds (line_text l ++ rest) ≡ line_text l ∷ lines_with_feeds rest
one_line_of l rest h =
    let w = word_text l.word ++ fields_text l.fields in
    let ok = feed-append (word_text l.word) (fields_text l.fields) (clean_feed (word_text l.word) (word_clean l.word)) (fields_feed (form_of l.word) l.fields h.0 h.1) in
    let whole : w ++ (10 ∷ []) ≡ line_text l = append_assoc (word_text l.word) (fields_text l.fields) (10 ∷ []) in
    let more : w ++ (10 ∷ rest) ≡ line_text l ++ rest = sym (append_assoc w (10 ∷ []) rest) ∙ ap (λ x. x ++ rest) whole in
    ap lines_with_feeds (sym more) ∙ line_split w rest ok ∙ ap (λ x. x ∷ lines_with_feeds rest) whole

pub lines_again : (ls : List Line) → EachGood ls → lines_with_feeds (flat_map line_text ls) ≡ map line_text ls
lines_again [] h = refl
lines_again (l ∷ ls) h = one_line_of l (flat_map line_text ls) h.0 ∙ ap (λ x. line_text l ∷ x) (lines_again ls h.1)

are_lines : (ls : List Line) → EachGood ls → AreLines ls
are_lines [] h = tt
are_lines (l ∷ ls) h = (λ rest. one_line_of l rest h.0, are_lines ls h.1)

pub edid_are_lines : (e : WholeEdid) → AreLines (edid_lines e)
edid_are_lines e = are_lines (edid_lines e) (edid_good e)
