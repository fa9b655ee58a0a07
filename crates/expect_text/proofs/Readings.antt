-- What the line of a reading says is a text of the parts of a line.
use Rattle.std.proofs.Common.{◌≡◌, ℕ, zero, suc, ◌+◌, ◌-◌, ◌/◌, ◌%◌, ◌<◌, ◌≤◌, ◌==◌, nat_lt, nat_le, ◌&&◌, ◌⊎◌, inl, inr, Bool, true, false, if◌then◌else◌, codes, length, take, drop, List, [], ◌∷◌, ◌++◌, Option, Some, None, is_some, refl, sym, ap, subst, ◌∙◌, arith, rules, slice_get, true≢false}
use Rattle.std.proofs.lemmas.Bool.{cases_lt}
use Rattle.std.specs.Prelude.{find, option_map, unwrap_or, decimal}
use Rattle.std.specs.List.{flat_map, list_all}
use Rattle.std.proofs.lemmas.Grind.{common_steps}
use Rattle.std.proofs.lemmas.List.{append_assoc}
use Rattle.std.proofs.lemmas.Fmt.{decimal_digit, decimal_step}
use Rattle.line_frames.specs.declared.Ending.{Ending}
use Rattle.text_core.specs.Bytes.{are_bytes}
use Rattle.text_core.specs.Piece.{hex_text, nibble_text}
use Rattle.message_table.specs.Operands.{size_of}
use Rattle.message_table.specs.Table.{operands_of}
use Rattle.message_table.specs.WordSets.{NamedByte, word_of, words_of}
use Rattle.message_table.specs.declared.operand.Operand.{Operand}
use Rattle.message_table.specs.declared.operand.Operand.TheVariants as operand
use Rattle.message_table.specs.declared.operand.Operands.{Operands}
use Rattle.message_table.specs.declared.operand.Operands.TheVariants as operands
use Rattle.message_table.specs.declared.word_set.WordSet.{WordSet}
use Rattle.message_text.specs.FrameText.{frame_text, header_text, is_letter, is_text, is_text_byte, opcode_text, operand_word, operand_words, operands_text, quoted_text, raw_text, spaced_word, with_both}
use Rattle.message_text.specs.FrameReading.{is_frame}
use Rattle.message_text.specs.ReadingText.{bits_text, verdict_by}
use Rattle.expect_text.specs.Parts.{IsEnd, IsTextBefore, IsTextOf, has, has_word}
use Rattle.expect_text.specs.Bits.{FitsEnding}
use Rattle.expect_text.specs.Said.{IsSaid, bits_said, frame_said, ending_word, endings_of, header_parts, hex_parts, literal, opcode_parts, operand_parts, operands_parts, quoted_parts, quoted_up_to, raw_but, raw_from, raw_parts, repeat, spoilt_at, spoilt_from, spoilt_operand, spoilt_parts, unworded_parts, verdict_parts, volume_parts, worded_parts}
use Rattle.expect_text.specs.Senders.{IsTail, Judged}
use Rattle.expect_text.specs.declared.part.PatternPart.{PatternPart}
use Rattle.expect_text.specs.declared.part.PatternPart.TheVariants.{Byte, One, Many, Word, Unworded, Opcode}
use Rattle.expect_text.specs.declared.part.Worded.{Worded as Kinds}
use Rattle.expect_text.specs.declared.part.Worded.TheVariants.{Listed, Character, Quoted, Loudness}
use Rattle.expect_text.specs.declared.part.Class.TheVariants.{Hex, Directed, Digit, NonZero, Quotable}
use Rattle.expect_text.proofs.Meeting.{append_none}
use Rattle.expect_text.proofs.Spelling.{BitsBefore, IsSpelled}
use Rattle.expect_text.proofs.Sending.{a_digit, a_nonzero, decimal_two}
use Rattle.expect_text.proofs.Truth.{and_both, first_of, second_of}

-- ---- parts

-- one text after another
module _ (Rest : List ℕ → Type 0) where
  pub texts_after : (xs ys : List PatternPart) (t u : List ℕ) → IsTextOf xs t → IsTextBefore Rest ys u → IsTextBefore Rest (xs ++ ys) (t ++ u)
  texts_after [] ys t u s r = subst (λ (x : List ℕ). IsTextBefore Rest ys (x ++ u)) (sym s) r
  texts_after (Byte b ∷ xs) ys t u s r = (s.0 ++ u, ap (λ (x : List ℕ). x ++ u) s.1, texts_after xs ys s.0 u s.2 r)
  texts_after (One class ∷ xs) ys t u s r = (s.0, s.1 ++ u, s.2, ap (λ (x : List ℕ). x ++ u) s.3, texts_after xs ys s.1 u s.4 r)
  texts_after (Many class ∷ xs) ys t u s r = (s.0, s.1 ++ u, s.2, ap (λ (x : List ℕ). x ++ u) s.3 ∙ append_assoc s.0 s.1 u, texts_after xs ys s.1 u s.4 r)
  texts_after (Word set ∷ xs) ys t u s r = (s.0, s.1, s.2 ++ u, s.3, ap (λ (x : List ℕ). x ++ u) s.4 ∙ append_assoc s.1.text s.2 u, texts_after xs ys s.2 u s.5 r)
  texts_after (Unworded kind ∷ xs) ys t u s r = (s.0, s.1 ++ u, s.2, s.3, ap (λ (x : List ℕ). x ++ u) s.4 ∙ append_assoc (hex_text s.0) s.1 u, texts_after xs ys s.1 u s.5 r)
  texts_after (Opcode code ∷ xs) ys t u s r = (s.0 ++ u, ap (λ (x : List ℕ). x ++ u) s.1 ∙ append_assoc (opcode_text code) s.0 u, texts_after xs ys s.0 u s.2 r)

  literal_before : (text u : List ℕ) → Rest u → IsTextBefore Rest (literal text) (text ++ u)
  literal_before [] u r = r
  literal_before (b ∷ bs) u r = (bs ++ u, refl, literal_before bs u r)

joined : (xs ys : List PatternPart) (t u : List ℕ) → IsTextOf xs t → IsTextOf ys u → IsTextOf (xs ++ ys) (t ++ u)
joined = texts_after IsEnd

pub literal_is : (text : List ℕ) → IsTextOf (literal text) text
literal_is [] = refl
literal_is (b ∷ bs) = (bs, refl, literal_is bs)

pub some_is : (x y : List ℕ) → Some x ≡ Some y → x ≡ y
some_is x y e = search rules

-- ---- hex digits

abbrev pub digit : ℕ → ℕ
digit n = if nat_lt n 10 then 48 + n else 87 + n

pub hex_digit : (n : ℕ) → n < 16 → has Hex (digit n) ≡ true
hex_digit n l = by (nat_lt n 10) refl
  where
    by : (c : Bool) → nat_lt n 10 ≡ c → has Hex (if c then 48 + n else 87 + n) ≡ true
    by true h = grind (arith, common_steps)
    by false h = grind (arith, common_steps)

directed_digit : (n : ℕ) → n < 15 → has Directed (digit n) ≡ true
directed_digit n l = by (nat_lt n 10) refl
  where
    by : (c : Bool) → nat_lt n 10 ≡ c → has Directed (if c then 48 + n else 87 + n) ≡ true
    by true h = grind (arith, common_steps)
    by false h = grind (arith, common_steps)

pub high : (b : ℕ) → nat_lt b 256 ≡ true → b / 16 < 16
high b h = grind (arith, common_steps)

pub low : (b : ℕ) → b % 16 < 16
low b = grind (arith, common_steps)

-- two hex digits before other parts
pub two_digits : (parts : List PatternPart) (b : ℕ) (more : List ℕ) → nat_lt b 256 ≡ true → IsTextOf parts more → IsTextOf (One Hex ∷ One Hex ∷ parts) (hex_text b ++ more)
two_digits parts b more h t = (digit (b / 16), digit (b % 16) ∷ more, hex_digit (b / 16) (high b h), refl, (digit (b % 16), more, hex_digit (b % 16) (low b), refl, t))

pub all_hex : (xs : List ℕ) → are_bytes xs ≡ true → list_all (has Hex) (flat_map hex_text xs) ≡ true
all_hex [] h = refl
all_hex (b ∷ bs) h =
    and_both (has Hex (digit (b / 16))) (has Hex (digit (b % 16)) && list_all (has Hex) (flat_map hex_text bs)) (hex_digit (b / 16) (high b (first_of (nat_lt b 256) (are_bytes bs) h)))
    (and_both (has Hex (digit (b % 16))) (list_all (has Hex) (flat_map hex_text bs)) (hex_digit (b % 16) (low b)) (all_hex bs (second_of (nat_lt b 256) (are_bytes bs) h)))

-- ---- headers

header_is : (header : ℕ) → nat_lt header 256 ≡ true → IsTextOf (header_parts (header % 16 == 15)) (header_text header)
unfolding header_parts
header_is header h = (digit (header / 16), 62 ∷ nibble_text (header % 16), hex_digit (header / 16) (high header h), refl, (nibble_text (header % 16), refl, by (header % 16 == 15) refl))
  where
    by : (c : Bool) → (header % 16 == 15) ≡ c → IsTextOf ((if c then Byte 102 else One Directed) ∷ []) (nibble_text (header % 16))
    by true e = let same : header % 16 ≡ 15 = grind (arith, common_steps) in ([], ap nibble_text same, refl)
    by false e = let less : header % 16 < 15 = grind (arith, common_steps) in (digit (header % 16), [], directed_digit (header % 16) less, refl, refl)

-- ---- words of sets

-- the word of a byte stands in its set
word_at : (words : List NamedByte) (byte : ℕ) (text : List ℕ) → word_of words byte ≡ Some text → (place : ℕ) × (w : NamedByte) × (slice_get words place ≡ Some w) × (text ≡ w.text)
word_at [] byte text e = cc
word_at (w ∷ words) byte text e = by (w.code == byte) e (word_at words byte text)
  where
    by : (c : Bool) → option_map (λ (w : NamedByte). w.text) (if c then Some w else find (λ (w : NamedByte). w.code == byte) words) ≡ Some text
        → (word_of words byte ≡ Some text → (place : ℕ) × (w : NamedByte) × (slice_get words place ≡ Some w) × (text ≡ w.text))
        → (place : ℕ) × (v : NamedByte) × (slice_get (w ∷ words) place ≡ Some v) × (text ≡ v.text)
    by true k later = (0, w, refl, sym (some_is w.text text k))
    by false k later = let r = later k in (suc r.0, r.1, r.2, r.3)

-- a word of a set after a space, before other parts
word_before : (set : WordSet) (byte : ℕ) (parts : List PatternPart) (t more : List ℕ) → spaced_word set byte ≡ Some t → IsTextOf parts more → IsTextOf (Byte 32 ∷ Word set ∷ parts) (t ++ more)
word_before set byte parts t more e r = by (word_of (words_of set) byte) refl e
  where
    by : (o : Option (List ℕ)) → word_of (words_of set) byte ≡ o → option_map (λ (w : List ℕ). 32 ∷ w) o ≡ Some t → IsTextOf (Byte 32 ∷ Word set ∷ parts) (t ++ more)
    by None k h = cc
    by (Some w) k h =
        let found = word_at (words_of set) byte w k in
        let same : t ≡ 32 ∷ w = sym (some_is (32 ∷ w) t h) in
        (w ++ more, ap (λ (x : List ℕ). x ++ more) same, (found.0, found.1, more, found.2, ap (λ (x : List ℕ). x ++ more) found.3, r))

-- ---- operands

pub none_some : {T : Type 0} (t : List ℕ) → None ≡ Some t → T
none_some t e = cc

language_is : (a b c : ℕ) (t : List ℕ) → (if is_letter a && is_letter b && is_letter c then Some (32 ∷ a ∷ b ∷ c ∷ []) else None) ≡ Some t → IsTextOf (operand_parts operand.Language) t
language_is a b c t e = by (is_letter a && is_letter b && is_letter c) refl e
  where
    by : (v : Bool) → (is_letter a && is_letter b && is_letter c) ≡ v → (if v then Some (32 ∷ a ∷ b ∷ c ∷ []) else None) ≡ Some t → IsTextOf (operand_parts operand.Language) t
    by true h k =
        let first : is_letter a ≡ true = grind (arith, common_steps) in
        let second : is_letter b ≡ true = grind (arith, common_steps) in
        let third : is_letter c ≡ true = grind (arith, common_steps) in
        (a ∷ b ∷ c ∷ [], sym (some_is (32 ∷ a ∷ b ∷ c ∷ []) t k), (a, b ∷ c ∷ [], first, refl, (b, c ∷ [], second, refl, (c, [], third, refl, refl))))
    by false h k = none_some t k

operand_is : (o : Operand) (xs t : List ℕ) → are_bytes xs ≡ true → operand_word o xs ≡ Some t → IsTextOf (operand_parts o) t
operand_is operand.Byte [] t h e = none_some t e
operand_is operand.Byte (b ∷ []) t h e =
    (hex_text b, sym (some_is (32 ∷ hex_text b) t e), two_digits [] b [] (first_of (nat_lt b 256) true h) refl)
operand_is operand.Byte (b ∷ c ∷ xs) t h e = none_some t e
operand_is (operand.Word set) [] t h e = none_some t e
operand_is (operand.Word set) (b ∷ []) t h e = subst (IsTextOf (Byte 32 ∷ Word set ∷ [])) (append_none t) (word_before set b [] t [] e refl)
operand_is (operand.Word set) (b ∷ c ∷ xs) t h e = none_some t e
operand_is operand.Language [] t h e = none_some t e
operand_is operand.Language (a ∷ []) t h e = none_some t e
operand_is operand.Language (a ∷ b ∷ []) t h e = none_some t e
operand_is operand.Language (a ∷ b ∷ c ∷ []) t h e = language_is a b c t e
operand_is operand.Language (a ∷ b ∷ c ∷ d ∷ xs) t h e = none_some t e
operand_is operand.Vendor [] t h e = none_some t e
operand_is operand.Vendor (a ∷ []) t h e = none_some t e
operand_is operand.Vendor (a ∷ b ∷ []) t h e = none_some t e
operand_is operand.Vendor (a ∷ b ∷ c ∷ []) t h e =
    let first : nat_lt a 256 ≡ true = grind (arith, common_steps) in
    let second : nat_lt b 256 ≡ true = grind (arith, common_steps) in
    let third : nat_lt c 256 ≡ true = grind (arith, common_steps) in (
      hex_text a ++ (hex_text b ++ hex_text c),
      sym (some_is (32 ∷ hex_text a ++ hex_text b ++ hex_text c) t e),
      two_digits (One Hex ∷ One Hex ∷ One Hex ∷ One Hex ∷ []) a (hex_text b ++ hex_text c) first (two_digits (One Hex ∷ One Hex ∷ []) b (hex_text c) second (two_digits [] c [] third refl)),
    )
operand_is operand.Vendor (a ∷ b ∷ c ∷ d ∷ xs) t h e = none_some t e
operand_is operand.Address [] t h e = none_some t e
operand_is operand.Address (a ∷ []) t h e = none_some t e
operand_is operand.Address (a ∷ b ∷ []) t h e =
    let first : nat_lt a 256 ≡ true = grind (arith, common_steps) in
    let second : nat_lt b 256 ≡ true = grind (arith, common_steps) in (
      digit (a / 16) ∷ 46 ∷ digit (a % 16) ∷ 46 ∷ digit (b / 16) ∷ 46 ∷ digit (b % 16) ∷ [],
      sym (some_is _ t e),
      (
        digit (a / 16),
        46 ∷ digit (a % 16) ∷ 46 ∷ digit (b / 16) ∷ 46 ∷ digit (b % 16) ∷ [],
        hex_digit (a / 16) (high a first),
        refl,
        (
          digit (a % 16) ∷ 46 ∷ digit (b / 16) ∷ 46 ∷ digit (b % 16) ∷ [],
          refl,
          (
            digit (a % 16),
            46 ∷ digit (b / 16) ∷ 46 ∷ digit (b % 16) ∷ [],
            hex_digit (a % 16) (low a),
            refl,
            (
              digit (b / 16) ∷ 46 ∷ digit (b % 16) ∷ [],
              refl,
              (
                digit (b / 16),
                46 ∷ digit (b % 16) ∷ [],
                hex_digit (b / 16) (high b second),
                refl,
                (digit (b % 16) ∷ [], refl, (digit (b % 16), [], hex_digit (b % 16) (low b), refl, refl)),
              ),
            ),
          ),
        ),
      ),
    )
operand_is operand.Address (a ∷ b ∷ c ∷ xs) t h e = none_some t e

-- ---- rows of operands

-- one of these lists of parts has the text
abbrev pub Among : List (List PatternPart) → List ℕ → Type 0
Among lists t = (place : ℕ) × (parts : List PatternPart) × (slice_get lists place ≡ Some parts) × IsTextOf parts t

among_first : (parts : List PatternPart) (lists : List (List PatternPart)) (t : List ℕ) → IsTextOf parts t → Among (parts ∷ lists) t
among_first parts lists t is = (0, parts, refl, is)

among_next : (parts : List PatternPart) (lists : List (List PatternPart)) (t : List ℕ) → Among lists t → Among (parts ∷ lists) t
among_next parts lists t r = (suc r.0, r.1, r.2, r.3)

among_left : (xs ys : List (List PatternPart)) (t : List ℕ) → Among xs t → Among (xs ++ ys) t
among_left [] ys t (place, parts, e, is) = cc
among_left (x ∷ xs) ys t (zero, parts, e, is) = (zero, parts, e, is)
among_left (x ∷ xs) ys t (suc place, parts, e, is) = among_next x (xs ++ ys) t (among_left xs ys t (place, parts, e, is))

among_right : (xs ys : List (List PatternPart)) (t : List ℕ) → Among ys t → Among (xs ++ ys) t
among_right [] ys t r = r
among_right (x ∷ xs) ys t r = among_next x (xs ++ ys) t (among_right xs ys t r)

bytes_taken : (n : ℕ) (xs : List ℕ) → are_bytes xs ≡ true → are_bytes (take n xs) ≡ true
bytes_taken zero xs h = refl
bytes_taken (suc n) [] h = refl
bytes_taken (suc n) (x ∷ xs) h = and_both (nat_lt x 256) (are_bytes (take n xs)) (first_of (nat_lt x 256) (are_bytes xs) h) (bytes_taken n xs (second_of (nat_lt x 256) (are_bytes xs) h))

bytes_left : (n : ℕ) (xs : List ℕ) → are_bytes xs ≡ true → are_bytes (drop n xs) ≡ true
bytes_left zero xs h = h
bytes_left (suc n) [] h = refl
bytes_left (suc n) (x ∷ xs) h = bytes_left n xs (second_of (nat_lt x 256) (are_bytes xs) h)

both_are : (o p : Option (List ℕ)) (t : List ℕ) → with_both o p ≡ Some t → (x y : List ℕ) × (o ≡ Some x) × (p ≡ Some y) × (t ≡ x ++ y)
both_are None p t e = none_some t e
both_are (Some x) None t e = none_some t e
both_are (Some x) (Some y) t e = (x, y, refl, refl, sym (some_is (x ++ y) t e))

-- a text in quotes
chars_are : (xs : List ℕ) → list_all is_text_byte xs ≡ true → IsTextOf (repeat (length xs) (One Quotable) ++ Byte 34 ∷ []) (xs ++ 34 ∷ [])
chars_are [] h = ([], refl, refl)
chars_are (x ∷ xs) h = (x, xs ++ 34 ∷ [], first_of (is_text_byte x) (list_all is_text_byte xs) h, refl, chars_are xs (second_of (is_text_byte x) (list_all is_text_byte xs) h))

quoted_is : (xs : List ℕ) → list_all is_text_byte xs ≡ true → IsTextOf (quoted_parts (length xs)) (quoted_text xs)
unfolding quoted_parts
quoted_is xs h = (34 ∷ xs ++ 34 ∷ [], refl, (xs ++ 34 ∷ [], refl, chars_are xs h))

quoted_among : (front : List PatternPart) (most n : ℕ) (t : List ℕ) → 1 ≤ n → n ≤ most → IsTextOf (front ++ quoted_parts n) t → Among (quoted_up_to front most) t
quoted_among front zero n t least high is = absurd (omega (arith, least, high))
quoted_among front (suc most) n t least high is = by (cases_lt n (suc most)) (λ less. quoted_among front most n t least (omega (arith, less)) is)
  where
    by : (n < suc most) ⊎ (suc most ≤ n) → (n < suc most → Among (quoted_up_to front most) t) → Among (quoted_up_to front (suc most)) t
    by (inl less) later = among_next (front ++ quoted_parts (suc most)) (quoted_up_to front most) t (later less)
    by (inr all) later =
        let same : n ≡ suc most = omega (arith, all, high) in
        among_first (front ++ quoted_parts (suc most)) (quoted_up_to front most) t (subst (λ (k : ℕ). IsTextOf (front ++ quoted_parts k) t) same is)

-- ---- how loud

pub decimal_hundred : (n : ℕ) → n ≡ 100 → decimal n ≡ 49 ∷ 48 ∷ 48 ∷ []
decimal_hundred n e = rw e (decimal_step 100 (omega arith) (omega arith) ∙ ap (λ xs. xs ++ 48 ∷ []) (decimal_two 10 (omega arith) (omega arith)))

loud_is : (word : List ℕ) (n : ℕ) → n ≤ 100 → Among (volume_parts word) (word ++ decimal n)
loud_is word n most = by (cases_lt n 10) (cases_lt n 100)
  where
    by : (n < 10) ⊎ (10 ≤ n) → (n < 100) ⊎ (100 ≤ n) → Among (volume_parts word) (word ++ decimal n)
    by (inl less) other = (
      0,
      literal word ++ One Digit ∷ [],
      refl,
      joined (literal word) (One Digit ∷ []) word (decimal n) (literal_is word) (48 + n, [], a_digit n less, decimal_digit n less, refl),
    )
    by (inr two) (inl less) = (
      1,
      literal word ++ One NonZero ∷ One Digit ∷ [],
      refl,
      joined (literal word) (One NonZero ∷ One Digit ∷ []) word (decimal n) (literal_is word)
          (48 + n / 10, (48 + n % 10) ∷ [], a_nonzero (n / 10) (omega (arith, two)) (omega (arith, less)), decimal_two n two less, (48 + n % 10, [], a_digit (n % 10) (omega arith), refl, refl)),
    )
    by (inr two) (inr more) =
        let same : n ≡ 100 = omega (arith, more, most) in (
          2,
          literal word ++ literal (codes "100"),
          refl,
          joined (literal word) (literal (codes "100")) word (decimal n) (literal_is word) (subst (IsTextOf (literal (codes "100"))) (sym (decimal_hundred n same)) (literal_is (codes "100"))),
        )

abbrev Worded : Operands → List ℕ → Type 0
Worded form t = Among (worded_parts form) t

volume_is : (status : ℕ) (t : List ℕ) → operand_words operands.Volume (status ∷ []) ≡ Some t → Worded operands.Volume t
volume_is status t e = by (nat_le (status % 128) 100) refl (nat_le 128 status) e
  where
    few : nat_le (status % 128) 100 ≡ true → status % 128 ≤ 100
    few h = grind (arith, common_steps)

    by : (c : Bool) → nat_le (status % 128) 100 ≡ c → (muted : Bool)
        → (if c then Some ((if muted then codes " mute " else codes " sound ") ++ decimal (status % 128)) else None) ≡ Some t → Worded operands.Volume t
    by true h true k = among_left (volume_parts (codes " mute ")) (volume_parts (codes " sound ")) t
        (subst (Among (volume_parts (codes " mute "))) (some_is (codes " mute " ++ decimal (status % 128)) t k) (loud_is (codes " mute ") (status % 128) (few h)))
    by true h false k = among_right (volume_parts (codes " mute ")) (volume_parts (codes " sound ")) t
        (subst (Among (volume_parts (codes " sound "))) (some_is (codes " sound " ++ decimal (status % 128)) t k) (loud_is (codes " sound ") (status % 128) (few h)))
    by false h muted k = none_some t k

at_least : (n m : ℕ) → nat_le n m ≡ true → n ≤ m
at_least n m h = grind (arith, common_steps)

text_is : (xs t : List ℕ) → operand_words operands.Text xs ≡ Some t → Worded operands.Text t
text_is xs t e = by (nat_le 1 (length xs)) (nat_le (length xs) 14) (list_all is_text_byte xs) refl refl refl e
  where
    by : (some few plain : Bool) → nat_le 1 (length xs) ≡ some → nat_le (length xs) 14 ≡ few → list_all is_text_byte xs ≡ plain
        → (if some && few && plain then Some (quoted_text xs) else None) ≡ Some t → Worded operands.Text t
    by true true true l m h k = quoted_among [] 14 (length xs) t (at_least 1 (length xs) l) (at_least (length xs) 14 m) (subst (IsTextOf (quoted_parts (length xs))) (some_is (quoted_text xs) t k) (quoted_is xs h))
    by true true false l m h k = none_some t k
    by true false plain l m h k = none_some t k
    by false few plain l m h k = none_some t k

-- a word and a text
both_is : (set : WordSet) (byte : ℕ) (xs t : List ℕ) → list_all is_text_byte xs ≡ true → option_map (λ (w : List ℕ). w ++ quoted_text xs) (spaced_word set byte) ≡ Some t
    → IsTextOf (Byte 32 ∷ Word set ∷ quoted_parts (length xs)) t
both_is set byte xs t h e = by (spaced_word set byte) refl e
  where
    by : (o : Option (List ℕ)) → spaced_word set byte ≡ o → option_map (λ (w : List ℕ). w ++ quoted_text xs) o ≡ Some t → IsTextOf (Byte 32 ∷ Word set ∷ quoted_parts (length xs)) t
    by None k m = none_some t m
    by (Some w) k m = subst (IsTextOf (Byte 32 ∷ Word set ∷ quoted_parts (length xs))) (some_is (w ++ quoted_text xs) t m) (word_before set byte (quoted_parts (length xs)) w (quoted_text xs) k (quoted_is xs h))

word_and_text_is : (set : WordSet) (byte x : ℕ) (xs t : List ℕ) → operand_words (operands.WordAndText set) (byte ∷ x ∷ xs) ≡ Some t → Worded (operands.WordAndText set) t
word_and_text_is set byte x xs t e = by (nat_le 1 (length (x ∷ xs))) (nat_le (length (x ∷ xs)) 13) (list_all is_text_byte (x ∷ xs)) refl refl refl e
  where
    by : (some few plain : Bool) → nat_le 1 (length (x ∷ xs)) ≡ some → nat_le (length (x ∷ xs)) 13 ≡ few → list_all is_text_byte (x ∷ xs) ≡ plain
        → (if some && few && plain then option_map (λ (w : List ℕ). w ++ quoted_text (x ∷ xs)) (spaced_word set byte) else None) ≡ Some t → Worded (operands.WordAndText set) t
    by true true true l m h k = among_next (Byte 32 ∷ Word set ∷ []) (quoted_up_to (Byte 32 ∷ Word set ∷ []) 13) t
        (quoted_among (Byte 32 ∷ Word set ∷ []) 13 (length (x ∷ xs)) t (at_least 1 (length (x ∷ xs)) l) (at_least (length (x ∷ xs)) 13 m) (both_is set byte (x ∷ xs) t h k))
    by true true false l m h k = none_some t k
    by true false plain l m h k = none_some t k
    by false few plain l m h k = none_some t k

worded : (form : Operands) (xs t : List ℕ) → are_bytes xs ≡ true → operand_words form xs ≡ Some t → Worded form t
worded operands.Raw xs t h e = none_some t e
worded operands.Nothing [] t h e = (0, [], refl, sym (some_is [] t e))
worded operands.Nothing (x ∷ xs) t h e = none_some t e
worded (operands.One only) xs t h e = (0, operand_parts only, refl, operand_is only xs t h e)
worded (operands.Optional only) [] t h e = (0, [], refl, sym (some_is [] t e))
worded (operands.Optional only) (x ∷ xs) t h e = (1, operand_parts only, refl, operand_is only (x ∷ xs) t h e)
worded (operands.Two first second) xs t h e =
    let both = both_are (operand_word first (take (size_of first) xs)) (operand_word second (drop (size_of first) xs)) t e in (
      0,
      operand_parts first ++ operand_parts second,
      refl,
      subst (IsTextOf (operand_parts first ++ operand_parts second)) (sym both.4)
          (joined (operand_parts first) (operand_parts second) both.0 both.1
          (operand_is first (take (size_of first) xs) both.0 (bytes_taken (size_of first) xs h) both.2)
          (operand_is second (drop (size_of first) xs) both.1 (bytes_left (size_of first) xs h) both.3)),
    )
worded operands.Volume [] t h e = none_some t e
worded operands.Volume (status ∷ []) t h e = volume_is status t e
worded operands.Volume (status ∷ x ∷ xs) t h e = none_some t e
worded operands.Text xs t h e = text_is xs t e
worded (operands.WordAndText set) [] t h e = none_some t e
worded (operands.WordAndText set) (byte ∷ []) t h e =
    (0, Byte 32 ∷ Word set ∷ [], refl, subst (IsTextOf (Byte 32 ∷ Word set ∷ [])) (append_none t) (word_before set byte [] t [] e refl))
worded (operands.WordAndText set) (byte ∷ x ∷ xs) t h e = word_and_text_is set byte x xs t e

-- ---- operands that do not fit their row

pub doubled : (n : ℕ) → suc n + suc n ≡ suc (suc (n + n))
doubled n = omega arith

hex_is : (xs : List ℕ) → are_bytes xs ≡ true → IsTextOf (hex_parts (length xs)) (flat_map hex_text xs)
hex_is [] h = refl
hex_is (b ∷ bs) h =
    subst (λ (k : ℕ). IsTextOf (repeat k (One Hex)) (flat_map hex_text (b ∷ bs))) (sym (doubled (length bs)))
    (two_digits (hex_parts (length bs)) b (flat_map hex_text bs) (first_of (nat_lt b 256) (are_bytes bs) h) (hex_is bs (second_of (nat_lt b 256) (are_bytes bs) h)))

raw_is : (xs : List ℕ) → are_bytes xs ≡ true → IsTextOf (raw_parts (length xs)) (raw_text xs)
unfolding raw_parts
raw_is xs h = (58 ∷ flat_map hex_text xs, refl, (flat_map hex_text xs, refl, hex_is xs h))

raw_among : (least count : ℕ) (xs : List ℕ) → are_bytes xs ≡ true → least ≤ length xs → length xs < least + count → Among (raw_from least count) (raw_text xs)
raw_among least zero xs h low high = absurd (omega (arith, low, high))
raw_among least (suc count) xs h low high = by (cases_lt least (length xs)) (λ less. raw_among (least + 1) count xs h (omega (arith, less)) (omega (arith, high)))
  where
    by : (least < length xs) ⊎ (length xs ≤ least) → (least < length xs → Among (raw_from (least + 1) count) (raw_text xs)) → Among (raw_from least (suc count)) (raw_text xs)
    by (inl less) later = among_next (raw_parts least) (raw_from (least + 1) count) (raw_text xs) (later less)
    by (inr more) later =
        let same : length xs ≡ least = omega (arith, more, low) in
        among_first (raw_parts least) (raw_from (least + 1) count) (raw_text xs) (subst (λ (k : ℕ). IsTextOf (raw_parts k) (raw_text xs)) same (raw_is xs h))

fewer : (n : ℕ) (xs : List ℕ) → are_bytes xs ≡ true → length xs < n → Among (raw_but n) (raw_text xs)
fewer n xs h less = among_left (raw_from 0 n) (raw_from (n + 1) (14 - n)) (raw_text xs) (raw_among 0 n xs h (omega arith) (omega (arith, less)))

more_than : (n : ℕ) (xs : List ℕ) → are_bytes xs ≡ true → n < length xs → length xs ≤ 14 → Among (raw_but n) (raw_text xs)
more_than n xs h less few = among_right (raw_from 0 n) (raw_from (n + 1) (14 - n)) (raw_text xs) (raw_among (n + 1) (14 - n) xs h (omega (arith, less)) (omega (arith, less, few)))

pub hex_joined : (xs ys : List ℕ) → flat_map hex_text (xs ++ ys) ≡ flat_map hex_text xs ++ flat_map hex_text ys
hex_joined [] ys = refl
hex_joined (x ∷ xs) ys = ap (λ (t : List ℕ). hex_text x ++ t) (hex_joined xs ys) ∙ sym (append_assoc (hex_text x) (flat_map hex_text xs) (flat_map hex_text ys))

-- a byte that has no word, between others
spoilt_is : (kind : Kinds) (front : List ℕ) (b : ℕ) (back : List ℕ) → are_bytes front ≡ true → nat_lt b 256 ≡ true → are_bytes back ≡ true → has_word kind b ≡ false
    → IsTextOf (spoilt_parts (length front) kind (length back)) (raw_text (front ++ b ∷ back))
unfolding spoilt_parts
spoilt_is kind front b back h k m none =
    let less : b < 256 = grind (arith, common_steps) in
    let digits = joined (hex_parts (length front)) (Unworded kind ∷ hex_parts (length back)) (flat_map hex_text front) (hex_text b ++ flat_map hex_text back) (hex_is front h)
    (b, flat_map hex_text back, less, none, refl, hex_is back m) in (
      58 ∷ flat_map hex_text (front ++ b ∷ back),
      refl,
      (
        flat_map hex_text (front ++ b ∷ back),
        refl,
        subst (IsTextOf (hex_parts (length front) ++ Unworded kind ∷ hex_parts (length back))) (sym (hex_joined front (b ∷ back))) digits,
      ),
    )

spoilt_at_among : (before : ℕ) (kind : Kinds) (count after : ℕ) (t : List ℕ) → after < count → IsTextOf (spoilt_parts before kind after) t → Among (spoilt_at before kind count) t
spoilt_at_among before kind zero after t less is = absurd (omega (arith, less))
spoilt_at_among before kind (suc count) after t less is = by (cases_lt after count) (λ low. spoilt_at_among before kind count after t low is)
  where
    by : (after < count) ⊎ (count ≤ after) → (after < count → Among (spoilt_at before kind count) t) → Among (spoilt_at before kind (suc count)) t
    by (inl low) later = among_next (spoilt_parts before kind count) (spoilt_at before kind count) t (later low)
    by (inr high) later =
        let same : after ≡ count = omega (arith, less, high) in
        among_first (spoilt_parts before kind count) (spoilt_at before kind count) t (subst (λ (k : ℕ). IsTextOf (spoilt_parts before kind k) t) same is)

spoilt_from_among : (before : ℕ) (kind : Kinds) (count place after : ℕ) (t : List ℕ) → before ≤ place → place + after < before + count → IsTextOf (spoilt_parts place kind after) t
    → Among (spoilt_from before kind count) t
spoilt_from_among before kind zero place after t low high is = absurd (omega (arith, low, high))
spoilt_from_among before kind (suc count) place after t low high is =
    by (cases_lt before place) (λ less. spoilt_from_among (before + 1) kind count place after t (omega (arith, less)) (omega (arith, high)) is)
  where
    by : (before < place) ⊎ (place ≤ before) → (before < place → Among (spoilt_from (before + 1) kind count) t) → Among (spoilt_from before kind (suc count)) t
    by (inl less) later = among_right (spoilt_at before kind (suc count)) (spoilt_from (before + 1) kind count) t (later less)
    by (inr more) later =
        let same : place ≡ before = omega (arith, low, more) in
        among_left (spoilt_at before kind (suc count)) (spoilt_from (before + 1) kind count) t
        (spoilt_at_among before kind (suc count) after t (omega (arith, high, same)) (subst (λ (k : ℕ). IsTextOf (spoilt_parts k kind after) t) same is))

-- a byte that is no character
abbrev HasBad : List ℕ → Type 0
HasBad xs = (front : List ℕ) × (b : ℕ) × (back : List ℕ) × (xs ≡ front ++ b ∷ back) × (is_text_byte b ≡ false)

a_bad : (xs : List ℕ) → list_all is_text_byte xs ≡ false → HasBad xs
a_bad [] h = absurd (true≢false h)
a_bad (x ∷ xs) h = by (is_text_byte x) refl h (a_bad xs)
  where
    by : (c : Bool) → is_text_byte x ≡ c → (c && list_all is_text_byte xs) ≡ false → (list_all is_text_byte xs ≡ false → HasBad xs) → HasBad (x ∷ xs)
    by true k m later = let r = later m in (x ∷ r.0, r.1, r.2, ap (λ (t : List ℕ). x ∷ t) r.3, r.4)
    by false k m later = ([], x, xs, refl, k)

front_bytes : (xs ys : List ℕ) → are_bytes (xs ++ ys) ≡ true → are_bytes xs ≡ true
front_bytes [] ys h = refl
front_bytes (x ∷ xs) ys h = and_both (nat_lt x 256) (are_bytes xs) (first_of (nat_lt x 256) (are_bytes (xs ++ ys)) h) (front_bytes xs ys (second_of (nat_lt x 256) (are_bytes (xs ++ ys)) h))

back_bytes : (xs ys : List ℕ) → are_bytes (xs ++ ys) ≡ true → are_bytes ys ≡ true
back_bytes [] ys h = h
back_bytes (x ∷ xs) ys h = back_bytes xs ys (second_of (nat_lt x 256) (are_bytes (xs ++ ys)) h)

pub both_bytes : (xs ys : List ℕ) → are_bytes xs ≡ true → are_bytes ys ≡ true → are_bytes (xs ++ ys) ≡ true
both_bytes [] ys h k = k
both_bytes (x ∷ xs) ys h k = and_both (nat_lt x 256) (are_bytes (xs ++ ys)) (first_of (nat_lt x 256) (are_bytes xs) h) (both_bytes xs ys (second_of (nat_lt x 256) (are_bytes xs) h) k)

pub long_front : (xs ys : List ℕ) → length (xs ++ ys) ≡ length xs + length ys
long_front [] ys = omega arith
long_front (x ∷ xs) ys = let more = long_front xs ys in omega (arith, more)

-- texts of at least so many bytes before, that are not all characters
bad_text : (front xs : List ℕ) (before count : ℕ) → are_bytes (front ++ xs) ≡ true → before ≤ length front → length (front ++ xs) ≤ before + count → list_all is_text_byte xs ≡ false
    → Among (spoilt_from before Quoted count) (raw_text (front ++ xs))
bad_text front xs before count h low few bad =
    let r = a_bad xs bad in
    let same : front ++ xs ≡ (front ++ r.0) ++ r.1 ∷ r.2 = ap (λ (t : List ℕ). front ++ t) r.3 ∙ sym (append_assoc front r.0 (r.1 ∷ r.2)) in
    let bytes = subst (λ (t : List ℕ). are_bytes t ≡ true) same h in
    let rest = back_bytes (front ++ r.0) (r.1 ∷ r.2) bytes in
    let is = spoilt_is Quoted (front ++ r.0) r.1 r.2 (front_bytes (front ++ r.0) (r.1 ∷ r.2) bytes) (first_of (nat_lt r.1 256) (are_bytes r.2) rest) (second_of (nat_lt r.1 256) (are_bytes r.2) rest) r.4 in
    let long = ap length same ∙ long_front (front ++ r.0) (r.1 ∷ r.2) in
    let more = long_front front r.0 in
    subst (λ (t : List ℕ). Among (spoilt_from before Quoted count) (raw_text t)) (sym same)
    (spoilt_from_among before Quoted count (length (front ++ r.0)) (length r.2) (raw_text ((front ++ r.0) ++ r.1 ∷ r.2)) (omega (arith, low, more)) (omega (arith, few, long, more)) is)

pub some_none : {S T : Type 0} (t : S) → Some t ≡ None → T
some_none t e = cc

-- the same by the numbers of bytes around it
spoilt_sized : (kind : Kinds) (front : List ℕ) (b : ℕ) (back : List ℕ) (i j : ℕ) → length front ≡ i → length back ≡ j → are_bytes front ≡ true → nat_lt b 256 ≡ true → are_bytes back ≡ true
    → has_word kind b ≡ false → IsTextOf (spoilt_parts i kind j) (raw_text (front ++ b ∷ back))
spoilt_sized kind front b back i j e k h l m none =
    subst (λ (n : ℕ). IsTextOf (spoilt_parts n kind j) (raw_text (front ++ b ∷ back))) e
    (subst (λ (n : ℕ). IsTextOf (spoilt_parts (length front) kind n) (raw_text (front ++ b ∷ back))) k (spoilt_is kind front b back h l m none))

-- a byte without a word of the set
unlisted : (set : WordSet) (b : ℕ) → spaced_word set b ≡ None → has_word (Listed set) b ≡ false
unlisted set b e = by (word_of (words_of set) b) refl e
  where
    by : (o : Option (List ℕ)) → word_of (words_of set) b ≡ o → option_map (λ (w : List ℕ). 32 ∷ w) o ≡ None → has_word (Listed set) b ≡ false
    by None k h = ap is_some k
    by (Some w) k h = some_none (32 ∷ w) h

-- one of three letters is none
abbrev InLanguage : ℕ → ℕ → ℕ → Type 0
InLanguage a b c = (is_letter a ≡ false) ⊎ ((is_letter b ≡ false) ⊎ (is_letter c ≡ false))

no_language : (a b c : ℕ) → (if is_letter a && is_letter b && is_letter c then Some (32 ∷ a ∷ b ∷ c ∷ []) else None) ≡ None → InLanguage a b c
no_language a b c e = by (is_letter a) (is_letter b) (is_letter c) refl refl refl e
  where
    by : (u v w : Bool) → is_letter a ≡ u → is_letter b ≡ v → is_letter c ≡ w → (if u && v && w then Some (32 ∷ a ∷ b ∷ c ∷ []) else None) ≡ None → InLanguage a b c
    by false v w h k m n = inl h
    by true false w h k m n = inr (inl k)
    by true true false h k m n = inr (inr m)
    by true true true h k m n = some_none (32 ∷ a ∷ b ∷ c ∷ []) n

-- an operand of its size that has no word, between other bytes
module _ (front back : List ℕ) (h : are_bytes front ≡ true) (m : are_bytes back ≡ true) where
  abbrev Here : Operand → List ℕ → Type 0
  Here o xs = Among (spoilt_operand (length front) o (length back)) (raw_text (front ++ (xs ++ back)))

  spoilt_language : (a b c : ℕ) → nat_lt a 256 ≡ true → nat_lt b 256 ≡ true → nat_lt c 256 ≡ true → InLanguage a b c → Here operand.Language (a ∷ b ∷ c ∷ [])
  spoilt_language a b c first second third (inl none) = (
    0,
    spoilt_parts (length front) Character (2 + length back),
    refl,
    spoilt_sized Character front a (b ∷ c ∷ back) (length front) (2 + length back) refl (omega arith) h first
        (and_both (nat_lt b 256) (nat_lt c 256 && are_bytes back) second (and_both (nat_lt c 256) (are_bytes back) third m)) none,
  )
  spoilt_language a b c first second third (inr (inl none)) =
      let long = long_front front (a ∷ []) in (
        1,
        spoilt_parts (length front + 1) Character (1 + length back),
        refl,
        subst (λ (t : List ℕ). IsTextOf (spoilt_parts (length front + 1) Character (1 + length back)) (raw_text t)) (append_assoc front (a ∷ []) (b ∷ c ∷ back))
            (spoilt_sized Character (front ++ a ∷ []) b (c ∷ back) (length front + 1) (1 + length back) (omega (arith, long)) (omega arith)
            (both_bytes front (a ∷ []) h (and_both (nat_lt a 256) true first refl)) second (and_both (nat_lt c 256) (are_bytes back) third m) none),
      )
  spoilt_language a b c first second third (inr (inr none)) =
      let long = long_front front (a ∷ b ∷ []) in (
        2,
        spoilt_parts (length front + 2) Character (length back),
        refl,
        subst (λ (t : List ℕ). IsTextOf (spoilt_parts (length front + 2) Character (length back)) (raw_text t)) (append_assoc front (a ∷ b ∷ []) (c ∷ back))
            (spoilt_sized Character (front ++ a ∷ b ∷ []) c back (length front + 2) (length back) (omega (arith, long)) refl
            (both_bytes front (a ∷ b ∷ []) h (and_both (nat_lt a 256) (nat_lt b 256 && true) first (and_both (nat_lt b 256) true second refl))) third m none),
      )

  spoilt_one : (o : Operand) (xs : List ℕ) → are_bytes xs ≡ true → length xs ≡ size_of o → operand_word o xs ≡ None → Here o xs
  spoilt_one operand.Byte [] k l e = absurd (omega (arith, l))
  spoilt_one operand.Byte (b ∷ []) k l e = some_none (32 ∷ hex_text b) e
  spoilt_one operand.Byte (b ∷ c ∷ xs) k l e = absurd (omega (arith, l))
  spoilt_one (operand.Word set) [] k l e = absurd (omega (arith, l))
  spoilt_one (operand.Word set) (b ∷ []) k l e = (0, spoilt_parts (length front) (Listed set) (length back), refl, spoilt_is (Listed set) front b back h (first_of (nat_lt b 256) true k) m (unlisted set b e))
  spoilt_one (operand.Word set) (b ∷ c ∷ xs) k l e = absurd (omega (arith, l))
  spoilt_one operand.Language [] k l e = absurd (omega (arith, l))
  spoilt_one operand.Language (a ∷ []) k l e = absurd (omega (arith, l))
  spoilt_one operand.Language (a ∷ b ∷ []) k l e = absurd (omega (arith, l))
  spoilt_one operand.Language (a ∷ b ∷ c ∷ []) k l e =
      let after_first = second_of (nat_lt a 256) (nat_lt b 256 && (nat_lt c 256 && true)) k in
      let after_second = second_of (nat_lt b 256) (nat_lt c 256 && true) after_first in
      spoilt_language a b c (first_of (nat_lt a 256) (nat_lt b 256 && (nat_lt c 256 && true)) k) (first_of (nat_lt b 256) (nat_lt c 256 && true) after_first) (first_of (nat_lt c 256) true after_second) (no_language a b c e)
  spoilt_one operand.Language (a ∷ b ∷ c ∷ d ∷ xs) k l e = absurd (omega (arith, l))
  spoilt_one operand.Vendor [] k l e = absurd (omega (arith, l))
  spoilt_one operand.Vendor (a ∷ []) k l e = absurd (omega (arith, l))
  spoilt_one operand.Vendor (a ∷ b ∷ []) k l e = absurd (omega (arith, l))
  spoilt_one operand.Vendor (a ∷ b ∷ c ∷ []) k l e = some_none _ e
  spoilt_one operand.Vendor (a ∷ b ∷ c ∷ d ∷ xs) k l e = absurd (omega (arith, l))
  spoilt_one operand.Address [] k l e = absurd (omega (arith, l))
  spoilt_one operand.Address (a ∷ []) k l e = absurd (omega (arith, l))
  spoilt_one operand.Address (a ∷ b ∷ []) k l e = some_none _ e
  spoilt_one operand.Address (a ∷ b ∷ c ∷ xs) k l e = absurd (omega (arith, l))

small : (o : Operand) → size_of o ≤ 3
small operand.Byte = omega arith
small (operand.Word set) = omega arith
small operand.Language = omega arith
small operand.Vendor = omega arith
small operand.Address = omega arith

-- of its size alone
spoilt_alone : (o : Operand) (xs : List ℕ) → are_bytes xs ≡ true → length xs ≡ size_of o → operand_word o xs ≡ None → Among (spoilt_operand 0 o 0) (raw_text xs)
spoilt_alone o xs h l e = subst (λ (t : List ℕ). Among (spoilt_operand 0 o 0) (raw_text t)) (append_none xs) (spoilt_one [] [] refl refl o xs h l e)

one_unworded : (o : Operand) (xs : List ℕ) → are_bytes xs ≡ true → length xs ≤ 14 → operand_word o xs ≡ None → Among (unworded_parts (operands.One o)) (raw_text xs)
one_unworded o xs h few e = by (cases_lt (length xs) (size_of o)) (cases_lt (size_of o) (length xs))
  where
    by : (length xs < size_of o) ⊎ (size_of o ≤ length xs) → (size_of o < length xs) ⊎ (length xs ≤ size_of o) → Among (unworded_parts (operands.One o)) (raw_text xs)
    by (inl less) other = among_left (raw_but (size_of o)) (spoilt_operand 0 o 0) (raw_text xs) (fewer (size_of o) xs h less)
    by (inr low) (inl more) = among_left (raw_but (size_of o)) (spoilt_operand 0 o 0) (raw_text xs) (more_than (size_of o) xs h more few)
    by (inr low) (inr high) =
        let same : length xs ≡ size_of o = omega (arith, low, high) in
        among_right (raw_but (size_of o)) (spoilt_operand 0 o 0) (raw_text xs) (spoilt_alone o xs h same e)

optional_unworded : (o : Operand) (x : ℕ) (xs : List ℕ) → are_bytes (x ∷ xs) ≡ true → length (x ∷ xs) ≤ 14 → operand_word o (x ∷ xs) ≡ None → Among (unworded_parts (operands.Optional o)) (raw_text (x ∷ xs))
optional_unworded o x xs h few e = by (cases_lt (length (x ∷ xs)) (size_of o)) (cases_lt (size_of o) (length (x ∷ xs)))
  where
    by : (length (x ∷ xs) < size_of o) ⊎ (size_of o ≤ length (x ∷ xs)) → (size_of o < length (x ∷ xs)) ⊎ (length (x ∷ xs) ≤ size_of o) → Among (unworded_parts (operands.Optional o)) (raw_text (x ∷ xs))
    by (inl less) other = among_left (raw_from 1 (size_of o - 1)) (raw_from (size_of o + 1) (14 - size_of o) ++ spoilt_operand 0 o 0) (raw_text (x ∷ xs)) (raw_among 1 (size_of o - 1) (x ∷ xs) h (omega arith) (omega (arith, less)))
    by (inr low) (inl more) = among_right (raw_from 1 (size_of o - 1)) (raw_from (size_of o + 1) (14 - size_of o) ++ spoilt_operand 0 o 0) (raw_text (x ∷ xs))
        (among_left (raw_from (size_of o + 1) (14 - size_of o)) (spoilt_operand 0 o 0) (raw_text (x ∷ xs)) (raw_among (size_of o + 1) (14 - size_of o) (x ∷ xs) h (omega (arith, more)) (omega (arith, more, few))))
    by (inr low) (inr high) =
        let same : length (x ∷ xs) ≡ size_of o = omega (arith, low, high) in
        among_right (raw_from 1 (size_of o - 1)) (raw_from (size_of o + 1) (14 - size_of o) ++ spoilt_operand 0 o 0) (raw_text (x ∷ xs))
        (among_right (raw_from (size_of o + 1) (14 - size_of o)) (spoilt_operand 0 o 0) (raw_text (x ∷ xs)) (spoilt_alone o (x ∷ xs) h same e))

parted : (n : ℕ) (xs : List ℕ) → take n xs ++ drop n xs ≡ xs
parted zero xs = refl
parted (suc n) [] = refl
parted (suc n) (x ∷ xs) = ap (λ (t : List ℕ). x ∷ t) (parted n xs)

taken : (n : ℕ) (xs : List ℕ) → n ≤ length xs → length (take n xs) ≡ n
taken zero xs l = refl
taken (suc n) [] l = absurd (omega (arith, l))
taken (suc n) (x ∷ xs) l = let same = taken n xs (omega (arith, l)) in omega (arith, same)

neither_word : (o p : Option (List ℕ)) → with_both o p ≡ None → (o ≡ None) ⊎ (p ≡ None)
neither_word None p e = inl refl
neither_word (Some x) None e = inr refl
neither_word (Some x) (Some y) e = some_none (x ++ y) e

two_unworded : (first second : Operand) (xs : List ℕ) → are_bytes xs ≡ true → length xs ≤ 14
    → with_both (operand_word first (take (size_of first) xs)) (operand_word second (drop (size_of first) xs)) ≡ None → Among (unworded_parts (operands.Two first second)) (raw_text xs)
two_unworded first second xs h few e = by (cases_lt (length xs) (size_of first + size_of second)) (cases_lt (size_of first + size_of second) (length xs))
  where
    spoilt : length xs ≡ size_of first + size_of second → (operand_word first (take (size_of first) xs) ≡ None) ⊎ (operand_word second (drop (size_of first) xs) ≡ None)
        → Among (spoilt_operand 0 first (size_of second) ++ spoilt_operand (size_of first) second 0) (raw_text xs)
    spoilt same (inl none) =
        let long = taken (size_of first) xs (omega (arith, same)) in
        let all = ap length (sym (parted (size_of first) xs)) ∙ long_front (take (size_of first) xs) (drop (size_of first) xs) in
        let rest : length (drop (size_of first) xs) ≡ size_of second = omega (arith, same, long, all) in
        among_left (spoilt_operand 0 first (size_of second)) (spoilt_operand (size_of first) second 0) (raw_text xs)
        (subst (λ (t : List ℕ). Among (spoilt_operand 0 first (size_of second)) (raw_text t)) (parted (size_of first) xs)
        (subst (λ (k : ℕ). Among (spoilt_operand 0 first k) (raw_text (take (size_of first) xs ++ drop (size_of first) xs))) rest
        (spoilt_one [] (drop (size_of first) xs) refl (bytes_left (size_of first) xs h) first (take (size_of first) xs) (bytes_taken (size_of first) xs h) long none)))
    spoilt same (inr none) =
        let long = taken (size_of first) xs (omega (arith, same)) in
        let all = ap length (sym (parted (size_of first) xs)) ∙ long_front (take (size_of first) xs) (drop (size_of first) xs) in
        let rest : length (drop (size_of first) xs) ≡ size_of second = omega (arith, same, long, all) in
        among_right (spoilt_operand 0 first (size_of second)) (spoilt_operand (size_of first) second 0) (raw_text xs)
        (subst (λ (t : List ℕ). Among (spoilt_operand (size_of first) second 0) (raw_text t)) (ap (λ (t : List ℕ). take (size_of first) xs ++ t) (append_none (drop (size_of first) xs)) ∙ parted (size_of first) xs)
        (subst (λ (k : ℕ). Among (spoilt_operand k second 0) (raw_text (take (size_of first) xs ++ (drop (size_of first) xs ++ [])))) long
        (spoilt_one (take (size_of first) xs) [] (bytes_taken (size_of first) xs h) refl second (drop (size_of first) xs) (bytes_left (size_of first) xs h) rest none)))

    by : (length xs < size_of first + size_of second) ⊎ (size_of first + size_of second ≤ length xs) → (size_of first + size_of second < length xs) ⊎ (length xs ≤ size_of first + size_of second)
        → Among (unworded_parts (operands.Two first second)) (raw_text xs)
    by (inl less) other = among_left (raw_but (size_of first + size_of second)) (spoilt_operand 0 first (size_of second) ++ spoilt_operand (size_of first) second 0) (raw_text xs) (fewer (size_of first + size_of second) xs h less)
    by (inr low) (inl more) = among_left (raw_but (size_of first + size_of second)) (spoilt_operand 0 first (size_of second) ++ spoilt_operand (size_of first) second 0) (raw_text xs) (more_than (size_of first + size_of second) xs h more few)
    by (inr low) (inr high) =
        let same : length xs ≡ size_of first + size_of second = omega (arith, low, high) in
        among_right (raw_but (size_of first + size_of second)) (spoilt_operand 0 first (size_of second) ++ spoilt_operand (size_of first) second 0) (raw_text xs)
        (spoilt same (neither_word (operand_word first (take (size_of first) xs)) (operand_word second (drop (size_of first) xs)) e))

too_loud : (status : ℕ) → are_bytes (status ∷ []) ≡ true → operand_words operands.Volume (status ∷ []) ≡ None → IsTextOf (spoilt_parts 0 Loudness 0) (raw_text (status ∷ []))
too_loud status h e = spoilt_is Loudness [] status [] refl (first_of (nat_lt status 256) true h) refl (by (nat_le (status % 128) 100) refl e)
  where
    by : (c : Bool) → nat_le (status % 128) 100 ≡ c → (if c then Some ((if nat_le 128 status then codes " mute " else codes " sound ") ++ decimal (status % 128)) else None) ≡ None → nat_le (status % 128) 100 ≡ false
    by true k m = some_none _ m
    by false k m = k

no_text : (most : ℕ) (x : ℕ) (xs : List ℕ) (word : Option (List ℕ)) (text : List ℕ) → nat_le (length (x ∷ xs)) most ≡ true → word ≡ Some text → (if is_text most (x ∷ xs) then word else None) ≡ None
    → list_all is_text_byte (x ∷ xs) ≡ false
no_text most x xs word text few is e = by (list_all is_text_byte (x ∷ xs)) refl
  where
    some : nat_le 1 (length (x ∷ xs)) ≡ true
    some = grind (arith, common_steps)

    by : (c : Bool) → list_all is_text_byte (x ∷ xs) ≡ c → c ≡ false
    by false h = refl
    by true h =
        let all = and_both (nat_le 1 (length (x ∷ xs)) && nat_le (length (x ∷ xs)) most) (list_all is_text_byte (x ∷ xs)) (and_both (nat_le 1 (length (x ∷ xs))) (nat_le (length (x ∷ xs)) most) some few) h in
        some_none text (sym is ∙ sym (ap (λ (c : Bool). if c then word else None) all) ∙ e)

text_unworded : (x : ℕ) (xs : List ℕ) → are_bytes (x ∷ xs) ≡ true → length (x ∷ xs) ≤ 14 → operand_words operands.Text (x ∷ xs) ≡ None → Among (unworded_parts operands.Text) (raw_text (x ∷ xs))
text_unworded x xs h few e =
    let short : nat_le (length (x ∷ xs)) 14 ≡ true = grind (arith, common_steps) in
    among_next (raw_parts 0) (spoilt_from 0 Quoted 14) (raw_text (x ∷ xs))
    (bad_text [] (x ∷ xs) 0 14 h (omega arith) few (no_text 14 x xs (Some (quoted_text (x ∷ xs))) (quoted_text (x ∷ xs)) short refl e))

both_unworded : (set : WordSet) (byte x : ℕ) (xs : List ℕ) → are_bytes (byte ∷ x ∷ xs) ≡ true → length (byte ∷ x ∷ xs) ≤ 14 → operand_words (operands.WordAndText set) (byte ∷ x ∷ xs) ≡ None
    → Among (unworded_parts (operands.WordAndText set)) (raw_text (byte ∷ x ∷ xs))
both_unworded set byte x xs h few e = by (spaced_word set byte) refl
  where
    by : (o : Option (List ℕ)) → spaced_word set byte ≡ o → Among (unworded_parts (operands.WordAndText set)) (raw_text (byte ∷ x ∷ xs))
    by None k = among_next (raw_parts 0) (spoilt_at 0 (Listed set) 14 ++ spoilt_from 1 Quoted 13) (raw_text (byte ∷ x ∷ xs))
        (among_left (spoilt_at 0 (Listed set) 14) (spoilt_from 1 Quoted 13) (raw_text (byte ∷ x ∷ xs))
        (spoilt_at_among 0 (Listed set) 14 (length (x ∷ xs)) (raw_text (byte ∷ x ∷ xs)) (omega (arith, few))
        (spoilt_is (Listed set) [] byte (x ∷ xs) refl (first_of (nat_lt byte 256) (are_bytes (x ∷ xs)) h) (second_of (nat_lt byte 256) (are_bytes (x ∷ xs)) h) (unlisted set byte k))))
    by (Some w) k =
        let short : nat_le (length (x ∷ xs)) 13 ≡ true = grind (arith, common_steps) in
        among_next (raw_parts 0) (spoilt_at 0 (Listed set) 14 ++ spoilt_from 1 Quoted 13) (raw_text (byte ∷ x ∷ xs))
        (among_right (spoilt_at 0 (Listed set) 14) (spoilt_from 1 Quoted 13) (raw_text (byte ∷ x ∷ xs))
        (bad_text (byte ∷ []) (x ∷ xs) 1 13 h (omega arith) few
        (no_text 13 x xs (option_map (λ (w : List ℕ). w ++ quoted_text (x ∷ xs)) (spaced_word set byte)) (w ++ quoted_text (x ∷ xs)) short (ap (option_map (λ (w : List ℕ). w ++ quoted_text (x ∷ xs))) k) e)))

unworded : (form : Operands) (xs : List ℕ) → are_bytes xs ≡ true → length xs ≤ 14 → operand_words form xs ≡ None → Among (unworded_parts form) (raw_text xs)
unworded operands.Raw xs h few e = raw_among 0 15 xs h (omega arith) (omega (arith, few))
unworded operands.Nothing [] h few e = some_none [] e
unworded operands.Nothing (x ∷ xs) h few e = raw_among 1 14 (x ∷ xs) h (omega arith) (omega (arith, few))
unworded (operands.One only) xs h few e = one_unworded only xs h few e
unworded (operands.Optional only) [] h few e = some_none [] e
unworded (operands.Optional only) (x ∷ xs) h few e = optional_unworded only x xs h few e
unworded (operands.Two first second) xs h few e = two_unworded first second xs h few e
unworded operands.Volume [] h few e = among_left (raw_but 1) (spoilt_parts 0 Loudness 0 ∷ []) (raw_text []) (fewer 1 [] refl (omega arith))
unworded operands.Volume (status ∷ []) h few e = among_right (raw_but 1) (spoilt_parts 0 Loudness 0 ∷ []) (raw_text (status ∷ [])) (among_first (spoilt_parts 0 Loudness 0) [] (raw_text (status ∷ [])) (too_loud status h e))
unworded operands.Volume (status ∷ x ∷ xs) h few e = among_left (raw_but 1) (spoilt_parts 0 Loudness 0 ∷ []) (raw_text (status ∷ x ∷ xs)) (more_than 1 (status ∷ x ∷ xs) h (omega arith) few)
unworded operands.Text [] h few e = among_first (raw_parts 0) (spoilt_from 0 Quoted 14) (raw_text []) (raw_is [] refl)
unworded operands.Text (x ∷ xs) h few e = text_unworded x xs h few e
unworded (operands.WordAndText set) [] h few e = among_first (raw_parts 0) (spoilt_at 0 (Listed set) 14 ++ spoilt_from 1 Quoted 13) (raw_text []) (raw_is [] refl)
unworded (operands.WordAndText set) (byte ∷ []) h few e =
    among_next (raw_parts 0) (spoilt_at 0 (Listed set) 14 ++ spoilt_from 1 Quoted 13) (raw_text (byte ∷ []))
    (among_left (spoilt_at 0 (Listed set) 14) (spoilt_from 1 Quoted 13) (raw_text (byte ∷ []))
    (spoilt_at_among 0 (Listed set) 14 0 (raw_text (byte ∷ [])) (omega arith) (spoilt_is (Listed set) [] byte [] refl (first_of (nat_lt byte 256) true h) refl (unlisted set byte e))))
unworded (operands.WordAndText set) (byte ∷ x ∷ xs) h few e = both_unworded set byte x xs h few e

-- the text of operands, in words or as they are
operands_are : (form : Operands) (xs : List ℕ) → are_bytes xs ≡ true → length xs ≤ 14 → Among (operands_parts form) (operands_text form xs)
operands_are form xs h few = by (operand_words form xs) refl
  where
    by : (o : Option (List ℕ)) → operand_words form xs ≡ o → Among (operands_parts form) (unwrap_or o (raw_text xs))
    by None k = among_right (worded_parts form) (unworded_parts form) (raw_text xs) (unworded form xs h few k)
    by (Some t) k = among_left (worded_parts form) (unworded_parts form) t (worded form xs t h k)

-- ---- readings

module _ (who : Judged) (tail : List ℕ) (is_tail : IsTail who tail) where
  verdict_is : (is_broadcast last_bit : Bool) → IsTextBefore (IsTail who) (verdict_parts is_broadcast last_bit) (verdict_by is_broadcast last_bit ++ tail)
  unfolding verdict_parts
  verdict_is is_broadcast last_bit = literal_before (IsTail who) (verdict_by is_broadcast last_bit) tail is_tail

  poll_is : (header : ℕ) (last_bit : Bool) → nat_lt header 256 ≡ true → IsSpelled who (header_text header ++ (verdict_by (header % 16 == 15) last_bit ++ tail))
  poll_is header last_bit h =
      inl (
        header % 16 == 15,
        last_bit,
        texts_after (IsTail who) (header_parts (header % 16 == 15)) (verdict_parts (header % 16 == 15) last_bit) (header_text header) (verdict_by (header % 16 == 15) last_bit ++ tail)
            (header_is header h) (verdict_is (header % 16 == 15) last_bit),
      )

  opcode_is : (header code : ℕ) (operands : List ℕ) (last_bit : Bool) → nat_lt header 256 ≡ true → nat_lt code 256 ≡ true → are_bytes operands ≡ true → length operands ≤ 14
      → IsSpelled who (frame_text (header ∷ code ∷ operands) ++ (verdict_by (header % 16 == 15) last_bit ++ tail))
  unfolding opcode_parts header_parts
  opcode_is header code operands last_bit h k m few =
      let r = operands_are (operands_of code) operands m few in
      let after = verdict_by (header % 16 == 15) last_bit ++ tail in
      let text = operands_text (operands_of code) operands in
      let rest = texts_after (IsTail who) r.1 (verdict_parts (header % 16 == 15) last_bit) text after r.3 (verdict_is (header % 16 == 15) last_bit) in
      let whole = texts_after (IsTail who) (header_parts (header % 16 == 15)) (Byte 32 ∷ Opcode code ∷ (r.1 ++ verdict_parts (header % 16 == 15) last_bit)) (header_text header) (32 ∷ (opcode_text code ++ (text ++ after)))
      (header_is header h) (opcode_text code ++ (text ++ after), refl, (text ++ after, refl, rest)) in
      let less : code < 256 = grind (arith, common_steps) in
      let same : header_text header ++ (32 ∷ (opcode_text code ++ (text ++ after))) ≡ frame_text (header ∷ code ∷ operands) ++ after =
      ap (λ (x : List ℕ). header_text header ++ (32 ∷ x)) (sym (append_assoc (opcode_text code) text after)) in
      subst (IsSpelled who) same (inr (inl (header % 16 == 15, last_bit, code, r.0, r.1, less, r.2, whole)))

  frame_is : (frame : List ℕ) (last_bit : Bool) → is_frame frame ≡ true → IsSpelled who (frame_said frame last_bit tail)
  frame_is [] last_bit h = absurd (true≢false (sym h))
  frame_is (header ∷ []) last_bit h = poll_is header last_bit (grind (arith, common_steps))
  frame_is (header ∷ code ∷ operands) last_bit h =
      let bytes : are_bytes (header ∷ code ∷ operands) ≡ true = second_of (nat_le 1 (length (header ∷ code ∷ operands)) && nat_le (length (header ∷ code ∷ operands)) 16) (are_bytes (header ∷ code ∷ operands)) (grind (arith, common_steps)) in
      let first : nat_lt header 256 ≡ true = grind (arith, common_steps) in
      let second : nat_lt code 256 ≡ true = grind (arith, common_steps) in
      let others : are_bytes operands ≡ true = grind (arith, common_steps) in
      let size : (nat_le 1 (length (header ∷ code ∷ operands)) && nat_le (length (header ∷ code ∷ operands)) 16) ≡ true =
      first_of (nat_le 1 (length (header ∷ code ∷ operands)) && nat_le (length (header ∷ code ∷ operands)) 16) (are_bytes (header ∷ code ∷ operands)) (grind (arith, common_steps)) in
      let long = at_least (length (header ∷ code ∷ operands)) 16 (second_of (nat_le 1 (length (header ∷ code ∷ operands))) (nat_le (length (header ∷ code ∷ operands)) 16) size) in
      let few : length operands ≤ 14 = omega (arith, long) in
      opcode_is header code operands last_bit first second others few

  bits_are : (ending : Ending) (place : ℕ) (bits : List Bool) → slice_get (endings_of who) place ≡ Some ending → FitsEnding ending bits → IsSpelled who (bits_said ending bits tail)
  bits_are ending place bits e fits =
      inr (inr (ending, place, e, literal_before (BitsBefore who ending) (ending_word ending) (bits_text bits ++ tail) (bits, tail, fits, is_tail, refl)))

-- each is spelled by the parts of a line
pub said_is_spelled : (who : Judged) (text : List ℕ) → IsSaid who text → IsSpelled who text
said_is_spelled who text (inl (frame, last_bit, tail, h, t, e)) = subst (IsSpelled who) (sym e) (frame_is who tail t frame last_bit h)
said_is_spelled who text (inr (ending, place, bits, tail, is, fits, t, e)) = subst (IsSpelled who) (sym e) (bits_are who tail t ending place bits is fits)
