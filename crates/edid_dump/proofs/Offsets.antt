-- Rows with offsets are read back.
use Rattle.std.proofs.Common.{◌≡◌, ℕ, ◌+◌, ◌/◌, ◌%◌, ◌<◌, ◌≤◌, ◌==◌, ◌&&◌, nat_le, Bool, true, false, if◌then◌else◌, List, [], ◌∷◌, ◌++◌, length, take, Some, None, All, map, refl, sym, ap, ◌∙◌, append-nil, arith, length-append}
use Rattle.std.specs.List.{concat}
use Rattle.std.specs.Char.{is_ascii_hexdigit}
use Rattle.std.proofs.lemmas.Bool.Decides.{nat_tests}
use Rattle.std.proofs.lemmas.List.Elements.{All-append, All-cons, All-head, All-tail}
use Rattle.text_core.specs.Lines.{lines_of}
use Rattle.text_core.specs.Piece.{hex_text}
use Rattle.edid_dump.specs.declared.digits.Column.TheVariants.{AfterGap}
use Rattle.edid_dump.specs.declared.rows.DumpForm.TheVariants.{Colon, Plain}
use Rattle.edid_dump.specs.Digits.{onto, pairs}
use Rattle.edid_dump.specs.Rows.{begins_with, counted_bytes, digits_start, form_of, has_header, has_offset, header, row, row_from}
use Rattle.edid_dump.specs.Printed.{OffsetsAreRead, by_twos, character, colon_line, colon_text, offset_text}
use Rattle.edid_dump.proofs.DigitFacts.{joins, joins_byte, joins_none, mark, mark_hex, pairs_byte, pairs_gap}
use Rattle.edid_dump.proofs.Pairing.{pairs_column}
use Rattle.edid_dump.proofs.Printing.{AreBytes, AreRows, IsLine, byte_line, header_found, line_before, rows_dumped}

-- ---- the offset

both : (x y : Bool) → x ≡ true → y ≡ true → (x && y) ≡ true
both true y h k = k
both false y h k = h

eight : (a b c d e f g h : ℕ) (rest : List ℕ) → is_ascii_hexdigit a ≡ true → is_ascii_hexdigit b ≡ true → is_ascii_hexdigit c ≡ true → is_ascii_hexdigit d ≡ true
    → is_ascii_hexdigit e ≡ true → is_ascii_hexdigit f ≡ true → is_ascii_hexdigit g ≡ true → is_ascii_hexdigit h ≡ true
    → has_offset (a ∷ b ∷ c ∷ d ∷ e ∷ f ∷ g ∷ h ∷ rest) ≡ true
eight a b c d e f g h rest ha hb hc hd he hf hg hh =
    let long : nat_le 8 (length (a ∷ b ∷ c ∷ d ∷ e ∷ f ∷ g ∷ h ∷ rest)) ≡ true = grind (arith, nat_tests) in
    both _ _ long
    (both _ _ ha (both _ _ hb (both _ _ hc (both _ _ hd (both _ _ he (both _ _ hf (both _ _ hg (both _ _ hh refl))))))))

pub offset_read : (place : ℕ) (rest : List ℕ) → place < 65536 → has_offset (offset_text place ++ rest) ≡ true
offset_read place rest h =
    eight 48 48 48 48 (mark (place / 256 / 16)) (mark (place / 256 % 16)) (mark (place % 256 / 16)) (mark (place % 256 % 16)) rest refl refl refl refl
    (mark_hex (place / 256 / 16) (omega arith)) (mark_hex (place / 256 % 16) (omega arith)) (mark_hex (place % 256 / 16) (omega arith)) (mark_hex (place % 256 % 16) (omega arith))

-- ---- the bytes of a row

twos_read : (bytes rest : List ℕ) → AreBytes bytes → pairs AfterGap (by_twos bytes ++ rest) ≡ joins bytes (pairs AfterGap rest)
twos_read [] rest h = sym (joins_none (pairs AfterGap rest))
twos_read (b ∷ []) rest h =
    pairs_gap AfterGap b rest (All-head (λ b. b < 256) b [] h) ∙ ap (onto b) (sym (joins_none (pairs AfterGap rest))) ∙ joins_byte b [] (pairs AfterGap rest)
twos_read (b ∷ c ∷ bytes) rest h =
    let t = All-tail (λ b. b < 256) b (c ∷ bytes) h in
    pairs_gap AfterGap b (hex_text c ++ (by_twos bytes ++ rest)) (All-head (λ b. b < 256) b (c ∷ bytes) h)
    ∙ ap (onto b) (pairs_byte AfterGap c (by_twos bytes ++ rest) (All-head (λ b. b < 256) c bytes t)
    ∙ ap (onto c) (twos_read bytes rest (All-tail (λ b. b < 256) c bytes t)) ∙ joins_byte c bytes (pairs AfterGap rest))
    ∙ joins_byte b (c ∷ bytes) (pairs AfterGap rest)

colon_start : (place : ℕ) (rest : List ℕ) → place < 65536 → digits_start Colon (offset_text place ++ 58 ∷ rest) ≡ Some 9
colon_start place rest h = ap (λ b. if b && true then Some 9 else None) (offset_read place (58 ∷ rest) h)

colon_row : (place : ℕ) (part : List ℕ) → place < 65536 → AreBytes part → row Colon (colon_line place part) ≡ Some part
colon_row place part low h =
    let rest = by_twos part ++ (32 ∷ 32 ∷ map character part) in
    ap (row_from Colon (colon_line place part)) (colon_start place rest low)
    ∙ ap (counted_bytes Colon) (twos_read part (32 ∷ 32 ∷ map character part) h ∙ ap (joins part) (pairs_column AfterGap 32 (32 ∷ map character part) refl) ∙ ap Some (append-nil part))

-- ---- its line

twos_line : (bytes : List ℕ) → AreBytes bytes → IsLine (by_twos bytes)
twos_line [] h = λ k d m. absurd (omega arith)
twos_line (b ∷ []) h = All-cons (λ c. (c == 10) ≡ false) 32 (hex_text b) refl (byte_line b (All-head (λ b. b < 256) b [] h))
twos_line (b ∷ c ∷ bytes) h =
    let t = All-tail (λ b. b < 256) b (c ∷ bytes) h in
    All-cons (λ c. (c == 10) ≡ false) 32 (hex_text b ++ (hex_text c ++ by_twos bytes)) refl
    (All-append (λ c. (c == 10) ≡ false) (hex_text b) (hex_text c ++ by_twos bytes) (byte_line b (All-head (λ b. b < 256) b (c ∷ bytes) h))
    (All-append (λ c. (c == 10) ≡ false) (hex_text c) (by_twos bytes) (byte_line c (All-head (λ b. b < 256) c bytes t)) (twos_line bytes (All-tail (λ b. b < 256) c bytes t))))

character_plain : (b : ℕ) → (character b == 10) ≡ false
character_plain b = grind (arith, nat_tests)

pub characters_line : (bytes : List ℕ) → IsLine (map character bytes)
characters_line [] = λ k d m. absurd (omega arith)
characters_line (b ∷ bytes) = All-cons (λ c. (c == 10) ≡ false) (character b) (map character bytes) (character_plain b) (characters_line bytes)

zeros_line : IsLine (48 ∷ 48 ∷ 48 ∷ 48 ∷ [])
zeros_line = byte_more 48 (48 ∷ 48 ∷ 48 ∷ []) refl (byte_more 48 (48 ∷ 48 ∷ []) refl (byte_more 48 (48 ∷ []) refl (byte_more 48 [] refl (λ k d m. absurd (omega arith)))))
  where
    byte_more : (c : ℕ) (cs : List ℕ) → (c == 10) ≡ false → IsLine cs → IsLine (c ∷ cs)
    byte_more c cs h k = All-cons (λ c. (c == 10) ≡ false) c cs h k

pub offset_line : (place : ℕ) → place < 65536 → IsLine (offset_text place)
offset_line place h =
    All-append (λ c. (c == 10) ≡ false) (48 ∷ 48 ∷ 48 ∷ 48 ∷ []) (hex_text (place / 256) ++ hex_text (place % 256)) zeros_line
    (All-append (λ c. (c == 10) ≡ false) (hex_text (place / 256)) (hex_text (place % 256)) (byte_line (place / 256) (omega arith)) (byte_line (place % 256) (omega arith)))

colon_line_is : (place : ℕ) (part : List ℕ) → place < 65536 → AreBytes part → IsLine (colon_line place part)
colon_line_is place part low h =
    All-append (λ c. (c == 10) ≡ false) (offset_text place) (58 ∷ (by_twos part ++ (32 ∷ 32 ∷ map character part))) (offset_line place low)
    (All-cons (λ c. (c == 10) ≡ false) 58 (by_twos part ++ (32 ∷ 32 ∷ map character part)) refl
    (All-append (λ c. (c == 10) ≡ false) (by_twos part) (32 ∷ 32 ∷ map character part) (twos_line part h)
    (All-cons (λ c. (c == 10) ≡ false) 32 (32 ∷ map character part) refl (All-cons (λ c. (c == 10) ≡ false) 32 (map character part) refl (characters_line part)))))

-- ---- all rows

abbrev colon_lines : ℕ → List (List ℕ) → List (List ℕ)
colon_lines place [] = []
colon_lines place (part ∷ parts) = colon_line place part ∷ colon_lines (place + length part) parts

pub fits_first : (place : ℕ) (part : List ℕ) (parts : List (List ℕ)) → place + length (concat (part ∷ parts)) ≤ 512 → place + length part + length (concat parts) ≤ 512
fits_first place part parts h = omega (arith, length-append part (concat parts))

colon_printed : (place : ℕ) (parts : List (List ℕ)) → place + length (concat parts) ≤ 512 → All AreBytes parts → lines_of (colon_text place parts) ≡ colon_lines place parts
colon_printed place [] low h = refl
colon_printed place (part ∷ parts) low h =
    let small : place < 65536 = omega arith in
    line_before (colon_line place part) (colon_text (place + length part) parts) (colon_line_is place part small (All-head AreBytes part parts h))
    ∙ ap (λ l. colon_line place part ∷ l) (colon_printed (place + length part) parts (fits_first place part parts low) (All-tail AreBytes part parts h))

colon_rows : (place : ℕ) (parts : List (List ℕ)) → place + length (concat parts) ≤ 512 → All AreBytes parts → AreRows Colon (colon_lines place parts) parts
colon_rows place [] low h = tt
colon_rows place (part ∷ parts) low h =
    let small : place < 65536 = omega arith in (
      refl,
      colon_row place part small (All-head AreBytes part parts h),
      colon_rows (place + length part) parts (fits_first place part parts low) (All-tail AreBytes part parts h),
    )

-- the first row is none of plain digits
not_plain : (part : List ℕ) → take 8 part ≡ header → row Plain (colon_line 0 part) ≡ None
not_plain [] h = cc
not_plain (b ∷ []) h = refl
not_plain (b ∷ c ∷ part) h = refl

colon_first : (line part : List ℕ) → row Plain line ≡ None → row Colon line ≡ Some part → take 8 part ≡ header → form_of line ≡ Some Colon
colon_first line part h k begins =
    let e : has_header line Plain ≡ false = ap (begins_with header) h in
    let f : has_header line Colon ≡ true = ap (begins_with header) k ∙ header_found part begins in
    rw (e, f) refl

pub offsets_are_read : OffsetsAreRead
offsets_are_read first parts is =
    let small : 0 < 65536 = omega arith in
    rows_dumped Colon (colon_text 0 (first ∷ parts)) (colon_line 0 first) first (colon_lines (0 + length first) parts) parts (record { stays = refl; same = λ b. refl })
    (colon_printed 0 (first ∷ parts) (omega (arith, is.most)) is.bytes)
    (colon_first (colon_line 0 first) first (not_plain first is.begins) (colon_row 0 first small (All-head AreBytes first parts is.bytes)) is.begins)
    (colon_rows 0 (first ∷ parts) (omega (arith, is.most)) is.bytes) is
