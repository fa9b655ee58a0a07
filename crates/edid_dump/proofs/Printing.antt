-- What is printed is read back.
use Rattle.std.proofs.Common.{◌≡◌, ℕ, ◌+◌, ◌/◌, ◌%◌, ◌<◌, ◌≤◌, ◌==◌, nat_lt, true, false, if◌then◌else◌, List, [], ◌∷◌, ◌++◌, length, take, Option, Some, None, Result, Ok, Err, All, map, refl, sym, ap, subst, ◌∙◌, append_assoc, append-nil, arith, length-append}
use Rattle.std.specs.List.{concat, flat_map, slice_split}
use Rattle.std.specs.Str.{bytes_eq}
use Rattle.std.proofs.lemmas.Bool.Decides.{nat_tests}
use Rattle.std.proofs.lemmas.List.Elements.{All-append, All-cons, All-head, All-tail, All-weaker}
use Rattle.std.proofs.lemmas.List.Splits.{slice_split_at, length-slice_split}
use Rattle.text_core.specs.Lines.{lines_of, without_empty_end}
use Rattle.text_core.specs.Piece.{hex_text}
use Rattle.edid_dump.specs.declared.digits.Column.{Column}
use Rattle.edid_dump.specs.declared.digits.Column.TheVariants.{Absent}
use Rattle.edid_dump.specs.declared.rows.DumpForm.{DumpForm}
use Rattle.edid_dump.specs.declared.rows.DumpForm.TheVariants.{Plain}
use Rattle.edid_dump.specs.declared.dump.DumpError.{DumpError}
use Rattle.edid_dump.specs.declared.dump.DumpError.TheVariants.{Cut, Long}
use Rattle.edid_dump.specs.Digits.{is_column, onto, pairs}
use Rattle.edid_dump.specs.Rows.{begins_with, counted_bytes, form_of, has_header, header, in_order, is_repeat, next_form, row}
use Rattle.edid_dump.specs.Dump.{edid_in_dump, dumped_from, bytes_of_rows, gathered_by, ordered, with_row}
use Rattle.edid_dump.specs.Printed.{IsParted, DigitsAreRead, PairsAreRead, pairs_text}
use Rattle.edid_dump.proofs.DigitFacts.{joins, joins_byte, joins_none, mark, mark_other, pairs_byte, pairs_digits}
use Rattle.edid_dump.proofs.Pairing.{pairs_blank}

-- ---- lines of a text

abbrev pub AreBytes : List ℕ → Type 0
AreBytes bytes = All (λ b. b < 256) bytes

abbrev pub IsLine : List ℕ → Type 0
IsLine line = All (λ c. (c == 10) ≡ false) line

more_parts : (x : List ℕ) (ys : List (List ℕ)) → 0 < length ys → without_empty_end (x ∷ ys) ≡ x ∷ without_empty_end ys
more_parts x [] h = absurd (omega arith)
more_parts x (y ∷ ys) h = refl

pub line_before : (line rest : List ℕ) → IsLine line → lines_of (line ++ 10 ∷ rest) ≡ line ∷ lines_of rest
line_before line rest plain =
    ap without_empty_end (slice_split_at (λ b. b == 10) line 10 rest plain refl)
    ∙ more_parts line (slice_split (λ b. b == 10) rest) (omega (arith, length-slice_split (λ b. b == 10) rest))

pub byte_line : (b : ℕ) → b < 256 → IsLine (hex_text b)
byte_line b h = All-cons (λ c. (c == 10) ≡ false) (mark (b / 16)) (mark (b % 16) ∷ []) (mark_other (b / 16) 10 (omega arith) (omega arith))
    (All-cons (λ c. (c == 10) ≡ false) (mark (b % 16)) [] (mark_other (b % 16) 10 (omega arith) (omega arith)) (λ k d h. absurd (omega arith)))

-- ---- rows of a dump

-- these lines are rows of a form, with these bytes
abbrev pub AreRows : DumpForm → List (List ℕ) → List (List ℕ) → Type 0
AreRows form [] [] = Unit {0}
AreRows form [] (part ∷ parts) = ⊥
AreRows form (line ∷ lines) [] = ⊥
AreRows form (line ∷ lines) (part ∷ parts) = (is_repeat form line ≡ false) × (row form line ≡ Some part) × AreRows form lines parts

-- a form whose rows are all of it
pub record IsSteady (form : DumpForm) : Type 0 where
  pub stays : next_form form ≡ form
  pub same : (bytes : List ℕ) → in_order form bytes ≡ bytes

one_more : (form : DumpForm) (number : ℕ) (bytes line part : List ℕ) (lines : List (List ℕ)) → IsSteady form → is_repeat form line ≡ false → row form line ≡ Some part → length bytes + length part ≤ 512
    → bytes_of_rows form number false bytes (line ∷ lines) ≡ bytes_of_rows form (number + 1) false (bytes ++ part) lines
one_more form number bytes line part lines steady other is short =
    let go : List ℕ → Result (List ℕ) DumpError = λ now. bytes_of_rows (next_form form) (number + 1) false now lines in
    let room : nat_lt 512 (length bytes + 0 + length part) ≡ false = grind (arith, nat_tests) in
    ap (λ b. if b then bytes_of_rows (next_form form) (number + 1) true bytes lines else with_row form number false bytes line (row form line) go) other
    ∙ ap (λ o. with_row form number false bytes line o go) is
    ∙ ap (λ b. if b then Err (Long number) else go (bytes ++ part)) room
    ∙ ap (λ f. bytes_of_rows f (number + 1) false (bytes ++ part) lines) steady.stays

pub rows_gathered : (form : DumpForm) (lines parts : List (List ℕ)) (number : ℕ) (bytes : List ℕ) → IsSteady form → AreRows form lines parts → length (bytes ++ concat parts) ≤ 512 → length (bytes ++ concat parts) % 128 ≡ 0
    → bytes_of_rows form number false bytes lines ≡ Ok (bytes ++ concat parts)
rows_gathered form [] [] number bytes steady rows most blocks =
    let e : bytes ++ [] ≡ bytes = append-nil bytes in
    let whole : (length bytes % 128 == 0) ≡ true = grind (arith, nat_tests, ap length e) in
    ap (λ b. if b then Ok bytes else Err (Cut number)) whole ∙ ap Ok (sym e)
rows_gathered form [] (part ∷ parts) number bytes steady rows most blocks = absurd rows
rows_gathered form (line ∷ lines) [] number bytes steady rows most blocks = absurd rows
rows_gathered form (line ∷ lines) (part ∷ parts) number bytes steady rows most blocks =
    let e : (bytes ++ part) ++ concat parts ≡ bytes ++ concat (part ∷ parts) = append_assoc bytes part (concat parts) in
    let room : length bytes + length part ≤ 512 = omega (arith, ap length e, length-append (bytes ++ part) (concat parts), length-append bytes part) in
    one_more form number bytes line part lines steady rows.0 rows.1 room
    ∙ rows_gathered form lines parts (number + 1) (bytes ++ part) steady rows.2 (subst (λ l. length l ≤ 512) (sym e) most) (subst (λ l. length l % 128 ≡ 0) (sym e) blocks)
    ∙ ap Ok e

-- a dump of these rows
pub rows_dumped : (form : DumpForm) (text line part : List ℕ) (lines parts : List (List ℕ)) → IsSteady form → lines_of text ≡ line ∷ lines → form_of line ≡ Some form → AreRows form (line ∷ lines) (part ∷ parts)
    → IsParted part parts → edid_in_dump text ≡ Ok (concat (part ∷ parts))
rows_dumped form text line part lines parts steady split first rows is =
    ap (dumped_from 1) split ∙ ap (λ o. gathered_by o 1 (line ∷ lines) (dumped_from 2 lines)) first
    ∙ ap (ordered form) (rows_gathered form (line ∷ lines) (part ∷ parts) 1 [] steady rows is.most is.blocks)
    ∙ ap Ok (steady.same (concat (part ∷ parts)))

pub header_found : (part : List ℕ) → take 8 part ≡ header → begins_with header (Some part) ≡ true
header_found part h = ap (λ l. bytes_eq l header) h

plain_first : (line part : List ℕ) → row Plain line ≡ Some part → take 8 part ≡ header → form_of line ≡ Some Plain
plain_first line part is h =
    let e : has_header line Plain ≡ true = ap (begins_with header) is ∙ header_found part h in
    rw e refl

-- ---- a line for each part

lines_printed : (show : List ℕ → List ℕ) (parts : List (List ℕ)) → All (λ p. IsLine (show p)) parts → lines_of (flat_map (λ p. show p ++ 10 ∷ []) parts) ≡ map show parts
lines_printed show [] h = refl
lines_printed show (part ∷ parts) h =
    ap lines_of (append_assoc (show part) (10 ∷ []) (flat_map (λ p. show p ++ 10 ∷ []) parts))
    ∙ line_before (show part) (flat_map (λ p. show p ++ 10 ∷ []) parts) (All-head (λ p. IsLine (show p)) part parts h)
    ∙ ap (λ l. show part ∷ l) (lines_printed show parts (All-tail (λ p. IsLine (show p)) part parts h))

rows_shown : (show : List ℕ → List ℕ) (parts : List (List ℕ)) → All (λ p. row Plain (show p) ≡ Some p) parts → AreRows Plain (map show parts) parts
rows_shown show [] h = tt
rows_shown show (part ∷ parts) h = (
  refl,
  All-head (λ p. row Plain (show p) ≡ Some p) part parts h,
  rows_shown show parts (All-tail (λ p. row Plain (show p) ≡ Some p) part parts h),
)

plain_row : (line part : List ℕ) → pairs Absent line ≡ Some part → row Plain line ≡ Some part
plain_row line part h = ap (counted_bytes Plain) h

plain_dumped : (show : List ℕ → List ℕ) (first : List ℕ) (parts : List (List ℕ)) → IsParted first parts → ((p : List ℕ) → AreBytes p → pairs Absent (show p) ≡ Some p)
    → ((p : List ℕ) → AreBytes p → IsLine (show p)) → edid_in_dump (flat_map (λ p. show p ++ 10 ∷ []) (first ∷ parts)) ≡ Ok (concat (first ∷ parts))
plain_dumped show first parts is reads line =
    let rows : All (λ p. row Plain (show p) ≡ Some p) (first ∷ parts) =
    All-weaker AreBytes (λ p. row Plain (show p) ≡ Some p) (λ p h. plain_row (show p) p (reads p h)) (first ∷ parts) is.bytes in
    let lines : All (λ p. IsLine (show p)) (first ∷ parts) = All-weaker AreBytes (λ p. IsLine (show p)) line (first ∷ parts) is.bytes in
    rows_dumped Plain (flat_map (λ p. show p ++ 10 ∷ []) (first ∷ parts)) (show first) first (map show parts) parts (record { stays = refl; same = λ b. refl }) (lines_printed show (first ∷ parts) lines)
    (plain_first (show first) first (All-head (λ p. row Plain (show p) ≡ Some p) first parts rows) is.begins) (rows_shown show (first ∷ parts) rows) is

-- ---- plain digits

digits_line_is : (bytes : List ℕ) → AreBytes bytes → IsLine (flat_map hex_text bytes)
digits_line_is [] h = λ k d m. absurd (omega arith)
digits_line_is (b ∷ bytes) h = All-append (λ c. (c == 10) ≡ false) (hex_text b) (flat_map hex_text bytes) (byte_line b (All-head (λ b. b < 256) b bytes h))
    (digits_line_is bytes (All-tail (λ b. b < 256) b bytes h))

digits_read : (bytes : List ℕ) → AreBytes bytes → pairs Absent (flat_map hex_text bytes) ≡ Some bytes
digits_read bytes h =
    ap (pairs Absent) (sym (append-nil (flat_map hex_text bytes))) ∙ pairs_digits Absent bytes [] h ∙ ap Some (append-nil bytes)

pub digits_are_read : DigitsAreRead
digits_are_read first parts is = plain_dumped (flat_map hex_text) first parts is digits_read digits_line_is

-- ---- pairs one space apart

pub spaced_read : (c : Column) (bytes rest : List ℕ) → ((xs : List ℕ) → is_column c (32 ∷ xs) ≡ false) → AreBytes bytes → pairs c (pairs_text bytes ++ rest) ≡ joins bytes (pairs c rest)
spaced_read c [] rest gap h = sym (joins_none (pairs c rest))
spaced_read c (b ∷ []) rest gap h = pairs_byte c b rest (All-head (λ b. b < 256) b [] h) ∙ joined (pairs c rest)
  where
    joined : (o : Option (List ℕ)) → onto b o ≡ joins (b ∷ []) o
    joined None = refl
    joined (Some bytes) = refl
spaced_read c (b ∷ d ∷ bytes) rest gap h =
    let more = pairs_text (d ∷ bytes) ++ rest in
    ap (pairs c) (append_assoc (hex_text b) (32 ∷ pairs_text (d ∷ bytes)) rest) ∙ pairs_byte c b (32 ∷ more) (All-head (λ b. b < 256) b (d ∷ bytes) h)
    ∙ ap (onto b) (pairs_blank c 32 more (gap more) refl ∙ spaced_read c (d ∷ bytes) rest gap (All-tail (λ b. b < 256) b (d ∷ bytes) h))
    ∙ joins_byte b (d ∷ bytes) (pairs c rest)

pub spaced_line : (bytes : List ℕ) → AreBytes bytes → IsLine (pairs_text bytes)
spaced_line [] h = λ k d m. absurd (omega arith)
spaced_line (b ∷ []) h = byte_line b (All-head (λ b. b < 256) b [] h)
spaced_line (b ∷ d ∷ bytes) h = All-append (λ c. (c == 10) ≡ false) (hex_text b) (32 ∷ pairs_text (d ∷ bytes)) (byte_line b (All-head (λ b. b < 256) b (d ∷ bytes) h))
    (All-cons (λ c. (c == 10) ≡ false) 32 (pairs_text (d ∷ bytes)) refl (spaced_line (d ∷ bytes) (All-tail (λ b. b < 256) b (d ∷ bytes) h)))

pairs_read : (bytes : List ℕ) → AreBytes bytes → pairs Absent (pairs_text bytes) ≡ Some bytes
pairs_read bytes h =
    ap (pairs Absent) (sym (append-nil (pairs_text bytes))) ∙ spaced_read Absent bytes [] (λ xs. refl) h ∙ ap Some (append-nil bytes)

pub pairs_are_read : PairsAreRead
pairs_are_read first parts is = plain_dumped pairs_text first parts is pairs_read spaced_line
