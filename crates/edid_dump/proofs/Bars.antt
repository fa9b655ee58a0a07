-- Rows with bars are read back.
use Rattle.std.proofs.Common.{◌≡◌, ℕ, ◌+◌, ◌%◌, ◌<◌, ◌≤◌, ◌==◌, ◌&&◌, ◌||◌, Bool, true, false, if◌then◌else◌, List, [], ◌∷◌, ◌++◌, length, drop, take, Option, Some, None, Ok, All, map, refl, sym, ap, subst, ◌∙◌, append-nil, arith}
use Rattle.std.specs.List.{concat}
use Rattle.std.proofs.lemmas.Bool.{false≢true}
use Rattle.std.proofs.lemmas.List.{take-append-drop}
use Rattle.std.proofs.lemmas.List.Elements.{All-append, All-cons, All-drop, All-head, All-tail, All-take}
use Rattle.text_core.specs.Lines.{lines_of}
use Rattle.edid_dump.specs.declared.digits.Column.{Column}
use Rattle.edid_dump.specs.declared.digits.Column.TheVariants.{Absent, AfterBar}
use Rattle.edid_dump.specs.declared.rows.DumpForm.TheVariants.{Bars, Colon, Plain}
use Rattle.edid_dump.specs.Digits.{is_column, onto, pairs}
use Rattle.edid_dump.specs.Rows.{begins_with, counted_bytes, digits_start, form_of, has_header, has_offset, header, row, row_from}
use Rattle.edid_dump.specs.Dump.{dumped_from, gathered_by, ordered}
use Rattle.edid_dump.specs.Printed.{BarsAreRead, bars_line, bars_text, character, offset_text, pairs_text}
use Rattle.edid_dump.proofs.DigitFacts.{joins}
use Rattle.edid_dump.proofs.Offsets.{characters_line, fits_first, offset_line, offset_read}
use Rattle.edid_dump.proofs.Pairing.{pairs_blank, pairs_column}
use Rattle.edid_dump.proofs.Printing.{AreBytes, AreRows, IsLine, header_found, line_before, rows_gathered, spaced_line, spaced_read}
use Rattle.edid_dump.proofs.RowLemmas.{row_absent}

-- ---- the bytes of a row

-- two spaces before more
gap : (c : Column) (xs : List ℕ) → ((ys : List ℕ) → is_column c (32 ∷ ys) ≡ false) → pairs c (32 ∷ 32 ∷ xs) ≡ pairs c xs
gap c xs plain = pairs_blank c 32 (32 ∷ xs) (plain (32 ∷ xs)) refl ∙ pairs_blank c 32 xs (plain xs) refl

abbrev halves : List ℕ → List ℕ → List ℕ
halves part rest = 32 ∷ 32 ∷ pairs_text (take 8 part) ++ (32 ∷ 32 ∷ pairs_text (drop 8 part) ++ (32 ∷ 32 ∷ rest))

halves_read : (c : Column) (part rest : List ℕ) → ((ys : List ℕ) → is_column c (32 ∷ ys) ≡ false) → AreBytes part
    → pairs c (halves part rest) ≡ joins (take 8 part) (joins (drop 8 part) (pairs c rest))
halves_read c part rest plain h =
    let last = 32 ∷ 32 ∷ rest in
    let middle = 32 ∷ 32 ∷ pairs_text (drop 8 part) ++ last in
    gap c (pairs_text (take 8 part) ++ middle) plain ∙ spaced_read c (take 8 part) middle plain (All-take (λ b. b < 256) 8 part h)
    ∙ ap (joins (take 8 part))
    (gap c (pairs_text (drop 8 part) ++ last) plain ∙ spaced_read c (drop 8 part) last plain (All-drop (λ b. b < 256) 8 part h) ∙ ap (joins (drop 8 part)) (gap c rest plain))

abbrev eight_if : Bool → Option ℕ
eight_if b = if b then Some 8 else None

bars_test : (a l : Bool) → a ≡ true → eight_if (a && (l || true)) ≡ Some 8
bars_test true true h = refl
bars_test true false h = refl
bars_test false l h = absurd (false≢true h)

bars_start : (place : ℕ) (rest : List ℕ) → place < 65536 → digits_start Bars (offset_text place ++ 32 ∷ 32 ∷ rest) ≡ Some 8
bars_start place rest h = bars_test (has_offset (offset_text place ++ 32 ∷ 32 ∷ rest)) (length (offset_text place ++ 32 ∷ 32 ∷ rest) == 8) (offset_read place (32 ∷ 32 ∷ rest) h)

bars_row : (place : ℕ) (part : List ℕ) → place < 65536 → AreBytes part → row Bars (bars_line place part) ≡ Some part
bars_row place part low h =
    let chars = map character part ++ 124 ∷ [] in
    let second : joins (drop 8 part) (pairs AfterBar (124 ∷ chars)) ≡ Some (drop 8 part) =
    ap (joins (drop 8 part)) (pairs_column AfterBar 124 chars refl) ∙ ap Some (append-nil (drop 8 part)) in
    ap (row_from Bars (bars_line place part)) (bars_start place (pairs_text (take 8 part) ++ (32 ∷ 32 ∷ pairs_text (drop 8 part) ++ (32 ∷ 32 ∷ 124 ∷ chars))) low)
    ∙ ap (counted_bytes Bars) (halves_read AfterBar part (124 ∷ chars) (λ ys. refl) h ∙ ap (joins (take 8 part)) second ∙ ap Some (take-append-drop 8 part))

end_row : (place : ℕ) → place < 65536 → row Bars (offset_text place) ≡ Some []
end_row place h =
    let start : digits_start Bars (offset_text place) ≡ Some 8 = ap (λ b. if b && true then Some 8 else None) (offset_read place [] h) in
    ap (row_from Bars (offset_text place)) start

-- ---- its line

both_lines : (xs ys : List ℕ) → IsLine xs → IsLine ys → IsLine (xs ++ ys)
both_lines xs ys h k = All-append (λ c. (c == 10) ≡ false) xs ys h k

more_line : (c : ℕ) (cs : List ℕ) → (c == 10) ≡ false → IsLine cs → IsLine (c ∷ cs)
more_line c cs h k = All-cons (λ c. (c == 10) ≡ false) c cs h k

bars_line_is : (place : ℕ) (part : List ℕ) → place < 65536 → AreBytes part → IsLine (bars_line place part)
bars_line_is place part low h =
    let chars = map character part ++ 124 ∷ [] in
    let front = 32 ∷ 32 ∷ pairs_text (take 8 part) in
    let back = 32 ∷ 32 ∷ pairs_text (drop 8 part) in
    let last = 32 ∷ 32 ∷ 124 ∷ chars in
    let ends : IsLine (124 ∷ []) = more_line 124 [] refl (λ k d m. absurd (omega arith)) in
    both_lines (offset_text place) (front ++ (back ++ last)) (offset_line place low)
    (both_lines front (back ++ last) (more_line 32 (32 ∷ pairs_text (take 8 part)) refl (more_line 32 (pairs_text (take 8 part)) refl (spaced_line (take 8 part) (All-take (λ b. b < 256) 8 part h))))
    (both_lines back last (more_line 32 (32 ∷ pairs_text (drop 8 part)) refl (more_line 32 (pairs_text (drop 8 part)) refl (spaced_line (drop 8 part) (All-drop (λ b. b < 256) 8 part h))))
    (more_line 32 (32 ∷ 124 ∷ chars) refl (more_line 32 (124 ∷ chars) refl (more_line 124 chars refl (both_lines (map character part) (124 ∷ []) (characters_line part) ends))))))

-- ---- all rows

abbrev bars_lines : ℕ → List (List ℕ) → List (List ℕ)
bars_lines place [] = offset_text place ∷ []
bars_lines place (part ∷ parts) = bars_line place part ∷ bars_lines (place + length part) parts

bars_printed : (place : ℕ) (parts : List (List ℕ)) → place + length (concat parts) ≤ 512 → All AreBytes parts → lines_of (bars_text place parts) ≡ bars_lines place parts
bars_printed place [] low h = line_before (offset_text place) [] (offset_line place (omega arith))
bars_printed place (part ∷ parts) low h =
    let small : place < 65536 = omega arith in
    line_before (bars_line place part) (bars_text (place + length part) parts) (bars_line_is place part small (All-head AreBytes part parts h))
    ∙ ap (λ l. bars_line place part ∷ l) (bars_printed (place + length part) parts (fits_first place part parts low) (All-tail AreBytes part parts h))

nor : (b : Bool) → (b && false) ≡ false
nor true = refl
nor false = refl

bars_rows : (place : ℕ) (parts : List (List ℕ)) → place + length (concat parts) ≤ 512 → All AreBytes parts → AreRows Bars (bars_lines place parts) (parts ++ [] ∷ [])
bars_rows place [] low h = (nor (length (offset_text place) == 1), end_row place (omega arith), tt)
bars_rows place (part ∷ parts) low h =
    let small : place < 65536 = omega arith in (
      nor (length (bars_line place part) == 1),
      bars_row place part small (All-head AreBytes part parts h),
      bars_rows (place + length part) parts (fits_first place part parts low) (All-tail AreBytes part parts h),
    )

-- the first row is none of plain digits, and none with a colon
bar_none : (part : List ℕ) → pairs Absent (124 ∷ (map character part ++ 124 ∷ [])) ≡ None
bar_none [] = refl
bar_none (b ∷ part) = refl

not_plain : (part : List ℕ) → AreBytes part → row Plain (bars_line 0 part) ≡ None
not_plain part h =
    let none : pairs Absent (halves part (124 ∷ (map character part ++ 124 ∷ []))) ≡ None =
    halves_read Absent part (124 ∷ (map character part ++ 124 ∷ [])) (λ ys. refl) h ∙ ap (λ o. joins (take 8 part) (joins (drop 8 part) o)) (bar_none part) in
    ap (λ o. counted_bytes Plain (onto 0 (onto 0 (onto 0 (onto 0 o))))) none

not_colon : (place : ℕ) (part : List ℕ) → row Colon (bars_line place part) ≡ None
not_colon place part = row_absent Colon (bars_line place part) (ap (λ b. if b then Some 9 else None) (nor (has_offset (bars_line place part))))

bars_first : (line part : List ℕ) → row Plain line ≡ None → row Colon line ≡ None → row Bars line ≡ Some part → take 8 part ≡ header → form_of line ≡ Some Bars
bars_first line part h k is begins =
    let e : has_header line Plain ≡ false = ap (begins_with header) h in
    let f : has_header line Colon ≡ false = ap (begins_with header) k in
    let g : has_header line Bars ≡ true = ap (begins_with header) is ∙ header_found part begins in
    rw (e, f, g) refl

concat_end : (parts : List (List ℕ)) → concat (parts ++ [] ∷ []) ≡ concat parts
concat_end [] = refl
concat_end (part ∷ parts) = ap (λ l. part ++ l) (concat_end parts)

pub bars_are_read : BarsAreRead
bars_are_read first parts is =
    let small : 0 < 65536 = omega arith in
    let bytes = All-head AreBytes first parts is.bytes in
    let line = bars_line 0 first in
    let lines = bars_lines (0 + length first) parts in
    let e : concat ((first ∷ parts) ++ [] ∷ []) ≡ concat (first ∷ parts) = concat_end (first ∷ parts) in
    ap (dumped_from 1) (bars_printed 0 (first ∷ parts) (omega (arith, is.most)) is.bytes)
    ∙ ap (λ o. gathered_by o 1 (line ∷ lines) (dumped_from 2 lines)) (bars_first line first (not_plain first bytes) (not_colon 0 first) (bars_row 0 first small bytes) is.begins)
    ∙ ap (ordered Bars) (rows_gathered Bars (line ∷ lines) ((first ∷ parts) ++ [] ∷ []) 1 [] (record { stays = refl; same = λ b. refl }) (bars_rows 0 (first ∷ parts) (omega (arith, is.most)) is.bytes)
    (subst (λ l. length l ≤ 512) (sym e) is.most) (subst (λ l. length l % 128 ≡ 0) (sym e) is.blocks))
    ∙ ap Ok e
