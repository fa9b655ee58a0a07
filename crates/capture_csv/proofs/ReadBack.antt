-- The file of a line is read back.
use Rattle.std.proofs.Common.{◌≡◌, ℕ, zero, suc, ◌+◌, ◌-◌, ◌*◌, ◌/◌, ◌%◌, ◌<◌, ◌≤◌, ◌==◌, not, Bool, true, false, if◌then◌else◌, cond, nat_lt, nat_le, List, [], ◌∷◌, ◌++◌, length, take, drop, slice_index, Option, Some, None, Result, Ok, Err, codes, refl, sym, ap, subst, ◌∙◌, arith, append-nil, append_assoc, length-append}
use Rattle.std.proofs.Math.Seq.{take-append_seam, drop-append-add}
use Rattle.std.specs.Fmt.{decimal}
use Rattle.std.specs.List.{list_all}
use Rattle.std.specs.Option.{option_to_list}
use Rattle.std.specs.Char.{digit_value, is_ascii_digit}
use Rattle.std.specs.Str.Parse.{AllDigits}
use Rattle.std.proofs.lemmas.Fmt.{decimal_is_IsNumeral, decimal_nonempty}
use Rattle.std.proofs.lemmas.Bool.Decides.{nat_tests}
use Rattle.std.proofs.lemmas.List.Elements.{All-append}
use Rattle.std.proofs.lemmas.List.Splits.{slice_split_at, slice_split_none}
use Rattle.line_wave.specs.declared.Edge.{Edge}
use Rattle.line_wave.specs.declared.Stretch.{Stretch}
use Rattle.line_wave.specs.Line.{IsWaveFrom}
use Rattle.text_core.specs.Lines.{lines_of}
use Rattle.text_core.specs.Number.{number_of}
use Rattle.text_core.specs.declared.at.At.{At}
use Rattle.capture_core.specs.Edges.{Captured, edges_of, EndsBy}
use Rattle.capture_core.specs.Seconds.{decimals_of, dot_in, instant_of, nine, nine_digits}
use Rattle.capture_core.specs.Track.{differ, due, track_at}
use Rattle.capture_core.specs.Texts.{Lacks}
use Rattle.capture_core.proofs.Decimals.{decimals_again}
use Rattle.capture_core.proofs.Moving as moving
use Rattle.capture_core.proofs.Numbers.{number_again}
use Rattle.capture_core.proofs.Bytes.{dot_at, no_byte}
use Rattle.capture_core.proofs.Ends.{ends_by}
use Rattle.capture_core.proofs.Texts.{digits_lack, line_before, shown}
use Rattle.capture_core.specs.Reading.{at_word, lines_read, with_edges}
use Rattle.capture_core.specs.declared.fault.Cause.{Cause}
use Rattle.capture_core.proofs.Passing.{alone}
use Rattle.capture_csv.specs.Clock.{cut_decimals}
use Rattle.capture_csv.specs.Csv.{csv_form, edges_in, fields_of, level_by, moved_by, moved_to, named_read, row_by, row_in, row_of, signed_by, since, since_by, time_of, took, took_by, without_return, word_at_fault}
use Rattle.capture_csv.specs.Level.{low_by}
use Rattle.capture_csv.specs.Unit.{nanos_by, nanos_of}
use Rattle.capture_csv.specs.Text.{changes, head, row_line, row_text, stretch_text, CsvFilesAreReadBack}
use Rattle.capture_csv.specs.declared.column.Column.{Column}
use Rattle.capture_csv.specs.declared.column.TimeUnit.TheVariants.{Seconds}
use Rattle.capture_csv.specs.declared.level.Said.{Said}
use Rattle.capture_csv.specs.declared.level.Said.TheVariants.{Low, High}
use Rattle.capture_csv.specs.declared.row.Time.{Time}
use Rattle.capture_csv.specs.declared.reader.CsvReader.{CsvReader}

-- ---- bytes

last_at : (xs : List ℕ) (b : ℕ) → slice_index (xs ++ b ∷ []) (length xs) ≡ b
last_at [] b = refl
last_at (x ∷ xs) b = last_at xs b

no_return : (xs : List ℕ) (b : ℕ) → (b == 13) ≡ false → without_return (xs ++ b ∷ []) ≡ xs ++ b ∷ []
no_return xs b h =
    let count : length (xs ++ b ∷ []) - 1 ≡ length xs = omega (arith, length-append xs (b ∷ [])) in
    let other : (slice_index (xs ++ b ∷ []) (length (xs ++ b ∷ []) - 1) == 13) ≡ false = ap (λ k. slice_index (xs ++ b ∷ []) k == 13) count ∙ ap (λ c. c == 13) (last_at xs b) ∙ h in
    rw other refl

-- ---- a row

abbrev seconds : ℕ → List ℕ
seconds t = decimal (t / 1000000) ++ 46 ∷ nine_digits (t % 1000000)

abbrev nanos : ℕ → ℕ
nanos t = t / 1000000 * 1000000000 + t % 1000000 * 1000

abbrev time_at : ℕ → Time
time_at t = record { is_below = false; nanos = nanos t }

row_parts : (t level : ℕ) → row_line t level ≡ seconds t ++ 44 ∷ level ∷ []
row_parts t level = sym (append_assoc (decimal (t / 1000000)) (46 ∷ nine_digits (t % 1000000)) (44 ∷ level ∷ []))

row_last : (t level : ℕ) → row_line t level ≡ (seconds t ++ 44 ∷ []) ++ level ∷ []
row_last t level = row_parts t level ∙ sym (append_assoc (seconds t) (44 ∷ []) (level ∷ []))

digits_of : (t : ℕ) → t ≤ 2000000000000 → AllDigits 10 (decimal (t / 1000000))
digits_of t low = (decimal_is_IsNumeral (t / 1000000) (omega arith)).0.1

high : (b d : ℕ) → b < 48 → (48 + d == b) ≡ false
high b d h = grind (arith, nat_tests)

seconds_lack : (b t : ℕ) → b < 46 → t ≤ 2000000000000 → Lacks (λ c. c == b) (seconds t)
seconds_lack b t small low =
    let n = t % 1000000 in
    let dot : (46 == b) ≡ false = grind (arith, nat_tests) in
    let zero : (48 == b) ≡ false = grind (arith, nat_tests) in
    All-append (λ c. (c == b) ≡ false) (decimal (t / 1000000)) (46 ∷ nine_digits n) (digits_lack (λ c. c == b) (decimal (t / 1000000)) (λ c d. no_byte b c d (omega arith)) (digits_of t low))
    (shown (λ c. c == b) (46 ∷ nine_digits n)
    (rw (dot, zero, high b (n / 100000 % 10) (omega arith), high b (n / 10000 % 10) (omega arith), high b (n / 1000 % 10) (omega arith), high b (n / 100 % 10) (omega arith), high b (n / 10 % 10) (omega arith), high b (n % 10) (omega arith)) refl))

no_minus : (ds more : List ℕ) → 0 < length ds → AllDigits 10 ds → (slice_index (ds ++ more) 0 == 45) ≡ false
no_minus [] more some h = absurd (omega arith)
no_minus (c ∷ cs) more some h = no_byte 45 c h.0 (omega arith)

-- the decimals that are written are nine
was_taken : (b : Bool) (x y : ℕ) → (if b then Some x else None) ≡ Some y → b ≡ true
was_taken true x y h = refl
was_taken false x y h = cc

cut_again : (n : ℕ) → n < 1000000 → cut_decimals (nine_digits n) ≡ Some (n * 1000)
cut_again n low =
    ap (λ b. if b then decimals_of (nine_digits n) else None) (was_taken (list_all is_ascii_digit (nine_digits n)) (nine (nine_digits n)) (n * 1000) (decimals_again n low))
    ∙ decimals_again n low

small_by : (most n : ℕ) → n ≤ most → nat_lt most n ≡ false
small_by most n h = grind (arith, nat_tests)

-- the column of the line
abbrev written : Column
written = record { place = 1; unit = Seconds }

nanos_ok : (t : ℕ) → t ≤ 2000000000000 → nanos_of Seconds (seconds t) ≡ Some (nanos t)
nanos_ok t low =
    let s = t / 1000000 in
    let n = t % 1000000 in
    let dot : dot_in (seconds t) ≡ length (decimal s) = dot_at (decimal s) (nine_digits n) (digits_lack (λ c. c == 46) (decimal s) (λ c d. no_byte 46 c d (omega arith)) (digits_of t low)) in
    let front : take (length (decimal s)) (seconds t) ≡ decimal s = take-append_seam (decimal s) (46 ∷ nine_digits n) in
    let back : drop (length (decimal s) + 1) (seconds t) ≡ nine_digits n = drop-append-add (decimal s) (46 ∷ nine_digits n) 1 in
    let few : nat_lt 9999999999 s ≡ false = small_by 9999999999 s (omega arith) in
    let part : nat_lt 999999999 (n * 1000) ≡ false = small_by 999999999 (n * 1000) (omega arith) in
    ap (λ k. nanos_by Seconds (number_of (take k (seconds t))) (cut_decimals (drop (k + 1) (seconds t)))) dot
    ∙ ap (λ l. nanos_by Seconds (number_of l) (cut_decimals (drop (length (decimal s) + 1) (seconds t)))) front
    ∙ ap (λ l. nanos_by Seconds (number_of (decimal s)) (cut_decimals l)) back
    ∙ ap (λ o. nanos_by Seconds o (cut_decimals (nine_digits n))) (number_again s (omega arith))
    ∙ ap (nanos_by Seconds (Some s)) (cut_again n (omega arith))
    ∙ rw (part, few) refl

-- and are no time of the day
no_letter : (c : ℕ) → digit_value c < 10 → (c == 84) ≡ false
no_letter c h = grind (arith, nat_tests)

no_digit : (d : ℕ) → d < 10 → (48 + d == 84) ≡ false
no_digit d h = grind (arith, nat_tests)

letters_lack : (t : ℕ) → t ≤ 2000000000000 → Lacks (λ c. c == 84) (seconds t)
letters_lack t low =
    let n = t % 1000000 in
    All-append (λ c. (c == 84) ≡ false) (decimal (t / 1000000)) (46 ∷ nine_digits n) (digits_lack (λ c. c == 84) (decimal (t / 1000000)) no_letter (digits_of t low))
    (shown (λ c. c == 84) (46 ∷ nine_digits n)
    (rw (no_digit (n / 100000 % 10) (omega arith), no_digit (n / 10000 % 10) (omega arith), no_digit (n / 1000 % 10) (omega arith), no_digit (n / 100 % 10) (omega arith), no_digit (n / 10 % 10) (omega arith), no_digit (n % 10) (omega arith)) refl))

none_at : (xs : List ℕ) (k : ℕ) → Lacks (λ c. c == 84) xs → (slice_index xs k == 84) ≡ false
none_at [] k h = refl
none_at (x ∷ xs) zero h = h 0 x (omega arith)
none_at (x ∷ xs) (suc k) h = none_at xs k (λ j d low. h (suc j) d (omega (arith, low)))

time_ok : (t : ℕ) → t ≤ 2000000000000 → time_of Seconds (seconds t) ≡ Some (time_at t)
time_ok t low =
    let plus : (slice_index (seconds t) 0 == 45) ≡ false = no_minus (decimal (t / 1000000)) (46 ∷ nine_digits (t % 1000000)) (decimal_nonempty (t / 1000000) (omega arith)) (digits_of t low) in
    rw (none_at (seconds t) 10 (letters_lack t low), plus) (ap (signed_by false) (nanos_ok t low))

-- of a level
record IsLevel (level : ℕ) (low : Bool) : Type 0 where
  said : Said
  reported : level_by (Some (level ∷ [])) ≡ Some said
  so : (was : Bool) → low_by said was ≡ low
  alone : fields_of (level ∷ []) ≡ (level ∷ []) ∷ []
  plain : (level == 10) ≡ false
  last : (level == 13) ≡ false

fall : IsLevel 48 true
fall = record { said = Low; reported = refl; so = λ was. refl; alone = refl; plain = refl; last = refl }

rise : IsLevel 49 false
rise = record { said = High; reported = refl; so = λ was. refl; alone = refl; plain = refl; last = refl }

row_ok : (t level : ℕ) (low : Bool) → t ≤ 2000000000000 → (l : IsLevel level low) → row_of written (row_line t level) ≡ Some (record { time = time_at t; said = l.said })
row_ok t level low early is =
    let whole : without_return (row_line t level) ≡ seconds t ++ 44 ∷ level ∷ [] =
    ap without_return (row_last t level) ∙ no_return (seconds t ++ 44 ∷ []) level is.last ∙ sym (row_last t level) ∙ row_parts t level in
    let cut : fields_of (seconds t ++ 44 ∷ level ∷ []) ≡ seconds t ∷ (level ∷ []) ∷ [] =
    slice_split_at (λ b. b == 44) (seconds t) 44 (level ∷ []) (seconds_lack 44 t (omega arith) early) refl ∙ ap (λ fs. seconds t ∷ fs) is.alone in
    ap (λ l. row_in written (fields_of l)) whole ∙ ap (row_in written) cut ∙ ap (λ o. row_by o (level_by (Some (level ∷ [])))) (time_ok t early) ∙ ap (row_by (Some (time_at t))) is.reported

row_plain : (t level : ℕ) (low : Bool) → t ≤ 2000000000000 → IsLevel level low → Lacks (λ c. c == 10) (row_line t level)
row_plain t level low early is =
    let comma : Lacks (λ c. c == 10) (44 ∷ level ∷ []) = shown (λ c. c == 10) (44 ∷ level ∷ []) (rw is.plain refl) in
    subst (Lacks (λ c. c == 10)) (sym (row_parts t level)) (All-append (λ c. (c == 10) ≡ false) (seconds t) (44 ∷ level ∷ []) (seconds_lack 10 t (omega arith) early) comma)

-- ---- a reader of rows from 0 on

abbrev from_zero : Time
from_zero = record { is_below = false; nanos = 0 }

abbrev stood : Bool → ℕ → Bool → Bool → CsvReader
stood is_again at was_low is_low = record { column = written; first = Some from_zero; is_again = is_again; is_low = is_low; track = track_at at was_low is_low }

since_ok : (t : ℕ) → since from_zero (time_at t) ≡ Some (nanos t)
since_ok t = let l : nat_le 0 (nanos t) ≡ true = grind (arith, nat_tests) in rw l (ap Some (let x : nanos t - 0 ≡ nanos t = omega arith in x))

instant_ok : (t : ℕ) → t ≤ 2000000000000 → instant_of (nanos t) ≡ Some t
instant_ok t h =
    let whole : nanos t ≡ t * 1000 = omega arith in
    let low : nat_lt 2000000000000000 (t * 1000) ≡ false = grind (arith, nat_tests) in
    let up : (t * 1000 + 999) / 1000 ≡ t = omega arith in
    ap instant_of whole ∙ rw low (ap Some up)

row_taken : (t level : ℕ) (low : Bool) (again : Bool) (at : ℕ) (was is : Bool) → t ≤ 2000000000000 → IsLevel level low
    → took (row_line t level) (stood again at was is) ≡ moved_to from_zero (Some t) low (stood again at was is)
row_taken t level low again at was is early l =
    ap (λ o. took_by o (stood again at was is)) (row_ok t level low early l)
    ∙ ap (λ b. since_by from_zero (since from_zero (time_at t)) b (stood again at was is)) (l.so is)
    ∙ ap (λ o. since_by from_zero o low (stood again at was is)) (since_ok t)
    ∙ ap (λ o. moved_to from_zero o low (stood again at was is)) (instant_ok t early)

-- a row's line, before what follows
reported_line : (number t level : ℕ) (low : Bool) (more : List ℕ) (again : Bool) (at : ℕ) (was is : Bool) (u : CsvReader) (edge : Option Edge) → t ≤ 2000000000000 → IsLevel level low
    → moved_to from_zero (Some t) low (stood again at was is) ≡ Ok (record { state = u; edge = edge })
    → lines_read csv_form number (lines_of (row_line t level ++ 10 ∷ more)) (stood again at was is) ≡ with_edges (option_to_list edge) (lines_read csv_form (number + 1) (lines_of more) u)
reported_line number t level low more again at was is u edge early l move =
    ap (λ lines. lines_read csv_form number lines (stood again at was is)) (line_before (row_line t level) more (row_plain t level low early l))
    ∙ alone csv_form number (row_line t level) (lines_of more) (stood again at was is) (record { state = u; edge = edge }) (slice_split_none (λ b. false) (row_line t level) (λ k d h. refl))
    (ap (at_word (word_at_fault written (row_line t level))) (row_taken t level low again at was is early l ∙ move))

-- ---- changes

abbrev again_by : Bool → Bool → Bool
again_by low is_low = not (differ low is_low)

move_kept : (t at : ℕ) (again b low : Bool) → at ≤ t → moved_to from_zero (Some t) low (stood again at b b) ≡ Ok (record { state = stood (again_by low b) t b low; edge = None })
move_kept t at again b low after = ap (λ m. moved_by from_zero m low (stood again at b b)) (moving.move_kept t at b after)

move_reported : (t at : ℕ) (again b low : Bool) → at < t
    → moved_to from_zero (Some t) low (stood again at (not b) b) ≡ Ok (record { state = stood (again_by low b) t b low; edge = Some (record { at = at; low = b }) })
move_reported t at again b low after = ap (λ m. moved_by from_zero m low (stood again at (not b) b)) (moving.move_reported t at b after)

move_same : (t : ℕ) (again was is low : Bool) → moved_to from_zero (Some t) low (stood again t was is) ≡ Ok (record { state = stood (again_by low is) t was low; edge = None })
move_same t again was is low = ap (λ m. moved_by from_zero m low (stood again t was is)) (moving.move_same t was is)

abbrev with_end : List Edge → ℕ → Result Captured (At Cause)
with_end edges end = Ok (record { edges = edges; end = end })

-- what the rest of a file is read as, where a rise may be due
abbrev Reads : List ℕ → ℕ → Bool → List Edge → ℕ → Type 0
Reads text at b edges end = (number : ℕ) (again : Bool) → lines_read csv_form number (lines_of text) (stood again at b false) ≡ with_end (option_to_list (due at b) ++ edges) end

cut_line : (t level : ℕ) (more : List ℕ) → row_text t level ++ more ≡ row_line t level ++ 10 ∷ more
cut_line t level more =
    append_assoc (decimal (t / 1000000)) (46 ∷ (nine_digits (t % 1000000) ++ 44 ∷ level ∷ 10 ∷ [])) more
    ∙ sym (append_assoc (decimal (t / 1000000)) (46 ∷ (nine_digits (t % 1000000) ++ 44 ∷ level ∷ [])) (10 ∷ more))

fall_reads : (t at : ℕ) (b : Bool) (more : List ℕ) (edges : List Edge) (end : ℕ) → cond b (at + 1) at ≤ t → t ≤ 2000000000000
    → ((number : ℕ) (again : Bool) → lines_read csv_form number (lines_of more) (stood again t false true) ≡ with_end edges end)
    → (number : ℕ) (again : Bool) → lines_read csv_form number (lines_of (row_line t 48 ++ 10 ∷ more)) (stood again at b false) ≡ with_end (option_to_list (due at b) ++ edges) end
fall_reads t at true more edges end after low rest number again =
    reported_line number t 48 true more again at true false (stood (again_by true false) t false true) (Some (record { at = at; low = false })) low fall (move_reported t at again false true (omega (arith, after)))
    ∙ ap (with_edges (record { at = at; low = false } ∷ [])) (rest (number + 1) (again_by true false))
fall_reads t at false more edges end after low rest number again =
    reported_line number t 48 true more again at false false (stood (again_by true false) t false true) None low fall (move_kept t at again false true after)
    ∙ ap (with_edges []) (rest (number + 1) (again_by true false))

stretch_parts : (s : Stretch) → stretch_text s ≡ row_text s.from 48 ++ row_text s.to 49
stretch_parts s = sym (append_assoc (decimal (s.from / 1000000)) (46 ∷ (nine_digits (s.from % 1000000) ++ 44 ∷ 48 ∷ 10 ∷ [])) (row_text s.to 49))

stretch_reads : (s : Stretch) (at : ℕ) (b : Bool) (more : List ℕ) (edges : List Edge) (end : ℕ) → cond b (at + 1) at ≤ s.from → s.from < s.to → s.to ≤ 2000000000000
    → Reads more s.to true edges end → Reads (stretch_text s ++ more) at b (record { at = s.from; low = true } ∷ record { at = s.to; low = false } ∷ edges) end
stretch_reads s at b more edges end after wide low rest number again =
    let parts : stretch_text s ++ more ≡ row_line s.from 48 ++ 10 ∷ (row_line s.to 49 ++ 10 ∷ more) =
    ap (λ l. l ++ more) (stretch_parts s) ∙ append_assoc (row_text s.from 48) (row_text s.to 49) more ∙ ap (λ l. row_text s.from 48 ++ l) (cut_line s.to 49 more) ∙ cut_line s.from 48 (row_line s.to 49 ++ 10 ∷ more) in
    ap (λ text. lines_read csv_form number (lines_of text) (stood again at b false)) parts
    ∙ fall_reads s.from at b (row_line s.to 49 ++ 10 ∷ more) (record { at = s.from; low = true } ∷ record { at = s.to; low = false } ∷ edges) end after (omega arith)
    (λ n a.
    reported_line n s.to 49 false more a s.from false true (stood (again_by false true) s.to true false) (Some (record { at = s.from; low = true })) low rise (move_reported s.to s.from a true false wide)
    ∙ ap (with_edges (record { at = s.from; low = true } ∷ [])) (rest (n + 1) (again_by false true)))
    number again

-- the level is reported again at the end
end_reads : (end at : ℕ) (b : Bool) → at ≤ end → end ≤ 2000000000000 → Reads (row_text end 49) at b [] end
end_reads end at false after low number again =
    ap (λ text. lines_read csv_form number (lines_of text) (stood again at false false)) (sym (append-nil (row_text end 49)) ∙ cut_line end 49 [])
    ∙ reported_line number end 49 false [] again at false false (stood true end false false) None low rise (move_kept end at again false false after)
end_reads end at true after low number again = by (nat_lt at end) refl
  where
    by : (t : Bool) → nat_lt at end ≡ t → lines_read csv_form number (lines_of (row_text end 49)) (stood again at true false) ≡ with_end (record { at = at; low = false } ∷ []) end
    by true h =
        let earlier : at < end = grind (arith, nat_tests) in
        ap (λ text. lines_read csv_form number (lines_of text) (stood again at true false)) (sym (append-nil (row_text end 49)) ∙ cut_line end 49 [])
        ∙ reported_line number end 49 false [] again at true false (stood true end false false) (Some (record { at = at; low = false })) low rise (move_reported end at again false false earlier)
    by false h =
        let same : at ≡ end = grind (arith, nat_tests) in
        ap (λ text. lines_read csv_form number (lines_of text) (stood again at true false)) (sym (append-nil (row_text end 49)) ∙ cut_line end 49 [])
        ∙ ap (λ k. lines_read csv_form number (lines_of (row_line end 49 ++ 10 ∷ [])) (stood again k true false)) same
        ∙ reported_line number end 49 false [] again end true false (stood true end true false) None low rise (move_same end again true false false)
        ∙ ap (λ k. with_end (record { at = k; low = false } ∷ []) end) (sym same)

changes_read : (ss : List Stretch) (at : ℕ) (b : Bool) (end : ℕ) → IsWaveFrom (cond b (at + 1) at) ss → EndsBy end ss → at ≤ end → end ≤ 2000000000000
    → Reads (changes ss ++ row_text end 49) at b (edges_of ss) end
changes_read [] at b end wave by after low = end_reads end at b after low
changes_read (s ∷ ss) at b end wave by after low = λ number again.
    let ends = by.0 in
    ap (λ text. lines_read csv_form number (lines_of text) (stood again at b false)) (append_assoc (stretch_text s) (changes ss) (row_text end 49))
    ∙ stretch_reads s at b (changes ss ++ row_text end 49) (edges_of ss) end wave.0 wave.1 (omega (arith, ends)) (changes_read ss s.to true end wave.2 by.1 ends low) number again

-- ---- the head

head_read : (more : List ℕ) → edges_in [] (head ++ more) ≡ lines_read csv_form 3 (lines_of more) (stood true 0 false false)
head_read more =
    let rest = codes "0.000000000,1" ++ 10 ∷ more in
    ap (named_read []) (line_before (codes "Time [s],CEC") rest (shown (λ c. c == 10) (codes "Time [s],CEC") refl))
    ∙ ap (λ lines. lines_read csv_form 2 lines (record { column = written; first = None; is_again = true; is_low = false; track = track_at 0 false false }))
    (line_before (codes "0.000000000,1") more (shown (λ c. c == 10) (codes "0.000000000,1") refl))
    ∙ same (lines_read csv_form 3 (lines_of more) (stood true 0 false false))
  where
    same : (r : Result Captured (At Cause)) → with_edges [] r ≡ r
    same (Ok e) = refl
    same (Err f) = refl

-- ---- the end

pub csv_files_are_read_back : CsvFilesAreReadBack
csv_files_are_read_back ss end wave high low =
    head_read (changes ss ++ row_text end 49)
    ∙ changes_read ss 0 false end wave (ends_by ss 0 end wave high) (omega arith) low 3 true
