-- The hex dump of an EDID in a text: it begins at the first line whose bytes begin with the header, and goes on as far as
-- the lines are rows of the same form (own).
use Rattle.std.specs.Prelude.{◌≡◌, ℕ, zero, suc, ◌+◌, ◌-◌, ◌%◌, ◌==◌, ◌&&◌, not, nat_lt, Bool, true, false, if◌then◌else◌, List, [], ◌∷◌, ◌++◌, length, slice_index, Option, Some, None, Result, Ok, Err}
use Rattle.text_core.specs.Lines.{lines_of}
use Rattle.edid_dump.specs.declared.rows.DumpForm.{DumpForm}
use Rattle.edid_dump.specs.declared.dump.DumpError.{DumpError}
use Rattle.edid_dump.specs.declared.dump.DumpError.TheVariants.{NoDump, Cut, Long}
use Rattle.std.specs.List.{list_any}
use Rattle.std.specs.Option.{is_some}
use Rattle.arrayvec.specs.declared.array_vec.ArrayVec.{ArrayVec}
use Rattle.edid_dump.specs.declared.dump.Taken.{Taken}
use Rattle.edid_dump.specs.declared.dump.Taken.TheVariants.{Row, TooLong, Other}
use Rattle.edid_dump.specs.Rows.{form_of, in_order, is_repeat, next_form, place_of, row}

-- so many bytes more, each that of the row of sixteen above
abbrev pub with_repeats : ℕ → List ℕ → List ℕ
with_repeats zero bytes = bytes
with_repeats (suc count) bytes = with_repeats count (bytes ++ slice_index bytes (length bytes - 16) ∷ [])

-- how many bytes were left out before a row: none, or those up to its offset
abbrev pub left_out : DumpForm → Bool → List ℕ → List ℕ → ℕ
left_out form false bytes line = 0
left_out form true bytes line = place_of form line - length bytes

-- a dump ends where a block does, and not after rows that were left out
abbrev pub dump_at_end : ℕ → Bool → List ℕ → Result (List ℕ) DumpError
dump_at_end number skips bytes = if not skips && (length bytes % 128 == 0) then Ok bytes else Err (Cut number)

abbrev pub with_row : DumpForm → ℕ → Bool → List ℕ → List ℕ → Option (List ℕ) → (List ℕ → Result (List ℕ) DumpError) → Result (List ℕ) DumpError
with_row form number skips bytes line None more = dump_at_end number skips bytes
with_row form number skips bytes line (Some next) more =
    if nat_lt 512 (length bytes + left_out form skips bytes line + length next) then Err (Long number)
    else more (with_repeats (left_out form skips bytes line) bytes ++ next)

-- a line of a dump: where it stands for rows that it repeats, or is a row, the dump goes on
abbrev pub with_line : DumpForm → ℕ → Bool → List ℕ → List ℕ → (Bool → List ℕ → Result (List ℕ) DumpError) → Result (List ℕ) DumpError
with_line form number skips bytes line more =
    if is_repeat form line then more true bytes
    else with_row form number skips bytes line (row form line) (more false)

-- the bytes so far, and those of the rows that follow; an EDID has at most 512
abbrev pub bytes_of_rows : DumpForm → ℕ → Bool → List ℕ → List (List ℕ) → Result (List ℕ) DumpError
bytes_of_rows form number skips bytes [] = dump_at_end number skips bytes
bytes_of_rows form number skips bytes (line ∷ lines) = with_line form number skips bytes line (λ now_skips now. bytes_of_rows (next_form form) (number + 1) now_skips now lines)

-- bytes that are printed in words are swapped back
abbrev pub ordered : DumpForm → Result (List ℕ) DumpError → Result (List ℕ) DumpError
ordered form (Ok bytes) = Ok (in_order form bytes)
ordered form (Err error) = Err error

abbrev pub gathered_by : Option DumpForm → ℕ → List (List ℕ) → Result (List ℕ) DumpError → Result (List ℕ) DumpError
gathered_by None number lines later = later
gathered_by (Some form) number lines later = ordered form (bytes_of_rows form number false [] lines)

abbrev pub dumped_from : ℕ → List (List ℕ) → Result (List ℕ) DumpError
dumped_from number [] = Err NoDump
dumped_from number (line ∷ lines) = gathered_by (form_of line) number (line ∷ lines) (dumped_from (number + 1) lines)

-- the bytes of the EDID whose dump a text has, or why there are none; lines are counted from 1
abbrev pub edid_in_dump : List ℕ → Result (List ℕ) DumpError
edid_in_dump text = dumped_from 1 (lines_of text)

-- whether an EDID begins on some line
abbrev pub has_dump : List ℕ → Bool
has_dump text = list_any (λ line. is_some (form_of line)) (lines_of text)

-- ---- what calls return

-- what a line is to a dump, with what is there after it
abbrev pub after_line : ℕ → Taken → Bool → List ℕ → (Bool → List ℕ → Result (List ℕ) DumpError) → Result (List ℕ) DumpError
after_line number Row skips bytes more = more skips bytes
after_line number TooLong skips bytes more = Err (Long number)
after_line number Other skips bytes more = dump_at_end number skips bytes

-- the bytes, or the refusal
abbrev pub Gives : Result (ArrayVec ℕ 512 (Unit {0})) DumpError → Result (List ℕ) DumpError → Type 0
Gives (Ok bytes) all = all ≡ Ok bytes.items
Gives (Err error) all = all ≡ Err error
