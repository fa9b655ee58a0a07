-- A text with the dumps of several EDIDs: each begins at a line whose bytes begin with the header (own).
use Rattle.std.specs.Prelude.{ℕ, ◌+◌, ◌-◌, ◌^◌, ◌==◌, Bool, if◌then◌else◌, min, List, [], ◌∷◌, filter, length, Result, Ok, Err}
use Rattle.text_core.specs.Lines.{lines_of}
use Rattle.edid_dump.specs.Dump.{dumped_from, edid_in_dump, has_dump}
use Rattle.edid_dump.specs.declared.dump.DumpError.{DumpError}
use Rattle.edid_dump.specs.declared.dump.DumpError.TheVariants.{NoDump, Cut, Long}

-- an EDID begins with a line
abbrev pub begins : List ℕ → Bool
begins line = has_dump line

-- how many lines an EDID begins with
abbrev pub dumps_among : List (List ℕ) → ℕ
dumps_among lines = length (filter begins lines)

abbrev pub dump_count : List ℕ → ℕ
dump_count text = dumps_among (lines_of text)

-- a line that follows so many others; a number stays at its greatest value
abbrev pub later_by : ℕ → ℕ → ℕ
later_by passed line = min (line + passed) (2 ^ 64 - 1)

abbrev pub moved : ℕ → Result (List ℕ) DumpError → Result (List ℕ) DumpError
moved passed (Ok bytes) = Ok bytes
moved passed (Err NoDump) = Err NoDump
moved passed (Err (Cut line)) = Err (Cut (later_by passed line))
moved passed (Err (Long line)) = Err (Long (later_by passed line))

-- the dump in a text that follows so many lines
abbrev pub shifted : ℕ → List ℕ → Result (List ℕ) DumpError
shifted passed text = moved passed (edid_in_dump text)

-- the dump that begins with the line of this number among those that an EDID begins with
abbrev pub nth_from : ℕ → ℕ → List (List ℕ) → Result (List ℕ) DumpError
nth_from nth passed [] = Err NoDump
nth_from nth passed (line ∷ lines) =
    if begins line then
    if nth == 1 then moved passed (dumped_from 1 (line ∷ lines)) else nth_from (nth - 1) (passed + 1) lines
    else nth_from nth (passed + 1) lines

-- the bytes of the EDID with a number, from 1; lines are counted from 1
abbrev pub nth_in_dump : ℕ → List ℕ → Result (List ℕ) DumpError
nth_in_dump nth text = nth_from nth 0 (lines_of text)
