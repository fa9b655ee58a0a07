-- Lines of frames, and the pulls of all of them as lines of a script (own).
use Rattle.std.specs.Prelude.{◌≡◌, ℕ, ◌+◌, ◌-◌, ◌||◌, Bool, true, nat_lt, nat_le, min, if◌then◌else◌, List, [], ◌∷◌, ◌++◌, codes, Option, Some, None, Result, Ok, Err}
use Rattle.std.specs.Fmt.{decimal}
use Rattle.std.specs.Io.KnownBytes.{Appends}
use Rattle.std.specs.List.{flat_map}
use Rattle.text_core.specs.At.{at_line, at_word}
use Rattle.text_core.specs.Cut.{CutOff}
use Rattle.line_wave.specs.Bounds.{latest_event, widest_pull}
use Rattle.line_wave.specs.declared.Stretch.{Stretch}
use Rattle.message_lay.specs.Line.{IsLineRead}
use Rattle.message_lay.specs.declared.fault.LayCause.{LayCause}
use Rattle.message_lay.specs.declared.fault.LayCause.TheVariants.{Width, Order, Late}
use Rattle.message_lay.specs.declared.fault.LayError.{LayError}
use Rattle.message_lay.specs.declared.fault.LayError.TheVariants.{Line, Write}
use Rattle.record_core.specs.Cells.{PlainCell, both}
use Rattle.record_core.specs.Records.{record_text}
use Rattle.record_core.specs.Values as values
use Rattle.record_core.specs.declared.cell.Form.{Form}
use Rattle.text_core.specs.declared.at.At.{At}
use Rattle.text_core.specs.declared.at.AtWord.{AtWord}

-- ---- pulls one after another

-- what is wrong with a pull that may begin at `free` or later: the line's instant is its word 0, the low of a glitch its word 4
abbrev pub pull_fault : ℕ → Stretch → Option (AtWord LayCause)
pull_fault free pull =
    if nat_lt pull.from free then Some (at_word 0 Order)
    else if nat_lt latest_event pull.from then Some (at_word 0 Late)
    else if nat_le pull.to pull.from || nat_lt widest_pull (pull.to - pull.from) then Some (at_word 4 Width)
    else None

abbrev pub unless_fault : Option (AtWord LayCause) → Result ℕ (AtWord LayCause) → Result ℕ (AtWord LayCause)
unless_fault (Some fault) next = Err fault
unless_fault None next = next

-- from when on a pull may begin after these, of which the first may begin at `free` or later; an instant stays at its greatest value
abbrev pub follow : ℕ → List Stretch → Result ℕ (AtWord LayCause)
follow free [] = Ok free
follow free (p ∷ ps) = unless_fault (pull_fault free p) (follow (min (p.to + 1) 18446744073709551615) ps)

-- ---- lines

-- the pulls so far, and from when on the next may begin
pub record Notes : Type 0 where
  pub free : ℕ
  pub pulls : List Stretch

abbrev pub no_notes : Notes
no_notes = record { free = 0; pulls = [] }

abbrev pub follows : ℕ → Result (List Stretch) (AtWord LayCause) → Result ℕ (AtWord LayCause)
follows free (Err fault) = Err fault
follows free (Ok pulls) = follow free pulls

-- whether the pulls of a line follow, and from when on the next may begin
abbrev pub IsFollowed : ℕ → List ℕ → Result ℕ (AtWord LayCause) → Type 0
IsFollowed free line next = (read : Result (List Stretch) (AtWord LayCause)) × IsLineRead line read × (next ≡ follows free read)

abbrev pub taken_by : List Stretch → List Stretch → Result ℕ (AtWord LayCause) → Result Notes (AtWord LayCause)
taken_by done pulls (Err fault) = Err fault
taken_by done pulls (Ok free) = Ok (record { free = free; pulls = done ++ pulls })

-- what a line's pulls make of the notes
abbrev pub taken : Notes → Result (List Stretch) (AtWord LayCause) → Result Notes (AtWord LayCause)
taken notes (Err fault) = Err fault
taken notes (Ok pulls) = taken_by notes.pulls pulls (follow notes.free pulls)

abbrev pub Onward : ℕ → Result Notes (AtWord LayCause) → (Notes → Type 0) → Result (List Stretch) (At LayCause) → Type 0
Onward line (Ok notes) rest read = rest notes
Onward line (Err fault) rest read = read ≡ Err (at_line line fault)

-- what the lines from this number on make of the notes: the pulls of all, or the first fault
abbrev pub AreLinesRead : List (List ℕ) → ℕ → Notes → Result (List Stretch) (At LayCause) → Type 0
AreLinesRead [] number notes read = read ≡ Ok notes.pulls
AreLinesRead (line ∷ lines) number notes read =
    (now : Result (List Stretch) (AtWord LayCause))
    × IsLineRead line now
    × Onward number (taken notes now) (λ next. AreLinesRead lines (number + 1) next read) read

-- ---- what is written

-- a pull as a line of a script
abbrev pub pull_line : Stretch → List ℕ
pull_line p = codes "pull " ++ decimal p.from ++ codes " " ++ decimal (p.to - p.from) ++ codes "\n"

-- that line as a record
abbrev pub pull_cells : Stretch → List PlainCell
pull_cells p = both (codes "pull ") (codes "at") (values.number p.from) ∷ both (codes " ") (codes "width") (values.number (p.to - p.from)) ∷ []

abbrev pub pull_record : Form → Stretch → List ℕ
pull_record form p = record_text form (codes "pull") (pull_cells p)

-- a text is the pulls of a line, as lines of a script or as their objects
abbrev pub ArePullsOf : Form → List ℕ → List ℕ → Type 0
ArePullsOf form line text = (pulls : List Stretch) × IsLineRead line (Ok pulls) × (text ≡ flat_map (pull_record form) pulls)

-- All lines are laid, and their pulls are written, whole or their front up to a fault; or the first that is not is returned, and
-- nothing is written.
abbrev pub Answers : Form → Option (List ℕ) → Option (List ℕ) → Bool → Bool → List (List ℕ) → Result (Unit {0}) LayError → Type 0
Answers form old new was is lines (Ok n) =
    (pulls : List Stretch) × (AreLinesRead lines 1 no_notes (Ok pulls) × Appends old new (flat_map (pull_record form) pulls) × (is ≡ was))
Answers form old new was is lines (Err (Write fault)) =
    (pulls : List Stretch) × (AreLinesRead lines 1 no_notes (Ok pulls) × CutOff old new (flat_map (pull_record form) pulls) fault × (is ≡ true))
Answers form old new was is lines (Err (Line fault)) = AreLinesRead lines 1 no_notes (Err fault) × (new ≡ old) × (is ≡ was)
