-- Lines in which bad starts one after another are one line (own): `FROM TO bad-starts N`, from the first fall to the last ending, and
-- how many there are.
use Rattle.std.specs.Prelude.{◌≡◌, ℕ, ◌+◌, ◌==◌, ◌&&◌, min, Bool, false, true, if◌then◌else◌, length, List, [], ◌∷◌, ◌++◌, Option, Some, None, option_map}
use Rattle.std.specs.List.{flat_map, list_any}
use Rattle.line_reading.specs.Readings.{Listed}
use Rattle.line_reading.specs.Reports.{listed_as}
use Rattle.audit_remarks.specs.Free.{is_bad_start as ends_badly}
use Rattle.audit_notes.specs.Lines.{AuditLine}
use Rattle.audit_notes.specs.Lines.AuditLine.{Group, Note, Reading, Word}
use Rattle.audit_notes.specs.declared.reading.ReadingGroup.TheVariants.{BadStarts}
use Rattle.audit_notes.specs.declared.folding.HeldRun.{HeldRun}

abbrev pub is_bad_start : AuditLine → Bool
is_bad_start (Reading x) = ends_badly x.reported.ending
is_bad_start line = false

-- ---- lines that stand together: bad starts one after another, and each other line alone

abbrev pub with_group : AuditLine → List (List AuditLine) → List (List AuditLine)
with_group line [] = (line ∷ []) ∷ []
with_group line ([] ∷ groups) = (line ∷ []) ∷ [] ∷ groups
with_group line ((next ∷ lines) ∷ groups) =
    if is_bad_start line && is_bad_start next then (line ∷ next ∷ lines) ∷ groups else (line ∷ []) ∷ (next ∷ lines) ∷ groups

abbrev pub groups_of : List AuditLine → List (List AuditLine)
groups_of [] = []
groups_of (line ∷ lines) = with_group line (groups_of lines)

-- ---- what stands for them

-- bad starts one after another: the first, the ending of the last, and how many there are; the count stays at its greatest value
pub record Run : Type 0 where
  pub first : AuditLine
  pub to : ℕ
  pub count : ℕ

abbrev pub counted : ℕ → ℕ
counted n = min n 18446744073709551615

abbrev pub begin_of : AuditLine → ℕ
begin_of (Reading x) = x.begin
begin_of line = 0

abbrev pub close_of : AuditLine → ℕ
close_of (Reading x) = x.reported.at
close_of line = 0

-- one alone is its line
abbrev pub run_line : Run → AuditLine
run_line r = if r.count == 1 then r.first else Group (BadStarts (record { from = begin_of r.first; to = r.to; count = r.count }))

abbrev pub last_of : AuditLine → List AuditLine → AuditLine
last_of line [] = line
last_of line (next ∷ lines) = last_of next lines

abbrev pub run_of : AuditLine → List AuditLine → Run
run_of line lines = record { first = line; to = close_of (last_of line lines); count = counted (length lines + 1) }

abbrev pub group_lines : List AuditLine → List AuditLine
group_lines [] = []
group_lines (line ∷ lines) = run_line (run_of line lines) ∷ []

abbrev pub folded : List AuditLine → List AuditLine
folded lines = flat_map group_lines (groups_of lines)

-- as they stand, or with bad starts one after another as one line
abbrev pub folded_if : Bool → List AuditLine → List AuditLine
folded_if true lines = folded lines
folded_if false lines = lines

-- ---- as it is found

-- a run, and one bad start more
abbrev pub with_bad : Option Run → AuditLine → Run
with_bad None line = record { first = line; to = close_of line; count = 1 }
with_bad (Some r) line = record { first = r.first; to = close_of line; count = counted (r.count + 1) }

abbrev pub closed : Option Run → List AuditLine
closed None = []
closed (Some r) = run_line r ∷ []

-- without where it lies in memory
abbrev pub run_as : HeldRun → Run
run_as r = record { first = Reading (listed_as r.first); to = r.to; count = r.count }

abbrev pub held_as : Option HeldRun → Option Run
held_as run = option_map run_as run

-- what stands for a run, and for the lines after it
abbrev pub folded_after : Option Run → List AuditLine → List AuditLine
folded_after run [] = closed run
folded_after run (line ∷ lines) =
    if is_bad_start line then folded_after (Some (with_bad run line)) lines
    else closed run ++ (line ∷ folded_after None lines)

-- what stands for the lines that are left, where bad starts are folded and where they are not
abbrev pub shown_after : Bool → Option Run → List AuditLine → List AuditLine
shown_after true run lines = folded_after run lines
shown_after false run lines = lines

-- ---- laws

pub record Folding : Type 0 where
  pub lines : (lines : List AuditLine) → flat_map (λ group. group) (groups_of lines) ≡ lines
  pub same : (lines : List AuditLine) → list_any is_bad_start lines ≡ false → folded lines ≡ lines
  pub ended : (lines done : List AuditLine) (run : Option Run) → ((rest : List AuditLine) → folded_after None (lines ++ rest) ≡ done ++ folded_after run rest) → done ++ closed run ≡ folded lines
  pub whole : (folds : Bool) (lines : List AuditLine) → shown_after folds None lines ≡ folded_if folds lines

-- The lines of the groups are the lines, and where there is no bad start each stands as it is; and what stands for lines one by one,
-- with what is held at the end, is what stands for the groups.
abbrev pub FoldingLosesNoLine : Type 0
FoldingLosesNoLine = Folding
