-- The report of several inputs (own): the report of each is a subtest of the Test Anything Protocol, version 14, below its name and
-- four spaces in, and then a test by itself.
use Rattle.std.specs.Prelude.{◌≡◌, ℕ, ◌-◌, ◌==◌, ◌||◌, Bool, true, false, if◌then◌else◌, List, [], ◌∷◌, ◌++◌, length, Option, codes}
use Rattle.std.specs.Fmt.{decimal}
use Rattle.std.specs.Io.KnownBytes.{Appends}
use Rattle.std.specs.List.{flat_map}
use Rattle.std.specs.Str.{bytes_eq}
use Rattle.program_calls.specs.declared.reports.ReportKind.{ReportKind}
use Rattle.program_calls.specs.declared.reports.ReportKind.TheVariants as kinds
use Rattle.cli_choice.specs.declared.choice.CommandChoice.{CommandChoice}
use Rattle.cli_choice.specs.declared.choice.CommandChoice.TheVariants.{Check}
use Rattle.expect_sweep.specs.Script.{has_range}
use Rattle.program_calls.specs.Tests.{remark_line}
use Rattle.program_input.specs.Read.{IsAllOf}
use Rattle.text_core.specs.Lines.{lines_of}

-- the report of a run is that of a sweep where its script has a range
abbrev pub is_swept : CommandChoice → List ℕ → Bool
is_swept (Check view) input = has_range input
is_swept choice input = false

-- (an input that is refused has no report, and no tests)
abbrev pub report_kind : CommandChoice → List ℕ → List ℕ → ReportKind
report_kind choice input report = if (length report == 0) || is_swept choice input then kinds.Sweep else kinds.Expectations

-- a line of a subtest; the version stands once, at the top of the whole
abbrev pub nested_line : List ℕ → List ℕ
nested_line line = if bytes_eq line (codes "TAP version 13") then [] else codes "    " ++ line ++ codes "\n"

-- a report below the name of its input: the stretches of a sweep, which are no tests, are remarks
abbrev pub nested_text : ReportKind → List ℕ → List ℕ → List ℕ
nested_text kinds.Expectations name report = (codes "# Subtest: " ++ name ++ codes "\n") ++ flat_map nested_line (lines_of report)
nested_text kinds.Sweep name report = flat_map remark_line (lines_of report)

-- the test that an input is, by its number and name
abbrev pub result_line : Bool → ℕ → List ℕ → List ℕ
result_line holds number name = (if holds then codes "ok " else codes "not ok ") ++ decimal number ++ codes " - " ++ name ++ codes "\n"

-- a text is what stands for an input all of whose tests hold, by which kind its report has, and by what a report is of an input
abbrev pub IsNested : (List ℕ → List ℕ → ReportKind) → (List ℕ → List ℕ → Type 0) → List ℕ → ℕ → List ℕ → List ℕ → Type 0
IsNested of is input number name text = (report : List ℕ) × is input report × (text ≡ nested_text (of input report) name report ++ result_line true number name)

-- the same of all that a file holds
abbrev pub IsNestedFile : (List ℕ → List ℕ → ReportKind) → (List ℕ → List ℕ → Type 0) → Option (List ℕ) → ℕ → List ℕ → List ℕ → Type 0
IsNestedFile of is known number name text = (input : List ℕ) × IsAllOf known input × IsNested of is input number name text

-- and of each of the last of so many files, in turn
abbrev pub AreNested : (List ℕ → List ℕ → ReportKind) → (List ℕ → List ℕ → Type 0) → (List ℕ → Option (List ℕ)) → ℕ → List (List ℕ) → List ℕ → Type 0
AreNested of is held count [] text = text ≡ []
AreNested of is held count (name ∷ names) text =
    (first : List ℕ) × (others : List ℕ) × IsNestedFile of is (held name) (count - length names) name first × AreNested of is held count names others × (text ≡ first ++ others)

-- they are written, and nothing else
abbrev pub WritesNestedInput : (List ℕ → List ℕ → ReportKind) → (List ℕ → List ℕ → Type 0) → List ℕ → ℕ → List ℕ → Option (List ℕ) → Option (List ℕ) → Type 0
WritesNestedInput of is input number name old new = (text : List ℕ) × IsNested of is input number name text × Appends old new text

abbrev pub WritesNestedFile : (List ℕ → List ℕ → ReportKind) → (List ℕ → List ℕ → Type 0) → Option (List ℕ) → ℕ → List ℕ → Option (List ℕ) → Option (List ℕ) → Type 0
WritesNestedFile of is known number name old new = (text : List ℕ) × IsNestedFile of is known number name text × Appends old new text

abbrev pub WritesNested : (List ℕ → List ℕ → ReportKind) → (List ℕ → List ℕ → Type 0) → (List ℕ → Option (List ℕ)) → ℕ → List (List ℕ) → Option (List ℕ) → Option (List ℕ) → Type 0
WritesNested of is held count names old new = (text : List ℕ) × AreNested of is held count names text × Appends old new text

-- what stands above them, and the plan below
abbrev pub plan_line : ℕ → List ℕ
plan_line count = codes "1.." ++ decimal count ++ codes "\n"

abbrev pub WritesReports : (List ℕ → List ℕ → ReportKind) → (List ℕ → List ℕ → Type 0) → (List ℕ → Option (List ℕ)) → List (List ℕ) → Option (List ℕ) → Option (List ℕ) → Type 0
WritesReports of is held names old new =
    (text : List ℕ) × AreNested of is held (length names) names text × Appends old new ((codes "TAP version 14\n" ++ text) ++ plan_line (length names))
