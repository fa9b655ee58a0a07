-- What is written of a test (own): a topology, and a script with expectations.
use Rattle.std.specs.Prelude.{◌≡◌, ℕ, true, false, not, length, filter, List, [], ◌∷◌, ◌++◌, ◌⊎◌, Option, None, Ok, codes}
use Rattle.std.specs.Io.KnownBytes.{Appends}
use Rattle.std.specs.List.{flat_map}
use Rattle.record_core.specs.Cells.{PlainCell, line_only}
use Rattle.record_core.specs.Records.{record_text}
use Rattle.record_core.specs.Values.{nothing}
use Rattle.record_core.specs.declared.cell.Form.{Form}
use Rattle.record_core.specs.declared.cell.Form.TheVariants.{Text, Json}
use Rattle.expect_told.specs.Shown.{marked}
use Rattle.expect_run.specs.Check.{IsReportOf}
use Rattle.expect_run.specs.Report.{Report}
use Rattle.expect_text.specs.Faults.{first_fault}
use Rattle.expect_text.specs.Line.{plain_script}
use Rattle.room_run.specs.Emulate.{AreObjectsOf, IsTraceOf}
use Rattle.room_run.specs.declared.run.Totals.{Totals}
use Rattle.expect_sweep.specs.Script.{range_of}
use Rattle.expect_sweep.specs.Stretches.{Stretch, all_hold, stretches_text}
use Rattle.expect_sweep.specs.Sweep.{IsSweepOf}
use Rattle.text_core.specs.Lines.{lines_of}
use Rattle.cli_choice.specs.declared.choice.TestView.{TestView}
use Rattle.cli_choice.specs.declared.choice.TestView.TheVariants as views

-- a line as a remark
abbrev pub remark_line : List ℕ → List ℕ
remark_line line = codes "# " ++ line ++ codes "\n"

-- the lines of a trace as remarks, after a line that says so, or the objects of these
abbrev pub head_cells : List PlainCell
head_cells = line_only (codes "# trace") nothing ∷ []

abbrev pub trace_remark : Form → List ℕ → List ℕ
trace_remark form line = marked form line ++ codes "\n"

abbrev pub trace_remarks : Form → List ℕ → List ℕ
trace_remarks form trace = record_text form (codes "trace") head_cells ++ flat_map (trace_remark form) (lines_of trace)

-- the remarks of the trace of the run of the script without labels and expectations
abbrev pub AreRemarksOf : Form → List ℕ → List ℕ → List ℕ → Type 0
AreRemarksOf Text topology script remarks =
    (trace : List ℕ) × (totals : Totals) × IsTraceOf topology (plain_script script) trace totals × (remarks ≡ trace_remarks Text trace)
AreRemarksOf Json topology script remarks =
    (objects : List ℕ) × (totals : Totals) × AreObjectsOf false topology (plain_script script) objects totals × (remarks ≡ trace_remarks Json objects)

-- the report of the script's expectations, of which none failed
abbrev pub IsPassed : Form → List ℕ → List ℕ → List ℕ → Type 0
IsPassed form topology script text = (r : Report) × IsReportOf form topology script r × (length (filter not r.verdicts) ≡ 0) × (text ≡ r.text)

-- the stretches of the instants of its range, at each of which each test holds
abbrev pub AreHeld : Form → List ℕ → List ℕ → List ℕ → Type 0
AreHeld form topology script text = (stretches : List Stretch) × IsSweepOf topology script stretches × (all_hold stretches ≡ true) × (text ≡ stretches_text form stretches)

-- the report of a script without a range, or the stretches of its range
abbrev pub IsReported : Form → List ℕ → List ℕ → List ℕ → Type 0
IsReported form topology script text = ((range_of script ≡ Ok None) × IsPassed form topology script text) ⊎ AreHeld form topology script text

-- the report, and after it the trace
abbrev pub IsTraced : Form → List ℕ → List ℕ → List ℕ → Type 0
IsTraced form topology script text =
    (tests : List ℕ) × (remarks : List ℕ) × IsPassed form topology script tests × AreRemarksOf form topology script remarks × (text ≡ tests ++ remarks)

-- the input of the run of the script without labels and expectations, none of which is at fault
abbrev pub IsPlain : List ℕ → List ℕ → List ℕ → Type 0
IsPlain topology script text = (first_fault topology script ≡ None) × (text ≡ topology ++ codes "script\n" ++ plain_script script)

-- this text is what is asked for of a test, in lines or in objects
abbrev pub IsTestOf : Form → TestView → List ℕ → List ℕ → List ℕ → Type 0
IsTestOf form views.Report topology script text = IsReported form topology script text
IsTestOf form views.Progress topology script text = IsReported form topology script text
IsTestOf form views.Traced topology script text = IsTraced form topology script text
IsTestOf form views.Plain topology script text = IsPlain topology script text

-- it is written, and nothing else
abbrev pub WritesTest : Form → TestView → List ℕ → List ℕ → Option (List ℕ) → Option (List ℕ) → Type 0
WritesTest form view topology script old new = (text : List ℕ) × IsTestOf form view topology script text × Appends old new text

-- the report of one run is written, and nothing else
abbrev pub WritesPassed : Form → List ℕ → List ℕ → Option (List ℕ) → Option (List ℕ) → Type 0
WritesPassed form topology script old new = (text : List ℕ) × IsPassed form topology script text × Appends old new text
