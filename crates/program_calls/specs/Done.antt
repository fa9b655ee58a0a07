-- What the program does for a choice, an input and what it writes (own).
use Rattle.std.specs.Prelude.{◌≡◌, ℕ, Bool, true, false, List, [], ◌∷◌, ◌++◌, Option, None, Some, Ok, MatchOption}
use Rattle.std.specs.List.{flat_map}
use Rattle.std.specs.Io.KnownBytes.{Appends}
use Rattle.message_hex.specs.Lines.{first_fault}
use Rattle.room_driven.specs.Emulate.{IsDumpOf}
use Rattle.room_driven.specs.declared.wires.Wires.{Wires}
use Rattle.room_driven.specs.declared.wires.Wires.TheVariants as wires
use Rattle.message_lay.specs.Text.{AreLinesRead, no_notes, pull_record}
use Rattle.capture_forms.specs.declared.form.CaptureForm.{CaptureForm}
use Rattle.message_meaning.specs.Records.{dis_text}
use Rattle.room_run.specs.Emulate.{AreObjectsOf as AreRunObjects, IsLineOf, IsTraceOf}
use Rattle.room_run.specs.Objects.{AreOfRecords}
use Rattle.room_trace.specs.Room.{heads_in, room_if}
use Rattle.room_run.specs.declared.run.Totals.{Totals}
use Rattle.record_core.specs.declared.cell.Form.{Form}
use Rattle.record_core.specs.declared.cell.Form.TheVariants as forms
use Rattle.room_steps.specs.StepRun.{AreStepsOf}
use Rattle.message_text.specs.FrameLines.{AreTextsOf, hex_line as frame_line, lines_of_frames}
use Rattle.line_wave.specs.declared.Stretch.{Stretch}
use Rattle.text_core.specs.Lines.{lines_of}
use Rattle.cli_words.specs.Named.{named_in}
use Rattle.cli_words.specs.Operands.{asked_on, is_report, operands_in, words_in}
use Rattle.cli_choice.specs.declared.choice.Asked.{Asked}
use Rattle.cli_choice.specs.declared.choice.CommandChoice.{CommandChoice}
use Rattle.cli_choice.specs.declared.choice.CommandChoice.TheVariants.{Run, Check, CheckCapture, Step, Live, Asm, Dis, Lay, Mon, Summary, CaptureDiff, Follow, CapturedLine, Json, EdidDiff, InfoFrame, Eld, Edid}
use Rattle.cli_choice.specs.declared.choice.Objects.{Objects}
use Rattle.cli_choice.specs.declared.choice.Objects.TheVariants as of
use Rattle.cli_choice.specs.declared.choice.Listing.{Listing}
use Rattle.cli_choice.specs.declared.choice.Listing.TheVariants.{Trace, Line, Drives, Named}
use Rattle.cli_choice.specs.declared.choice.TestView.{TestView}
use Rattle.cli_choice.specs.declared.choice.TestView.TheVariants.{Report, Traced}
use Rattle.program_captures.specs.Captures.{IsShown, form_of, name_of, report_of}
use Rattle.program_captures.specs.Edges.{AreEdges}
use Rattle.program_captures.specs.Compared.{AreAlike, WritesAlike}
use Rattle.program_captures.specs.Following.{IsReported}
use Rattle.program_captures.specs.Summaries.{IsSummedUp}
use Rattle.cli_choice.specs.declared.choice.CapturePair.{CapturePair}
use Rattle.program_edids.specs.Compared.{IsAlike}
use Rattle.program_edids.specs.Edids.{IsMade}
use Rattle.program_edids.specs.Elds.{IsEldRead}
use Rattle.program_edids.specs.Framed.{IsOffered}
use Rattle.program_edids.specs.Told.{told}
use Rattle.program_calls.specs.CaptureTests.{IsCaptureTest}
use Rattle.cli_choice.specs.Form.{form_by}
use Rattle.program_calls.specs.Live.{IsLiveDone}
use Rattle.program_calls.specs.Reports.{WritesReports, report_kind}
use Rattle.program_input.specs.Parted.{IsCaptureInput, IsRunInput, IsStepsInput}
use Rattle.program_input.specs.Read.{IsAllOf}
use Rattle.program_input.specs.Plain.{plain_held, plain_known, takes_plain}
use Rattle.program_input.specs.Source.{are_texts, known_bytes, known_joined}
use Rattle.program_calls.specs.Tests.{IsTestOf}

-- this text with these counts is the trace of the run that the input spells
pub record IsRunDone (input text : List ℕ) (totals : Totals) : Type 0 where
  pub topology : List ℕ
  pub script : List ℕ
  pub parts : IsRunInput input topology script
  pub trace : IsTraceOf topology script text totals

-- the same of its line in a format
pub record IsLineDone (format : CaptureForm) (input text : List ℕ) (totals : Totals) : Type 0 where
  pub topology : List ℕ
  pub script : List ℕ
  pub parts : IsRunInput input topology script
  pub line : IsLineOf format topology script text totals

-- the same of its line and who drives it, with its frames and bits as strings or without
pub record IsDrivenDone (of_wires : Wires) (input text : List ℕ) (totals : Totals) : Type 0 where
  pub topology : List ℕ
  pub script : List ℕ
  pub parts : IsRunInput input topology script
  pub dump : IsDumpOf of_wires topology script text totals

-- this text is what is asked for of the test that the input spells, in lines or in objects
pub record IsTestDone (form : Form) (view : TestView) (input text : List ℕ) : Type 0 where
  pub topology : List ℕ
  pub script : List ℕ
  pub parts : IsRunInput input topology script
  pub test : IsTestOf form view topology script text

-- after the script and a line `steps` stand commands, whose steps these are, in a form
pub record AreStepsDone (form : Form) (input text : List ℕ) : Type 0 where
  pub topology : List ℕ
  pub rest : List ℕ
  pub script : List ℕ
  pub commands : List ℕ
  pub parts : IsRunInput input topology rest
  pub rest_parts : IsStepsInput rest script commands
  pub steps : AreStepsOf form topology script commands text

-- this text with these counts is what is asked for of the run that the input spells
abbrev pub IsListed : Listing → List ℕ → List ℕ → Totals → Type 0
IsListed Trace input text totals = IsRunDone input text totals
IsListed (Line format) input text totals = IsLineDone format input text totals
IsListed Drives input text totals = IsDrivenDone wires.Plain input text totals
IsListed Named input text totals = IsDrivenDone wires.Named input text totals

-- a report, with its trace or without
abbrev pub report_view : Bool → TestView
report_view false = Report
report_view true = Traced

-- the lines of the trace of a run; where it is strict, each event was taken
abbrev pub AreLines : Bool → List ℕ → List ℕ → Type 0
AreLines strict input text = (totals : Totals) × IsRunDone input text totals × (strict ≡ true → totals.refused ≡ 0)

-- a text is the objects of the run that the input spells, with those of the room before them or without, and their records are those of
-- these lines of its trace
pub record AreRunDone (with_room : Bool) (input lines text : List ℕ) : Type 0 where
  pub topology : List ℕ
  pub script : List ℕ
  pub totals : Totals
  pub parts : IsRunInput input topology script
  pub objects : AreRunObjects with_room topology script text totals
  pub of_lines : List ℕ
  pub records : AreOfRecords lines of_lines
  pub whole : text ≡ heads_in (room_if with_room topology script) ++ of_lines

-- a text is the objects that are asked for: those of lines of a trace, or of a report
abbrev pub AreObjectsOf : Objects → List ℕ → List ℕ → List ℕ → Type 0
AreObjectsOf (of.Trace strict) name input text = (lines : List ℕ) × AreLines strict input lines × AreRunDone false input lines text
AreObjectsOf (of.Room strict) name input text = (lines : List ℕ) × AreLines strict input lines × AreRunDone true input lines text
AreObjectsOf (of.Test traced) name input text = IsTestDone forms.Json (report_view traced) input text
AreObjectsOf (of.CaptureTest form glitch) name input text = IsCaptureTest forms.Json form name glitch input text

-- two captures with the line `capture` between them are alike, and a text says so
abbrev pub AreAlikeIn : CapturePair → List ℕ → List ℕ → List ℕ → Type 0
AreAlikeIn pair name input text = (first : List ℕ) × (second : List ℕ) × IsCaptureInput input first second × AreAlike pair name first second text

-- The text that a choice makes of an input; of a capture, of the wire of a name, and of an EDID, of the InfoFrame that the name spells.
-- A strict run is one whose events were all taken.
abbrev pub IsDone : CommandChoice → List ℕ → List ℕ → List ℕ → Type 0
IsDone (Run listing strict) name input text = (totals : Totals) × IsListed listing input text totals × (strict ≡ true → totals.refused ≡ 0)
IsDone (Check view) name input text = IsTestDone forms.Text view input text
IsDone (CheckCapture form glitch) name input text = IsCaptureTest forms.Text form name glitch input text
IsDone (Step form) name input text = AreStepsDone form input text
IsDone (Live json) name input text = IsLiveDone (form_by json) input text
IsDone Asm name input text = (frames : List (List ℕ)) × AreTextsOf (lines_of_frames (lines_of input)) frames × (text ≡ flat_map frame_line frames)
IsDone (Dis meaning form) name input text = (first_fault 1 (lines_of input) ≡ None) × (text ≡ flat_map (dis_text form meaning) (lines_of input))
IsDone (Lay form) name input text = (pulls : List Stretch) × AreLinesRead (lines_of input) 1 no_notes (Ok pulls) × (text ≡ flat_map (pull_record form) pulls)
IsDone (Mon mon) name input text =
    IsShown mon.written mon.folded (form_of mon.form input) name mon.inverted mon.scale mon.glitch mon.margin (report_of mon.report (form_of mon.form input)) input text
IsDone (Summary choice) name input text = IsSummedUp choice name input text
IsDone (CaptureDiff pair) name input text = AreAlikeIn pair name input text
IsDone (Follow choice) name input text = IsReported choice name input text
IsDone (CapturedLine form inverted factor glitch) name input text = AreEdges (form_of form input) name inverted factor glitch input text
IsDone (Json objects) name input text = AreObjectsOf objects name input text
IsDone (EdidDiff dumps form) name input text = IsAlike dumps form input text
IsDone (InfoFrame source reading place form) name input text = IsOffered (told source input) reading place form name input text
IsDone (Eld form) name input text = IsEldRead form input text
IsDone (Edid source reading view) name input text = IsMade (told source input) reading view input text

-- the choices whose lines are answered as they come
abbrev pub is_line_by_line : CommandChoice → Bool
is_line_by_line (Live json) = true
is_line_by_line (Follow choice) = true
is_line_by_line choice = false

-- what is asked for of a test is written, and nothing else
abbrev pub WritesTestOf : Form → TestView → List ℕ → Option (List ℕ) → Option (List ℕ) → Type 0
WritesTestOf form view input old new = (text : List ℕ) × IsTestDone form view input text × Appends old new text

-- a choice is done for an input: its text is written, and nothing else
abbrev pub Writes : CommandChoice → List ℕ → List ℕ → Option (List ℕ) → Option (List ℕ) → Type 0
Writes choice name input old new = (text : List ℕ) × IsDone choice name input text × Appends old new text

-- the line of a run in a format is written, and nothing else
abbrev pub WritesLine : CaptureForm → Bool → List ℕ → Option (List ℕ) → Option (List ℕ) → Type 0
WritesLine format strict input old new =
    (text : List ℕ) × ((totals : Totals) × IsLineDone format input text totals × (strict ≡ true → totals.refused ≡ 0)) × Appends old new text

-- the same of its line and who drives it
abbrev pub WritesDrives : Wires → Bool → List ℕ → Option (List ℕ) → Option (List ℕ) → Type 0
WritesDrives of_wires strict input old new =
    (text : List ℕ) × ((totals : Totals) × IsDrivenDone of_wires input text totals × (strict ≡ true → totals.refused ≡ 0)) × Appends old new text

-- a choice is done for all that there was to read
pub record IsServed (known old new : Option (List ℕ)) (choice : CommandChoice) (name : List ℕ) : Type 0 where
  pub input : List ℕ
  pub all : IsAllOf known input
  pub written : Writes choice name input old new

-- a help is written; of its text nothing is said
abbrev pub IsHelp : Option (List ℕ) → Option (List ℕ) → Type 0
IsHelp old new = (text : List ℕ) × Appends old new text

-- two captures of files are alike
pub record IsCompared (pair : CapturePair) (name : List ℕ) (known_first known_second old new : Option (List ℕ)) : Type 0 where
  pub first : List ℕ
  pub second : List ℕ
  pub all_first : IsAllOf known_first first
  pub all_second : IsAllOf known_second second
  pub written : WritesAlike pair name first second old new

abbrev pub IsComparedOf : CapturePair → List ℕ → List (List ℕ) → (List ℕ → Option (List ℕ)) → Option (List ℕ) → Option (List ℕ) → Type 0
IsComparedOf pair name (first ∷ second ∷ []) held old new = IsCompared pair name (held first) (held second) old new
IsComparedOf pair name files held old new = ⊥

-- two captures are read each by itself, and EDIDs one after the other
abbrev pub captures_of : CommandChoice → Option CapturePair
captures_of (CaptureDiff pair) = Some pair
captures_of choice = None

abbrev pub AreServedBy : Option CapturePair → CommandChoice → List ℕ → List (List ℕ) → (List ℕ → Option (List ℕ)) → Option (List ℕ) → Option (List ℕ) → Type 0
AreServedBy (Some pair) choice name files held old new = IsComparedOf pair name files held old new
AreServedBy None choice name files held old new = IsServed (known_joined (are_texts choice) held files) old new choice name

-- A choice is done of several files: a report of the report of each, or what is made of them together.
abbrev pub AreServedTogether : Bool → CommandChoice → List ℕ → List (List ℕ) → (List ℕ → Option (List ℕ)) → Option (List ℕ) → Option (List ℕ) → Type 0
AreServedTogether true choice name files held old new = WritesReports (report_kind choice) (IsDone choice name) held files old new
AreServedTogether false choice name files held old new = AreServedBy (captures_of choice) choice name files held old new

abbrev pub IsServedOfSeveral : CommandChoice → List ℕ → List (List ℕ) → (List ℕ → Option (List ℕ)) → Option (List ℕ) → Option (List ℕ) → Type 0
IsServedOfSeveral choice name files held old new = AreServedTogether (is_report choice) choice name files held old new

-- The same of its operands: of standard input where there is none, and of what one stands for as of these bytes on standard input.
abbrev pub IsServedOf : CommandChoice → List ℕ → List (List ℕ) → Option (List ℕ) → (List ℕ → Option (List ℕ)) → Option (List ℕ) → Option (List ℕ) → Type 0
IsServedOf choice name [] stdin held old new = IsServed (known_bytes None stdin held) old new choice name
IsServedOf choice name (operand ∷ []) stdin held old new = IsServed (known_bytes (Some operand) stdin held) old new choice name
IsServedOf choice name (operand ∷ next ∷ operands) stdin held old new = IsServedOfSeveral choice name (operand ∷ next ∷ operands) held old new

-- What is asked for is done: the choice, of the operands; of a line that asks for none a help is written. Texts of captures are read plain
-- where these are files, or have their form given.
abbrev pub AreServedAs : Option Asked → List ℕ → List (List ℕ) → Option (List ℕ) → (List ℕ → Option (List ℕ)) → Option (List ℕ) → Option (List ℕ) → Type 0
AreServedAs asked name operands stdin held old new =
    MatchOption asked (IsHelp old new) (λ a. IsServedOf a.choice name operands (plain_known (takes_plain a.choice false) stdin) (plain_held (takes_plain a.choice true) held) old new)

-- What the words of a command line ask for is done.
abbrev pub AreServed : List (List ℕ) → Option (List ℕ) → (List ℕ → Option (List ℕ)) → Option (List ℕ) → Option (List ℕ) → Type 0
AreServed words stdin held old new =
    AreServedAs (asked_on (words_in words) (operands_in words)) (name_of (named_in (words_in words))) (operands_in words) stdin held old new
