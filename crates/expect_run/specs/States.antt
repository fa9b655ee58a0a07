-- The states that a script speaks of (own): a device's state at the end of the run, had it ended at a time, as its line says it; and
-- what is told of the audit of the run's line. Each is judged by its line, and stands in a form below its test where that fails.
use Rattle.std.specs.List.{find}
use Rattle.std.specs.Str.{bytes_eq}
use Rattle.std.specs.Prelude.{◌≡◌, ℕ, ◌-◌, codes, length, map, take, true, false, List, [], ◌∷◌, Option, Some, None, Result, Ok, Err}
use Rattle.text_core.specs.Words.{words_of}
use Rattle.record_core.specs.Records.{record_text}
use Rattle.record_core.specs.declared.cell.Form.{Form}
use Rattle.record_core.specs.declared.cell.Form.TheVariants.{Text}
use Rattle.expect_text.specs.Line.{unlabelled_words, cut_script}
use Rattle.expect_text.specs.Form.{ExpectLine, form_in}
use Rattle.expect_text.specs.Form.ExpectLine.{Other, Rounds, State, Refused, Unremarked}
use Rattle.text_core.specs.declared.at.AtWord.{AtWord}
use Rattle.expect_text.specs.declared.form.ExpectCause.{ExpectCause}
use Rattle.capture_core.specs.Edges.{Captured}
use Rattle.capture_forms.specs.Captures.{capture_in}
use Rattle.capture_forms.specs.declared.form.CaptureForm.TheVariants.{Edges}
use Rattle.expect_remarks.specs.Kept.{audit_remarks}
use Rattle.expect_remarks.specs.Met.{remarks_met, shown_remarks}
use Rattle.device_core.specs.State.{State as Device}
use Rattle.room_net.specs.State.{NetState}
use Rattle.room_trace.specs.Records.{state_text}
use Rattle.room_trace.specs.StateText.{state_line}
use Rattle.room_run.specs.Emulate.{IsEdgeTraceOf, IsTraceOf}
use Rattle.room_run.specs.Happening.{Happening}
use Rattle.room_run.specs.Run.{Config}
use Rattle.room_run.specs.declared.run.Totals.{Totals}
use Rattle.expect_told.specs.Shown.{marked}
use Rattle.expect_told.specs.Turns.{IsRunOf}
use Rattle.expect_judge.specs.Judged.{is_of_state}
use Rattle.expect_run.specs.declared.states.StateRead.{StateRead}
use Rattle.expect_run.specs.declared.states.StateTexts.{StateTexts}

-- what is wanted of a state: what is judged, or what stands below its test in a form
pub data StateView : Type 0 where
  Said : StateView
  Below : Form → StateView

-- the first device of a name
abbrev pub device_of : List ℕ → List Device → Option Device
device_of name devices = find (λ d. bytes_eq d.name name) devices

-- what the line of its state says, without its end; of no device, nothing
abbrev pub state_said : Option Device → List ℕ
state_said None = []
state_said (Some d) = take (length (state_line d) - 1) (state_line d)

-- its line as a remark
abbrev pub state_shown : Form → Option Device → List ℕ
state_shown form None = marked form (record_text form (codes "other") [])
state_shown form (Some d) = marked form (state_text form d)

abbrev pub state_by : StateView → Option Device → List ℕ
state_by Said device = state_said device
state_by (Below form) device = state_shown form device

-- what is judged of an audit is what stands there as text
abbrev pub remarks_form : StateView → Form
remarks_form Said = Text
remarks_form (Below form) = form

-- the network at the end of the run of the plain script that ends at the time
pub record IsEndAt (topology plain : List ℕ) (time : ℕ) (net : NetState) : Type 0 where
  pub happened : List Happening
  pub last : Config
  pub run : IsRunOf topology (cut_script time plain) happened last
  pub net_is : net ≡ last.net

-- the device's state there
abbrev pub IsStateAt : StateView → List ℕ → List ℕ → ℕ → List ℕ → List ℕ → Type 0
IsStateAt view topology plain time device state =
    (net : NetState) × IsEndAt topology plain time net × (state ≡ state_by view (device_of device net.devices))

-- the first eight remarks of the audit that meet the pattern, of the line of the plain script's run, as its edges are read
pub record IsRemarkedOf (view : StateView) (topology plain : List ℕ) (pattern : Option (List ℕ)) (told : List ℕ) : Type 0 where
  pub edges : List ℕ
  pub totals : Totals
  pub run : IsEdgeTraceOf topology plain edges totals
  pub capture : Captured
  pub read : capture_in Edges [] edges ≡ Ok capture
  pub told_is : told ≡ shown_remarks (remarks_form view) (remarks_met pattern (audit_remarks capture))

-- what is wanted of the state that a form speaks of, or what is told of the audit; of another form nothing
abbrev pub IsStateOf : StateView → List ℕ → List ℕ → Result ExpectLine (AtWord ExpectCause) → List ℕ → Type 0
IsStateOf view topology plain (Ok (State time device words)) state = IsStateAt view topology plain time device state
IsStateOf view topology plain (Ok Other) state = state ≡ []
IsStateOf view topology plain (Ok (Rounds quantity window pattern)) state = state ≡ []
IsStateOf view topology plain (Ok (Refused name word)) state = state ≡ []
IsStateOf view topology plain (Ok (Unremarked pattern)) state = IsRemarkedOf view topology plain pattern state
IsStateOf view topology plain (Err cause) state = state ≡ []

abbrev pub IsStateFor : StateView → List ℕ → List ℕ → List ℕ → List ℕ → Type 0
IsStateFor view topology plain line state = IsStateOf view topology plain (form_in (unlabelled_words (words_of line))) state

-- both of a line that speaks of a state, and none of another line
abbrev pub IsStateRead : Form → List ℕ → List ℕ → List ℕ → Option (List ℕ × List ℕ) → Type 0
IsStateRead form topology plain line None = is_of_state line ≡ false
IsStateRead form topology plain line (Some read) =
    (is_of_state line ≡ true) × IsStateFor Said topology plain line read.0 × IsStateFor (Below form) topology plain line read.1

-- of each of these lines what is wanted of the state that it speaks of
abbrev pub AreStates : StateView → List ℕ → List ℕ → List (List ℕ) → List (List ℕ) → Type 0
AreStates view topology plain [] states = states ≡ []
AreStates view topology plain (line ∷ lines) [] = ⊥
AreStates view topology plain (line ∷ lines) (state ∷ states) = IsStateFor view topology plain line state × AreStates view topology plain lines states

-- ---- as they are held

abbrev pub read_as : StateRead → List ℕ × List ℕ
read_as r = (r.said.items, r.shown.items)

abbrev pub said_in : StateTexts → List (List ℕ)
said_in t = map (λ text. text.items) t.said.items

abbrev pub shown_in : StateTexts → List (List ℕ)
shown_in t = map (λ text. text.items) t.shown.items

-- the plain script has a trace
abbrev pub IsTraced : List ℕ → List ℕ → Type 0
IsTraced topology plain = (trace : List ℕ) × (totals : Totals) × IsTraceOf topology plain trace totals
