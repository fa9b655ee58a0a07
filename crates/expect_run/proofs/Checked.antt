-- The report of a run that is held in memory, which is one.
use Rattle.std.proofs.Common.{◌≡◌, ℕ, ◌+◌, Bool, true, false, if◌then◌else◌, length, List, [], ◌∷◌, ◌++◌, Option, Some, None, Result, Ok, Err, refl, sym, ap, ◌∙◌}
use Rattle.std.specs.List.{cons_option}
use Rattle.std.proofs.lemmas.Bool.{false≢true}
use Rattle.text_core.specs.Lines.{lines_of}
use Rattle.text_core.specs.Words.{words_of}
use Rattle.record_core.specs.declared.cell.Form.{Form}
use Rattle.record_core.specs.declared.cell.Form.TheVariants.{Text}
use Rattle.expect_text.specs.Line.{cut_script, onset_in, plain_script, unlabelled_words}
use Rattle.expect_text.specs.Form.{ExpectLine, form_in}
use Rattle.expect_text.specs.Form.ExpectLine.{Other, Rounds, State, Refused, Unremarked}
use Rattle.text_core.specs.declared.at.AtWord.{AtWord}
use Rattle.expect_text.specs.declared.form.ExpectCause.{ExpectCause}
use Rattle.expect_text.specs.declared.form.Quantity.{Quantity}
use Rattle.expect_text.specs.Faults.{first_fault}
use Rattle.expect_text.specs.Names.{has_names}
use Rattle.room_net.specs.State.{NetState}
use Rattle.room_run.specs.Happening.{Happening}
use Rattle.room_run.specs.Happening.Happening.{OfEvent, OfRound}
use Rattle.room_run.specs.Run.{Config}
use Rattle.expect_told.specs.Turns.{IsToldOf, TextsEndSo, round_told, told_by}
use Rattle.capture_core.specs.Edges.{Captured}
use Rattle.capture_core.specs.declared.fault.Cause.{Cause}
use Rattle.capture_forms.specs.Captures.{capture_in}
use Rattle.capture_forms.specs.declared.form.CaptureForm.TheVariants.{Edges}
use Rattle.expect_remarks.specs.Kept.{audit_remarks}
use Rattle.expect_remarks.specs.Met.{remarks_met, shown_remarks}
use Rattle.room_run.specs.Emulate.{TextsHaveOneLine}
use Rattle.expect_judge.specs.Told.{EventLine, RoundLine, Told}
use Rattle.expect_judge.specs.Seen.{end_seen, ends_seen, first_of}
use Rattle.expect_judge.specs.Named.{is_labelled}
use Rattle.expect_judge.specs.Judged.{form_judged, is_refusal_expected, line_judged, lines_judged, noted, nothing, other_judged, refused_judged, rounds_by, rounds_judged, span_of, verdicts_of}
use Rattle.expect_judge.specs.declared.judge.Judged.{Judged}
use Rattle.expect_judge.specs.declared.seen.TimeSpan.{TimeSpan}
use Rattle.expect_run.specs.States.{AreStates, IsStateOf, IsTraced, StateView, device_of, state_said}
use Rattle.expect_run.specs.States.StateView.{Below, Said}
use Rattle.expect_run.specs.Report.{Report, found_tests, report, report_start, with_event, with_found, with_line, with_lines, with_refusal, with_refusals, with_word}
use Rattle.expect_run.specs.Kept.{are_timed, kept}
use Rattle.expect_run.specs.declared.checking.CheckError.{CheckError}
use Rattle.expect_run.specs.declared.checking.CheckError.TheVariants.{Emulate, Expect, Write, Memory}
use Rattle.text_core.specs.declared.at.At.{At}
use Rattle.expect_run.specs.Check.{IsCheckReported, IsKeptOf, IsReportOf, IsVerdictReported, TalliesCountVerdicts, tally_of}

pub reported : (form : Form) (topology script : List ℕ) (told : Told) (states texts : List (List ℕ)) (r : Report) → IsToldOf form topology script told → first_fault topology script ≡ None
    → AreStates Said topology (plain_script script) (lines_of script) states → AreStates (Below form) topology (plain_script script) (lines_of script) texts → r ≡ report form script told states texts
    → IsReportOf form topology script r
reported form topology script told states texts r run accepted are below made =
    record { told = told; run = run; accepted = accepted; states = states; states_are = are; texts = texts; texts_are = below; report_is = made }

-- ---- states

abbrev remarks_by : Option (List ℕ) → Result Captured (At Cause) → List ℕ
remarks_by pattern (Ok capture) = shown_remarks Text (remarks_met pattern (audit_remarks capture))
remarks_by pattern (Err fault) = []

one_state : TextsEndSo → TextsHaveOneLine → (topology plain : List ℕ) (form : Result ExpectLine (AtWord ExpectCause)) (x y : List ℕ) → IsStateOf Said topology plain form x → IsStateOf Said topology plain form y → x ≡ y
one_state law line topology plain (Ok (State time device words)) x y h k =
    let one = h.1 in
    let two = k.1 in
    let same = law topology (cut_script time plain) one.happened two.happened one.last two.last one.run two.run in
    let nets : h.0 ≡ k.0 = one.net_is ∙ ap (λ (c : Config). c.net) same.1 ∙ sym two.net_is in
    h.2 ∙ ap (λ (net : NetState). state_said (device_of device net.devices)) nets ∙ sym k.2
one_state law line topology plain (Ok Other) x y h k = h ∙ sym k
one_state law line topology plain (Ok (Rounds quantity window pattern)) x y h k = h ∙ sym k
one_state law line topology plain (Ok (Refused name word)) x y h k = h ∙ sym k
one_state law line topology plain (Ok (Unremarked pattern)) x y h k =
    let same = line Edges topology plain h.edges k.edges h.totals k.totals h.run k.run in
    h.told_is ∙ sym (ap (remarks_by pattern) h.read) ∙ ap (λ edges. remarks_by pattern (capture_in Edges [] edges)) same.0 ∙ ap (remarks_by pattern) k.read ∙ sym k.told_is
one_state law line topology plain (Err cause) x y h k = h ∙ sym k

one_states : TextsEndSo → TextsHaveOneLine → (topology plain : List ℕ) (lines xs ys : List (List ℕ)) → AreStates Said topology plain lines xs → AreStates Said topology plain lines ys → xs ≡ ys
one_states law run_line topology plain [] xs ys h k = h ∙ sym k
one_states law run_line topology plain (line ∷ lines) [] ys h k = absurd h
one_states law run_line topology plain (line ∷ lines) (x ∷ xs) [] h k = absurd k
one_states law run_line topology plain (line ∷ lines) (x ∷ xs) (y ∷ ys) h k =
    ap (λ a. a ∷ xs) (one_state law run_line topology plain (form_in (unlabelled_words (words_of line))) x y h.0 k.0) ∙ ap (λ zs. y ∷ zs) (one_states law run_line topology plain lines xs ys h.1 k.1)

-- ---- verdicts, which go by what is found alone

line_verdicts : (f g : Form) (xs ys : List RoundLine) (b c : List ℕ) (q r : Report) (number : ℕ) (line : List ℕ) (j : Judged) → q.verdicts ≡ r.verdicts
    → (with_line f xs b q number line j).verdicts ≡ (with_line g ys c r number line j).verdicts
line_verdicts f g xs ys b c q r number line j e = by j.holds
  where
    by : (o : Option Bool) → (with_found f xs b q number line j o).verdicts ≡ (with_found g ys c r number line j o).verdicts
    by None = e
    by (Some true) = ap (λ (vs : List Bool). vs ++ true ∷ []) e
    by (Some false) = ap (λ (vs : List Bool). vs ++ false ∷ []) e

lines_verdicts : (f g : Form) (v w : StateView) (topology plain : List ℕ) (xs ys : List RoundLine) (q r : Report) (number : ℕ) (lines bs cs : List (List ℕ)) (js : List Judged)
    → AreStates v topology plain lines bs → AreStates w topology plain lines cs → q.verdicts ≡ r.verdicts → (with_lines f xs q number lines bs js).verdicts ≡ (with_lines g ys r number lines cs js).verdicts
lines_verdicts f g v w topology plain xs ys q r number [] bs cs js h k e = e
lines_verdicts f g v w topology plain xs ys q r number (line ∷ lines) [] cs js h k e = absurd h
lines_verdicts f g v w topology plain xs ys q r number (line ∷ lines) (b ∷ bs) [] js h k e = absurd k
lines_verdicts f g v w topology plain xs ys q r number (line ∷ lines) (b ∷ bs) (c ∷ cs) [] h k e = e
lines_verdicts f g v w topology plain xs ys q r number (line ∷ lines) (b ∷ bs) (c ∷ cs) (j ∷ js) h k e =
    lines_verdicts f g v w topology plain xs ys (with_line f xs b q number line j) (with_line g ys c r number line j) (number + 1) lines bs cs js h.1 k.1
    (line_verdicts f g xs ys b c q r number line j e)

event_verdicts : (f g : Form) (script : List ℕ) (q r : Report) (v : EventLine) → q.verdicts ≡ r.verdicts → (with_event f script q v).verdicts ≡ (with_event g script r v).verdicts
event_verdicts f g script q r v e = by v.refused
  where
    choose : (b : Bool) (word : List ℕ) → (if b then q else with_refusal f q v.line word).verdicts ≡ (if b then r else with_refusal g r v.line word).verdicts
    choose true word = e
    choose false word = ap (λ (vs : List Bool). vs ++ false ∷ []) e

    by : (o : Option (List ℕ)) → (with_word f script q v.line o).verdicts ≡ (with_word g script r v.line o).verdicts
    by None = e
    by (Some word) = choose (is_refusal_expected script v.line) word

refusals_verdicts : (f g : Form) (script : List ℕ) (q r : Report) (events : List EventLine) → q.verdicts ≡ r.verdicts → (with_refusals f script q events).verdicts ≡ (with_refusals g script r events).verdicts
refusals_verdicts f g script q r [] e = e
refusals_verdicts f g script q r (v ∷ events) e = refusals_verdicts f g script (with_event f script q v) (with_event g script r v) events (event_verdicts f g script q r v e)

-- ---- what is found does not go by how rounds are shown

ends_alike : (f g : Form) (named : Bool) (xs : List Happening) (span : TimeSpan) (pattern : List ℕ) → ends_seen (told_by f named xs).rounds span pattern ≡ ends_seen (told_by g named xs).rounds span pattern
ends_alike f g named [] span pattern = refl
ends_alike f g named (OfEvent at e before ∷ xs) span pattern = ends_alike f g named xs span pattern
ends_alike f g named (OfRound begin before o ∷ xs) span pattern =
    ap (cons_option (end_seen span pattern (round_told g named before.devices o))) (ends_alike f g named xs span pattern)

abbrev AreAlike : Told → Told → Type 0
AreAlike t u = (t.events ≡ u.events) × ((span : TimeSpan) (pattern : List ℕ) → ends_seen t.rounds span pattern ≡ ends_seen u.rounds span pattern)

span_alike : (t u : Told) → AreAlike t u → (quantity : Quantity) (pattern : List ℕ) (o : Option TimeSpan) → rounds_judged t.rounds quantity pattern o ≡ rounds_judged u.rounds quantity pattern o
span_alike t u h quantity pattern None = refl
span_alike t u h quantity pattern (Some span) = ap (λ (ends : List ℕ). rounds_by quantity span (length ends) (first_of ends)) (h.1 span pattern)

form_alike : (script : List ℕ) (t u : Told) (state : List ℕ) (at : ℕ → Option ℕ) (number : ℕ) (named : Bool) (onset : Option ℕ) (f : Result ExpectLine (AtWord ExpectCause)) → AreAlike t u
    → form_judged script t state at number named onset f ≡ form_judged script u state at number named onset f
form_alike script t u state at number named onset (Err cause) h = refl
form_alike script t u state at number named onset (Ok Other) h = ap (λ (es : List EventLine). if named then other_judged es number onset else nothing) h.0
form_alike script t u state at number named onset (Ok (Rounds quantity window pattern)) h = span_alike t u h quantity pattern (span_of script at window)
form_alike script t u state at number named onset (Ok (State time device words)) h = refl
form_alike script t u state at number named onset (Ok (Refused name word)) h = ap (λ (es : List EventLine). refused_judged script es number name word) h.0
form_alike script t u state at number named onset (Ok (Unremarked pattern)) h = refl

lines_alike : (script : List ℕ) (t u : Told) → AreAlike t u → (at : ℕ → Option ℕ) (number : ℕ) (lines states : List (List ℕ)) → lines_judged script t at number lines states ≡ lines_judged script u at number lines states
lines_alike script t u h at number [] states = refl
lines_alike script t u h at number (line ∷ lines) [] = refl
lines_alike script t u h at number (line ∷ lines) (state ∷ states) =
    let same : line_judged script t state at number line ≡ line_judged script u state at number line =
    form_alike script t u state at number (is_labelled line) (onset_in (unlabelled_words (words_of line))) (form_in (unlabelled_words (words_of line))) h in
    ap (λ (j : Judged). j ∷ lines_judged script t (noted at number j.at) (number + 1) lines states) same
    ∙ ap (λ (js : List Judged). line_judged script u state at number line ∷ js) (lines_alike script t u h (noted at number (line_judged script u state at number line).at) (number + 1) lines states)

-- ---- one report, but for its text

one_report : TextsEndSo → TextsHaveOneLine → (form : Form) (topology script : List ℕ) (r q : Report) → IsReportOf form topology script r → IsReportOf Text topology script q → r.verdicts ≡ q.verdicts
one_report law run_line form topology script r q x y =
    let names = has_names script in
    let same = law topology (plain_script script) x.run.happened y.run.happened x.run.last y.run.last x.run.run y.run.run in
    let t : Told = told_by form names y.run.happened in
    let u : Told = told_by Text names y.run.happened in
    let told : x.told ≡ t = x.run.told_is ∙ ap (told_by form names) same.0 in
    let states : x.states ≡ y.states = one_states law run_line topology (plain_script script) (lines_of script) x.states y.states x.states_are y.states_are in
    let found : verdicts_of script t x.states ≡ verdicts_of script u x.states = lines_alike script t u (refl, ends_alike form Text names y.run.happened) (λ line. None) 1 (lines_of script) x.states in
    let js = verdicts_of script u x.states in
    ap (λ (p : Report). p.verdicts) x.report_is
    ∙ ap (λ (d : Told). (report form script d x.states x.texts).verdicts) told
    ∙ ap (λ (vs : List Judged). (found_tests form script t x.texts vs).verdicts) found
    ∙ refusals_verdicts form Text script (with_lines form t.rounds (report_start form) 1 (lines_of script) x.texts js) (with_lines Text u.rounds (report_start Text) 1 (lines_of script) y.texts js) u.events
    (lines_verdicts form Text (Below form) (Below Text) topology (plain_script script) t.rounds u.rounds (report_start form) (report_start Text) 1 (lines_of script) x.texts y.texts js x.texts_are y.texts_are refl)
    ∙ ap (λ (xs : List (List ℕ)). (report Text script u xs y.texts).verdicts) states
    ∙ sym (ap (λ (p : Report). p.verdicts) (y.report_is ∙ ap (λ (d : Told). report Text script d y.states y.texts) y.run.told_is))

pub tallies_count_verdicts : TextsEndSo → TextsHaveOneLine → TalliesCountVerdicts
tallies_count_verdicts law run_line form topology script old new tally verdicts (r, is, counted, written) (q, other, are) =
    counted ∙ ap tally_of (one_report law run_line form topology script r q is other) ∙ ap tally_of (sym are)

-- ---- what is kept of a run

pub reported_few : (form : Form) (topology script : List ℕ) (few : Told) (states texts : List (List ℕ)) (r : Report) → IsKeptOf form topology script few → first_fault topology script ≡ None
    → AreStates Said topology (plain_script script) (lines_of script) states → AreStates (Below form) topology (plain_script script) (lines_of script) texts
    → ((told : Told) → few ≡ kept script told → are_timed script told.events ≡ true → r ≡ report form script told states texts) → IsReportOf form topology script r
reported_few form topology script few states texts r run accepted are below made =
    reported form topology script run.told states texts r run.run accepted are below (made run.told run.few_is run.timed)

pub faulty : (topology script named : List ℕ) (fault : At ExpectCause) → IsTraced topology (plain_script script) → named ≡ script → first_fault topology named ≡ Some fault
    → IsVerdictReported topology script (Expect fault)
faulty topology script named fault run same is = record {
  reported = (run.0, run.1, run.2, ap (first_fault topology) (sym same) ∙ is);
  unwritten = refl;
}

pub faultless : (topology script named : List ℕ) → named ≡ script → first_fault topology named ≡ None → first_fault topology script ≡ None
faultless topology script named same is = ap (first_fault topology) (sym same) ∙ is

-- ---- refusals

-- where nothing is written, the form does not count
pub in_each_form : (form : Form) (topology script : List ℕ) (error : CheckError) → IsVerdictReported topology script error → IsCheckReported form topology script error
in_each_form form topology script (Emulate error) h = h.reported
in_each_form form topology script (Expect fault) h = h.reported
in_each_form form topology script (Write count) h = absurd (false≢true (sym h.unwritten))
in_each_form form topology script Memory h = tt
