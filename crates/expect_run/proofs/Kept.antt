-- The report by the lines that are needed of a trace is that by the trace.
use Rattle.std.proofs.Common.{◌≡◌, ℕ, ◌+◌, ◌-◌, ◌^◌, ◌≤◌, ◌==◌, ◌&&◌, ◌||◌, nat_le, min, Bool, true, false, cond, if◌then◌else◌, codes, List, [], ◌∷◌, ◌++◌, length, map, take, filter, Option, Some, None, is_some, Result, Ok, Err, refl, sym, ap, ◌∙◌, arith}
use Rattle.std.specs.List.{cons_option, filter_map, flat_map, list_any}
use Rattle.std.specs.Str.{bytes_eq}
use Rattle.std.proofs.lemmas.Bool.{false≢true}
use Rattle.std.proofs.lemmas.Bool.Decides.{nat_tests}
use Rattle.std.proofs.lemmas.Grind.{common_steps}
use Rattle.std.proofs.lemmas.Slice.Eq.{bytes_eq-Decides}
use Rattle.record_core.specs.declared.cell.Form.{Form}
use Rattle.text_core.specs.Lines.{lines_of}
use Rattle.text_core.specs.Number.{number_of}
use Rattle.text_core.specs.Words.{words_of}
use Rattle.expect_text.specs.Names.{meets}
use Rattle.expect_text.specs.Line.{onset_in, unlabelled_words}
use Rattle.expect_text.specs.Form.{ExpectLine, ExpectWindow, expectation_in, form_in}
use Rattle.expect_text.specs.Form.ExpectLine.{Other, Rounds, State, Refused, Unremarked}
use Rattle.expect_text.specs.Form.ExpectWindow.{Within, From}
use Rattle.expect_text.specs.Faults.{event_above, event_labelled, is_event_at, line_of_label}
use Rattle.text_core.specs.declared.at.AtWord.{AtWord}
use Rattle.expect_text.specs.declared.form.ExpectCause.{ExpectCause}
use Rattle.expect_text.specs.declared.form.Quantity.{Quantity}
use Rattle.expect_judge.specs.Told.{EventLine, RoundLine, Told, event_at}
use Rattle.expect_judge.specs.Named.{form_is_of_above, is_labelled, is_named, is_of_above, name_lines, names_line}
use Rattle.expect_judge.proofs.Naming.{label_names}
use Rattle.expect_judge.proofs.Ordered.{same_ends as ends_of_same}
use Rattle.expect_judge.specs.Seen.{ends_seen, first_of, is_seen, rounds_seen}
use Rattle.expect_judge.specs.Judged.{JudgedLine, event_instant, finding_as, findings_from, findings_of, form_judged, instant_at, is_word, noted, or_more, verdicts_of, line_judged, lines_judged, of_instant, refusal_at, refusal_by, rounds_by, rounds_judged, span_from, span_of, states_for}
use Rattle.expect_judge.specs.declared.seen.TimeSpan.{TimeSpan}
use Rattle.expect_judge.specs.declared.judge.Judged.{Judged}
use Rattle.expect_judge.specs.declared.judge.JudgedLine.{JudgedLine as FindingRead}
use Rattle.expect_run.specs.Report.{Report, report_start, report_with_plan, form_remarks, report, seen_line, shown_round, shown_text, span_remarks, report_by, with_event, with_found, with_line, with_lines, with_refusals, with_remarks, with_test, with_word}
use Rattle.expect_run.specs.Kept.{Watch, are_timed, has_failed, is_at, is_event_kept, is_met, is_round_kept, is_timed, is_unmet, kept, known_from, known_span, labelled_time, longest_wait, time_at, time_in, times_from, watch_by, watch_of, watches_of}
use Rattle.expect_run.proofs.Found.{report_again}

-- ---- lists without some of their elements

kept_passes : {X : Type 0} (keep g : X → Bool) → ((x : X) → keep x ≡ false → g x ≡ false) → (xs : List X) → filter g (filter keep xs) ≡ filter g xs
kept_passes keep g h [] = refl
kept_passes {X} keep g h (x ∷ xs) = by (keep x) refl (kept_passes keep g h xs)
  where
    by : (b : Bool) → keep x ≡ b → filter g (filter keep xs) ≡ filter g xs → filter g (cond b (x ∷ filter keep xs) (filter keep xs)) ≡ cond (g x) (x ∷ filter g xs) (filter g xs)
    by true e more = ap (λ (ys : List X). cond (g x) (x ∷ ys) ys) more
    by false e more = more ∙ sym (ap (λ b. cond b (x ∷ filter g xs) (filter g xs)) (h x e))

-- ---- what is not kept

left_of : (a b : Bool) → (a || b) ≡ false → a ≡ false
left_of true b h = h
left_of false b h = refl

right_of : (a b : Bool) → (a || b) ≡ false → b ≡ false
right_of true b h = absurd (false≢true (sym h))
right_of false b h = h

nothing_there : {X : Type 0} (o : Option X) → is_some o ≡ false → o ≡ None
nothing_there None h = refl
nothing_there (Some x) h = absurd (false≢true (sym h))

-- the event of a line with this number
abbrev of_line : ℕ → EventLine → Bool
of_line number e = e.line == number

same : (a b : ℕ) → (a == b) ≡ true → a ≡ b
same a b h = grind (arith, nat_tests)

left_and : (a b : Bool) → (a && b) ≡ true → a ≡ true
left_and true b h = refl
left_and false b h = h

right_and : (a b : Bool) → (a && b) ≡ true → b ≡ true
right_and true b h = h
right_and false b h = absurd (false≢true h)

-- it is of no line with a label
no_named : (script : List ℕ) (number : ℕ) (e : EventLine) → is_named script number ≡ true → is_event_kept script e ≡ false → of_line number e ≡ false
no_named script number e named h = by (e.line == number) refl
  where
    by : (b : Bool) → (e.line == number) ≡ b → b ≡ false
    by true k = sym (sym (left_of (is_named script e.line) (is_some e.refused) h) ∙ ap (is_named script) (same e.line number k) ∙ named)
    by false k = refl

kept_event : (script : List ℕ) (number : ℕ) → is_named script number ≡ true → (events : List EventLine) → event_at (filter (is_event_kept script) events) number ≡ event_at events number
kept_event script number named [] = refl
kept_event script number named (e ∷ events) = by (is_event_kept script e) refl (kept_event script number named events)
  where
    by : (b : Bool) → is_event_kept script e ≡ b → event_at (filter (is_event_kept script) events) number ≡ event_at events number
        → event_at (cond b (e ∷ filter (is_event_kept script) events) (filter (is_event_kept script) events)) number ≡ cond (of_line number e) (Some e) (event_at events number)
    by true k more = ap (λ (o : Option EventLine). cond (of_line number e) (Some e) o) more
    by false k more = more ∙ sym (ap (λ b. cond b (Some e) (event_at events number)) (no_named script number e named k))

-- a round that is seen is what one of these looks for
abbrev SpanCovered : List Watch → List ℕ → Option TimeSpan → Type 0
SpanCovered all pattern None = Unit {0}
SpanCovered all pattern (Some span) = (r : RoundLine) → is_seen span pattern r ≡ true → list_any (is_met r) all ≡ true

not_seen : (script : List ℕ) (span : TimeSpan) (pattern : List ℕ) → SpanCovered (watches_of script) pattern (Some span) → (r : RoundLine) → is_round_kept script r ≡ false → is_seen span pattern r ≡ false
not_seen script span pattern covers r h = by (is_seen span pattern r) refl
  where
    by : (b : Bool) → is_seen span pattern r ≡ b → b ≡ false
    by true e = sym (covers r e) ∙ h
    by false e = refl

-- ---- lines of a script

-- what an expectation looks for is looked for, and its line has no time; the event of the line above that it speaks of is kept
abbrev FormCovered : List ℕ → ℕ → Result ExpectLine (AtWord ExpectCause) → Type 0
FormCovered script number (Err cause) = Unit {0}
FormCovered script number (Ok Other) = Unit {0}
FormCovered script number (Ok (Rounds quantity window pattern)) =
    ((r : RoundLine) → is_met r (record { span = known_span script (time_at script) window; pattern = pattern }) ≡ true → list_any (is_met r) (watches_of script) ≡ true) × (time_at script number ≡ None)
FormCovered script number (Ok (State time device words)) = Unit {0}
FormCovered script number (Ok (Unremarked pattern)) = Unit {0}
FormCovered script number (Ok (Refused None word)) = is_named script (number - 1) ≡ true
FormCovered script number (Ok (Refused (Some name) word)) = Unit {0}

-- the line of a pulse has no time of an event
abbrev OnsetCovered : List ℕ → ℕ → Option ℕ → Type 0
OnsetCovered script number None = Unit {0}
OnsetCovered script number (Some onset) = time_at script number ≡ None

-- of a script, these lines of it, of which the first has this number
abbrev AreCovered : List ℕ → ℕ → List (List ℕ) → Type 0
AreCovered script number [] = Unit {0}
AreCovered script number (line ∷ lines) =
    FormCovered script number (form_in (unlabelled_words (words_of line))) × (is_labelled line ≡ true → is_named script number ≡ true)
    × OnsetCovered script number (onset_in (unlabelled_words (words_of line))) × AreCovered script (number + 1) lines

or_so : (a : Bool) → (a || true) ≡ true
or_so true = refl
or_so false = refl

itself : (n : ℕ) → (n == n) ≡ true
itself n = grind (arith, nat_tests)

or_first : (a b : Bool) → a ≡ true → (a || b) ≡ true
or_first true b h = refl
or_first false b h = absurd (false≢true h)

-- an expectation has no time
no_time : (words : List (List ℕ)) (quantity : Quantity) (window : ExpectWindow) (pattern : List ℕ) → form_in words ≡ Ok (Rounds quantity window pattern) → time_in words ≡ None
no_time [] quantity window pattern h = refl
no_time (verb ∷ []) quantity window pattern h = refl
no_time (verb ∷ time ∷ words) quantity window pattern h = by (bytes_eq verb (codes "expect")) refl h
  where
    by : (b : Bool) → bytes_eq verb (codes "expect") ≡ b → (if b then expectation_in (verb ∷ time ∷ words) else Ok Other) ≡ Ok (Rounds quantity window pattern) → time_in (verb ∷ time ∷ words) ≡ None
    by true e k = ap (λ (word : List ℕ). time_in (word ∷ time ∷ words)) ((bytes_eq-Decides verb (codes "expect")).0 e)
    by false e k = cc

no_labelled_time : (line : List ℕ) (quantity : Quantity) (window : ExpectWindow) (pattern : List ℕ) → form_in (unlabelled_words (words_of line)) ≡ Ok (Rounds quantity window pattern) → labelled_time line ≡ None
no_labelled_time line quantity window pattern h = by (is_labelled line)
  where
    by : (b : Bool) → (if b then time_in (unlabelled_words (words_of line)) else None) ≡ None
    by true = no_time (unlabelled_words (words_of line)) quantity window pattern h
    by false = refl

-- nor has a pulse, a pull or the pin
no_onset_time : (words : List (List ℕ)) (onset : ℕ) → onset_in words ≡ Some onset → time_in words ≡ None
no_onset_time [] onset h = refl
no_onset_time (verb ∷ []) onset h = refl
no_onset_time (verb ∷ time ∷ words) onset h = by (bytes_eq verb (codes "pulse")) (bytes_eq verb (codes "pull")) (bytes_eq verb (codes "pin")) refl refl refl h
  where
    timeless : (word : List ℕ) → time_in (word ∷ time ∷ words) ≡ None → bytes_eq verb word ≡ true → time_in (verb ∷ time ∷ words) ≡ None
    timeless word none e = ap (λ (w : List ℕ). time_in (w ∷ time ∷ words)) ((bytes_eq-Decides verb word).0 e) ∙ none

    by : (pulse pull pin : Bool) → bytes_eq verb (codes "pulse") ≡ pulse → bytes_eq verb (codes "pull") ≡ pull → bytes_eq verb (codes "pin") ≡ pin
        → (if pulse || pull || pin then number_of time else None) ≡ Some onset → time_in (verb ∷ time ∷ words) ≡ None
    by true pull pin e f g k = timeless (codes "pulse") refl e
    by false true pin e f g k = timeless (codes "pull") refl f
    by false false true e f g k = timeless (codes "pin") refl g
    by false false false e f g k = cc

no_time_of_pulse : (line : List ℕ) (onset : ℕ) → onset_in (unlabelled_words (words_of line)) ≡ Some onset → labelled_time line ≡ None
no_time_of_pulse line onset h = by (is_labelled line)
  where
    by : (b : Bool) → (if b then time_in (unlabelled_words (words_of line)) else None) ≡ None
    by true = no_onset_time (unlabelled_words (words_of line)) onset h
    by false = refl

later : (m n : ℕ) → m + 1 ≤ n → (m == n) ≡ false
later m n h = grind (arith, nat_tests)

covered : (script : List ℕ) (number : ℕ) (lines : List (List ℕ))
    → ((r : RoundLine) → list_any (is_met r) (filter_map (watch_of script (time_at script)) lines) ≡ true → list_any (is_met r) (watches_of script) ≡ true)
    → ((other : ℕ) → name_lines number lines other ≡ true → is_named script other ≡ true) → ((other : ℕ) → number ≤ other → time_at script other ≡ times_from number lines other)
    → AreCovered script number lines
covered script number [] h names times = tt
covered script number (line ∷ lines) h names times = (
  first (form_in (unlabelled_words (words_of line))) refl,
  λ labelled. names number (or_first (names_line number line number) (name_lines (number + 1) lines number)
      (or_first (is_labelled line && (number == number)) (is_of_above line && (number - 1 == number)) (ap (λ b. b && (number == number)) labelled ∙ itself number))),
  own_onset (onset_in (unlabelled_words (words_of line))) refl,
  covered script (number + 1) lines (λ r k. h r (more r (watch_of script (time_at script) line) k)) (λ other k. names other (ap (λ b. names_line number line other || b) k ∙ or_so (names_line number line other)))
      (λ other k. times other (omega (arith, k)) ∙ ap (λ (b : Bool). if b then labelled_time line else times_from (number + 1) lines other) (later number other k)),
)
  where
    watched : List Watch
    watched = filter_map (watch_of script (time_at script)) lines

    more : (r : RoundLine) (o : Option Watch) → list_any (is_met r) watched ≡ true → list_any (is_met r) (cons_option o watched) ≡ true
    more r None k = k
    more r (Some w) k = ap (λ b. is_met r w || b) k ∙ or_so (is_met r w)

    first : (f : Result ExpectLine (AtWord ExpectCause)) → form_in (unlabelled_words (words_of line)) ≡ f → FormCovered script number f
    first (Err cause) e = tt
    first (Ok Other) e = tt
    first (Ok (Rounds quantity window pattern)) e = (
      λ r k. h r (ap (λ (g : Result ExpectLine (AtWord ExpectCause)). list_any (is_met r) (cons_option (watch_by script (time_at script) g) watched)) e ∙ ap (λ b. b || list_any (is_met r) watched) k),
      times number (omega arith) ∙ ap (λ (b : Bool). if b then labelled_time line else times_from (number + 1) lines number) (itself number)
          ∙ no_labelled_time line quantity window pattern e,
    )
    first (Ok (State time device words)) e = tt
    first (Ok (Unremarked pattern)) e = tt
    first (Ok (Refused None word)) e =
        names (number - 1) (or_first (names_line number line (number - 1)) (name_lines (number + 1) lines (number - 1))
        (ap (λ b. (is_labelled line && (number == number - 1)) || b) (ap (λ (g : Result ExpectLine (AtWord ExpectCause)). form_is_of_above g && (number - 1 == number - 1)) e ∙ itself (number - 1))
        ∙ or_so (is_labelled line && (number == number - 1))))
    first (Ok (Refused (Some name) word)) e = tt

    own_onset : (o : Option ℕ) → onset_in (unlabelled_words (words_of line)) ≡ o → OnsetCovered script number o
    own_onset None e = tt
    own_onset (Some onset) e =
        times number (omega arith) ∙ ap (λ (b : Bool). if b then labelled_time line else times_from (number + 1) lines number) (itself number)
        ∙ no_time_of_pulse line onset e

-- ---- the instants of lines

-- an instant is that of the script, or later by a wait
abbrev IsNear : ℕ → ℕ → Type 0
IsNear time at = (time ≤ at) × (at ≤ time + longest_wait)

abbrev AreNear : List ℕ → (ℕ → Option ℕ) → Type 0
AreNear script at = (number instant time : ℕ) → at number ≡ Some instant → time_at script number ≡ Some time → IsNear time instant

value : (m n : ℕ) → Some m ≡ Some n → m ≡ n
value m n h = cc

untimed : (time instant : ℕ) → None ≡ Some time → IsNear time instant
untimed time instant h = cc

-- with the instant of one line more
near_more : (script : List ℕ) (at : ℕ → Option ℕ) (number : ℕ) (o : Option ℕ) → AreNear script at
    → ((instant time : ℕ) → o ≡ Some instant → time_at script number ≡ Some time → IsNear time instant) → AreNear script (noted at number o)
near_more script at number None near own = λ line instant time h k. near line instant time h k
near_more script at number (Some own_instant) near own = λ line instant time h k. by line instant time (number == line) refl h k
  where
    by : (line instant time : ℕ) (b : Bool) → (number == line) ≡ b → (if b then Some own_instant else at line) ≡ Some instant → time_at script line ≡ Some time → IsNear time instant
    by line instant time true e h k = own instant time h (ap (time_at script) (same number line e) ∙ k)
    by line instant time false e h k = near line instant time h k

near_by : (at time : ℕ) → (nat_le time at && nat_le at (time + longest_wait)) ≡ true → IsNear time at
near_by at time h = (grind (arith, nat_tests), grind (arith, nat_tests))

-- the event of a line is near its time, where all are
found_near : (script : List ℕ) (number instant time : ℕ) → time_at script number ≡ Some time → (events : List EventLine) → are_timed script events ≡ true
    → event_instant (event_at events number) ≡ Some instant → IsNear time instant
found_near script number instant time is [] all h = cc
found_near script number instant time is (e ∷ events) all h =
    here (e.line == number) refl (left_and (is_timed script e) (are_timed script events) all) h
    (λ k. found_near script number instant time is events (right_and (is_timed script e) (are_timed script events) all) k)
  where
    here : (b : Bool) → (e.line == number) ≡ b → is_at e.at (time_at script e.line) ≡ true → event_instant (cond b (Some e) (event_at events number)) ≡ Some instant
        → (event_instant (event_at events number) ≡ Some instant → IsNear time instant) → IsNear time instant
    here true k timed found more =
        near_by instant time
        (ap (λ n. nat_le time n && nat_le n (time + longest_wait)) (sym (value e.at instant found))
        ∙ sym (ap (is_at e.at) (ap (time_at script) (same e.line number k) ∙ is)) ∙ timed)
    here false k timed found more = more found

-- ---- the span that is judged lies in the one that is known

joined : (a b c : Bool) → (a && b && c) ≡ true → ((a && b) && c) ≡ true
joined true true c h = h
joined true false c h = h
joined false b c h = h

shorter : (a b most : ℕ) → a ≤ b → min a most ≤ min b most
shorter a b most h = grind (arith, nat_tests)

wider : (small large : TimeSpan) (pattern : List ℕ) (r : RoundLine) → large.from ≤ small.from → small.to ≤ large.to → is_seen small pattern r ≡ true
    → is_met r (record { span = Some large; pattern = pattern }) ≡ true
wider small large pattern r from to seen = grind (arith, common_steps)

last_and : (a b c : Bool) → (a && b && c) ≡ true → c ≡ true
last_and true true c h = h
last_and true false c h = absurd (false≢true h)
last_and false b c h = absurd (false≢true h)

module _ (script : List ℕ) (at : ℕ → Option ℕ) (near : AreNear script at) where
  -- a window from a label on
  label_covered : (duration : ℕ) (pattern : List ℕ) (o : Option ℕ)
      → ((r : RoundLine) → is_met r (record { span = known_from duration (instant_at (time_at script) o); pattern = pattern }) ≡ true → list_any (is_met r) (watches_of script) ≡ true)
      → SpanCovered (watches_of script) pattern (span_from duration (instant_at at o))
  label_covered duration pattern None covers = tt
  label_covered duration pattern (Some line) covers = by (at line) refl
    where
      met : (instant : ℕ) → at line ≡ Some instant → (r : RoundLine) → is_seen (record { from = instant; to = min (instant + duration) (2 ^ 64 - 1) }) pattern r ≡ true
          → (o : Option ℕ) → time_at script line ≡ o → is_met r (record { span = known_from duration o; pattern = pattern }) ≡ true
      met instant e r seen None k = last_and (nat_le instant r.begin) (nat_le r.at (min (instant + duration) (2 ^ 64 - 1))) (meets pattern r.reported) seen
      met instant e r seen (Some time) k =
          let is = near line instant time e k in
          wider (record { from = instant; to = min (instant + duration) (2 ^ 64 - 1) }) (record { from = time; to = min (time + duration + longest_wait) (2 ^ 64 - 1) }) pattern r
          is.0 (shorter (instant + duration) (time + duration + longest_wait) (2 ^ 64 - 1) (omega (arith, is.1))) seen

      by : (o : Option ℕ) → at line ≡ o → SpanCovered (watches_of script) pattern (span_from duration o)
      by None e = tt
      by (Some instant) e = λ r seen. covers r (met instant e r seen (time_at script line) refl)

  window_covered : (window : ExpectWindow) (pattern : List ℕ)
      → ((r : RoundLine) → is_met r (record { span = known_span script (time_at script) window; pattern = pattern }) ≡ true → list_any (is_met r) (watches_of script) ≡ true)
      → SpanCovered (watches_of script) pattern (span_of script at window)
  window_covered (Within duration name) pattern covers = label_covered duration pattern (line_of_label script name) covers
  window_covered (From from to) pattern covers =
      λ r seen. covers r (joined (nat_le from r.begin) (nat_le r.at to) (meets pattern r.reported) seen)

-- ---- what is found

abbrev of_refusal : List ℕ → Option (List ℕ) → Judged
of_refusal word refusal = record { holds = Some (is_word word refusal); at = None; span = None; count = 0 }

-- a test that is met, and those after it
met_by : (number : ℕ) (state : List ℕ) (j : Judged) (o : Option Bool) → j.holds ≡ o → (more : List JudgedLine) → list_any (λ f. is_unmet f.judged) (or_more number state j o more) ≡ false
    → (is_unmet j ≡ false) × (list_any (λ f. is_unmet f.judged) more ≡ false)
met_by number state j None e more h = (ap (λ o. has_failed o && is_some j.span && (j.count == 0)) e, h)
met_by number state j (Some holds) e more h =
    (left_of (is_unmet j) (list_any (λ (f : JudgedLine). is_unmet f.judged) more) h, right_of (is_unmet j) (list_any (λ (f : JudgedLine). is_unmet f.judged) more) h)

module _ (form : Form) (script : List ℕ) (told : Told) (timed : are_timed script told.events ≡ true) where
  same_event : (number : ℕ) → is_named script number ≡ true → event_at (kept script told).events number ≡ event_at told.events number
  same_event number named = kept_event script number named told.events

  same_rounds : (span : TimeSpan) (pattern : List ℕ) → SpanCovered (watches_of script) pattern (Some span) → rounds_seen (kept script told).rounds span pattern ≡ rounds_seen told.rounds span pattern
  same_rounds span pattern covers = kept_passes (is_round_kept script) (is_seen span pattern) (not_seen script span pattern covers) told.rounds

  same_ends : (span : TimeSpan) (pattern : List ℕ) → SpanCovered (watches_of script) pattern (Some span) → ends_seen (kept script told).rounds span pattern ≡ ends_seen told.rounds span pattern
  same_ends span pattern covers = ends_of_same (kept script told).rounds told.rounds span pattern (same_rounds span pattern covers)

  rounds_same : (quantity : Quantity) (pattern : List ℕ) (o : Option TimeSpan) → SpanCovered (watches_of script) pattern o → rounds_judged (kept script told).rounds quantity pattern o ≡ rounds_judged told.rounds quantity pattern o
  rounds_same quantity pattern None covers = refl
  rounds_same quantity pattern (Some span) covers = ap (λ (ends : List ℕ). rounds_by quantity span (length ends) (first_of ends)) (same_ends span pattern covers)

  refusals_same : (name : List ℕ) → refusal_at (kept script told).events (event_labelled script name) ≡ refusal_at told.events (event_labelled script name)
  refusals_same name = by (event_labelled script name) refl
    where
      by : (o : Option ℕ) → event_labelled script name ≡ o → refusal_at (kept script told).events o ≡ refusal_at told.events o
      by None e = refl
      by (Some line) e = ap refusal_by (same_event line (label_names true 1 (lines_of script) name line e))

  refusals_above : (number : ℕ) → is_named script (number - 1) ≡ true → refusal_at (kept script told).events (event_above script number) ≡ refusal_at told.events (event_above script number)
  refusals_above number named = by (is_event_at script (number - 1))
    where
      by : (b : Bool) → refusal_at (kept script told).events (if b then Some (number - 1) else None) ≡ refusal_at told.events (if b then Some (number - 1) else None)
      by true = ap refusal_by (same_event (number - 1) named)
      by false = refl

  form_same : (state : List ℕ) (at : ℕ → Option ℕ) → AreNear script at → (number : ℕ) (named : Bool) (onset : Option ℕ) (f : Result ExpectLine (AtWord ExpectCause)) → FormCovered script number f
      → (named ≡ true → is_named script number ≡ true) → form_judged script (kept script told) state at number named onset f ≡ form_judged script told state at number named onset f
  form_same state at near number named onset (Err cause) c names = refl
  form_same state at near number true None (Ok Other) c names = ap (λ (o : Option EventLine). of_instant (event_instant o)) (same_event number (names refl))
  form_same state at near number true (Some onset) (Ok Other) c names = refl
  form_same state at near number false onset (Ok Other) c names = refl
  form_same state at near number named onset (Ok (Rounds quantity window pattern)) c names =
      rounds_same quantity pattern (span_of script at window) (window_covered script at near window pattern c.0)
  form_same state at near number named onset (Ok (State time device words)) c names = refl
  form_same state at near number named onset (Ok (Unremarked pattern)) c names = refl
  form_same state at near number named onset (Ok (Refused None word)) c names = ap (of_refusal word) (refusals_above number c)
  form_same state at near number named onset (Ok (Refused (Some name) word)) c names = ap (of_refusal word) (refusals_same name)

  -- the instant of a line is near its time
  form_near : (state : List ℕ) (at : ℕ → Option ℕ) (number : ℕ) (named : Bool) (onset : Option ℕ) (f : Result ExpectLine (AtWord ExpectCause)) → FormCovered script number f → OnsetCovered script number onset
      → (instant time : ℕ) → (form_judged script told state at number named onset f).at ≡ Some instant → time_at script number ≡ Some time → IsNear time instant
  form_near state at number named onset (Err cause) c o instant time h k = cc
  form_near state at number true None (Ok Other) c o instant time h k = found_near script number instant time k told.events timed h
  form_near state at number true (Some onset) (Ok Other) c o instant time h k = untimed time instant (sym o ∙ k)
  form_near state at number false onset (Ok Other) c o instant time h k = cc
  form_near state at number named onset (Ok (Rounds quantity window pattern)) c o instant time h k = untimed time instant (sym c.1 ∙ k)
  form_near state at number named onset (Ok (State time_of_state device words)) c o instant time h k = cc
  form_near state at number named onset (Ok (Unremarked pattern)) c o instant time h k = cc
  form_near state at number named onset (Ok (Refused name word)) c o instant time h k = cc

  next_near : (state : List ℕ) (at : ℕ → Option ℕ) (number : ℕ) (line : List ℕ) → AreNear script at → FormCovered script number (form_in (unlabelled_words (words_of line)))
      → OnsetCovered script number (onset_in (unlabelled_words (words_of line))) → AreNear script (noted at number (line_judged script told state at number line).at)
  next_near state at number line near c o =
      near_more script at number (line_judged script told state at number line).at near
      (form_near state at number (is_labelled line) (onset_in (unlabelled_words (words_of line))) (form_in (unlabelled_words (words_of line))) c o)

  lines_same : (at : ℕ → Option ℕ) (number : ℕ) (lines states : List (List ℕ)) → AreNear script at → AreCovered script number lines
      → lines_judged script (kept script told) at number lines states ≡ lines_judged script told at number lines states
  lines_same at number [] states near c = refl
  lines_same at number (line ∷ lines) [] near c = refl
  lines_same at number (line ∷ lines) (state ∷ states) near c =
      ap (λ (j : Judged). j ∷ lines_judged script (kept script told) (noted at number j.at) (number + 1) lines states)
      (form_same state at near number (is_labelled line) (onset_in (unlabelled_words (words_of line))) (form_in (unlabelled_words (words_of line))) c.0 c.1)
      ∙ ap (λ (js : List Judged). line_judged script told state at number line ∷ js)
      (lines_same (noted at number (line_judged script told state at number line).at) (number + 1) lines states (next_near state at number line near c.0 c.2) c.3)

  -- ---- what is shown

  shown_same : (span : TimeSpan) (pattern : List ℕ) → SpanCovered (watches_of script) pattern (Some span) → shown_text (kept script told).rounds span pattern ≡ shown_text told.rounds span pattern
  shown_same span pattern covers = ap (λ (rs : List RoundLine). flat_map shown_round (take 8 rs)) (same_rounds span pattern covers)

  seen_same : (pattern : List ℕ) (count : ℕ) (span : TimeSpan) → SpanCovered (watches_of script) pattern (Some span) → (count == 0) ≡ false → span_remarks form (kept script told).rounds pattern count (Some span) ≡ span_remarks form told.rounds pattern count (Some span)
  seen_same pattern count span covers h =
      ap (λ t. seen_line form count span ++ t)
      (ap (λ b. shown_text (kept script told).rounds span (if b then codes "*" else pattern)) h ∙ shown_same span pattern covers ∙ sym (ap (λ b. shown_text told.rounds span (if b then codes "*" else pattern)) h))

  span_same : (quantity : Quantity) (pattern : List ℕ) (o : Option TimeSpan) → SpanCovered (watches_of script) pattern o
      → (is_some (rounds_judged told.rounds quantity pattern o).span && ((rounds_judged told.rounds quantity pattern o).count == 0)) ≡ false
      → span_remarks form (kept script told).rounds pattern (rounds_judged told.rounds quantity pattern o).count (rounds_judged told.rounds quantity pattern o).span
      ≡ span_remarks form told.rounds pattern (rounds_judged told.rounds quantity pattern o).count (rounds_judged told.rounds quantity pattern o).span
  span_same quantity pattern None covers h = refl
  span_same quantity pattern (Some span) covers h = seen_same pattern (length (ends_seen told.rounds span pattern)) span covers h

  remarks_same : (state below : List ℕ) (at : ℕ → Option ℕ) → AreNear script at → (number : ℕ) (named : Bool) (onset : Option ℕ) (f : Result ExpectLine (AtWord ExpectCause)) → FormCovered script number f
      → (is_some (form_judged script told state at number named onset f).span && ((form_judged script told state at number named onset f).count == 0)) ≡ false
      → form_remarks form (kept script told).rounds below (form_judged script told state at number named onset f) f ≡ form_remarks form told.rounds below (form_judged script told state at number named onset f) f
  remarks_same state below at near number named onset (Err cause) c h = refl
  remarks_same state below at near number named onset (Ok Other) c h = refl
  remarks_same state below at near number named onset (Ok (Rounds quantity window pattern)) c h =
      span_same quantity pattern (span_of script at window) (window_covered script at near window pattern c.0) h
  remarks_same state below at near number named onset (Ok (State time device words)) c h = refl
  remarks_same state below at near number named onset (Ok (Unremarked pattern)) c h = refl
  remarks_same state below at near number named onset (Ok (Refused name word)) c h = refl

  line_same : (state below : List ℕ) (r : Report) (at : ℕ → Option ℕ) (number : ℕ) (line : List ℕ) → AreNear script at → FormCovered script number (form_in (unlabelled_words (words_of line)))
      → is_unmet (line_judged script told state at number line) ≡ false
      → with_line form (kept script told).rounds below r number line (line_judged script told state at number line) ≡ with_line form told.rounds below r number line (line_judged script told state at number line)
  line_same state below r at number line near c h = by j.holds h
    where
      j : Judged
      j = line_judged script told state at number line

      by : (o : Option Bool) → (has_failed o && is_some j.span && (j.count == 0)) ≡ false → with_found form (kept script told).rounds below r number line j o ≡ with_found form told.rounds below r number line j o
      by None k = refl
      by (Some true) k = refl
      by (Some false) k =
          ap (with_remarks (with_test form r false number line) false) (remarks_same state below at near number (is_labelled line) (onset_in (unlabelled_words (words_of line))) (form_in (unlabelled_words (words_of line))) c k)

  tests_same : (r : Report) (at : ℕ → Option ℕ) (number : ℕ) (lines states texts : List (List ℕ)) → AreNear script at → AreCovered script number lines
      → list_any (λ f. is_unmet f.judged) (findings_from number texts (lines_judged script told at number lines states)) ≡ false
      → with_lines form (kept script told).rounds r number lines texts (lines_judged script told at number lines states) ≡ with_lines form told.rounds r number lines texts (lines_judged script told at number lines states)
  tests_same r at number [] states texts near c h = refl
  tests_same r at number (line ∷ lines) [] [] near c h = refl
  tests_same r at number (line ∷ lines) [] (below ∷ texts) near c h = refl
  tests_same r at number (line ∷ lines) (state ∷ states) [] near c h = refl
  tests_same r at number (line ∷ lines) (state ∷ states) (below ∷ texts) near c h =
      let j : Judged = line_judged script told state at number line in
      let js : List Judged = lines_judged script told (noted at number j.at) (number + 1) lines states in
      let met = met_by number below j j.holds refl (findings_from (number + 1) texts js) h in
      ap (λ (q : Report). with_lines form (kept script told).rounds q (number + 1) lines texts js) (line_same state below r at number line near c.0 met.0)
      ∙ tests_same (with_line form told.rounds below r number line j) (noted at number j.at) (number + 1) lines states texts (next_near state at number line near c.0 c.2) c.3 met.1

-- ---- refused events

no_refusal : (form : Form) (script : List ℕ) (r : Report) (e : EventLine) → is_event_kept script e ≡ false → with_event form script r e ≡ r
no_refusal form script r e h = ap (with_word form script r e.line) (nothing_there e.refused (right_of (is_named script e.line) (is_some e.refused) h))

events_same : (form : Form) (script : List ℕ) (r : Report) (events : List EventLine) → with_refusals form script r (filter (is_event_kept script) events) ≡ with_refusals form script r events
events_same form script r [] = refl
events_same form script r (e ∷ events) = by (is_event_kept script e) refl (events_same form script (with_event form script r e) events) (events_same form script r events)
  where
    by : (b : Bool) → is_event_kept script e ≡ b
        → with_refusals form script (with_event form script r e) (filter (is_event_kept script) events) ≡ with_refusals form script (with_event form script r e) events
        → with_refusals form script r (filter (is_event_kept script) events) ≡ with_refusals form script r events
        → with_refusals form script r (cond b (e ∷ filter (is_event_kept script) events) (filter (is_event_kept script) events)) ≡ with_refusals form script (with_event form script r e) events
    by true k more rest = more
    by false k more rest = rest ∙ sym (ap (λ (q : Report). with_refusals form script q events) (no_refusal form script r e k))

-- ---- all

no_instant : (script : List ℕ) → AreNear script (λ line. None)
no_instant script number instant time h k = cc

enough : (form : Form) (script : List ℕ) (told : Told) (states texts : List (List ℕ)) (found : List JudgedLine) (r : Report) → found ≡ findings_of script (kept script told) states texts
    → list_any (λ f. is_unmet f.judged) found ≡ false → r ≡ report_by form script (kept script told) found → are_timed script told.events ≡ true → r ≡ report form script told states texts
enough form script told states texts found r is h made timed =
    let all = lines_of script in
    let few = kept script told in
    let near = no_instant script in
    let c = covered script 1 all (λ r k. k) (λ other k. k) (λ other k. refl) in
    let js : verdicts_of script few states ≡ verdicts_of script told states = lines_same form script told timed (λ line. None) 1 all states near c in
    let met : list_any (λ f. is_unmet f.judged) (findings_of script told states texts) ≡ false =
    ap (λ (vs : List Judged). list_any (λ (f : JudgedLine). is_unmet f.judged) (findings_from 1 texts vs)) (sym js) ∙ ap (list_any (λ (f : JudgedLine). is_unmet f.judged)) (sym is) ∙ h in
    let tests : with_lines form few.rounds (report_start form) 1 all texts (verdicts_of script few states) ≡ with_lines form told.rounds (report_start form) 1 all texts (verdicts_of script told states) =
    ap (with_lines form few.rounds (report_start form) 1 all texts) js ∙ tests_same form script told timed (report_start form) (λ line. None) 1 all states texts near c met in
    made ∙ ap (report_by form script few) is ∙ report_again form script few texts (verdicts_of script few states)
    ∙ ap (report_with_plan form) (events_same form script (with_lines form few.rounds (report_start form) 1 all texts (verdicts_of script few states)) told.events)
    ∙ ap (λ (r : Report). report_with_plan form (with_refusals form script r told.events)) tests

-- what is found is lent twice
pub kept_is_enough : (form : Form) (script : List ℕ) (few told : Told) (states texts : List (List ℕ)) (found looked lent : List FindingRead) (r : Report) → few ≡ kept script told
    → map finding_as found ≡ findings_of script few (states_for (lines_of script) states) (states_for (lines_of script) texts) → looked ≡ found → list_any (λ f. is_unmet f.judged) (map finding_as looked) ≡ false
    → lent ≡ found → r ≡ report_by form script few (map finding_as lent) → are_timed script told.events ≡ true → r ≡ report form script told (states_for (lines_of script) states) (states_for (lines_of script) texts)
kept_is_enough form script few told states texts found looked lent r same is first h second made timed =
    enough form script told (states_for (lines_of script) states) (states_for (lines_of script) texts) (map finding_as found) r
    (is ∙ ap (λ (t : Told). findings_of script t (states_for (lines_of script) states) (states_for (lines_of script) texts)) same)
    (ap (λ (fs : List FindingRead). list_any (λ (f : JudgedLine). is_unmet f.judged) (map finding_as fs)) (sym first) ∙ h)
    (made ∙ ap (λ (t : Told). report_by form script t (map finding_as lent)) same ∙ ap (λ (fs : List FindingRead). report_by form script (kept script told) (map finding_as fs)) second) timed
