-- What is kept of a run, turn by turn, is what a script needs of what is told of it, or all.
use Rattle.std.proofs.Common.{◌≡◌, ℕ, Bool, true, false, not, ◌&&◌, ◌||◌, if◌then◌else◌, List, [], ◌∷◌, ◌++◌, Option, Some, None, refl, sym, ap, ap₂, ◌∙◌, subst, append_assoc, append-nil}
use Rattle.std.specs.List.{flat_map, list_all, list_any}
use Rattle.std.proofs.lemmas.Bool.{false≢true}
use Rattle.std.proofs.lemmas.List.Elements.{filter-append}
use Rattle.record_core.specs.declared.cell.Form.{Form}
use Rattle.line_rounds.specs.declared.Outcome.{Outcome}
use Rattle.device_core.specs.State.{State}
use Rattle.room_script.specs.declared.script.TimedEvent.{TimedEvent}
use Rattle.room_run.specs.Happening.{Happening}
use Rattle.room_run.specs.Happening.Happening.{OfEvent, OfRound}
use Rattle.room_run.specs.Heard.{Hears}
use Rattle.room_net.specs.State.{NetState}
use Rattle.room_net.specs.Apply.{event_fault}
use Rattle.expect_text.specs.Line.{plain_script}
use Rattle.expect_text.specs.Names.{has_names, meets}
use Rattle.expect_judge.specs.Told.{EventLine, RoundLine, Told}
use Rattle.expect_judge.specs.declared.seen.TimeSpan.{TimeSpan}
use Rattle.expect_told.specs.Turns.{IsHeardOf, IsToldOf, event_told, events_of, round_told, rounds_of, told_by}
use Rattle.expect_run.specs.Check.{IsHeardSo}
use Rattle.expect_run.specs.Kept.{Watch, are_timed, is_event_kept, is_met, is_round_kept, is_timed, is_within, joined, kept_if, watches_of}
use Rattle.expect_run.specs.Sifted.{AreOnTime, IsSifted, Sifting, SiftsOne, events_if, first_sifting, rounds_if, shown_as}

-- ---- one turn

-- after which nothing more is kept
pub lost_sifted : (r s : Sifting) (xs : List Happening) → s.form ≡ r.form → s.script ≡ r.script → s.all ≡ r.all → s.named ≡ r.named → s.lost ≡ true → IsSifted r xs s
lost_sifted r s xs form script all named lost = record {
  form_is = form;
  script_is = script;
  all_is = all;
  named_is = named;
  well = λ h. absurd (false≢true (sym h ∙ lost));
  told_is = λ h. absurd (false≢true (sym h ∙ lost));
  timed = λ h. absurd (false≢true (sym h ∙ lost));
}

and_true : (b : Bool) → b ≡ true → (b && true) ≡ true
and_true true h = refl
and_true false h = h

-- an event, which is kept where it is needed or all is
pub event_sifted : (r s : Sifting) (at : ℕ) (e : TimedEvent) (before : NetState) (event : EventLine) → event ≡ event_told at e (event_fault before e.event) → s.form ≡ r.form → s.script ≡ r.script → s.all ≡ r.all → s.named ≡ r.named
    → s.lost ≡ r.lost → (r.all || is_timed r.script event) ≡ true → s.told.rounds ≡ r.told.rounds → s.told.events ≡ r.told.events ++ events_if r.all r.script event → SiftsOne r (OfEvent at e before) s
event_sifted r s at e before event is form script all named lost timely rounds events = record {
  form_is = form;
  script_is = script;
  all_is = all;
  named_is = named;
  well = λ h. sym lost ∙ h;
  told_is = λ h. told_so;
  timed = λ h. by_then r.all timely;
}
  where
    told : EventLine
    told = event_told at e (event_fault before e.event)

    added : (b : Bool) → joined r.told (kept_if b r.script (told_by r.form r.named (OfEvent at e before ∷ []))) ≡ record { rounds = r.told.rounds; events = r.told.events ++ events_if b r.script told }
    added true = λ i. record { rounds = append-nil r.told.rounds i; events = r.told.events ++ told ∷ [] }
    added false = λ i. record { rounds = append-nil r.told.rounds i; events = r.told.events ++ events_if false r.script told }

    first : s.told ≡ record { rounds = r.told.rounds; events = r.told.events ++ events_if r.all r.script told }
    first = λ i. record { rounds = rounds i; events = (events ∙ ap (λ (x : EventLine). r.told.events ++ events_if r.all r.script x) is) i }

    told_so : s.told ≡ joined r.told (kept_if r.all r.script (told_by r.form r.named (OfEvent at e before ∷ [])))
    told_so = first ∙ sym (added r.all)

    by_then : (b : Bool) → (b || is_timed r.script event) ≡ true → AreOnTime b r.script (OfEvent at e before ∷ [])
    by_then true h = tt
    by_then false h = and_true (is_timed r.script told) (sym (ap (is_timed r.script) is) ∙ h)

-- a round; the devices are those before it
pub round_sifted : (r s : Sifting) (begin : ℕ) (before : NetState) (o : Outcome) (devices : List State) → devices ≡ before.devices → s.form ≡ r.form → s.script ≡ r.script → s.all ≡ r.all → s.named ≡ r.named
    → s.lost ≡ r.lost → s.told.rounds ≡ r.told.rounds ++ rounds_if r.all r.script (round_told r.form r.named devices o) → s.told.events ≡ r.told.events → SiftsOne r (OfRound begin before o) s
round_sifted r s begin before o devices same form script all named lost rounds events = record {
  form_is = form;
  script_is = script;
  all_is = all;
  named_is = named;
  well = λ h. sym lost ∙ h;
  told_is = λ h. told_so;
  timed = λ h. by_then r.all;
}
  where
    told : RoundLine
    told = round_told r.form r.named before.devices o

    added : (b : Bool) → joined r.told (kept_if b r.script (told_by r.form r.named (OfRound begin before o ∷ []))) ≡ record { rounds = r.told.rounds ++ rounds_if b r.script told; events = r.told.events }
    added true = λ i. record { rounds = r.told.rounds ++ told ∷ []; events = append-nil r.told.events i }
    added false = λ i. record { rounds = r.told.rounds ++ rounds_if false r.script told; events = append-nil r.told.events i }

    first : s.told ≡ record { rounds = r.told.rounds ++ rounds_if r.all r.script told; events = r.told.events }
    first = λ i. record { rounds = (rounds ∙ ap (λ (ds : List State). r.told.rounds ++ rounds_if r.all r.script (round_told r.form r.named ds o)) same) i; events = events i }

    told_so : s.told ≡ joined r.told (kept_if r.all r.script (told_by r.form r.named (OfRound begin before o ∷ [])))
    told_so = first ∙ sym (added r.all)

    by_then : (b : Bool) → AreOnTime b r.script (OfRound begin before o ∷ [])
    by_then true = tt
    by_then false = refl

-- ---- what is shown of a round does not count

within_alike : (o : Option TimeSpan) (r : RoundLine) (text : List ℕ) → is_within o (shown_as r text) ≡ is_within o r
within_alike None r text = refl
within_alike (Some span) r text = refl

met_alike : (watches : List Watch) (r : RoundLine) (text : List ℕ) → list_any (is_met (shown_as r text)) watches ≡ list_any (is_met r) watches
met_alike [] r text = refl
met_alike (w ∷ ws) r text = ap₂ (λ (a b : Bool). (a && meets w.pattern r.reported) || b) (within_alike w.span r text) (met_alike ws r text)

-- a round, by what is said of it
abbrev said_so : RoundLine → List ℕ → List ℕ → RoundLine
said_so r told text = record { begin = r.begin; at = r.at; is_complete = r.is_complete; reported = told; shown = text }

kept_alike : (all : Bool) (script : List ℕ) (r : RoundLine) (told text : List ℕ) (wanted : Bool) → r.reported ≡ told → (all || is_round_kept script r) ≡ wanted
    → rounds_if all script (said_so r told text) ≡ (if wanted then said_so r told text ∷ [] else [])
kept_alike all script r told text wanted said is =
    let same : (all || is_round_kept script (said_so r told text)) ≡ wanted =
    ap (λ (said : List ℕ). all || is_round_kept script (said_so r said text)) (sym said) ∙ ap (λ (b : Bool). all || b) (met_alike (watches_of script) r text) ∙ is in
    ap (λ (b : Bool). if b then said_so r told text ∷ [] else []) same

pub skipped_round : (all : Bool) (script : List ℕ) (r : RoundLine) (told text : List ℕ) (old : List RoundLine) → r.reported ≡ told → (all || is_round_kept script r) ≡ false
    → old ≡ old ++ rounds_if all script (record { begin = r.begin; at = r.at; is_complete = r.is_complete; reported = told; shown = text })
skipped_round all script r told text old said none =
    sym (ap (λ (rs : List RoundLine). old ++ rs) (kept_alike all script r told text false said none) ∙ append-nil old)

pub kept_round : (all : Bool) (script : List ℕ) (r : RoundLine) (told text : List ℕ) (old new : List RoundLine) → r.reported ≡ told → (all || is_round_kept script r) ≡ true → new ≡ old ++ shown_as r text ∷ []
    → new ≡ old ++ rounds_if all script (record { begin = r.begin; at = r.at; is_complete = r.is_complete; reported = told; shown = text })
kept_round all script r told text old new said some made =
    made ∙ ap (λ (s : List ℕ). old ++ said_so r s text ∷ []) said ∙ sym (ap (λ (rs : List RoundLine). old ++ rs) (kept_alike all script r told text true said some))

-- ---- one turn after another

more_told : (form : Form) (named : Bool) (x : Happening) (xs : List Happening) → told_by form named (x ∷ xs) ≡ joined (told_by form named (x ∷ [])) (told_by form named xs)
more_told form named x xs = λ i. record {
  rounds = ap (λ rs. rs ++ flat_map (rounds_of form named) xs) (sym (append-nil (rounds_of form named x))) i;
  events = ap (λ es. es ++ flat_map events_of xs) (sym (append-nil (events_of x))) i;
}

kept_joined : (all : Bool) (script : List ℕ) (t u : Told) → kept_if all script (joined t u) ≡ joined (kept_if all script t) (kept_if all script u)
kept_joined true script t u = refl
kept_joined false script t u = λ i. record {
  rounds = filter-append (is_round_kept script) t.rounds u.rounds i;
  events = filter-append (is_event_kept script) t.events u.events i;
}

joined_assoc : (t u v : Told) → joined (joined t u) v ≡ joined t (joined u v)
joined_assoc t u v = λ i. record { rounds = append_assoc t.rounds u.rounds v.rounds i; events = append_assoc t.events u.events v.events i }

joined_none : (form : Form) (all : Bool) (script : List ℕ) (t : Told) (named : Bool) → joined t (kept_if all script (told_by form named [])) ≡ t
joined_none form true script t named = λ i. record { rounds = append-nil t.rounds i; events = append-nil t.events i }
joined_none form false script t named = λ i. record { rounds = append-nil t.rounds i; events = append-nil t.events i }

both : (a b c : Bool) → (a && b) ≡ true → c ≡ true → (a && c) ≡ true
both true b c h k = k
both false b c h k = h

right : (a b : Bool) → (a && b) ≡ true → b ≡ true
right true b h = h
right false b h = absurd (false≢true h)

all_append : {X : Type 0} (p : X → Bool) (xs ys : List X) → list_all p xs ≡ true → list_all p ys ≡ true → list_all p (xs ++ ys) ≡ true
all_append p [] ys h k = k
all_append p (x ∷ xs) ys h k = both (p x) (list_all p xs) (list_all p (xs ++ ys)) h (all_append p xs ys (right (p x) (list_all p xs) h) k)

on_time : (all : Bool) (script : List ℕ) (x : Happening) (xs : List Happening) → AreOnTime all script (x ∷ []) → AreOnTime all script xs → AreOnTime all script (x ∷ xs)
on_time true script x xs h k = tt
on_time false script x xs h k =
    all_append (is_timed script) (events_of x) (flat_map events_of xs) (sym (ap (are_timed script) (append-nil (events_of x))) ∙ h) k

none_late : (all : Bool) (script : List ℕ) → AreOnTime all script []
none_late true script = tt
none_late false script = refl

pub all_sifted : {R : Type 0} (view : R → Sifting) (xs : List Happening) (r s : R) → Hears (λ a x b. SiftsOne (view a) x (view b)) r xs s → IsSifted (view r) xs (view s)
all_sifted view [] r s h = record {
  form_is = ap (λ k. (view k).form) h;
  script_is = ap (λ k. (view k).script) h;
  all_is = ap (λ k. (view k).all) h;
  named_is = ap (λ k. (view k).named) h;
  well = λ well. sym (ap (λ k. (view k).lost) h) ∙ well;
  told_is = λ well. ap (λ k. (view k).told) h ∙ sym (joined_none (view r).form (view r).all (view r).script (view r).told (view r).named);
  timed = λ well. none_late (view r).all (view r).script;
}
all_sifted {R} view (x ∷ xs) r s (mid, one, rest) =
    let more = all_sifted view xs mid s rest in
    let r0 = view r in
    record {
      form_is = more.form_is ∙ one.form_is;
      script_is = more.script_is ∙ one.script_is;
      all_is = more.all_is ∙ one.all_is;
      named_is = more.named_is ∙ one.named_is;
      well = λ well. one.well (more.well well);
      told_is = λ well.
          let before = one.told_is (more.well well) in
          more.told_is well
          ∙ ap (λ (t : Told). joined t (kept_if (view mid).all (view mid).script (told_by (view mid).form (view mid).named xs))) before
          ∙ ap (λ all. joined (joined r0.told (kept_if r0.all r0.script (told_by r0.form r0.named (x ∷ [])))) (kept_if all (view mid).script (told_by (view mid).form (view mid).named xs))) one.all_is
          ∙ ap (λ script. joined (joined r0.told (kept_if r0.all r0.script (told_by r0.form r0.named (x ∷ [])))) (kept_if r0.all script (told_by (view mid).form (view mid).named xs))) one.script_is
          ∙ ap (λ named. joined (joined r0.told (kept_if r0.all r0.script (told_by r0.form r0.named (x ∷ [])))) (kept_if r0.all r0.script (told_by (view mid).form named xs))) one.named_is
          ∙ ap (λ form. joined (joined r0.told (kept_if r0.all r0.script (told_by r0.form r0.named (x ∷ [])))) (kept_if r0.all r0.script (told_by form r0.named xs))) one.form_is
          ∙ joined_assoc r0.told (kept_if r0.all r0.script (told_by r0.form r0.named (x ∷ []))) (kept_if r0.all r0.script (told_by r0.form r0.named xs))
          ∙ ap (joined r0.told) (sym (kept_joined r0.all r0.script (told_by r0.form r0.named (x ∷ [])) (told_by r0.form r0.named xs)) ∙ ap (kept_if r0.all r0.script) (sym (more_told r0.form r0.named x xs)));
      timed = λ well. on_time r0.all r0.script x xs (one.timed (more.well well))
          (subst (λ all. AreOnTime all r0.script xs) one.all_is (subst (λ script. AreOnTime (view mid).all script xs) one.script_is (more.timed well)));
    }

-- ---- the run

pub begun_so : (form : Form) (script named : List ℕ) (all names : Bool) → named ≡ script → names ≡ has_names script → first_sifting form named all names ≡ first_sifting form script all (has_names script)
begun_so form script named all names same is = ap (λ (t : List ℕ). first_sifting form t all names) same ∙ ap (first_sifting form script all) is

-- what is kept in the end
pub heard_so : {R : Type 0} (view : R → Sifting) (form : Form) (all : Bool) (topology script : List ℕ) (old new : R) (net : NetState) (told : Told) → view old ≡ first_sifting form script all (has_names script)
    → IsHeardOf (λ a x b. SiftsOne (view a) x (view b)) topology (plain_script script) old new net (not (view new).lost) → (view new).lost ≡ false → told ≡ (view new).told → IsHeardSo form all topology script told
heard_so view form all topology script old new net told first run well same =
    let sifted = all_sifted view run.heard.happened old new run.heard.heard in
    let whole = told_by form (has_names script) run.heard.happened in
    let told_is : told ≡ kept_if all script whole =
    same ∙ sifted.told_is well ∙ ap (λ (f : Sifting). joined f.told (kept_if f.all f.script (told_by f.form f.named run.heard.happened))) first ∙ none_first all script whole in
    by all told_is (subst (λ (f : Sifting). AreOnTime f.all f.script run.heard.happened) first (sifted.timed well))
  where
    none_first : (all : Bool) (script : List ℕ) (t : Told) → joined (record { rounds = []; events = [] }) (kept_if all script t) ≡ kept_if all script t
    none_first all script t = refl

    run_is : IsToldOf form topology script (told_by form (has_names script) run.heard.happened)
    run_is = record {
      happened = run.heard.happened;
      last = run.heard.last;
      run = record { plan = run.plan; course = run.course; edid = run.edid; accepted = run.accepted; root = run.root; goes = run.heard.goes; stops = run.heard.whole (ap not well) };
      told_is = refl;
    }

    by : (all : Bool) → told ≡ kept_if all script (told_by form (has_names script) run.heard.happened) → AreOnTime all script run.heard.happened → IsHeardSo form all topology script told
    by true is timed = subst (IsToldOf form topology script) (sym is) run_is
    by false is timed = record { told = told_by form (has_names script) run.heard.happened; run = run_is; few_is = is; timed = timed }
