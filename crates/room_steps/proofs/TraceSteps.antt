-- What the steps of a text write of rounds stands in the run's trace.
use Rattle.std.proofs.Common.{◌≡◌, ℕ, zero, suc, ◌+◌, ◌-◌, ◌⊎◌, inl, inr, false, List, [], ◌∷◌, ◌++◌, codes, Option, Some, None, Result, Ok, ap, ap₂, ◌∙◌, sym, refl, subst, arith, append_assoc, append-nil}
use Rattle.std.specs.List.{flat_map, repeat}
use Rattle.std.proofs.lemmas.List.{append_cancel_left}
use Rattle.line_rounds.specs.declared.Outcome.{Outcome}
use Rattle.edid_core.specs.declared.edid.Edid.{Edid}
use Rattle.edid_core.specs.Root.{IsRoot}
use Rattle.edid_core.proofs.OneEdid.{one_edid}
use Rattle.text_core.specs.declared.at.At.{At}
use Rattle.room_script.specs.Topology.{Plan, topology_of}
use Rattle.room_script.specs.declared.topology.TopologyCause.{TopologyCause}
use Rattle.room_script.specs.Script.{Course, IsScriptRead}
use Rattle.room_script.specs.declared.script.ScriptCause.{ScriptCause}
use Rattle.room_script.proofs.OneReading.{one_script}
use Rattle.room_net.specs.State.{NetState, first_net}
use Rattle.room_run.specs.declared.run.Totals.{Totals}
use Rattle.room_run.specs.declared.run.Turn.TheVariants.{Stop, Round as RoundTurn}
use Rattle.room_run.specs.declared.run.Reporting.TheVariants.{Objects}
use Rattle.record_core.specs.declared.cell.Form.{Form}
use Rattle.record_core.specs.declared.cell.Form.TheVariants.{Text, Json}
use Rattle.room_run.specs.Run.{IsRunText, start}
use Rattle.room_run.proofs.Accepted.{one_trace_of}
use Rattle.room_run.proofs.Turns.{one_run_text}
use Rattle.room_step_text.specs.declared.break_at.Break.{Break}
use Rattle.room_step_text.specs.declared.commands.StepCommand.{StepCommand}
use Rattle.room_step_text.specs.declared.commands.StepCommand.TheVariants.{Edge, Round, Until, Show}
use Rattle.room_steps.specs.Steps.{IsEdgeStepBy, IsOver, IsRoundStep, Point, Run, Skips, Steps, reporting_by, reporting_of, step_text}
use Rattle.room_steps.specs.StepRun.{AreDue, AreSteps, AreStepsOf, IsDue, ended_text}
use Rattle.room_steps.specs.Trace.{Rounds, first_point}
use Rattle.room_steps.specs.TraceSteps.{AreFirstRounds, IsToldOf, StandInOrder, StepsAreTheTrace, all_round_texts, round_texts}
use Rattle.room_steps.proofs.TraceRounds.{rounds_are_the_trace}

-- ---- where a stepper stands: after so many rounds of the run, whose text this is

record Stands (run : Run) (net : NetState) (s : Steps) (front : List ℕ) : Type 0 where
  same : s.run ≡ run
  rounds : ℕ
  taken : Rounds run rounds (first_point run net) front s.last

abbrev joined : List (List ℕ) → List ℕ
joined texts = flat_map (λ text. text) texts

-- rounds that a search passes over
skipped : (run : Run) (net : NetState) (at : Break) (n m : ℕ) (front : List ℕ) (p q : Point) → Rounds run n (first_point run net) front p → Skips run.end at m p q
    → (rounds : ℕ) × (piece : List ℕ) × Rounds run rounds (first_point run net) (front ++ piece) q
skipped run net at n zero front p q r skips =
    (n, [], subst (λ t. Rounds run n (first_point run net) t q) (sym (append-nil front)) (subst (λ x. Rounds run n (first_point run net) front x) (sym skips) r))
skipped run net at n (suc m) front p q r (mid, o, skips, step, other) =
    let before = skipped run net at n m front p mid r skips in
    (suc before.0, before.1 ++ step_text run mid o q, (mid, o, front ++ before.1, before.2, step, sym (append_assoc front before.1 (step_text run mid o q))))

-- after one more round
stands_after : (run : Run) (net : NetState) (s t : Steps) (front text : List ℕ) (o : Outcome) (q : Point) → Stands run net s front → IsRoundStep s.run.end s.last o q
    → text ≡ step_text s.run s.last o q → t.run ≡ s.run → t.last ≡ q → Stands run net t (front ++ text)
stands_after run net s t front text o q stands step is same last = record {
  same = same ∙ stands.same;
  rounds = suc stands.rounds;
  taken = subst (λ x. Rounds run (suc stands.rounds) (first_point run net) (front ++ text) x) (sym last) (
    s.last,
    o,
    front,
    stands.taken,
    subst (λ (r : Run). IsRoundStep r.end s.last o q) stands.same step,
    ap (λ x. front ++ x) (is ∙ ap (λ r. step_text r s.last o q) stands.same),
  );
}

one_round : (run : Run) (net : NetState) (s t : Steps) (front text : List ℕ) (o : Outcome) (q : Point) → (stands : Stands run net s front) → (step : IsRoundStep s.run.end s.last o q)
    → (is : text ≡ step_text s.run s.last o q) → (same : t.run ≡ s.run) → (last : t.last ≡ q) → (stands_after run net s t front text o q stands step is same last).rounds ≡ suc stands.rounds
unfolding stands_after
one_round run net s t front text o q stands step is same last = refl

-- where it stood
stands_still : (run : Run) (net : NetState) (s t : Steps) (front : List ℕ) → Stands run net s front → t.run ≡ s.run → t.last ≡ s.last → Stands run net t (front ++ [])
stands_still run net s t front stands same last = record {
  same = same ∙ stands.same;
  rounds = stands.rounds;
  taken = subst (λ x. Rounds run stands.rounds (first_point run net) x t.last) (sym (append-nil front)) (subst (λ x. Rounds run stands.rounds (first_point run net) front x) (sym last) stands.taken);
}

abbrev After : Run → NetState → Steps → List ℕ → List (List ℕ) → Type 0
After run net t front texts = (passed : List ℕ) × Stands run net t (front ++ (passed ++ joined texts))

still : (run : Run) (net : NetState) (s t : Steps) (front : List ℕ) → Stands run net s front → t.run ≡ s.run → t.last ≡ s.last → After run net t front []
still run net s t front stands same last = ([], stands_still run net s t front stands same last)

same_place : (run : Run) (net : NetState) (s t : Steps) (front : List ℕ) → Stands run net s front → t ≡ s → After run net t front []
same_place run net s t front stands same = still run net s t front stands (ap (λ (x : Steps). x.run) same) (ap (λ (x : Steps). x.last) same)

after_edge : (run : Run) (net : NetState) (s t : Steps) (front text : List ℕ) → Stands run net s front → (begun : Option NetState) → IsEdgeStepBy s begun text t → After run net t front []
after_edge run net s t front text stands None (after, edge, is) = still run net s t front stands (ap (λ (x : Steps). x.run) is) (ap (λ (x : Steps). x.last) is)
after_edge run net s t front text stands (Some here) (inl (after, edge, is)) = still run net s t front stands (ap (λ (x : Steps). x.run) is) (ap (λ (x : Steps). x.last) is)
after_edge run net s t front text stands (Some here) (inr next) =
    let piece = step_text s.run s.last next.outcome next.last in (
      piece,
      subst (λ x. Stands run net t (front ++ x)) (sym (append-nil piece))
          (stands_after run net s t front piece next.outcome next.last stands next.step refl (ap (λ (x : Steps). x.run) next.first.2) (ap (λ (x : Steps). x.last) next.first.2)),
    )

-- what a step passes over and writes of rounds
after_step : (run : Run) (net : NetState) (command : StepCommand) (s t : Steps) (front text : List ℕ) → Stands run net s front → (due : IsDue command s text t)
    → After run net t front (round_texts command s text t due)
after_step run net Edge s t front text stands (inl step) = after_edge run net s t front text stands s.begun step
after_step run net Edge s t front text stands (inr (none, is, same)) = same_place run net s t front stands same
after_step run net (Show device) s t front text stands (inl (shown, found, is, same)) = same_place run net s t front stands same
after_step run net (Show device) s t front text stands (inr (none, is, same)) = same_place run net s t front stands same
after_step run net Round s t front text stands (inl (o, q, step, is, there)) = (
  [],
  subst (λ x. Stands run net t (front ++ x)) (sym (append-nil text))
      (stands_after run net s t front text o q stands step is (ap (λ (x : Steps). x.run) there) (ap (λ (x : Steps). x.last) there)),
)
after_step run net Round s t front text stands (inr (none, is, same)) = same_place run net s t front stands same
after_step run net (Until at) s t front text stands (inl u) =
    let over = skipped run net at stands.rounds u.rounds front s.last u.before stands.taken (subst (λ (r : Run). Skips r.end at u.rounds s.last u.before) stands.same u.skips) in (
      over.1,
      record {
        same = ap (λ (x : Steps). x.run) u.stands ∙ stands.same;
        rounds = suc over.0;
        taken = subst (λ x. Rounds run (suc over.0) (first_point run net) (front ++ (over.1 ++ (text ++ []))) x) (sym (ap (λ (x : Steps). x.last) u.stands)) (
          u.before,
          u.outcome,
          front ++ over.1,
          over.2,
          subst (λ (r : Run). IsRoundStep r.end u.before u.outcome u.after) stands.same u.step,
          ap (λ x. front ++ (over.1 ++ x)) (append-nil text ∙ u.reported ∙ ap (λ r. step_text r u.before u.outcome u.after) stands.same)
              ∙ sym (append_assoc front over.1 (step_text run u.before u.outcome u.after)),
        );
      },
    )
after_step run net (Until at) s t front text stands (inr (none, is, same)) = same_place run net s t front stands same

-- ---- the places of texts

-- they stand in what begins earlier, too
earlier : (piece more whole : List ℕ) (texts : List (List ℕ)) → whole ≡ piece ++ more → StandInOrder texts more → StandInOrder texts whole
earlier piece more whole [] e h = tt
earlier piece more whole (text ∷ texts) e (before, after, is, rest) = (piece ++ before, after, e ∙ ap (λ x. piece ++ x) is ∙ sym (append_assoc piece before (text ++ after)), rest)

placed : (passed more : List ℕ) (here texts : List (List ℕ)) → StandInOrder texts more → StandInOrder (here ++ texts) ((passed ++ joined here) ++ more)
placed passed more [] texts h = earlier (passed ++ []) more ((passed ++ []) ++ more) texts refl h
placed passed more (text ∷ here) texts h = (
  passed,
  joined here ++ more,
  append_assoc passed (text ++ joined here) more ∙ ap (λ x. passed ++ x) (append_assoc text (joined here) more),
  placed [] more here texts h,
)

-- what the trace has after the rounds that were passed
left_of_trace : (run : Run) (net : NetState) (t : Steps) (front piece rest whole : List ℕ) (totals : Totals) → IsRunText (reporting_of run) run.end (start net run.events) whole totals
    → Stands run net t (front ++ piece) → whole ≡ front ++ rest → (more : List ℕ) × (rest ≡ piece ++ more) × (whole ≡ (front ++ piece) ++ more)
left_of_trace run net t front piece rest whole totals trace stands e =
    let next = rounds_are_the_trace.front run net stands.rounds (front ++ piece) t.last stands.taken whole totals trace in
    (next.0, append_cancel_left front rest (piece ++ next.0) (sym e ∙ next.1 ∙ append_assoc front piece next.0), next.1)

stand_in_order : (run : Run) (net : NetState) (whole : List ℕ) (totals : Totals) → IsRunText (reporting_of run) run.end (start net run.events) whole totals
    → (commands : List StepCommand) (s t : Steps) (front rest text : List ℕ) → Stands run net s front → whole ≡ front ++ rest → (due : AreDue commands s text t)
    → StandInOrder (all_round_texts commands s text t due) rest
stand_in_order run net whole totals trace [] s t front rest text stands e due = tt
stand_in_order run net whole totals trace (command ∷ commands) s t front rest text stands e (mid, first, later, step, due, is) =
    let here = round_texts command s first mid step in
    let next = after_step run net command s mid front first stands step in
    let left = left_of_trace run net mid front (next.0 ++ joined here) rest whole totals trace next.1 e in
    let after = stand_in_order run net whole totals trace commands mid t (front ++ (next.0 ++ joined here)) left.0 later next.1 left.2 due in
    subst (λ x. StandInOrder (here ++ all_round_texts commands mid later t due) x) (sym left.1) (placed next.0 left.0 here (all_round_texts commands mid later t due) after)

-- ---- steps `round` alone

abbrev ended : Run → List ℕ
ended run = ended_text run.form

over_no_round : (end : ℕ) (p q : Point) (o : Outcome) → IsOver end p → IsRoundStep end p o q → ⊥
over_no_round end p q o over step = let e : Stop ≡ RoundTurn step.begin = sym over ∙ step.turn in cc

-- where the run is over each writes `ended`
all_ended : (count : ℕ) (s t : Steps) (text : List ℕ) → IsOver s.run.end s.last → AreDue (repeat count (Round ∷ [])) s text t → text ≡ repeat count (ended s.run)
all_ended zero s t text over due = due.0
all_ended (suc count) s t text over (mid, first, later, inl (o, q, step, said, there), due, is) = absurd (over_no_round s.run.end s.last q o over step)
all_ended (suc count) s t text over (mid, first, later, inr (none, said, same), due, is) =
    is ∙ ap₂ (λ x y. x ++ y) said (all_ended count mid t later (subst (λ (x : Steps). IsOver x.run.end x.last) (sym same) over) due ∙ ap (λ (x : Steps). repeat count (ended x.run)) same)

record Alone (run : Run) (net : NetState) (count : ℕ) (front text : List ℕ) : Type 0 where
  rounds : ℕ
  left : ℕ
  last : Point
  piece : List ℕ
  counts : rounds + left ≡ count
  taken : Rounds run rounds (first_point run net) (front ++ piece) last
  reported : text ≡ piece ++ repeat left (ended run)
  all : (left ≡ 0) ⊎ IsOver run.end last

alone : (run : Run) (net : NetState) (count : ℕ) (s t : Steps) (front text : List ℕ) → (stands : Stands run net s front) → AreDue (repeat count (Round ∷ [])) s text t
    → Alone run net (stands.rounds + count) front text
alone run net zero s t front text stands due = record {
  rounds = stands.rounds;
  left = 0;
  last = s.last;
  piece = [];
  counts = refl;
  taken = subst (λ x. Rounds run stands.rounds (first_point run net) x s.last) (sym (append-nil front)) stands.taken;
  reported = due.0;
  all = inl refl;
}
alone run net (suc count) s t front text stands (mid, first, later, inl (o, q, step, said, there), due, is) =
    let next = stands_after run net s mid front first o q stands step said (ap (λ (x : Steps). x.run) there) (ap (λ (x : Steps). x.last) there) in
    let counted : next.rounds ≡ suc stands.rounds = one_round run net s mid front first o q stands step said (ap (λ (x : Steps). x.run) there) (ap (λ (x : Steps). x.last) there) in
    let rest = alone run net count mid t (front ++ first) later next due in
    record {
      rounds = rest.rounds;
      left = rest.left;
      last = rest.last;
      piece = first ++ rest.piece;
      counts = rest.counts ∙ ap (λ n. n + count) counted ∙ one_more stands.rounds count;
      taken = subst (λ x. Rounds run rest.rounds (first_point run net) x rest.last) (append_assoc front first rest.piece) rest.taken;
      reported = is ∙ ap (λ x. first ++ x) rest.reported ∙ sym (append_assoc first rest.piece (repeat rest.left (ended run)));
      all = rest.all;
    }
  where
    one_more : (n k : ℕ) → suc n + k ≡ n + suc k
    one_more n k = omega arith
alone run net (suc count) s t front text stands (mid, first, later, inr (over, said, same), due, is) = record {
  rounds = stands.rounds;
  left = suc count;
  last = s.last;
  piece = [];
  counts = refl;
  taken = subst (λ x. Rounds run stands.rounds (first_point run net) x s.last) (sym (append-nil front)) stands.taken;
  reported = all_ended (suc count) s t text over (mid, first, later, inr (over, said, same), due, is) ∙ ap (λ (r : Run). repeat (suc count) (ended r)) stands.same;
  all = inr (subst (λ (r : Run). IsOver r.end s.last) stands.same over);
}

-- ---- of texts

begins : (s : Steps) (run : Run) (net : NetState) → s.run ≡ run → s.last ≡ first_point run net → Stands run net s []
begins s run net same last = record { same = same; rounds = 0; taken = (refl, last) }

first_rounds : (run : Run) (net : NetState) (count : ℕ) (text whole : List ℕ) (totals : Totals) → IsRunText (reporting_of run) run.end (start net run.events) whole totals
    → Alone run net count [] text → AreFirstRounds run net count text whole totals
first_rounds run net count text whole totals trace a =
    let front = rounds_are_the_trace.front run net a.rounds a.piece a.last a.taken whole totals trace in
    let left : a.left ≡ count - a.rounds = omega (arith, a.counts) in
    record {
      rounds = a.rounds;
      last = a.last;
      front = a.piece;
      taken = a.taken;
      most = omega (arith, a.counts);
      all = elim a.all [
        | inl none ↦ inl (omega (arith, a.counts, none))
        | inr over ↦ (let w = rounds_are_the_trace.whole run net a.rounds a.piece a.last a.taken over in
            inr (sym w.2 ∙ ap (λ (x : Totals). x.rounds) (one_run_text (reporting_of run) run.end (start net run.events) _ whole w.0 totals w.1 trace).1))
      ];
      reported = a.reported ∙ ap (λ n. a.piece ++ repeat n (ended run)) left;
      more = front.0;
      begins = front.1;
    }

-- texts spell one plan, one course and one EDID
same_plan : (p q : Plan) (r : Result Plan (At TopologyCause)) → r ≡ Ok p → r ≡ Ok q → p ≡ q
same_plan p q r a b = cc

same_course : (c d : Course) (r : Result Course (At ScriptCause)) → r ≡ Ok c → r ≡ Ok d → c ≡ d
same_course c d r a b = cc

same_edid : (bytes : Option (List ℕ)) (a b : Option Edid) → IsRoot bytes a → IsRoot bytes b → a ≡ b
same_edid None a b r s = r ∙ sym s
same_edid (Some bytes) None b r s = absurd r
same_edid (Some bytes) (Some a) None r s = absurd s
same_edid (Some bytes) (Some a) (Some b) r s = ap Some (one_edid a b (r.0 ∙ sym s.0))

-- the trace of the run that a stepper begins, or its objects
told_as : (form : Form) (topology script steps whole : List ℕ) (totals : Totals) (commands : List StepCommand) (first : Steps) → IsToldOf form topology script whole totals
    → (s : AreSteps form topology script steps commands first)
    → IsRunText (reporting_by form s.edid) s.course.end (start (first_net s.plan.tree s.course.pulses) s.course.events) whole totals
told_as Text topology script steps whole totals commands first trace s = one_trace_of topology script whole totals s.plan s.course s.edid s.accepted.plan_is s.accepted.course_is s.root trace
told_as Json topology script steps whole totals commands first w s =
    let plan : w.plan ≡ s.plan = same_plan w.plan s.plan (topology_of topology) w.accepted.plan_is s.accepted.plan_is in
    let read : IsScriptRead s.plan.tree script (Ok w.course) = subst (λ (p : Plan). IsScriptRead p.tree script (Ok w.course)) plan w.accepted.course_is in
    let course : w.course ≡ s.course = same_course w.course s.course (Ok w.course) refl (one_script s.plan.tree script s.course (Ok w.course) s.accepted.course_is read) in
    let edid : w.edid ≡ s.edid = same_edid s.plan.edid w.edid s.edid (subst (λ (p : Plan). IsRoot p.edid w.edid) plan w.root) s.root in
    subst (λ (e : Option Edid). IsRunText (Objects e None) s.course.end (start (first_net s.plan.tree s.course.pulses) s.course.events) whole totals) edid
    (subst (λ (c : Course). IsRunText (Objects w.edid None) c.end (start (first_net s.plan.tree c.pulses) c.events) whole totals) course
    (subst (λ (p : Plan). IsRunText (Objects w.edid None) w.course.end (start (first_net p.tree w.course.pulses) w.course.events) whole totals) plan w.objects))

trace_of : (form : Form) (topology script steps text whole : List ℕ) (totals : Totals) → IsToldOf form topology script whole totals → (p : AreStepsOf form topology script steps text)
    → IsRunText (reporting_of p.first.run) p.first.run.end (start p.first.last.net p.first.run.events) whole totals
trace_of form topology script steps text whole totals told p =
    subst (λ (x : Steps). IsRunText (reporting_of x.run) x.run.end (start x.last.net x.run.events) whole totals) (sym p.spelled.starts) (told_as form topology script steps whole totals p.commands p.first told p.spelled)

stands_first : (form : Form) (topology script steps text : List ℕ) (p : AreStepsOf form topology script steps text) → Stands p.first.run p.first.last.net p.first []
stands_first form topology script steps text p =
    begins p.first p.first.run p.first.last.net refl (subst (λ (x : Steps). x.last ≡ first_point x.run x.last.net) (sym p.spelled.starts) refl)

none_first : (form : Form) (topology script steps text : List ℕ) (p : AreStepsOf form topology script steps text) → (stands_first form topology script steps text p).rounds ≡ 0
unfolding stands_first begins
none_first form topology script steps text p = refl

alone_first : (run : Run) (net : NetState) (count : ℕ) (s t : Steps) (text : List ℕ) → (stands : Stands run net s []) → stands.rounds ≡ 0 → AreDue (repeat count (Round ∷ [])) s text t
    → Alone run net count [] text
alone_first run net count s t text stands none due =
    let same : stands.rounds + count ≡ count = omega (arith, none) in
    subst (λ n. Alone run net n [] text) same (alone run net count s t [] text stands due)

pub steps_are_the_trace : StepsAreTheTrace
steps_are_the_trace = record {
  in_order = λ form topology script steps text whole totals trace p.
      stand_in_order p.first.run p.first.last.net whole totals (trace_of form topology script steps text whole totals trace p) p.commands p.first p.last [] whole text
      (stands_first form topology script steps text p) refl p.due;
  first_rounds = λ form topology script steps text whole totals trace p count only.
      first_rounds p.first.run p.first.last.net count text whole totals (trace_of form topology script steps text whole totals trace p)
      (alone_first p.first.run p.first.last.net count p.first p.last text (stands_first form topology script steps text p) (none_first form topology script steps text p) (subst (λ cs. AreDue cs p.first text p.last) only p.due));
}
