-- A run that ends earlier agrees with the whole one before then, and reports the states that a script speaks of.
use Rattle.std.proofs.Common.{◌≡◌, ℕ, ◌+◌, ◌≤◌, Bool, true, false, cond, List, [], ◌∷◌, ◌++◌, filter, length, max, min, nat_lt, nat_le, Option, Some, None, Ok, refl, sym, ap, subst, ◌∙◌, arith, append-nil}
use Rattle.std.proofs.lemmas.Bool.Decides.{nat_tests}
use Rattle.std.proofs.lemmas.List.Elements.{All-cons, All-nil, All-weaker, filter_passes}
use Rattle.std.specs.List.{All}
use Rattle.line_wave.specs.declared.Stretch.{Stretch}
use Rattle.line_wave.specs.Bounds.{latest_event}
use Rattle.room_script.specs.Topology.{Plan, topology_of}
use Rattle.room_script.specs.Script.{Course, IsSchedule, IsScriptRead, pulses_ended}
use Rattle.room_script.specs.declared.script.TimedEvent.{TimedEvent}
use Rattle.room_script.proofs.OneReading.{one_script}
use Rattle.room_script.proofs.Sound.{scripts_are_sound}
use Rattle.room_run.specs.Emulate.{IsAccepted}
use Rattle.room_run.specs.Causal.{AgreeBefore}
use Rattle.room_run.proofs.Causality.{traces_are_causal}
use Rattle.expect_text.specs.Line.{cut_script}
use Rattle.expect_run.specs.Cuts.{IsCut, is_early}
use Rattle.expect_run.proofs.Cuts.{cuts_are_read}
use Rattle.room_net.specs.State.{NetState}
use Rattle.expect_run.specs.States.{device_of, state_said}
use Rattle.judge_laws.specs.States.{agree_until, CutTracesAgree, IsStateLine, StatesAreOfRuns}
use Rattle.judge_laws.proofs.Going.{same_course, same_plan}
use Rattle.judge_laws.proofs.States.{said_is}

-- at the time or later
abbrev is_late : ℕ → TimedEvent → Bool
is_late time event = nat_le time event.at

no_early : (at time : ℕ) → time ≤ at → nat_lt at time ≡ false
no_early at time h = grind (arith, nat_tests)

late : (at time : ℕ) → time ≤ at → nat_le time at ≡ true
late at time h = grind (arith, nat_tests)

no_late : (at time : ℕ) → nat_lt at time ≡ true → nat_le time at ≡ false
no_late at time h = grind (arith, nat_tests)

from_there : (at time : ℕ) → nat_lt at time ≡ false → time ≤ at
from_there at time h = grind (arith, nat_tests)

late_there : (at time : ℕ) → nat_le time at ≡ true → time ≤ at
late_there at time h = grind (arith, nat_tests)

-- of events from a time on none is early
none_early : (time count end from : ℕ) (events : List TimedEvent) → IsSchedule count end from events → time ≤ from → (filter (is_early time) events ≡ []) × (filter (is_late time) events ≡ events)
none_early time count end from [] s h = (refl, refl)
none_early time count end from (event ∷ events) s h =
    let on : time ≤ event.at = omega (arith, s.0, h) in
    let rest = none_early time count end event.at events s.3 on in (
      ap (λ b. cond b (event ∷ filter (is_early time) events) (filter (is_early time) events)) (no_early event.at time on) ∙ rest.0,
      ap (λ b. cond b (event ∷ filter (is_late time) events) (filter (is_late time) events)) (late event.at time on) ∙ ap (λ es. event ∷ es) rest.1,
    )

-- events in order are the early ones, and then the late ones
parted_events : (time count end from : ℕ) (events : List TimedEvent) → IsSchedule count end from events → events ≡ filter (is_early time) events ++ filter (is_late time) events
parted_events time count end from [] s = refl
parted_events time count end from (event ∷ events) s = by (nat_lt event.at time) refl (parted_events time count end event.at events s.3)
  where
    early_of : List TimedEvent
    early_of = filter (is_early time) events

    late_of : List TimedEvent
    late_of = filter (is_late time) events

    by : (b : Bool) → nat_lt event.at time ≡ b → events ≡ filter (is_early time) events ++ filter (is_late time) events
        → event ∷ events ≡ filter (is_early time) (event ∷ events) ++ filter (is_late time) (event ∷ events)
    by true e again =
        sym (ap (λ b. cond b (event ∷ filter (is_early time) events) (filter (is_early time) events) ++ filter (is_late time) (event ∷ events)) e
        ∙ ap (λ b. (event ∷ filter (is_early time) events) ++ cond b (event ∷ filter (is_late time) events) (filter (is_late time) events)) (no_late event.at time e)
        ∙ ap (λ es. event ∷ es) (sym again))
    by false e again =
        let on = from_there event.at time e in
        let rest = none_early time count end event.at events s.3 on in
        sym (ap (λ b. cond b (event ∷ filter (is_early time) events) (filter (is_early time) events) ++ filter (is_late time) (event ∷ events)) e
        ∙ ap (λ es. es ++ filter (is_late time) (event ∷ events)) rest.0
        ∙ ap (λ b. cond b (event ∷ filter (is_late time) events) (filter (is_late time) events)) (late event.at time on)
        ∙ ap (λ es. event ∷ es) rest.1)

-- those before an instant are among those before a later one
early_twice : (until time : ℕ) (events : List TimedEvent) → until ≤ time → filter (is_early until) (filter (is_early time) events) ≡ filter (is_early until) events
early_twice until time [] h = refl
early_twice until time (event ∷ events) h = by (nat_lt event.at time) refl (early_twice until time events h)
  where
    sooner : nat_lt event.at time ≡ false → nat_lt event.at until ≡ false
    sooner e = (let on : time ≤ event.at = from_there event.at time e in let x : until ≤ event.at = omega (arith, on, h) in no_early event.at until x)

    by : (b : Bool) → nat_lt event.at time ≡ b → filter (is_early until) (filter (is_early time) events) ≡ filter (is_early until) events
        → filter (is_early until) (cond b (event ∷ filter (is_early time) events) (filter (is_early time) events)) ≡ cond (nat_lt event.at until) (event ∷ filter (is_early until) events) (filter (is_early until) events)
    by true e again = ap (λ es. cond (nat_lt event.at until) (event ∷ es) es) again
    by false e again = again ∙ sym (ap (λ b. cond b (event ∷ filter (is_early until) events) (filter (is_early until) events)) (sooner e))

-- the pull of a pin that only the end lets go
last_pull : Option ℕ → ℕ → List Stretch
last_pull None end = []
last_pull (Some from) end = record { from = from; to = max end (min from latest_event + 1) } ∷ []

with_last : (pin : Option ℕ) (pulses : List Stretch) (end : ℕ) → pulses_ended pin pulses end ≡ pulses ++ last_pull pin end
unfolding last_pull
with_last None pulses end = sym (append-nil pulses)
with_last (Some from) pulses end = refl

begins_there : (pin : Option ℕ) (time end : ℕ) → All (λ (p : Stretch). agree_until time pin ≤ p.from) (last_pull pin end)
unfolding last_pull
begins_there None time end = All-nil (λ (p : Stretch). time ≤ p.from)
begins_there (Some from) time end = All-cons (λ (p : Stretch). min time from ≤ p.from) (record { from = from; to = max end (min from latest_event + 1) }) [] (omega arith) (All-nil (λ (p : Stretch). min time from ≤ p.from))

until_low : (time : ℕ) (pin : Option ℕ) → agree_until time pin ≤ time
until_low time None = omega arith
until_low time (Some from) = omega arith

-- the texts of the cut script spell the course that ends at the time
cut_is : (topology script : List ℕ) (time : ℕ) (plan other : Plan) (course cut : Course) → time ≤ latest_event → IsAccepted topology script plan course → IsAccepted topology (cut_script time script) other cut
    → IsCut time course cut
cut_is topology script time plan other course cut low a b =
    let early = cuts_are_read plan.tree time script course low a.course_is in
    let read = subst (λ (l : Plan). IsScriptRead l.tree (cut_script time script) (Ok cut)) (same_plan plan other (topology_of topology) a.plan_is b.plan_is) b.course_is in
    let same : cut ≡ early.0 = same_course cut early.0 (one_script plan.tree (cut_script time script) early.0 (Ok cut) early.2 read) in
    subst (λ (c : Course). IsCut time course c) (sym same) early.1

pub states_are_of_runs : StatesAreOfRuns
states_are_of_runs topology plain text totals time device state low p s = record {
  plan_is = same_plan p.plan s.1.run.plan (topology_of topology) p.accepted.plan_is s.1.run.accepted.plan_is;
  course_is = cut_is topology plain time p.plan s.1.run.plan p.course s.1.run.course low p.accepted s.1.run.accepted;
  line = subst (IsStateLine (device_of device s.1.last.net.devices)) (sym (s.2 ∙ ap (λ (net : NetState). state_said (device_of device net.devices)) s.1.net_is)) (said_is (device_of device s.1.last.net.devices));
}

-- at an instant or later
late_ones : (until : ℕ) (events : List TimedEvent) → All (λ (e : TimedEvent). until ≤ e.at) (filter (is_late until) events)
late_ones until events =
    All-weaker (λ (e : TimedEvent). is_late until e ≡ true) (λ (e : TimedEvent). until ≤ e.at) (λ e l. late_there e.at until l) (filter (is_late until) events) (filter_passes (is_late until) events)

pub cut_traces_agree : CutTracesAgree
cut_traces_agree topology script x y s t time low p within q =
    let cut = cut_is topology script time p.plan q.plan p.course q.course low p.accepted q.accepted in
    let until = agree_until time cut.pin in
    let soon = until_low time cut.pin in
    let sound = scripts_are_sound p.plan.tree script p.course p.accepted.course_is in
    let also = scripts_are_sound q.plan.tree (cut_script time script) q.course q.accepted.course_is in
    let early : q.course.events ≡ filter (is_early time) p.course.events = ap (λ (c : Course). c.events) cut.cut_is in
    let front : filter (is_early until) q.course.events ≡ filter (is_early until) p.course.events = ap (filter (is_early until)) early ∙ early_twice until time p.course.events soon in
    let agree : AgreeBefore until p.course q.course = record {
      events = filter (is_early until) p.course.events;
      pulses = cut.pulses;
      first = record {
        more = filter (is_late until) p.course.events;
        later = last_pull cut.pin p.course.end;
        events_are = parted_events until (length p.plan.tree) p.course.end 0 p.course.events sound.schedule;
        pulses_are = cut.whole ∙ with_last cut.pin cut.pulses p.course.end;
        comes = record {
          scheduled = late_ones until p.course.events;
          begun = begins_there cut.pin time p.course.end;
          over = omega (arith, within, soon);
        };
      };
      second = record {
        more = filter (is_late until) q.course.events;
        later = last_pull cut.pin time;
        events_are = parted_events until (length q.plan.tree) q.course.end 0 q.course.events also.schedule ∙ ap (λ es. es ++ filter (is_late until) q.course.events) front;
        pulses_are = ap (λ (c : Course). c.pulses) cut.cut_is ∙ with_last cut.pin cut.pulses time;
        comes = record {
          scheduled = late_ones until q.course.events;
          begun = begins_there cut.pin time time;
          over = subst (λ n. until ≤ n) (sym (ap (λ (c : Course). c.end) cut.cut_is)) soon;
        };
      };
    } in
    let causal = traces_are_causal topology script (cut_script time script) x y s t until p q agree in
    (cut, causal.0, causal.1, causal.2, causal.3, causal.4)
