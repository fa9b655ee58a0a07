-- What was heard of a run, and that its script has a trace.
use Rattle.std.proofs.Common.{◌≡◌, Bool, List, ℕ, Ok, Option, subst, sym}
use Rattle.edid_core.specs.Root.{IsRoot}
use Rattle.edid_core.specs.declared.edid.Edid.{Edid}
use Rattle.room_net.specs.State.{NetState, first_net}
use Rattle.room_script.specs.Script.{Course, IsScriptRead}
use Rattle.room_script.specs.Topology.{Plan, topology_of}
use Rattle.room_script.specs.declared.script.TimedEvent.{TimedEvent}
use Rattle.room_run.specs.Happening.{Happening}
use Rattle.room_run.specs.HasRun.{TextsHaveTraces}
use Rattle.room_run.specs.Heard.{IsRunHeard}
use Rattle.room_run.specs.Run.{start}
use Rattle.room_run.specs.declared.run.Totals.{Totals}
use Rattle.expect_told.specs.Turns.{IsHeardOf}
use Rattle.expect_run.specs.States.{IsTraced}

pub heard_of : {R : Type 0} (hears : R → Happening → R → Type 0) (topology plain : List ℕ) (old new : R) (goes_on : Bool) (plan : Plan) (course : Course) (edid : Option Edid) (totals : Totals) (from net to : NetState) (events : List TimedEvent)
    → topology_of topology ≡ Ok plan → IsScriptRead plan.tree plain (Ok course) → IsRoot plan.edid edid → from ≡ first_net plan.tree course.pulses → events ≡ course.events → net ≡ to
    → IsRunHeard hears course.end (start from events) to totals old new goes_on → IsHeardOf hears topology plain old new net goes_on
heard_of {R} hears topology plain old new goes_on plan course edid totals from net to events spelled read root first same is run = record {
  plan = plan;
  course = course;
  edid = edid;
  accepted = record { plan_is = spelled; course_is = read };
  root = root;
  totals = totals;
  heard = subst (λ (s : NetState). IsRunHeard hears course.end (start (first_net plan.tree course.pulses) course.events) s totals old new goes_on) (sym is)
      (subst (λ (es : List TimedEvent). IsRunHeard hears course.end (start (first_net plan.tree course.pulses) es) to totals old new goes_on) same
      (subst (λ (s : NetState). IsRunHeard hears course.end (start s events) to totals old new goes_on) first run));
}

pub traced : {R : Type 0} (hears : R → Happening → R → Type 0) (topology plain : List ℕ) (old new : R) (net : NetState) (goes_on : Bool) → TextsHaveTraces → IsHeardOf hears topology plain old new net goes_on → IsTraced topology plain
traced {R} hears topology plain old new net goes_on law run = (law topology plain run.plan run.course run.edid run.accepted run.root).0
