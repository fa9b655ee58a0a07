-- Where a stepper begins.
use Rattle.std.proofs.Common.{◌≡◌, ℕ, ◌<◌, ◌≤◌, Bool, true, List, drop, length, Option, Some, None, ap, ◌∙◌, sym, subst, arith}
use Rattle.line_wave.specs.Bounds.{latest_instant}
use Rattle.edid_tree.specs.Node.{Node}
use Rattle.room_net.proofs.Kept.{started_count}
use Rattle.room_script.specs.Script.{Course, IsScript}
use Rattle.room_net.specs.State.{NetState, first_net}
use Rattle.edid_core.specs.declared.edid.Edid.{Edid}
use Rattle.edid_core.specs.Root.{HasAddress, IsRoot}
use Rattle.room_script.specs.declared.script.TimedEvent.{TimedEvent}
use Rattle.room_steps.specs.Steps.{Point, Run, Steps}
use Rattle.room_steps.specs.Ready.{IsReady, point_of}
use Rattle.room_steps.specs.declared.position.Position.{Position}

-- a television's EDID has an address
pub has_address : (bytes : Option (List ℕ)) (root : Option Edid) → IsRoot bytes root → HasAddress root
has_address None root r = subst HasAddress (sym r) tt
has_address (Some bytes) None r = absurd r
has_address (Some bytes) (Some root) r = r.1

abbrev pub begins_with : List TimedEvent → NetState → Point
begins_with events s = record { net = s; events = events; is_first = true }

-- a position at the start of a run
pub starts_at : (events : List TimedEvent) (p : Position) (s : NetState) → p.net.value ≡ s → p.applied ≡ 0 → p.is_first ≡ true → point_of events p ≡ begins_with events s
starts_at events p s net applied first =
    let by_net : NetState → Point = λ n. record { net = n; events = drop p.applied events; is_first = p.is_first } in
    let by_count : ℕ → Point = λ k. record { net = s; events = drop k events; is_first = p.is_first } in
    let by_flag : Bool → Point = λ f. record { net = s; events = events; is_first = f } in
    ap by_net net ∙ ap by_count applied ∙ ap by_flag first

abbrev pub stepper_at : Run → Point → Steps
stepper_at run p = record { run = run; last = p; begun = None }

-- at its start a run is ready
pub ready_start : (tree : List Node) (course : Course) → 0 < length tree → length tree ≤ 15 → IsScript (length tree) course
    → IsReady course.end (record { net = first_net tree course.pulses; events = course.events; is_first = true })
ready_start tree course some few script =
    let none : 0 ≤ latest_instant = omega arith in
    record { some = some; few = omega (arith, few, started_count tree course.pulses); early = script.limit; order = script.timely.order; closed = none; schedule = (0, script.schedule) }
