-- The states that a script speaks of are those of its run, cut at their time (own).
use Rattle.std.specs.Prelude.{◌≡◌, ℕ, ◌≤◌, codes, List, [], ◌++◌, filter, min, Option, Some, None}
use Rattle.line_wave.specs.Bounds.{latest_event}
use Rattle.device_core.specs.State.{State}
use Rattle.room_net.specs.State.{first_net}
use Rattle.room_trace.specs.StateText.{state_line}
use Rattle.room_run.specs.declared.run.Reporting.TheVariants.{Trace}
use Rattle.room_run.specs.declared.run.Totals.{Totals}
use Rattle.room_run.specs.Run.{Config, start}
use Rattle.room_run.specs.Emulate.{IsTraceOf}
use Rattle.room_run.specs.Certain.{AllBefore}
use Rattle.room_run.specs.Causal.{BeginsWith, before_reported}
use Rattle.expect_text.specs.Line.{cut_script}
use Rattle.expect_run.specs.Cuts.{IsCut, is_early}
use Rattle.expect_run.specs.States.{IsStateAt, device_of}
use Rattle.expect_run.specs.States.StateView.{Said}

-- ---- runs that end earlier

-- a device's state line without its line feed; of no device, nothing
abbrev pub IsStateLine : Option State → List ℕ → Type 0
IsStateLine None line = line ≡ []
IsStateLine (Some d) line = line ++ codes "\n" ≡ state_line d

-- The state that a script speaks of, of a device at a time, is told by a run of the same topology: of the script's events before
-- the time and all its pulses and pulls, which ends at the time. It is the device's state at the end of that run.
pub record IsStateOfRun (topology plain text : List ℕ) (totals : Totals) (time : ℕ) (device state : List ℕ) (p : IsTraceOf topology plain text totals) (s : IsStateAt Said topology plain time device state) : Type 0 where
  pub plan_is : s.1.run.plan ≡ p.plan
  pub course_is : IsCut time p.course s.1.run.course
  pub line : IsStateLine (device_of device s.1.last.net.devices) state

abbrev pub StatesAreOfRuns : Type 0
StatesAreOfRuns = (topology plain text : List ℕ) (totals : Totals) (time : ℕ) (device state : List ℕ) → time ≤ latest_event
    → (p : IsTraceOf topology plain text totals) → (s : IsStateAt Said topology plain time device state) → IsStateOfRun topology plain text totals time device state p s

-- up to when that run is the whole one: up to the time, but a pin that only the end lets go may have gone low before
abbrev pub agree_until : ℕ → Option ℕ → ℕ
agree_until time None = time
agree_until time (Some from) = min time from

-- Both traces begin with the text of all turns that are over before then.
abbrev pub CutTracesAgree : Type 0
CutTracesAgree = (topology script x y : List ℕ) (s t : Totals) (time : ℕ) → time ≤ latest_event → (p : IsTraceOf topology script x s) → time ≤ p.course.end
    → (q : IsTraceOf topology (cut_script time script) y t)
    → (c : IsCut time p.course q.course) × (body : List ℕ) × (last : Config)
    × AllBefore (Trace p.edid) (agree_until time c.pin) (start (first_net p.plan.tree c.pulses) (filter (is_early (agree_until time c.pin)) p.course.events)) body last
    × BeginsWith (before_reported (Trace p.edid) p.plan.tree c.pulses body) x × BeginsWith (before_reported (Trace p.edid) p.plan.tree c.pulses body) y
