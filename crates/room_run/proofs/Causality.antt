-- Why what is reported before an instant depends on what is known before it alone.
use Rattle.std.proofs.Common.{◌≡◌, ℕ, ◌+◌, List, [], ◌∷◌, ◌++◌, Option, Some, None, sym, ap, ◌∙◌, subst}
use Rattle.line_wave.specs.declared.Stretch.{Stretch}
use Rattle.line_wave.specs.Line.{IsWave, IsWaveFrom}
use Rattle.edid_tree.specs.Node.{Node}
use Rattle.edid_core.specs.declared.edid.Edid.{Edid}
use Rattle.edid_core.proofs.OneEdid.{one_edid}
use Rattle.room_script.specs.Topology.{Plan}
use Rattle.room_script.specs.Script.{Course, AreFramedEvents}
use Rattle.room_script.specs.declared.script.TimedEvent.{TimedEvent}
use Rattle.room_script.proofs.Sound.{scripts_are_sound}
use Rattle.room_net.specs.State.{first_net}
use Rattle.edid_core.specs.Root.{IsRoot}
use Rattle.room_run.specs.declared.run.Reporting.{Reporting}
use Rattle.room_run.specs.declared.run.Reporting.TheVariants.{Trace}
use Rattle.room_run.specs.declared.run.Totals.{Totals}
use Rattle.room_run.specs.Run.{start, IsRunText}
use Rattle.room_run.specs.Emulate.{IsTraceOf}
use Rattle.room_run.proofs.HasRun.{runs_have_texts}
use Rattle.room_run.proofs.Accepted.{one_plan}
use Rattle.room_run.specs.Causal.{Continues, RunsAreCausal, TracesAreCausal}
use Rattle.room_run.proofs.Certainty.{reported_is_front}
use Rattle.room_run.proofs.Before.{has_all_before}

-- ---- of runs

pub runs_are_causal : RunsAreCausal
runs_are_causal reporting tree pulses events until order framed =
    let run = (runs_have_texts reporting tree pulses events until order).2.run in
    let all = has_all_before reporting until run.turns (start (first_net tree pulses) events) run.last run.body run.leads run.stops in (
      all.0,
      all.1,
      all.2,
      λ more later end text totals comes reported.
          reported_is_front reporting tree pulses later events more until end all.2.turns all.1 all.0 text totals order framed comes all.2.leads reported,
    )

-- ---- the first of some events

pub front_framed : (es fs : List TimedEvent) → AreFramedEvents (es ++ fs) → AreFramedEvents es
front_framed [] fs h = tt
front_framed (e ∷ es) fs h = (h.0, front_framed es fs h.1)

-- ---- the first of some pulses

front_from : (from : ℕ) (ps qs : List Stretch) → IsWaveFrom from (ps ++ qs) → IsWaveFrom from ps
front_from from [] qs h = tt
front_from from (p ∷ ps) qs h = (h.0, h.1, front_from (p.to + 1) ps qs h.2)

-- ---- of texts

same_root : (bytes : Option (List ℕ)) (a b : Option Edid) → IsRoot bytes a → IsRoot bytes b → a ≡ b
same_root None a b r s = r ∙ sym s
same_root (Some bytes) None b r s = absurd r
same_root (Some bytes) (Some a) None r s = absurd s
same_root (Some bytes) (Some a) (Some b) r s = ap Some (one_edid a b (r.0 ∙ sym s.0))

-- a run by what its script says first, and what it says then
by_parts : (reporting : Reporting) (tree : List Node) (events : List TimedEvent) (pulses : List Stretch) (until : ℕ) (course : Course) (text : List ℕ) (totals : Totals)
    → (c : Continues until events pulses course) → IsRunText reporting course.end (start (first_net tree course.pulses) course.events) text totals
    → IsRunText reporting course.end (start (first_net tree (pulses ++ c.later)) (events ++ c.more)) text totals
by_parts reporting tree events pulses until course text totals c reported =
    subst (λ (es : List TimedEvent). IsRunText reporting course.end (start (first_net tree (pulses ++ c.later)) es) text totals) c.events_are
    (subst (λ (ps : List Stretch). IsRunText reporting course.end (start (first_net tree ps) course.events) text totals) c.pulses_are reported)

-- the other trace, by the first one's topology
other_run : (topology script y : List ℕ) (t : Totals) (plan : Plan) (edid : Option Edid) (q : IsTraceOf topology script y t) → q.plan ≡ plan → q.edid ≡ edid
    → IsRunText (Trace edid) q.course.end (start (first_net plan.tree q.course.pulses) q.course.events) y t
other_run topology script y t plan edid q same root =
    subst (λ (e : Option Edid). IsRunText (Trace e) q.course.end (start (first_net plan.tree q.course.pulses) q.course.events) y t) root
    (subst (λ (r : Plan). IsRunText (Trace q.edid) q.course.end (start (first_net r.tree q.course.pulses) q.course.events) y t) same q.trace)

pub traces_are_causal : TracesAreCausal
traces_are_causal topology script other x y s t until p q agree =
    let sound = scripts_are_sound p.plan.tree script p.course p.accepted.course_is in
    let first = agree.first in
    let second = agree.second in
    let order = front_from 0 agree.pulses first.later (subst (λ (ps : List Stretch). IsWave ps) first.pulses_are sound.timely.order) in
    let framed = front_framed agree.events first.more (subst (λ (es : List TimedEvent). AreFramedEvents es) first.events_are sound.framed) in
    let plan : q.plan ≡ p.plan = one_plan topology p.plan q.plan p.accepted.plan_is q.accepted.plan_is in
    let root : q.edid ≡ p.edid = same_root p.plan.edid q.edid p.edid (subst (λ (r : Plan). IsRoot r.edid q.edid) plan q.root) p.root in
    let causal = runs_are_causal (Trace p.edid) p.plan.tree agree.pulses agree.events until order framed in (
      causal.0,
      causal.1,
      causal.2,
      causal.3 first.more first.later p.course.end x s first.comes (by_parts (Trace p.edid) p.plan.tree agree.events agree.pulses until p.course x s first p.trace),
      causal.3 second.more second.later q.course.end y t second.comes
          (by_parts (Trace p.edid) p.plan.tree agree.events agree.pulses until q.course y t second (other_run topology other y t p.plan p.edid q plan root)),
    )
