-- What accepted texts have.
use Rattle.std.proofs.Common.{◌≡◌, ℕ, ◌+◌, ◌<◌, ◌≤◌, Bool, true, false, if◌then◌else◌, List, [], ◌∷◌, length, get_or, Option, Some, None, Result, Ok, Err, ap, ◌∙◌, sym, refl, subst, arith}
use Rattle.line_wave.specs.Bounds.{latest_event}
use Rattle.edid_tree.specs.Node.{Node}
use Rattle.edid_tree.specs.Tree.{has_root}
use Rattle.text_core.specs.Lines.{lines_of}
use Rattle.room_script.specs.Topology.{Plan, topology_of, lines_read, after_line, line_read}
use Rattle.text_core.specs.declared.at.At.{At}
use Rattle.room_script.specs.declared.topology.TopologyCause.{TopologyCause}
use Rattle.text_core.specs.At.{at_line, at_word}
use Rattle.room_script.specs.declared.topology.TopologyCause.TheVariants.{NoRoot}
use Rattle.room_script.specs.Script.{Course, IsScriptRead}
use Rattle.room_script.specs.declared.script.ScriptCause.{ScriptCause}
use Rattle.room_script.proofs.OneReading.{one_script}
use Rattle.room_net.specs.State.{first_net}
use Rattle.room_run.specs.declared.run.Totals.{Totals}
use Rattle.edid_core.specs.declared.edid.Edid.{Edid}
use Rattle.edid_core.proofs.OneEdid.{one_edid}
use Rattle.edid_core.specs.Root.{IsRoot}
use Rattle.room_run.specs.declared.run.Reporting.{Reporting}
use Rattle.capture_forms.specs.declared.form.CaptureForm.{CaptureForm}
use Rattle.room_run.specs.declared.run.Reporting.TheVariants.{Trace, Objects, Line}
use Rattle.room_run.specs.Accepted.{ScriptsBeginEarly, ScriptsEndEarly, TextsAreOfOneRun, TopologiesHaveDevices}
use Rattle.room_run.specs.Run.{start, IsTrace, IsRunText}
use Rattle.room_run.specs.Emulate.{AreObjectsOf, IsAccepted, IsLineOf, TextsHaveOneTrace, TextsHaveOneLine, TextsHaveOneTextOfObjects}
use Rattle.room_run.proofs.Turns.{one_trace, one_run_text}
use Rattle.room_trace.specs.Room.{room_if}

-- a tree with a television has a device
some_device : (tree : List Node) → has_root tree ≡ true → 0 < length tree
some_device [] h = cc
some_device (node ∷ tree) h = omega arith

rooted : (lines : List (List ℕ)) (number : ℕ) (plan end : Plan) → lines_read lines number plan ≡ Ok end → has_root end.tree ≡ true
rooted [] number plan end h = step (has_root plan.tree) refl h
  where
    none : Result Plan (At TopologyCause)
    none = Err (at_line number (at_word 0 NoRoot))

    step : (b : Bool) → has_root plan.tree ≡ b → (if b then Ok plan else none) ≡ Ok end → has_root end.tree ≡ true
    step true g k = let same : plan ≡ end = cc in ap (λ p. has_root p.tree) (sym same) ∙ g
    step false g k = cc
rooted (line ∷ lines) number plan end h =
    let on : (next : Plan) → lines_read lines (number + 1) next ≡ Ok end → has_root end.tree ≡ true = λ next. rooted lines (number + 1) next end in
    elim (line_read plan line) as (λ r. after_line number r (λ next. lines_read lines (number + 1) next) ≡ Ok end → has_root end.tree ≡ true) [
      | Ok next ↦ λ k. on next k
      | Err fault ↦ λ k. (cc)
    ] h

pub has_device : TopologiesHaveDevices
has_device text plan h = some_device plan.tree (rooted (lines_of text) 1 (record { tree = []; edid = None }) plan h)

-- the pulses and pulls of a script end by the latest instant
pub ends_early : ScriptsEndEarly
ends_early pulses all wide = λ i d l. (let h : (get_or pulses i d).from ≤ latest_event = all i d l in let w = wide i d l in omega (arith, h, w))

-- times within the limit of scripts are within that of runs
pub early : ScriptsBeginEarly
early pulses all = λ i d l. (let h : (get_or pulses i d).from ≤ latest_event = all i d l in omega arith)

same_plan : (p q : Plan) (r : Result Plan (At TopologyCause)) → r ≡ Ok p → r ≡ Ok q → p ≡ q
same_plan p q r a b = cc

same_ok : (c d : Course) (r : Result Course (At ScriptCause)) → r ≡ Ok d → r ≡ Ok c → c ≡ d
same_ok c d r a b = cc

-- bytes spell one EDID
one_root : (bytes : Option (List ℕ)) (a b : Option Edid) → IsRoot bytes a → IsRoot bytes b → a ≡ b
one_root None a b r s = r ∙ sym s
one_root (Some bytes) None b r s = absurd r
one_root (Some bytes) (Some a) None r s = absurd s
one_root (Some bytes) (Some a) (Some b) r s = ap Some (one_edid a b (r.0 ∙ sym s.0))

pub one_plan : (topology : List ℕ) (plan other : Plan) → topology_of topology ≡ Ok plan → topology_of topology ≡ Ok other → other ≡ plan
one_plan topology plan other t u = same_plan other plan (topology_of topology) u t

-- and one script
pub one_course : (topology script : List ℕ) (plan other : Plan) (course otherwise : Course) → IsAccepted topology script plan course → IsAccepted topology script other otherwise → course ≡ otherwise
one_course topology script plan other course otherwise a b =
    let p : other ≡ plan = one_plan topology plan other a.plan_is b.plan_is in
    let read : IsScriptRead plan.tree script (Ok otherwise) = subst (λ (q : Plan). IsScriptRead q.tree script (Ok otherwise)) p b.course_is in
    sym (same_ok otherwise course (Ok otherwise) (one_script plan.tree script course (Ok otherwise) a.course_is read) refl)

-- a run of texts is that of what they spell
one_run_of : (topology script text : List ℕ) (totals : Totals) (plan : Plan) (course : Course) (reporting : Reporting) → topology_of topology ≡ Ok plan → IsScriptRead plan.tree script (Ok course)
    → (other : Plan) (otherwise : Course) → IsAccepted topology script other otherwise
    → IsRunText reporting otherwise.end (start (first_net other.tree otherwise.pulses) otherwise.events) text totals
    → IsRunText reporting course.end (start (first_net plan.tree course.pulses) course.events) text totals
one_run_of topology script text totals plan course reporting t s other otherwise accepted reported =
    let p : other ≡ plan = one_plan topology plan other t accepted.plan_is in
    let read : IsScriptRead plan.tree script (Ok otherwise) = subst (λ (q : Plan). IsScriptRead q.tree script (Ok otherwise)) p accepted.course_is in
    let k : otherwise ≡ course = same_ok otherwise course (Ok otherwise) (one_script plan.tree script course (Ok otherwise) s read) refl in
    subst (λ (c : Course). IsRunText reporting c.end (start (first_net plan.tree c.pulses) c.events) text totals) k
    (subst (λ (q : Plan). IsRunText reporting otherwise.end (start (first_net q.tree otherwise.pulses) otherwise.events) text totals) p reported)

-- texts spell one topology, one EDID and one script
pub one_trace_of : TextsAreOfOneRun
one_trace_of topology script text totals plan course edid t s e w =
    let r : w.edid ≡ edid = one_root plan.edid w.edid edid (subst (λ q. IsRoot q.edid w.edid) (one_plan topology plan w.plan t w.accepted.plan_is) w.root) e in
    subst (λ x. IsTrace x course.end (start (first_net plan.tree course.pulses) course.events) text totals) r
    (one_run_of topology script text totals plan course (Trace w.edid) t s w.plan w.course w.accepted w.trace)

pub one_text_of_objects : (with_room : Bool) (topology script text : List ℕ) (totals : Totals) (plan : Plan) (course : Course) (edid : Option Edid) → topology_of topology ≡ Ok plan → IsScriptRead plan.tree script (Ok course)
    → IsRoot plan.edid edid → AreObjectsOf with_room topology script text totals → IsRunText (Objects edid (room_if with_room topology script)) course.end (start (first_net plan.tree course.pulses) course.events) text totals
one_text_of_objects with_room topology script text totals plan course edid t s e w =
    let r : w.edid ≡ edid = one_root plan.edid w.edid edid (subst (λ q. IsRoot q.edid w.edid) (one_plan topology plan w.plan t w.accepted.plan_is) w.root) e in
    subst (λ x. IsRunText (Objects x (room_if with_room topology script)) course.end (start (first_net plan.tree course.pulses) course.events) text totals) r
    (one_run_of topology script text totals plan course (Objects w.edid (room_if with_room topology script)) t s w.plan w.course w.accepted w.objects)

pub one_line_of : (format : CaptureForm) (topology script text : List ℕ) (totals : Totals) (plan : Plan) (course : Course) → topology_of topology ≡ Ok plan → IsScriptRead plan.tree script (Ok course)
    → IsLineOf format topology script text totals → IsRunText (Line format) course.end (start (first_net plan.tree course.pulses) course.events) text totals
one_line_of format topology script text totals plan course t s w =
    one_run_of topology script text totals plan course (Line format) t s w.plan w.course w.accepted w.line

pub texts_have_one_trace : TextsHaveOneTrace
texts_have_one_trace topology script x y s t p q =
    one_trace p.edid p.course.end (start (first_net p.plan.tree p.course.pulses) p.course.events) x y s t p.trace
    (one_trace_of topology script y t p.plan p.course p.edid p.accepted.plan_is p.accepted.course_is p.root q)

pub texts_have_one_line : TextsHaveOneLine
texts_have_one_line format topology script x y s t p q =
    one_run_text (Line format) p.course.end (start (first_net p.plan.tree p.course.pulses) p.course.events) x y s t p.line
    (one_line_of format topology script y t p.plan p.course p.accepted.plan_is p.accepted.course_is q)

pub texts_have_one_text_of_objects : TextsHaveOneTextOfObjects
texts_have_one_text_of_objects with_room topology script x y s t p q =
    one_run_text (Objects p.edid (room_if with_room topology script)) p.course.end (start (first_net p.plan.tree p.course.pulses) p.course.events) x y s t p.objects
    (one_text_of_objects with_room topology script y t p.plan p.course p.edid p.accepted.plan_is p.accepted.course_is p.root q)
