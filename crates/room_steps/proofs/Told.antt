-- What is told in a form is what a run reports.
use Rattle.std.proofs.Common.{◌≡◌, ℕ, zero, suc, ◌+◌, ◌<◌, false, List, ◌++◌, length, Bool, get_or, Option, None, Some, IsSome, ap, ap₂, ◌∙◌, refl, subst, arith}
use Rattle.std.specs.List.{flat_map, range_with_len}
use Rattle.std.specs.Option.{ForSome}
use Rattle.text_core.specs.Adds.{Adds, Tally}
use Rattle.text_core.proofs.Adding.{then}
use Rattle.edid_core.specs.declared.edid.Edid.{Edid}
use Rattle.edid_core.specs.Address.{edid_address}
use Rattle.edid_core.specs.Root.{HasAddress}
use Rattle.edid_tree.specs.Node.{Node}
use Rattle.edid_tree.specs.Path.{is_on_wire}
use Rattle.device_core.specs.State.{State}
use Rattle.line_rounds.specs.declared.Outcome.{Outcome}
use Rattle.record_core.specs.declared.cell.Form.{Form}
use Rattle.record_core.specs.declared.cell.Form.TheVariants.{Text, Json}
use Rattle.room_event.specs.declared.event.EventError.{EventError}
use Rattle.room_script.specs.declared.script.TimedEvent.{TimedEvent}
use Rattle.room_net.specs.State.{NetState}
use Rattle.room_net.specs.Apply.{net_after, event_fault}
use Rattle.room_net.proofs.Kept.{event_keeps}
use Rattle.room_trace.specs.PortText.{port_texts, texts_of_new}
use Rattle.room_trace.specs.Records.{event_text, round_text}
use Rattle.room_run.specs.Happening.{IsApplied}
use Rattle.room_run.specs.Run.{event_reported, round_reported, start_reported}
use Rattle.room_steps.specs.Steps.{reporting_by}

pub start_told : (form : Form) (edid : Option Edid) (s : NetState) → port_texts form 0 edid (λ device. false) s.tree ≡ start_reported (reporting_by form edid) s
start_told Text edid s = refl
start_told Json edid s = refl

pub round_told : (form : Form) (edid : Option Edid) (devices : List State) (o : Outcome) → round_text form devices o ≡ round_reported (reporting_by form edid) devices o
round_told Text edid devices o = refl
round_told Json edid devices o = refl

pub round_added : (form : Form) (edid : Option Edid) (devices : List State) (o : Outcome) (a b : Tally) → Adds a b (round_text form devices o) → Adds a b (round_reported (reporting_by form edid) devices o)
round_added form edid devices o a b adds = subst (λ (t : List ℕ). Adds a b t) (round_told form edid devices o) adds

-- ---- of an event

-- parts that are the same for each number of a range
same_parts : (f g : ℕ → List ℕ) (a n : ℕ) → ((k : ℕ) → k < a + n → f k ≡ g k) → flat_map f (range_with_len a n) ≡ flat_map g (range_with_len a n)
same_parts f g a zero h = refl
same_parts f g a (suc n) h = ap₂ (λ x y. x ++ y) (h a (omega arith)) (same_parts f g (a + 1) n (λ k b. h k (omega arith)))

-- what is told of ports goes by the devices of the tree alone
same_ports : (form : Form) (at : ℕ) (edid : Option Edid) (f g : ℕ → Bool) (tree : List Node) → ((k : ℕ) → k < length tree → f k ≡ g k) → port_texts form at edid f tree ≡ port_texts form at edid g tree
same_ports form at None f g tree h = refl
same_ports form at (Some root) f g tree h =
    same_parts (λ device. texts_of_new form at root tree (f device) device) (λ device. texts_of_new form at root tree (g device) device) 0 (length tree)
    (λ k b. ap (λ was. texts_of_new form at root tree was k) (h k (omega arith)))

-- the line and the ports of an event that is refused for this, or is not
abbrev event_parts : Form → ℕ → Option Edid → TimedEvent → Option EventError → (ℕ → Bool) → List Node → List ℕ
event_parts form at edid e refused was tree = event_text form at e.line refused ++ port_texts form at edid was tree

event_is : (form : Form) (at : ℕ) (edid : Option Edid) (e : TimedEvent) (s : NetState)
    → event_parts form at edid e (event_fault s e.event) (is_on_wire s.tree) (net_after at e.event s).tree ≡ event_reported (reporting_by form edid) at e s
event_is Text at edid e s = refl
event_is Json at edid e s = refl

pub event_told : (form : Form) (at : ℕ) (edid : Option Edid) (e : TimedEvent) (before after : NetState) (refused : Option EventError) (was : List Bool) (tree : List Node) (a b c : Tally)
    → IsApplied at e before refused was after → tree ≡ after.tree → Adds a b (event_text form at e.line refused) → Adds b c (port_texts form at edid (λ device. get_or was device false) tree)
    → Adds a c (event_reported (reporting_by form edid) at e before)
event_told form at edid e before after refused was tree a b c applied tree_is line ports =
    let kept = event_keeps at e.event before after applied.after_is in
    let count : length tree ≡ length before.tree = ap length tree_is ∙ kept.count in
    let there : tree ≡ (net_after at e.event before).tree = tree_is ∙ ap (λ (x : NetState). x.tree) applied.after_is in
    let known = same_ports form at edid (λ device. get_or was device false) (is_on_wire before.tree) tree (λ k h. applied.was_is k (omega (arith, h, count))) in
    let same = known ∙ ap (port_texts form at edid (is_on_wire before.tree)) there in
    let whole = ap₂ (λ (x y : List ℕ). x ++ y) (ap (event_text form at e.line) applied.refused_is) same ∙ event_is form at edid e before in
    subst (λ (t : List ℕ). Adds a c t) whole (then a b c (event_text form at e.line refused) (port_texts form at edid (λ device. get_or was device false) tree) line ports)

-- the EDID that ports pass on has an address where each has one
pub has_address : (e : Option Edid) → ForSome e (λ root. IsSome (edid_address root)) → HasAddress e
has_address None each = tt
has_address (Some root) each = each root refl
