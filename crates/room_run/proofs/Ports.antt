-- Port lines, and their objects: ports and devices by their numbers.
use Rattle.std.proofs.Common.{◌≡◌, ℕ, zero, suc, ◌+◌, ◌<◌, Bool, List, ◌++◌, length, get_or, false, Option, None, Some, ap, ap₂, ◌∙◌, sym, refl, arith}
use Rattle.std.specs.List.{flat_map, range_with_len}
use Rattle.room_net.specs.State.{NetState}
use Rattle.room_script.specs.declared.script.TimedEvent.{TimedEvent}
use Rattle.room_net.specs.Apply.{net_after}
use Rattle.edid_core.specs.declared.edid.Edid.{Edid}
use Rattle.edid_tree.specs.Node.{Node}
use Rattle.edid_tree.specs.Path.{is_on_wire}
use Rattle.record_core.specs.declared.cell.Form.{Form}
use Rattle.record_core.specs.declared.cell.Form.TheVariants.{Text}
use Rattle.room_trace.specs.PortText.{port_texts, texts_of_new}
use Rattle.room_net.proofs.Kept.{event_keeps}
use Rattle.room_run.specs.Turns.{PortsAreThoseBefore}

-- parts that are the same for each number of a range
same_parts : (f g : ℕ → List ℕ) (a n : ℕ) → ((k : ℕ) → k < a + n → f k ≡ g k) → flat_map f (range_with_len a n) ≡ flat_map g (range_with_len a n)
same_parts f g a zero h = refl
same_parts f g a (suc n) h = ap₂ (λ x y. x ++ y) (h a (omega arith)) (same_parts f g (a + 1) n (λ k b. h k (omega arith)))

-- they go by the devices of the tree alone
same_texts : (form : Form) (at : ℕ) (edid : Option Edid) (f g : ℕ → Bool) (tree : List Node) → ((k : ℕ) → k < length tree → f k ≡ g k) → port_texts form at edid f tree ≡ port_texts form at edid g tree
same_texts form at None f g tree h = refl
same_texts form at (Some root) f g tree h =
    same_parts (λ device. texts_of_new form at root tree (f device) device) (λ device. texts_of_new form at root tree (g device) device) 0 (length tree)
    (λ k b. ap (λ was. texts_of_new form at root tree was k) (h k (omega arith)))

-- what came onto the wire by an event is told by what was on it before
pub event_port_texts : (form : Form) (at : ℕ) (edid : Option Edid) (e : TimedEvent) (s t : NetState) (before after : List Node) (was : List Bool) → t ≡ net_after at e.event s → before ≡ s.tree
    → after ≡ t.tree → ((k : ℕ) → k < length before → get_or was k false ≡ is_on_wire before k)
    → port_texts form at edid (λ device. get_or was device false) after ≡ port_texts form at edid (is_on_wire s.tree) (net_after at e.event s).tree
event_port_texts form at edid e s t before after was step b a reported =
    let kept = event_keeps at e.event s t step in
    let count : length after ≡ length before = ap length a ∙ kept.count ∙ sym (ap length b) in
    let tree : after ≡ (net_after at e.event s).tree = a ∙ ap (λ (x : NetState). x.tree) step in
    same_texts form at edid (λ device. get_or was device false) (is_on_wire s.tree) after (λ k h. reported k (omega (arith, h, count)) ∙ ap (λ (x : List Node). is_on_wire x k) b)
    ∙ ap (port_texts form at edid (is_on_wire s.tree)) tree

pub event_ports : PortsAreThoseBefore
event_ports = event_port_texts Text
