-- The objects of a trace are those of its lines.
use Rattle.std.proofs.Common.{◌≡◌, ℕ, zero, suc, Bool, true, false, not, ◌&&◌, if◌then◌else◌, List, [], ◌∷◌, ◌++◌, codes, Option, None, Some, refl, sym, ap₂, subst, append-nil, append_assoc, ◌∙◌}
use Rattle.std.proofs.lemmas.Grind.{flat_map-append}
use Rattle.std.specs.List.{flat_map, range_with_len}
use Rattle.line_rounds.specs.declared.Outcome.{Outcome}
use Rattle.device_core.specs.State.{State}
use Rattle.edid_core.specs.declared.edid.Edid.{Edid}
use Rattle.edid_tree.specs.Node.{Node}
use Rattle.edid_tree.specs.Path.{is_on_wire}
use Rattle.edid_tree.specs.Port.{port_bytes}
use Rattle.edid_tree.specs.Tree.{ports_of}
use Rattle.record_core.specs.Cells.{PlainCell}
use Rattle.record_core.specs.Records.{line_of, object_of}
use Rattle.record_core.specs.declared.cell.Form.TheVariants.{Text, Json}
use Rattle.room_event.specs.declared.event.EventError.{EventError}
use Rattle.room_net.specs.Apply.{event_fault, net_after}
use Rattle.room_net.specs.State.{NetState}
use Rattle.room_script.specs.declared.script.TimedEvent.{TimedEvent}
use Rattle.room_trace.specs.PortText.{name_in, port_cells, port_text, port_texts, texts_of_new, texts_of_ports}
use Rattle.room_trace.specs.Records.{end_cells, end_text, event_cells, event_text as event_record, round_cells, round_text, state_cells, state_text}
use Rattle.room_trace.specs.Room.{Room, event_object, heads_in, line_at, room_if, said_cells}
use Rattle.room_trace.proofs.Records.{port_same, same_lines}
use Rattle.room_run.specs.declared.run.Reporting.TheVariants.{Objects, Trace}
use Rattle.room_run.specs.declared.run.Totals.{Totals}
use Rattle.room_run.specs.declared.run.Turn.{Turn}
use Rattle.room_run.specs.declared.run.Turn.TheVariants.{Apply, Round, Stop}
use Rattle.room_run.specs.Objects.{AreOfRecords, ObjectsAreOfTheTrace}
use Rattle.room_run.specs.Run.{Config, IsEventTurn, IsRoundTurn, IsRunText, IsRunTextFrom, IsTurnBy, Leads, end_reported, event_objects, event_text, start_reported, turn_at}

-- ---- texts of the same records

none : AreOfRecords [] []
none = record { records = []; lines_are = refl; objects_are = refl }

one : (kind line : List ℕ) (cells : List PlainCell) → line_of cells ≡ line → AreOfRecords line (object_of kind cells)
one kind line cells e = record { records = (kind, cells) ∷ []; lines_are = sym e ∙ sym (append-nil (line_of cells)); objects_are = sym (append-nil (object_of kind cells)) }

two : (a b x y : List ℕ) → AreOfRecords a x → AreOfRecords b y → AreOfRecords (a ++ b) (x ++ y)
two a b x y p q = record {
  records = p.records ++ q.records;
  lines_are = ap₂ (λ (s t : List ℕ). s ++ t) p.lines_are q.lines_are ∙ sym (flat_map-append (λ (r : List ℕ × List PlainCell). line_of r.1) p.records q.records);
  objects_are = ap₂ (λ (s t : List ℕ). s ++ t) p.objects_are q.objects_are ∙ sym (flat_map-append (λ (r : List ℕ × List PlainCell). object_of r.0 r.1) p.records q.records);
}

each : {X : Type 0} (f g : X → List ℕ) (xs : List X) → ((x : X) → AreOfRecords (f x) (g x)) → AreOfRecords (flat_map f xs) (flat_map g xs)
each f g [] h = none
each f g (x ∷ xs) h = two (f x) (flat_map f xs) (g x) (flat_map g xs) (h x) (each f g xs h)

-- ---- what a trace has

round_of : (devices : List State) (o : Outcome) → AreOfRecords (round_text Text devices o) (round_text Json devices o)
round_of devices o = one (codes "round") (round_text Text devices o) (round_cells devices o) (same_lines.round devices o)

-- what its line of the script says stands in its object alone
said_same : (at line : ℕ) (refused : Option EventError) (said : List ℕ) → line_of (event_cells at line refused ++ said_cells said) ≡ event_record Text at line refused
said_same at line None said = same_lines.event at line None
said_same at line (Some error) said = same_lines.event at line (Some error)

event_of : (room : Option Room) (at line : ℕ) (refused : Option EventError) → AreOfRecords (event_record Text at line refused) (event_object room at line refused)
event_of None at line refused = one (codes "event") (event_record Text at line refused) (event_cells at line refused) (same_lines.event at line refused)
event_of (Some room) at line refused =
    let said = line_at room.script line in
    one (codes "event") (event_record Text at line refused) (event_cells at line refused ++ said_cells said) (said_same at line refused said)

state_of : (d : State) → AreOfRecords (state_text Text d) (state_text Json d)
state_of d = one (codes "state") (state_text Text d) (state_cells d) (same_lines.state d)

end_of : (end : ℕ) → AreOfRecords (end_text Text end) (end_text Json end)
end_of end = one (codes "end") (end_text Text end) (end_cells end) (same_lines.end end)

port_of : (at : ℕ) (root : Edid) (tree : List Node) (device port : ℕ) → AreOfRecords (port_text Text at root tree device port) (port_text Json at root tree device port)
port_of at root tree device port =
    one (codes "port") (port_text Text at root tree device port) (port_cells at (name_in tree device) port (port_bytes root tree device port)) (port_same at (name_in tree device) port (port_bytes root tree device port))

new_by : (is : Bool) (a x : List ℕ) → AreOfRecords a x → AreOfRecords (if is then a else []) (if is then x else [])
new_by true a x p = p
new_by false a x p = none

new_of : (at : ℕ) (root : Edid) (tree : List Node) (was : Bool) (device : ℕ) → AreOfRecords (texts_of_new Text at root tree was device) (texts_of_new Json at root tree was device)
new_of at root tree was device =
    new_by (is_on_wire tree device && not was) (texts_of_ports Text at root tree device) (texts_of_ports Json at root tree device)
    (each (port_text Text at root tree device) (port_text Json at root tree device) (range_with_len 1 (ports_of tree device)) (port_of at root tree device))

ports_of_all : (at : ℕ) (edid : Option Edid) (was : ℕ → Bool) (tree : List Node) → AreOfRecords (port_texts Text at edid was tree) (port_texts Json at edid was tree)
ports_of_all at None was tree = none
ports_of_all at (Some root) was tree =
    each (λ device. texts_of_new Text at root tree (was device) device) (λ device. texts_of_new Json at root tree (was device) device) _ (λ device. new_of at root tree (was device) device)

event_parts : (edid : Option Edid) (room : Option Room) (at : ℕ) (e : TimedEvent) (s : NetState) → AreOfRecords (event_text edid at e s) (event_objects edid room at e s)
event_parts edid room at e s =
    two _ _ _ _ (event_of room at e.line (event_fault s e.event)) (ports_of_all at edid (is_on_wire s.tree) (net_after at e.event s).tree)

end_parts : (edid : Option Edid) (room : Option Room) (end : ℕ) (s : NetState) → AreOfRecords (end_reported (Trace edid) end s) (end_reported (Objects edid room) end s)
end_parts edid room end s = two _ _ _ _ (each (state_text Text) (state_text Json) s.devices state_of) (end_of end)

-- ---- turn by turn

record IsShown (edid : Option Edid) (turn : Turn) (c : Config) (objects : List ℕ) (d : Config) : Type 0 where
  text : List ℕ
  turned : IsTurnBy (Trace edid) turn c text d
  are : AreOfRecords text objects

event_shown : (edid : Option Edid) (room : Option Room) (at : ℕ) (events : List TimedEvent) (c d : Config) (objects : List ℕ) → IsEventTurn (Objects edid room) at events c objects d
    → (text : List ℕ) × IsEventTurn (Trace edid) at events c text d × AreOfRecords text objects
event_shown edid room at [] c d objects (none_said, same) = ([], (refl, same), subst (λ (x : List ℕ). AreOfRecords [] x) (sym none_said) none)
event_shown edid room at (e ∷ events) c d objects (said, after) =
    (event_text edid at e c.net, (refl, after), subst (λ (x : List ℕ). AreOfRecords (event_text edid at e c.net) x) (sym said) (event_parts edid room at e c.net))

round_shown : (edid : Option Edid) (room : Option Room) (begin : ℕ) (c d : Config) (objects : List ℕ) → IsRoundTurn (Objects edid room) begin c.net c.totals objects d.net d.totals
    → (text : List ℕ) × IsRoundTurn (Trace edid) begin c.net c.totals text d.net d.totals × AreOfRecords text objects
round_shown edid room begin c d objects t = (
  round_text Text d.net.devices t.outcome,
  record { outcome = t.outcome; wave = t.wave; next = t.next; reported = refl; totals = t.totals },
  subst (λ (x : List ℕ). AreOfRecords (round_text Text d.net.devices t.outcome) x) (sym t.reported) (round_of d.net.devices t.outcome),
)

turn_shown : (edid : Option Edid) (room : Option Room) (turn : Turn) (c d : Config) (objects : List ℕ) → IsTurnBy (Objects edid room) turn c objects d → IsShown edid turn c objects d
turn_shown edid room Stop c d objects t = absurd t
turn_shown edid room (Apply at) c d objects t = (let shown = event_shown edid room at c.events c d objects t in record { text = shown.0; turned = shown.1; are = shown.2 })
turn_shown edid room (Round begin) c d objects (round, events) =
    (let shown = round_shown edid room begin c d objects round in record { text = shown.0; turned = (shown.1, events); are = shown.2 })

leads_shown : (edid : Option Edid) (room : Option Room) (end turns : ℕ) (c d : Config) (objects : List ℕ) → Leads (Objects edid room) end turns c objects d
    → (text : List ℕ) × Leads (Trace edid) end turns c text d × AreOfRecords text objects
leads_shown edid room end zero c d objects (said, same) = ([], (refl, same), subst (λ (x : List ℕ). AreOfRecords [] x) (sym said) none)
leads_shown edid room end (suc turns) c d objects (mid, first, rest, turn, more, whole) =
    let one_turn = turn_shown edid room (turn_at end c) c mid first turn in
    let others = leads_shown edid room end turns mid d rest more in (
      one_turn.text ++ others.0,
      (mid, one_turn.text, others.0, one_turn.turned, others.1, refl),
      subst (λ (x : List ℕ). AreOfRecords (one_turn.text ++ others.0) x) (sym whole) (two one_turn.text others.0 first rest one_turn.are others.2),
    )

-- ---- the whole run

from_shown : (edid : Option Edid) (room : Option Room) (end : ℕ) (c : Config) (objects : List ℕ) (totals : Totals) → IsRunTextFrom (Objects edid room) end c objects totals
    → (text : List ℕ) × IsRunTextFrom (Trace edid) end c text totals × AreOfRecords text objects
from_shown edid room end c objects totals w =
    let body = leads_shown edid room end w.turns c w.last w.body w.leads in
    let tail = end_reported (Trace edid) end w.last.net in (
      body.0 ++ tail,
      record { turns = w.turns; last = w.last; body = body.0; leads = body.1; stops = w.stops; whole = refl; counts = w.counts },
      subst (λ (x : List ℕ). AreOfRecords (body.0 ++ tail) x) (sym w.whole) (two body.0 tail w.body (end_reported (Objects edid room) end w.last.net) body.2 (end_parts edid room end w.last.net)),
    )

run_shown : (edid : Option Edid) (room : Option Room) (end : ℕ) (c : Config) (text : List ℕ) (totals : Totals) → IsRunText (Objects edid room) end c text totals
    → (trace : List ℕ) × (objects : List ℕ) × IsRunText (Trace edid) end c trace totals × AreOfRecords trace objects × (text ≡ heads_in room ++ objects)
run_shown edid room end c text totals w =
    let rest = from_shown edid room end c w.rest totals w.run in
    let first = start_reported (Trace edid) c.net in
    let ports = port_texts Json 0 edid (λ device. false) c.net.tree in (
      first ++ rest.0,
      ports ++ w.rest,
      record { rest = rest.0; run = rest.1; whole = refl },
      two first rest.0 ports w.rest (ports_of_all 0 edid (λ device. false) c.net.tree) rest.2,
      w.whole ∙ append_assoc (heads_in room) ports w.rest,
    )

pub objects_are_of_the_trace : ObjectsAreOfTheTrace
objects_are_of_the_trace with_room topology script text totals w =
    let shown = run_shown w.edid (room_if with_room topology script) w.course.end _ text totals w.objects in
    (shown.0, shown.1, record { plan = w.plan; course = w.course; edid = w.edid; accepted = w.accepted; root = w.root; trace = shown.2 }, shown.3, shown.4)
