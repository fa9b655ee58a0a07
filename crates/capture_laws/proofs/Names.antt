-- The names of a run's devices are those of the topology, and each is one word.
use Rattle.std.proofs.Common.{◌≡◌, ℕ, zero, suc, ◌+◌, ◌==◌, ◌&&◌, ◌||◌, Bool, true, false, not, nat_lt, nat_le, min, if◌then◌else◌, List, [], ◌∷◌, ◌++◌, length, codes, slice_index, Option, Some, None, is_some, Result, Ok, Err, refl, ap, ap₂, ◌∙◌, subst, arith}
use Rattle.std.specs.List.{All, list_all}
use Rattle.std.specs.Char.{is_ascii_lowercase}
use Rattle.std.specs.Str.{bytes_eq}
use Rattle.std.proofs.lemmas.Bool.Decides.{nat_tests}
use Rattle.std.proofs.lemmas.List.Elements.{All-append, All-cons, All-nil}
use Rattle.std.proofs.lemmas.Slice.Eq.{bytes_eq-Decides}
use Rattle.text_core.specs.declared.kind.Kind.{Kind}
use Rattle.text_core.specs.declared.phys.Phys.{Phys}
use Rattle.edid_tree.specs.Name.{is_name, is_name_byte}
use Rattle.edid_tree.specs.Node.{Node}
use Rattle.edid_tree.specs.Path.{address_of}
use Rattle.edid_tree.specs.Tree.{add_fault, tree_with_device, device_named, has_root, plug_fault, tree_with_plug, with_plug}
use Rattle.edid_tree.specs.declared.plug.Plug.{Plug}
use Rattle.edid_tree.specs.declared.plug.AddError.{AddError}
use Rattle.edid_tree.specs.declared.plug.PlugError.{PlugError}
use Rattle.text_core.specs.Lines.{is_skipped, lines_of}
use Rattle.text_core.specs.Words.{words_of}
use Rattle.capture_vcd.specs.Dump.{is_end, is_space}
use Rattle.text_forms.specs.Forms.{Meaning, Said, kind_at, line_of, port_at, ports_at, text_at}
use Rattle.room_lines.specs.Topology.{topology_rows}
use Rattle.room_lines.specs.declared.topology.TopologyVerb.{TopologyVerb}
use Rattle.room_lines.specs.declared.topology.TopologyVerb.TheVariants.{Device, Plug as PlugForm, Edid}
use Rattle.room_script.specs.Topology.{Plan, after_line, bytes_of, checked, checked_in, device_checked, edid_checked, edid_read, line_read, lines_read, plug_checked, unless_add, unless_plug}
use Rattle.text_core.specs.declared.at.At.{At}
use Rattle.room_script.specs.declared.topology.TopologyCause.{TopologyCause}
use Rattle.text_core.specs.At.{at_line, at_word}
use Rattle.room_script.specs.declared.topology.TopologyCause.TheVariants as causes
use Rattle.device_core.specs.State.{State, frame_of, addresses_held, holds, one_more, with_queued, speaks}
use Rattle.device_core.specs.Place.{fresh, is_on_wire, after_joining, reported_by, reported_from, start_place}
use Rattle.device_features.specs.Kinds.{is_switch, type_of}
use Rattle.room_net.specs.State.{loose, after_move}
use Rattle.room_driven.specs.Driven.{names_of}
use Rattle.capture_laws.specs.WireDumps.{is_word}
use Rattle.capture_laws.specs.Dumps.{names_in}
use Rattle.capture_laws.specs.Names.{MovesKeepNames, NamesAreWords, NamesStart, QueueingKeepsNames, ReportsKeepNames}

-- ---- a device keeps its name

two : (t : Bool) (x y : State) (name : List ℕ) → x.name ≡ name → y.name ≡ name → (if t then x else y).name ≡ name
two true x y name h k = h
two false x y name h k = k

pub name-queued : QueueingKeepsNames
name-queued limit at from to bytes d =
    two (not (speaks d) || holds d.place to) d
    (if nat_lt (length d.queue) limit then record d { queue = d.queue ++ record { frame = frame_of from to bytes; ready = at; ticket = None } ∷ [] } else record d { dropped = one_more d.dropped }) d.name refl
    (two (nat_lt (length d.queue) limit) (record d { queue = d.queue ++ record { frame = frame_of from to bytes; ready = at; ticket = None } ∷ [] }) (record d { dropped = one_more d.dropped }) d.name refl refl)

name-reported_from : (limit at : ℕ) (unit : Option ℕ) (d : State) → (reported_from limit at unit d).name ≡ d.name
name-reported_from limit at None d = refl
name-reported_from limit at (Some from) d =
    two (nat_lt from 15 || is_switch d.kind) (with_queued limit at from 15 (0x84 ∷ d.phys.high ∷ d.phys.low ∷ type_of d.kind from ∷ []) d) d d.name
    (name-queued limit at from 15 (0x84 ∷ d.phys.high ∷ d.phys.low ∷ type_of d.kind from ∷ []) d) refl

pub name-reported_by : ReportsKeepNames
name-reported_by limit at [] d = refl
name-reported_by limit at (unit ∷ units) d = name-reported_by limit at units (reported_from limit at unit d) ∙ name-reported_from limit at unit d

name-joined : (limit number at : ℕ) (phys : Phys) (d : State) → (after_joining limit d number phys at).name ≡ d.name
name-joined limit number at phys d =
    let e : State = record (fresh d.kind d.name d.ports) {
      number = number;
      phys = phys;
      place = start_place d.kind phys;
      poll_ready = at;
    } in
    name-reported_by limit at (addresses_held e.place) e

name-moved : (at number : ℕ) (plugged : Bool) (address : Option Phys) (d : State) → (after_move at number plugged address d).name ≡ d.name
name-moved at number false (Some address) d = name-joined 16 number at address d
name-moved at number false None d = refl
name-moved at number true (Some address) d = refl
name-moved at number true None d = refl

pub names-each : MovesKeepNames
names-each n at tree [] = refl
names-each n at tree (d ∷ ds) = ap₂ (λ x xs. x ∷ xs) (name-moved at n (is_on_wire d) (address_of tree n) d) (names-each (n + 1) at tree ds)

names-loose : (tree : List Node) → names_of (loose tree) ≡ names_in tree
names-loose [] = refl
names-loose (node ∷ tree) = ap (λ xs. node.name ∷ xs) (names-loose tree)

pub names_started : NamesStart
names_started tree pulses = names-each 0 0 tree (loose tree) ∙ names-loose tree

-- ---- a name is one word

and_left : (a b : Bool) → (a && b) ≡ true → a ≡ true
and_left true b h = refl
and_left false b h = cc

and_right : (a b : Bool) → (a && b) ≡ true → b ≡ true
and_right true b h = h
and_right false b h = cc

both : (a b : Bool) → a ≡ true → b ≡ true → (a && b) ≡ true
both true b h k = k
both false b h k = cc

solid_byte : (b : ℕ) → is_name_byte b ≡ true → not (is_space b || (b == 10)) ≡ true
solid_byte b h = grind (arith, nat_tests)

solid : (word : List ℕ) → list_all is_name_byte word ≡ true → list_all (λ b. not (is_space b || (b == 10))) word ≡ true
solid [] h = refl
solid (c ∷ word) h =
    both (not (is_space c || (c == 10))) (list_all (λ b. not (is_space b || (b == 10))) word) (solid_byte c (and_left (is_name_byte c) (list_all is_name_byte word) h))
    (solid word (and_right (is_name_byte c) (list_all is_name_byte word) h))

no_end : (word : List ℕ) → is_ascii_lowercase (slice_index word 0) ≡ true → not (is_end word) ≡ true
no_end word h = by (is_end word) refl
  where
    by : (b : Bool) → is_end word ≡ b → not b ≡ true
    by false e = refl
    by true e =
        let is : word ≡ codes "$end" = (bytes_eq-Decides word (codes "$end")).0 e in
        let low : is_ascii_lowercase 36 ≡ true = subst (λ (w : List ℕ). is_ascii_lowercase (slice_index w 0) ≡ true) is h in cc

some_word : (word : List ℕ) → nat_lt 0 (length word) ≡ true → not (length word == 0) ≡ true
some_word word h = grind (arith, nat_tests)

pub word_of : (name : List ℕ) → is_name name ≡ true → is_word name ≡ true
word_of name h =
    let few = nat_lt 0 (length name) && nat_le (length name) 14 in
    let front = few && is_ascii_lowercase (slice_index name 0) in
    let all = and_right front (list_all is_name_byte name) h in
    let begins = and_left front (list_all is_name_byte name) h in
    let lower = and_right few (is_ascii_lowercase (slice_index name 0)) begins in
    let some = and_left (nat_lt 0 (length name)) (nat_le (length name) 14) (and_left few (is_ascii_lowercase (slice_index name 0)) begins) in
    both (not (length name == 0)) (not (is_end name) && list_all (λ b. not (is_space b || (b == 10))) name) (some_word name some)
    (both (not (is_end name)) (list_all (λ b. not (is_space b || (b == 10))) name) (no_end name lower) (solid name all))

-- ---- a topology's names are names

abbrev AreNamed : List Node → Type 0
AreNamed tree = All (λ node. is_name node.name ≡ true) tree

named_plug : (tree : List Node) (child : ℕ) (plug : Option Plug) → AreNamed tree → AreNamed (with_plug tree child plug)
named_plug [] child plug h = h
named_plug (node ∷ tree) zero plug h = All-cons (λ (n : Node). is_name n.name ≡ true) (record node { plug = plug }) tree (h 0 node (omega arith)) (λ k x l. h (suc k) x (omega arith))
named_plug (node ∷ tree) (suc child) plug h =
    All-cons (λ (n : Node). is_name n.name ≡ true) node (with_plug tree child plug) (h 0 node (omega arith)) (named_plug tree child plug (λ k x l. h (suc k) x (omega arith)))

-- what is read keeps it
Keeps : {F : Type 0} → Result Plan F → Type 0
Keeps (Ok plan) = AreNamed plan.tree
Keeps (Err cause) = Unit {0}

keeps_if : {F : Type 0} (b : Bool) (r s : Result Plan F) → (b ≡ true → Keeps r) → (b ≡ false → Keeps s) → Keeps (if b then r else s)
keeps_if true r s h k = h refl
keeps_if false r s h k = k refl

keeps_add : (fault : Option AddError) (plan : Plan) → AreNamed plan.tree → Keeps (unless_add fault plan)
unfolding Keeps
keeps_add None plan h = h
keeps_add (Some error) plan h = tt

keeps_plug : (fault : Option PlugError) (plan : Plan) → AreNamed plan.tree → Keeps (unless_plug fault plan)
unfolding Keeps
keeps_plug None plan h = h
keeps_plug (Some error) plan h = tt

is_named : (a b : Bool) → (not a || b) ≡ false → a ≡ true
is_named true b h = refl
is_named false b h = cc

keeps_device : (plan : Plan) (name : List ℕ) (kind : Kind) (ports : ℕ) → AreNamed plan.tree → Keeps (device_checked plan name kind ports)
unfolding Keeps
keeps_device plan name kind ports h =
    keeps_if (not (is_name name) || is_some (device_named plan.tree name)) (Err (at_word 1 causes.Name)) _ (λ g. tt) (λ g.
    keeps_add (add_fault 15 plan.tree name kind) (record plan { tree = tree_with_device plan.tree name kind ports })
    (All-append (λ (n : Node). is_name n.name ≡ true) plan.tree (record { name = name; kind = kind; ports = ports; plug = None } ∷ []) h
    (All-cons (λ (n : Node). is_name n.name ≡ true) (record { name = name; kind = kind; ports = ports; plug = None }) []
    (is_named (is_name name) (is_some (device_named plan.tree name)) g) (All-nil (λ (n : Node). is_name n.name ≡ true)))))

keeps_plugged : (plan : Plan) (child parent : Option ℕ) (port : ℕ) → AreNamed plan.tree → Keeps (plug_checked plan child parent port)
unfolding Keeps
keeps_plugged plan None parent port h = tt
keeps_plugged plan (Some child) None port h = tt
keeps_plugged plan (Some child) (Some parent) port h =
    keeps_plug (plug_fault plan.tree child parent port) (record plan { tree = tree_with_plug plan.tree child parent port }) (named_plug plan.tree child _ h)

keeps_bytes : (plan : Plan) (bytes : Option (List ℕ)) → AreNamed plan.tree → Keeps (edid_read plan bytes)
unfolding Keeps
keeps_bytes plan None h = tt
keeps_bytes plan (Some bytes) h = h

keeps_edid : (plan : Plan) (hex : List ℕ) → AreNamed plan.tree → Keeps (edid_checked plan hex)
unfolding Keeps
keeps_edid plan hex h = keeps_if (is_some plan.edid) (Err (at_word 0 causes.Word)) (edid_read plan (bytes_of hex)) (λ e. tt) (λ e. keeps_bytes plan (bytes_of hex) h)

keeps_checked : (plan : Plan) (verb : TopologyVerb) (values : List Meaning) → AreNamed plan.tree → Keeps (checked plan verb values)
keeps_checked plan Device values h = keeps_device plan (text_at values 1) (kind_at values 2) (ports_at values 3) h
keeps_checked plan PlugForm values h = keeps_plugged plan (device_named plan.tree (text_at values 1)) (device_named plan.tree (text_at values 2)) (port_at values 3) h
keeps_checked plan Edid values h = keeps_edid plan (text_at values 1) h

keeps_said : (plan : Plan) (read : Said TopologyVerb) → AreNamed plan.tree → Keeps (checked_in plan read)
unfolding Keeps
keeps_said plan (Err fault) h = tt
keeps_said plan (Ok read) h = keeps_checked plan read.0 read.1 h

keeps_line : (plan : Plan) (line : List ℕ) → AreNamed plan.tree → Keeps (line_read plan line)
unfolding Keeps
keeps_line plan line h =
    keeps_if (is_skipped line) (Ok plan) (checked_in plan (line_of topology_rows (words_of line))) (λ e. h) (λ e. keeps_said plan (line_of topology_rows (words_of line)) h)

named_lines : (lines : List (List ℕ)) (number : ℕ) (plan end : Plan) → AreNamed plan.tree → lines_read lines number plan ≡ Ok end → AreNamed end.tree
unfolding Keeps
named_lines [] number plan end h e = step (has_root plan.tree) e
  where
    none : Result Plan (At TopologyCause)
    none = Err (at_line number (at_word 0 causes.NoRoot))

    step : (b : Bool) → (if b then Ok plan else none) ≡ Ok end → AreNamed end.tree
    step true k = let same : plan ≡ end = cc in subst (λ (p : Plan). AreNamed p.tree) same h
    step false k = cc
named_lines (line ∷ lines) number plan end h e =
    let on : (next : Plan) → AreNamed next.tree → lines_read lines (number + 1) next ≡ Ok end → AreNamed end.tree = λ next k. named_lines lines (number + 1) next end k in
    elim (line_read plan line) as (λ r. Keeps r → after_line number r (λ next. lines_read lines (number + 1) next) ≡ Ok end → AreNamed end.tree) [
      | Ok next ↦ λ k e. on next k e
      | Err fault ↦ λ k e. (cc)
    ] (keeps_line plan line h) e

pub names_are_words : NamesAreWords
names_are_words topology plan h = words plan.tree (named_lines (lines_of topology) 1 (record { tree = []; edid = None }) plan (All-nil (λ (n : Node). is_name n.name ≡ true)) h)
  where
    words : (tree : List Node) → AreNamed tree → All (λ name. is_word name ≡ true) (names_in tree)
    words [] k = All-nil (λ name. is_word name ≡ true)
    words (node ∷ tree) k =
        All-cons (λ name. is_word name ≡ true) node.name (names_in tree) (word_of node.name (k 0 node (omega arith))) (words tree (λ i x l. k (suc i) x (omega arith)))
