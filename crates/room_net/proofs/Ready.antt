-- What a device has to send was ready by the latest time that its calls were handed.
use Rattle.std.proofs.Common.{ℕ, suc, ◌+◌, ◌≤◌, Bool, true, false, not, ◌||◌, nat_lt, if◌then◌else◌, List, [], ◌∷◌, ◌++◌, length, Option, Some, None, arith}
use Rattle.std.specs.List.{All}
use Rattle.std.proofs.lemmas.List.Elements.{All-nil, All-cons, All-append}
use Rattle.text_core.specs.declared.phys.Phys.{Phys}
use Rattle.text_core.specs.declared.kind.Kind.{Kind}
use Rattle.device_core.specs.declared.device.Queued.{Queued}
use Rattle.device_core.specs.State.{State, addresses_held, with_queued, speaks, holds, frame_of, one_more}
use Rattle.device_features.specs.Kinds.{is_switch, type_of}
use Rattle.device_core.specs.Place.{is_on_wire, fresh, start_place, with_reports, reported_by, reported_from, after_joining, after_leaving}
use Rattle.edid_tree.specs.Node.{Node}
use Rattle.edid_tree.specs.Path.{address_of}
use Rattle.room_net.specs.State.{each_from, after_move, moved_by, loose}
use Rattle.room_net.specs.Sound.{IsReadyBy}

either_ready : (b : ℕ) (p q : Bool) (x y z : State) → IsReadyBy b x → IsReadyBy b y → IsReadyBy b z → IsReadyBy b (if p then x else (if q then y else z))
either_ready b true q x y z h i j = h
either_ready b false true x y z h i j = i
either_ready b false false x y z h i j = j

pub ready-later : (b c : ℕ) (d : State) → b ≤ c → IsReadyBy b d → IsReadyBy c d
ready-later b c d le h = record { poll = omega (arith, h.poll); queue = λ k q l. (let m = h.queue k q l in omega arith) }

pub ready-queued : (b limit at from to : ℕ) (bytes : List ℕ) (d : State) → at ≤ b → IsReadyBy b d → IsReadyBy b (with_queued limit at from to bytes d)
ready-queued b limit at from to bytes d le h =
    let last : List Queued = record { frame = frame_of from to bytes; ready = at; ticket = None } ∷ [] in
    let Early : Queued → Type 0 = λ q. q.ready ≤ b in
    either_ready b (not (speaks d) || holds d.place to) (nat_lt (length d.queue) limit) d
    (record d { queue = d.queue ++ last }) (record d { dropped = one_more d.dropped }) h
    (record { poll = h.poll; queue = All-append Early d.queue last h.queue (All-cons Early (record { frame = frame_of from to bytes; ready = at; ticket = None }) [] le (All-nil Early)) })
    (record { poll = h.poll; queue = h.queue })

ready-reported_from : (b limit at : ℕ) (unit : Option ℕ) (d : State) → at ≤ b → IsReadyBy b d → IsReadyBy b (reported_from limit at unit d)
ready-reported_from b limit at None d le h = h
ready-reported_from b limit at (Some from) d le h =
    either (nat_lt from 15 || is_switch d.kind) (ready-queued b limit at from 15 (0x84 ∷ d.phys.high ∷ d.phys.low ∷ type_of d.kind from ∷ []) d le h)
  where
    either : (t : Bool) → IsReadyBy b (with_queued limit at from 15 (0x84 ∷ d.phys.high ∷ d.phys.low ∷ type_of d.kind from ∷ []) d)
        → IsReadyBy b (if t then with_queued limit at from 15 (0x84 ∷ d.phys.high ∷ d.phys.low ∷ type_of d.kind from ∷ []) d else d)
    either true k = k
    either false k = h

ready-reported_by : (b limit at : ℕ) (units : List (Option ℕ)) (d : State) → at ≤ b → IsReadyBy b d → IsReadyBy b (reported_by limit at units d)
ready-reported_by b limit at [] d le h = h
ready-reported_by b limit at (unit ∷ units) d le h =
    ready-reported_by b limit at units (reported_from limit at unit d) le (ready-reported_from b limit at unit d le h)

pub ready-reported : (b limit at : ℕ) (d : State) → at ≤ b → IsReadyBy b d → IsReadyBy b (with_reports limit at d)
ready-reported b limit at d le h = ready-reported_by b limit at (addresses_held d.place) d le h

pub ready-left : (b : ℕ) (d : State) → IsReadyBy b (after_leaving d)
ready-left b d = record { poll = omega arith; queue = All-nil (λ (q : Queued). q.ready ≤ b) }

pub ready-fresh : (b : ℕ) (kind : Kind) (name : List ℕ) (ports : ℕ) → IsReadyBy b (fresh kind name ports)
ready-fresh b kind name ports = record { poll = omega arith; queue = All-nil (λ (q : Queued). q.ready ≤ b) }

pub ready-joined : (b limit number at : ℕ) (phys : Phys) (d : State) → at ≤ b → IsReadyBy b (after_joining limit d number phys at)
ready-joined b limit number at phys d le =
    let new : State = record (fresh d.kind d.name d.ports) {
      number = number;
      phys = phys;
      place = start_place d.kind phys;
      poll_ready = at;
    } in
    ready-reported b limit at new le (record { poll = le; queue = All-nil (λ (q : Queued). q.ready ≤ b) })

pub ready-moved : (b at number : ℕ) (plugged : Bool) (address : Option Phys) (d : State) → at ≤ b → IsReadyBy b d → IsReadyBy b (after_move at number plugged address d)
ready-moved b at number false (Some address) d le h = ready-joined b 16 number at address d le
ready-moved b at number false None d le h = h
ready-moved b at number true (Some address) d le h = h
ready-moved b at number true None d le h = ready-left b d

pub ready-each_from : (b c n : ℕ) (f : ℕ → State → State) (xs : List State) → ((m : ℕ) (d : State) → IsReadyBy b d → IsReadyBy c (f m d))
    → All (IsReadyBy b) xs → All (IsReadyBy c) (each_from n f xs)
ready-each_from b c n f [] step h = All-nil (IsReadyBy c)
ready-each_from b c n f (x ∷ xs) step h =
    All-cons (IsReadyBy c) (f n x) (each_from (n + 1) f xs) (step n x (h 0 x (omega arith)))
    (ready-each_from b c (n + 1) f xs step (λ k d l. h (suc k) d (omega arith)))

pub ready-rewired : (b at : ℕ) (tree : List Node) (xs : List State) → at ≤ b → All (IsReadyBy b) xs → All (IsReadyBy b) (each_from 0 (moved_by at tree) xs)
ready-rewired b at tree xs le h =
    ready-each_from b b 0 (moved_by at tree) xs (λ m d r. ready-moved b at m (is_on_wire d) (address_of tree m) d le r) h

pub ready-loose : (b : ℕ) (tree : List Node) → All (IsReadyBy b) (loose tree)
ready-loose b [] = All-nil (IsReadyBy b)
ready-loose b (node ∷ tree) = All-cons (IsReadyBy b) (fresh node.kind node.name node.ports) (loose tree) (ready-fresh b node.kind node.name node.ports) (ready-loose b tree)
