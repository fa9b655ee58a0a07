-- What the senders do is kept for as long as it lasts.
use Rattle.std.proofs.Common.{◌≡◌, ℕ, ◌+◌, ◌<◌, ◌≤◌, nat_lt, List, Option, arith, ap, ◌∙◌, sym, subst}
use Rattle.std.specs.List.{list_any}
use Rattle.line_wave.specs.Sender.{first_slot}
use Rattle.line_reading.specs.declared.sender.Sender.{Sender}
use Rattle.line_wire.specs.declared.edge_wire.EdgeWire.{EdgeWire}
use Rattle.line_wire.specs.declared.senders.SenderPlaces.{SenderPlaces}
use Rattle.line_wire.specs.Pulls.{StandIn, pull_in}
use Rattle.line_wire.specs.Wired.{IsKept}

abbrev IsLowTo : List (Option Sender) → ℕ → ℕ → ℕ → Type 0
IsLowTo senders from rise until = (u : ℕ) → from ≤ u → u < until → list_any (pull_in u) senders ≡ nat_lt u rise

-- as it was worked out, of a slice of them
pub low_of_slice : (senders slice : List (Option Sender)) (t rise until : ℕ) → slice ≡ senders → IsLowTo slice t rise until → IsLowTo senders t rise until
low_of_slice senders slice t rise until e low u a b = ap (λ (os : List (Option Sender)). list_any (pull_in u) os) (sym e) ∙ low u a b

pub stand_in : (places : SenderPlaces) (senders slice : List (Option Sender)) → slice ≡ senders → StandIn places slice → StandIn places senders
stand_in places senders slice e h = subst (λ (os : List (Option Sender)). StandIn places os) e h

pub kept_made : (w : EdgeWire) (slice : List (Option Sender)) → slice ≡ w.senders.items → w.pull.until ≤ w.time + first_slot → IsLowTo slice w.time w.pull.rise w.pull.until → StandIn w.places w.senders.items → IsKept w
kept_made w slice e near low places = record { low = low_of_slice w.senders.items slice w.time w.pull.rise w.pull.until e low; near = near; places = places }

-- at a later instant
pub kept_later : (w : EdgeWire) (t : ℕ) → w.time ≤ t → IsKept w → IsKept (record w { time = t })
kept_later w t l k = record { low = λ u a b. k.low u (omega (arith, a, l)) b; near = (let x = k.near in omega (arith, x, l)); places = k.places }
