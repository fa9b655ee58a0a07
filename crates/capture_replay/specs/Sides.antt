-- Who drives the slots of a frame (own, by CEC 6.1): who sends it, and who acknowledges it, where its header says both.
use Rattle.std.specs.Prelude.{ℕ, ◌==◌, ◌||◌, if◌then◌else◌, List, Option, Some, None}
use Rattle.audit_judged.specs.Header.{destination_of, initiator_of}
use Rattle.audit_pieces.specs.declared.piece.Slot.{Slot}
use Rattle.capture_replay.specs.declared.sides.Sides.{Sides}

abbrev pub nobody : Sides
nobody = record { sender = None; taker = None }

-- The destination acknowledges (CEC 6.1.2). Of a broadcast any follower may, and of a poll of the sender's own address who has that
-- address already.
abbrev pub taker_by : ℕ → ℕ → Option ℕ
taker_by from to = if (to == 15) || (to == from) then None else Some to

abbrev pub sides_by : Option ℕ → Option ℕ → Sides
sides_by None to = nobody
sides_by (Some from) None = nobody
sides_by (Some from) (Some to) = record { sender = Some from; taker = taker_by from to }

abbrev pub sides_of : List Slot → Sides
sides_of slots = sides_by (initiator_of slots) (destination_of slots)
