-- What the senders' states say: who follows, and who is still sending and who is out at the end. (own)
use Rattle.std.specs.Prelude.{ℕ, ◌+◌, Bool, false, not, ◌&&◌, ◌||◌, List, [], ◌∷◌, ◌++◌, Option, Some, None}
use Rattle.line_reading.specs.declared.sender.Sender.{Sender}
use Rattle.line_reading.specs.declared.sender.SenderState.{SenderState}
use Rattle.line_reading.specs.declared.sender.SenderState.TheVariants.{Out}
use Rattle.line_rounds.specs.declared.Seat.{Seat}
use Rattle.line_rounds.specs.declared.Loser.{Loser}
use Rattle.line_rounds.specs.Round.{is_held, lost_at}
use Rattle.line_wire.specs.Pulls.{is_on}

-- the seat of this sender is sending
abbrev pub is_sending_on : Option Sender → Bool
is_sending_on None = false
is_sending_on (Some s) = is_on s.state

-- a seat that is not sending holds this address
abbrev pub acks_to : ℕ → List Seat → List (Option Sender) → Bool
acks_to to [] os = false
acks_to to (seat ∷ seats) [] = false
acks_to to (seat ∷ seats) (o ∷ os) = (seat.plugged && (is_held seat.holds to && not (is_sending_on o))) || acks_to to seats os

-- a seat that is not sending is plugged in
abbrev pub breaks_by : List Seat → List (Option Sender) → Bool
breaks_by [] os = false
breaks_by (seat ∷ seats) [] = false
breaks_by (seat ∷ seats) (o ∷ os) = (seat.plugged && not (is_sending_on o)) || breaks_by seats os

-- ---- the end

abbrev pub out_at : SenderState → Option ℕ
out_at (Out slot) = Some slot
out_at _ = None

abbrev pub out_in : Option Sender → Option ℕ
out_in None = None
out_in (Some s) = out_at s.state

abbrev pub stays_at : ℕ → SenderState → List ℕ
stays_at n (Out slot) = []
stays_at n _ = n ∷ []

abbrev pub survivor_at : ℕ → Option Sender → List ℕ
survivor_at n None = []
survivor_at n (Some s) = stays_at n s.state

abbrev pub survivors_of : ℕ → List (Option Sender) → List ℕ
survivors_of n [] = []
survivors_of n (o ∷ os) = survivor_at n o ++ survivors_of (n + 1) os

abbrev pub losers_of : ℕ → List (Option Sender) → List Loser
losers_of n [] = []
losers_of n (o ∷ os) = lost_at n (out_in o) ++ losers_of (n + 1) os
