-- A sender, report by report of the receiver: what each means by its own bits (own).
use Rattle.std.specs.Prelude.{ℕ, ◌-◌, ◌%◌, ◌==◌, Bool, not, ◌&&◌, if◌then◌else◌, List, slice_index_or, false}
use mathlib.Core.Bool.{beq}
use Rattle.line_reading.specs.declared.receiver.Told.{Told}
use Rattle.line_reading.specs.declared.receiver.Told.TheVariants.{Nothing, Bit, Last, Ended}
use Rattle.line_reading.specs.declared.sender.SenderState.{SenderState}
use Rattle.line_reading.specs.declared.sender.SenderState.TheVariants.{Sending, Out, Stopped}

-- the bit of a slot, from 1
abbrev pub sent_in : List Bool → ℕ → Bool
sent_in sent n = slice_index_or sent (n - 1) false

-- a sender of these bits sends to everybody
abbrev pub takes_all : List Bool → Bool
takes_all sent = sent_in sent 5 && (sent_in sent 6 && (sent_in sent 7 && sent_in sent 8))

abbrev pub is_out_there : List Bool → ℕ → Bool → Bool
is_out_there sent n value = if n % 10 == 0 then not (beq value (takes_all sent)) else not (beq value (sent_in sent n))

abbrev pub by_reported : List Bool → Told → SenderState
by_reported sent Nothing = Sending
by_reported sent (Bit n value) = if is_out_there sent n value then Out n else Sending
by_reported sent (Last value ending) = Stopped
by_reported sent (Ended ending) = Stopped

abbrev pub after_reported : List Bool → SenderState → Told → SenderState
after_reported sent Sending reported = by_reported sent reported
after_reported sent state reported = state
