-- What a wire finds of the next microsecond, by its receiver, its senders, those who follow and the last pull. (own)
use Rattle.std.specs.Prelude.{◌≡◌, ℕ, ◌+◌, ◌-◌, ◌==◌, ◌<◌, ◌≤◌, Bool, true, false, nat_lt, nat_le, ◌&&◌, ◌||◌, List, length, take, slice_index_or, Option, Some, None}
use Rattle.std.specs.List.{list_any}
use Rattle.line_wave.specs.declared.Stretch.{Stretch}
use Rattle.line_wave.specs.Line.{Line}
use Rattle.line_reading.specs.declared.receiver.ReceiverState.{ReceiverState}
use Rattle.line_reading.specs.declared.receiver.ReceiverState.TheVariants.{Unsampled, Sampled}
use Rattle.line_reading.specs.declared.sender.SenderState.{SenderState}
use Rattle.line_reading.specs.declared.sender.SenderState.TheVariants.{Sending}
use Rattle.line_reading.specs.declared.sender.Sender.{Sender}
use Rattle.line_reading.specs.Reading.{End, known_at, reading_of}
use Rattle.line_reading.specs.Sending.{pull_of}
use Rattle.line_rounds.specs.declared.Seat.{Seat}
use Rattle.line_rounds.specs.Round.{is_acknowledged, is_broken}
use Rattle.line_rounds.specs.Machine.{acks_until}
use Rattle.line_wire.specs.declared.senders.SenderPlaces.{SenderPlaces}
use Rattle.line_wire.specs.Listening.{AreSenders, AreSending}

-- a seat's sender pulls at t
abbrev pub pull_in : ℕ → Option Sender → Bool
pull_in t None = false
pull_in t (Some s) = pull_of s t

-- these senders stand at these places: there are none elsewhere
pub record StandIn (places : SenderPlaces) (senders : List (Option Sender)) : Type 0 where
  pub order : places.from ≤ places.to
  pub few : places.to ≤ length senders
  pub before : (k : ℕ) → k < places.from → slice_index_or senders k None ≡ None
  pub after : (k : ℕ) → places.to ≤ k → slice_index_or senders k None ≡ None

-- the last microsecond in which a pull begins that the round takes, by what is known of the ending before t
abbrev pub until_of : Option End → ℕ → ℕ
until_of None t = t
until_of (Some end) t = end.until

-- the last pull that began lasts, and the round takes it
abbrev pub takes_last : ℕ → Bool → ℕ → Option Stretch → Bool
takes_last until was t None = false
takes_last until was t (Some p) = nat_lt t p.to && (nat_le p.from until || was)

-- in microsecond t: the last pull, a sender, or those who follow
abbrev pub low_in : List (Option Sender) → Option Stretch → ℕ → ℕ → Bool → ℕ → Bool
low_in senders last until held was t =
    takes_last until was t last || ((list_any (pull_in t) senders && (nat_le t until || was)) || nat_lt t held)

-- those who follow hold the line until then, by what is known before t
abbrev pub IsHeld : List Seat → Line → ℕ → ℕ → ℕ → Type 0
IsHeld seats low begin t held =
    (is_acknowledged seats (known_at t (reading_of low begin)) t || is_broken seats (known_at t (reading_of low begin)) t (known_at t (reading_of low begin)).ended) ≡ nat_lt t held

-- a round's line, whatever pulls begin later, where its senders stand before t
pub record Stands (seats : List Seat) (begin : ℕ) (senders : List (Option Sender)) (until held : ℕ) (low : Line) (t : ℕ) : Type 0 where
  pub from : begin < t
  pub whose : AreSenders seats begin senders
  pub sending : AreSending low begin t senders
  pub until_is : until ≡ until_of (known_at t (reading_of low begin)).ended t
  pub held_is : IsHeld seats low begin t held

abbrev pub is_on : SenderState → Bool
is_on Sending = true
is_on _ = false

-- until when those who acknowledge hold the line, by where the receiver stands
abbrev pub held_in : List Seat → ReceiverState → ℕ → List Bool → ℕ
held_in seats Unsampled fall bits = acks_until seats bits fall
held_in seats Sampled fall bits = acks_until seats (take (length bits - 1) bits) fall
held_in seats _ fall bits = 0
