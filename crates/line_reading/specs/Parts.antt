-- What a receiver and a sender keep, in plain numbers (this profile's own).
use Rattle.std.specs.Prelude.{◌≡◌, ℕ, length, take}
use Rattle.line_reading.specs.declared.receiver.ReceiverState.{ReceiverState}
use Rattle.line_reading.specs.declared.receiver.ReceiverState.TheVariants.{Rest, StartLow, StartHigh, Unsampled, Sampled}
use Rattle.line_reading.specs.declared.receiver.Receiver.{Receiver}
use Rattle.line_reading.specs.declared.receiver.parts.ReceiverParts.{ReceiverParts}
use Rattle.line_reading.specs.declared.sender.SenderState.{SenderState}
use Rattle.line_reading.specs.declared.sender.SenderState.TheVariants.{Sending, Out, Stopped}
use Rattle.line_reading.specs.declared.sender.Sender.{Sender}
use Rattle.line_reading.specs.declared.sender.parts.SenderParts.{SenderParts}

abbrev pub number_of : ReceiverState → ℕ
number_of Rest = 0
number_of StartLow = 1
number_of StartHigh = 2
number_of Unsampled = 3
number_of Sampled = 4

pub record ArePartsOf (receiver : Receiver) (parts : ReceiverParts) : Type 0 where
  pub was_low : parts.was_low ≡ receiver.was_low
  pub is_low : parts.is_low ≡ receiver.is_low
  pub place : parts.place ≡ number_of receiver.place
  pub count : parts.count ≡ length receiver.bits.items
  pub begin : parts.begin ≡ receiver.begin
  pub fall : parts.fall ≡ receiver.fall
  pub bits : take parts.count parts.bits ≡ receiver.bits.items

-- how far a sender has come, and the slot at which it stopped, or 0
abbrev pub number_of_state : SenderState → ℕ
number_of_state Sending = 0
number_of_state (Out slot) = 1
number_of_state Stopped = 2

abbrev pub slot_of_state : SenderState → ℕ
slot_of_state Sending = 0
slot_of_state (Out slot) = slot
slot_of_state Stopped = 0

pub record ArePartsOfSender (sender : Sender) (parts : SenderParts) : Type 0 where
  pub begin : parts.begin ≡ sender.begin
  pub last : parts.last ≡ sender.last
  pub slot : parts.slot ≡ slot_of_state sender.state
  pub state : parts.state ≡ number_of_state sender.state
  pub count : parts.count ≡ length sender.frame
  pub frame : take parts.count parts.bytes ≡ sender.frame
