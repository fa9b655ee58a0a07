-- What is said of the receiver or the sender that was taken back is said of each that keeps the same.
use Rattle.std.proofs.Common.{◌≡◌, ℕ, Bool, Some, subst}
use Rattle.line_reading.specs.Parts.{ArePartsOf, ArePartsOfSender}
use Rattle.line_reading.specs.declared.receiver.Receiver.{Receiver}
use Rattle.line_reading.specs.declared.receiver.Told.{Told}
use Rattle.line_reading.specs.declared.receiver.parts.ReceiverParts.{ReceiverParts}
use Rattle.line_reading.specs.declared.sender.Sender.{Sender}
use Rattle.line_reading.specs.declared.sender.parts.SenderParts.{SenderParts}
use Rattle.parts_laws.proofs.Same.{same_receiver, same_sender}
use Rattle.library_wire.specs.Receiver.{HasHeard}
use Rattle.library_wire.specs.Sender.{IsReported}
use Rattle.library_wire.specs.declared.heard.InstantHeard.{InstantHeard}
use Rattle.library_wire.specs.declared.readings.ReadingParts.{ReadingParts}

pub heard_as : (was r : Receiver) (old : ReceiverParts) (t : ℕ) (is_low : Bool) (heard : InstantHeard) (new : ReceiverParts) (a b : ReadingParts)
    → ArePartsOf was old → ArePartsOf r old → HasHeard was t is_low heard new a b → HasHeard r t is_low heard new a b
heard_as was r old t is_low heard new a b p q h = subst (λ x. HasHeard x t is_low heard new a b) (same_receiver was r old p q) h

one_reported : (a b : Told) → Some a ≡ Some b → a ≡ b
one_reported a b e = cc

pub reported_as : (was s : Sender) (old : SenderParts) (heard reported : Told) (t : ℕ) (new : SenderParts)
    → ArePartsOfSender was old → ArePartsOfSender s old → Some heard ≡ Some reported → IsReported was heard t new → IsReported s reported t new
reported_as was s old heard reported t new p q e h =
    subst (λ x. IsReported x reported t new) (same_sender was s old p q) (subst (λ x. IsReported was x t new) (one_reported heard reported e) h)
