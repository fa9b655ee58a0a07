-- What a receiver and a sender keep is all that they are (this profile's own).
use Rattle.std.specs.Prelude.{◌≡◌}
use Rattle.line_reading.specs.Parts.{ArePartsOf, ArePartsOfSender}
use Rattle.line_reading.specs.declared.receiver.Receiver.{Receiver}
use Rattle.line_reading.specs.declared.receiver.parts.ReceiverParts.{ReceiverParts}
use Rattle.line_reading.specs.declared.sender.Sender.{Sender}
use Rattle.line_reading.specs.declared.sender.parts.SenderParts.{SenderParts}

abbrev pub ReceiversHaveOneForm : Type 0
ReceiversHaveOneForm = (first second : Receiver) (parts : ReceiverParts) → ArePartsOf first parts → ArePartsOf second parts → first ≡ second

abbrev pub SendersHaveOneForm : Type 0
SendersHaveOneForm = (first second : Sender) (parts : SenderParts) → ArePartsOfSender first parts → ArePartsOfSender second parts → first ≡ second
