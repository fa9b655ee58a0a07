-- What holds of an event (own).
use Rattle.std.specs.Prelude.{ℕ, ◌<◌, length, IfSome}
use Rattle.room_event.specs.declared.event.Event.{Event}
use Rattle.room_event.specs.declared.event.HeaderNames.{HeaderNames}
use Rattle.room_event.specs.declared.event.Event.TheVariants.{Plug, Unplug, Key, Send, SendNamed, Outside}

-- the devices whose names stand in a header are among so many
abbrev pub AreNamed : ℕ → HeaderNames → Type 0
AreNamed count names = IfSome names.initiator (λ d. d < count) × IfSome names.destination (λ d. d < count)

-- the devices that an event names are among so many
abbrev pub NamesDevices : ℕ → Event → Type 0
NamesDevices count (Plug child parent port) = (child < count) × (parent < count)
NamesDevices count (Unplug child) = child < count
NamesDevices count (Key device key press) = device < count
NamesDevices count (Send device frame ticket) = device < count
NamesDevices count (SendNamed device names frame ticket) = (device < count) × AreNamed count names
NamesDevices count (Outside device act) = device < count

-- a frame that is handed in has a block at least
abbrev pub IsFramedEvent : Event → Type 0
IsFramedEvent (Send device frame ticket) = 0 < length frame
IsFramedEvent (SendNamed device names frame ticket) = 0 < length frame
IsFramedEvent _ = Unit {0}
