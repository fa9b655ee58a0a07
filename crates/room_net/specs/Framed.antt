-- Whatever a device has to send has a block at least (own).
use Rattle.std.specs.Prelude.{◌<◌, length, All}
use Rattle.device_core.specs.declared.device.Queued.{Queued}
use Rattle.device_core.specs.State.{State}
use Rattle.room_net.specs.State.{NetState}

abbrev pub HasBlock : Queued → Type 0
HasBlock q = 0 < length q.frame

abbrev pub IsFramed : State → Type 0
IsFramed d = All HasBlock d.queue

abbrev pub AreFramed : NetState → Type 0
AreFramed s = All IsFramed s.devices
