-- How what a line of a table says is queued.
use Rattle.std.specs.Prelude.{ℕ, ◌==◌, ◌&&◌, not, nat_lt, List, [], ◌∷◌, if◌then◌else◌}
use Rattle.message_table.specs.Words.{reason_byte}
use Rattle.device_features.specs.declared.record.Heard.{Heard}
use Rattle.device_features.specs.declared.say.Say.{Say}
use Rattle.device_features.specs.declared.say.Say.TheVariants.{Reply, Cast, Report, Refuse}
use Rattle.device_features.specs.Effect.{Effect}
use Rattle.device_core.specs.State.{State, with_queued, source}

-- How one is queued. A reply or a notice goes to an address below 15 alone, and a refusal, which is Feature Abort,
-- answers a frame that was directly addressed to the device, unless that is a Feature Abort itself (CEC 12.3). What
-- answers a direct frame comes from the address that this one went to.
abbrev pub say : ℕ → Heard → Say → State → State
say limit h (Reply bytes) d = if nat_lt h.from 15 then with_queued limit h.at (source d.place h.to) h.from bytes d else d
say limit h (Cast bytes) d = with_queued limit h.at (source d.place h.to) 15 bytes d
say limit h (Report to bytes) d = if nat_lt to 15 then with_queued limit h.at (source d.place h.to) to bytes d else d
say limit h (Refuse reason) d =
    if nat_lt h.to 15 && (nat_lt h.from 15 && not (h.opcode == 0))
    then with_queued limit h.at (source d.place h.to) h.from (0x00 ∷ h.opcode ∷ reason_byte reason ∷ []) d
    else d

-- all of it, in order
abbrev pub say_all : ℕ → Heard → List Say → State → State
say_all limit h [] d = d
say_all limit h (s ∷ says) d = say_all limit h says (say limit h s d)

-- a device after a line of the table
abbrev pub after_effect : ℕ → Heard → Effect → State → State
after_effect limit h e d = say_all limit h e.says (record d { record_of = e.after })
