-- User control codes: what each byte means, and the byte of each word.
use Rattle.std.specs.Prelude.{ℕ, [], ◌∷◌}
use Rattle.message_table.specs.declared.word_set.WordSet.TheVariants.{UserControl as UserControlWords}
use Rattle.message_table.specs.Words.{known_or, with_byte}
use Rattle.message_table.specs.declared.user_control.UserControl.{UserControl}
use Rattle.message_table.specs.declared.user_control.UserControl.TheVariants.{Select, Up, Down, Left, Right, RootMenu, Exit, Digit0, Digit1, Digit2, Digit3, Digit4, Digit5, Digit6, Digit7, Digit8, Digit9, Power, VolumeUp, VolumeDown, Mute, Play, Stop, Pause, PowerOff, PowerOn, Other}

abbrev pub user_control_byte : UserControl → ℕ
user_control_byte Select = 0x00
user_control_byte Up = 0x01
user_control_byte Down = 0x02
user_control_byte Left = 0x03
user_control_byte Right = 0x04
user_control_byte RootMenu = 0x09
user_control_byte Exit = 0x0d
user_control_byte Digit0 = 0x20
user_control_byte Digit1 = 0x21
user_control_byte Digit2 = 0x22
user_control_byte Digit3 = 0x23
user_control_byte Digit4 = 0x24
user_control_byte Digit5 = 0x25
user_control_byte Digit6 = 0x26
user_control_byte Digit7 = 0x27
user_control_byte Digit8 = 0x28
user_control_byte Digit9 = 0x29
user_control_byte Power = 0x40
user_control_byte VolumeUp = 0x41
user_control_byte VolumeDown = 0x42
user_control_byte Mute = 0x43
user_control_byte Play = 0x44
user_control_byte Stop = 0x45
user_control_byte Pause = 0x46
user_control_byte PowerOff = 0x6c
user_control_byte PowerOn = 0x6d
user_control_byte (Other other) = other.byte

abbrev pub user_control_at : ℕ → UserControl
user_control_at byte = known_or UserControlWords byte (λ h. Other (record { byte = byte; unlisted = h }))
    (with_byte user_control_byte byte Select (Up ∷ Down ∷ Left ∷ Right ∷ RootMenu ∷ Exit ∷ Digit0 ∷ Digit1 ∷ Digit2 ∷ Digit3 ∷ Digit4 ∷ Digit5 ∷ Digit6 ∷ Digit7 ∷ Digit8 ∷ Digit9 ∷ Power ∷ VolumeUp ∷ VolumeDown ∷ Mute ∷ Play ∷ Stop ∷ Pause ∷ PowerOff ∷ PowerOn ∷ []))
