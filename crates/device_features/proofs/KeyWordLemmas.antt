-- Each word of a key is read again.
use Rattle.std.proofs.Common.{◌≡◌, Some, refl}
use Rattle.device_features.specs.KeyWords.{key_named, key_text}
use Rattle.device_features.specs.declared.key_word.KeyWord.{KeyWord}
use Rattle.device_features.specs.declared.key_word.KeyWord.TheVariants.{Play, Stop, Eject, Load, Menu, Power, VolumeUp, VolumeDown, Mute, Port, Watch, Language, Audio, Arc, Remote}

pub key_read_again : (word : KeyWord) → key_named (key_text word) ≡ Some word
key_read_again Play = refl
key_read_again Stop = refl
key_read_again Eject = refl
key_read_again Load = refl
key_read_again Menu = refl
key_read_again Power = refl
key_read_again VolumeUp = refl
key_read_again VolumeDown = refl
key_read_again Mute = refl
key_read_again Port = refl
key_read_again Watch = refl
key_read_again Language = refl
key_read_again Audio = refl
key_read_again Arc = refl
key_read_again Remote = refl
