-- The words of keys (own): a key is its word in a script, or begins with it.
use Rattle.std.specs.Prelude.{List, [], ◌∷◌, ℕ, Option, find, codes}
use Rattle.std.specs.Str.{bytes_eq}
use Rattle.device_features.specs.declared.keys.Key.{Key}
use Rattle.device_features.specs.declared.keys.Key.TheVariants as keys
use Rattle.device_features.specs.declared.keys.VolumeKey.TheVariants.{Up, Down, Mute as Muted}
use Rattle.device_features.specs.declared.key_word.KeyWord.{KeyWord}
use Rattle.device_features.specs.declared.key_word.KeyWord.TheVariants.{Play, Stop, Eject, Load, Menu, Power, VolumeUp, VolumeDown, Mute, Port, Watch, Language, Audio, Arc, Remote}

abbrev pub key_text : KeyWord → List ℕ
key_text Play = codes "play"
key_text Stop = codes "stop"
key_text Eject = codes "eject"
key_text Load = codes "load"
key_text Menu = codes "menu"
key_text Power = codes "power"
key_text VolumeUp = codes "volume-up"
key_text VolumeDown = codes "volume-down"
key_text Mute = codes "mute"
key_text Port = codes "port"
key_text Watch = codes "watch"
key_text Language = codes "language"
key_text Audio = codes "audio"
key_text Arc = codes "arc"
key_text Remote = codes "remote"

abbrev pub key_words : List KeyWord
key_words = Play ∷ Stop ∷ Eject ∷ Load ∷ Menu ∷ Power ∷ VolumeUp ∷ VolumeDown ∷ Mute ∷ Port ∷ Watch ∷ Language ∷ Audio ∷ Arc ∷ Remote ∷ []

-- the word that a text is
abbrev pub key_named : List ℕ → Option KeyWord
key_named text = find (λ word. bytes_eq (key_text word) text) key_words

-- the word of a key
abbrev pub word_of_key : Key → KeyWord
word_of_key keys.Play = Play
word_of_key keys.Stop = Stop
word_of_key keys.Eject = Eject
word_of_key keys.Load = Load
word_of_key keys.Menu = Menu
word_of_key keys.Power = Power
word_of_key (keys.Watch to) = Watch
word_of_key (keys.Port port) = Port
word_of_key (keys.Audio on) = Audio
word_of_key (keys.Arc on) = Arc
word_of_key (keys.Volume Up) = VolumeUp
word_of_key (keys.Volume Down) = VolumeDown
word_of_key (keys.Volume Muted) = Mute
word_of_key (keys.Language language) = Language
word_of_key (keys.Remote to code) = Remote
