-- Words of keys (own): one word, or a word and what it takes.
use Rattle.std.specs.Prelude.{ℕ, ◌==◌, nat_lt, Bool, true, false, ◌&&◌, if◌then◌else◌, codes, List, [], ◌∷◌, length, min, slice_index, find, option_map, Option, Some, None, Result, Ok, Err}
use Rattle.std.specs.List.{list_all}
use Rattle.std.specs.Str.{bytes_eq}
use Rattle.std.specs.Char.{is_ascii_lowercase}
use Rattle.message_table.specs.ControlWords.{user_control_at}
use Rattle.message_table.specs.declared.message.Triple.{Triple}
use Rattle.message_table.specs.declared.user_control.UserControl.{UserControl}
use Rattle.message_table.specs.WordSets.{words_of, NamedByte as OperandWord}
use Rattle.message_table.specs.declared.word_set.WordSet.TheVariants as sets
use Rattle.device_features.specs.declared.keys.Key.{Key}
use Rattle.device_features.specs.declared.keys.Key.TheVariants as keys
use Rattle.device_features.specs.declared.keys.VolumeKey.TheVariants.{Up, Down, Mute}
use Rattle.device_features.specs.declared.key_word.KeyWord.{KeyWord}
use Rattle.device_features.specs.declared.key_word.KeyWord.TheVariants as key_words
use Rattle.text_core.specs.Phys.{digit_value, is_hex_digit, phys_of}
use Rattle.text_core.specs.At.{at_word}
use Rattle.text_forms.specs.Forms.{Meaning, level_at, port_at, text_at}
use Rattle.text_core.specs.declared.at.AtWord.{AtWord}
use Rattle.room_script.specs.declared.script.ScriptCause.{ScriptCause}
use Rattle.room_script.specs.declared.script.ScriptCause.TheVariants.{Word}

-- three letters
abbrev pub language_of : List ℕ → Option Triple
language_of word =
    if (length word == 3) && list_all is_ascii_lowercase word
    then Some (record { first = slice_index word 0; second = slice_index word 1; third = slice_index word 2 })
    else None

-- a logical address of another device than the television: 1 to e
abbrev pub is_destination : List ℕ → Bool
is_destination word = (length word == 1) && is_hex_digit (slice_index word 0) && nat_lt 48 (slice_index word 0) && nat_lt (slice_index word 0) 102

abbrev pub destination_of : List ℕ → Option ℕ
destination_of word = if is_destination word then Some (digit_value (slice_index word 0)) else None

-- the byte that a word stands for, in a set of words
abbrev pub byte_in : List OperandWord → List ℕ → Option ℕ
byte_in words word = option_map (λ w. w.code) (find (λ w. bytes_eq w.text word) words)

-- the user control code of a word (CEC table 27)
unfoldable pub code_of : List ℕ → Option ℕ
code_of word = byte_in (words_of sets.UserControl) word

abbrev pub control_of : List ℕ → Option UserControl
control_of word = option_map user_control_at (code_of word)

-- a value is a key's, or none's
abbrev pub key_or_cause : Option Key → Result Key (AtWord ScriptCause)
key_or_cause None = Err (at_word 5 Word)
key_or_cause (Some key) = Ok key

-- `remote D CODE`
abbrev pub remote_by : Option ℕ → Option UserControl → Result Key (AtWord ScriptCause)
remote_by None code = Err (at_word 5 Word)
remote_by (Some to) None = Err (at_word 6 Word)
remote_by (Some to) (Some code) = Ok (keys.Remote to code)

-- the key that the values of its form say
abbrev pub key_said : KeyWord → List Meaning → Result Key (AtWord ScriptCause)
key_said key_words.Play values = Ok keys.Play
key_said key_words.Stop values = Ok keys.Stop
key_said key_words.Eject values = Ok keys.Eject
key_said key_words.Load values = Ok keys.Load
key_said key_words.Menu values = Ok keys.Menu
key_said key_words.Power values = Ok keys.Power
key_said key_words.VolumeUp values = Ok (keys.Volume Up)
key_said key_words.VolumeDown values = Ok (keys.Volume Down)
key_said key_words.Mute values = Ok (keys.Volume Mute)
key_said key_words.Port values = Ok (keys.Port (port_at values 5))
key_said key_words.Watch values = key_or_cause (option_map keys.Watch (phys_of (text_at values 5)))
key_said key_words.Language values = key_or_cause (option_map keys.Language (language_of (text_at values 5)))
key_said key_words.Audio values = Ok (keys.Audio (level_at values 5))
key_said key_words.Arc values = Ok (keys.Arc (level_at values 5))
key_said key_words.Remote values = remote_by (destination_of (text_at values 5)) (control_of (text_at values 6))
