-- Operands of a deck that are words of a set: what each byte means, and the byte of each word.
use Rattle.std.specs.Prelude.{ℕ, [], ◌∷◌}
use Rattle.message_table.specs.declared.word_set.WordSet.TheVariants.{StatusRequest as StatusRequestWords, DeckInfo as DeckInfoWords, PlayMode as PlayModeWords, DeckControl as DeckControlWords}
use Rattle.message_table.specs.Words.{known_or, with_byte}
use Rattle.message_table.specs.declared.deck_words.StatusRequest.{StatusRequest}
use Rattle.message_table.specs.declared.deck_words.StatusRequest.TheVariants.{On, Off, Once, Other}
use Rattle.message_table.specs.declared.deck_words.DeckInfo.{DeckInfo}
use Rattle.message_table.specs.declared.deck_words.DeckInfo.TheVariants.{Play, Still, FastForward, FastReverse, NoMedia, Stop, SkipForward, SkipReverse, Other as OtherOfDeckInfo}
use Rattle.message_table.specs.declared.deck_words.PlayMode.{PlayMode}
use Rattle.message_table.specs.declared.deck_words.PlayMode.TheVariants.{Forward, Still as StillOfPlayMode, FastForwardMin, FastForwardMid, FastForwardMax, FastReverseMin, FastReverseMid, FastReverseMax, Other as OtherOfPlayMode}
use Rattle.message_table.specs.declared.deck_words.DeckControlMode.{DeckControlMode}
use Rattle.message_table.specs.declared.deck_words.DeckControlMode.TheVariants.{SkipForward as SkipForwardOfDeckControlMode, SkipReverse as SkipReverseOfDeckControlMode, Stop as StopOfDeckControlMode, Eject, Other as OtherOfDeckControlMode}

abbrev pub status_request_byte : StatusRequest → ℕ
status_request_byte On = 1
status_request_byte Off = 2
status_request_byte Once = 3
status_request_byte (Other other) = other.byte

abbrev pub status_request_at : ℕ → StatusRequest
status_request_at byte = known_or StatusRequestWords byte (λ h. Other (record { byte = byte; unlisted = h }))
    (with_byte status_request_byte byte On (Off ∷ Once ∷ []))

abbrev pub deck_info_byte : DeckInfo → ℕ
deck_info_byte Play = 0x11
deck_info_byte Still = 0x14
deck_info_byte FastForward = 0x17
deck_info_byte FastReverse = 0x18
deck_info_byte NoMedia = 0x19
deck_info_byte Stop = 0x1a
deck_info_byte SkipForward = 0x1b
deck_info_byte SkipReverse = 0x1c
deck_info_byte (OtherOfDeckInfo other) = other.byte

abbrev pub deck_info_at : ℕ → DeckInfo
deck_info_at byte = known_or DeckInfoWords byte (λ h. OtherOfDeckInfo (record { byte = byte; unlisted = h }))
    (with_byte deck_info_byte byte Play (Still ∷ FastForward ∷ FastReverse ∷ NoMedia ∷ Stop ∷ SkipForward ∷ SkipReverse ∷ []))

abbrev pub play_mode_byte : PlayMode → ℕ
play_mode_byte Forward = 0x24
play_mode_byte StillOfPlayMode = 0x25
play_mode_byte FastForwardMin = 0x05
play_mode_byte FastForwardMid = 0x06
play_mode_byte FastForwardMax = 0x07
play_mode_byte FastReverseMin = 0x09
play_mode_byte FastReverseMid = 0x0a
play_mode_byte FastReverseMax = 0x0b
play_mode_byte (OtherOfPlayMode other) = other.byte

abbrev pub play_mode_at : ℕ → PlayMode
play_mode_at byte = known_or PlayModeWords byte (λ h. OtherOfPlayMode (record { byte = byte; unlisted = h }))
    (with_byte play_mode_byte byte Forward (StillOfPlayMode ∷ FastForwardMin ∷ FastForwardMid ∷ FastForwardMax ∷ FastReverseMin ∷ FastReverseMid ∷ FastReverseMax ∷ []))

abbrev pub deck_control_byte : DeckControlMode → ℕ
deck_control_byte SkipForwardOfDeckControlMode = 1
deck_control_byte SkipReverseOfDeckControlMode = 2
deck_control_byte StopOfDeckControlMode = 3
deck_control_byte Eject = 4
deck_control_byte (OtherOfDeckControlMode other) = other.byte

abbrev pub deck_control_at : ℕ → DeckControlMode
deck_control_at byte = known_or DeckControlWords byte (λ h. OtherOfDeckControlMode (record { byte = byte; unlisted = h }))
    (with_byte deck_control_byte byte SkipForwardOfDeckControlMode (SkipReverseOfDeckControlMode ∷ StopOfDeckControlMode ∷ Eject ∷ []))
