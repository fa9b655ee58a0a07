-- What each operand byte means, and the byte of each word.
use Rattle.std.specs.Prelude.{ℕ, ◌==◌, true, false, IsTrue, if◌then◌else◌, ◌+◌, ◌%◌, nat_le, List, refl, [], ◌∷◌}
use Rattle.message_table.specs.WordSets.{is_unlisted}
use Rattle.message_table.specs.declared.word_set.WordSet.{WordSet}
use Rattle.message_table.specs.declared.word_set.WordSet.TheVariants.{Reason as ReasonWords, Power as PowerWords, OnOff as OnOffWords, DeviceType as DeviceTypeWords, Version as VersionWords}
use Rattle.message_table.specs.declared.words.Reason.{Reason}
use Rattle.message_table.specs.declared.words.Reason.TheVariants.{Unrecognized, WrongMode, NoSource, InvalidOperand, Refused, Other}
use Rattle.message_table.specs.declared.words.Power.{Power}
use Rattle.message_table.specs.declared.words.Power.TheVariants.{On, Standby, Other as OtherOfPower}
use Rattle.message_table.specs.declared.words.SystemAudio.{SystemAudio}
use Rattle.message_table.specs.declared.words.SystemAudio.TheVariants.{Off, On as OnOfSystemAudio, Other as OtherOfSystemAudio}
use Rattle.message_table.specs.declared.words.DeviceType.{DeviceType}
use Rattle.message_table.specs.declared.words.DeviceType.TheVariants.{Tv, Recorder, Tuner, Playback, Audio, Switch, Other as OtherOfDeviceType}
use Rattle.message_table.specs.declared.words.Version.{Version}
use Rattle.message_table.specs.declared.words.Version.TheVariants.{OnePointFour, Other as OtherOfVersion}
use Rattle.std.proofs.Common.{lit<}
use Rattle.std.proofs.Math.Nat.{mod-lt}
use Rattle.message_table.specs.declared.words.AudioStatus.{AudioStatus}

-- other where a byte has no word in the set, and else its word
abbrev pub known_or : {W : Type 0} (set : WordSet) (byte : ℕ) → (IsTrue (is_unlisted set byte) → W) → W → W
known_or {W} set byte other word =
    elim (is_unlisted set byte) as (λ t. (IsTrue t → W) → W) [ true ↦ λ f. f refl | false ↦ λ _. word ] other

-- the word of this byte, and the first where none has it
abbrev pub with_byte : {W : Type 0} → (W → ℕ) → ℕ → W → List W → W
with_byte byte_of byte first [] = first
with_byte byte_of byte first (word ∷ words) = if byte_of word == byte then word else with_byte byte_of byte first words

abbrev pub reason_byte : Reason → ℕ
reason_byte Unrecognized = 0
reason_byte WrongMode = 1
reason_byte NoSource = 2
reason_byte InvalidOperand = 3
reason_byte Refused = 4
reason_byte (Other other) = other.byte

abbrev pub reason_at : ℕ → Reason
reason_at byte = known_or ReasonWords byte (λ h. Other (record { byte = byte; unlisted = h }))
    (with_byte reason_byte byte Unrecognized (WrongMode ∷ NoSource ∷ InvalidOperand ∷ Refused ∷ []))

abbrev pub power_byte : Power → ℕ
power_byte On = 0
power_byte Standby = 1
power_byte (OtherOfPower other) = other.byte

abbrev pub power_at : ℕ → Power
power_at byte = known_or PowerWords byte (λ h. OtherOfPower (record { byte = byte; unlisted = h }))
    (with_byte power_byte byte On (Standby ∷ []))

abbrev pub system_audio_byte : SystemAudio → ℕ
system_audio_byte Off = 0
system_audio_byte OnOfSystemAudio = 1
system_audio_byte (OtherOfSystemAudio other) = other.byte

abbrev pub system_audio_at : ℕ → SystemAudio
system_audio_at byte = known_or OnOffWords byte (λ h. OtherOfSystemAudio (record { byte = byte; unlisted = h }))
    (with_byte system_audio_byte byte Off (OnOfSystemAudio ∷ []))

abbrev pub device_type_byte : DeviceType → ℕ
device_type_byte Tv = 0
device_type_byte Recorder = 1
device_type_byte Tuner = 3
device_type_byte Playback = 4
device_type_byte Audio = 5
device_type_byte Switch = 6
device_type_byte (OtherOfDeviceType other) = other.byte

abbrev pub device_type_at : ℕ → DeviceType
device_type_at byte = known_or DeviceTypeWords byte (λ h. OtherOfDeviceType (record { byte = byte; unlisted = h }))
    (with_byte device_type_byte byte Tv (Recorder ∷ Tuner ∷ Playback ∷ Audio ∷ Switch ∷ []))

abbrev pub version_byte : Version → ℕ
version_byte OnePointFour = 0x05
version_byte (OtherOfVersion other) = other.byte

abbrev pub version_at : ℕ → Version
version_at byte = known_or VersionWords byte (λ h. OtherOfVersion (record { byte = byte; unlisted = h }))
    (with_byte version_byte byte OnePointFour ([]))

abbrev pub status_at : ℕ → AudioStatus
status_at byte = record { muted = nat_le 128 byte; volume = byte % 128; in_range = mod-lt byte (lit< tt) }

abbrev pub status_byte : AudioStatus → ℕ
status_byte s = if s.muted then s.volume + 128 else s.volume
