-- Words of the standard that the texts of frames leave as bytes (HDMI 1.4, CEC 17: operand descriptions; HDMI 2.0, CEC 11).
-- The spelling is own.
use Rattle.std.specs.Prelude.{ℕ, ◌==◌, if◌then◌else◌, List, [], ◌∷◌, codes, slice_get, Option, Some, None, option_and_then}
use Rattle.message_table.specs.WordSets.{NamedByte, word, word_of}

-- opcodes of CEC 2.0, and of CDC
abbrev pub more_names : List NamedByte
more_names =
    word 0xa5 (codes "give-features") ∷
    word 0xa6 (codes "report-features") ∷
    word 0xa7 (codes "request-current-latency") ∷
    word 0xa8 (codes "report-current-latency") ∷
    word 0xf8 (codes "cdc-message") ∷
    []

-- Feature Abort, its second operand: [Abort Reason]
abbrev pub abort_reasons : List NamedByte
abort_reasons =
    word 0x05 (codes "undetermined") ∷
    []

-- Report Physical Address, its third operand: [Device Type]
abbrev pub device_types : List NamedByte
device_types =
    word 0x07 (codes "video-processor") ∷
    []

-- Report Power Status: [Power Status]
abbrev pub powers : List NamedByte
powers =
    word 0x02 (codes "standby-to-on") ∷
    word 0x03 (codes "on-to-standby") ∷
    []

-- CEC Version: [CEC Version]
abbrev pub versions : List NamedByte
versions =
    word 0x04 (codes "1.3a") ∷
    word 0x06 (codes "2.0") ∷
    []

-- Deck Status: [Deck Info]
abbrev pub deck_states : List NamedByte
deck_states =
    word 0x12 (codes "record") ∷
    word 0x13 (codes "play-reverse") ∷
    word 0x15 (codes "slow") ∷
    word 0x16 (codes "slow-reverse") ∷
    word 0x1d (codes "index-search-forward") ∷
    word 0x1e (codes "index-search-reverse") ∷
    word 0x1f (codes "other") ∷
    []

-- Play: [Play Mode]
abbrev pub play_modes : List NamedByte
play_modes =
    word 0x20 (codes "reverse") ∷
    word 0x15 (codes "slow-forward-min") ∷
    word 0x16 (codes "slow-forward-mid") ∷
    word 0x17 (codes "slow-forward-max") ∷
    word 0x19 (codes "slow-reverse-min") ∷
    word 0x1a (codes "slow-reverse-mid") ∷
    word 0x1b (codes "slow-reverse-max") ∷
    []

-- Give Tuner Device Status: [Status Request]
abbrev pub tuner_requests : List NamedByte
tuner_requests =
    word 0x01 (codes "on") ∷
    word 0x02 (codes "off") ∷
    word 0x03 (codes "once") ∷
    []

-- Record On: [Record Source Type]
abbrev pub record_sources : List NamedByte
record_sources =
    word 0x01 (codes "own-source") ∷
    word 0x02 (codes "digital-service") ∷
    word 0x03 (codes "analogue-service") ∷
    word 0x04 (codes "external-plug") ∷
    word 0x05 (codes "external-physical-address") ∷
    []

-- Record Status: [Record Status Info]
abbrev pub record_states : List NamedByte
record_states =
    word 0x01 (codes "recording-current-source") ∷
    word 0x02 (codes "recording-digital-service") ∷
    word 0x03 (codes "recording-analogue-service") ∷
    word 0x04 (codes "recording-external-input") ∷
    word 0x05 (codes "no-digital-service") ∷
    word 0x06 (codes "no-analogue-service") ∷
    word 0x07 (codes "no-such-service") ∷
    word 0x09 (codes "invalid-external-plug") ∷
    word 0x0a (codes "invalid-external-address") ∷
    word 0x0b (codes "ca-system-not-supported") ∷
    word 0x0c (codes "no-ca-entitlements") ∷
    word 0x0d (codes "copy-not-allowed") ∷
    word 0x0e (codes "no-further-copies") ∷
    word 0x10 (codes "no-media") ∷
    word 0x11 (codes "playing") ∷
    word 0x12 (codes "already-recording") ∷
    word 0x13 (codes "media-protected") ∷
    word 0x14 (codes "no-source-signal") ∷
    word 0x15 (codes "media-problem") ∷
    word 0x16 (codes "no-space") ∷
    word 0x17 (codes "parental-lock") ∷
    word 0x1a (codes "terminated-normally") ∷
    word 0x1b (codes "already-terminated") ∷
    word 0x1f (codes "no-recording") ∷
    []

-- Timer Cleared Status: [Timer Cleared Status Data]
abbrev pub timer_cleared : List NamedByte
timer_cleared =
    word 0x00 (codes "not-cleared-recording") ∷
    word 0x01 (codes "not-cleared-no-match") ∷
    word 0x02 (codes "not-cleared-no-information") ∷
    word 0x80 (codes "cleared") ∷
    []

-- Set Audio Rate: [Audio Rate]
abbrev pub audio_rates : List NamedByte
audio_rates =
    word 0x00 (codes "rate-control-off") ∷
    word 0x01 (codes "wide-standard") ∷
    word 0x02 (codes "wide-fast") ∷
    word 0x03 (codes "wide-slow") ∷
    word 0x04 (codes "narrow-standard") ∷
    word 0x05 (codes "narrow-fast") ∷
    word 0x06 (codes "narrow-slow") ∷
    []

-- User Control Pressed: [UI Command]
abbrev pub user_controls : List NamedByte
user_controls =
    word 0x05 (codes "right-up") ∷
    word 0x06 (codes "right-down") ∷
    word 0x07 (codes "left-up") ∷
    word 0x08 (codes "left-down") ∷
    word 0x0a (codes "setup-menu") ∷
    word 0x0b (codes "contents-menu") ∷
    word 0x0c (codes "favorite-menu") ∷
    word 0x10 (codes "media-top-menu") ∷
    word 0x11 (codes "media-context-sensitive-menu") ∷
    word 0x1d (codes "number-entry-mode") ∷
    word 0x1e (codes "number-11") ∷
    word 0x1f (codes "number-12") ∷
    word 0x2a (codes "dot") ∷
    word 0x2b (codes "enter") ∷
    word 0x2c (codes "clear") ∷
    word 0x2f (codes "next-favorite") ∷
    word 0x30 (codes "channel-up") ∷
    word 0x31 (codes "channel-down") ∷
    word 0x32 (codes "previous-channel") ∷
    word 0x33 (codes "sound-select") ∷
    word 0x34 (codes "input-select") ∷
    word 0x35 (codes "display-information") ∷
    word 0x36 (codes "help") ∷
    word 0x37 (codes "page-up") ∷
    word 0x38 (codes "page-down") ∷
    word 0x47 (codes "record") ∷
    word 0x48 (codes "rewind") ∷
    word 0x49 (codes "fast-forward") ∷
    word 0x4a (codes "eject") ∷
    word 0x4b (codes "skip-forward") ∷
    word 0x4c (codes "skip-backward") ∷
    word 0x4d (codes "stop-record") ∷
    word 0x4e (codes "pause-record") ∷
    word 0x50 (codes "angle") ∷
    word 0x51 (codes "sub-picture") ∷
    word 0x52 (codes "video-on-demand") ∷
    word 0x53 (codes "electronic-program-guide") ∷
    word 0x54 (codes "timer-programming") ∷
    word 0x55 (codes "initial-configuration") ∷
    word 0x56 (codes "select-broadcast-type") ∷
    word 0x57 (codes "select-sound-presentation") ∷
    word 0x58 (codes "audio-description") ∷
    word 0x59 (codes "internet") ∷
    word 0x5a (codes "3d-mode") ∷
    word 0x60 (codes "play-function") ∷
    word 0x61 (codes "pause-play-function") ∷
    word 0x62 (codes "record-function") ∷
    word 0x63 (codes "pause-record-function") ∷
    word 0x64 (codes "stop-function") ∷
    word 0x65 (codes "mute-function") ∷
    word 0x66 (codes "restore-volume-function") ∷
    word 0x67 (codes "tune-function") ∷
    word 0x68 (codes "select-media-function") ∷
    word 0x69 (codes "select-av-input-function") ∷
    word 0x6a (codes "select-audio-input-function") ∷
    word 0x6b (codes "power-toggle-function") ∷
    word 0x71 (codes "f1-blue") ∷
    word 0x72 (codes "f2-red") ∷
    word 0x73 (codes "f3-green") ∷
    word 0x74 (codes "f4-yellow") ∷
    word 0x75 (codes "f5") ∷
    word 0x76 (codes "data") ∷
    []

-- which operand byte of an opcode has words here, counted from 0
abbrev pub place_of : ℕ → ℕ
place_of code = if code == 0x00 then 1 else (if code == 0x84 then 2 else 0)

-- the words of that byte
abbrev pub more_words : ℕ → List NamedByte
more_words code =
    if code == 0x00 then abort_reasons else (
    if code == 0x08 then tuner_requests else (
    if code == 0x09 then record_sources else (
    if code == 0x0a then record_states else (
    if code == 0x1b then deck_states else (
    if code == 0x41 then play_modes else (
    if code == 0x43 then timer_cleared else (
    if code == 0x44 then user_controls else (
    if code == 0x84 then device_types else (
    if code == 0x90 then powers else (
    if code == 0x9a then audio_rates else (
    if code == 0x9e then versions else (
    []))))))))))))

abbrev pub first_of : Option (List ℕ) → Option (List ℕ) → Option (List ℕ)
first_of None other = other
first_of (Some text) other = Some text

abbrev pub operand_remark : ℕ → List ℕ → Option (List ℕ)
operand_remark code operands = option_and_then (λ byte. word_of (more_words code) byte) (slice_get operands (place_of code))

-- what the standard calls an opcode or an operand that the text of a frame leaves as bytes
abbrev pub remark : List ℕ → Option (List ℕ)
remark [] = None
remark (header ∷ []) = None
remark (header ∷ code ∷ operands) = first_of (word_of more_names code) (operand_remark code operands)
