-- The opcodes, one row each, and what a frame says.
use Rattle.std.specs.Prelude.{ℕ, ◌==◌, Bool, true, false, nat_le, if◌then◌else◌, Option, Some, None, List, [], ◌∷◌, ◌++◌, length, slice_index, drop, codes, find, option_map, is_some, is_none, nat_lt, ◌&&◌, not}
use Rattle.message_table.specs.Words.{reason_at, reason_byte, power_at, power_byte, system_audio_at, system_audio_byte, device_type_at, device_type_byte, version_at, version_byte, status_at, status_byte}
use Rattle.message_table.specs.DeckWords.{status_request_at, status_request_byte, deck_info_at, deck_info_byte, play_mode_at, play_mode_byte, deck_control_at, deck_control_byte}
use Rattle.message_table.specs.ScreenWords.{display_at, display_byte, menu_request_at, menu_request_byte, menu_state_at, menu_state_byte}
use Rattle.message_table.specs.ControlWords.{user_control_at, user_control_byte}
use Rattle.message_table.specs.Operands.{size_of, least_of, most_of}
use Rattle.message_table.specs.declared.word_set.WordSet.{WordSet}
use Rattle.message_table.specs.declared.word_set.WordSet.TheVariants.{Reason as ReasonWords, Power as PowerWords, OnOff as OnOffWords, DeviceType as DeviceTypeWords, Version as VersionWords, StatusRequest as StatusRequestWords, DeckInfo as DeckInfoWords, PlayMode as PlayModeWords, DeckControl as DeckControlWords, Display as DisplayWords, MenuRequest as MenuRequestWords, MenuState as MenuStateWords, UserControl as UserControlWords}
use Rattle.message_table.specs.declared.operand.Operand.{Operand}
use Rattle.message_table.specs.declared.operand.Operand.TheVariants.{Byte, Word, Language, Vendor, Address as AddressOperand}
use Rattle.message_table.specs.declared.operand.Operands.{Operands}
use Rattle.message_table.specs.declared.operand.Operands.TheVariants.{Raw as RawOperands, Nothing, One, Optional, Two, Volume, Text, WordAndText}
use Rattle.message_table.specs.declared.words.AudioStatus.{AudioStatus}
use Rattle.message_table.specs.declared.words.Reason.{Reason}
use Rattle.message_table.specs.declared.words.Power.{Power}
use Rattle.message_table.specs.declared.words.SystemAudio.{SystemAudio}
use Rattle.message_table.specs.declared.words.DeviceType.{DeviceType}
use Rattle.message_table.specs.declared.words.Version.{Version}
use Rattle.message_table.specs.declared.deck_words.StatusRequest.{StatusRequest}
use Rattle.message_table.specs.declared.deck_words.DeckInfo.{DeckInfo}
use Rattle.message_table.specs.declared.deck_words.PlayMode.{PlayMode}
use Rattle.message_table.specs.declared.deck_words.DeckControlMode.{DeckControlMode}
use Rattle.message_table.specs.declared.screen_words.Display.{Display}
use Rattle.message_table.specs.declared.screen_words.MenuRequestType.{MenuRequestType}
use Rattle.message_table.specs.declared.screen_words.MenuState.{MenuState}
use Rattle.message_table.specs.declared.user_control.UserControl.{UserControl}
use Rattle.message_table.specs.declared.row.Rule.{Rule}
use Rattle.text_core.specs.declared.phys.Phys.{Phys}
use Rattle.message_table.specs.declared.message.Triple.{Triple}
use Rattle.message_table.specs.declared.message.Message.{Message}
use Rattle.message_table.specs.declared.message.Message.TheVariants.{FeatureAbort, ImageViewOn, TextViewOn, GiveDeckStatus, DeckStatus, SetMenuLanguage, Standby, Play, DeckControl, UserControlPressed, UserControlReleased, GiveOsdName, SetOsdName, SetOsdString, SystemAudioModeRequest, GiveAudioStatus, SetSystemAudioMode, ReportAudioStatus, GiveSystemAudioModeStatus, SystemAudioModeStatus, RoutingChange, RoutingInformation, ActiveSource, GivePhysicalAddress, ReportPhysicalAddress, RequestActiveSource, SetStreamPath, DeviceVendorId, GiveDeviceVendorId, MenuRequest, MenuStatus, GiveDevicePowerStatus, ReportPowerStatus, GetMenuLanguage, InactiveSource, CecVersion, GetCecVersion, InitiateArc, ReportArcInitiated, ReportArcTerminated, RequestArcInitiation, RequestArcTermination, TerminateArc, Abort, Raw, Unknown}
use Rattle.message_table.specs.declared.message.Decoded.{Decoded}
use Rattle.message_table.specs.declared.message.Decoded.TheVariants.{Poll, Known, Short, Unknown as NoName}
use Rattle.message_table.specs.declared.encoding.EncodeError.{EncodeError}
use Rattle.message_table.specs.declared.encoding.EncodeError.TheVariants.{Operand as BadOperand, Addressing as BadAddressing, TooLong}

-- the ways in which a message may come: directly addressed to one device, broadcast, or both (own)
pub record Addressing : Type 0 where
  pub is_direct : Bool
  pub is_broadcast : Bool

abbrev pub direct : Addressing
direct = record { is_direct = true; is_broadcast = false }

abbrev pub broadcast : Addressing
broadcast = record { is_direct = false; is_broadcast = true }

abbrev pub both : Addressing
both = record { is_direct = true; is_broadcast = true }

-- A kind of operand: how it is written, and what its bytes mean.
pub record Kind (T : Type 0) : Type 0 where
  pub operand : Operand
  pub meaning_of : List ℕ → T

abbrev pub kind : {T : Type 0} → Operand → (List ℕ → T) → Kind T
kind operand meaning_of = record { operand = operand; meaning_of = meaning_of }

-- a byte of a set of words
abbrev pub word_kind : {T : Type 0} → WordSet → (ℕ → T) → Kind T
word_kind set at = kind (Word set) (λ xs. at (slice_index xs 0))

abbrev pub byte : Kind ℕ
byte = kind Byte (λ xs. slice_index xs 0)

abbrev pub address : Kind Phys
address = kind AddressOperand (λ xs. record { high = slice_index xs 0; low = slice_index xs 1 })

abbrev pub triple_at : List ℕ → Triple
triple_at xs = record { first = slice_index xs 0; second = slice_index xs 1; third = slice_index xs 2 }

abbrev pub language : Kind Triple
language = kind Language triple_at

abbrev pub vendor : Kind Triple
vendor = kind Vendor triple_at

abbrev pub reason : Kind Reason
reason = word_kind ReasonWords reason_at

abbrev pub power : Kind Power
power = word_kind PowerWords power_at

abbrev pub system_audio : Kind SystemAudio
system_audio = word_kind OnOffWords system_audio_at

abbrev pub device_type : Kind DeviceType
device_type = word_kind DeviceTypeWords device_type_at

abbrev pub version : Kind Version
version = word_kind VersionWords version_at

abbrev pub status_request : Kind StatusRequest
status_request = word_kind StatusRequestWords status_request_at

abbrev pub deck_info : Kind DeckInfo
deck_info = word_kind DeckInfoWords deck_info_at

abbrev pub play_mode : Kind PlayMode
play_mode = word_kind PlayModeWords play_mode_at

abbrev pub deck_control : Kind DeckControlMode
deck_control = word_kind DeckControlWords deck_control_at

abbrev pub display : Kind Display
display = word_kind DisplayWords display_at

abbrev pub menu_request : Kind MenuRequestType
menu_request = word_kind MenuRequestWords menu_request_at

abbrev pub menu_state : Kind MenuState
menu_state = word_kind MenuStateWords menu_state_at

abbrev pub user_control : Kind UserControl
user_control = word_kind UserControlWords user_control_at

-- An opcode, its name, its addressing, how its operands are written, and what they say, if there are enough.
pub record Row : Type 0 where
  pub code : ℕ
  pub name : List ℕ
  pub to : Addressing
  pub operands : Operands
  pub read : List ℕ → Option Message

abbrev pub row : ℕ → List ℕ → Addressing → Operands → (List ℕ → Option Message) → Row
row code name to operands read = record { code = code; name = name; to = to; operands = operands; read = read }

abbrev pub enough : ℕ → List ℕ → Message → Option Message
enough n xs m = if nat_le n (length xs) then Some m else None

-- a row whose operands say this where there are enough
abbrev pub full : ℕ → List ℕ → Addressing → Operands → (List ℕ → Message) → Row
full code name to operands make = row code name to operands (λ xs. enough (least_of operands) xs (make xs))

abbrev pub none : ℕ → List ℕ → Addressing → Message → Row
none code name to message = row code name to Nothing (λ _. Some message)

abbrev pub row_of_one : {A : Type 0} → ℕ → List ℕ → Addressing → Kind A → (A → Message) → Row
row_of_one code name to a make = full code name to (One a.operand) (λ xs. make (a.meaning_of xs))

abbrev pub two : {A B : Type 0} → ℕ → List ℕ → Addressing → Kind A → Kind B → (A → B → Message) → Row
two code name to a b make =
    full code name to (Two a.operand b.operand) (λ xs. make (a.meaning_of xs) (b.meaning_of (drop (size_of a.operand) xs)))

-- the operand is left out, or whole
abbrev pub none_or : {A : Type 0} → Kind A → (Option A → Message) → List ℕ → Option Message
none_or a make [] = Some (make None)
none_or a make xs = enough (size_of a.operand) xs (make (Some (a.meaning_of xs)))

abbrev pub optional : {A : Type 0} → ℕ → List ℕ → Addressing → Kind A → (Option A → Message) → Row
optional code name to a make = row code name to (Optional a.operand) (none_or a make)

abbrev pub volume : ℕ → List ℕ → Addressing → (AudioStatus → Message) → Row
volume code name to make = full code name to Volume (λ xs. make (status_at (slice_index xs 0)))

abbrev pub row_of_text : ℕ → List ℕ → Addressing → (List ℕ → Message) → Row
row_of_text code name to make = full code name to Text make

abbrev pub set_in : Operand → WordSet
set_in (Word set) = set
set_in _ = DisplayWords

abbrev pub word_and_text : {A : Type 0} → ℕ → List ℕ → Addressing → Kind A → (A → List ℕ → Message) → Row
word_and_text code name to a make = full code name to (WordAndText (set_in a.operand)) (λ xs. make (a.meaning_of xs) (drop 1 xs))

abbrev pub raw : ℕ → List ℕ → Row
raw code name = row code name both RawOperands (λ xs. Some (Raw code (record { items = xs })))

abbrev pub named_rows : List Row
named_rows =
    two 0x00 (codes "feature-abort") direct byte reason FeatureAbort ∷
    none 0x04 (codes "image-view-on") direct ImageViewOn ∷
    none 0x0d (codes "text-view-on") direct TextViewOn ∷
    row_of_one 0x1a (codes "give-deck-status") direct status_request GiveDeckStatus ∷
    row_of_one 0x1b (codes "deck-status") direct deck_info DeckStatus ∷
    row_of_one 0x32 (codes "set-menu-language") broadcast language SetMenuLanguage ∷
    none 0x36 (codes "standby") both Standby ∷
    row_of_one 0x41 (codes "play") direct play_mode Play ∷
    row_of_one 0x42 (codes "deck-control") direct deck_control DeckControl ∷
    row_of_one 0x44 (codes "user-control-pressed") direct user_control UserControlPressed ∷
    none 0x45 (codes "user-control-released") direct UserControlReleased ∷
    none 0x46 (codes "give-osd-name") direct GiveOsdName ∷
    row_of_text 0x47 (codes "set-osd-name") direct (λ xs. SetOsdName (record { items = xs })) ∷
    word_and_text 0x64 (codes "set-osd-string") direct display (λ d xs. SetOsdString d (record { items = xs })) ∷
    optional 0x70 (codes "system-audio-mode-request") direct address SystemAudioModeRequest ∷
    none 0x71 (codes "give-audio-status") direct GiveAudioStatus ∷
    row_of_one 0x72 (codes "set-system-audio-mode") both system_audio SetSystemAudioMode ∷
    volume 0x7a (codes "report-audio-status") direct ReportAudioStatus ∷
    none 0x7d (codes "give-system-audio-mode-status") direct GiveSystemAudioModeStatus ∷
    row_of_one 0x7e (codes "system-audio-mode-status") direct system_audio SystemAudioModeStatus ∷
    two 0x80 (codes "routing-change") broadcast address address RoutingChange ∷
    row_of_one 0x81 (codes "routing-information") broadcast address RoutingInformation ∷
    row_of_one 0x82 (codes "active-source") broadcast address ActiveSource ∷
    none 0x83 (codes "give-physical-address") direct GivePhysicalAddress ∷
    two 0x84 (codes "report-physical-address") broadcast address device_type ReportPhysicalAddress ∷
    none 0x85 (codes "request-active-source") broadcast RequestActiveSource ∷
    row_of_one 0x86 (codes "set-stream-path") broadcast address SetStreamPath ∷
    row_of_one 0x87 (codes "device-vendor-id") broadcast vendor DeviceVendorId ∷
    none 0x8c (codes "give-device-vendor-id") direct GiveDeviceVendorId ∷
    row_of_one 0x8d (codes "menu-request") direct menu_request MenuRequest ∷
    row_of_one 0x8e (codes "menu-status") direct menu_state MenuStatus ∷
    none 0x8f (codes "give-device-power-status") direct GiveDevicePowerStatus ∷
    row_of_one 0x90 (codes "report-power-status") direct power ReportPowerStatus ∷
    none 0x91 (codes "get-menu-language") direct GetMenuLanguage ∷
    row_of_one 0x9d (codes "inactive-source") direct address InactiveSource ∷
    row_of_one 0x9e (codes "cec-version") direct version CecVersion ∷
    none 0x9f (codes "get-cec-version") direct GetCecVersion ∷
    none 0xc0 (codes "initiate-arc") direct InitiateArc ∷
    none 0xc1 (codes "report-arc-initiated") direct ReportArcInitiated ∷
    none 0xc2 (codes "report-arc-terminated") direct ReportArcTerminated ∷
    none 0xc3 (codes "request-arc-initiation") direct RequestArcInitiation ∷
    none 0xc4 (codes "request-arc-termination") direct RequestArcTermination ∷
    none 0xc5 (codes "terminate-arc") direct TerminateArc ∷
    none 0xff (codes "abort") direct Abort ∷
    []

-- opcodes whose operands are kept as they are
abbrev pub raw_rows : List Row
raw_rows =
    raw 0x05 (codes "tuner-step-increment") ∷
    raw 0x06 (codes "tuner-step-decrement") ∷
    raw 0x07 (codes "tuner-device-status") ∷
    raw 0x08 (codes "give-tuner-device-status") ∷
    raw 0x09 (codes "record-on") ∷
    raw 0x0a (codes "record-status") ∷
    raw 0x0b (codes "record-off") ∷
    raw 0x0f (codes "record-tv-screen") ∷
    raw 0x33 (codes "clear-analogue-timer") ∷
    raw 0x34 (codes "set-analogue-timer") ∷
    raw 0x35 (codes "timer-status") ∷
    raw 0x43 (codes "timer-cleared-status") ∷
    raw 0x67 (codes "set-timer-program-title") ∷
    raw 0x89 (codes "vendor-command") ∷
    raw 0x8a (codes "vendor-remote-button-down") ∷
    raw 0x8b (codes "vendor-remote-button-up") ∷
    raw 0x92 (codes "select-analogue-service") ∷
    raw 0x93 (codes "select-digital-service") ∷
    raw 0x97 (codes "set-digital-timer") ∷
    raw 0x99 (codes "clear-digital-timer") ∷
    raw 0x9a (codes "set-audio-rate") ∷
    raw 0xa0 (codes "vendor-command-with-id") ∷
    raw 0xa1 (codes "clear-external-timer") ∷
    raw 0xa2 (codes "set-external-timer") ∷
    []

abbrev pub rows : List Row
rows = named_rows ++ raw_rows

abbrev pub row_of : ℕ → Option Row
row_of code = find (λ r. r.code == code) rows

abbrev pub name_of : ℕ → Option (List ℕ)
name_of code = option_map (λ r. r.name) (row_of code)

abbrev pub operands_in : Option Row → Operands
operands_in None = RawOperands
operands_in (Some r) = r.operands

-- how the operands of an opcode are written
abbrev pub operands_of : ℕ → Operands
operands_of code = operands_in (row_of code)

abbrev pub addressing_in : Option Row → Addressing
addressing_in None = both
addressing_in (Some r) = r.to

abbrev pub addressing_of : ℕ → Bool × Bool
addressing_of code = ((addressing_in (row_of code)).is_direct, (addressing_in (row_of code)).is_broadcast)

abbrev pub rule_by : Addressing → Operands → Rule
rule_by to operands =
    record { least = least_of operands; most = most_of operands; direct = to.is_direct; broadcast = to.is_broadcast }

abbrev pub rule_of : ℕ → Rule
rule_of code = rule_by (addressing_in (row_of code)) (operands_of code)

abbrev pub is_raw_opcode : ℕ → Bool
is_raw_opcode code = is_some (find (λ r. r.code == code) raw_rows)

abbrev pub read_as : ℕ → Option Message → Decoded
read_as code None = Short code
read_as code (Some m) = Known m

abbrev pub decoding : ℕ → List ℕ → Option Row → Decoded
decoding code xs None = NoName code
decoding code xs (Some r) = read_as code (r.read xs)

-- what the bytes of a frame say
abbrev pub decoded_of : List ℕ → Decoded
decoded_of (header ∷ code ∷ operands) = decoding code operands (row_of code)
decoded_of _ = Poll

-- the opcode and operands of each message
abbrev pub spelling : Message → List ℕ
spelling (FeatureAbort opcode reason) = 0x00 ∷ opcode ∷ reason_byte reason ∷ []
spelling ImageViewOn = 0x04 ∷ []
spelling TextViewOn = 0x0d ∷ []
spelling (GiveDeckStatus request) = 0x1a ∷ status_request_byte request ∷ []
spelling (DeckStatus deck) = 0x1b ∷ deck_info_byte deck ∷ []
spelling (SetMenuLanguage language) = 0x32 ∷ language.first ∷ language.second ∷ language.third ∷ []
spelling Standby = 0x36 ∷ []
spelling (Play mode) = 0x41 ∷ play_mode_byte mode ∷ []
spelling (DeckControl control) = 0x42 ∷ deck_control_byte control ∷ []
spelling (UserControlPressed code) = 0x44 ∷ user_control_byte code ∷ []
spelling UserControlReleased = 0x45 ∷ []
spelling GiveOsdName = 0x46 ∷ []
spelling (SetOsdName text) = 0x47 ∷ text.items
spelling (SetOsdString display text) = 0x64 ∷ display_byte display ∷ text.items
spelling (SystemAudioModeRequest None) = 0x70 ∷ []
spelling (SystemAudioModeRequest (Some address)) = 0x70 ∷ address.high ∷ address.low ∷ []
spelling GiveAudioStatus = 0x71 ∷ []
spelling (SetSystemAudioMode audio) = 0x72 ∷ system_audio_byte audio ∷ []
spelling (ReportAudioStatus status) = 0x7a ∷ status_byte status ∷ []
spelling GiveSystemAudioModeStatus = 0x7d ∷ []
spelling (SystemAudioModeStatus audio) = 0x7e ∷ system_audio_byte audio ∷ []
spelling (RoutingChange from to) = 0x80 ∷ from.high ∷ from.low ∷ to.high ∷ to.low ∷ []
spelling (RoutingInformation address) = 0x81 ∷ address.high ∷ address.low ∷ []
spelling (ActiveSource address) = 0x82 ∷ address.high ∷ address.low ∷ []
spelling GivePhysicalAddress = 0x83 ∷ []
spelling (ReportPhysicalAddress address kind) = 0x84 ∷ address.high ∷ address.low ∷ device_type_byte kind ∷ []
spelling RequestActiveSource = 0x85 ∷ []
spelling (SetStreamPath address) = 0x86 ∷ address.high ∷ address.low ∷ []
spelling (DeviceVendorId vendor) = 0x87 ∷ vendor.first ∷ vendor.second ∷ vendor.third ∷ []
spelling GiveDeviceVendorId = 0x8c ∷ []
spelling (MenuRequest request) = 0x8d ∷ menu_request_byte request ∷ []
spelling (MenuStatus menu) = 0x8e ∷ menu_state_byte menu ∷ []
spelling GiveDevicePowerStatus = 0x8f ∷ []
spelling (ReportPowerStatus power) = 0x90 ∷ power_byte power ∷ []
spelling GetMenuLanguage = 0x91 ∷ []
spelling (InactiveSource address) = 0x9d ∷ address.high ∷ address.low ∷ []
spelling (CecVersion version) = 0x9e ∷ version_byte version ∷ []
spelling GetCecVersion = 0x9f ∷ []
spelling InitiateArc = 0xc0 ∷ []
spelling ReportArcInitiated = 0xc1 ∷ []
spelling ReportArcTerminated = 0xc2 ∷ []
spelling RequestArcInitiation = 0xc3 ∷ []
spelling RequestArcTermination = 0xc4 ∷ []
spelling TerminateArc = 0xc5 ∷ []
spelling Abort = 0xff ∷ []
spelling (Raw opcode operands) = opcode ∷ operands.items
spelling (Unknown opcode operands) = opcode ∷ operands.items

-- The message can be sent: its text has a length that the row allows, its opcode is its own.
abbrev pub is_own_message : Message → Bool
is_own_message (SetOsdName text) = nat_le 1 (length text.items) && nat_le (length text.items) 14
is_own_message (SetOsdString _ text) = nat_le (length text.items) 13
is_own_message (Raw opcode _) = is_raw_opcode opcode
is_own_message (Unknown opcode _) = is_none (row_of opcode)
is_own_message _ = true

-- the addressing that a row allows
abbrev pub may_go : Rule → ℕ → Bool
may_go rule to = if to == 15 then rule.broadcast else rule.direct

abbrev pub opcode_of : Message → ℕ
opcode_of m = slice_index (spelling m) 0

-- why a message is not sent, the first reason
abbrev pub refusal : Message → ℕ → Option EncodeError
refusal m to =
    if not (is_own_message m) then Some BadOperand else (
    if not (may_go (rule_of (opcode_of m)) to) then Some BadAddressing else (
    if nat_lt 15 (length (spelling m)) then Some TooLong else None))

-- what its frame says
abbrev pub meaning : Message → Decoded
meaning (Unknown opcode _) = NoName opcode
meaning m = Known m
