-- The opcode table: what each message does to a device that follows it. The messages are those of CEC 13 and
-- CEC 17, and a kind that a line does not name refuses the message (CEC 12.3). Which kinds a line names, and what
-- it does where the standard leaves that open, are this profile's own.
use Rattle.std.specs.Prelude.{ℕ, ◌==◌, ◌+◌, ◌-◌, ◌%◌, ◌/◌, Bool, true, false, not, ◌&&◌, ◌||◌, nat_lt, nat_le, List, [], ◌∷◌, length, if◌then◌else◌, Option, Some, None}
use Rattle.message_table.specs.declared.message.Message.{Message}
use Rattle.message_table.specs.declared.message.Message.TheVariants.{FeatureAbort, ImageViewOn, TextViewOn, GiveDeckStatus, DeckStatus, Standby, Play, DeckControl, UserControlPressed, UserControlReleased, GiveOsdName, SystemAudioModeRequest, GiveAudioStatus, RoutingChange, ActiveSource, GivePhysicalAddress, ReportPhysicalAddress, SetStreamPath, MenuRequest, InactiveSource, RequestArcInitiation, SetMenuLanguage, SetOsdName, SetOsdString, SetSystemAudioMode, ReportAudioStatus, GiveSystemAudioModeStatus, SystemAudioModeStatus, RoutingInformation, RequestActiveSource, DeviceVendorId, GiveDeviceVendorId, MenuStatus, GiveDevicePowerStatus, ReportPowerStatus, GetMenuLanguage, CecVersion, GetCecVersion, InitiateArc, ReportArcInitiated, ReportArcTerminated, RequestArcTermination, TerminateArc}
use Rattle.message_table.specs.ControlWords.{user_control_byte}
use Rattle.message_table.specs.DeckWords.{deck_info_byte}
use Rattle.message_table.specs.declared.words.Reason.{Reason}
use Rattle.message_table.specs.declared.words.Reason.TheVariants.{Unrecognized, WrongMode, InvalidOperand, Refused}
use Rattle.message_table.specs.declared.deck_words.DeckInfo.{DeckInfo}
use Rattle.message_table.specs.declared.deck_words.DeckInfo.TheVariants.{Play as Playing, Still as Paused, FastForward, FastReverse, NoMedia, Stop as Stopped, SkipForward as SkippingForward, SkipReverse as SkippingReverse}
use Rattle.message_table.specs.declared.deck_words.StatusRequest.{StatusRequest}
use Rattle.message_table.specs.declared.deck_words.StatusRequest.TheVariants.{On, Off, Once, Other as OtherRequest}
use Rattle.message_table.specs.declared.deck_words.PlayMode.{PlayMode}
use Rattle.message_table.specs.declared.deck_words.PlayMode.TheVariants.{Forward, Still, FastForwardMin, FastForwardMid, FastForwardMax, FastReverseMin, FastReverseMid, FastReverseMax, Other as OtherMode}
use Rattle.message_table.specs.declared.deck_words.DeckControlMode.{DeckControlMode}
use Rattle.message_table.specs.declared.deck_words.DeckControlMode.TheVariants.{SkipForward, SkipReverse, Stop, Eject, Other as OtherControl}
use Rattle.message_table.specs.declared.screen_words.Display.{Display}
use Rattle.message_table.specs.declared.screen_words.Display.TheVariants.{Default, Hold, Clear, Other as OtherDisplay}
use Rattle.message_table.specs.declared.screen_words.MenuRequestType.{MenuRequestType}
use Rattle.message_table.specs.declared.screen_words.MenuRequestType.TheVariants.{Activate, Deactivate, Query, Other as OtherMenu}
use Rattle.message_table.specs.declared.words.SystemAudio.{SystemAudio}
use Rattle.message_table.specs.declared.words.SystemAudio.TheVariants.{Off as AudioOff, On as AudioOn, Other as OtherAudio}
use Rattle.message_table.specs.declared.user_control.UserControl.{UserControl}
use Rattle.message_table.specs.declared.user_control.UserControl.TheVariants.{RootMenu, Exit, Power, VolumeUp, VolumeDown, Mute, Play as PlayKey, Stop as StopKey, Pause, PowerOff, PowerOn}
use Rattle.arrayvec.specs.declared.ArrayVec.{ArrayVec}
use Rattle.text_core.specs.declared.kind.Kind.{Kind}
use Rattle.text_core.specs.declared.phys.Phys.{Phys}
use Rattle.device_features.specs.declared.record.Record.{Record}
use Rattle.device_features.specs.declared.record.Heard.{Heard}
use Rattle.device_features.specs.declared.say.Say.{Say}
use Rattle.device_features.specs.declared.say.Say.TheVariants.{Reply, Cast, Report, Refuse}
use Rattle.device_features.specs.Kinds.{is_tv, is_amp, is_deck, is_switch, type_of, same_phys, is_nowhere}
use Rattle.device_features.specs.Volume.{louder}
use Rattle.device_features.specs.Ways.{port_towards, below}
use Rattle.device_features.specs.Effect.{Effect, does}

-- ---- words of the table

abbrev pub refuses : Record → Reason → Effect
refuses r reason = does r (Refuse reason ∷ [])

-- a kind that the line does not name refuses
abbrev pub only : Bool → Record → Effect → Effect
only named r e = if named then e else refuses r Unrecognized

-- a report is kept, with its first operand
abbrev pub hears : Heard → Record → Effect
hears h r = does (record r { heard = Some (record { from = h.from; opcode = h.opcode; first = h.first }) }) []

-- Deck Status, to who asked for it
abbrev pub to_sub : Option ℕ → DeckInfo → List Say
to_sub None deck = []
to_sub (Some sub) deck = Report sub (0x1b ∷ deck_info_byte deck ∷ []) ∷ []

-- the same where the deck changes
abbrev pub notice : Record → DeckInfo → List Say
notice r deck = if deck_info_byte r.deck == deck_info_byte deck then [] else to_sub r.sub deck

-- a deck without a medium
abbrev pub is_no_media : DeckInfo → Bool
is_no_media NoMedia = true
is_no_media _ = false

abbrev pub deck_change : Record → DeckInfo → Effect
deck_change r deck = does (record r { deck = deck }) (notice r deck)

-- Standby (CEC 13.3): what is held down and who asked for the deck's status are forgotten, and a deck with a medium stops
-- (own)
abbrev pub standby : Record → Record
standby r = record r { power = false; menu = false; held = None; sub = None; deck = if is_no_media r.deck then r.deck else Stopped }

-- Audio Status: bit 7 is set while it is mute
abbrev pub volume_status : Record → ℕ
volume_status r = if r.mute then r.volume + 128 else r.volume

-- the state of the deck that a play mode asks for
abbrev pub mode_deck : PlayMode → Option DeckInfo
mode_deck Forward = Some Playing
mode_deck Still = Some Paused
mode_deck FastForwardMin = Some FastForward
mode_deck FastForwardMid = Some FastForward
mode_deck FastForwardMax = Some FastForward
mode_deck FastReverseMin = Some FastReverse
mode_deck FastReverseMid = Some FastReverse
mode_deck FastReverseMax = Some FastReverse
mode_deck (OtherMode other) = None

-- Deck Control (CEC 13.7): Play with a listed mode, or none
abbrev pub plays : Record → Option DeckInfo → Effect
plays r None = refuses r InvalidOperand
plays r (Some deck) = if is_no_media r.deck then refuses r WrongMode else does (record r { power = true; deck = deck }) (notice r deck)

-- Give Deck Status: the initiator gets it from now on, no more, or once (CEC 13.7)
abbrev pub deck_asked : Heard → Record → StatusRequest → Effect
deck_asked h r On = does (record r { sub = Some h.from }) (Reply (0x1b ∷ deck_info_byte r.deck ∷ []) ∷ [])
deck_asked h r Off = does (record r { sub = None }) []
deck_asked h r Once = does r (Reply (0x1b ∷ deck_info_byte r.deck ∷ []) ∷ [])
deck_asked h r (OtherRequest other) = refuses r InvalidOperand

-- a deck that is on and has a medium
abbrev pub wound : Record → DeckInfo → Effect
wound r deck = if not r.power || is_no_media r.deck then refuses r WrongMode else deck_change r deck

-- Deck Control (CEC 13.7)
abbrev pub deck_control : Record → DeckControlMode → Effect
deck_control r SkipForward = wound r SkippingForward
deck_control r SkipReverse = wound r SkippingReverse
deck_control r Stop = wound r Stopped
deck_control r Eject = if r.power then deck_change r NoMedia else refuses r WrongMode
deck_control r (OtherControl other) = refuses r InvalidOperand

-- Device Menu Control (CEC 13.12): Menu Status of a deck that is on
abbrev pub menu_reported : Record → Bool → Effect
menu_reported r menu = if r.power then does (record r { menu = menu }) (Reply (0x8e ∷ (if menu then 0 else 1) ∷ []) ∷ []) else refuses r WrongMode

-- Menu Request (CEC 13.12)
abbrev pub menu_asked : Record → MenuRequestType → Effect
menu_asked r Activate = menu_reported r true
menu_asked r Deactivate = menu_reported r false
menu_asked r Query = menu_reported r r.menu
menu_asked r (OtherMenu other) = refuses r InvalidOperand

-- ---- a television's screen and sound

-- a text on the screen of a television that is on
abbrev pub osd_text : Record → ArrayVec ℕ 16 (Unit {0}) → Effect
osd_text r text =
    if not r.power then refuses r WrongMode else (
    if length text.items == 0 then refuses r InvalidOperand else does (record r { osd = text }) [])

-- OSD Display (CEC 13.10): Set OSD String
abbrev pub osd_display : Record → Display → ArrayVec ℕ 16 (Unit {0}) → Effect
osd_display r Default text = osd_text r text
osd_display r Hold text = osd_text r text
osd_display r Clear text = if r.power then does (record r { osd = record { items = [] } }) [] else refuses r WrongMode
osd_display r (OtherDisplay other) text = refuses r InvalidOperand

-- System Audio Control (CEC 13.15): Set System Audio Mode
abbrev pub audio_set : Record → SystemAudio → Effect
audio_set r AudioOff = does (record r { audio = false }) []
audio_set r AudioOn = does (record r { audio = true }) []
audio_set r (OtherAudio other) = refuses r InvalidOperand

-- ---- Routing Control (CEC 13.2): ways through switches

-- a switch with this port selects it
abbrev pub with_port : Bool → ℕ → Record → Option ℕ → Record
with_port is_one ports r None = r
with_port is_one ports r (Some n) = if is_one && (nat_lt 0 n && nat_le n ports) then record r { selected = Some n } else r

-- a switch selects the port that leads to an address
abbrev pub selecting : Kind → Phys → ℕ → Phys → Record → Record
selecting kind own ports to r = with_port (is_switch kind) ports r (port_towards own to)

-- Routing Information with the address of the selected port, if that has one
abbrev pub leads : Phys → Option ℕ → List Say
leads own None = []
leads own (Some n) = if is_nowhere (below own n) then [] else Cast (0x81 ∷ (below own n).high ∷ (below own n).low ∷ []) ∷ []

-- Routing Change and Routing Information (CEC 13.2): the way leads to an address
abbrev pub route_change : Kind → Phys → Phys → Record → Effect
route_change kind own to r = does (record r { path = Some to; active = None }) (if is_switch kind && same_phys to own then leads own r.selected else [])

-- Set Stream Path (CEC 13.2): a deck or amplifier at the address becomes the active source
abbrev pub stream_path : Kind → Phys → ℕ → Phys → Record → Effect
stream_path kind own ports to r =
    if (is_deck kind || is_amp kind) && same_phys to own
    then does (record r { path = Some to; power = true; active = Some to }) (Cast (0x82 ∷ to.high ∷ to.low ∷ []) ∷ [])
    else does (selecting kind own ports to (record r { path = Some to })) []

-- the active source is at this address
abbrev pub is_active : Option Phys → Phys → Bool
is_active None p = false
is_active (Some q) p = same_phys q p

-- ---- Remote Control Pass Through (CEC 13.13): codes of User Control Pressed, opcode 44; what each does is own

-- a deck with a medium: its state, reported
abbrev pub decks : Kind → Record → DeckInfo → Effect
decks kind r deck = if is_deck kind && not (is_no_media r.deck) then deck_change r deck else does r []

-- an amplifier with system audio mode on reports its volume (CEC 13.15)
abbrev pub volume_report : Kind → Record → Effect
volume_report kind r = does r (if is_amp kind && r.audio then Reply (0x7a ∷ volume_status r ∷ []) ∷ [] else [])

-- a television or amplifier: its volume, reported
abbrev pub sounds : Kind → Record → Record → Effect
sounds kind r after = if is_deck kind then does r [] else volume_report kind after

-- a deck: its menu, reported where it changed
abbrev pub menus : Kind → Record → Bool → ℕ → Effect
menus kind r is_change byte = if is_deck kind && is_change then does (record r { menu = not r.menu }) (Report 0 (0x8e ∷ byte ∷ []) ∷ []) else does r []

-- a user control code at a device that is on
abbrev pub pressed_on : Kind → UserControl → Record → Effect
pressed_on kind Power r = does (standby r) []
pressed_on kind PowerOff r = does (standby r) []
pressed_on kind VolumeUp r = sounds kind r (record r { volume = louder r.volume })
pressed_on kind VolumeDown r = sounds kind r (record r { volume = r.volume - 1 })
pressed_on kind Mute r = sounds kind r (record r { mute = not r.mute })
pressed_on kind PlayKey r = decks kind r Playing
pressed_on kind StopKey r = decks kind r Stopped
pressed_on kind Pause r = decks kind r Paused
pressed_on kind RootMenu r = menus kind r (not r.menu) 0
pressed_on kind Exit r = menus kind r r.menu 1
pressed_on kind _ r = does r []

-- in standby only Power and Power On act
abbrev pub wakes : UserControl → Bool
wakes Power = true
wakes PowerOn = true
wakes _ = false

abbrev pub key_press : Kind → UserControl → Record → Effect
key_press kind code r =
    if r.power then pressed_on kind code (record r { held = Some (user_control_byte code) }) else (
    if wakes code then does (record r { power = true; held = Some (user_control_byte code) }) [] else does r [])

-- ---- the table, a line each

abbrev pub effect_of : Kind → Phys → List ℕ → ℕ → Heard → Record → Message → Effect
effect_of kind own name ports h r (FeatureAbort opcode reason) = does r []
effect_of kind own name ports h r ImageViewOn = only (is_tv kind) r (does (record r { power = true }) [])
effect_of kind own name ports h r TextViewOn = only (is_tv kind) r (does (record r { power = true; osd = record { items = [] } }) [])
effect_of kind own name ports h r (GiveDeckStatus request) = only (is_deck kind) r (deck_asked h r request)
effect_of kind own name ports h r (DeckStatus deck) = hears h r
effect_of kind own name ports h r Standby = does (standby r) []
effect_of kind own name ports h r (Play mode) = only (is_deck kind) r (plays r (mode_deck mode))
effect_of kind own name ports h r (DeckControl control) = only (is_deck kind) r (deck_control r control)
effect_of kind own name ports h r (UserControlPressed code) = only (is_tv kind || (is_deck kind || is_amp kind)) r (key_press kind code r)
effect_of kind own name ports h r UserControlReleased = only (is_tv kind || (is_deck kind || is_amp kind)) r (does (record r { held = None }) [])
effect_of kind own name ports h r GiveOsdName = does r (Reply (0x47 ∷ name) ∷ [])
effect_of kind own name ports h r (SystemAudioModeRequest None) = only (is_amp kind) r (does (record r { audio = false }) (Cast (0x72 ∷ 0 ∷ []) ∷ []))
effect_of kind own name ports h r (SystemAudioModeRequest (Some address)) = only (is_amp kind) r (does (record r { power = true; audio = true }) (Cast (0x72 ∷ 1 ∷ []) ∷ []))
effect_of kind own name ports h r GiveAudioStatus = only (is_amp kind) r (does r (Reply (0x7a ∷ volume_status r ∷ []) ∷ []))
effect_of kind own name ports h r (RoutingChange from to) = route_change kind own to r
effect_of kind own name ports h r (ActiveSource address) = does (selecting kind own ports address (record r { active = Some address; path = Some address })) []
effect_of kind own name ports h r (InactiveSource address) = only (is_tv kind) r (if is_active r.active address then does (record r { active = None }) [] else does r [])
effect_of kind own name ports h r GivePhysicalAddress = does r (Cast (0x84 ∷ own.high ∷ own.low ∷ type_of kind h.to ∷ []) ∷ [])
effect_of kind own name ports h r (ReportPhysicalAddress address type) = hears h r
effect_of kind own name ports h r (SetStreamPath address) = stream_path kind own ports address r
effect_of kind own name ports h r (MenuRequest request) = only (is_deck kind) r (menu_asked r request)
effect_of kind own name ports h r (RequestArcInitiation) = only (is_amp kind) r (
    if h.from == 0 then does r (Reply (0xc0 ∷ []) ∷ []) else refuses r Refused)
effect_of kind own name ports h r (SetMenuLanguage language) = only (is_deck kind || is_amp kind) r (if h.from == 0 then does (record r { language = language }) [] else does r [])
effect_of kind own name ports h r (SetOsdName text) = hears h r
effect_of kind own name ports h r (SetOsdString display text) = only (is_tv kind) r (osd_display r display text)
effect_of kind own name ports h r (SetSystemAudioMode audio) = only (is_tv kind) r (audio_set r audio)
effect_of kind own name ports h r (ReportAudioStatus status) = hears h r
effect_of kind own name ports h r GiveSystemAudioModeStatus = only (is_amp kind) r (does r (Reply (0x7e ∷ (if r.audio then 1 else 0) ∷ []) ∷ []))
effect_of kind own name ports h r (SystemAudioModeStatus audio) = hears h r
effect_of kind own name ports h r (RoutingInformation address) = route_change kind own address r
effect_of kind own name ports h r RequestActiveSource = does r (if r.power && is_active r.active own then Cast (0x82 ∷ own.high ∷ own.low ∷ []) ∷ [] else [])
effect_of kind own name ports h r (DeviceVendorId vendor) = hears h r
effect_of kind own name ports h r GiveDeviceVendorId = does r (Cast (0x87 ∷ 0x02 ∷ 0x00 ∷ 0x00 ∷ []) ∷ [])
effect_of kind own name ports h r (MenuStatus menu) = hears h r
effect_of kind own name ports h r GiveDevicePowerStatus = does r (Reply (0x90 ∷ (if r.power then 0 else 1) ∷ []) ∷ [])
effect_of kind own name ports h r (ReportPowerStatus power) = hears h r
effect_of kind own name ports h r GetMenuLanguage = only (is_tv kind) r (does r (Cast (0x32 ∷ r.language.first ∷ r.language.second ∷ r.language.third ∷ []) ∷ []))
effect_of kind own name ports h r (CecVersion version) = hears h r
effect_of kind own name ports h r GetCecVersion = does r (Reply (0x9e ∷ 0x05 ∷ []) ∷ [])
effect_of kind own name ports h r InitiateArc = only (is_tv kind) r (if r.power then does (record r { arc = true }) (Reply (0xc1 ∷ []) ∷ []) else refuses r WrongMode)
effect_of kind own name ports h r ReportArcInitiated = only (is_amp kind) r (does (record r { arc = true }) [])
effect_of kind own name ports h r ReportArcTerminated = only (is_amp kind) r (does (record r { arc = false }) [])
effect_of kind own name ports h r RequestArcTermination = only (is_amp kind) r (if h.from == 0 then does r (Reply (0xc5 ∷ []) ∷ []) else refuses r Refused)
effect_of kind own name ports h r TerminateArc = only (is_tv kind) r (does (record r { arc = false }) (Reply (0xc2 ∷ []) ∷ []))
effect_of kind own name ports h r _ = refuses r Unrecognized

-- ---- a frame that is followed

-- the first operand, if there is one
abbrev pub first_of : List ℕ → ℕ
first_of [] = 0
first_of (x ∷ xs) = x

-- a frame with its addresses
abbrev pub heard_of : ℕ → ℕ → List ℕ → ℕ → Heard
heard_of header opcode operands at = record { from = header / 16; to = header % 16; opcode = opcode; first = first_of operands; at = at }
