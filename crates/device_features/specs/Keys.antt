-- The key table, which is this profile's own: what a press and a release do, by kind. What a key sends are the
-- messages of CEC 13.
use Rattle.std.specs.Prelude.{ℕ, ◌==◌, ◌-◌, Bool, true, not, ◌&&◌, ◌||◌, nat_le, List, [], ◌∷◌, if◌then◌else◌, Option, Some, None}
use Rattle.message_table.specs.ControlWords.{user_control_byte}
use Rattle.message_table.specs.declared.user_control.UserControl.{UserControl}
use Rattle.message_table.specs.declared.user_control.UserControl.TheVariants.{VolumeUp, VolumeDown, Mute as MuteCode}
use Rattle.text_core.specs.declared.kind.Kind.{Kind}
use Rattle.text_core.specs.declared.phys.Phys.{Phys}
use Rattle.device_features.specs.declared.record.Record.{Record}
use Rattle.device_features.specs.declared.keys.Key.{Key}
use Rattle.device_features.specs.declared.keys.Key.TheVariants.{Play, Stop, Eject, Load, Menu, Power, Watch, Port, Audio, Arc, Volume, Language, Remote}
use Rattle.device_features.specs.declared.keys.VolumeKey.{VolumeKey}
use Rattle.device_features.specs.declared.keys.VolumeKey.TheVariants.{Up, Down, Mute}
use Rattle.device_features.specs.declared.say.Say.{Say}
use Rattle.device_features.specs.declared.say.Say.TheVariants.{Report, Cast}
use Rattle.message_table.specs.declared.deck_words.DeckInfo.TheVariants.{Play as Playing, NoMedia, Stop as Stopped}
use Rattle.device_features.specs.Kinds.{is_tv, is_amp, is_deck, is_switch, is_outside}
use Rattle.device_features.specs.Effect.{Effect, does}
use Rattle.device_features.specs.Effects.{notice, standby, deck_change, is_active, is_no_media, volume_status}
use Rattle.device_features.specs.Volume.{louder}
use Rattle.device_features.specs.Ways.{below}

-- The kinds that have a key. A switch has those of its ports, a device from outside has none.
abbrev pub has_key : Kind → ℕ → Key → Bool
has_key kind ports Play = is_deck kind
has_key kind ports Stop = is_deck kind
has_key kind ports Eject = is_deck kind
has_key kind ports Load = is_deck kind
has_key kind ports Menu = is_deck kind
has_key kind ports Power = not (is_outside kind)
has_key kind ports (Watch to) = is_tv kind
has_key kind ports (Port port) = is_switch kind && (nat_le 1 port && nat_le port ports)
has_key kind ports (Audio on) = is_tv kind
has_key kind ports (Arc on) = is_tv kind || is_amp kind
has_key kind ports (Volume key) = is_tv kind || is_amp kind
has_key kind ports (Language language) = is_tv kind
has_key kind ports (Remote to code) = is_tv kind

-- the user control code of a key of the sound
abbrev pub code_of : VolumeKey → UserControl
code_of Up = VolumeUp
code_of Down = VolumeDown
code_of Mute = MuteCode

-- the record with its sound as the key sets it
abbrev pub sound_after : VolumeKey → Record → Record
sound_after Up r = record r { volume = louder r.volume }
sound_after Down r = record r { volume = r.volume - 1 }
sound_after Mute r = record r { mute = not r.mute }

-- an amplifier with system audio mode on reports its volume to the television (CEC 13.15)
abbrev pub volume_reported : Kind → Record → Effect
volume_reported kind r = does r (if is_amp kind && r.audio then Report 0 (0x7a ∷ volume_status r ∷ []) ∷ [] else [])

-- The address of a port, 0.0.0.0 where there is no path.
abbrev pub path_bytes : Option Phys → List ℕ
path_bytes None = 0 ∷ 0 ∷ []
path_bytes (Some path) = path.high ∷ path.low ∷ []

-- System Audio Control (CEC 13.15): System Audio Mode Request, for the path or without one
abbrev pub audio_said : Bool → Option Phys → Say
audio_said on path = Report 5 (0x70 ∷ (if on then path_bytes path else []))

-- Request ARC Initiation or Termination of a television, Initiate ARC or Terminate ARC of an amplifier
abbrev pub arc_said : Kind → Bool → Say
arc_said kind on = if is_tv kind then Report 5 ((if on then 0xc3 else 0xc4) ∷ []) else Report 0 ((if on then 0xc0 else 0xc5) ∷ [])

-- Routing Control (CEC 13.2): another port is selected, and Routing Change says so with both addresses
abbrev pub port_selection : Phys → ℕ → Record → Option ℕ → Effect
port_selection own port r None = does (record r { selected = Some port }) []
port_selection own port r (Some old) = does (record r { selected = Some port }) (if old == port then [] else
    Cast (0x80 ∷ (below own old).high ∷ (below own old).low ∷ (below own port).high ∷ (below own port).low ∷ []) ∷ [])

-- to standby: a television sends all others there (CEC 13.3), and the active source says so to the television, by Inactive
-- Source
abbrev pub goes_off : Kind → Phys → Record → Effect
goes_off kind own r =
    if is_tv kind then does (standby r) (Cast (0x36 ∷ []) ∷ []) else (
    if is_deck kind && is_active r.active own then does (standby (record r { active = None })) (Report 0 (0x9d ∷ own.high ∷ own.low ∷ []) ∷ [])
    else does (standby r) [])

-- One Touch Play (CEC 13.1): a new active source, as it says to the television, by Image View On, and to all
abbrev pub taking_over : Phys → Record → Effect
taking_over own r = does
    (record r { power = true; active = Some own; path = Some own }) (Report 0 (0x04 ∷ []) ∷ Cast (0x82 ∷ own.high ∷ own.low ∷ []) ∷ [])

-- what a press does
abbrev pub pressing : Kind → Phys → Record → Key → Effect
pressing kind own r Play = does
    (record r { power = true; active = Some own; path = Some own; deck = if is_no_media r.deck then r.deck else Playing })
    (Report 0 (0x04 ∷ []) ∷ Cast (0x82 ∷ own.high ∷ own.low ∷ []) ∷ (if is_no_media r.deck then [] else notice r Playing))
pressing kind own r Stop = if is_no_media r.deck then does r [] else deck_change r Stopped
pressing kind own r Eject = deck_change r NoMedia
pressing kind own r Load = if is_no_media r.deck then deck_change r Stopped else does r []
pressing kind own r Menu = does (record r { menu = not r.menu }) (Report 0 (0x8e ∷ (if r.menu then 1 else 0) ∷ []) ∷ [])
pressing kind own r Power = if r.power then goes_off kind own r else does (record r { power = true }) []
pressing kind own r (Watch to) = does (record r { path = Some to }) (Cast (0x86 ∷ to.high ∷ to.low ∷ []) ∷ [])
pressing kind own r (Port port) = port_selection own port r r.selected
pressing kind own r (Audio on) = does r (audio_said on r.path ∷ [])
pressing kind own r (Arc on) = does r (arc_said kind on ∷ [])
pressing kind own r (Volume key) =
    if is_tv kind && r.audio then does r (Report 5 (0x44 ∷ user_control_byte (code_of key) ∷ []) ∷ []) else volume_reported kind (sound_after key r)
pressing kind own r (Language language) =
    does (record r { language = language }) (Cast (0x32 ∷ language.first ∷ language.second ∷ language.third ∷ []) ∷ [])
pressing kind own r (Remote to code) = does r (Report to (0x44 ∷ user_control_byte code ∷ []) ∷ [])

-- what a release does
abbrev pub releasing : Kind → Record → Key → Effect
releasing kind r (Volume key) = if is_tv kind && r.audio then does r (Report 5 (0x45 ∷ []) ∷ []) else does r []
releasing kind r (Remote to code) = does r (Report to (0x45 ∷ []) ∷ [])
releasing kind r _ = does r []
