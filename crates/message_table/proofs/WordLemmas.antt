-- A byte that is no word of its set, and the words that are read again from their bytes.
use Rattle.std.proofs.Common.{◌≡◌, ℕ, Bool, true, false, IsTrue, refl, sym, ap}
use Rattle.std.proofs.Math.Bool.{Bool-set}
use Rattle.message_table.specs.WordSets.{is_unlisted}
use Rattle.message_table.specs.declared.word_set.WordSet.TheVariants.{Reason as ReasonWords, Power as PowerWords, OnOff as OnOffWords, DeviceType as DeviceTypeWords, StatusRequest as StatusRequestWords, DeckInfo as DeckInfoWords, PlayMode as PlayModeWords, DeckControl as DeckControlWords, Display as DisplayWords, MenuRequest as MenuRequestWords, MenuState as MenuStateWords, Version as VersionWords, UserControl as UserControlWords}
use Rattle.message_table.specs.declared.words.Reason.{Reason}
use Rattle.message_table.specs.declared.words.Reason.TheVariants.{Unrecognized, WrongMode, NoSource, InvalidOperand, Refused, Other as OtherOfReason}
use Rattle.message_table.specs.Words.{reason_at, reason_byte}
use Rattle.message_table.specs.declared.words.Power.{Power}
use Rattle.message_table.specs.declared.words.Power.TheVariants.{On, Standby, Other as OtherOfPower}
use Rattle.message_table.specs.Words.{power_at, power_byte}
use Rattle.message_table.specs.declared.words.SystemAudio.{SystemAudio}
use Rattle.message_table.specs.declared.words.SystemAudio.TheVariants.{Off, On as OnOfSystemAudio, Other as OtherOfSystemAudio}
use Rattle.message_table.specs.Words.{system_audio_at, system_audio_byte}
use Rattle.message_table.specs.declared.words.DeviceType.{DeviceType}
use Rattle.message_table.specs.declared.words.DeviceType.TheVariants.{Tv, Recorder, Tuner, Playback, Audio, Switch, Other as OtherOfDeviceType}
use Rattle.message_table.specs.Words.{device_type_at, device_type_byte}
use Rattle.message_table.specs.declared.words.Version.{Version}
use Rattle.message_table.specs.declared.words.Version.TheVariants.{OnePointFour, Other as OtherOfVersion}
use Rattle.message_table.specs.Words.{version_at, version_byte}
use Rattle.message_table.specs.declared.deck_words.StatusRequest.{StatusRequest}
use Rattle.message_table.specs.declared.deck_words.StatusRequest.TheVariants.{On as OnOfStatusRequest, Off as OffOfStatusRequest, Once, Other as OtherOfStatusRequest}
use Rattle.message_table.specs.DeckWords.{status_request_at, status_request_byte}
use Rattle.message_table.specs.declared.deck_words.DeckInfo.{DeckInfo}
use Rattle.message_table.specs.declared.deck_words.DeckInfo.TheVariants.{Play, Still, FastForward, FastReverse, NoMedia, Stop, SkipForward, SkipReverse, Other as OtherOfDeckInfo}
use Rattle.message_table.specs.DeckWords.{deck_info_at, deck_info_byte}
use Rattle.message_table.specs.declared.deck_words.PlayMode.{PlayMode}
use Rattle.message_table.specs.declared.deck_words.PlayMode.TheVariants.{Forward, Still as StillOfPlayMode, FastForwardMin, FastForwardMid, FastForwardMax, FastReverseMin, FastReverseMid, FastReverseMax, Other as OtherOfPlayMode}
use Rattle.message_table.specs.DeckWords.{play_mode_at, play_mode_byte}
use Rattle.message_table.specs.declared.deck_words.DeckControlMode.{DeckControlMode}
use Rattle.message_table.specs.declared.deck_words.DeckControlMode.TheVariants.{SkipForward as SkipForwardOfDeckControlMode, SkipReverse as SkipReverseOfDeckControlMode, Stop as StopOfDeckControlMode, Eject, Other as OtherOfDeckControlMode}
use Rattle.message_table.specs.DeckWords.{deck_control_at, deck_control_byte}
use Rattle.message_table.specs.declared.screen_words.Display.{Display}
use Rattle.message_table.specs.declared.screen_words.Display.TheVariants.{Default, Hold, Clear, Other as OtherOfDisplay}
use Rattle.message_table.specs.ScreenWords.{display_at, display_byte}
use Rattle.message_table.specs.declared.screen_words.MenuRequestType.{MenuRequestType}
use Rattle.message_table.specs.declared.screen_words.MenuRequestType.TheVariants.{Activate, Deactivate, Query, Other as OtherOfMenuRequestType}
use Rattle.message_table.specs.ScreenWords.{menu_request_at, menu_request_byte}
use Rattle.message_table.specs.declared.screen_words.MenuState.{MenuState}
use Rattle.message_table.specs.declared.screen_words.MenuState.TheVariants.{Activated, Deactivated, Other as OtherOfMenuState}
use Rattle.message_table.specs.ScreenWords.{menu_state_at, menu_state_byte}
use Rattle.message_table.specs.declared.user_control.UserControl.{UserControl}
use Rattle.message_table.specs.declared.user_control.UserControl.TheVariants.{Select, Up, Down, Left, Right, RootMenu, Exit, Digit0, Digit1, Digit2, Digit3, Digit4, Digit5, Digit6, Digit7, Digit8, Digit9, Power as PowerKey, VolumeUp, VolumeDown, Mute, Play as PlayOfUserControl, Stop as StopOfUserControl, Pause, PowerOff, PowerOn, Other as OtherOfUserControl}
use Rattle.message_table.specs.ControlWords.{user_control_at, user_control_byte}

chosen : {W : Type 0} (t : Bool) (other : IsTrue t → W) (word : W) (h : IsTrue t)
    → other h ≡ (elim t as (λ t. (IsTrue t → W) → W) [ true ↦ λ f. f refl | false ↦ λ _. word ]) other
chosen true other word h = ap other (Bool-set true true h refl)
chosen false other word h = cc

pub other_reason : (b : ℕ) (h : IsTrue (is_unlisted ReasonWords b)) → OtherOfReason (record { byte = b; unlisted = h }) ≡ reason_at b
other_reason b h = chosen (is_unlisted ReasonWords b) (λ h. OtherOfReason (record { byte = b; unlisted = h })) _ h

pub reason_again : (w : Reason) → reason_at (reason_byte w) ≡ w
reason_again Unrecognized = refl
reason_again WrongMode = refl
reason_again NoSource = refl
reason_again InvalidOperand = refl
reason_again Refused = refl
reason_again (OtherOfReason o) = sym (other_reason o.byte o.unlisted)

pub other_power : (b : ℕ) (h : IsTrue (is_unlisted PowerWords b)) → OtherOfPower (record { byte = b; unlisted = h }) ≡ power_at b
other_power b h = chosen (is_unlisted PowerWords b) (λ h. OtherOfPower (record { byte = b; unlisted = h })) _ h

pub power_again : (w : Power) → power_at (power_byte w) ≡ w
power_again On = refl
power_again Standby = refl
power_again (OtherOfPower o) = sym (other_power o.byte o.unlisted)

pub other_system_audio : (b : ℕ) (h : IsTrue (is_unlisted OnOffWords b)) → OtherOfSystemAudio (record { byte = b; unlisted = h }) ≡ system_audio_at b
other_system_audio b h = chosen (is_unlisted OnOffWords b) (λ h. OtherOfSystemAudio (record { byte = b; unlisted = h })) _ h

pub system_audio_again : (w : SystemAudio) → system_audio_at (system_audio_byte w) ≡ w
system_audio_again Off = refl
system_audio_again OnOfSystemAudio = refl
system_audio_again (OtherOfSystemAudio o) = sym (other_system_audio o.byte o.unlisted)

pub other_device_type : (b : ℕ) (h : IsTrue (is_unlisted DeviceTypeWords b)) → OtherOfDeviceType (record { byte = b; unlisted = h }) ≡ device_type_at b
other_device_type b h = chosen (is_unlisted DeviceTypeWords b) (λ h. OtherOfDeviceType (record { byte = b; unlisted = h })) _ h

pub device_type_again : (w : DeviceType) → device_type_at (device_type_byte w) ≡ w
device_type_again Tv = refl
device_type_again Recorder = refl
device_type_again Tuner = refl
device_type_again Playback = refl
device_type_again Audio = refl
device_type_again Switch = refl
device_type_again (OtherOfDeviceType o) = sym (other_device_type o.byte o.unlisted)

pub other_version : (b : ℕ) (h : IsTrue (is_unlisted VersionWords b)) → OtherOfVersion (record { byte = b; unlisted = h }) ≡ version_at b
other_version b h = chosen (is_unlisted VersionWords b) (λ h. OtherOfVersion (record { byte = b; unlisted = h })) _ h

pub version_again : (w : Version) → version_at (version_byte w) ≡ w
version_again OnePointFour = refl
version_again (OtherOfVersion o) = sym (other_version o.byte o.unlisted)

pub other_status_request : (b : ℕ) (h : IsTrue (is_unlisted StatusRequestWords b)) → OtherOfStatusRequest (record { byte = b; unlisted = h }) ≡ status_request_at b
other_status_request b h = chosen (is_unlisted StatusRequestWords b) (λ h. OtherOfStatusRequest (record { byte = b; unlisted = h })) _ h

pub status_request_again : (w : StatusRequest) → status_request_at (status_request_byte w) ≡ w
status_request_again OnOfStatusRequest = refl
status_request_again OffOfStatusRequest = refl
status_request_again Once = refl
status_request_again (OtherOfStatusRequest o) = sym (other_status_request o.byte o.unlisted)

pub other_deck_info : (b : ℕ) (h : IsTrue (is_unlisted DeckInfoWords b)) → OtherOfDeckInfo (record { byte = b; unlisted = h }) ≡ deck_info_at b
other_deck_info b h = chosen (is_unlisted DeckInfoWords b) (λ h. OtherOfDeckInfo (record { byte = b; unlisted = h })) _ h

pub deck_info_again : (w : DeckInfo) → deck_info_at (deck_info_byte w) ≡ w
deck_info_again Play = refl
deck_info_again Still = refl
deck_info_again FastForward = refl
deck_info_again FastReverse = refl
deck_info_again NoMedia = refl
deck_info_again Stop = refl
deck_info_again SkipForward = refl
deck_info_again SkipReverse = refl
deck_info_again (OtherOfDeckInfo o) = sym (other_deck_info o.byte o.unlisted)

pub other_play_mode : (b : ℕ) (h : IsTrue (is_unlisted PlayModeWords b)) → OtherOfPlayMode (record { byte = b; unlisted = h }) ≡ play_mode_at b
other_play_mode b h = chosen (is_unlisted PlayModeWords b) (λ h. OtherOfPlayMode (record { byte = b; unlisted = h })) _ h

pub play_mode_again : (w : PlayMode) → play_mode_at (play_mode_byte w) ≡ w
play_mode_again Forward = refl
play_mode_again StillOfPlayMode = refl
play_mode_again FastForwardMin = refl
play_mode_again FastForwardMid = refl
play_mode_again FastForwardMax = refl
play_mode_again FastReverseMin = refl
play_mode_again FastReverseMid = refl
play_mode_again FastReverseMax = refl
play_mode_again (OtherOfPlayMode o) = sym (other_play_mode o.byte o.unlisted)

pub other_deck_control : (b : ℕ) (h : IsTrue (is_unlisted DeckControlWords b)) → OtherOfDeckControlMode (record { byte = b; unlisted = h }) ≡ deck_control_at b
other_deck_control b h = chosen (is_unlisted DeckControlWords b) (λ h. OtherOfDeckControlMode (record { byte = b; unlisted = h })) _ h

pub deck_control_again : (w : DeckControlMode) → deck_control_at (deck_control_byte w) ≡ w
deck_control_again SkipForwardOfDeckControlMode = refl
deck_control_again SkipReverseOfDeckControlMode = refl
deck_control_again StopOfDeckControlMode = refl
deck_control_again Eject = refl
deck_control_again (OtherOfDeckControlMode o) = sym (other_deck_control o.byte o.unlisted)

pub other_display : (b : ℕ) (h : IsTrue (is_unlisted DisplayWords b)) → OtherOfDisplay (record { byte = b; unlisted = h }) ≡ display_at b
other_display b h = chosen (is_unlisted DisplayWords b) (λ h. OtherOfDisplay (record { byte = b; unlisted = h })) _ h

pub display_again : (w : Display) → display_at (display_byte w) ≡ w
display_again Default = refl
display_again Hold = refl
display_again Clear = refl
display_again (OtherOfDisplay o) = sym (other_display o.byte o.unlisted)

pub other_menu_request : (b : ℕ) (h : IsTrue (is_unlisted MenuRequestWords b)) → OtherOfMenuRequestType (record { byte = b; unlisted = h }) ≡ menu_request_at b
other_menu_request b h = chosen (is_unlisted MenuRequestWords b) (λ h. OtherOfMenuRequestType (record { byte = b; unlisted = h })) _ h

pub menu_request_again : (w : MenuRequestType) → menu_request_at (menu_request_byte w) ≡ w
menu_request_again Activate = refl
menu_request_again Deactivate = refl
menu_request_again Query = refl
menu_request_again (OtherOfMenuRequestType o) = sym (other_menu_request o.byte o.unlisted)

pub other_menu_state : (b : ℕ) (h : IsTrue (is_unlisted MenuStateWords b)) → OtherOfMenuState (record { byte = b; unlisted = h }) ≡ menu_state_at b
other_menu_state b h = chosen (is_unlisted MenuStateWords b) (λ h. OtherOfMenuState (record { byte = b; unlisted = h })) _ h

pub menu_state_again : (w : MenuState) → menu_state_at (menu_state_byte w) ≡ w
menu_state_again Activated = refl
menu_state_again Deactivated = refl
menu_state_again (OtherOfMenuState o) = sym (other_menu_state o.byte o.unlisted)

pub other_user_control : (b : ℕ) (h : IsTrue (is_unlisted UserControlWords b)) → OtherOfUserControl (record { byte = b; unlisted = h }) ≡ user_control_at b
other_user_control b h = chosen (is_unlisted UserControlWords b) (λ h. OtherOfUserControl (record { byte = b; unlisted = h })) _ h

pub user_control_again : (w : UserControl) → user_control_at (user_control_byte w) ≡ w
user_control_again Select = refl
user_control_again Up = refl
user_control_again Down = refl
user_control_again Left = refl
user_control_again Right = refl
user_control_again RootMenu = refl
user_control_again Exit = refl
user_control_again Digit0 = refl
user_control_again Digit1 = refl
user_control_again Digit2 = refl
user_control_again Digit3 = refl
user_control_again Digit4 = refl
user_control_again Digit5 = refl
user_control_again Digit6 = refl
user_control_again Digit7 = refl
user_control_again Digit8 = refl
user_control_again Digit9 = refl
user_control_again PowerKey = refl
user_control_again VolumeUp = refl
user_control_again VolumeDown = refl
user_control_again Mute = refl
user_control_again PlayOfUserControl = refl
user_control_again StopOfUserControl = refl
user_control_again Pause = refl
user_control_again PowerOff = refl
user_control_again PowerOn = refl
user_control_again (OtherOfUserControl o) = sym (other_user_control o.byte o.unlisted)
