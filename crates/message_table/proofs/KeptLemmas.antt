-- Each byte is kept by what it means, and so are the operands of each row.
use Rattle.std.proofs.Common.{◌≡◌, ℕ, ◌<◌, ◌+◌, ◌%◌, ◌==◌, ◌||◌, nat_le, Bool, true, false, not, cond, IsTrue, List, [], ◌∷◌, refl, arith}
use borrow.Author.Tests.{tests}
use Rattle.std.specs.List.{list_any}
use Rattle.std.proofs.lemmas.Bool.{eqb-true}
use Rattle.message_table.specs.Words.{with_byte, status_at, status_byte}
use Rattle.message_table.specs.WordSets.{words_of}
use Rattle.message_table.specs.WordSets.{is_unlisted}
use Rattle.message_table.specs.declared.word_set.WordSet.TheVariants.{Reason as ReasonWords, Power as PowerWords, OnOff as OnOffWords, DeviceType as DeviceTypeWords, StatusRequest as StatusRequestWords, DeckInfo as DeckInfoWords, PlayMode as PlayModeWords, DeckControl as DeckControlWords, Display as DisplayWords, MenuRequest as MenuRequestWords, MenuState as MenuStateWords, Version as VersionWords, UserControl as UserControlWords}
use Rattle.message_table.specs.declared.words.Reason.TheVariants.{Unrecognized, WrongMode, NoSource, InvalidOperand, Refused, Other as OtherOfReason}
use Rattle.message_table.specs.Words.{reason_at, reason_byte}
use Rattle.message_table.specs.declared.words.Power.TheVariants.{On, Standby, Other as OtherOfPower}
use Rattle.message_table.specs.Words.{power_at, power_byte}
use Rattle.message_table.specs.declared.words.SystemAudio.TheVariants.{Off, On as OnOfSystemAudio, Other as OtherOfSystemAudio}
use Rattle.message_table.specs.Words.{system_audio_at, system_audio_byte}
use Rattle.message_table.specs.declared.words.DeviceType.TheVariants.{Tv, Recorder, Tuner, Playback, Audio, Switch, Other as OtherOfDeviceType}
use Rattle.message_table.specs.Words.{device_type_at, device_type_byte}
use Rattle.message_table.specs.declared.words.Version.TheVariants.{OnePointFour, Other as OtherOfVersion}
use Rattle.message_table.specs.Words.{version_at, version_byte}
use Rattle.message_table.specs.declared.deck_words.StatusRequest.TheVariants.{On as OnOfStatusRequest, Off as OffOfStatusRequest, Once, Other as OtherOfStatusRequest}
use Rattle.message_table.specs.DeckWords.{status_request_at, status_request_byte}
use Rattle.message_table.specs.declared.deck_words.DeckInfo.TheVariants.{Play, Still, FastForward, FastReverse, NoMedia, Stop, SkipForward, SkipReverse, Other as OtherOfDeckInfo}
use Rattle.message_table.specs.DeckWords.{deck_info_at, deck_info_byte}
use Rattle.message_table.specs.declared.deck_words.PlayMode.TheVariants.{Forward, Still as StillOfPlayMode, FastForwardMin, FastForwardMid, FastForwardMax, FastReverseMin, FastReverseMid, FastReverseMax, Other as OtherOfPlayMode}
use Rattle.message_table.specs.DeckWords.{play_mode_at, play_mode_byte}
use Rattle.message_table.specs.declared.deck_words.DeckControlMode.TheVariants.{SkipForward as SkipForwardOfDeckControlMode, SkipReverse as SkipReverseOfDeckControlMode, Stop as StopOfDeckControlMode, Eject, Other as OtherOfDeckControlMode}
use Rattle.message_table.specs.DeckWords.{deck_control_at, deck_control_byte}
use Rattle.message_table.specs.declared.screen_words.Display.TheVariants.{Default, Hold, Clear, Other as OtherOfDisplay}
use Rattle.message_table.specs.ScreenWords.{display_at, display_byte}
use Rattle.message_table.specs.declared.screen_words.MenuRequestType.TheVariants.{Activate, Deactivate, Query, Other as OtherOfMenuRequestType}
use Rattle.message_table.specs.ScreenWords.{menu_request_at, menu_request_byte}
use Rattle.message_table.specs.declared.screen_words.MenuState.TheVariants.{Activated, Deactivated, Other as OtherOfMenuState}
use Rattle.message_table.specs.ScreenWords.{menu_state_at, menu_state_byte}
use Rattle.message_table.specs.declared.user_control.UserControl.TheVariants.{Select, Up, Down, Left, Right, RootMenu, Exit, Digit0, Digit1, Digit2, Digit3, Digit4, Digit5, Digit6, Digit7, Digit8, Digit9, Power as PowerKey, VolumeUp, VolumeDown, Mute, Play as PlayOfUserControl, Stop as StopOfUserControl, Pause, PowerOff, PowerOn, Other as OtherOfUserControl}
use Rattle.message_table.specs.ControlWords.{user_control_at, user_control_byte}

last : (a : Bool) → (a || false) ≡ true → a ≡ true
last true h = refl
last false h = cc

without : (a b c : Bool) → b ≡ false → (a || (b || c)) ≡ true → (a || c) ≡ true
without true b c e h = refl
without false true c e h = cc
without false false c e h = h

step : {W : Type 0} (f : W → ℕ) (v later : W) (x : ℕ) (b : Bool) → (f v == x) ≡ b → (b ≡ false → f later ≡ x) → f (cond b v later) ≡ x
step f v later x true e k = eqb-true _ _ e
step f v later x false e k = k refl

-- the word of a byte has the byte, where one has it
in_first : {W : Type 0} (f : W → ℕ) (first : W) (rest : List W) (x : ℕ) → list_any (λ w. f w == x) (first ∷ rest) ≡ true
    → f (with_byte f x first rest) ≡ x
in_first f first [] x h = eqb-true _ _ (last (f first == x) h)
in_first f first (v ∷ vs) x h =
    step f v (with_byte f x first vs) x (f v == x) refl
    (λ e. in_first f first vs x (without (f first == x) (f v == x) (list_any (λ w. f w == x) vs) e h))

listed : (any : Bool) → false ≡ not any → any ≡ true
listed true e = refl
listed false e = cc

kept_by : {W : Type 0} (f : W → ℕ) (x : ℕ) (t any : Bool) (other : IsTrue t → W) (word : W) → t ≡ not any
    → ((h : IsTrue t) → f (other h) ≡ x) → (any ≡ true → f word ≡ x)
    → f ((elim t as (λ t. (IsTrue t → W) → W) [ true ↦ λ f. f refl | false ↦ λ _. word ]) other) ≡ x
kept_by f x true any other word e a b = a refl
kept_by f x false any other word e a b = b (listed any e)

pub reason_kept : (x : ℕ) → reason_byte (reason_at x) ≡ x
reason_kept x =
    kept_by reason_byte x (is_unlisted ReasonWords x) (list_any (λ w. w.code == x) (words_of ReasonWords)) (λ h. OtherOfReason (record { byte = x; unlisted = h }))
    (with_byte reason_byte x Unrecognized (WrongMode ∷ NoSource ∷ InvalidOperand ∷ Refused ∷ [])) refl (λ h. refl) (λ any. in_first reason_byte Unrecognized (WrongMode ∷ NoSource ∷ InvalidOperand ∷ Refused ∷ []) x any)

pub power_kept : (x : ℕ) → power_byte (power_at x) ≡ x
power_kept x =
    kept_by power_byte x (is_unlisted PowerWords x) (list_any (λ w. w.code == x) (words_of PowerWords)) (λ h. OtherOfPower (record { byte = x; unlisted = h }))
    (with_byte power_byte x On (Standby ∷ [])) refl (λ h. refl) (λ any. in_first power_byte On (Standby ∷ []) x any)

pub system_audio_kept : (x : ℕ) → system_audio_byte (system_audio_at x) ≡ x
system_audio_kept x =
    kept_by system_audio_byte x (is_unlisted OnOffWords x) (list_any (λ w. w.code == x) (words_of OnOffWords)) (λ h. OtherOfSystemAudio (record { byte = x; unlisted = h }))
    (with_byte system_audio_byte x Off (OnOfSystemAudio ∷ [])) refl (λ h. refl) (λ any. in_first system_audio_byte Off (OnOfSystemAudio ∷ []) x any)

pub device_type_kept : (x : ℕ) → device_type_byte (device_type_at x) ≡ x
device_type_kept x =
    kept_by device_type_byte x (is_unlisted DeviceTypeWords x) (list_any (λ w. w.code == x) (words_of DeviceTypeWords)) (λ h. OtherOfDeviceType (record { byte = x; unlisted = h }))
    (with_byte device_type_byte x Tv (Recorder ∷ Tuner ∷ Playback ∷ Audio ∷ Switch ∷ [])) refl (λ h. refl) (λ any. in_first device_type_byte Tv (Recorder ∷ Tuner ∷ Playback ∷ Audio ∷ Switch ∷ []) x any)

pub version_kept : (x : ℕ) → version_byte (version_at x) ≡ x
version_kept x =
    kept_by version_byte x (is_unlisted VersionWords x) (list_any (λ w. w.code == x) (words_of VersionWords)) (λ h. OtherOfVersion (record { byte = x; unlisted = h }))
    (with_byte version_byte x OnePointFour ([])) refl (λ h. refl) (λ any. in_first version_byte OnePointFour ([]) x any)

pub status_request_kept : (x : ℕ) → status_request_byte (status_request_at x) ≡ x
status_request_kept x =
    kept_by status_request_byte x (is_unlisted StatusRequestWords x) (list_any (λ w. w.code == x) (words_of StatusRequestWords)) (λ h. OtherOfStatusRequest (record { byte = x; unlisted = h }))
    (with_byte status_request_byte x OnOfStatusRequest (OffOfStatusRequest ∷ Once ∷ [])) refl (λ h. refl) (λ any. in_first status_request_byte OnOfStatusRequest (OffOfStatusRequest ∷ Once ∷ []) x any)

pub deck_info_kept : (x : ℕ) → deck_info_byte (deck_info_at x) ≡ x
deck_info_kept x =
    kept_by deck_info_byte x (is_unlisted DeckInfoWords x) (list_any (λ w. w.code == x) (words_of DeckInfoWords)) (λ h. OtherOfDeckInfo (record { byte = x; unlisted = h }))
    (with_byte deck_info_byte x Play (Still ∷ FastForward ∷ FastReverse ∷ NoMedia ∷ Stop ∷ SkipForward ∷ SkipReverse ∷ [])) refl (λ h. refl) (λ any. in_first deck_info_byte Play (Still ∷ FastForward ∷ FastReverse ∷ NoMedia ∷ Stop ∷ SkipForward ∷ SkipReverse ∷ []) x any)

pub play_mode_kept : (x : ℕ) → play_mode_byte (play_mode_at x) ≡ x
play_mode_kept x =
    kept_by play_mode_byte x (is_unlisted PlayModeWords x) (list_any (λ w. w.code == x) (words_of PlayModeWords)) (λ h. OtherOfPlayMode (record { byte = x; unlisted = h }))
    (with_byte play_mode_byte x Forward (StillOfPlayMode ∷ FastForwardMin ∷ FastForwardMid ∷ FastForwardMax ∷ FastReverseMin ∷ FastReverseMid ∷ FastReverseMax ∷ [])) refl (λ h. refl) (λ any. in_first play_mode_byte Forward (StillOfPlayMode ∷ FastForwardMin ∷ FastForwardMid ∷ FastForwardMax ∷ FastReverseMin ∷ FastReverseMid ∷ FastReverseMax ∷ []) x any)

pub deck_control_kept : (x : ℕ) → deck_control_byte (deck_control_at x) ≡ x
deck_control_kept x =
    kept_by deck_control_byte x (is_unlisted DeckControlWords x) (list_any (λ w. w.code == x) (words_of DeckControlWords)) (λ h. OtherOfDeckControlMode (record { byte = x; unlisted = h }))
    (with_byte deck_control_byte x SkipForwardOfDeckControlMode (SkipReverseOfDeckControlMode ∷ StopOfDeckControlMode ∷ Eject ∷ [])) refl (λ h. refl) (λ any. in_first deck_control_byte SkipForwardOfDeckControlMode (SkipReverseOfDeckControlMode ∷ StopOfDeckControlMode ∷ Eject ∷ []) x any)

pub display_kept : (x : ℕ) → display_byte (display_at x) ≡ x
display_kept x =
    kept_by display_byte x (is_unlisted DisplayWords x) (list_any (λ w. w.code == x) (words_of DisplayWords)) (λ h. OtherOfDisplay (record { byte = x; unlisted = h }))
    (with_byte display_byte x Default (Hold ∷ Clear ∷ [])) refl (λ h. refl) (λ any. in_first display_byte Default (Hold ∷ Clear ∷ []) x any)

pub menu_request_kept : (x : ℕ) → menu_request_byte (menu_request_at x) ≡ x
menu_request_kept x =
    kept_by menu_request_byte x (is_unlisted MenuRequestWords x) (list_any (λ w. w.code == x) (words_of MenuRequestWords)) (λ h. OtherOfMenuRequestType (record { byte = x; unlisted = h }))
    (with_byte menu_request_byte x Activate (Deactivate ∷ Query ∷ [])) refl (λ h. refl) (λ any. in_first menu_request_byte Activate (Deactivate ∷ Query ∷ []) x any)

pub menu_state_kept : (x : ℕ) → menu_state_byte (menu_state_at x) ≡ x
menu_state_kept x =
    kept_by menu_state_byte x (is_unlisted MenuStateWords x) (list_any (λ w. w.code == x) (words_of MenuStateWords)) (λ h. OtherOfMenuState (record { byte = x; unlisted = h }))
    (with_byte menu_state_byte x Activated (Deactivated ∷ [])) refl (λ h. refl) (λ any. in_first menu_state_byte Activated (Deactivated ∷ []) x any)

pub user_control_kept : (x : ℕ) → user_control_byte (user_control_at x) ≡ x
user_control_kept x =
    kept_by user_control_byte x (is_unlisted UserControlWords x) (list_any (λ w. w.code == x) (words_of UserControlWords)) (λ h. OtherOfUserControl (record { byte = x; unlisted = h }))
    (with_byte user_control_byte x Select (Up ∷ Down ∷ Left ∷ Right ∷ RootMenu ∷ Exit ∷ Digit0 ∷ Digit1 ∷ Digit2 ∷ Digit3 ∷ Digit4 ∷ Digit5 ∷ Digit6 ∷ Digit7 ∷ Digit8 ∷ Digit9 ∷ PowerKey ∷ VolumeUp ∷ VolumeDown ∷ Mute ∷ PlayOfUserControl ∷ StopOfUserControl ∷ Pause ∷ PowerOff ∷ PowerOn ∷ [])) refl (λ h. refl) (λ any. in_first user_control_byte Select (Up ∷ Down ∷ Left ∷ Right ∷ RootMenu ∷ Exit ∷ Digit0 ∷ Digit1 ∷ Digit2 ∷ Digit3 ∷ Digit4 ∷ Digit5 ∷ Digit6 ∷ Digit7 ∷ Digit8 ∷ Digit9 ∷ PowerKey ∷ VolumeUp ∷ VolumeDown ∷ Mute ∷ PlayOfUserControl ∷ StopOfUserControl ∷ Pause ∷ PowerOff ∷ PowerOn ∷ []) x any)

sound : (b : Bool) (x : ℕ) → nat_le 128 x ≡ b → x < 256 → (cond b (x % 128 + 128) (x % 128)) ≡ x
sound true x e h = grind (arith, tests)
sound false x e h = grind (arith, tests)

pub status_kept : (x : ℕ) → x < 256 → status_byte (status_at x) ≡ x
status_kept x h = sound (nat_le 128 x) x refl h
