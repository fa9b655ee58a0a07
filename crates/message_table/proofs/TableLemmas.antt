-- A message is read back from its spelling.
use Rattle.std.proofs.Common.{◌≡◌, ℕ, ◌<◌, Bool, true, false, cond, refl, ap, ◌∙◌, subst, arith, List, [], ◌∷◌, Option, Some, None, ◌++◌, find, is_some, ◌==◌}
use borrow.Author.Tests.{tests}
use Rattle.std.specs.Coded.{le_prop}
use Rattle.message_table.proofs.WordLemmas.{reason_again, power_again, system_audio_again, device_type_again, version_again, status_request_again, deck_info_again, play_mode_again, deck_control_again, display_again, menu_request_again, menu_state_again, user_control_again}
use Rattle.message_table.specs.ScreenWords.{display_byte}
use Rattle.message_table.specs.declared.screen_words.Display.{Display}
use Rattle.message_table.specs.Words.{status_at, status_byte}
use Rattle.message_table.specs.declared.words.AudioStatus.{AudioStatus}
use Rattle.std.proofs.Common.{is_none}
use Rattle.std.proofs.lemmas.Bool.{eqb-true}
use Rattle.message_table.specs.Table.{Row, decoding, decoded_of, enough, is_own_message, is_raw_opcode, meaning, named_rows, raw_rows, read_as, row_of, spelling}
use Rattle.message_table.specs.declared.message.Message.{Message}
use Rattle.message_table.specs.declared.message.Message.TheVariants.{FeatureAbort, ImageViewOn, TextViewOn, GiveDeckStatus, DeckStatus, SetMenuLanguage, Standby as StandbyMessage, Play, DeckControl, UserControlPressed, UserControlReleased, GiveOsdName, SetOsdName, SetOsdString, SystemAudioModeRequest, GiveAudioStatus, SetSystemAudioMode, ReportAudioStatus, GiveSystemAudioModeStatus, SystemAudioModeStatus, RoutingChange, RoutingInformation, ActiveSource, GivePhysicalAddress, ReportPhysicalAddress, RequestActiveSource, SetStreamPath, DeviceVendorId, GiveDeviceVendorId, MenuRequest, MenuStatus, GiveDevicePowerStatus, ReportPowerStatus, GetMenuLanguage, InactiveSource, CecVersion, GetCecVersion, InitiateArc, ReportArcInitiated, ReportArcTerminated, RequestArcInitiation, RequestArcTermination, TerminateArc, Abort, Raw, Unknown}
use Rattle.message_table.specs.declared.message.Decoded.TheVariants.{Known, Unknown as NoName}

abbrev made : (m : Bool) (v : ℕ) → v < 128 → AudioStatus
made m v h = record { muted = m; volume = v; in_range = h }

same_status : (m n : Bool) (v w : ℕ) (h : v < 128) (k : w < 128) → m ≡ n → v ≡ w → made m v h ≡ made n w k
same_status m n v w h k e f =
    let at_w : (w : ℕ) → v ≡ w → (k : w < 128) → made m v h ≡ made m w k =
    λ w f. subst (λ (w : ℕ). (k : w < 128) → made m v h ≡ made m w k) f (λ k. ap (λ h. made m v h) (le_prop h k)) in
    subst (λ (n : Bool). made m v h ≡ made n w k) e (at_w w f k)

status_at-of : (m : Bool) (v : ℕ) (h : v < 128) → status_at (status_byte (made m v h)) ≡ made m v h
status_at-of true v h = same_status _ _ _ _ _ h (grind (arith, tests)) (omega arith)
status_at-of false v h = same_status _ _ _ _ _ h (grind (arith, tests)) (omega arith)

pub status_at-status_byte : (s : AudioStatus) → status_at (status_byte s) ≡ s
status_at-status_byte s = status_at-of s.muted s.volume s.in_range

named : (text : List ℕ) → is_own_message (SetOsdName (record { items = text })) ≡ true
    → read_as 0x47 (enough 1 text (SetOsdName (record { items = text }))) ≡ Known (SetOsdName (record { items = text }))
named text own = grind (arith, tests)

shown : (display : Display) (text : List ℕ)
    → read_as 0x64 (enough 1 (display_byte display ∷ text) (SetOsdString display (record { items = text }))) ≡ Known (SetOsdString display (record { items = text }))
shown display text = grind (arith, tests)

no_name : (op : ℕ) (xs : List ℕ) (r : Option Row) → is_none r ≡ true → decoding op xs r ≡ NoName op
no_name op xs None e = refl
no_name op xs (Some r) e = cc

abbrev pub EachCode : List Row → (ℕ → Type 0) → Type 0
EachCode [] P = Unit {0}
EachCode (r ∷ rs) P = P r.code × EachCode rs P

split : (op : ℕ) (P : ℕ → Type 0) (r : Row) (rest : Option Row) (b : Bool) → (r.code == op) ≡ b → P r.code
    → (is_some rest ≡ true → P op) → is_some (cond b (Some r) rest) ≡ true → P op
split op P r rest true e here there own = subst P (eqb-true _ _ e) here
split op P r rest false e here there own = there own

-- what holds of each code in the rows holds of a code that is found there
pub found : (op : ℕ) (P : ℕ → Type 0) (rs : List Row) → EachCode rs P → is_some (find (λ r. r.code == op) rs) ≡ true → P op
found op P [] each own = absurd (cc)
found op P (r ∷ rs) each own =
    split op P r (find (λ r. r.code == op) rs) (r.code == op) refl each.0 (found op P rs each.1) own

abbrev IsKept : ℕ → Type 0
IsKept op = (xs : List ℕ) → decoding op xs (row_of op) ≡ Known (Raw op (record { items = xs }))

-- an opcode whose operands are kept as they are
pub raw_again : (op : ℕ) (xs : List ℕ) → is_raw_opcode op ≡ true → decoding op xs (row_of op) ≡ Known (Raw op (record { items = xs }))
raw_again op xs own =
    found op IsKept raw_rows ((λ _. refl, (λ _. refl, (λ _. refl, (λ _. refl, (λ _. refl, (λ _. refl, (λ _. refl, (λ _. refl, (λ _. refl, (λ _. refl, (λ _. refl, (λ _. refl, (λ _. refl, (λ _. refl, (λ _. refl, (λ _. refl, (λ _. refl, (λ _. refl, (λ _. refl, (λ _. refl, (λ _. refl, (λ _. refl, (λ _. refl, (λ _. refl, tt))))))))))))))))))))))))) own xs

after_none : (p : Row → Bool) (rs more : List Row) → is_none (find p rs) ≡ true → find p (rs ++ more) ≡ find p more
after_none p [] more e = refl
after_none p (r ∷ rs) more e = at_head (p r) refl e (after_none p rs more)
  where
    at_head : (b : Bool) → p r ≡ b → is_none (cond b (Some r) (find p rs)) ≡ true → (is_none (find p rs) ≡ true → find p (rs ++ more) ≡ find p more) → cond b (Some r) (find p (rs ++ more)) ≡ find p more
    at_head true here e later = cc
    at_head false here e later = later e

none_of : (r : Option Row) → is_some r ≡ false → is_none r ≡ true
none_of None e = refl
none_of (Some r) e = cc

-- an opcode that has no name
pub nameless : (op : ℕ) (xs : List ℕ) → is_none (find (λ r. r.code == op) named_rows) ≡ true → is_raw_opcode op ≡ false → decoding op xs (row_of op) ≡ NoName op
nameless op xs e f =
    no_name op xs (row_of op) (ap is_none (after_none (λ r. r.code == op) named_rows raw_rows e) ∙ none_of (find (λ r. r.code == op) raw_rows) f)

pub again : (h : ℕ) (m : Message) → is_own_message m ≡ true → decoded_of (h ∷ spelling m) ≡ meaning m
again h (FeatureAbort opcode reason) own = ap (λ r. Known (FeatureAbort opcode r)) (reason_again reason)
again h ImageViewOn own = refl
again h TextViewOn own = refl
again h (GiveDeckStatus request) own = ap (λ r. Known (GiveDeckStatus r)) (status_request_again request)
again h (DeckStatus deck) own = ap (λ d. Known (DeckStatus d)) (deck_info_again deck)
again h (SetMenuLanguage language) own = refl
again h StandbyMessage own = refl
again h (Play mode) own = ap (λ m. Known (Play m)) (play_mode_again mode)
again h (DeckControl control) own = ap (λ d. Known (DeckControl d)) (deck_control_again control)
again h (UserControlPressed code) own = ap (λ c. Known (UserControlPressed c)) (user_control_again code)
again h UserControlReleased own = refl
again h GiveOsdName own = refl
again h (SetOsdName text) own = named text.items own
again h (SetOsdString display text) own = ap (λ d. read_as 0x64 (enough 1 (display_byte display ∷ text.items) (SetOsdString d text))) (display_again display) ∙ shown display text.items
again h (SystemAudioModeRequest None) own = refl
again h (SystemAudioModeRequest (Some address)) own = refl
again h GiveAudioStatus own = refl
again h (SetSystemAudioMode audio) own = ap (λ a. Known (SetSystemAudioMode a)) (system_audio_again audio)
again h (ReportAudioStatus status) own = ap (λ s. Known (ReportAudioStatus s)) (status_at-status_byte status)
again h GiveSystemAudioModeStatus own = refl
again h (SystemAudioModeStatus audio) own = ap (λ a. Known (SystemAudioModeStatus a)) (system_audio_again audio)
again h (RoutingChange x y) own = refl
again h (RoutingInformation address) own = refl
again h (ActiveSource address) own = refl
again h GivePhysicalAddress own = refl
again h (ReportPhysicalAddress address kind) own = ap (λ k. Known (ReportPhysicalAddress address k)) (device_type_again kind)
again h RequestActiveSource own = refl
again h (SetStreamPath address) own = refl
again h (DeviceVendorId vendor) own = refl
again h GiveDeviceVendorId own = refl
again h (MenuRequest request) own = ap (λ r. Known (MenuRequest r)) (menu_request_again request)
again h (MenuStatus menu) own = ap (λ m. Known (MenuStatus m)) (menu_state_again menu)
again h GiveDevicePowerStatus own = refl
again h (ReportPowerStatus power) own = ap (λ p. Known (ReportPowerStatus p)) (power_again power)
again h GetMenuLanguage own = refl
again h (InactiveSource address) own = refl
again h (CecVersion version) own = ap (λ v. Known (CecVersion v)) (version_again version)
again h GetCecVersion own = refl
again h InitiateArc own = refl
again h ReportArcInitiated own = refl
again h ReportArcTerminated own = refl
again h RequestArcInitiation own = refl
again h RequestArcTermination own = refl
again h TerminateArc own = refl
again h Abort own = refl
again h (Raw opcode operands) own = raw_again opcode operands.items own
again h (Unknown opcode operands) own = no_name opcode operands.items (row_of opcode) own
