-- Operands that are as many as their row has are kept by the message that they say.
use Rattle.std.proofs.Common.{◌≡◌, ℕ, ◌<◌, ◌≤◌, nat_le, nat_lt, Bool, true, false, cond, List, [], ◌∷◌, length, slice_index, drop, Some, None, ◌==◌, ◌&&◌, ◌||◌, refl, ap, arith}
use borrow.Author.Tests.{tests, ltb-true}
use Rattle.message_table.specs.Words.{status_at}
use Rattle.message_table.specs.ScreenWords.{display_at}
use Rattle.text_core.specs.Bytes.{are_bytes}
use Rattle.message_table.specs.Laws.{KeepsOperands, SaysOperands, fits}
use Rattle.message_table.specs.Table.{address, byte, deck_control, deck_info, device_type, language, menu_request, menu_state, play_mode, power, reason, status_request, system_audio, user_control, vendor, version, decoding, enough, operands_of, read_as, row_of, rows, spelling}
use Rattle.message_table.proofs.KeptLemmas.{deck_control_kept, deck_info_kept, device_type_kept, menu_request_kept, menu_state_kept, play_mode_kept, power_kept, reason_kept, status_request_kept, system_audio_kept, user_control_kept, version_kept, display_kept, status_kept}
use Rattle.message_table.proofs.TableLemmas.{EachCode, found}
use Rattle.message_table.specs.declared.message.Message.{Message}
use Rattle.message_table.specs.declared.message.Message.TheVariants.{FeatureAbort, ImageViewOn, TextViewOn, GiveDeckStatus, DeckStatus, SetMenuLanguage, Standby, Play, DeckControl, UserControlPressed, UserControlReleased, GiveOsdName, SetOsdName, SetOsdString, SystemAudioModeRequest, GiveAudioStatus, SetSystemAudioMode, ReportAudioStatus, GiveSystemAudioModeStatus, SystemAudioModeStatus, RoutingChange, RoutingInformation, ActiveSource, GivePhysicalAddress, ReportPhysicalAddress, RequestActiveSource, SetStreamPath, DeviceVendorId, GiveDeviceVendorId, MenuRequest, MenuStatus, GiveDevicePowerStatus, ReportPowerStatus, GetMenuLanguage, InactiveSource, CecVersion, GetCecVersion, InitiateArc, ReportArcInitiated, ReportArcTerminated, RequestArcInitiation, RequestArcTermination, TerminateArc, Abort, Raw}
use Rattle.message_table.specs.declared.message.Decoded.{Decoded}
use Rattle.message_table.specs.declared.message.Decoded.TheVariants.{Known}

and_first : (x : ℕ) (xs : List ℕ) → are_bytes (x ∷ xs) ≡ true → x < 256
and_first x xs e = ltb-true _ _ (by (nat_lt x 256) (are_bytes xs) e)
  where
    by : (a b : Bool) → (a && b) ≡ true → a ≡ true
    by true b e = refl
    by false b e = cc

-- what a row's message keeps
abbrev Keeps : ℕ → (List ℕ → Bool) → (List ℕ → Decoded) → Type 0
Keeps op fitting read = (xs : List ℕ) → are_bytes xs ≡ true → fitting xs ≡ true → SaysOperands op xs (read xs)

abbrev exactly : ℕ → List ℕ → Bool
exactly n xs = nat_le n (length xs) && nat_le (length xs) n

says : (op : ℕ) (xs : List ℕ) (m : Message) → spelling m ≡ op ∷ xs → SaysOperands op xs (Known m)
says op xs m s = record { message = m; said = refl; sent = s }

no_more : (n : ℕ) (xs : List ℕ) → exactly n xs ≡ true → length xs ≡ n
no_more n xs h = grind (arith, tests)

nothing_row : (op : ℕ) (a : Message) → spelling a ≡ op ∷ [] → Keeps op (exactly 0) (λ _. Known a)
nothing_row op a s [] bytes h = says op [] a s
nothing_row op a s (x ∷ xs) bytes h = let n = no_more 0 (x ∷ xs) h in absurd (omega arith)

one_small_row : (op : ℕ) (read : List ℕ → Message) → ((x : ℕ) → x < 256 → spelling (read (x ∷ [])) ≡ op ∷ x ∷ []) → Keeps op (exactly 1) (λ xs. read_as op (enough 1 xs (read xs)))
one_small_row op read s [] bytes h = absurd (omega (arith, no_more 1 [] h))
one_small_row op read s (x ∷ []) bytes h = says op (x ∷ []) (read (x ∷ [])) (s x (and_first x [] bytes))
one_small_row op read s (x ∷ y ∷ xs) bytes h = absurd (omega (arith, no_more 1 (x ∷ y ∷ xs) h))

one_row : (op : ℕ) (read : List ℕ → Message) → ((x : ℕ) → spelling (read (x ∷ [])) ≡ op ∷ x ∷ []) → Keeps op (exactly 1) (λ xs. read_as op (enough 1 xs (read xs)))
one_row op read s = one_small_row op read (λ x _. s x)

two_row : (op : ℕ) (read : List ℕ → Message) → ((x y : ℕ) → spelling (read (x ∷ y ∷ [])) ≡ op ∷ x ∷ y ∷ []) → Keeps op (exactly 2) (λ xs. read_as op (enough 2 xs (read xs)))
two_row op read s [] bytes h = absurd (omega (arith, no_more 2 [] h))
two_row op read s (x ∷ []) bytes h = absurd (omega (arith, no_more 2 (x ∷ []) h))
two_row op read s (x ∷ y ∷ []) bytes h = says op (x ∷ y ∷ []) (read (x ∷ y ∷ [])) (s x y)
two_row op read s (x ∷ y ∷ z ∷ xs) bytes h = absurd (omega (arith, no_more 2 (x ∷ y ∷ z ∷ xs) h))

three_row : (op : ℕ) (read : List ℕ → Message) → ((x y z : ℕ) → spelling (read (x ∷ y ∷ z ∷ [])) ≡ op ∷ x ∷ y ∷ z ∷ []) → Keeps op (exactly 3) (λ xs. read_as op (enough 3 xs (read xs)))
three_row op read s [] bytes h = absurd (omega (arith, no_more 3 [] h))
three_row op read s (x ∷ []) bytes h = absurd (omega (arith, no_more 3 (x ∷ []) h))
three_row op read s (x ∷ y ∷ []) bytes h = absurd (omega (arith, no_more 3 (x ∷ y ∷ []) h))
three_row op read s (x ∷ y ∷ z ∷ []) bytes h = says op (x ∷ y ∷ z ∷ []) (read (x ∷ y ∷ z ∷ [])) (s x y z)
three_row op read s (x ∷ y ∷ z ∷ w ∷ xs) bytes h = absurd (omega (arith, no_more 3 (x ∷ y ∷ z ∷ w ∷ xs) h))

four_row : (op : ℕ) (read : List ℕ → Message) → ((x y z w : ℕ) → spelling (read (x ∷ y ∷ z ∷ w ∷ [])) ≡ op ∷ x ∷ y ∷ z ∷ w ∷ []) → Keeps op (exactly 4) (λ xs. read_as op (enough 4 xs (read xs)))
four_row op read s [] bytes h = absurd (omega (arith, no_more 4 [] h))
four_row op read s (x ∷ []) bytes h = absurd (omega (arith, no_more 4 (x ∷ []) h))
four_row op read s (x ∷ y ∷ []) bytes h = absurd (omega (arith, no_more 4 (x ∷ y ∷ []) h))
four_row op read s (x ∷ y ∷ z ∷ []) bytes h = absurd (omega (arith, no_more 4 (x ∷ y ∷ z ∷ []) h))
four_row op read s (x ∷ y ∷ z ∷ w ∷ []) bytes h = says op (x ∷ y ∷ z ∷ w ∷ []) (read (x ∷ y ∷ z ∷ w ∷ [])) (s x y z w)
four_row op read s (x ∷ y ∷ z ∷ w ∷ v ∷ xs) bytes h = absurd (omega (arith, no_more 4 (x ∷ y ∷ z ∷ w ∷ v ∷ xs) h))

volume_row : Keeps 0x7a (exactly 1) (λ xs. decoding 0x7a xs (row_of 0x7a))
volume_row = one_small_row 0x7a (λ xs. ReportAudioStatus (status_at (slice_index xs 0))) (λ x h. ap (λ b. 0x7a ∷ b ∷ []) (status_kept x h))

enough_by : (op : ℕ) (xs : List ℕ) (b : Bool) (m : Message) → b ≡ true → spelling m ≡ op ∷ xs → SaysOperands op xs (read_as op (cond b (Some m) None))
enough_by op xs true m h s = says op xs m s
enough_by op xs false m h s = cc

some : (x : ℕ) (xs : List ℕ) → nat_le 1 (length (x ∷ xs)) ≡ true
some x xs = grind (arith, tests)

abbrev textual : List ℕ → Bool
textual xs = nat_le 1 (length xs) && nat_le (length xs) 14

text_row : Keeps 0x47 textual (λ xs. decoding 0x47 xs (row_of 0x47))
text_row [] bytes h = cc
text_row (x ∷ xs) bytes h = enough_by 0x47 (x ∷ xs) _ (SetOsdName (record { items = x ∷ xs })) (some x xs) refl

word_and_text_row : Keeps 0x64 textual (λ xs. decoding 0x64 xs (row_of 0x64))
word_and_text_row [] bytes h = cc
word_and_text_row (x ∷ xs) bytes h =
    enough_by 0x64 (x ∷ xs) _ (SetOsdString (display_at x) (record { items = xs })) (some x xs) (ap (λ b. 0x64 ∷ b ∷ xs) (display_kept x))

none_or_two : (xs : List ℕ) → ((length xs == 0) || (length xs == 2)) ≡ true → (length xs ≡ 1 → ⊥) × (length xs ≤ 2)
none_or_two xs h = (λ e. grind (arith, tests), grind (arith, tests))

optional_row : Keeps 0x70 (λ xs. (length xs == 0) || (length xs == 2)) (λ xs. decoding 0x70 xs (row_of 0x70))
optional_row [] bytes h = says 0x70 [] (SystemAudioModeRequest None) refl
optional_row (x ∷ []) bytes h = absurd ((none_or_two (x ∷ []) h).0 refl)
optional_row (x ∷ y ∷ []) bytes h = says 0x70 (x ∷ y ∷ []) (SystemAudioModeRequest (Some (address.meaning_of (x ∷ y ∷ [])))) refl
optional_row (x ∷ y ∷ z ∷ xs) bytes h = absurd (omega (arith, (none_or_two (x ∷ y ∷ z ∷ xs) h).1))

raw_row : (op : ℕ) → Keeps op (λ xs. nat_le 0 (length xs) && nat_le (length xs) 14) (λ xs. Known (Raw op (record { items = xs })))
raw_row op xs bytes h = says op xs (Raw op (record { items = xs })) refl

abbrev IsKept : ℕ → Type 0
IsKept op = (xs : List ℕ) → are_bytes xs ≡ true → fits (operands_of op) xs ≡ true → SaysOperands op xs (decoding op xs (row_of op))

each : EachCode rows IsKept
each = (
  two_row 0x00 (λ xs. FeatureAbort (byte.meaning_of xs) (reason.meaning_of (drop 1 xs))) (λ x y. ap (λ b. 0x00 ∷ x ∷ b ∷ []) (reason_kept y)),
  (
    nothing_row 0x04 ImageViewOn refl,
    (
      nothing_row 0x0d TextViewOn refl,
      (
        one_row 0x1a (λ xs. GiveDeckStatus (status_request.meaning_of xs)) (λ x. ap (λ b. 0x1a ∷ b ∷ []) (status_request_kept x)),
        (
          one_row 0x1b (λ xs. DeckStatus (deck_info.meaning_of xs)) (λ x. ap (λ b. 0x1b ∷ b ∷ []) (deck_info_kept x)),
          (
            three_row 0x32 (λ xs. SetMenuLanguage (language.meaning_of xs)) (λ x y z. refl),
            (
              nothing_row 0x36 Standby refl,
              (
                one_row 0x41 (λ xs. Play (play_mode.meaning_of xs)) (λ x. ap (λ b. 0x41 ∷ b ∷ []) (play_mode_kept x)),
                (
                  one_row 0x42 (λ xs. DeckControl (deck_control.meaning_of xs)) (λ x. ap (λ b. 0x42 ∷ b ∷ []) (deck_control_kept x)),
                  (
                    one_row 0x44 (λ xs. UserControlPressed (user_control.meaning_of xs)) (λ x. ap (λ b. 0x44 ∷ b ∷ []) (user_control_kept x)),
                    (
                      nothing_row 0x45 UserControlReleased refl,
                      (
                        nothing_row 0x46 GiveOsdName refl,
                        (
                          text_row,
                          (
                            word_and_text_row,
                            (
                              optional_row,
                              (
                                nothing_row 0x71 GiveAudioStatus refl,
                                (
                                  one_row 0x72 (λ xs. SetSystemAudioMode (system_audio.meaning_of xs)) (λ x. ap (λ b. 0x72 ∷ b ∷ []) (system_audio_kept x)),
                                  (
                                    volume_row,
                                    (
                                      nothing_row 0x7d GiveSystemAudioModeStatus refl,
                                      (
                                        one_row 0x7e (λ xs. SystemAudioModeStatus (system_audio.meaning_of xs)) (λ x. ap (λ b. 0x7e ∷ b ∷ []) (system_audio_kept x)),
                                        (
                                          four_row 0x80 (λ xs. RoutingChange (address.meaning_of xs) (address.meaning_of (drop 2 xs))) (λ x y z w. refl),
                                          (
                                            two_row 0x81 (λ xs. RoutingInformation (address.meaning_of xs)) (λ x y. refl),
                                            (
                                              two_row 0x82 (λ xs. ActiveSource (address.meaning_of xs)) (λ x y. refl),
                                              (
                                                nothing_row 0x83 GivePhysicalAddress refl,
                                                (
                                                  three_row 0x84 (λ xs. ReportPhysicalAddress (address.meaning_of xs) (device_type.meaning_of (drop 2 xs))) (λ x y z. ap (λ b. 0x84 ∷ x ∷ y ∷ b ∷ []) (device_type_kept z)),
                                                  (
                                                    nothing_row 0x85 RequestActiveSource refl,
                                                    (
                                                      two_row 0x86 (λ xs. SetStreamPath (address.meaning_of xs)) (λ x y. refl),
                                                      (
                                                        three_row 0x87 (λ xs. DeviceVendorId (vendor.meaning_of xs)) (λ x y z. refl),
                                                        (
                                                          nothing_row 0x8c GiveDeviceVendorId refl,
                                                          (
                                                            one_row 0x8d (λ xs. MenuRequest (menu_request.meaning_of xs)) (λ x. ap (λ b. 0x8d ∷ b ∷ []) (menu_request_kept x)),
                                                            (
                                                              one_row 0x8e (λ xs. MenuStatus (menu_state.meaning_of xs)) (λ x. ap (λ b. 0x8e ∷ b ∷ []) (menu_state_kept x)),
                                                              (
                                                                nothing_row 0x8f GiveDevicePowerStatus refl,
                                                                (
                                                                  one_row 0x90 (λ xs. ReportPowerStatus (power.meaning_of xs)) (λ x. ap (λ b. 0x90 ∷ b ∷ []) (power_kept x)),
                                                                  (
                                                                    nothing_row 0x91 GetMenuLanguage refl,
                                                                    (
                                                                      two_row 0x9d (λ xs. InactiveSource (address.meaning_of xs)) (λ x y. refl),
                                                                      (
                                                                        one_row 0x9e (λ xs. CecVersion (version.meaning_of xs)) (λ x. ap (λ b. 0x9e ∷ b ∷ []) (version_kept x)),
                                                                        (
                                                                          nothing_row 0x9f GetCecVersion refl,
                                                                          (
                                                                            nothing_row 0xc0 InitiateArc refl,
                                                                            (
                                                                              nothing_row 0xc1 ReportArcInitiated refl,
                                                                              (
                                                                                nothing_row 0xc2 ReportArcTerminated refl,
                                                                                (
                                                                                  nothing_row 0xc3 RequestArcInitiation refl,
                                                                                  (
                                                                                    nothing_row 0xc4 RequestArcTermination refl,
                                                                                    (
                                                                                      nothing_row 0xc5 TerminateArc refl,
                                                                                      (
                                                                                        nothing_row 0xff Abort refl,
                                                                                        (
                                                                                          raw_row 0x05,
                                                                                          (
                                                                                            raw_row 0x06,
                                                                                            (
                                                                                              raw_row 0x07,
                                                                                              (
                                                                                                raw_row 0x08,
                                                                                                (
                                                                                                  raw_row 0x09,
                                                                                                  (
                                                                                                    raw_row 0x0a,
                                                                                                    (
                                                                                                      raw_row 0x0b,
                                                                                                      (
                                                                                                        raw_row 0x0f,
                                                                                                        (
                                                                                                          raw_row 0x33,
                                                                                                          (
                                                                                                            raw_row 0x34,
                                                                                                            (
                                                                                                              raw_row 0x35,
                                                                                                              (
                                                                                                                raw_row 0x43,
                                                                                                                (
                                                                                                                  raw_row 0x67,
                                                                                                                  (
                                                                                                                    raw_row 0x89,
                                                                                                                    (
                                                                                                                      raw_row 0x8a,
                                                                                                                      (
                                                                                                                        raw_row 0x8b,
                                                                                                                        (
                                                                                                                          raw_row 0x92,
                                                                                                                          (
                                                                                                                            raw_row 0x93,
                                                                                                                            (
                                                                                                                              raw_row 0x97,
                                                                                                                              (
                                                                                                                                raw_row 0x99,
                                                                                                                                (
                                                                                                                                  raw_row 0x9a,
                                                                                                                                  (
                                                                                                                                    raw_row 0xa0,
                                                                                                                                    (
                                                                                                                                      raw_row 0xa1,
                                                                                                                                      (
                                                                                                                                        raw_row 0xa2,
                                                                                                                                        tt,
                                                                                                                                      ),
                                                                                                                                    ),
                                                                                                                                  ),
                                                                                                                                ),
                                                                                                                              ),
                                                                                                                            ),
                                                                                                                          ),
                                                                                                                        ),
                                                                                                                      ),
                                                                                                                    ),
                                                                                                                  ),
                                                                                                                ),
                                                                                                              ),
                                                                                                            ),
                                                                                                          ),
                                                                                                        ),
                                                                                                      ),
                                                                                                    ),
                                                                                                  ),
                                                                                                ),
                                                                                              ),
                                                                                            ),
                                                                                          ),
                                                                                        ),
                                                                                      ),
                                                                                    ),
                                                                                  ),
                                                                                ),
                                                                              ),
                                                                            ),
                                                                          ),
                                                                        ),
                                                                      ),
                                                                    ),
                                                                  ),
                                                                ),
                                                              ),
                                                            ),
                                                          ),
                                                        ),
                                                      ),
                                                    ),
                                                  ),
                                                ),
                                              ),
                                            ),
                                          ),
                                        ),
                                      ),
                                    ),
                                  ),
                                ),
                              ),
                            ),
                          ),
                        ),
                      ),
                    ),
                  ),
                ),
              ),
            ),
          ),
        ),
      ),
    ),
  ),
)

pub operands_kept : (op : ℕ) → KeepsOperands op
operands_kept op xs named bytes h = found op IsKept rows each named xs bytes h
