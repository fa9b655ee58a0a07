-- How a reading ends is said.
use Rattle.std.proofs.Common.{◌≡◌, ℕ, zero, suc, ◌+◌, ◌-◌, ◌/◌, ◌%◌, ◌==◌, Bool, true, false, not, nat_lt, nat_le, ◌&&◌, ◌||◌, is_some, if◌then◌else◌, List, [], ◌∷◌, ◌++◌, length, Option, None, Some, option_map, refl, sym, ap, ◌∙◌, subst, arith}
use Rattle.std.specs.List.{list_any}
use Rattle.std.proofs.lemmas.Bool.{false≢true}
use Rattle.std.proofs.lemmas.Bool.Decides.{nat_tests}
use Rattle.line_frames.specs.declared.Ending.{Ending}
use Rattle.line_frames.specs.declared.Ending.TheVariants as endings
use Rattle.line_reading.specs.Readings.{Listed}
use Rattle.message_text.specs.ReadingText.{is_complete}
use Rattle.audit_widths.specs.declared.low.Low.{Low}
use Rattle.audit_widths.specs.declared.misfit.SlotWidth.{SlotWidth}
use Rattle.audit_widths.specs.declared.misfit.SlotWidth.TheVariants as widths
use Rattle.audit_widths.specs.declared.misfit.WidthWindow.{WidthWindow}
use Rattle.audit_widths.specs.declared.misfit.Misfit.{Misfit}
use Rattle.audit_widths.specs.Misfits.{drive_within, fits, is_total, low_by, low_misfit, low_window, misfit_of, total_by, total_misfit, total_window, window}
use Rattle.audit_widths.specs.Spreads.{no_widths, with_slots}
use Rattle.audit_judged.specs.declared.endings.Said.TheVariants.{Nothing, Allowed, Remarked}
use Rattle.audit_judged.specs.declared.endings.Cause.TheVariants as causes
use Rattle.audit_judged.specs.declared.endings.EndingRemark.TheVariants as remarks
use Rattle.audit_remarks.specs.declared.attempts.Attempts.{Attempts}
use Rattle.audit_remarks.specs.Attempts.{attempt_of, failure_at, failure_of, tries_again}
use Rattle.audit_remarks.specs.Endings.{ends_low, goes_on_after, is_bit, is_measured, is_stray, last_says, may_have_lost, measured_of, stops_of, unmeasured_of, unsaid_of, width_says}
use Rattle.audit_remarks.specs.Frames.{delivered_frame, sent_frame}
use Rattle.audit_remarks.specs.Free.{free_before, is_bad_start, too_soon}
use Rattle.audit_remarks.specs.Header.{ends_untaken, failed_block, is_last, seeks_address, stops_untaken, unfinished}
use Rattle.audit_remarks.specs.Series.{series_over}
use Rattle.audit_notes.specs.Lines.{AuditLine}
use Rattle.audit_notes.specs.declared.note.AuditNote.{AuditNote}
use Rattle.audit_notes.specs.declared.note.AuditNote.TheVariants as notes
use Rattle.audit_core.specs.declared.lines.LastSlot.{LastSlot}
use Rattle.audit_core.specs.declared.lines.LastSlot.TheVariants.{Own, Followed}
use Rattle.audit_core.specs.Lines.{answers_lines, ending_note, goes_on_note, last_by, last_of, misfit_lines, noted, slot_by, slot_low, slot_total, timing_lines}
use Rattle.audit_core.specs.Audit.{Tape, drive_of, first_begin, frame_lines, lows_of, read_lines, times_lines, unfinished_of}
use Rattle.audit_core.specs.Endings.{EndingsAreSaid, last_slot, says_ending}

-- ---- one of some lines says it

abbrev Says : ℕ → List AuditLine → Type 0
Says last lines = list_any (says_ending last) lines ≡ true

or_first : (b c d : Bool) → (c ≡ true → d ≡ true) → (b || c) ≡ true → (b || d) ≡ true
or_first true c d k h = refl
or_first false c d k h = k h

or_then : (b c : Bool) → c ≡ true → (b || c) ≡ true
or_then true c h = refl
or_then false c h = h

first_says : (last : ℕ) (xs ys : List AuditLine) → Says last xs → Says last (xs ++ ys)
first_says last [] ys h = absurd (false≢true h)
first_says last (x ∷ xs) ys h = or_first (says_ending last x) (list_any (says_ending last) xs) (list_any (says_ending last) (xs ++ ys)) (first_says last xs ys) h

then_says : (last : ℕ) (xs ys : List AuditLine) → Says last ys → Says last (xs ++ ys)
then_says last [] ys h = h
then_says last (x ∷ xs) ys h = or_then (says_ending last x) (list_any (says_ending last) (xs ++ ys)) (then_says last xs ys h)

-- of two tests one holds
either : {P : Type 0} (b c : Bool) → (b || c) ≡ true → (b ≡ true → P) → (b ≡ false → c ≡ true → P) → P
either true c h f g = f refl
either false c h f g = g refl h

both_hold : {P : Type 0} (b c : Bool) → (b && c) ≡ true → (b ≡ true → c ≡ true → P) → P
both_hold true c h f = f refl h
both_hold false c h f = absurd (false≢true h)

-- ---- a width

-- a misfit of that slot
abbrev IsAt : ℕ → Option Misfit → Type 0
IsAt slot None = Unit {0}
IsAt slot (Some m) = m.slot ≡ slot

at_slot : (slot : ℕ) (kind : SlotWidth) (w : WidthWindow) (width : ℕ) → IsAt slot (misfit_of slot kind w width)
at_slot slot kind w width = by (fits w width)
  where
    by : (b : Bool) → IsAt slot (if b then None else Some (record { slot = slot; kind = kind; micros = width; window = w }))
    by true = tt
    by false = refl

low_at_slot : (bits : List Bool) (slot fall : ℕ) (rise : Option ℕ) → IsAt slot (low_by bits slot fall rise)
low_at_slot bits slot fall None = tt
low_at_slot bits slot fall (Some rise) = at_slot slot widths.Low (low_window bits slot) (rise - fall)

total_at_slot : (ending : Ending) (last slot fall : ℕ) (next : Option ℕ) → IsAt slot (total_by ending last slot fall next)
total_at_slot ending last slot fall None = tt
total_at_slot ending last slot fall (Some next) = by (is_total ending last slot (next - fall))
  where
    by : (b : Bool) → IsAt slot (if b then misfit_of slot widths.Total (total_window slot) (next - fall) else None)
    by true = at_slot slot widths.Total (total_window slot) (next - fall)
    by false = tt

same : (n : ℕ) → (n == n) ≡ true
same n = grind (arith, nat_tests)

not_zero : (n : ℕ) → (suc n == 0) ≡ false
not_zero n = grind (arith, nat_tests)

misfit_says : (slot : ℕ) (o : Option Misfit) → IsAt slot o → is_some o ≡ true → Says slot (noted (option_map notes.Misfit o))
misfit_says slot None at h = absurd (false≢true h)
misfit_says slot (Some m) at h = ap (λ (n : ℕ). (n == slot) || false) at ∙ ap (λ (b : Bool). b || false) (same slot)

slot_says : (ending : Ending) (bits : List Bool) (slot : ℕ) (low : Low) → width_says ending bits slot low ≡ true
    → Says slot (noted (option_map notes.Misfit (low_misfit bits slot low)) ++ noted (option_map notes.Misfit (total_misfit ending bits slot low)))
slot_says ending bits slot low h =
    either (is_some (total_misfit ending bits slot low)) (ends_low ending low && is_some (low_misfit bits slot low)) h
    (λ total. then_says slot (noted (option_map notes.Misfit (low_misfit bits slot low))) (noted (option_map notes.Misfit (total_misfit ending bits slot low))) (misfit_says slot (total_misfit ending bits slot low) (total_at_slot ending (length bits) slot low.fall low.next) total))
    (λ none some. both_hold (ends_low ending low) (is_some (low_misfit bits slot low)) some
    (λ long out. first_says slot (noted (option_map notes.Misfit (low_misfit bits slot low))) (noted (option_map notes.Misfit (total_misfit ending bits slot low))) (misfit_says slot (low_misfit bits slot low) (low_at_slot bits slot low.fall low.rise) out)))

-- those of a slot before so many others
abbrev slot_lines : LastSlot → ℕ → Ending → List Bool → ℕ → Low → List AuditLine
slot_lines last left ending bits slot low =
    noted (option_map notes.Misfit (slot_low (slot_by last left) bits slot low)) ++ noted (option_map notes.Misfit (slot_total (slot_by last left) ending bits slot low))

-- of the slots from one on the last one
widths_say : (ending : Ending) (bits : List Bool) (slot : ℕ) (lows : List Low) (last : ℕ) → last ≡ slot + length lows - 1 → last_says ending bits slot lows ≡ true → Says last (misfit_lines Own ending bits slot lows)
widths_say ending bits slot [] last at h = absurd (false≢true h)
widths_say ending bits slot (low ∷ []) last at h =
    subst (λ (n : ℕ). Says n (misfit_lines Own ending bits slot (low ∷ []))) (let x : slot ≡ last = omega (arith, at) in x)
    (first_says slot (slot_lines Own 0 ending bits slot low) [] (slot_says ending bits slot low h))
widths_say ending bits slot (low ∷ next ∷ lows) last at h =
    then_says last (slot_lines Own (length (next ∷ lows)) ending bits slot low) (misfit_lines Own ending bits (slot + 1) (next ∷ lows))
    (widths_say ending bits (slot + 1) (next ∷ lows) last (let x : last ≡ slot + 1 + length (next ∷ lows) - 1 = omega (arith, at) in x)
    (subst (λ (b : Bool). (if b then width_says ending bits slot low else last_says ending bits (slot + 1) (next ∷ lows)) ≡ true) (not_zero (length lows)) h))

-- ---- what else is said

-- something is said
stops_say : (last : ℕ) (bits : List Bool) (b : Bool) (n : ℕ) → Says last (noted (ending_note bits (if b then Allowed causes.ArbitrationLost else Remarked (remarks.Stops n))))
stops_say last bits true n = refl
stops_say last bits false n = refl

stopped : (last : ℕ) (lows : List Low) (bits : List Bool) → Says last (noted (ending_note bits (stops_of lows bits)))
stopped last [] [] = refl
stopped last (low ∷ lows) [] = refl
stopped last lows (bit ∷ bits) = stops_say last (bit ∷ bits) (may_have_lost (bit ∷ bits)) (length (bit ∷ bits))

unsaid_says : (last : ℕ) (ending : Ending) (lows : List Low) (bits : List Bool) → is_complete ending ≡ false → Says last (noted (ending_note bits (unsaid_of ending lows bits)))
unsaid_says last endings.Complete lows bits h = absurd (false≢true (sym h))
unsaid_says last endings.Open lows bits h = refl
unsaid_says last endings.Short lows bits h = stopped last lows bits
unsaid_says last endings.Silent lows bits h = stopped last lows bits
unsaid_says last endings.BadStart lows bits h = stopped last lows bits
unsaid_says last endings.Long lows bits h = stopped last lows bits

-- a block that was not taken
untaken_says : (last : ℕ) (a : Attempts) (begin free : ℕ) (bits : List Bool) → ends_untaken bits ≡ true → Says last (noted (option_map notes.Attempt (failure_of a begin free bits)))
untaken_says last a begin free bits h = by (seeks_address bits) (length bits % 10 == 0) (failed_block bits) h
  where
    by : (b c : Bool) (o : Option ℕ) → (not b && (c && is_last (length bits / 10) o)) ≡ true → Says last (noted (option_map notes.Attempt (if b then None else failure_at (attempt_of a begin free bits) bits o)))
    by true c o k = absurd (false≢true k)
    by false false o k = absurd (false≢true k)
    by false true None k = absurd (false≢true k)
    by false true (Some block) k = refl

-- ---- a bit for a start bit

short_low : (w : ℕ) → nat_lt w 2600 ≡ true → is_some (misfit_of 0 widths.Low (window 3500 3900) w) ≡ true
short_low w h =
    ap (λ (b : Bool). let o : Option Misfit = if b && nat_le w 3900 then None else Some (record { slot = 0; kind = widths.Low; micros = w; window = window 3500 3900 }) in is_some o)
    (let x : nat_le 3500 w ≡ false = grind (arith, nat_tests) in x)

bit_low : (bits : List Bool) (fall : ℕ) (rise : Option ℕ) → is_bit fall rise ≡ true → is_some (low_by bits 0 fall rise) ≡ true
bit_low bits fall None h = absurd (false≢true h)
bit_low bits fall (Some rise) h = short_low (rise - fall) h

stray_says : (x : Listed) (bits : List Bool) (lows : List Low) → is_stray x lows ≡ true → Says (length lows - 1) (misfit_lines Followed x.reported.ending bits 0 lows)
stray_says x bits [] h = absurd (false≢true h)
stray_says x bits (low ∷ []) h =
    both_hold (is_bad_start x.reported.ending) (is_bit low.fall low.rise) h
    (λ bad bit. first_says 0 (slot_lines Followed 0 x.reported.ending bits 0 low) []
    (first_says 0 (noted (option_map notes.Misfit (low_misfit bits 0 low))) [] (misfit_says 0 (low_misfit bits 0 low) (low_at_slot bits 0 low.fall low.rise) (bit_low bits low.fall low.rise bit))))
stray_says x bits (low ∷ next ∷ lows) h =
    both_hold (is_bad_start x.reported.ending) ((length (next ∷ lows) == 0) && is_bit low.fall low.rise) h
    (λ bad more. both_hold (length (next ∷ lows) == 0) (is_bit low.fall low.rise) more (λ none bit. absurd (false≢true (sym (not_zero (length lows)) ∙ none))))

-- ---- all of a reading that is measured

-- a block that was not taken, and that it goes on
abbrev failed_in : Tape → Listed → List AuditLine
failed_in t x = noted (option_map notes.Attempt (failure_of t.attempts x.begin (free_before t.previous x.begin) x.reported.bits))

abbrev goes_in : Listed → List AuditLine
goes_in x = noted (goes_on_note x.reported.bits (goes_on_after x.reported.bits))

-- the lines by what was found: misfits, a drive after it, one within, the block, and what else
abbrev with_drive : List AuditLine → Option ℕ → List AuditLine
with_drive misfits drive = misfits ++ noted (option_map notes.LowDrive drive)

abbrev with_within : List AuditLine → Option ℕ → Option ℕ → List AuditLine
with_within misfits drive within = with_drive misfits drive ++ noted (option_map notes.DriveWithin within)

abbrev with_block : List AuditLine → Option ℕ → Option ℕ → Option ℕ → List AuditLine
with_block misfits drive within block = with_within misfits drive within ++ noted (option_map notes.Unfinished block)

abbrev found : Tape → Listed → List AuditLine → Option ℕ → Option ℕ → Option ℕ → Option AuditNote → List AuditLine
found t x misfits drive within block last_note = with_block misfits drive within block ++ failed_in t x ++ goes_in x ++ noted last_note

-- what follows the lines that say it
behind : (last : ℕ) (x : Listed) (lines : List AuditLine) (last_note : Option AuditNote) → Says last lines → Says last (lines ++ goes_in x ++ noted last_note)
behind last x lines last_note h = first_says last (lines ++ goes_in x) (noted last_note) (first_says last lines (goes_in x) h)

behind_block : (last : ℕ) (t : Tape) (x : Listed) (misfits : List AuditLine) (drive within block : Option ℕ) (last_note : Option AuditNote) → Says last (with_block misfits drive within block)
    → Says last (found t x misfits drive within block last_note)
behind_block last t x misfits drive within block last_note h =
    behind last x (with_block misfits drive within block ++ failed_in t x) last_note (first_says last (with_block misfits drive within block) (failed_in t x) h)

behind_within : (last : ℕ) (t : Tape) (x : Listed) (misfits : List AuditLine) (drive within block : Option ℕ) (last_note : Option AuditNote) → Says last (with_within misfits drive within)
    → Says last (found t x misfits drive within block last_note)
behind_within last t x misfits drive within block last_note h =
    behind_block last t x misfits drive within block last_note (first_says last (with_within misfits drive within) (noted (option_map notes.Unfinished block)) h)

behind_drive : (last : ℕ) (t : Tape) (x : Listed) (misfits : List AuditLine) (drive within block : Option ℕ) (last_note : Option AuditNote) → Says last (with_drive misfits drive)
    → Says last (found t x misfits drive within block last_note)
behind_drive last t x misfits drive within block last_note h =
    behind_within last t x misfits drive within block last_note (first_says last (with_drive misfits drive) (noted (option_map notes.DriveWithin within)) h)

drive_says : (last : ℕ) (t : Tape) (x : Listed) (misfits : List AuditLine) (width : ℕ) (within block : Option ℕ) (last_note : Option AuditNote) → Says last (found t x misfits (Some width) within block last_note)
drive_says last t x misfits width within block last_note =
    behind_drive last t x misfits (Some width) within block last_note (then_says last misfits (noted (option_map notes.LowDrive (Some width))) refl)

within_says : (last : ℕ) (t : Tape) (x : Listed) (misfits : List AuditLine) (drive : Option ℕ) (width : ℕ) (block : Option ℕ) (last_note : Option AuditNote) → Says last (found t x misfits drive (Some width) block last_note)
within_says last t x misfits drive width block last_note =
    behind_within last t x misfits drive (Some width) block last_note (then_says last (with_drive misfits drive) (noted (option_map notes.DriveWithin (Some width))) refl)

misfits_say : (last : ℕ) (t : Tape) (x : Listed) (misfits : List AuditLine) (drive within block : Option ℕ) (last_note : Option AuditNote) → Says last misfits → Says last (found t x misfits drive within block last_note)
misfits_say last t x misfits drive within block last_note h =
    behind_drive last t x misfits drive within block last_note (first_says last misfits (noted (option_map notes.LowDrive drive)) h)

block_says : (last : ℕ) (t : Tape) (x : Listed) (misfits : List AuditLine) (drive within block : Option ℕ) (last_note : Option AuditNote) → is_some block ≡ true → Says last (found t x misfits drive within block last_note)
block_says last t x misfits drive within None last_note h = absurd (false≢true h)
block_says last t x misfits drive within (Some block) last_note h =
    behind_block last t x misfits drive within (Some block) last_note (then_says last (with_within misfits drive within) (noted (option_map notes.Unfinished (Some block))) refl)

failed_says : (last : ℕ) (t : Tape) (x : Listed) (misfits : List AuditLine) (drive within block : Option ℕ) (last_note : Option AuditNote) → Says last (failed_in t x) → Says last (found t x misfits drive within block last_note)
failed_says last t x misfits drive within block last_note h =
    behind last x (with_block misfits drive within block ++ failed_in t x) last_note (then_says last (with_block misfits drive within block) (failed_in t x) h)

note_says_it : (last : ℕ) (t : Tape) (x : Listed) (misfits : List AuditLine) (drive within block : Option ℕ) (last_note : Option AuditNote) → Says last (noted last_note) → Says last (found t x misfits drive within block last_note)
note_says_it last t x misfits drive within block last_note h = then_says last (with_block misfits drive within block ++ failed_in t x ++ goes_in x) (noted last_note) h

-- its misfits, behind what was before it
abbrev misfits_by : Listed → List Low → List AuditLine → Bool → Bool → Option ℕ → List AuditLine
misfits_by x lows front stray followed within = front ++ misfit_lines (if stray then Followed else last_by followed within) x.reported.ending x.reported.bits 0 lows

width_lines : (last : ℕ) (x : Listed) (lows : List Low) (front : List AuditLine) → last ≡ length lows - 1 → last_says x.reported.ending x.reported.bits 0 lows ≡ true → (stray : Bool) → is_stray x lows ≡ stray
    → Says last (misfits_by x lows front stray false None)
width_lines last x lows front at e true is =
    then_says last front (misfit_lines Followed x.reported.ending x.reported.bits 0 lows) (subst (λ (n : ℕ). Says n (misfit_lines Followed x.reported.ending x.reported.bits 0 lows)) (sym at) (stray_says x x.reported.bits lows is))
width_lines last x lows front at e false is =
    then_says last front (misfit_lines Own x.reported.ending x.reported.bits 0 lows) (widths_say x.reported.ending x.reported.bits 0 lows last (let y : last ≡ 0 + length lows - 1 = omega (arith, at) in y) e)

-- by the block, and what was not taken
rest_says : (last : ℕ) (t : Tape) (x : Listed) (lows : List Low) (misfits : List AuditLine) → is_complete x.reported.ending ≡ false → (b c : Bool)
    → is_some (unfinished x.reported.ending x.reported.bits) ≡ b → ends_untaken x.reported.bits ≡ c
    → Says last (found t x misfits None None (unfinished x.reported.ending x.reported.bits) (ending_note x.reported.bits (if b || c then Nothing else unsaid_of x.reported.ending lows x.reported.bits)))
rest_says last t x lows misfits h true c f g = block_says last t x misfits None None (unfinished x.reported.ending x.reported.bits) None f
rest_says last t x lows misfits h false true f g =
    failed_says last t x misfits None None (unfinished x.reported.ending x.reported.bits) None (untaken_says last t.attempts x.begin (free_before t.previous x.begin) x.reported.bits g)
rest_says last t x lows misfits h false false f g =
    note_says_it last t x misfits None None (unfinished x.reported.ending x.reported.bits) (ending_note x.reported.bits (unsaid_of x.reported.ending lows x.reported.bits)) (unsaid_says last x.reported.ending lows x.reported.bits h)

abbrev block_by : Listed → Option ℕ → Bool → Option ℕ
block_by x within says = if is_some within || says then None else unfinished x.reported.ending x.reported.bits

-- what stops with a block that was not taken ends with it
stop_is_untaken : (ending : Ending) (bits : List Bool) → stops_untaken ending bits ≡ true → ends_untaken bits ≡ true
stop_is_untaken endings.Complete bits h = absurd (false≢true h)
stop_is_untaken endings.Short bits h = absurd (false≢true h)
stop_is_untaken endings.Silent bits h = h
stop_is_untaken endings.BadStart bits h = absurd (false≢true h)
stop_is_untaken endings.Long bits h = absurd (false≢true h)
stop_is_untaken endings.Open bits h = absurd (false≢true h)

-- whatever was found
all_say : (last : ℕ) (t : Tape) (x : Listed) (lows : List Low) (front : List AuditLine) → last ≡ length lows - 1 → is_complete x.reported.ending ≡ false → (stray : Bool) → is_stray x lows ≡ stray
    → (quiet : Bool) → stops_untaken x.reported.ending x.reported.bits ≡ quiet → (drive within : Option ℕ) (says : Bool) → last_says x.reported.ending x.reported.bits 0 lows ≡ says
    → Says last (found t x (misfits_by x lows front stray (is_some drive || quiet) within) drive within (block_by x within says)
    (ending_note x.reported.bits (if is_some drive || (is_some within || (says || (is_some (unfinished x.reported.ending x.reported.bits) || ends_untaken x.reported.bits))) then Nothing else unsaid_of x.reported.ending lows x.reported.bits)))
all_say last t x lows front at h stray is quiet q (Some width) within says e = drive_says last t x (misfits_by x lows front stray true within) width within (block_by x within says) None
all_say last t x lows front at h stray is quiet q None (Some width) says e = within_says last t x (misfits_by x lows front stray quiet (Some width)) None width (block_by x (Some width) says) None
all_say last t x lows front at h stray is true q None None says e =
    failed_says last t x (misfits_by x lows front stray true None) None None (block_by x None says)
    (ending_note x.reported.bits (if says || (is_some (unfinished x.reported.ending x.reported.bits) || ends_untaken x.reported.bits) then Nothing else unsaid_of x.reported.ending lows x.reported.bits))
    (untaken_says last t.attempts x.begin (free_before t.previous x.begin) x.reported.bits (stop_is_untaken x.reported.ending x.reported.bits q))
all_say last t x lows front at h stray is false q None None true e = misfits_say last t x (misfits_by x lows front stray false None) None None None None (width_lines last x lows front at e stray is)
all_say last t x lows front at h stray is false q None None false e =
    rest_says last t x lows (misfits_by x lows front stray false None) h (is_some (unfinished x.reported.ending x.reported.bits)) (ends_untaken x.reported.bits) refl refl

-- ---- the lines of a reading

-- those of what was before it come first
abbrev before_it : Tape → Listed → List AuditLine
before_it t x =
    noted (option_map notes.BadStarts (series_over t.series x.reported.ending)) ++ answers_lines (first_begin t x) (sent_frame x) x.begin (delivered_frame x) t.waiting
    ++ noted (option_map notes.Free (too_soon t.previous x (tries_again t.attempts x.reported.bits)))

times_say : (last : ℕ) (t : Tape) (x : Listed) (lows : List Low) (drive : Option ℕ) → last ≡ length lows - 1 → is_complete x.reported.ending ≡ false
    → is_measured t.previous t.series x lows ≡ true → Says last (times_lines t x lows drive)
times_say last t x lows drive at h m =
    subst (λ (b : Bool). Says last (found t x (before_it t x ++ (if b then misfit_lines (last_of drive x lows) x.reported.ending x.reported.bits 0 lows else [])) drive (drive_within lows) (unfinished_of x lows)
    (ending_note x.reported.bits (if b then measured_of drive x lows else unmeasured_of t.previous t.series))))
    (sym m) (all_say last t x lows (before_it t x) at h (is_stray x lows) refl (stops_untaken x.reported.ending x.reported.bits) refl drive (drive_within lows) (last_says x.reported.ending x.reported.bits 0 lows) refl)

pub endings_are_said : EndingsAreSaid
endings_are_said timing t x h m =
    first_says (last_slot t x) (read_lines x ++ times_lines t x (lows_of x t.place) (drive_of x t.place) ++ frame_lines t (delivered_frame x)) (timing_lines timing (with_slots x.reported.ending x.reported.bits 0 (lows_of x t.place) no_widths))
    (first_says (last_slot t x) (read_lines x ++ times_lines t x (lows_of x t.place) (drive_of x t.place)) (frame_lines t (delivered_frame x))
    (then_says (last_slot t x) (read_lines x) (times_lines t x (lows_of x t.place) (drive_of x t.place)) (times_say (last_slot t x) t x (lows_of x t.place) (drive_of x t.place) refl h m)))
