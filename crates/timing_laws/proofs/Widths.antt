-- The widths of a line of nominal times are in their windows.
use Rattle.line_reading.specs.Readings.{Listed}
use Rattle.line_reading.specs.Windows.{standard}
use Rattle.std.proofs.Common.{◌≡◌, ℕ, zero, suc, ◌+◌, ◌-◌, ◌*◌, ◌==◌, ◌<◌, ◌≤◌, Bool, true, false, not, ◌&&◌, nat_lt, if◌then◌else◌, List, [], ◌∷◌, ◌++◌, length, length-append, slice_index_or, take, Option, Some, None, refl, arith, ap, ◌∙◌, sym, subst, append_assoc}
use Rattle.std.proofs.Math.Seq.{get_or-append_seam}
use Rattle.std.proofs.lemmas.Bool.Decides.{nat_tests}
use Rattle.line_wave.specs.declared.Edge.{Edge}
use Rattle.line_wave.specs.Sender.{slot_stretches, sender_stretches}
use Rattle.line_frames.specs.declared.Ending.{Ending}
use Rattle.capture_core.specs.Edges.{edges_of}
use Rattle.audit_widths.specs.declared.low.Low.{Low as LowOf}
use Rattle.audit_widths.specs.declared.misfit.SlotWidth.TheVariants.{Low, Total}
use Rattle.audit_widths.specs.declared.misfit.Misfit.{Misfit}
use Rattle.audit_widths.specs.Lows.{low_at, lows_before, lows_in}
use Rattle.audit_widths.specs.Misfits.{drive_within, fits, has_all, is_total, low_misfit, low_window, misfit_of, slot_bit, total_by, total_misfit, total_window, window}
use Rattle.audit_remarks.specs.Endings.{is_stray}
use Rattle.audit_core.specs.Lines.{is_followed, last_by, last_of as last_slot, misfit_lines, slot_by, slot_low, slot_total}

-- ---- widths in their windows

abbrev Fit : Ending → List Bool → ℕ → LowOf → Type 0
Fit ending bits slot low = (low_misfit bits slot low ≡ None) × (total_misfit ending bits slot low ≡ None)

abbrev AllFit : Ending → List Bool → ℕ → List LowOf → Type 0
AllFit ending bits slot [] = Unit {0}
AllFit ending bits slot (low ∷ lows) = Fit ending bits slot low × AllFit ending bits (slot + 1) lows

-- so do the first of them
fit_take : (n : ℕ) (ending : Ending) (bits : List Bool) (slot : ℕ) (lows : List LowOf) → AllFit ending bits slot lows → AllFit ending bits slot (take n lows)
fit_take zero ending bits slot lows h = tt
fit_take (suc n) ending bits slot [] h = tt
fit_take (suc n) ending bits slot (low ∷ lows) h = (h.0, fit_take n ending bits (slot + 1) lows h.1)

-- of which nothing is remarked, whatever is measured of the last slot
low_by_last : (d : Bool) (e : Option ℕ) (b c : Bool) (bits : List Bool) (slot : ℕ) (low : LowOf) → low_misfit bits slot low ≡ None
    → slot_low (if b then (if c then last_by true None else last_by d e) else last_by false None) bits slot low ≡ None
low_by_last d e false c bits slot low h = h
low_by_last d e true true bits slot low h = h
low_by_last false None true false bits slot low h = h
low_by_last true None true false bits slot low h = h
low_by_last false (Some w) true false bits slot low h = refl
low_by_last true (Some w) true false bits slot low h = refl

no_low : (d : Option ℕ) (x : Listed) (all : List LowOf) (n : ℕ) (bits : List Bool) (slot : ℕ) (low : LowOf) → low_misfit bits slot low ≡ None
    → slot_low (slot_by (last_slot d x all) n) bits slot low ≡ None
no_low d x all n bits slot low h = low_by_last (is_followed d x) (drive_within all) (n == 0) (is_stray x all) bits slot low h

total_by_last : (d : Bool) (e : Option ℕ) (b c : Bool) (ending : Ending) (bits : List Bool) (slot : ℕ) (low : LowOf) → total_misfit ending bits slot low ≡ None
    → slot_total (if b then (if c then last_by true None else last_by d e) else last_by false None) ending bits slot low ≡ None
total_by_last d e false c ending bits slot low h = h
total_by_last d e true true ending bits slot low h = refl
total_by_last false None true false ending bits slot low h = h
total_by_last true None true false ending bits slot low h = refl
total_by_last false (Some w) true false ending bits slot low h = refl
total_by_last true (Some w) true false ending bits slot low h = refl

no_total : (d : Option ℕ) (x : Listed) (all : List LowOf) (n : ℕ) (ending : Ending) (bits : List Bool) (slot : ℕ) (low : LowOf) → total_misfit ending bits slot low ≡ None
    → slot_total (slot_by (last_slot d x all) n) ending bits slot low ≡ None
no_total d x all n ending bits slot low h = total_by_last (is_followed d x) (drive_within all) (n == 0) (is_stray x all) ending bits slot low h

no_misfits : (d : Option ℕ) (x : Listed) (all : List LowOf) (ending : Ending) (bits : List Bool) (slot : ℕ) (lows : List LowOf) → AllFit ending bits slot lows
    → misfit_lines (last_slot d x all) ending bits slot lows ≡ []
no_misfits d x all ending bits slot [] h = refl
no_misfits d x all ending bits slot (low ∷ lows) h =
    rw (no_low d x all (length lows) bits slot low h.0.0, no_total d x all (length lows) ending bits slot low h.0.1) (no_misfits d x all ending bits (slot + 1) lows h.1)

-- ---- one slot

-- the edge that comes next, if there is one
abbrev pub Later : ℕ → List Edge → Type 0
Later from [] = Unit {0}
Later from (e ∷ es) = from ≤ e.at

low_fits : (slot fall width rise : ℕ) (w : Bool) → rise ≡ fall + width → fits (if w then window 400 800 else window 1300 1700) width ≡ true
    → misfit_of slot Low (if w then window 400 800 else window 1300 1700) (rise - fall) ≡ None
low_fits slot fall width rise w e h =
    ap (λ (n : ℕ). misfit_of slot Low (if w then window 400 800 else window 1300 1700) n) (let x : rise - fall ≡ width = omega arith in x)
    ∙ ap (λ (b : Bool). let o : Option Misfit = if b then None else Some (record { slot = slot; kind = Low; micros = width; window = if w then window 400 800 else window 1300 1700 }) in o) h

-- the low of a bit
low_fits_bit : (bits : List Bool) (slot fall rise : ℕ) (bit : Bool) → 0 < slot → slot_bit bits slot ≡ bit → rise ≡ fall + (if bit then 600 else 1500) → misfit_of slot Low (low_window bits slot) (rise - fall) ≡ None
low_fits_bit bits slot fall rise bit some is e =
    ap (λ (b : Bool). misfit_of slot Low (if b then window standard.start_low.least standard.start_low.most else if slot_bit bits slot then window 400 800 else window 1300 1700) (rise - fall)) (let x : (slot == 0) ≡ false = grind (arith, nat_tests) in x)
    ∙ ap (λ (b : Bool). misfit_of slot Low (if b then window 400 800 else window 1300 1700) (rise - fall)) is
    ∙ by bit e
  where
    by : (b : Bool) → rise ≡ fall + (if b then 600 else 1500) → misfit_of slot Low (if b then window 400 800 else window 1300 1700) (rise - fall) ≡ None
    by true e = low_fits slot fall 600 rise true e refl
    by false e = low_fits slot fall 1500 rise false e refl

low_fits_start : (bits : List Bool) (fall rise : ℕ) → rise ≡ fall + 3700 → misfit_of 0 Low (low_window bits 0) (rise - fall) ≡ None
low_fits_start bits fall rise e = ap (λ (n : ℕ). misfit_of 0 Low (window standard.start_low.least standard.start_low.most) n) (let x : rise - fall ≡ 3700 = omega arith in x)

-- a total that fits, or that is none
unless : (b : Bool) (o : Option Misfit) → o ≡ None → (if b then o else None) ≡ None
unless true o h = h
unless false o h = refl

total_fits_bit : (ending : Ending) (last slot fall next : ℕ) → 0 < slot → next ≡ fall + 2400 → total_by ending last slot fall (Some next) ≡ None
total_fits_bit ending last slot fall next some e =
    unless (is_total ending last slot (next - fall)) (misfit_of slot Total (total_window slot) (next - fall))
    (ap (λ (b : Bool). misfit_of slot Total (if b then window standard.start_total.least standard.start_total.most else window standard.bit_total.least standard.bit_total.most) (next - fall)) (let x : (slot == 0) ≡ false = grind (arith, nat_tests) in x)
    ∙ ap (λ (n : ℕ). misfit_of slot Total (window standard.bit_total.least standard.bit_total.most) n) (let x : next - fall ≡ 2400 = omega arith in x))

total_fits_start : (ending : Ending) (last fall next : ℕ) → next ≡ fall + 4500 → total_by ending last 0 fall (Some next) ≡ None
total_fits_start ending last fall next e =
    unless (is_total ending last 0 (next - fall)) (misfit_of 0 Total (total_window 0) (next - fall))
    (ap (λ (n : ℕ). misfit_of 0 Total (window standard.start_total.least standard.start_total.most) n) (let x : next - fall ≡ 4500 = omega arith in x))

total_fits_free : (ending : Ending) (last slot fall next : ℕ) → fall + 7200 ≤ next → total_by ending last slot fall (Some next) ≡ None
total_fits_free ending last slot fall next l =
    ap (λ (b : Bool). let o : Option Misfit = if b && not (has_all ending && (slot == last)) then misfit_of slot Total (total_window slot) (next - fall) else None in o) (let x : nat_lt (next - fall) 7200 ≡ false = grind (arith, nat_tests) in x)

-- the low stretch of a slot whose next edge is a signal free time later
last_total : (ending : Ending) (bits : List Bool) (slot fall rise : ℕ) (rest : List Edge) → Later (fall + 7200) rest → total_misfit ending bits slot (low_at fall (record { at = rise; low = false } ∷ rest)) ≡ None
last_total ending bits slot fall rise [] l = refl
last_total ending bits slot fall rise (e ∷ rest) l = total_fits_free ending (length bits) slot fall e.at l

last_low : (bits : List Bool) (slot fall rise : ℕ) (rest : List Edge) → misfit_of slot Low (low_window bits slot) (rise - fall) ≡ None → low_misfit bits slot (low_at fall (record { at = rise; low = false } ∷ rest)) ≡ None
last_low bits slot fall rise [] h = h
last_low bits slot fall rise (e ∷ rest) h = h

-- ---- the slots of a sender

pub none_later : (until : ℕ) (rest : List Edge) → Later until rest → lows_in until rest ≡ []
none_later until [] l = refl
none_later until (f ∷ []) l = let k : until ≤ f.at = l in let x : nat_lt f.at until ≡ false = grind (arith, nat_tests) in rw x refl
none_later until (f ∷ r ∷ es) l = let k : until ≤ f.at = l in let x : nat_lt f.at until ≡ false = grind (arith, nat_tests) in rw x refl

sooner : (a b : ℕ) (rest : List Edge) → a ≤ b → Later b rest → Later a rest
sooner a b [] h l = tt
sooner a b (e ∷ rest) h l = let k : b ≤ e.at = l in omega arith

one_more : (until : ℕ) (ending : Ending) (bits : List Bool) (slot fall rise : ℕ) (es : List Edge) → fall < until → Fit ending bits slot (low_at fall (record { at = rise; low = false } ∷ es)) → AllFit ending bits (slot + 1) (lows_in until es)
    → AllFit ending bits slot (lows_in until (record { at = fall; low = true } ∷ record { at = rise; low = false } ∷ es))
one_more until ending bits slot fall rise es early fit more =
    subst (λ (b : Bool). AllFit ending bits slot (if b then low_at fall (record { at = rise; low = false } ∷ es) ∷ lows_in until es else [])) (let x : true ≡ nat_lt fall until = grind (arith, nat_tests) in x) (fit, more)

slots_fit : (ending : Ending) (until : ℕ) (rest : List Edge) (front left : List Bool) (slot fall : ℕ) → slot ≡ length front + 1 → Later until rest
    → (0 < length left → (fall + 2400 * length left < until + 2400) × Later (fall + 2400 * length left + 4800) rest)
    → AllFit ending (front ++ left) slot (lows_in until (edges_of (slot_stretches fall left) ++ rest))
slots_fit ending until rest front [] slot fall at over room = subst (λ (ls : List LowOf). AllFit ending (front ++ []) slot ls) (sym (none_later until rest over)) tt
slots_fit ending until rest front (bit ∷ []) slot fall at over room =
    let r = room (omega arith) in
    one_more until ending (front ++ bit ∷ []) slot fall (fall + (if bit then 600 else 1500)) rest (omega (arith, r.0)) (
      last_low (front ++ bit ∷ []) slot fall (fall + (if bit then 600 else 1500)) rest (low_fits_bit (front ++ bit ∷ []) slot fall (fall + (if bit then 600 else 1500)) bit (omega arith) here refl),
      last_total ending (front ++ bit ∷ []) slot fall (fall + (if bit then 600 else 1500)) rest (sooner (fall + 7200) (fall + 2400 * 1 + 4800) rest (omega arith) r.1),
    ) (subst (λ (ls : List LowOf). AllFit ending (front ++ bit ∷ []) (slot + 1) ls) (sym (none_later until rest over)) tt)
  where
    here : slot_bit (front ++ bit ∷ []) slot ≡ bit
    here = ap (λ (i : ℕ). slice_index_or (front ++ bit ∷ []) i true) (let x : slot - 1 ≡ length front = omega arith in x) ∙ get_or-append_seam front bit [] true
slots_fit ending until rest front (bit ∷ next ∷ left) slot fall at over room =
    let r = room (omega arith) in
    one_more until ending (front ++ bit ∷ next ∷ left) slot fall (fall + (if bit then 600 else 1500)) (edges_of (slot_stretches (fall + 2400) (next ∷ left)) ++ rest) (omega (arith, r.0)) (
      low_fits_bit (front ++ bit ∷ next ∷ left) slot fall (fall + (if bit then 600 else 1500)) bit (omega arith) here refl,
      total_fits_bit ending (length (front ++ bit ∷ next ∷ left)) slot fall (fall + 2400) (omega arith) refl,
    ) (subst (λ (bits : List Bool). AllFit ending bits (slot + 1) (lows_in until (edges_of (slot_stretches (fall + 2400) (next ∷ left)) ++ rest))) (append_assoc front (bit ∷ []) (next ∷ left))
    (slots_fit ending until rest (front ++ bit ∷ []) (next ∷ left) (slot + 1) (fall + 2400) more over (λ s. (omega (arith, r.0), sooner (fall + 2400 + 2400 * length (next ∷ left) + 4800) (fall + 2400 * length (bit ∷ next ∷ left) + 4800) rest (omega arith) r.1))))
  where
    here : slot_bit (front ++ bit ∷ next ∷ left) slot ≡ bit
    here = ap (λ (i : ℕ). slice_index_or (front ++ bit ∷ next ∷ left) i true) (let x : slot - 1 ≡ length front = omega arith in x) ∙ get_or-append_seam front bit (next ∷ left) true

    more : slot + 1 ≡ length (front ++ bit ∷ []) + 1
    more = let x : length (front ++ bit ∷ []) ≡ length front + 1 = length-append front (bit ∷ []) in omega (arith, x, at)

-- with its start bit
sender_fits : (ending : Ending) (until : ℕ) (rest : List Edge) (bits : List Bool) (begin : ℕ) → 0 < length bits → Later until rest
    → begin + 2100 + 2400 * length bits < until → Later (begin + 9300 + 2400 * length bits) rest
    → AllFit ending bits 0 (lows_in until (edges_of (sender_stretches begin bits) ++ rest))
sender_fits ending until rest [] begin some over room free = absurd (omega arith)
sender_fits ending until rest (bit ∷ bits) begin some over room free =
    one_more until ending (bit ∷ bits) 0 begin (begin + 3700) (edges_of (slot_stretches (begin + 4500) (bit ∷ bits)) ++ rest) (omega (arith, room)) (
      low_fits_start (bit ∷ bits) begin (begin + 3700) refl,
      total_fits_start ending (length (bit ∷ bits)) begin (begin + 4500) refl,
    ) (slots_fit ending until rest [] (bit ∷ bits) 1 (begin + 4500) refl over (λ s. (omega (arith, room), sooner (begin + 4500 + 2400 * length (bit ∷ bits) + 4800) (begin + 9300 + 2400 * length (bit ∷ bits)) rest (omega arith) free)))

-- so nothing is remarked of it
pub sender_remarks : (d : Option ℕ) (x : Listed) (all : List LowOf) (ending : Ending) (until : ℕ) (rest : List Edge) (bits : List Bool) (begin : ℕ) → 0 < length bits → Later until rest
    → begin + 2100 + 2400 * length bits < until → Later (begin + 9300 + 2400 * length bits) rest
    → misfit_lines (last_slot d x all) ending bits 0 (lows_before until (edges_of (sender_stretches begin bits) ++ rest)) ≡ []
sender_remarks d x all ending until rest bits begin some over room free =
    no_misfits d x all ending bits 0 (lows_before until (edges_of (sender_stretches begin bits) ++ rest))
    (fit_take 161 ending bits 0 (lows_in until (edges_of (sender_stretches begin bits) ++ rest)) (sender_fits ending until rest bits begin some over room free))
