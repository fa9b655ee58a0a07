-- The widths of a frame that is sent with the nominal times are all in their windows (CEC 5.2).
use Rattle.std.proofs.Common.{◌≡◌, ℕ, ◌+◌, ◌-◌, ◌≤◌, Bool, true, false, not, nat_lt, ◌&&◌, ◌||◌, if◌then◌else◌, List, [], ◌∷◌, None, refl, sym, ◌∙◌, ap, subst, arith}
use Rattle.std.proofs.lemmas.Bool.Decides.{nat_tests}
use Rattle.line_wave.specs.Sender.{low_of}
use Rattle.audit_widths.specs.declared.misfit.WidthWindow.{WidthWindow}
use Rattle.audit_pieces.specs.declared.stretch.Class.TheVariants.{Start}
use Rattle.audit_pieces.specs.declared.stretch.LowStretch.{LowStretch}
use Rattle.audit_pieces.specs.declared.piece.PieceEnding.{PieceEnding}
use Rattle.audit_pieces.specs.declared.piece.Slot.{Slot}
use Rattle.audit_pieces.specs.Frames.{framed}
use Rattle.audit_pieces.specs.Pieces.{Whole}
use Rattle.audit_pieces.specs.Slots.{bit_of}
use Rattle.audit_judged.specs.declared.widths.WidthKind.{WidthKind}
use Rattle.audit_judged.specs.declared.widths.WidthKind.TheVariants.{StartLow, StartTotal, ZeroLow, OneLow, AckLow, LongAck, LateAck, BitTotal}
use Rattle.audit_judged.specs.Widths.{AreIn, IsIn, SlotsAreIn, has_low, is_ack, is_intruded, is_long, is_out, low_by, slot_width, start_width, window_for}
use Rattle.verdict_laws.proofs.Slots.{bit_is, slot_for, slots_for, width_is}

-- ---- a window

none_less : (grid n : ℕ) → n ≡ 0 → nat_lt (grid - 1) n ≡ false
none_less grid n e = rw e (grind (arith, nat_tests))

within : (grid : ℕ) (w : WidthWindow) (width : ℕ) → w.least ≤ width → width ≤ w.greatest → is_out grid w width ≡ false
within grid w width l h =
    ap (λ (b : Bool). b || nat_lt (grid - 1) (width - w.greatest)) (none_less grid (w.least - width) (omega (arith, l))) ∙ none_less grid (width - w.greatest) (omega (arith, h))

-- ---- the low of a slot

lows_in : (grid : ℕ) (w : WidthWindow) (has : Bool) (fall : ℕ) (bit : Bool) (rest : List Slot) → (has ≡ true → (w.least ≤ low_of bit) × (low_of bit ≤ w.greatest))
    → IsIn grid w (if has then low_by false (slot_for fall bit) rest None else None)
lows_in grid w false fall bit rest h = tt
lows_in grid w true fall bit rest h = by rest
  where
    fits : is_out grid w (fall + low_of bit - fall) ≡ false
    fits = ap (λ (n : ℕ). is_out grid w n) (width_is fall (low_of bit)) ∙ within grid w (low_of bit) ((h refl).0) ((h refl).1)

    by : (slots : List Slot) → IsIn grid w (low_by false (slot_for fall bit) slots None)
    by [] = fits
    by (next ∷ slots) = fits

left : (a b : Bool) → (a && b) ≡ true → a ≡ true
left true b h = refl
left false b h = absurd cc

right : (a b : Bool) → (a && b) ≡ true → b ≡ true
right true b h = h
right false b h = absurd cc

turned : (a : Bool) → not a ≡ true → a ≡ false
turned true h = absurd cc
turned false h = refl

bit_by : (fall : ℕ) (bit b : Bool) → bit_of (slot_for fall bit) ≡ b → bit ≡ b
bit_by fall bit b e = sym (bit_is fall bit) ∙ e

zero_fits : (bit : Bool) → bit ≡ false → (1300 ≤ low_of bit) × (low_of bit ≤ 1700)
zero_fits true e = absurd cc
zero_fits false e = (omega arith, omega arith)

one_fits : (bit : Bool) → bit ≡ true → (400 ≤ low_of bit) × (low_of bit ≤ 800)
one_fits true e = (omega arith, omega arith)
one_fits false e = absurd cc

totals_in : (grid : ℕ) (k fall : ℕ) (bit : Bool) (bits : List Bool) → IsIn grid (window_for BitTotal) (slot_width false BitTotal k (slot_for fall bit) (slots_for (fall + 2400) bits))
totals_in grid k fall bit [] = tt
totals_in grid k fall bit (next ∷ bits) =
    ap (λ (n : ℕ). is_out grid (window_for BitTotal) n) (width_is fall 2400) ∙ within grid (window_for BitTotal) 2400 (omega arith) (omega arith)

slot_in : (grid : ℕ) (kind : WidthKind) (k fall : ℕ) (bit : Bool) (bits : List Bool) → IsIn grid (window_for kind) (slot_width false kind k (slot_for fall bit) (slots_for (fall + 2400) bits))
slot_in grid StartLow k fall bit bits = tt
slot_in grid StartTotal k fall bit bits = tt
slot_in grid ZeroLow k fall bit bits =
    lows_in grid (window_for ZeroLow) (has_low ZeroLow k (slot_for fall bit)) fall bit (slots_for (fall + 2400) bits)
    (λ h. zero_fits bit (bit_by fall bit false (turned (bit_of (slot_for fall bit)) (left (not (bit_of (slot_for fall bit))) (not (is_ack k)) h))))
slot_in grid OneLow k fall bit bits =
    lows_in grid (window_for OneLow) (has_low OneLow k (slot_for fall bit)) fall bit (slots_for (fall + 2400) bits)
    (λ h. one_fits bit (bit_by fall bit true (left (bit_of (slot_for fall bit)) (not (is_ack k && is_long (slot_for fall bit))) h)))
slot_in grid AckLow k fall bit bits =
    lows_in grid (window_for AckLow) (has_low AckLow k (slot_for fall bit)) fall bit (slots_for (fall + 2400) bits)
    (λ h. zero_fits bit (bit_by fall bit false (turned (bit_of (slot_for fall bit)) (left (not (bit_of (slot_for fall bit))) (is_ack k) h))))
slot_in grid LongAck k fall bit bits =
    lows_in grid (window_for LongAck) (has_low LongAck k (slot_for fall bit)) fall bit (slots_for (fall + 2400) bits)
    (λ h. one_fits bit (bit_by fall bit true (left (bit_of (slot_for fall bit)) (is_ack k && is_long (slot_for fall bit)) h)))
slot_in grid LateAck k fall bit bits = tt
slot_in grid BitTotal k fall bit bits = totals_in grid k fall bit bits

slots_in : (grid : ℕ) (kind : WidthKind) (k fall : ℕ) (bits : List Bool) → SlotsAreIn grid false kind k (slots_for fall bits)
slots_in grid kind k fall [] = tt
slots_in grid kind k fall (bit ∷ bits) = (slot_in grid kind k fall bit bits, slots_in grid kind (k + 1) (fall + 2400) bits)

-- ---- the start bit

abbrev pub start_for : ℕ → LowStretch
start_for begin = record { fall = begin; rise = begin + 3700; class = Start }

start_in : (grid : ℕ) (kind : WidthKind) (begin : ℕ) (bits : List Bool) → IsIn grid (window_for kind) (start_width kind (start_for begin) (slots_for (begin + 4500) bits))
start_in grid StartLow begin [] = tt
start_in grid StartLow begin (bit ∷ bits) =
    ap (λ (n : ℕ). is_out grid (window_for StartLow) n) (width_is begin 3700) ∙ within grid (window_for StartLow) 3700 (omega arith) (omega arith)
start_in grid StartTotal begin [] = tt
start_in grid StartTotal begin (bit ∷ bits) =
    ap (λ (n : ℕ). is_out grid (window_for StartTotal) n) (width_is begin 4500) ∙ within grid (window_for StartTotal) 4500 (omega arith) (omega arith)
start_in grid ZeroLow begin bits = tt
start_in grid OneLow begin bits = tt
start_in grid AckLow begin bits = tt
start_in grid LongAck begin bits = tt
start_in grid LateAck begin bits = tt
start_in grid BitTotal begin bits = tt

abbrev pub piece_for : ℕ → List Bool → ℕ → PieceEnding → Whole
piece_for begin bits last ending = record { parts = framed (start_for begin) (slots_for (begin + 4500) bits) last; ending = ending }

pub all_in : (grid begin : ℕ) (bits : List Bool) (last : ℕ) (ending : PieceEnding) → is_intruded ending ≡ false → AreIn grid (piece_for begin bits last ending)
all_in grid begin bits last ending whole kind =
    (start_in grid kind begin bits, subst (λ (b : Bool). SlotsAreIn grid b kind 1 (slots_for (begin + 4500) bits)) (sym whole) (slots_in grid kind 1 (begin + 4500) bits))
