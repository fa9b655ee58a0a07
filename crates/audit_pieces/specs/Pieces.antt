-- Pieces of a captured line: what belongs together by its falls. A piece that begins with a long stretch is a frame: a start bit and
-- the bits after it (CEC 5.2, 6.1). Each stretch has its place in the piece that it follows, or begins the next one.
use Rattle.std.specs.Prelude.{ℕ, ◌-◌, Bool, true, false, not, nat_lt, ◌&&◌, ◌||◌, if◌then◌else◌, List, [], ◌∷◌, ◌++◌, Option, Some, None}
use Rattle.audit_widths.specs.Spreads.{sum_of}
use Rattle.audit_pieces.specs.declared.stretch.Class.{Class}
use Rattle.audit_pieces.specs.declared.stretch.Class.TheVariants.{Bit, Long, Start, Cut}
use Rattle.audit_pieces.specs.declared.stretch.LowStretch.{LowStretch}
use Rattle.audit_pieces.specs.declared.piece.Slot.{Slot}
use Rattle.audit_pieces.specs.declared.piece.Parts.{Parts as PartsOf}
use Rattle.audit_pieces.specs.declared.piece.Place.{Place}
use Rattle.audit_pieces.specs.declared.piece.Place.TheVariants.{InSlot, Late, Breaks, Trails, Outside}
use Rattle.audit_pieces.specs.declared.piece.PieceEnding.{PieceEnding}
use Rattle.audit_pieces.specs.declared.piece.PieceEnding.TheVariants.{Complete, Stops, Drive, Overrun, Intruder, Long as TooLong, Open, Stray, Mid}
use Rattle.audit_pieces.specs.declared.piece.Piece.{Piece}
use Rattle.audit_pieces.specs.declared.piece.After.{After}
use Rattle.audit_pieces.specs.declared.piece.After.TheVariants.{Fall, End}
use Rattle.audit_pieces.specs.Bounds.{apart_from, shortest_bit}
use Rattle.audit_pieces.specs.Slots.{asks_last, has_eom, is_late, is_whole, last_slot, slot_of, with_late}

-- ---- its parts

-- what it begins with, its slots, what breaks it off, how many stretches trail behind its end, and where the last of all falls
pub record Parts : Type 0 where
  pub head : LowStretch
  pub slots : List Slot
  pub broken_by : Option LowStretch
  pub trail : ℕ
  pub last : ℕ

abbrev pub parts_of : PartsOf → Parts
parts_of p = record { head = p.head; slots = p.slots.items; broken_by = p.broken_by; trail = p.trail; last = p.last }

-- of one stretch
abbrev pub alone : LowStretch → Parts
alone x = record { head = x; slots = []; broken_by = None; trail = 0; last = x.fall }

-- ---- the place of the next stretch

-- Two stretches belong together where the second falls soon enough after the first.
abbrev pub is_apart : ℕ → ℕ → Bool
is_apart last fall = not (nat_lt (fall - last) apart_from)

-- A frame begins with a long stretch, or with one that the capture cuts off.
abbrev pub is_framed : Class → Bool
is_framed Bit = false
is_framed _ = true

abbrev pub is_start : Class → Bool
is_start Start = true
is_start _ = false

abbrev pub is_cut : Class → Bool
is_cut Cut = true
is_cut _ = false

abbrev pub is_broken : Option LowStretch → Bool
is_broken None = false
is_broken (Some x) = true

-- no slot is to come: bits without a start bit, or a frame that was broken off or is past its end
abbrev pub is_over : Parts → Bool
is_over p = not (is_framed p.head.class) || (is_cut p.head.class || (is_broken p.broken_by || nat_lt 0 p.trail))

-- bits trail behind the end of a piece, and begin nothing
abbrev pub trails : Class → Place
trails Bit = Trails
trails _ = Outside

-- where the last slot falls, or the start bit where there is none
abbrev pub slot_fall : Parts → List Slot → ℕ
slot_fall p [] = p.head.fall
slot_fall p (slot ∷ slots) = (last_slot (slot ∷ slots)).fall

-- it comes sooner than any bit may
abbrev pub is_early : Parts → LowStretch → Bool
is_early p x = nat_lt (x.fall - slot_fall p p.slots) shortest_bit

-- In a frame a bit is the next slot, but one that comes too soon breaks it off. So does a long stretch that is no start bit, as a low
-- drive does (CEC 7.4); but in the acknowledge slot of the last block it is that slot, low far too long (own). A start bit begins
-- another frame.
abbrev pub in_frame : Parts → LowStretch → Class → Place
in_frame p x Bit = if is_early p x then Breaks else InSlot
in_frame p x Long = if not (is_early p x) && asks_last p.slots then InSlot else Breaks
in_frame p x Start = Outside
in_frame p x Cut = Breaks

abbrev pub is_late_bit : Parts → LowStretch → Class → Bool
is_late_bit p x Bit = is_late p.slots x
is_late_bit p x _ = false

abbrev pub frame_place : Parts → LowStretch → Place
frame_place p x =
    if is_late_bit p x x.class then Late else if is_whole p.slots then trails x.class else in_frame p x x.class

abbrev pub place_of : Parts → LowStretch → Place
place_of p x = if is_apart p.last x.fall then Outside else if is_over p then trails x.class else frame_place p x

-- with it at its place
abbrev pub placed : Place → LowStretch → Parts → Parts
placed InSlot x p = record p { slots = p.slots ++ slot_of x ∷ []; last = x.fall }
placed Late x p = record p { slots = with_late p.slots x; last = x.fall }
placed Breaks x p = record p { broken_by = Some x; last = x.fall }
placed Trails x p = record p { trail = sum_of p.trail 1; last = x.fall }
placed Outside x p = p

abbrev pub with_stretch : LowStretch → Parts → Parts
with_stretch x p = placed (place_of p x) x p

-- a stretch that begins the next piece
abbrev pub is_outside : Place → Bool
is_outside Outside = true
is_outside _ = false

-- ---- how it ends

-- the capture ends before the next fall would have to have come
abbrev pub ends_open : ℕ → After → Bool
ends_open last (Fall x) = false
ends_open last (End end) = not (is_apart last end)

-- a start bit that begins too soon after it
abbrev pub is_overrun : ℕ → After → Bool
is_overrun last (End end) = false
is_overrun last (Fall x) = is_start x.class && not (is_apart last x.fall)

-- nothing that belongs to it follows
abbrev pub quiet_ending : ℕ → After → PieceEnding
quiet_ending last after = if ends_open last after then Open else Stops

abbrev pub broken_ending : ℕ → After → Class → PieceEnding
broken_ending last after Bit = Intruder
broken_ending last after Cut = if ends_open last after then Open else Drive
broken_ending last after _ = Drive

abbrev pub whole_ending : Parts → After → PieceEnding
whole_ending p after = if has_eom p.slots then Complete else if nat_lt 0 p.trail then TooLong else quiet_ending p.last after

abbrev pub frame_ending : Parts → After → Option LowStretch → PieceEnding
frame_ending p after (Some x) = broken_ending p.last after x.class
frame_ending p after None =
    if is_whole p.slots then whole_ending p after else if is_overrun p.last after then Overrun else quiet_ending p.last after

-- Bits without a start bit are the rest of a frame where they come first, soon after the capture begins.
abbrev pub bare_ending : Parts → Option ℕ → PieceEnding
bare_ending p None = Stray
bare_ending p (Some begin) = if is_apart begin p.head.fall then Stray else Mid

-- before what follows it; of the first piece the capture's begin
abbrev pub ending_of : Option ℕ → Parts → After → PieceEnding
ending_of begin p after = if is_framed p.head.class then frame_ending p after p.broken_by else bare_ending p begin

-- ---- a piece

pub record Whole : Type 0 where
  pub parts : Parts
  pub ending : PieceEnding

abbrev pub piece_of : Piece → Whole
piece_of p = record { parts = parts_of p.parts; ending = p.ending }

abbrev pub ended : Option ℕ → Parts → After → Whole
ended begin p after = record { parts = p; ending = ending_of begin p after }
