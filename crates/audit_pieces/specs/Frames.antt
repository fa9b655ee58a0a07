-- Frames that are nearly right: a start bit, and bits that follow one another, however long they are, as many as their blocks ask for
-- (CEC 6.1). The wide reading has each as one piece.
use Rattle.std.specs.Prelude.{◌≡◌, ℕ, ◌-◌, ◌<◌, ◌≤◌, true, false, List, [], ◌∷◌, ◌++◌, map, Option, None}
use Rattle.audit_pieces.specs.declared.stretch.Class.TheVariants.{Bit, Start}
use Rattle.audit_pieces.specs.declared.stretch.LowStretch.{LowStretch}
use Rattle.audit_pieces.specs.declared.piece.PieceEnding.TheVariants.{Complete}
use Rattle.audit_pieces.specs.declared.piece.Slot.{Slot}
use Rattle.audit_pieces.specs.Bounds.{apart_from, shortest_bit}
use Rattle.audit_pieces.specs.Slots.{has_eom, is_whole, slot_of}
use Rattle.audit_pieces.specs.Pieces.{Parts, Whole}
use Rattle.audit_pieces.specs.Wide.{pieces_of}

-- bits that follow one another, and what fell last before them
abbrev pub AreBitsAfter : ℕ → List LowStretch → Type 0
AreBitsAfter last [] = Unit {0}
AreBitsAfter last (x ∷ xs) = (x.class ≡ Bit) × (shortest_bit ≤ x.fall - last) × (x.fall - last < apart_from) × AreBitsAfter x.fall xs

-- with these slots they are all that the blocks ask for, and no fewer are
abbrev pub AreAsked : List Slot → List LowStretch → Type 0
AreAsked slots [] = is_whole slots ≡ true
AreAsked slots (x ∷ xs) = (is_whole slots ≡ false) × AreAsked (slots ++ slot_of x ∷ []) xs

abbrev pub last_of : ℕ → List LowStretch → ℕ
last_of last [] = last
last_of last (x ∷ xs) = last_of x.fall xs

-- what follows does not belong to what fell last
abbrev pub IsApartFrom : ℕ → List LowStretch → Type 0
IsApartFrom last [] = Unit {0}
IsApartFrom last (x ∷ xs) = apart_from ≤ x.fall - last

abbrev pub framed : LowStretch → List Slot → ℕ → Parts
framed head slots last = record { head = head; slots = slots; broken_by = None; trail = 0; last = last }

-- the frame of a start bit and bits
abbrev pub frame_of : LowStretch → List LowStretch → Whole
frame_of head bits = record { parts = framed head (map slot_of bits) (last_of head.fall bits); ending = Complete }

-- A start bit and the bits of a frame up to the acknowledge of its last block, 1,650 at least and less than 6,000 from fall to fall, are one
-- piece, and complete.
abbrev pub FramesArePieces : Type 0
FramesArePieces = (end : ℕ) (begin : Option ℕ) (head : LowStretch) (bits rest : List LowStretch)
    → head.class ≡ Start → AreBitsAfter head.fall bits → AreAsked [] bits → has_eom (map slot_of bits) ≡ true → IsApartFrom (last_of head.fall bits) rest
    → pieces_of end begin ((head ∷ bits) ++ rest) ≡ frame_of head bits ∷ pieces_of end None rest
