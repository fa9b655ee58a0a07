-- Who drove which low stretch of a captured line (own, by CEC 5.2, 6.1 and 7.4).
use Rattle.std.specs.Prelude.{ℕ, ◌+◌, Bool, true, false, not, ◌&&◌, ◌||◌, min, if◌then◌else◌, List, [], ◌∷◌, ◌++◌, Option, Some, None}
use Rattle.line_wave.specs.declared.Stretch.{Stretch}
use Rattle.audit_widths.specs.Spreads.{sum_of}
use Rattle.audit_judged.specs.Widths.{is_ack, is_long}
use Rattle.audit_pieces.specs.declared.piece.Slot.{Slot}
use Rattle.audit_pieces.specs.declared.stretch.LowStretch.{LowStretch}
use Rattle.audit_pieces.specs.Pieces.{Parts}
use Rattle.audit_pieces.specs.Slots.{bit_of}
use Rattle.capture_replay.specs.Sides.{sides_of}
use Rattle.capture_replay.specs.declared.sides.Sides.{Sides}

-- a low stretch, and the address of who drove it, where the line tells
pub record Drive : Type 0 where
  pub by : Option ℕ
  pub low : Stretch

abbrev pub drive : Option ℕ → Stretch → Drive
drive by low = record { by = by; low = low }

abbrev pub stretch : ℕ → ℕ → Stretch
stretch from to = record { from = from; to = to }

-- ---- a slot

abbrev pub low_of : Slot → Stretch
low_of slot = stretch slot.fall slot.rise

abbrev pub is_late : Option ℕ → Bool
is_late None = false
is_late (Some late) = true

-- In an acknowledge slot that is low for longer than a 1 may be, or that falls again, somebody else than the sender pulls the line low
-- too (CEC 5.2.2, 5.2.3).
abbrev pub is_pulled : ℕ → Slot → Bool
is_pulled k slot = is_ack k && (is_long slot || is_late slot.late)

abbrev pub let_go : ℕ → Option ℕ → ℕ
let_go rise None = rise
let_go rise (Some late) = late

-- The sender sends a 1 there (CEC 6.1.2), whose end that one hides: it counts as low for 600, as a 1 is nominally (CEC 5.2.2).
abbrev pub hidden_one : Slot → Stretch
hidden_one slot = stretch slot.fall (min (sum_of slot.fall 600) (let_go slot.rise slot.late))

abbrev pub pull_from : ℕ → Option ℕ → ℕ
pull_from fall None = fall
pull_from fall (Some late) = late

-- what the other one pulls
abbrev pub pull_in : Slot → Stretch
pull_in slot = stretch (pull_from slot.fall slot.late) slot.rise

-- Who acknowledges does so by a 0, or falls again. Whose a longer 1 is the line does not tell.
abbrev pub puller : Option ℕ → Slot → Option ℕ
puller taker slot = if is_late slot.late || not (bit_of slot) then taker else None

abbrev pub slot_drives : Sides → ℕ → Slot → List Drive
slot_drives s k slot =
    if is_pulled k slot then drive s.sender (hidden_one slot) ∷ drive (puller s.taker slot) (pull_in slot) ∷ []
    else drive s.sender (low_of slot) ∷ []

-- of slots from one on
abbrev pub slots_drives : Sides → ℕ → List Slot → List Drive
slots_drives s k [] = []
slots_drives s k (slot ∷ slots) = slot_drives s k slot ++ slots_drives s (k + 1) slots

-- ---- a piece

-- who breaks a frame off is not known
abbrev pub broken_drives : Option LowStretch → List Drive
broken_drives None = []
broken_drives (Some x) = drive None (stretch x.fall x.rise) ∷ []

-- The start bit and the slots of a frame, and what breaks it off. Of bits without a start bit, and of a frame whose header was not read,
-- nobody is known. Bits that trail behind its end have no instants: they are counted alone.
abbrev pub drives_of : Parts → List Drive
drives_of p = drive (sides_of p.slots).sender (stretch p.head.fall p.head.rise) ∷ (slots_drives (sides_of p.slots) 1 p.slots ++ broken_drives p.broken_by)
