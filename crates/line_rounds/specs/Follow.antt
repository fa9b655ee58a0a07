-- How long those who follow hold the line. (own)
use Rattle.std.specs.Prelude.{◌≡◌, ℕ, ◌+◌, ◌%◌, ◌==◌, ◌≤◌, Bool, true, false, ◌&&◌, ◌||◌, nat_lt, if◌then◌else◌, List, [], ◌∷◌, Some}
use Rattle.std.specs.List.{enumerate_from, list_any}
use Rattle.line_frames.specs.declared.Ending.{Ending}
use Rattle.line_reading.specs.Reading.{Known, Slot}
use Rattle.line_reading.specs.Sending.{known_bits}
use Rattle.line_rounds.specs.declared.Seat.{Seat}
use Rattle.line_rounds.specs.Round.{acknowledges, is_broken}
use Rattle.line_rounds.specs.Machine.{breaks_after, is_short}

-- all of these slots fell 1,500 before t
abbrev pub AreDone : ℕ → List Slot → Type 0
AreDone t [] = Unit {0}
AreDone t (s ∷ ss) = (s.fall + 1500 ≤ t) × AreDone t ss

-- then nobody acknowledges any more
abbrev pub NoAcks : Type 0
NoAcks = (seats : List Seat) (k : Known) (t : ℕ) (zs : List Slot) (n : ℕ) → AreDone t zs
    → list_any (λ (slot : ℕ × Slot). (slot.0 % 10 == 0) && (nat_lt t (slot.1.fall + 1500) && list_any (acknowledges k slot.0) seats)) (enumerate_from n zs) ≡ false

-- After an ending the line is held as before, and for the 3,600 of a low drive where a fall too early ended the reading.
abbrev pub BreaksNow : Type 0
BreaksNow = (seats : List Seat) (k : Known) (bits : List Bool) (u t at until held : ℕ) (ending : Ending) → k.ended ≡ Some (record { ending = ending; at = at; until = until }) → known_bits k ≡ bits
    → (is_short ending ≡ true → at ≡ t) → held ≤ t + 3600
    → (nat_lt u held || is_broken seats k u k.ended) ≡ nat_lt u (if (at == t) && (is_short ending && list_any (breaks_after bits) seats) then t + 3600 else held)
