-- Worked rows: classes of stretches, places, and pieces with their endings.
use Rattle.std.specs.Prelude.{◌≡◌, ℕ, ◌+◌, Bool, true, false, if◌then◌else◌, List, [], ◌∷◌, ◌++◌, map, length, Some, None, refl}
use Rattle.audit_widths.specs.declared.low.Low.{Low}
use Rattle.audit_pieces.specs.declared.stretch.Class.{Class}
use Rattle.audit_pieces.specs.declared.stretch.Class.TheVariants.{Bit, Long, Start, Cut}
use Rattle.audit_pieces.specs.declared.piece.PieceEnding.{PieceEnding}
use Rattle.audit_pieces.specs.declared.piece.PieceEnding.TheVariants.{Complete, Stops, Drive, Overrun, Intruder, Open, Stray, Mid}
use Rattle.audit_pieces.specs.Stretches.{stretches_of}
use Rattle.audit_pieces.specs.Slots.{bit_of}
use Rattle.audit_pieces.specs.Wide.{pieces_of}

low : ℕ → ℕ → Low
low fall width = record { fall = fall; rise = Some (fall + width); next = None }

cut : ℕ → Low
cut fall = record { fall = fall; rise = None; next = None }

-- bits one after another, each as long as a bit is nominally (CEC 5.2.2)
lows_of : ℕ → List Bool → List Low
lows_of fall [] = []
lows_of fall (bit ∷ bits) = low fall (if bit then 600 else 1500) ∷ lows_of (fall + 2400) bits

classes_of : ℕ → List Low → List Class
classes_of end lows = map (λ x. x.class) (stretches_of end lows)

endings_of : ℕ → ℕ → List Low → List PieceEnding
endings_of begin end lows = map (λ p. p.ending) (pieces_of end (Some begin) (stretches_of end lows))

-- how many slots each piece has, and how many bits trail behind it
slots_of : ℕ → ℕ → List Low → List ℕ
slots_of begin end lows = map (λ p. length p.parts.slots) (pieces_of end (Some begin) (stretches_of end lows))

trails_of : ℕ → ℕ → List Low → List ℕ
trails_of begin end lows = map (λ p. p.parts.trail) (pieces_of end (Some begin) (stretches_of end lows))

bits_of : ℕ → ℕ → List Low → List (List Bool)
bits_of begin end lows = map (λ p. map bit_of p.parts.slots) (pieces_of end (Some begin) (stretches_of end lows))

-- ---- classes

-- low for 2,599 or 2,600 (CEC 5.2.1, 5.2.2)
long_row : classes_of 90000 (low 10000 2599 ∷ low 20000 2600 ∷ []) ≡ Bit ∷ Long ∷ []
unfolding classes_of low
long_row = refl

-- a bit that falls 3,900 to 5,100 after it makes a start bit of it
start_row : classes_of 90000 (low 10000 2700 ∷ low 13899 600 ∷ low 20000 2700 ∷ low 23900 600 ∷ low 30000 3700 ∷ low 35100 600 ∷ low 40000 3700 ∷ low 45101 600 ∷ [])
    ≡ Long ∷ Bit ∷ Start ∷ Bit ∷ Start ∷ Bit ∷ Long ∷ Bit ∷ []
unfolding classes_of low
start_row = refl

-- what falls after a low drive and is long itself is no bit
drives_row : classes_of 90000 (low 10000 3600 ∷ low 14500 3600 ∷ cut 80000 ∷ []) ≡ Long ∷ Long ∷ Cut ∷ []
unfolding classes_of low cut
drives_row = refl

-- ---- pieces

-- a poll of 0 by 4, acknowledged: 40 as a byte, EOM 1, acknowledge 0
poll : ℕ → List Low
poll fall = low fall 3700 ∷ lows_of (fall + 4500) (false ∷ true ∷ false ∷ false ∷ false ∷ false ∷ false ∷ false ∷ true ∷ false ∷ [])

poll_row : bits_of 0 90000 (poll 10000) ≡ (false ∷ true ∷ false ∷ false ∷ false ∷ false ∷ false ∷ false ∷ true ∷ false ∷ []) ∷ []
unfolding bits_of poll lows_of low
poll_row = refl

complete_row : endings_of 0 90000 (poll 10000 ++ poll 60000) ≡ Complete ∷ Complete ∷ []
unfolding endings_of poll lows_of low
complete_row = refl

-- what comes after its end less than 6,000 after its last fall trails behind it
trail_row : trails_of 0 90000 (poll 10000 ++ low 42099 600 ∷ low 48098 600 ∷ low 54098 600 ∷ []) ≡ 2 ∷ 0 ∷ []
unfolding trails_of poll lows_of low
trail_row = refl

-- nothing follows: the capture goes on, or ends less than 6,000 after the last fall
stops_row : endings_of 0 24500 (low 10000 3700 ∷ low 14500 600 ∷ []) ≡ Stops ∷ []
unfolding endings_of low
stops_row = refl

open_row : endings_of 0 20499 (low 10000 3700 ∷ low 14500 600 ∷ []) ≡ Open ∷ []
unfolding endings_of low
open_row = refl

-- a low drive after a bit, and bits of who goes on: they begin nothing
drive_row : endings_of 0 90000 (low 10000 3700 ∷ low 14500 600 ∷ low 17500 3400 ∷ low 21300 600 ∷ low 23700 600 ∷ []) ≡ Drive ∷ []
unfolding endings_of low
drive_row = refl

-- another start bit
overrun_row : endings_of 0 90000 (low 10000 3700 ∷ low 14500 600 ∷ low 16900 3700 ∷ low 21400 600 ∷ []) ≡ Overrun ∷ Stops ∷ []
unfolding endings_of low
overrun_row = refl

-- a fall 1,649 after the last one is no bit's, one 1,650 after it may be
intruder_row : endings_of 0 90000 (low 10000 3700 ∷ low 14500 600 ∷ low 16149 600 ∷ low 18549 600 ∷ []) ≡ Intruder ∷ []
unfolding endings_of low
intruder_row = refl

early_row : slots_of 0 90000 (low 10000 3700 ∷ low 14500 600 ∷ low 16150 600 ∷ []) ≡ 2 ∷ []
unfolding slots_of low
early_row = refl

-- bits without a start bit, less than 6,000 after the capture's begin or later
mid_row : endings_of 0 90000 (lows_of 5999 (true ∷ false ∷ [])) ≡ Mid ∷ []
unfolding endings_of lows_of low
mid_row = refl

stray_row : endings_of 0 90000 (lows_of 6000 (true ∷ false ∷ [])) ≡ Stray ∷ []
unfolding endings_of lows_of low
stray_row = refl

-- the poll again, acknowledged 1,050 or 1,051 after the slot's fall, after the line had risen
late_poll : ℕ → List Low
late_poll late = low 10000 3700 ∷ lows_of 14500 (false ∷ true ∷ false ∷ false ∷ false ∷ false ∷ false ∷ false ∷ true ∷ true ∷ []) ++ low (36100 + late) 900 ∷ []

late_row : bits_of 0 90000 (late_poll 1050) ≡ (false ∷ true ∷ false ∷ false ∷ false ∷ false ∷ false ∷ false ∷ true ∷ false ∷ []) ∷ []
unfolding bits_of late_poll lows_of low
late_row = refl

too_late_row : bits_of 0 90000 (late_poll 1051) ≡ (false ∷ true ∷ false ∷ false ∷ false ∷ false ∷ false ∷ false ∷ true ∷ true ∷ []) ∷ []
unfolding bits_of late_poll lows_of low
too_late_row = refl
