-- Worked rows: what a sender pulls, and faults of pulses.
use Rattle.std.specs.Prelude.{◌≡◌, ℕ, [], ◌∷◌, true, false, Some, None, refl}
use Rattle.line_wave.specs.declared.Stretch.{Stretch}
use Rattle.line_wave.specs.declared.PulsesError.TheVariants.{Width, Close, Order}
use Rattle.line_wave.specs.Sender.{sender_stretches}
use Rattle.line_wave.specs.Pulses.{pulses_fault}

pulse : ℕ → ℕ → Stretch
pulse from to = record { from = from; to = to }

-- a 0 and a 1 from 12,000 on
sender_row : sender_stretches 12000 (false ∷ true ∷ []) ≡ pulse 12000 15700 ∷ pulse 16500 18000 ∷ pulse 18900 19500 ∷ []
unfolding pulse
sender_row = refl

-- 24,999 after the end of a pulse is too close, 25,000 is not
close_row : pulses_fault (pulse 100000 100400 ∷ pulse 125399 125400 ∷ []) ≡ Some Close
unfolding pulse
close_row = refl

far_row : pulses_fault (pulse 100000 100400 ∷ pulse 125400 125401 ∷ []) ≡ None
unfolding pulse
far_row = refl

-- a width of 0 and one of 10,001 are refused, before the order
width_row : pulses_fault (pulse 100000 100400 ∷ pulse 50000 50000 ∷ []) ≡ Some Width
unfolding pulse
width_row = refl

wide_row : pulses_fault (pulse 100000 110001 ∷ []) ≡ Some Width
unfolding pulse
wide_row = refl

order_row : pulses_fault (pulse 100000 100400 ∷ pulse 100399 100500 ∷ []) ≡ Some Order
unfolding pulse
order_row = refl
