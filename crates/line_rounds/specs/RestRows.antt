-- Worked rounds to their rest and fates, computed.
use Rattle.std.specs.Prelude.{◌≡◌, ℕ, List, [], ◌∷◌, refl}
use Rattle.line_wave.specs.declared.Stretch.{Stretch}
use Rattle.line_wave.specs.Line.{line_of}
use Rattle.line_frames.specs.declared.Ending.{Ending}
use Rattle.line_frames.specs.declared.Ending.TheVariants.{Short, BadStart}
use Rattle.line_reading.specs.Reading.{Read, reading_of, first_in, read_slots}
use Rattle.line_rounds.specs.Round.{rest_of, close_of, fate_of}
use Rattle.line_frames.specs.declared.Fate.{Fate}
use Rattle.line_frames.specs.declared.Fate.TheVariants.{Broken}

-- ending, its instant, rest, close, and the fate of one sender
pub record Close : Type 0 where
  pub ending : Ending
  pub at : ℕ
  pub rest : ℕ
  pub close : ℕ
  pub fate : Fate

close_by : Read → List Stretch → List ℕ → Close
close_by r wave frame = record { ending = r.ending; at = r.at; rest = rest_of r.until wave; close = close_of r (rest_of r.until wave); fate = fate_of r frame }

close_row : List Stretch → ℕ → List ℕ → Close
close_row wave begin frame = close_by (reading_of (line_of wave) begin) wave frame

-- a pulse at 1,006,500 breaks the second slot of 4>0 image-view-on
short_row : close_row (record { from = 1000000; to = 1003700 } ∷ record { from = 1004500; to = 1006000 } ∷ record { from = 1006500; to = 1010100 } ∷ []) 1000000 (64 ∷ 4 ∷ [])
    ≡ record { ending = Short; at = 1006500; rest = 1010100; close = 1010100; fate = Broken }
unfolding first_in read_slots close_row close_by
short_row = refl

-- a pulse at the silence begins a round of its own
pulse_row : close_row (record { from = 1028851; to = 1028852 } ∷ []) 1028851 []
    ≡ record { ending = BadStart; at = 1028852; rest = 1028852; close = 1028852; fate = Broken }
unfolding first_in read_slots close_row close_by
pulse_row = refl

-- a pulse alone; and one that keeps a poll's start bit low
alone_row : close_row (record { from = 5000; to = 8000 } ∷ []) 5000 []
    ≡ record { ending = BadStart; at = 8000; rest = 8000; close = 8000; fate = Broken }
unfolding first_in read_slots close_row close_by
alone_row = refl

long_start_row : close_row (record { from = 12000; to = 15901 } ∷ []) 12000 (0 ∷ [])
    ≡ record { ending = BadStart; at = 15901; rest = 15901; close = 15901; fate = Broken }
unfolding first_in read_slots close_row close_by
long_start_row = refl
