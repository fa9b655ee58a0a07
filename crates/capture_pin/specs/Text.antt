-- The pin file of a line, as it is written, and read back (own).
use Rattle.std.specs.Prelude.{◌≡◌, ℕ, ◌-◌, ◌/◌, ◌%◌, ◌≤◌, false, List, [], ◌∷◌, ◌++◌, codes, Ok}
use Rattle.std.specs.Fmt.{decimal}
use Rattle.std.specs.List.{concat, flat_map}
use Rattle.line_wave.specs.declared.Stretch.{Stretch}
use Rattle.line_wave.specs.Bounds.{latest_instant}
use Rattle.line_wave.specs.Line.{line_of, IsWave}
use Rattle.capture_core.specs.Edges.{edges_of}
use Rattle.capture_core.specs.Seconds.{nine_digits}
use Rattle.capture_pin.specs.Pin.{edges_in}

-- what cec-ctl writes first, and the line high
abbrev pub head : List ℕ
head = codes "# cec-ctl --store-pin\n# version 1\n# start_monotonic 0.000000000\n# start_timeofday 0.000000\n# log_addr_mask 0x0000\n# phys_addr f.f.f.f\n0.000000000 1\n"

-- an instant in seconds, a space, and a level
abbrev pub event_line : ℕ → ℕ → List ℕ
event_line t level = decimal (t / 1000000) ++ 46 ∷ (nine_digits (t % 1000000) ++ 32 ∷ level ∷ [])

abbrev pub event_text : ℕ → ℕ → List ℕ
event_text t level = concat (decimal (t / 1000000) ∷ codes "." ∷ nine_digits (t % 1000000) ∷ (32 ∷ level ∷ 10 ∷ []) ∷ [])

-- the fall and the rise of a stretch
abbrev pub stretch_text : Stretch → List ℕ
stretch_text s = event_text s.from 48 ++ event_text s.to 49

-- before the line of a round the level is reported again, since cec-ctl ends a message only so
abbrev pub again : List Stretch → List ℕ
again [] = []
again (s ∷ ss) = event_text (s.from - 1) 49

abbrev pub round_text : List Stretch → List ℕ
round_text ss = again ss ++ flat_map stretch_text ss

abbrev pub pin_text : List (List Stretch) → ℕ → List ℕ
pin_text rounds end = head ++ (flat_map round_text rounds ++ event_text end 49)

-- The pin file of a line that rounds make, and that is high from the end on, is read as the line's edges, within the limit
-- of a capture.
abbrev pub PinFilesAreReadBack : Type 0
PinFilesAreReadBack = (rounds : List (List Stretch)) (end : ℕ) → IsWave (flat_map (λ ss. ss) rounds)
    → ((u : ℕ) → end ≤ u → line_of (flat_map (λ ss. ss) rounds) u ≡ false) → end ≤ latest_instant
    → edges_in (pin_text rounds end) ≡ Ok (record { edges = edges_of (flat_map (λ ss. ss) rounds); end = end })
