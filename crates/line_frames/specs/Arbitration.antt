-- Arbitration in the standard's terms: a sender compares what it reads with what it sends in every slot but
-- the acknowledge slots (CEC 9).
use Rattle.std.specs.Prelude.{◌≡◌, ℕ, ◌+◌, Bool, true, false, not, if◌then◌else◌, List, [], ◌∷◌, ◌++◌}
use Rattle.std.specs.List.{list_any}
use Rattle.line_frames.specs.Bits.{byte_bits, frame_bits, comes_before, winners_of}

-- what decides in a block: its byte, and whether it is the last block
abbrev pub deciding_block : ℕ → Bool → List Bool
deciding_block b is_last = byte_bits b ++ is_last ∷ []

-- what a frame sends, acknowledge slots left out
abbrev pub deciding_bits : List ℕ → List Bool
deciding_bits [] = []
deciding_bits (b ∷ []) = deciding_block b true
deciding_bits (b ∷ c ∷ bs) = deciding_block b false ++ deciding_bits (c ∷ bs)

-- the frame is least of these
abbrev pub is_least_by : (List ℕ → List Bool) → List (List ℕ) → List ℕ → Bool
is_least_by bits frames f = not (list_any (λ g. comes_before (bits g) (bits f)) frames)

-- the places of the least frames, counted from `place`
abbrev pub least_places_by : (List ℕ → List Bool) → List (List ℕ) → ℕ → List (List ℕ) → List ℕ
least_places_by bits frames place [] = []
least_places_by bits frames place (f ∷ fs) =
    if is_least_by bits frames f then place ∷ least_places_by bits frames (place + 1) fs else least_places_by bits frames (place + 1) fs

-- With the acknowledge slots left out, frames come in the same order,
abbrev pub AcksDecideNothing : Type 0
AcksDecideNothing = (f g : List ℕ) → comes_before (deciding_bits f) (deciding_bits g) ≡ comes_before (frame_bits f) (frame_bits g)

-- and the same ones win.
abbrev pub SameWinners : Type 0
SameWinners = (frames : List (List ℕ)) → least_places_by deciding_bits frames 0 frames ≡ winners_of frames
