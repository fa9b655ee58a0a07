-- Where two captures differ (own).
use Rattle.std.specs.Prelude.{◌≡◌, ℕ, true, List, Option, Ok}
use Rattle.std.specs.Io.KnownBytes.{Appends}
use Rattle.capture_core.specs.Edges.{Captured}
use Rattle.capture_difference.specs.Aligned.{aligned}
use Rattle.capture_difference.specs.Lines.{difference_text}
use Rattle.capture_difference.specs.Rows.{Row, is_none_different}
use Rattle.capture_forms.specs.Captures.{capture_in}
use Rattle.capture_frames.specs.Frames.{frames_in}
use Rattle.cli_choice.specs.declared.choice.CapturePair.{CapturePair}
use Rattle.program_captures.specs.Captures.{as_read, form_of, readings_at}

-- a capture that an input gives, by the name of its wire, as it is read
abbrev pub IsReadOf : CapturePair → List ℕ → List ℕ → Captured → Type 0
IsReadOf pair name input kept = (c : Captured) × (capture_in (form_of pair.form input) name input ≡ Ok c) × (kept ≡ as_read pair.inverted pair.scale pair.glitch c)

-- the frames of two, beside each other
abbrev pub rows_of : CapturePair → Captured → Captured → List Row
rows_of pair a b = aligned (frames_in (readings_at pair.margin a)) (frames_in (readings_at pair.margin b))

-- The text of where two captures differ is written, and they do not.
abbrev pub ComparesAlike : CapturePair → Captured → Captured → Option (List ℕ) → Option (List ℕ) → Type 0
ComparesAlike pair a b old new = (is_none_different (rows_of pair a b) ≡ true) × Appends old new (difference_text pair.written (rows_of pair a b))

-- Two captures that inputs give have the same frames, and a text says so.
abbrev pub AreAlike : CapturePair → List ℕ → List ℕ → List ℕ → List ℕ → Type 0
AreAlike pair name first second text =
    (a : Captured) × (b : Captured) × IsReadOf pair name first a × IsReadOf pair name second b × (is_none_different (rows_of pair a b) ≡ true)
    × (text ≡ difference_text pair.written (rows_of pair a b))

-- it is written, and nothing else
abbrev pub WritesAlike : CapturePair → List ℕ → List ℕ → List ℕ → Option (List ℕ) → Option (List ℕ) → Type 0
WritesAlike pair name first second old new = (text : List ℕ) × AreAlike pair name first second text × Appends old new text
