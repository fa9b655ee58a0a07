-- The replay of a device: what it drove on a captured line, as lines of a script, whose pin pulls the line low there again (own).
use Rattle.std.specs.Prelude.{◌≡◌, ℕ, ◌+◌, ◌==◌, Bool, true, false, min, codes, filter, length, map, sum_by, List, [], ◌∷◌, ◌++◌, Option, Some, None, Result, Ok, Err}
use Rattle.std.specs.Fmt.{decimal}
use Rattle.std.specs.Io.KnownBytes.{Appends}
use Rattle.std.specs.List.{concat, flat_map}
use Rattle.text_core.specs.Adds.{Adds, Tally}
use Rattle.text_core.specs.Cut.{CutOff}
use Rattle.text_core.specs.declared.sink.WriteFault.{WriteFault}
use Rattle.line_wave.specs.declared.Edge.{Edge}
use Rattle.line_wave.specs.declared.Stretch.{Stretch}
use Rattle.capture_core.specs.Edges.{Captured}
use Rattle.audit_widths.specs.declared.low.Low.{Low}
use Rattle.audit_widths.specs.Lows.{low_at}
use Rattle.audit_pieces.specs.Pieces.{Whole}
use Rattle.audit_pieces.specs.Stretches.{stretches_of}
use Rattle.audit_pieces.specs.Wide.{pieces_of}
use Rattle.capture_replay.specs.Counts.{CountsOn, tallied}
use Rattle.capture_replay.specs.Drives.{Drive, drives_of}
use Rattle.capture_replay.specs.declared.counts.ReplayCounts.{ReplayCounts}

-- ---- who drove it

abbrev pub has_driven : ℕ → Option ℕ → Bool
has_driven address None = false
has_driven address (Some by) = by == address

abbrev pub is_by : ℕ → Drive → Bool
is_by address d = has_driven address d.by

abbrev pub is_unknown : Option ℕ → Bool
is_unknown None = true
is_unknown (Some by) = false

-- the low stretches that the device of an address drove
abbrev pub lows_by : ℕ → List Drive → List Stretch
lows_by address ds = map (λ d. d.low) (filter (is_by address) ds)

-- how many nobody is known to have driven
abbrev pub unknown_in : List Drive → ℕ
unknown_in ds = length (filter (λ d. is_unknown d.by) ds)

-- ---- of a capture

-- the low stretches of edges that begin with a fall
abbrev pub lows_from : List Edge → List Low
lows_from [] = []
lows_from (f ∷ []) = low_at f.at [] ∷ []
lows_from (f ∷ r ∷ es) = low_at f.at (r ∷ es) ∷ lows_from es

-- a capture as it is read wide
abbrev pub pieces_in : List Edge → ℕ → List Whole
pieces_in edges end = pieces_of end (Some 0) (stretches_of end (lows_from edges))

abbrev pub drives_in : List Whole → List Drive
drives_in ps = flat_map (λ p. drives_of p.parts) ps

-- the bits that trail behind the ends of frames
abbrev pub trails_in : List Whole → ℕ
trails_in ps = sum_by (λ p. p.parts.trail) ps

abbrev pub counts_of : ℕ → List Whole → ReplayCounts
counts_of address ps = tallied (length (lows_by address (drives_in ps))) (unknown_in (drives_in ps) + trails_in ps)

-- ---- the lines

-- the pin goes low where the stretch falls, and high where it rises
abbrev pub pin_lines : Stretch → List ℕ
pin_lines s = concat (codes "pin " ∷ decimal s.from ∷ codes " 0\npin " ∷ decimal s.to ∷ codes " 1\n" ∷ [])

-- a remark for who reads the script
abbrev pub left_line : ℕ → List ℕ
left_line count = concat (codes "# low stretches that are left out, since the line does not tell who drove them: " ∷ decimal count ∷ codes "\n" ∷ [])

abbrev pub end_line : ℕ → List ℕ
end_line end = concat (codes "end " ∷ decimal end ∷ codes "\n" ∷ [])

abbrev pub pins_text : ℕ → List Drive → List ℕ
pins_text address ds = flat_map pin_lines (lows_by address ds)

abbrev pub replay_of : ℕ → ℕ → List Whole → List ℕ
replay_of address end ps = pins_text address (drives_in ps) ++ (left_line (counts_of address ps).left_out ++ end_line end)

-- THE replay of a device
abbrev pub replay_text : ℕ → Captured → List ℕ
replay_text address c = replay_of address c.end (pieces_in c.edges c.end)

abbrev pub replay_counts : ℕ → Captured → ReplayCounts
replay_counts address c = counts_of address (pieces_in c.edges c.end)

-- it is written whole, and what was counted is answered, or its front up to a fault
abbrev pub IsReplayed : ℕ → Captured → Option (List ℕ) → Option (List ℕ) → Bool → Bool → Result ReplayCounts WriteFault → Type 0
IsReplayed address c old new was is (Ok counts) = (counts ≡ replay_counts address c) × Appends old new (replay_text address c) × (is ≡ was)
IsReplayed address c old new was is (Err fault) = CutOff old new (replay_text address c) fault × (is ≡ true)

-- ---- as it is written

-- the pins of what was driven so, and so many further stretches that are left out
abbrev pub Plays : ℕ → List Drive → ℕ → Tally → Tally → ReplayCounts → ReplayCounts → Type 0
Plays address ds trail a b c d = Adds a b (pins_text address ds) × CountsOn (length (lows_by address ds)) (unknown_in ds + trail) c d

-- of pieces
abbrev pub PlaysPieces : ℕ → List Whole → Tally → Tally → ReplayCounts → ReplayCounts → Type 0
PlaysPieces address ps a b c d = Plays address (drives_in ps) (trails_in ps) a b c d
