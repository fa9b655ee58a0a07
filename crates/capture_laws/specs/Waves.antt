-- The edges of a wave, and a script's pulses and pulls (own).
use Rattle.std.specs.Prelude.{◌≡◌, ℕ, ◌≤◌, false, List}
use Rattle.line_wave.specs.declared.Stretch.{Stretch}
use Rattle.line_wave.specs.Line.{line_of, IsWave, IsWaveFrom}
use Rattle.line_wave.specs.Bounds.{latest_instant}
use Rattle.capture_core.specs.Edges.{IsCapture, edges_of, level_at}
use Rattle.room_script.specs.Script.{Course, IsScript}
use Rattle.room_run.specs.OneRun.{AreOverBy}

-- The edges of a wave tell its line.
abbrev pub EdgesTellWaves : Type 0
EdgesTellWaves = (ss : List Stretch) (from u : ℕ) → IsWaveFrom from ss → level_at false (edges_of ss) u ≡ line_of ss u

-- Where it is high from the end on, they are a capture, within the limit of one.
abbrev pub WavesAreCaptures : Type 0
WavesAreCaptures = (ss : List Stretch) (end : ℕ) → IsWave ss → ((u : ℕ) → end ≤ u → line_of ss u ≡ false) → end ≤ latest_instant
    → IsCapture (edges_of ss) end

-- The pulses and pulls of a script are over by the latest instant.
abbrev pub ScriptsAreOver : Type 0
ScriptsAreOver = (count : ℕ) (course : Course) → IsScript count course → AreOverBy latest_instant course.end course.pulses
