-- When a reading is over: its last microsecond, beside its fall and its ending (own).
use Rattle.std.specs.Prelude.{◌≡◌, ℕ, ◌+◌, ◌<◌, ◌≤◌, Bool, true, List}
use Rattle.line_wave.specs.Line.{Line}
use Rattle.line_reading.specs.Windows.{standard}
use Rattle.line_reading.specs.Reading.{read_slots, reading_of}

-- the line is low at f, and `until` comes at most so much later
pub record Lately (low : Line) (until much : ℕ) : Type 0 where
  pub f : ℕ
  pub is_low : low f ≡ true
  pub by : f ≤ until
  pub soon : until ≤ f + much

-- A reading is not over before its fall.
abbrev pub OverAfterFall : Type 0
OverAfterFall = (low : ℕ → Bool) (e : ℕ) → e ≤ (reading_of low e).until

-- It is over by its ending.
abbrev pub OverByEnding : Type 0
OverByEnding = (low : ℕ → Bool) (e : ℕ) → (reading_of low e).until ≤ (reading_of low e).at

-- It ends at most a microsecond after it is over.
abbrev pub EndsOnceOver : Type 0
EndsOnceOver = (low : ℕ → Bool) (e : ℕ) → (reading_of low e).at ≤ (reading_of low e).until + 1

-- It ends after its fall.
abbrev pub EndsAfterFall : Type 0
EndsAfterFall = (low : ℕ → Bool) (e : ℕ) → e < (reading_of low e).at

-- It is over soon after the line was low.
abbrev pub OverLately : Type 0
OverLately = (low : ℕ → Bool) (e : ℕ) → low e ≡ true → Lately low (reading_of low e).until standard.start_total.most

-- From a slot on it is not over before that slot's fall, either.
abbrev pub SlotsOverAfterFall : Type 0
SlotsOverAfterFall = (low : ℕ → Bool) (left : ℕ) (bits : List Bool) (e : ℕ) → e ≤ (read_slots low left bits e).until

-- From a slot on it is over by its ending, too.
abbrev pub SlotsOverByEnding : Type 0
SlotsOverByEnding = (low : ℕ → Bool) (left : ℕ) (bits : List Bool) (e : ℕ) → (read_slots low left bits e).until ≤ (read_slots low left bits e).at
