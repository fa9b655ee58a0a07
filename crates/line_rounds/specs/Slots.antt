-- The slots of a reading: how far apart they fall, and what is known of them when. (own)
use Rattle.std.specs.Prelude.{◌≡◌, ℕ, ◌+◌, ◌<◌, ◌≤◌, Bool, true, false, List, [], ◌∷◌, ◌++◌, Option, Some, None}
use Rattle.std.specs.List.{filter_map}
use Rattle.line_wave.specs.Line.{Line, is_fall}
use Rattle.line_frames.specs.declared.Ending.TheVariants.{Short}
use Rattle.line_reading.specs.Windows.{sample_at, standard}
use Rattle.line_reading.specs.Reading.After.{Next}
use Rattle.line_reading.specs.Reading.{Read, Slot, after_slot, known_slots, last_ending, reading_of}

-- each falls more than 1,050 after the one before, the first at `from` or later
abbrev pub AreSpaced : ℕ → List Slot → Type 0
AreSpaced from [] = Unit {0}
AreSpaced from (s ∷ ss) = (from ≤ s.fall) × AreSpaced (s.fall + (sample_at + 1)) ss

-- a bit that is sampled is sampled by `until`
abbrev pub IsReported : ℕ → ℕ → Option Bool → Type 0
IsReported until fall None = Unit {0}
IsReported until fall (Some b) = fall + sample_at ≤ until

-- each of these slots falls by `until`, and its bit is sampled by then
abbrev pub AreReported : ℕ → List Slot → Type 0
AreReported until [] = Unit {0}
AreReported until (s ∷ ss) = (s.fall ≤ until) × IsReported until s.fall s.bit × AreReported until ss

-- the line falls at each of these slots
abbrev pub AreFalls : Line → List Slot → Type 0
AreFalls low [] = Unit {0}
AreFalls low (s ∷ ss) = (is_fall low s.fall ≡ true) × AreFalls low ss

-- what the slots of a reading have in common: how far apart they fall, and when they are told
pub record Spans (low : Line) (from : ℕ) (r : Read) : Type 0 where
  pub begun : from ≤ r.until
  pub spaced : AreSpaced from r.slots
  pub reported : AreReported r.until r.slots
  pub falls : AreFalls low r.slots
  pub short : r.ending ≡ Short → (is_fall low r.at ≡ true) × (r.until ≡ r.at)

-- the slots of each reading are like that
abbrev pub ReadingSpans : Type 0
ReadingSpans = (low : Line) (begin : ℕ) → Spans low 0 (reading_of low begin)

-- after a slot that falls at e, with these bits before it, the next one falls at f
pub record NextFall (low : Line) (e : ℕ) (bits : List Bool) (f : ℕ) : Type 0 where
  pub last : last_ending bits ≡ None
  pub fall : is_fall low f ≡ true
  pub quiet : (u : ℕ) → e < u → u < f → is_fall low u ≡ false
  pub near : f ≤ e + standard.bit_total.most
  pub far : e + standard.bit_total.least ≤ f

-- a slot that follows another falls so
abbrev pub NextFalls : Type 0
NextFalls = (low : Line) (e : ℕ) (bits : List Bool) (f : ℕ) → after_slot low e (last_ending bits) ≡ Next f → NextFall low e bits f

-- what is known at t begins with what is known at u
abbrev pub MoreBits : ℕ → ℕ → List Slot → Type 0
MoreBits u t ss = (ys : List Bool) × (filter_map (λ (s : Slot). s.bit) (known_slots t ss) ≡ filter_map (λ (s : Slot). s.bit) (known_slots u ss) ++ ys)

-- which it does where slots are so far apart
abbrev pub BitsMore : Type 0
BitsMore = (u t : ℕ) (ss : List Slot) (from : ℕ) → AreSpaced from ss → u ≤ t → MoreBits u t ss

-- once a reading is over nothing more is known of its slots
abbrev pub ReportedAll : Type 0
ReportedAll = (u t until : ℕ) (ss : List Slot) → AreReported until ss → until < u → u ≤ t → known_slots u ss ≡ known_slots t ss

-- then all of its bits are known
abbrev pub ReportedBits : Type 0
ReportedBits = (t until : ℕ) (ss : List Slot) → AreReported until ss → until < t
    → filter_map (λ (s : Slot). s.bit) (known_slots t ss) ≡ filter_map (λ (s : Slot). s.bit) ss
