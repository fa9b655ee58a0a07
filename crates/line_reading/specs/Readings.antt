-- All readings of a line, one after another, and what is known of them by an instant.
use Rattle.std.specs.Prelude.{◌≡◌, ℕ, zero, suc, ◌+◌, ◌-◌, ◌<◌, ◌≤◌, Bool, true, false, nat_le, if◌then◌else◌, List, [], ◌∷◌, map, Option, Some, None}
use Rattle.std.specs.List.{filter_map, flat_map}
use Rattle.line_wave.specs.declared.Stretch.{Stretch}
use Rattle.line_wave.specs.Line.{Line, line_of, is_fall}
use Rattle.line_frames.specs.declared.Ending.TheVariants.{Open}
use Rattle.line_reading.specs.Reading.{first_in, Read, Told, known_at, reading_by, reading_of, reported_of}
use Rattle.line_reading.specs.declared.times.Windows.{Windows}

-- a reading in a list: where it began, and what is known of it
pub record Listed : Type 0 where
  pub begin : ℕ
  pub reported : Told

-- what is known of a reading by t: all of it where it has ended by then, else the bits sampled by then (own: it is open)
abbrev pub reported_by_time : ℕ → Read → Told
reported_by_time t r = if nat_le r.at t then reported_of r else record { bits = filter_map (λ s. s.bit) (known_at (t + 1) r).slots; ending = Open; at = t }

abbrev pub reading_from : Line → ℕ → ℕ → Listed
reading_from low t e = record { begin = e; reported = reported_by_time t (reading_of low e) }

-- a reading that began at e, and those that begin after its last microsecond
abbrev pub listed_on : Line → ℕ → Option ℕ → (ℕ → List Listed) → List Listed
listed_on low t None later = []
listed_on low t (Some e) later = reading_from low t e ∷ later ((reading_of low e).until + 1)

-- the readings that begin from `from` to t, at most `left` of them: the first begins at the first fall
unfoldable pub readings_from : Line → ℕ → ℕ → ℕ → List Listed
readings_from low t zero from = []
readings_from low t (suc left) from = listed_on low t (first_in (is_fall low) from (t + 1 - from)) (readings_from low t left)

-- the readings of a line, cut at t; a reading takes a microsecond at least
abbrev pub readings_of : Line → ℕ → List Listed
readings_of low t = readings_from low t (t + 1) 0

-- ---- the same, as a relation: each reading begins at the first fall after the one before

-- the line first falls at e, from `from` on
pub record IsFirstFall (low : Line) (from e : ℕ) : Type 0 where
  pub after : from ≤ e
  pub falls : is_fall low e ≡ true
  pub quiet : (u : ℕ) → from ≤ u → u < e → is_fall low u ≡ false

abbrev pub AreReadingsFrom : Line → ℕ → ℕ → List Listed → Type 0
AreReadingsFrom low t from [] = (u : ℕ) → from ≤ u → u ≤ t → is_fall low u ≡ false
AreReadingsFrom low t from (x ∷ xs) =
    IsFirstFall low from x.begin × (x.begin ≤ t) × (x ≡ reading_from low t x.begin) × AreReadingsFrom low t ((reading_of low x.begin).until + 1) xs

-- the list is the one that there is
abbrev pub OneList : Type 0
OneList = (low : ℕ → Bool) (t : ℕ) (xs : List Listed) → AreReadingsFrom low t 0 xs → xs ≡ readings_of low t

abbrev pub HasList : Type 0
HasList = (low : ℕ → Bool) (t : ℕ) → AreReadingsFrom low t 0 (readings_of low t)

-- What is known by t depends on the line through t alone.
abbrev pub ListsAreCausal : Type 0
ListsAreCausal = (t : ℕ) (low other : ℕ → Bool) → ((u : ℕ) → u ≤ t → low u ≡ other u) → readings_of low t ≡ readings_of other t

-- a reading depends on the line from its fall to its last microsecond alone
abbrev pub ReadingsAreOwnBy : Windows → Type 0
ReadingsAreOwnBy w = (low other : ℕ → Bool) (begin : ℕ) → ((u : ℕ) → begin ≤ u → u ≤ (reading_by w other begin).until → low u ≡ other u) → reading_by w low begin ≡ reading_by w other begin

abbrev pub ReadingsAreOwn : Type 0
ReadingsAreOwn = (low other : ℕ → Bool) (begin : ℕ) → ((u : ℕ) → begin ≤ u → u ≤ (reading_of other begin).until → low u ≡ other u) → reading_of low begin ≡ reading_of other begin

-- ---- a line made of parts

-- a part of a line: these stretches, where they first fall, and since when they are high
pub record Part : Type 0 where
  pub begin : ℕ
  pub rest : ℕ
  pub wave : List Stretch

abbrev pub part_until : Part → ℕ
part_until p = (reading_of (line_of p.wave) p.begin).until

-- By itself it is read once, from its begin: it is high before, low there, high from its rest on, and falls no more
-- once its reading is over.
pub record IsLone (p : Part) : Type 0 where
  pub before : (u : ℕ) → u < p.begin → line_of p.wave u ≡ false
  pub first : line_of p.wave p.begin ≡ true
  pub after : (u : ℕ) → p.rest ≤ u → line_of p.wave u ≡ false
  pub quiet : (u : ℕ) → part_until p < u → is_fall (line_of p.wave) u ≡ false

-- its reading is over and its line is high when the next one begins
abbrev pub ComesBefore : Part → List Part → Type 0
ComesBefore p [] = Unit {0}
ComesBefore p (q ∷ qs) = (p.rest < q.begin) × (part_until p < q.begin)

abbrev pub AreInOrder : List Part → Type 0
AreInOrder [] = Unit {0}
AreInOrder (p ∷ ps) = IsLone p × ComesBefore p ps × AreInOrder ps

abbrev pub whole_wave : List Part → List Stretch
whole_wave ps = flat_map (λ p. p.wave) ps

abbrev pub part_listed : Part → Listed
part_listed p = record { begin = p.begin; reported = reported_of (reading_of (line_of p.wave) p.begin) }

-- the readings of all parts have ended by t
abbrev pub AreOverBy : ℕ → List Part → Type 0
AreOverBy t [] = Unit {0}
AreOverBy t (p ∷ ps) = ((reading_of (line_of p.wave) p.begin).at ≤ t) × AreOverBy t ps

-- The readings of such a line are those of its parts, in order, each once.
abbrev pub PartsAreRead : Type 0
PartsAreRead = (ps : List Part) (t : ℕ) → AreInOrder ps → AreOverBy t ps → readings_of (line_of (whole_wave ps)) t ≡ map part_listed ps
