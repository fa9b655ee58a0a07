-- The wire that a dump reports, and its line: at an instant it has the level of the last change at or before it
-- (IEEE 1364-2005, 18.2). Times are counted in ticks here, and nothing is said of edges, lines of the text and faults.
use Rattle.std.specs.Prelude.{◌≡◌, ℕ, ◌*◌, ◌==◌, ◌&&◌, ◌||◌, not, Bool, false, nat_le, if◌then◌else◌, List, [], ◌∷◌, ◌++◌, length, drop, slice_index, codes, Option, Some, None, Ok, filter}
use Rattle.std.specs.List.{flat_map}
use Rattle.std.specs.Option.{option_to_list}
use Rattle.std.specs.Str.{bytes_eq}
use Rattle.text_core.specs.Lines.{lines_of}
use Rattle.text_core.specs.Number.{value_of}
use Rattle.capture_core.specs.Edges.{Captured, IsCapture, line_of_edges}
use Rattle.capture_vcd.specs.Scale.{count_times, counted_word, micros, unit_of}
use Rattle.capture_vcd.specs.Dump.{edges_in, is_end, is_high, is_mark, is_vector, parts_of, vector_value}
use Rattle.capture_vcd.specs.declared.scale.Count.{Count}
use Rattle.capture_vcd.specs.declared.scale.Unit.{Unit as UnitOf}
use Rattle.capture_vcd.specs.declared.scale.Unit.TheVariants.{Second, Millisecond, Microsecond, Nanosecond, Picosecond, Femtosecond}
use Rattle.capture_vcd.specs.declared.scale.Scale.{Scale as ScaleOf}
use Rattle.capture_vcd.specs.declared.reader.Section.{Section}
use Rattle.capture_vcd.specs.declared.reader.Section.TheVariants as section

-- the words of a text: what stands between white space
abbrev pub is_some_word : List ℕ → Bool
is_some_word word = not (length word == 0)

abbrev pub words_in : List ℕ → List (List ℕ)
words_in text = filter is_some_word (flat_map parts_of (lines_of text))

-- ---- the definitions (18.2.3, declaration commands)

-- a section: a keyword, and the words after it up to `$end`
pub record Part : Type 0 where
  pub keyword : List ℕ
  pub words : List (List ℕ)

-- the time scale, the identifier of the wire, and the words after `$enddefinitions`
pub record Wire : Type 0 where
  pub scale : ScaleOf
  pub id : List ℕ
  pub words : List (List ℕ)

abbrev pub unit_made : Count → Option UnitOf → Option ScaleOf
unit_made count None = None
unit_made count (Some unit) = Some (record { count = count; unit = unit })

abbrev pub unit_in : Count → List (List ℕ) → Option ScaleOf
unit_in count [] = None
unit_in count (word ∷ words) = unit_made count (unit_of word)

abbrev pub scale_by : Option (Count × List ℕ) → List (List ℕ) → Option ScaleOf
scale_by None words = None
scale_by (Some c) words = if length c.1 == 0 then unit_in c.0 words else unit_made c.0 (unit_of c.1)

-- a count and a unit, as one word or two
abbrev pub scale_in : List (List ℕ) → Option ScaleOf
scale_in [] = None
scale_in (word ∷ words) = scale_by (counted_word word) words

-- a variable's type, size, identifier and name: it is the wire, if it has one bit and the name that is asked for
abbrev pub wire_called : List ℕ → List (List ℕ) → Option (List ℕ)
wire_called name (kind ∷ size ∷ id ∷ own ∷ more) = if bytes_eq size (codes "1") && ((length name == 0) || bytes_eq own name) then Some id else None
wire_called name words = None

abbrev pub first_of : Option (List ℕ) → Option (List ℕ) → Option (List ℕ)
first_of None next = next
first_of (Some id) next = Some id

-- the last time scale counts, and the first wire
abbrev pub scale_after : Part → Option ScaleOf → Option ScaleOf
scale_after p scale = if bytes_eq p.keyword (codes "$timescale") then scale_in p.words else scale

abbrev pub id_after : List ℕ → Part → Option (List ℕ) → Option (List ℕ)
id_after name p id = if bytes_eq p.keyword (codes "$var") then first_of id (wire_called name p.words) else id

abbrev pub wire_by : Option ScaleOf → Option (List ℕ) → List (List ℕ) → Option Wire
wire_by (Some scale) (Some id) words = Some (record { scale = scale; id = id; words = words })
wire_by None id words = None
wire_by scale None words = None

-- section by section, where one is open or not
abbrev pub wire_from : List ℕ → Option Part → Option ScaleOf → Option (List ℕ) → List (List ℕ) → Option Wire
wire_from name part scale id [] = None
wire_from name None scale id (word ∷ words) =
    if slice_index word 0 == 36
    then (if bytes_eq word (codes "$enddefinitions") then wire_by scale id words
    else if is_end word then wire_from name None scale id words
    else wire_from name (Some (record { keyword = word; words = [] })) scale id words)
    else wire_from name None scale id words
wire_from name (Some p) scale id (word ∷ words) =
    if is_end word then wire_from name None (scale_after p scale) (id_after name p id) words
    else wire_from name (Some (record { keyword = p.keyword; words = p.words ++ word ∷ [] })) scale id words

-- the wire of this name, or any where that is empty
abbrev pub wire_in : List ℕ → List (List ℕ) → Option Wire
wire_in name words = wire_from name None None None words

-- ---- the changes (18.2.1, value changes)

-- from a tick on the wire is low or not
pub record Change : Type 0 where
  pub tick : ℕ
  pub low : Bool

-- a value of one bit
abbrev pub is_scalar : List ℕ → Bool
is_scalar word = (slice_index word 0 == 48) || is_high (slice_index word 0)

abbrev pub is_alone : List ℕ → Bool
is_alone word = length (drop 1 word) == 0

-- what the word after a word belongs to
abbrev pub section_after : Section → List ℕ → Section
section_after section.Free word =
    if slice_index word 0 == 36 then (if is_mark word then section.Free else section.Skipped)
    else if slice_index word 0 == 35 then section.Free
    else if is_scalar word then (if is_alone word then section.Value (Some (slice_index word 0 == 48)) else section.Free)
    else section.Value (if is_vector word then vector_value word else None)
section_after section.Skipped word = if is_end word then section.Free else section.Skipped
section_after _ word = section.Free

-- the tick of what stands after a word: a time is `#` and its number
abbrev pub tick_after : Section → List ℕ → ℕ → ℕ
tick_after section.Free word tick = if slice_index word 0 == 35 then value_of (drop 1 word) else tick
tick_after _ word tick = tick

abbrev pub change_by : Option Bool → Bool → ℕ → Option Change
change_by None own tick = None
change_by (Some low) own tick = if own then Some (record { tick = tick; low = low }) else None

-- the change that a word gives the variable of this identifier: `0ID`, `1ID`, or the second word of `b0 ID`
abbrev pub change_of : List ℕ → Section → List ℕ → ℕ → Option Change
change_of id section.Free word tick =
    if is_scalar word && not (is_alone word) then change_by (Some (slice_index word 0 == 48)) (bytes_eq (drop 1 word) id) tick else None
change_of id (section.Value value) word tick = change_by value (bytes_eq word id) tick
change_of id _ word tick = None

abbrev pub changes_in : List ℕ → ℕ → Section → List (List ℕ) → List Change
changes_in id tick s [] = []
changes_in id tick s (word ∷ words) = option_to_list (change_of id s word tick) ++ changes_in id (tick_after s word tick) (section_after s word) words

-- the last time
abbrev pub last_tick : ℕ → Section → List (List ℕ) → ℕ
last_tick tick s [] = tick
last_tick tick s (word ∷ words) = last_tick (tick_after s word tick) (section_after s word) words

-- ---- the line

abbrev pub femtoseconds : UnitOf → ℕ
femtoseconds Second = 1000000000000000
femtoseconds Millisecond = 1000000000000
femtoseconds Microsecond = 1000000000
femtoseconds Nanosecond = 1000000
femtoseconds Picosecond = 1000
femtoseconds Femtosecond = 1

-- a tick is not after the first instant of microsecond u
abbrev pub is_by : ScaleOf → ℕ → ℕ → Bool
is_by scale tick u = nat_le (count_times scale.count tick * femtoseconds scale.unit) (u * 1000000000)

-- the last change that is not after it counts
abbrev pub level_of : ScaleOf → Bool → List Change → ℕ → Bool
level_of scale is_low [] u = is_low
level_of scale is_low (c ∷ cs) u = level_of scale (if is_by scale c.tick u then c.low else is_low) cs u

-- before the first change the line is high; after `$enddefinitions` its section goes on up to `$end`
abbrev pub wire_line : Wire → ℕ → Bool
wire_line w u = level_of w.scale false (changes_in w.id 0 section.Skipped w.words) u

-- the last time, in microseconds, rounded up
abbrev pub wire_end : Wire → ℕ
wire_end w = micros w.scale (last_tick 0 section.Skipped w.words)

pub record IsSampled (w : Wire) (e : Captured) : Type 0 where
  pub line : (u : ℕ) → line_of_edges e.edges u ≡ wire_line w u
  pub end : e.end ≡ wire_end w
  pub capture : IsCapture e.edges e.end

-- A dump that is read is its wire, sampled: each microsecond has the level of the wire at its first instant, and the
-- capture ends with the dump's last time.
abbrev pub DumpsAreSampled : Type 0
DumpsAreSampled = (name text : List ℕ) (e : Captured) → edges_in name text ≡ Ok e → (w : Wire) × (wire_in name (words_in text) ≡ Some w) × IsSampled w e
