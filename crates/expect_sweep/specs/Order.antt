-- The order of a script's lines in time (own). Events come in order of time, and at one time as they stand; a pulse begins at least
-- 25,000 microseconds after the end of the pulse or pull before, and a pull after it; so do levels of the pin, which come in order of
-- time with pulses and pulls, and another level later than the one before; the end comes after each event above it; and no state is
-- asked for after the end.
use Rattle.std.specs.Prelude.{ℕ, ◌+◌, ◌-◌, ◌%◌, ◌==◌, nat_lt, nat_le, ◌&&◌, not, Bool, true, false, if◌then◌else◌, codes, List, [], ◌∷◌, min, Option, Some, None, Result, Ok, Err}
use Rattle.std.specs.List.{list_any}
use Rattle.std.specs.Option.{option_map}
use Rattle.std.specs.Str.{bytes_eq}
use Rattle.text_core.specs.Lines.{lines_of}
use Rattle.text_core.specs.Number.{number_of}
use Rattle.text_core.specs.Words.{words_of}
use Rattle.line_wave.specs.Bounds.{widest_pull}
use Rattle.expect_text.specs.Line.{unlabelled_words}
use Rattle.expect_sweep.specs.Places.{next_place}
use Rattle.expect_sweep.specs.Script.{is_range_at, range_of}
use Rattle.expect_sweep.specs.Series.{InstantSeries, instants_of, is_range}
use Rattle.expect_sweep.specs.declared.order.Clock.{Clock as ClockRead}
use Rattle.expect_sweep.specs.declared.order.RangeLine.{RangeLine as RangeLineRead}
use Rattle.expect_sweep.specs.declared.order.TimedLine.{TimedLine}
use Rattle.expect_sweep.specs.declared.order.TimedLine.TheVariants.{Event, Pulse, Pull, Low, High, End, State}
use Rattle.expect_sweep.specs.declared.order.Apart.{Apart}
use Rattle.expect_sweep.specs.declared.order.Apart.TheVariants.{AnyOrder, After, Before}
use Rattle.expect_sweep.specs.declared.places.WordRole.{WordRole}
use Rattle.expect_sweep.specs.declared.places.WordRole.TheVariants.{Begin}
use Rattle.text_core.specs.declared.at.At.{At}
use Rattle.expect_text.specs.declared.range.RangeCause.{RangeCause}
use Rattle.expect_text.specs.declared.range.RangeCause.TheVariants.{Crosses}

-- ---- what a line says of time

-- what comes at a time, and the word of that time
pub record Clock : Type 0 where
  pub kind : TimedLine
  pub word : List ℕ

abbrev pub clock_as : ClockRead → Clock
clock_as c = record { kind = c.kind; word = c.word.now }

abbrev pub width_by : Option ℕ → ℕ
width_by None = 0
width_by (Some width) = width

abbrev pub width_in : List (List ℕ) → ℕ
width_in [] = 0
width_in (width ∷ words) = width_by (number_of width)

abbrev pub state_clock : List (List ℕ) → Option Clock
state_clock [] = None
state_clock (time ∷ words) = Some (record { kind = State; word = time })

-- the level of a pin, by the words after its time
abbrev pub level_in : List (List ℕ) → TimedLine
level_in [] = Low
level_in (level ∷ words) = if bytes_eq level (codes "1") then High else Low

-- `at T ..`, `pulse T WIDTH`, `pull T WIDTH`, `pin T LEVEL`, `end T` or `expect state T ..`
abbrev pub clock_in : List (List ℕ) → Option Clock
clock_in [] = None
clock_in (verb ∷ []) = None
clock_in (verb ∷ time ∷ words) =
    if bytes_eq verb (codes "at") then Some (record { kind = Event; word = time })
    else if bytes_eq verb (codes "pulse") then Some (record { kind = Pulse (width_in words); word = time })
    else if bytes_eq verb (codes "pull") then Some (record { kind = Pull (width_in words); word = time })
    else if bytes_eq verb (codes "pin") then Some (record { kind = level_in words; word = time })
    else if bytes_eq verb (codes "end") then Some (record { kind = End; word = time })
    else if bytes_eq verb (codes "expect") && bytes_eq time (codes "state") then state_clock words
    else None

abbrev pub clock_of : List ℕ → Option Clock
clock_of line = clock_in (unlabelled_words (words_of line))

-- the time of a word, where in the place of a range stands the instant
abbrev pub time_at : ℕ → List ℕ → Option ℕ
time_at t word = if is_range word then Some t else number_of word

-- ---- order

-- how a line and one below it stand in time: the second one comes so long after the first, or not after it; a wider pulse than 65,535
-- counts as one of that width, and a wider pull than the widest as one a microsecond wider
abbrev pub between : TimedLine → TimedLine → Apart
between Event Event = After 0
between Event End = After 1
between (Pulse width) (Pulse other) = After (min width 65535 + 25000)
between (Pulse width) (Pull other) = After (min width 65535 + 1)
between (Pull width) (Pulse other) = After (min width (widest_pull + 1) + 25000)
between (Pull width) (Pull other) = After (min width (widest_pull + 1) + 1)
between (Pulse width) Low = After (min width 65535 + 1)
between (Pulse width) High = After (min width 65535)
between (Pull width) Low = After (min width (widest_pull + 1) + 1)
between (Pull width) High = After (min width (widest_pull + 1))
between Low High = After 1
between High Low = After 1
between Low Low = After 0
between Low (Pulse other) = After 0
between Low (Pull other) = After 0
between High High = After 0
between High (Pulse other) = After 0
between High (Pull other) = After 0
between End State = Before
between State End = After 0
between _ _ = AnyOrder

abbrev pub are_apart : Apart → ℕ → ℕ → Bool
are_apart AnyOrder first second = true
are_apart (After gap) first second = nat_le (first + gap) second
are_apart Before first second = nat_le second first

abbrev pub are_times_apart : Apart → Option ℕ → Option ℕ → Bool
are_times_apart how None second = true
are_times_apart how (Some first) None = true
are_times_apart how (Some first) (Some second) = are_apart how first second

-- ---- the line of a range

-- the place of the first range among these words, of which the first has this number and place
abbrev pub range_among : ℕ → WordRole → List (List ℕ) → Option ℕ
range_among index place [] = None
range_among index place (word ∷ words) = if is_range_at place word then Some index else range_among (index + 1) (next_place place word) words

abbrev pub range_in : List ℕ → Option ℕ
range_in line = range_among 0 Begin (words_of line)

-- a line with a range: its number, the range's number among its words, and what it says of time
pub record RangeLine : Type 0 where
  pub line : ℕ
  pub word : ℕ
  pub clock : Option Clock

abbrev pub range_line_as : RangeLineRead → RangeLine
range_line_as r = record { line = r.line; word = r.word; clock = option_map clock_as r.clock }

abbrev pub line_of : ℕ → List ℕ → Option ℕ → Option RangeLine
line_of number line None = None
line_of number line (Some word) = Some (record { line = number; word = word; clock = clock_of line })

abbrev pub or_line : Option RangeLine → Option RangeLine → Option RangeLine
or_line None next = next
or_line (Some found) next = Some found

-- the first line with a range of these, of which the first has this number
abbrev pub range_line_from : ℕ → List (List ℕ) → Option RangeLine
range_line_from number [] = None
range_line_from number (line ∷ lines) = or_line (line_of number line (range_in line)) (range_line_from (number + 1) lines)

abbrev pub range_line : List ℕ → Option RangeLine
range_line script = range_line_from 1 (lines_of script)

-- ---- the other line

-- at an instant, the line of the range is in order with another one, which stands above it or below
abbrev pub keeps_order : Bool → Clock → Clock → ℕ → Bool
keeps_order true other ranged t = are_times_apart (between other.kind ranged.kind) (number_of other.word) (time_at t ranged.word)
keeps_order false other ranged t = are_times_apart (between ranged.kind other.kind) (time_at t ranged.word) (number_of other.word)

-- at some instant of the series it is not
abbrev pub is_crossed : InstantSeries → Bool → Clock → Clock → Bool
is_crossed s is_above other ranged = list_any (λ t. not (keeps_order is_above other ranged t)) (instants_of s)

abbrev pub is_crossed_by : InstantSeries → Bool → Option Clock → Option Clock → Bool
is_crossed_by s is_above None ranged = false
is_crossed_by s is_above (Some other) None = false
is_crossed_by s is_above (Some other) (Some ranged) = is_crossed s is_above other ranged

-- the first of these lines, of which the first has this number, that is another line and not in order with it at each instant
abbrev pub crossed_from : InstantSeries → RangeLine → ℕ → List (List ℕ) → Option ℕ
crossed_from s ranged number [] = None
crossed_from s ranged number (line ∷ lines) =
    if is_crossed_by s (nat_lt number ranged.line) (clock_of line) ranged.clock && not (number == ranged.line) then Some number
    else crossed_from s ranged (number + 1) lines

abbrev pub crossing_at : RangeLine → Option ℕ → Option (At RangeCause)
crossing_at ranged None = None
crossing_at ranged (Some other) = Some (record { line = ranged.line; cause = Crosses other; word = ranged.word })

abbrev pub crossing_by : List ℕ → InstantSeries → Option RangeLine → Option (At RangeCause)
crossing_by script s None = None
crossing_by script s (Some ranged) = crossing_at ranged (crossed_from s ranged 1 (lines_of script))

-- an instant of the range breaks the order of the script
abbrev pub crossing : List ℕ → InstantSeries → Option (At RangeCause)
crossing script s = crossing_by script s (range_line script)

-- ---- ranges that keep the order

abbrev pub unless_crossing : InstantSeries → Option (At RangeCause) → Result (Option InstantSeries) (At RangeCause)
unless_crossing s None = Ok (Some s)
unless_crossing s (Some fault) = Err fault

abbrev pub ordered : List ℕ → Result (Option InstantSeries) (At RangeCause) → Result (Option InstantSeries) (At RangeCause)
ordered script (Err fault) = Err fault
ordered script (Ok None) = Ok None
ordered script (Ok (Some s)) = unless_crossing s (crossing script s)

-- the range of a script, each instant of which keeps its order; else why not
abbrev pub ordered_range : List ℕ → Result (Option InstantSeries) (At RangeCause)
ordered_range script = ordered script (range_of script)

-- ---- parts

-- the last instant
abbrev pub last_of : InstantSeries → ℕ
last_of s = s.to - (s.to - s.from) % s.step
