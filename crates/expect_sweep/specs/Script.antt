-- The range of a script, and the script at an instant (own). A range stands in the place of a time: a word whose first point is
-- followed by another. Lines count from 1, words from 0.
use Rattle.std.specs.Prelude.{ℕ, ◌+◌, ◌&&◌, Bool, true, false, if◌then◌else◌, List, [], ◌∷◌, ◌++◌, Option, Some, None, Result, Ok, Err}
use Rattle.std.specs.Fmt.{decimal}
use Rattle.std.specs.List.{flat_map}
use Rattle.text_core.specs.Lines.{lines_of}
use Rattle.text_core.specs.Words.{words_of}
use Rattle.expect_sweep.specs.Places.{is_time, next_place}
use Rattle.expect_sweep.specs.Series.{InstantSeries, is_range, series_in}
use Rattle.expect_sweep.specs.declared.places.WordRole.{WordRole}
use Rattle.expect_sweep.specs.declared.places.WordRole.TheVariants.{Begin}
use Rattle.expect_text.specs.declared.range.RangeCause.{RangeCause}
use Rattle.expect_text.specs.declared.range.RangeCause.TheVariants.{Range}
use Rattle.text_core.specs.declared.at.At.{At}

abbrev pub is_range_at : WordRole → List ℕ → Bool
is_range_at place word = is_time place && is_range word

-- ---- the range

-- a range, after the one that was seen, by its line and its number there
abbrev pub with_range : ℕ → ℕ → Option InstantSeries → Result InstantSeries RangeCause → Result (Option InstantSeries) (At RangeCause)
with_range number index seen (Err cause) = Err (record { line = number; cause = cause; word = index })
with_range number index None (Ok s) = Ok (Some s)
with_range number index (Some before) (Ok s) = Err (record { line = number; cause = Range; word = index })

abbrev pub with_word : ℕ → ℕ → WordRole → Option InstantSeries → List ℕ → Result (Option InstantSeries) (At RangeCause)
with_word number index place seen word = if is_range_at place word then with_range number index seen (series_in word) else Ok seen

abbrev pub and_then : Result (Option InstantSeries) (At RangeCause) → (Option InstantSeries → Result (Option InstantSeries) (At RangeCause)) → Result (Option InstantSeries) (At RangeCause)
and_then (Err fault) next = Err fault
and_then (Ok seen) next = next seen

-- these words of a line, of which the first has this number and place
abbrev pub words_ranged : ℕ → ℕ → WordRole → Option InstantSeries → List (List ℕ) → Result (Option InstantSeries) (At RangeCause)
words_ranged number index place seen [] = Ok seen
words_ranged number index place seen (word ∷ words) = and_then (with_word number index place seen word) (λ s. words_ranged number (index + 1) (next_place place word) s words)

-- these lines, of which the first has this number
abbrev pub lines_ranged : ℕ → Option InstantSeries → List (List ℕ) → Result (Option InstantSeries) (At RangeCause)
lines_ranged number seen [] = Ok seen
lines_ranged number seen (line ∷ lines) = and_then (words_ranged number 0 Begin seen (words_of line)) (λ s. lines_ranged (number + 1) s lines)

-- the range of a script, or its first line at fault: a range that is none, or a second one
abbrev pub range_of : List ℕ → Result (Option InstantSeries) (At RangeCause)
range_of script = lines_ranged 1 None (lines_of script)

abbrev pub is_some_range : Result (Option InstantSeries) (At RangeCause) → Bool
is_some_range (Ok (Some series)) = true
is_some_range _ = false

-- whether it has one, and no line at fault
abbrev pub has_range : List ℕ → Bool
has_range script = is_some_range (range_of script)

-- ---- the script at an instant

-- in the place of a range stands the instant
abbrev pub word_at : ℕ → WordRole → List ℕ → List ℕ
word_at t place word = if is_range_at place word then decimal t else word

-- a space after a word, or the end of the line
abbrev pub mark_before : List (List ℕ) → List ℕ
mark_before [] = 10 ∷ []
mark_before (word ∷ words) = 32 ∷ []

abbrev pub words_at : ℕ → WordRole → List (List ℕ) → List ℕ
words_at t place [] = []
words_at t place (word ∷ words) = (word_at t place word ++ mark_before words) ++ words_at t (next_place place word) words

abbrev pub line_at : ℕ → List ℕ → List ℕ
line_at t line = words_at t Begin (words_of line)

-- the script with this instant in the place of its range
abbrev pub script_at : ℕ → List ℕ → List ℕ
script_at t script = flat_map (line_at t) (lines_of script)
