-- Series of instants in the place of a time (own): `T..U`, each microsecond from T to U, or `T..U/S`, every S microseconds from T on.
-- Each instant costs a run, and there are at most 1,000,000.
use Rattle.std.specs.Prelude.{ℕ, zero, suc, ◌+◌, ◌-◌, ◌/◌, ◌<◌, ◌≤◌, ◌==◌, nat_lt, nat_le, ◌&&◌, Bool, if◌then◌else◌, length, take, drop, slice_index, List, [], ◌∷◌, Option, Some, None, Result, Ok, Err}
use Rattle.std.specs.List.{position_or_len}
use Rattle.line_wave.specs.Bounds.{latest_event}
use Rattle.text_core.specs.Number.{number_of}
use Rattle.expect_text.specs.declared.range.RangeCause.{RangeCause}
use Rattle.expect_text.specs.declared.range.RangeCause.TheVariants.{Number, Order, Range}

pub record InstantSeries : Type 0 where
  pub from : ℕ
  pub to : ℕ
  pub step : ℕ

pub record IsSeries (s : InstantSeries) : Type 0 where
  pub forward : s.from ≤ s.to
  pub early : s.to ≤ latest_event
  pub moves : 0 < s.step

-- ---- instants

-- so many instants, in order
abbrev pub instants_from : ℕ → ℕ → ℕ → List ℕ
instants_from from step zero = []
instants_from from step (suc n) = from ∷ instants_from (from + step) step n

-- the instants from one time to another, in order
abbrev pub instants : ℕ → ℕ → ℕ → List ℕ
instants step from to = instants_from from step ((to - from) / step + 1)

abbrev pub instants_of : InstantSeries → List ℕ
instants_of s = instants s.step s.from s.to

-- ---- words

-- where a byte first stands, or the length
abbrev pub place_of : ℕ → List ℕ → ℕ
place_of byte word = position_or_len (λ b. b == byte) word

-- a word whose first point is followed by another
abbrev pub is_range : List ℕ → Bool
is_range word = (slice_index word (place_of 46 word) == 46) && (slice_index word (place_of 46 word + 1) == 46)

-- a time, at most 1,000,000,000,000
abbrev pub time_in_range : Option ℕ → Option ℕ
time_in_range None = None
time_in_range (Some t) = if nat_le t latest_event then Some t else None

abbrev pub positive : Option ℕ → Option ℕ
positive None = None
positive (Some s) = if s == 0 then None else Some s

-- the step, at most 1,000,000,000,000, which is 1 where there is no slash
abbrev pub step_at : List ℕ → ℕ → Option ℕ
step_at text slash = if nat_lt slash (length text) then positive (time_in_range (number_of (drop (slash + 1) text))) else Some 1

-- how many steps lie between two times, one fewer than instants
abbrev pub steps_between : ℕ → ℕ → ℕ → ℕ
steps_between from to step = (to - from) / step

-- the most instants of a range
abbrev pub most_instants : ℕ
most_instants = 1000000

abbrev pub series_to : ℕ → ℕ → ℕ → Result InstantSeries RangeCause
series_to from to step =
    if nat_lt to from then Err Order
    else if nat_lt (steps_between from to step) most_instants then Ok (record { from = from; to = to; step = step })
    else Err Range

abbrev pub series_by : Option ℕ → Option ℕ → Option ℕ → Result InstantSeries RangeCause
series_by None to step = Err Number
series_by (Some from) None step = Err Number
series_by (Some from) (Some to) None = Err Number
series_by (Some from) (Some to) (Some step) = series_to from to step

-- `U` or `U/S`
abbrev pub series_until : Option ℕ → List ℕ → Result InstantSeries RangeCause
series_until from text = series_by from (time_in_range (number_of (take (place_of 47 text) text))) (step_at text (place_of 47 text))

-- a range: `T..U` or `T..U/S`
abbrev pub series_in : List ℕ → Result InstantSeries RangeCause
series_in word = series_until (time_in_range (number_of (take (place_of 46 word) word))) (drop (place_of 46 word + 2) word)
