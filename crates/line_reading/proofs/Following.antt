-- A receiver that skips to the next edge or wake keeps what the line's readings say, by the standard's windows.
use Rattle.std.proofs.Common.{◌≡◌, ℕ, ◌<◌, ◌≤◌, Bool, Some}
use Rattle.line_wave.specs.Line.{Line, was_low}
use Rattle.line_frames.specs.declared.Ending.{Ending}
use Rattle.line_reading.specs.declared.receiver.Told.{Told}
use Rattle.line_reading.specs.declared.receiver.Told.TheVariants.{Nothing, Ended}
use Rattle.line_reading.specs.Hears.{Hears, reported_so, hear_in, hears, wake_of, wakes_left}
use Rattle.line_reading.specs.Phase.{Standing, standing_of}
use Rattle.line_reading.specs.Kept.{kept_of, kept_before, reported_at, standing_by}
use Rattle.line_reading.specs.Follows.{IsNextReported}
use Rattle.line_reading.specs.Windows.{standard}
use Rattle.line_reading.proofs.Standard.{standard_are}
use Rattle.line_reading.proofs.FollowingBy as by
use Rattle.line_reading.specs.Reading.{read_slots}
use Rattle.line_reading.specs.Kept.{running_from}
use Rattle.line_reading.specs.Phase.{standing_from}
use Rattle.line_reading.specs.Places.{StandsIn}
pub use Rattle.line_reading.specs.Hears.{hears_by}
use Rattle.line_reading.specs.Heard.{CalmReportsNothing, CalmKeepsStanding, HighLinesKeepNothing}

-- what a tick leads to on a line that goes on as it was told
pub follows_so : (h new : Hears) (was is_low : Bool) (t : ℕ) (reported : Told) → reported_so new reported ≡ hear_in t was is_low h
    → (low : Line) (before : ℕ) → h ≡ kept_before low before → was ≡ was_low low before → before ≤ t → ((u : ℕ) → before ≤ u → u < t → low u ≡ was) → low t ≡ is_low
    → ((w : ℕ) → wake_of h ≡ Some w → t ≤ w) → (new ≡ kept_of low t) × (reported ≡ reported_at low t)
unfolding read_slots running_from standing_from hears StandsIn
follows_so = by.follows_so standard standard_are

pub once_so : CalmReportsNothing
unfolding read_slots running_from standing_from hears StandsIn
once_so = by.once_so standard standard_are

-- who stood on a line stands on it later, where it goes on without an edge up to the wake
pub stood_calm : CalmKeepsStanding
unfolding read_slots running_from standing_from hears StandsIn
stood_calm = by.stood_calm standard standard_are

pub fewer_so : (h new : Hears) (was is_low : Bool) (t : ℕ) (reported : Told) → reported_so new reported ≡ hear_in t was is_low h → wake_of h ≡ Some t → is_low ≡ was → wakes_left new.place < wakes_left h.place
unfolding read_slots running_from standing_from hears StandsIn
fewer_so = by.fewer_so standard standard_are

pub again_so : (h new : Hears) (was is_low : Bool) (t : ℕ) (reported : Told) → reported_so new reported ≡ hear_in t was is_low h
    → (low other : Line) (ending : Ending) → h ≡ kept_of low t → was ≡ low t → low t ≡ was_low low t → reported_at low t ≡ Ended ending
    → ((u : ℕ) → u < t → other u ≡ low u) → other t ≡ is_low → (new ≡ kept_of other t) × (reported ≡ Nothing)
unfolding read_slots running_from standing_from hears StandsIn
again_so = by.again_so standard standard_are

pub wakes_so : (h : Hears) (was : Bool) (low : Line) (t : ℕ) → h ≡ kept_before low t → was ≡ was_low low t → ((u : ℕ) → t ≤ u → low u ≡ was) → IsNextReported low t (wake_of h)
unfolding read_slots running_from standing_from hears StandsIn
wakes_so = by.wakes_so standard standard_are

pub empty_kept : HighLinesKeepNothing
unfolding read_slots running_from standing_from hears StandsIn
empty_kept = by.empty_kept standard standard_are

pub stands_so : (h : Hears) (is_low : Bool) (shown : Standing) → shown ≡ standing_by h is_low → (low : Line) (t : ℕ) → h ≡ kept_of low t → is_low ≡ low t → shown ≡ standing_of low t
unfolding read_slots running_from standing_from hears StandsIn
stands_so = by.stands_so standard standard_are
