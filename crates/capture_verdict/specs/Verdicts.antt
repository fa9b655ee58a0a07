-- The verdict of a captured line: the first of a list whose predicate holds. Each is a predicate over the low stretches of the line, its
-- pieces (CEC 5.2, 6.1, 7.4) or its readings. Times in microseconds. Shares and bounds are this profile's own.
use Rattle.std.specs.Prelude.{◌≡◌, ℕ, ◌+◌, ◌-◌, ◌*◌, ◌/◌, ◌<◌, ◌==◌, Bool, true, false, not, nat_lt, nat_le, ◌&&◌, ◌||◌, if◌then◌else◌, List, [], ◌∷◌, ◌++◌, Option, Some, None, option_map}
use Rattle.std.specs.List.{list_all}
use Rattle.line_wave.specs.declared.Edge.{Edge}
use Rattle.audit_widths.specs.declared.low.Low.{Low}
use Rattle.audit_widths.specs.Spreads.{sum_of}
use Rattle.audit_pieces.specs.Pieces.{Whole}
use Rattle.audit_pieces.specs.Stretches.{stretches_of}
use Rattle.audit_pieces.specs.Wide.{pieces_of}
use Rattle.piece_audit.specs.Wide.{lows_from}
use Rattle.capture_core.specs.Edges.{Captured}
use Rattle.capture_invert.specs.Inverted.{inverted_edges}
use Rattle.capture_smooth.specs.Smooth.{smooth_edges}
use Rattle.capture_advice.specs.Counts.{IsCounted, capped, complete_at}
use Rattle.capture_advice.specs.declared.widening.Widening.{Widening}
use Rattle.capture_signs.specs.declared.pieces.PieceCounts.{PieceCounts}
use Rattle.capture_signs.specs.declared.runs.RunKind.TheVariants.{Each, Framed}
use Rattle.capture_signs.specs.declared.sums.Sign.{Sign}
use Rattle.capture_signs.specs.declared.sums.Sign.TheVariants as signs
use Rattle.capture_signs.specs.Pieces.{counts_of, is_lawful}
use Rattle.capture_signs.specs.Rates.{coarse_rate}
use Rattle.capture_signs.specs.Runs.{run_count}
use Rattle.capture_signs.specs.Signs.{longest_short, shortest_period, signed}
use Rattle.capture_verdict.specs.declared.verdict.Verdict.{Verdict}
use Rattle.capture_verdict.specs.declared.verdict.Verdict.TheVariants.{Empty, Idle, MidFrame, Fine, Hum, Inverted, Glitches, TimeUnit, Stuck, Rate, Nearly, Clock, Bus, Short, Noise, Odd}
use Rattle.capture_verdict.specs.Lists.{first_some, value_or}

-- ---- of a capture

abbrev pub lows_of : Captured → List Low
lows_of c = lows_from c.edges

abbrev pub pieces_in : Captured → List Whole
pieces_in c = pieces_of c.end (Some 0) (stretches_of c.end (lows_of c))

unfoldable pub pieces : Captured → PieceCounts
pieces c = counts_of (pieces_in c)

unfoldable pub sum : Sign → Captured → ℕ
sum sign c = signed sign c.end (lows_of c)

unfoldable pub shortest : Captured → ℕ
shortest c = shortest_period (lows_of c)

-- how many readings of it are complete (CEC 6.1), as `mon` reads it; a count that stays at the greatest value
unfoldable pub complete : Captured → ℕ
complete c = capped (complete_at 0 c)

-- read the other way round
abbrev pub turned : Captured → Captured
turned c = record { edges = inverted_edges c.edges; end = c.end }

-- read without pulses and gaps that are shorter
abbrev pub smoothed : ℕ → Captured → Captured
smoothed glitch c = record { edges = smooth_edges glitch c.edges; end = c.end }

abbrev pub is_most : ℕ → ℕ → Bool
is_most part whole = nat_lt whole (sum_of part part)

-- ---- each verdict

-- `empty` and `idle`: no fall
abbrev pub silent_by : List Edge → ℕ → Option Verdict
silent_by [] end = Some (if end == 0 then Empty else Idle end)
silent_by (e ∷ es) end = None

unfoldable pub silent_of : Captured → Option Verdict
silent_of c = silent_by c.edges c.end

-- it is low for longer than any stretch of CEC, for most of the time
unfoldable pub is_stuck : Captured → Bool
is_stuck c = is_most (sum signs.StuckTime c) c.end

-- A frame is in order of which a whole block was read, and nine frames of ten are in order.
abbrev pub is_steady : PieceCounts → Bool
is_steady k = nat_lt 0 k.read && nat_le (k.frames - k.in_order) (k.frames / 10)

abbrev pub steady_verdict : PieceCounts → Verdict
steady_verdict k = if nat_lt 0 k.mid_frames then MidFrame k.frames k.in_order else Fine k.frames k.in_order

-- `fine`, and `mid-frame` where the capture begins within a frame
abbrev pub fine_by : Bool → PieceCounts → Option Verdict
fine_by stuck k = if not stuck && is_steady k then Some (steady_verdict k) else None

unfoldable pub fine_of : Captured → Option Verdict
fine_of c = fine_by (is_stuck c) (pieces c)

-- `inverted`: it is low most of the time, and read the other way round more readings are complete
abbrev pub inverted_by : Bool → ℕ → ℕ → Option Verdict
inverted_by low plain other = if low && nat_lt plain other then Some (Inverted (other - plain)) else None

unfoldable pub is_low : Captured → Bool
is_low c = is_most (sum signs.LowTime c) c.end

unfoldable pub inverted_of : Captured → Option Verdict
inverted_of c = inverted_by (is_low c) (complete c) (complete (turned c))

-- `chatter` and `glitches`: pulses or gaps are shorter than any of CEC, and without them more readings are complete
abbrev pub above : ℕ → ℕ
above longest = 10 * (longest / 10) + 10

unfoldable pub glitch_of : Captured → ℕ
glitch_of c = above (longest_short (lows_of c))

abbrev pub glitches_by : ℕ → ℕ → ℕ → ℕ → Option Verdict
glitches_by count glitch plain other = if nat_lt 0 count && nat_lt plain other then Some (Glitches count glitch (other - plain)) else None

unfoldable pub glitches_of : Captured → Option Verdict
glitches_of c = glitches_by (sum signs.ShortPulses c) (glitch_of c) (complete c) (complete (smoothed (glitch_of c) c))

-- Falls stand as in frames of CEC, in whatever unit: three runs at least are a start bit and blocks of ten, and two of three are; yet of the times
-- within runs one of ten at most is as long as a bit of CEC.
abbrev pub is_framed_by : ℕ → ℕ → ℕ → ℕ → Bool
is_framed_by runs framed periods bits = nat_le 3 framed && (nat_le (runs - framed) (runs / 3) && nat_le bits (periods / 10))

unfoldable pub is_framed : Captured → Bool
is_framed c =
    is_framed_by (run_count Each (shortest c) (lows_of c)) (run_count Framed (shortest c) (lows_of c)) (sum (signs.RunPeriods (shortest c)) c)
    (sum (signs.BitPeriods (shortest c)) c)

-- `other-wire`: falls do not stand so, and of the times from fall to fall, five at least, eight of ten are those of the mains or of its rectifier
abbrev pub hum_by : Bool → ℕ → ℕ → ℕ → Option Verdict
hum_by framed period all near = if not framed && (nat_le 5 all && nat_le (all - near) (all / 5)) then Some (Hum period) else None

unfoldable pub hum_of : ℕ → Captured → Option Verdict
hum_of period c = hum_by (is_framed c) period (sum signs.Periods c) (sum (signs.HumPeriods period) c)

-- `unit`: the shortest time from fall to fall is a fifth or more below the shortest bit, 2,050, or above the longest, 2,750 (CEC 5.2.2)
abbrev pub unit_by : Bool → ℕ → Option Verdict
unit_by framed shortest = if framed && (nat_lt shortest 1640 || nat_lt 3300 shortest) then Some (TimeUnit shortest) else None

unfoldable pub unit_of : Captured → Option Verdict
unit_of c = unit_by (is_framed c) (shortest c)

-- `clock`: it is
abbrev pub clock_by : Bool → ℕ → Option Verdict
clock_by framed shortest = if framed then Some (Clock shortest) else None

unfoldable pub clock_of : Captured → Option Verdict
clock_of c = clock_by (is_framed c) (shortest c)

abbrev pub stuck_by : Bool → ℕ → Option Verdict
stuck_by stuck low = if stuck then Some (Stuck low) else None

unfoldable pub stuck_of : Captured → Option Verdict
stuck_of c = stuck_by (is_stuck c) (sum signs.StuckTime c)

-- More low stretches than a block has twice: fewer say little of the line.
abbrev pub are_many : ℕ → Bool
are_many lows = nat_lt 20 lows

-- `rate`: samples so far apart do not tell a 1 from a 0
abbrev pub rate_by : ℕ → Option ℕ → Option Verdict
rate_by lows rate = if are_many lows then option_map Rate rate else None

unfoldable pub rate_of : Captured → Option Verdict
rate_of c = rate_by (sum signs.Lows c) (coarse_rate c.edges)

-- `nearly`: by windows that are wider more readings are complete
abbrev pub nearly_of : Widening → Option Verdict
nearly_of w = if nat_lt 0 w.more then Some (Nearly w.margin w.more) else None

-- `other-wire`: most low stretches are shorter than a quarter of any of CEC
abbrev pub bus_by : ℕ → ℕ → Option Verdict
bus_by lows fast = if are_many lows && is_most fast lows then Some (Bus lows) else None

unfoldable pub bus_of : Captured → Option Verdict
bus_of c = bus_by (sum signs.Lows c) (sum signs.FastLows c)

-- `short`: no block is read, and the longest frame has as many low stretches: a start bit and sixteen blocks (CEC 6.1); `noise`: it has fewer
abbrev pub short_by : ℕ → ℕ → Option Verdict
short_by headed lows = if headed == 0 then Some (if nat_lt 161 lows then Noise lows else Short lows) else None

unfoldable pub short_of : Captured → Option Verdict
short_of c = short_by (pieces c).headed (sum signs.Lows c)

-- `odd`: blocks are read, and not nine frames of ten are in order
unfoldable pub odd_of : Captured → Verdict
odd_of c = Odd (pieces c).frames (pieces c).in_order

-- ---- in order

-- the periods of the mains at 50 and at 60 Hz, and half of them
abbrev pub mains : List ℕ
mains = 20000 ∷ 16667 ∷ 10000 ∷ 8333 ∷ []

abbrev pub hums : Captured → List ℕ → List (Option Verdict)
hums c [] = []
hums c (period ∷ periods) = hum_of period c ∷ hums c periods

-- as it stands
abbrev pub plain_verdicts : Captured → List (Option Verdict)
plain_verdicts c = silent_of c ∷ fine_of c ∷ hums c mains

-- where it is to be read otherwise
abbrev pub other_readings : Captured → List (Option Verdict)
other_readings c = inverted_of c ∷ glitches_of c ∷ []

-- why little is read on it, before a margin is tried and after it
abbrev pub causes : Captured → List (Option Verdict)
causes c = unit_of c ∷ stuck_of c ∷ rate_of c ∷ []

abbrev pub remains : Captured → List (Option Verdict)
remains c = clock_of c ∷ bus_of c ∷ short_of c ∷ []

-- `w` is the margin that reads most
abbrev pub after_causes : Captured → Widening → List (Option Verdict)
after_causes c w = nearly_of w ∷ remains c

abbrev pub after_readings : Captured → Widening → List (Option Verdict)
after_readings c w = causes c ++ after_causes c w

abbrev pub after_plain : Captured → Widening → List (Option Verdict)
after_plain c w = other_readings c ++ after_readings c w

abbrev pub verdicts : Captured → Widening → List (Option Verdict)
verdicts c w = plain_verdicts c ++ after_plain c w

-- the first of a list, or `odd`
abbrev pub first_of : Captured → List (Option Verdict) → Verdict
first_of c vs = value_or (odd_of c) (first_some vs)

abbrev pub verdict_by : Captured → Widening → Verdict
verdict_by c w = first_of c (verdicts c w)

abbrev pub IsFirst : Captured → (Widening → List (Option Verdict)) → Verdict → Type 0
IsFirst c list v = (w : Widening) × IsCounted c w × (v ≡ first_of c (list w))

abbrev pub IsVerdict : Captured → Verdict → Type 0
IsVerdict c v = IsFirst c (verdicts c) v

-- ---- laws

-- Read as a hint has it, more readings are complete.
abbrev pub HintReadsMore : Captured → Verdict → Type 0
HintReadsMore c (Inverted more) = complete_at 0 c < complete_at 0 (turned c)
HintReadsMore c (Glitches count glitch more) = complete_at 0 c < complete_at 0 (smoothed glitch c)
HintReadsMore c (Nearly margin more) = complete_at 0 c < complete_at margin c
HintReadsMore c _ = Unit {0}

abbrev pub IsFine : Verdict → Type 0
IsFine (Fine frames in_order) = Unit {0}
IsFine (MidFrame frames in_order) = Unit {0}
IsFine _ = ⊥

-- A line is fine that is not stuck, all of whose pieces are frames in order, or the rest of one in which it begins, of which one
-- has a whole block.
abbrev pub LawfulLinesAreFine : Type 0
LawfulLinesAreFine = (c : Captured) (w : Widening) → list_all is_lawful (pieces_in c) ≡ true → 0 < (pieces c).read → is_stuck c ≡ false → IsFine (verdict_by c w)

-- A line is idle that does not fall.
abbrev pub SilentLinesAreIdle : Type 0
SilentLinesAreIdle = (c : Captured) (w : Widening) → c.edges ≡ [] → 0 < c.end → verdict_by c w ≡ Idle c.end
