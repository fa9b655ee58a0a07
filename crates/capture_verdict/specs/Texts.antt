-- The line of a verdict, by its cells (own): its word, a sentence, what was counted, and the flag that reads more.
use Rattle.std.specs.Prelude.{ℕ, nat_lt, if◌then◌else◌, List, [], ◌∷◌, codes}
use Rattle.record_core.specs.Cells.{PlainCell, both, hidden, line_only}
use Rattle.record_core.specs.Records.{record_text}
use Rattle.record_core.specs.Values.{nothing, number, text}
use Rattle.record_core.specs.declared.cell.Form.{Form}
use Rattle.capture_verdict.specs.declared.verdict.Verdict.{Verdict}
use Rattle.capture_verdict.specs.declared.verdict.Verdict.TheVariants.{Empty, Idle, MidFrame, Fine, Hum, Inverted, Glitches, TimeUnit, Stuck, Rate, Nearly, Clock, Bus, Short, Noise, Odd}

-- ---- the shapes of lines

-- `verdict WORD: SENTENCE`
abbrev pub plain_cells : List ℕ → List ℕ → List PlainCell
plain_cells word sentence =
    both (codes "verdict ") (codes "word") (text word) ∷ both (codes ": ") (codes "sentence") (text sentence) ∷ hidden (codes "in_order") nothing ∷ hidden (codes "frames") nothing
    ∷ hidden (codes "micros") nothing ∷ hidden (codes "count") nothing ∷ hidden (codes "hint") nothing ∷ hidden (codes "value") nothing ∷ hidden (codes "more") nothing ∷ []

-- `.. N of M`
abbrev pub frames_cells : List ℕ → List ℕ → ℕ → ℕ → List PlainCell
frames_cells word sentence in_order frames =
    both (codes "verdict ") (codes "word") (text word) ∷ both (codes ": ") (codes "sentence") (text sentence) ∷ both (codes ": ") (codes "in_order") (number in_order)
    ∷ both (codes " of ") (codes "frames") (number frames) ∷ hidden (codes "micros") nothing ∷ hidden (codes "count") nothing ∷ hidden (codes "hint") nothing
    ∷ hidden (codes "value") nothing ∷ hidden (codes "more") nothing ∷ []

-- `.. N us`
abbrev pub time_cells : List ℕ → List ℕ → ℕ → List PlainCell
time_cells word sentence micros =
    both (codes "verdict ") (codes "word") (text word) ∷ both (codes ": ") (codes "sentence") (text sentence) ∷ hidden (codes "in_order") nothing ∷ hidden (codes "frames") nothing
    ∷ both (codes " ") (codes "micros") (number micros) ∷ line_only (codes " us") nothing ∷ hidden (codes "count") nothing ∷ hidden (codes "hint") nothing
    ∷ hidden (codes "value") nothing ∷ hidden (codes "more") nothing ∷ []

-- `.. N`
abbrev pub count_cells : List ℕ → List ℕ → ℕ → List PlainCell
count_cells word sentence count =
    both (codes "verdict ") (codes "word") (text word) ∷ both (codes ": ") (codes "sentence") (text sentence) ∷ hidden (codes "in_order") nothing ∷ hidden (codes "frames") nothing
    ∷ hidden (codes "micros") nothing ∷ both (codes ": ") (codes "count") (number count) ∷ hidden (codes "hint") nothing ∷ hidden (codes "value") nothing
    ∷ hidden (codes "more") nothing ∷ []

-- `.., more frames with --FLAG: N`
abbrev pub turn_cells : List ℕ → List ℕ → ℕ → List PlainCell
turn_cells word sentence more =
    both (codes "verdict ") (codes "word") (text word) ∷ both (codes ": ") (codes "sentence") (text sentence) ∷ hidden (codes "in_order") nothing ∷ hidden (codes "frames") nothing
    ∷ hidden (codes "micros") nothing ∷ hidden (codes "count") nothing ∷ both (codes ", more frames with ") (codes "hint") (text (codes "--invert"))
    ∷ hidden (codes "value") nothing ∷ both (codes ": ") (codes "more") (number more) ∷ []

-- `.. N, more frames with --glitch V: N`
abbrev pub glitch_cells : List ℕ → List ℕ → ℕ → ℕ → ℕ → List PlainCell
glitch_cells word sentence count glitch more =
    both (codes "verdict ") (codes "word") (text word) ∷ both (codes ": ") (codes "sentence") (text sentence) ∷ hidden (codes "in_order") nothing ∷ hidden (codes "frames") nothing
    ∷ hidden (codes "micros") nothing ∷ both (codes ": ") (codes "count") (number count) ∷ both (codes ", more frames with ") (codes "hint") (text (codes "--glitch"))
    ∷ both (codes " ") (codes "value") (number glitch) ∷ both (codes ": ") (codes "more") (number more) ∷ []

-- `.., more frames with --margin V: N`
abbrev pub margin_cells : List ℕ → List ℕ → ℕ → ℕ → List PlainCell
margin_cells word sentence margin more =
    both (codes "verdict ") (codes "word") (text word) ∷ both (codes ": ") (codes "sentence") (text sentence) ∷ hidden (codes "in_order") nothing ∷ hidden (codes "frames") nothing
    ∷ hidden (codes "micros") nothing ∷ hidden (codes "count") nothing ∷ both (codes ", more frames with ") (codes "hint") (text (codes "--margin"))
    ∷ both (codes " ") (codes "value") (number margin) ∷ both (codes ": ") (codes "more") (number more) ∷ []

-- ---- words and sentences

-- eight pulses and gaps are chatter, fewer are glitches (own)
abbrev pub glitch_word : ℕ → List ℕ
glitch_word count = if nat_lt count 8 then codes "glitches" else codes "chatter"

abbrev pub word_of : Verdict → List ℕ
word_of Empty = codes "empty"
word_of (Idle end) = codes "idle"
word_of (MidFrame frames in_order) = codes "mid-frame"
word_of (Fine frames in_order) = codes "fine"
word_of (Hum period) = codes "other-wire"
word_of (Inverted more) = codes "inverted"
word_of (Glitches count glitch more) = glitch_word count
word_of (TimeUnit period) = codes "unit"
word_of (Stuck low) = codes "stuck"
word_of (Rate period) = codes "rate"
word_of (Nearly margin more) = codes "nearly"
word_of (Clock period) = codes "clock"
word_of (Bus lows) = codes "other-wire"
word_of (Short lows) = codes "short"
word_of (Noise lows) = codes "noise"
word_of (Odd frames in_order) = codes "odd"

abbrev pub sentence_of : Verdict → List ℕ
sentence_of Empty = codes "the capture has no edge and takes no time"
sentence_of (Idle end) = codes "the line never falls, nobody speaks or this is another wire, and the capture takes"
sentence_of (MidFrame frames in_order) = codes "a CEC line, the capture begins within a frame, frames in order"
sentence_of (Fine frames in_order) = codes "a CEC line, frames in order"
sentence_of (Hum period) = codes "hum of the mains, the probe does not touch the line or has no ground, from fall to fall"
sentence_of (Inverted more) = codes "the levels are turned, idle is low"
sentence_of (Glitches count glitch more) = codes "pulses and gaps that are shorter than any of CEC"
sentence_of (TimeUnit period) = codes "falls stand as in frames of CEC, times are of another unit, a bit lasts about"
sentence_of (Stuck low) = codes "the line hangs low for longer than any stretch of CEC, for most of the time, in all"
sentence_of (Rate period) = codes "samples are too far apart for CEC, which asks for one each 250 us at least, edges stand at multiples of"
sentence_of (Nearly margin more) = codes "times are a little out of the windows of CEC"
sentence_of (Clock period) = codes "falls stand as in frames of CEC, the clock is off, a bit takes 2050 to 2750 us and here about"
sentence_of (Bus lows) = codes "most low stretches are shorter than 100 us, those of CEC 400 at least, as on a faster bus or of noise, low stretches"
sentence_of (Short lows) = codes "no block of a frame is read, the capture is short, low stretches"
sentence_of (Noise lows) = codes "no block of a frame is read, as on another wire, of noise or at another unit of time, low stretches"
sentence_of (Odd frames in_order) = codes "a CEC line on which much is not as the standard has it, frames in order"

-- ---- of a verdict

abbrev pub cells_of : Verdict → List ℕ → List ℕ → List PlainCell
cells_of Empty word sentence = plain_cells word sentence
cells_of (Idle end) word sentence = time_cells word sentence end
cells_of (MidFrame frames in_order) word sentence = frames_cells word sentence in_order frames
cells_of (Fine frames in_order) word sentence = frames_cells word sentence in_order frames
cells_of (Hum period) word sentence = time_cells word sentence period
cells_of (Inverted more) word sentence = turn_cells word sentence more
cells_of (Glitches count glitch more) word sentence = glitch_cells word sentence count glitch more
cells_of (TimeUnit period) word sentence = time_cells word sentence period
cells_of (Stuck low) word sentence = time_cells word sentence low
cells_of (Rate period) word sentence = time_cells word sentence period
cells_of (Nearly margin more) word sentence = margin_cells word sentence margin more
cells_of (Clock period) word sentence = time_cells word sentence period
cells_of (Bus lows) word sentence = count_cells word sentence lows
cells_of (Short lows) word sentence = count_cells word sentence lows
cells_of (Noise lows) word sentence = count_cells word sentence lows
cells_of (Odd frames in_order) word sentence = frames_cells word sentence in_order frames

abbrev pub verdict_cells : Verdict → List PlainCell
verdict_cells v = cells_of v (word_of v) (sentence_of v)

abbrev pub verdict_text : Form → Verdict → List ℕ
verdict_text form v = record_text form (codes "verdict") (verdict_cells v)
