-- How long a sender (the standard's initiator) goes on, by what is read of its line, and what it pulls until then.
-- Arbitration: a sender that reads another bit than its own stops (CEC 9). The acknowledge bit: a sender stops after a
-- block that was not acknowledged, or a broadcast block that was refused (CEC 6.1 and 7.3).
use Rattle.std.specs.Prelude.{◌≡◌, ℕ, ◌+◌, ◌*◌, ◌-◌, ◌%◌, ◌==◌, ◌<◌, ◌≤◌, Bool, true, false, not, nat_lt, nat_le, ◌&&◌, if◌then◌else◌, List, length, slice_index_or, slice_range, fold, is_none, Option, Some, None}
use Rattle.std.specs.List.{filter_map, find, range_with_len}
use mathlib.Core.Bool.{beq}
use Rattle.line_wave.specs.Line.{Line, line_of}
use Rattle.line_wave.specs.Sender.{sender_stretches}
use Rattle.line_frames.specs.Bits.{frame_bits}
use Rattle.line_frames.specs.declared.Ending.{Ending}
use Rattle.line_frames.specs.declared.Ending.TheVariants.{Complete, Long}
use Rattle.line_reading.specs.declared.receiver.Told.{Told}
use Rattle.line_reading.specs.declared.receiver.Told.TheVariants.{Nothing}
use Rattle.line_reading.specs.declared.sender.Sender.{Sender}
use Rattle.line_reading.specs.declared.sender.SenderState.{SenderState}
use Rattle.line_reading.specs.declared.sender.SenderState.TheVariants.{Sending, Out, Stopped}
use Rattle.line_reading.specs.Reading.{End, Known, known_at, reading_of}
use Rattle.line_reading.specs.Kept.{running_of, reported_at}
use Rattle.line_reading.specs.Sends.{after_reported}

-- ---- what is known

-- the bit read in slot k, from 1
abbrev pub bit_read : List Bool → ℕ → Bool
bit_read bits k = slice_index_or bits (k - 1) false

-- the destination, in slots 5 to 8
abbrev pub destination : List Bool → ℕ
destination bits = fold (λ n bit. 2 * n + (if bit then 1 else 0)) 0 (slice_range bits 4 8)

abbrev pub known_bits : Known → List Bool
known_bits k = filter_map (λ s. s.bit) k.slots

-- the reading is known to have ended with all its blocks
abbrev pub has_all : Ending → Bool
has_all Complete = true
has_all Long = true
has_all _ = false

abbrev pub is_whole : Option End → Bool
is_whole None = false
is_whole (Some end) = has_all end.ending

-- ---- how long a sender goes on

-- a sender of these bits stops at slot n: in an acknowledge slot that does not end the reading a directly addressed block
-- was read 1 or a broadcast block 0; in another slot it read another bit, as where it loses arbitration (`whole`: the last
-- bit ends the reading). The destination is the one that was read: as long as a sender sends, it is its own. Acknowledge
-- slots are judged too, as the standard has it; that they decide nothing between two senders is proved.
abbrev pub is_out_by : List Bool → Bool → List Bool → ℕ → Bool
is_out_by bits whole sent n =
    if n % 10 == 0
    then not (whole && (n == length bits)) && not (beq (bit_read bits n) (destination bits == 15))
    else not (beq (bit_read bits n) (slice_index_or sent (n - 1) false))

-- the first such slot
abbrev pub out_by : List Bool → Bool → List Bool → Option ℕ
out_by bits whole sent = find (is_out_by bits whole sent) (range_with_len 1 (length bits))

abbrev pub out_slot : Known → List Bool → Option ℕ
out_slot k sent = out_by (known_bits k) (is_whole k.ended) sent

-- where that leaves it: out at that slot, else stopped at the ending
abbrev pub state_by : Option ℕ → Bool → SenderState
state_by (Some slot) ended = Out slot
state_by None true = Stopped
state_by None false = Sending

-- a sender of these bits before microsecond t of a line, where it sends since `begin`
abbrev pub state_before : Line → ℕ → List Bool → ℕ → SenderState
state_before low begin sent t = state_by (out_slot (known_at t (reading_of low begin)) sent) (nat_lt (reading_of low begin).at t)

-- ---- what it pulls

-- a sender does not pull after the instant at which it stopped
abbrev pub may_pull : SenderState → ℕ → ℕ → Bool
may_pull Sending last t = true
may_pull _ last t = nat_le t last

-- the frame's stretches, until it stops
abbrev pub pull_of : Sender → ℕ → Bool
pull_of s t = line_of (sender_stretches s.begin (frame_bits s.frame)) t && may_pull s.state s.last t

-- the same, of one that has stopped
abbrev pub stopped_pull : Sender → ℕ → Bool
stopped_pull s t = line_of (sender_stretches s.begin (frame_bits s.frame)) t && nat_le t s.last

-- in a round a sender pulls at t until it is out or the reading has ended, by what is known before t
abbrev pub goes_on : Option End → ℕ → Bool
goes_on None t = true
goes_on (Some end) t = nat_le t end.at

abbrev pub sender_pulls : ℕ → Known → ℕ → List ℕ → Bool
sender_pulls begin k t f = line_of (sender_stretches begin (frame_bits f)) t && (is_none (out_slot k (frame_bits f)) && goes_on k.ended t)

-- ---- a sender on a line

abbrev pub IsBefore : SenderState → ℕ → ℕ → Type 0
IsBefore Sending last t = Unit {0}
IsBefore _ last t = last < t

-- It has heard what came before t of the reading that it began.
pub record SenderStood (s : Sender) (low : Line) (t : ℕ) : Type 0 where
  pub after : s.begin < t
  pub state : s.state ≡ state_before low s.begin (frame_bits s.frame) t
  pub past : IsBefore s.state s.last t

-- From `before` to t the reading that it began runs, and nothing is added to it before t.
pub record IsSilent (low : Line) (begin before t : ℕ) : Type 0 where
  pub from : before ≤ t
  pub runs : (u : ℕ) → before ≤ u → u ≤ t → running_of low (u - 1) ≡ Some begin
  pub silent : (u : ℕ) → before ≤ u → u < t → reported_at low u ≡ Nothing

-- What is heard at t leaves it so on each line on which that is heard.
abbrev pub Hears : Sender → Told → ℕ → Sender → Type 0
Hears old reported t new =
    (low : ℕ → Bool) (before : ℕ) → SenderStood old low before → IsSilent low old.begin before t → reported ≡ reported_at low t → SenderStood new low (t + 1)

-- It stops at the instant of that slot's sample or of the ending, and stays as it is then.
abbrev pub StopsAt : SenderState → ℕ → ℕ → SenderState → ℕ → Type 0
StopsAt Sending old_last t Sending last = Unit {0}
StopsAt Sending old_last t _ last = last ≡ t
StopsAt old old_last t new last = (new ≡ old) × (last ≡ old_last)

-- In a round it pulls as the round's rule says.
abbrev pub PullsSo : Sender → ℕ → Bool → Type 0
PullsSo s t pull = (low : ℕ → Bool) → SenderStood s low t → pull ≡ sender_pulls s.begin (known_at t (reading_of low s.begin)) t s.frame

abbrev pub ShowsState : Sender → SenderState → Type 0
ShowsState s state = (low : ℕ → Bool) (t : ℕ) → SenderStood s low t → state ≡ state_before low s.begin (frame_bits s.frame) t

-- ---- a sender, report by report

-- What each instant reports of the reading that runs says how its sender goes on.
abbrev pub SendersGoByReports : Type 0
SendersGoByReports =
    (low : ℕ → Bool) (n b : ℕ) (sent : List Bool) → 1 ≤ n → running_of low (n - 1) ≡ Some b
    → state_before low b sent (n + 1) ≡ after_reported sent (state_before low b sent n) (reported_at low n)

-- Where nothing is reported, it stays as it is.
abbrev pub SilenceChangesNoSender : Type 0
SilenceChangesNoSender = (sent : List Bool) (state : SenderState) → after_reported sent state Nothing ≡ state

-- One that is as the line has it, and did not stop at t or later, pulls at t as a round has it.
abbrev pub SendersPullByRound : Type 0
SendersPullByRound =
    (low : ℕ → Bool) (begin t last : ℕ) (f : List ℕ) (state : SenderState) → state ≡ state_before low begin (frame_bits f) t → IsBefore state last t
    → (line_of (sender_stretches begin (frame_bits f)) t && may_pull state last t) ≡ sender_pulls begin (known_at t (reading_of low begin)) t f

-- ---- changes

-- the first instant after t at which a pull is not what it is at t
abbrev pub IsNextChange : (ℕ → Bool) → ℕ → Option ℕ → Type 0
IsNextChange pull t None = (u : ℕ) → t ≤ u → pull u ≡ pull t
IsNextChange pull t (Some change) = (t < change) × (pull change ≡ not (pull t)) × ((u : ℕ) → t ≤ u → u < change → pull u ≡ pull t)

-- from t on, up to `until`, a pull is low before `rise` and not from then on
abbrev pub RisesAt : (ℕ → Bool) → ℕ → ℕ → ℕ → Type 0
RisesAt pull t rise until = (u : ℕ) → t ≤ u → u < until → pull u ≡ nat_lt u rise
