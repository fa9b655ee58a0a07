-- Where one who hears a line microsecond by microsecond stands: the place in the reading that runs, and what is known of that
-- reading (own).
use Rattle.std.specs.Prelude.{◌≡◌, ℕ, suc, ◌+◌, ◌%◌, ◌<◌, ◌≤◌, Bool, true, false, not, nat_lt, List, [], ◌∷◌, ◌++◌, length, Option, Some, None}
use Rattle.std.specs.List.{filter_map}
use Rattle.line_wave.specs.Line.{Line, was_low, is_fall, is_rise}
use Rattle.line_frames.specs.declared.Ending.{Ending}
use Rattle.line_reading.specs.declared.receiver.ReceiverState.{ReceiverState}
use Rattle.line_reading.specs.declared.receiver.ReceiverState.TheVariants.{Rest, StartLow, StartHigh, Unsampled, Sampled}
use Rattle.line_reading.specs.declared.receiver.Told.{Told}
use Rattle.line_reading.specs.declared.receiver.Told.TheVariants.{Nothing, Bit, Last, Ended}
use Rattle.line_reading.specs.declared.times.Windows.{Windows}
use Rattle.line_reading.specs.Windows.{AreWindows, standard, sample_at}
use Rattle.line_reading.specs.Reading.After.{Ends}
use Rattle.line_reading.specs.Reading.{next_rise, Slot, slots_by, read_slots, reading_by, after_by, last_ending, last_heard, bit_sampled_at, known_at, known_slot}
use Rattle.line_reading.specs.Readings.{IsFirstFall}
use Rattle.line_reading.specs.Known.{with_slots, AreSampled}
use Rattle.line_reading.specs.Sending.{known_bits, is_whole}
use Rattle.line_reading.specs.Hears.{Heard, hear_in, hears}
use Rattle.line_reading.specs.Kept.{reported_since, running_of}

-- ---- along the slots of a reading

-- these slots fell one after another before e
abbrev pub AreOver : Windows → ℕ → List Slot → Type 0
AreOver w e [] = Unit {0}
AreOver w e (s ∷ ss) = (s.fall + w.bit_total.least ≤ e) × AreOver w e ss

-- the reading from `begin` has these slots, with these bits, and goes on with the slot that falls at e
pub record Reached (w : Windows) (low : Line) (begin left : ℕ) (xs : List Slot) (bits : List Bool) (e : ℕ) : Type 0 where
  pub goes : with_slots xs (slots_by w low left bits e) ≡ reading_by w low begin
  pub reported : filter_map (λ s. s.bit) xs ≡ bits
  pub over : AreOver w e xs

-- Slots that fell one after another before e were sampled before it.
abbrev pub SlotsOverAreSampled : Type 0
SlotsOverAreSampled = (windows : Windows) → AreWindows windows → (e t : ℕ) (ss : List Slot) → e ≤ t → AreOver windows e ss → AreSampled t ss

-- A slot that ends the reading is its last one.
abbrev pub EndingSlotsAreLast : Type 0
EndingSlotsAreLast =
    (windows : Windows) → AreWindows windows → (low : ℕ → Bool) (begin left : ℕ) (xs : List Slot) (before : List Bool) (e : ℕ) (ending : Ending) (at : ℕ)
    → Reached windows low begin (suc left) xs before e → after_by windows low e (last_ending before) ≡ Ends ending at
    → reading_by windows low begin ≡ record { slots = xs ++ record { fall = e; bit = bit_sampled_at low e } ∷ []; ending = ending; at = at; until = last_heard ending at }

-- Once it fell it is known, with the slots before it.
abbrev pub EndingSlotsAreKnown : Type 0
EndingSlotsAreKnown =
    (windows : Windows) → AreWindows windows → (low : ℕ → Bool) (begin left : ℕ) (xs : List Slot) (bits : List Bool) (e t : ℕ) (ending : Ending) (at : ℕ)
    → Reached windows low begin (suc left) xs bits e → e < t → after_by windows low e (last_ending bits) ≡ Ends ending at
    → (known_at t (reading_by windows low begin)).slots ≡ xs ++ known_slot t (record { fall = e; bit = bit_sampled_at low e }) ∷ []

-- ---- the readings that are over before n

-- one after another, each from its fall, from `from` to where the next one may begin
abbrev pub ArePastBy : Windows → Line → ℕ → ℕ → List ℕ → ℕ → Type 0
ArePastBy w low n from [] to = to ≡ from
ArePastBy w low n from (e ∷ es) to =
    IsFirstFall low from e × (e < n) × ((reading_by w low e).at < n) × ArePastBy w low n ((reading_by w low e).until + 1) es to

-- the reading from `begin` has begun before n, after those
pub record HasBegunBy (w : Windows) (low : Line) (n begin : ℕ) : Type 0 where
  pub past : List ℕ
  pub from : ℕ
  pub over : ArePastBy w low n 0 past from
  pub first : IsFirstFall low from begin
  pub before : begin < n

-- ---- the places

-- the reading that runs before n
abbrev pub runs_in : ReceiverState → ℕ → Option ℕ
runs_in Rest begin = None
runs_in _ begin = Some begin

-- no reading runs
pub record AtRestBy (w : Windows) (low : Line) (n begin fall : ℕ) (bits : List Bool) : Type 0 where
  pub past : List ℕ
  pub from : ℕ
  pub over : ArePastBy w low n 0 past from
  pub by : from ≤ n
  pub quiet : (u : ℕ) → from ≤ u → u < n → is_fall low u ≡ false
  pub no_begin : begin ≡ 0
  pub no_fall : fall ≡ 0
  pub no_bits : bits ≡ []

-- in the start bit, before its rise
pub record AtStartLowBy (w : Windows) (low : Line) (n begin fall : ℕ) (bits : List Bool) : Type 0 where
  pub begun : HasBegunBy w low n begin
  pub no_fall : fall ≡ 0
  pub no_bits : bits ≡ []
  pub quiet : (u : ℕ) → begin < u → u < n → is_rise low u ≡ false
  pub early : n ≤ begin + (w.start_low.most + 1)
  pub still : was_low low n ≡ true

-- and after it
pub record AtStartHighBy (w : Windows) (low : Line) (n begin fall : ℕ) (bits : List Bool) : Type 0 where
  pub begun : HasBegunBy w low n begin
  pub no_fall : fall ≡ 0
  pub no_bits : bits ≡ []
  pub rise : ℕ
  pub found : next_rise low begin w.start_low.most ≡ Some rise
  pub late : begin + w.start_low.least ≤ rise
  pub near : rise ≤ begin + w.start_low.most
  pub after : rise < n
  pub quiet : (u : ℕ) → rise < u → u < n → is_fall low u ≡ false
  pub early : n ≤ begin + (w.start_total.most + 1)

-- in the slot that falls at `fall`, with these bits before it
pub record AtSlotBy (w : Windows) (low : Line) (n begin fall : ℕ) (before : List Bool) : Type 0 where
  pub begun : HasBegunBy w low n begin
  pub xs : List Slot
  pub left : ℕ
  pub reached : Reached w low begin (suc left) xs before fall
  pub room : length before + left ≡ 159
  pub count : length xs ≡ length before
  pub quiet : (u : ℕ) → fall < u → u < n → is_fall low u ≡ false
  pub after : fall < n

-- before its sample
pub record AtUnsampledBy (w : Windows) (low : Line) (n begin fall : ℕ) (bits : List Bool) : Type 0 where
  pub slot : AtSlotBy w low n begin fall bits
  pub early : n ≤ fall + sample_at

-- and after it
pub record AtSampledBy (w : Windows) (low : Line) (n begin fall : ℕ) (bits : List Bool) : Type 0 where
  pub before : List Bool
  pub slot : AtSlotBy w low n begin fall before
  pub reported : bits ≡ before ++ not (low (fall + sample_at)) ∷ []
  pub plain : last_ending before ≡ None
  pub past : fall + sample_at < n
  pub early : n ≤ fall + (w.bit_total.most + 1)

unfoldable pub StandsInBy : Windows → Line → ℕ → ReceiverState → ℕ → ℕ → List Bool → Type 0
StandsInBy w low n Rest begin fall bits = AtRestBy w low n begin fall bits
StandsInBy w low n StartLow begin fall bits = AtStartLowBy w low n begin fall bits
StandsInBy w low n StartHigh begin fall bits = AtStartHighBy w low n begin fall bits
StandsInBy w low n Unsampled begin fall bits = AtUnsampledBy w low n begin fall bits
StandsInBy w low n Sampled begin fall bits = AtSampledBy w low n begin fall bits

-- what is known before n of the reading from `begin`: its bits, whether it has all its blocks, and whether it is over
pub record KnowsBy (w : Windows) (low : Line) (n begin : ℕ) (bits : List Bool) (whole over : Bool) : Type 0 where
  pub bits_are : known_bits (known_at n (reading_by w low begin)) ≡ bits
  pub whole_is : is_whole (known_at n (reading_by w low begin)).ended ≡ whole
  pub over_is : nat_lt (reading_by w low begin).at n ≡ over

-- and after an ending that n reports
abbrev pub KnowsEndBy : Windows → Line → ℕ → ℕ → List Bool → Told → Type 0
KnowsEndBy w low n begin bits Nothing = Unit {0}
KnowsEndBy w low n begin bits (Bit slot value) = Unit {0}
KnowsEndBy w low n begin bits (Last value ending) = KnowsBy w low (n + 1) begin (bits ++ value ∷ []) true true × (length bits % 10 ≡ 9)
KnowsEndBy w low n begin bits (Ended ending) = KnowsBy w low (n + 1) begin bits false true

-- with microsecond n it stands so, and that microsecond told what the reading told
pub record StepsBy (w : Windows) (low : Line) (n : ℕ) (place : ReceiverState) (begin : ℕ) (bits : List Bool) (o : Heard) : Type 0 where
  pub stands : StandsInBy w low (n + 1) o.state.place o.state.begin o.state.fall o.state.bits
  pub reported : o.reported ≡ reported_since w low n (runs_in place begin)
  pub ends : KnowsEndBy w low n begin bits o.reported

-- ---- the same by the standard's windows

abbrev pub ArePast : Line → ℕ → ℕ → List ℕ → ℕ → Type 0
ArePast = ArePastBy standard

abbrev pub HasBegun : Line → ℕ → ℕ → Type 0
HasBegun = HasBegunBy standard

abbrev pub AtRest : Line → ℕ → ℕ → ℕ → List Bool → Type 0
AtRest = AtRestBy standard

unfoldable pub StandsIn : Line → ℕ → ReceiverState → ℕ → ℕ → List Bool → Type 0
unfolding StandsInBy read_slots
StandsIn low n place begin fall bits = StandsInBy standard low n place begin fall bits

abbrev pub Knows : Line → ℕ → ℕ → List Bool → Bool → Bool → Type 0
Knows = KnowsBy standard

abbrev pub KnowsEnd : Line → ℕ → ℕ → List Bool → Told → Type 0
KnowsEnd = KnowsEndBy standard

abbrev pub Steps : Line → ℕ → ReceiverState → ℕ → List Bool → Heard → Type 0
Steps = StepsBy standard

-- One who hears a line stands where its readings are.
abbrev pub ListenersStand : Type 0
ListenersStand = (low : ℕ → Bool) (n : ℕ) → StandsIn low n (hears low n).place (hears low n).begin (hears low n).fall (hears low n).bits

-- Each microsecond leads from a place to the next, and tells what the reading tells.
abbrev pub ListenersStep : Type 0
ListenersStep =
    (low : ℕ → Bool) (n : ℕ) (place : ReceiverState) (begin fall : ℕ) (bits : List Bool) → StandsIn low n place begin fall bits
    → Steps low n place begin bits (hear_in n (was_low low n) (low n) (record { place = place; begin = begin; fall = fall; bits = bits }))

-- The place says which reading runs.
abbrev pub PlacesShowReadings : Type 0
PlacesShowReadings =
    (low : ℕ → Bool) (t : ℕ) (place : ReceiverState) (begin fall : ℕ) (bits : List Bool) → StandsIn low (t + 1) place begin fall bits
    → running_of low t ≡ runs_in place begin

-- Of a reading that runs its bits so far are known, and that it is not over.
abbrev pub PlacesKnowBits : Type 0
PlacesKnowBits =
    (low : ℕ → Bool) (n : ℕ) (place : ReceiverState) (begin fall : ℕ) (bits : List Bool) (b : ℕ) → StandsIn low n place begin fall bits
    → runs_in place begin ≡ Some b → Knows low n begin bits false false
