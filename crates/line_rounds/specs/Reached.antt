-- How far a reading has come: the slots so far, and the one that falls next. (own)
use Rattle.std.specs.Prelude.{◌≡◌, ℕ, ◌+◌, ◌<◌, ◌≤◌, Bool, false, nat_lt, List, [], ◌∷◌, ◌++◌, length, Option, None, Ok, suc}
use Rattle.std.specs.List.{filter_map}
use Rattle.std.specs.Option.{option_to_list}
use Rattle.line_wave.specs.Line.{Line, is_fall}
use Rattle.line_reading.specs.Windows.{sample_at, standard}
use Rattle.line_reading.specs.Reading.After.{Next}
use Rattle.line_reading.specs.Reading.{After, End, Slot, after_slot, bit_sampled_at, known_at, known_slot, last_ending, read_on, read_slots, reading_of, start_of}
use Rattle.line_rounds.specs.declared.Seat.{Seat}
use Rattle.line_rounds.specs.Round.{is_acknowledged}
use Rattle.line_rounds.specs.Machine.{acks_until}
use Rattle.line_rounds.specs.Follow.{AreDone}
use Rattle.line_rounds.specs.Begins.{Reports}

-- these slots fell one after another before e
abbrev pub AreOver : ℕ → List Slot → Type 0
AreOver e [] = Unit {0}
AreOver e (s ∷ ss) = (s.fall + standard.bit_total.least ≤ e) × AreOver e ss

-- the reading from `begin` has these slots, with these bits, and goes on with the slot that falls at e
pub record Reached (low : Line) (begin left : ℕ) (xs : List Slot) (bits : List Bool) (e : ℕ) : Type 0 where
  pub goes : record {
    slots = xs ++ (read_slots low left bits e).slots;
    ending = (read_slots low left bits e).ending;
    at = (read_slots low left bits e).at;
    until = (read_slots low left bits e).until;
  } ≡ reading_of low begin
  pub reported : filter_map (λ s. s.bit) xs ≡ bits
  pub over : AreOver e xs

-- it has come to the first slot, where the start bit ends in time
abbrev pub ReachedStart : Type 0
ReachedStart = (low : Line) (begin f : ℕ) → start_of low begin ≡ Ok f → Reached low begin 160 [] [] f

-- from a slot it comes to the next
abbrev pub ReachNext : Type 0
ReachNext = (low : Line) (begin left : ℕ) (xs : List Slot) (bits : List Bool) (e f : ℕ) → Reached low begin (suc left) xs bits e
    → after_slot low e (last_ending bits) ≡ Next f → e + standard.bit_total.least ≤ f
    → Reached low begin left (xs ++ record { fall = e; bit = bit_sampled_at low e } ∷ []) (bits ++ option_to_list (bit_sampled_at low e)) f

-- until a slot's sample its bit is not known
abbrev pub KnownUnsampled : Type 0
KnownUnsampled = (low : Line) (begin left : ℕ) (xs : List Slot) (bits : List Bool) (e t : ℕ) → Reached low begin (suc left) xs bits e
    → ((u : ℕ) → e < u → u < t → is_fall low u ≡ false) → e < t → t ≤ e + sample_at → Reports low begin t (xs ++ record { fall = e; bit = None } ∷ [])

-- what is known in a slot and after it
abbrev pub KnownHere : Type 0
KnownHere = (low : Line) (begin left : ℕ) (xs : List Slot) (bits : List Bool) (e t : ℕ) → Reached low begin (suc left) xs bits e → e < t
    → (a : After) → after_slot low e (last_ending bits) ≡ a
    → known_at t (reading_of low begin) ≡ record {
      slots = xs ++ known_slot t (record { fall = e; bit = bit_sampled_at low e }) ∷ (known_at t (read_on (read_slots low left (bits ++ option_to_list (bit_sampled_at low e))) a)).slots;
      ended = (known_at t (read_on (read_slots low left (bits ++ option_to_list (bit_sampled_at low e))) a)).ended;
    }

-- nobody acknowledges in the slots so far any more
abbrev pub DoneBy : Type 0
DoneBy = (e u : ℕ) (xs : List Slot) → e ≤ u → AreOver e xs → AreDone u xs

-- who acknowledges in this slot pulls from its fall for the acknowledge bit
abbrev pub AcksNow : Type 0
AcksNow = (seats : List Seat) (low : Line) (begin left : ℕ) (xs : List Slot) (before : List Bool) (e u : ℕ) → Reached low begin (suc left) xs before e → length xs ≡ length before → e < u
    → (s : Slot) (ended : Option End) → known_at u (reading_of low begin) ≡ record { slots = xs ++ s ∷ []; ended = ended } → s.fall ≡ e
    → is_acknowledged seats (known_at u (reading_of low begin)) u ≡ nat_lt u (acks_until seats before e)
