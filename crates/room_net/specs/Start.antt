-- When a device starts to send (CEC 9.1, signal free time).
use Rattle.std.specs.Prelude.{◌≡◌, ℕ, ◌+◌, ◌-◌, ◌%◌, ◌==◌, ◌≤◌, ◌<◌, Bool, true, false, min, max, if◌then◌else◌, List, [], ◌∷◌, Option, Some, None, IsSomeAnd, MatchOption}
use Rattle.line_wave.specs.declared.Stretch.{Stretch}
use Rattle.device_core.specs.State.{State}
use Rattle.device_core.specs.Place.{ready_of, is_allocating, is_on_wire}
use Rattle.line_frames.specs.FreeTime.{free_time_of}

-- Where the line is high since `rest`, a device may start at t: it is on the wire, what it has to send is
-- ready, the line has been high for its signal free time, and a poll by which it looks for an address starts
-- where the remainder by 16 is the device's number (own). It counts from the rest and not from the close: what is ready at the
-- close is ready less than the shortest free time after the rest, so no start depends on which of the two is taken.
pub record MayStart (rest : ℕ) (d : State) (t : ℕ) : Type 0 where
  pub plugged : is_on_wire d ≡ true
  pub ready : IsSomeAnd (ready_of d) (λ ready. ready ≤ t)
  pub free : rest + free_time_of d.class ≤ t
  pub aligned : is_allocating d ≡ true → t % 16 ≡ d.number

-- It starts as soon as it may.
pub record IsStart (rest : ℕ) (d : State) (t : ℕ) : Type 0 where
  pub may : MayStart rest d t
  pub least : (u : ℕ) → MayStart rest d u → t ≤ u

-- the first instant from t on whose remainder by 16 is this number
abbrev pub next_turn : ℕ → ℕ → ℕ
next_turn number t = t + (number + 16 - t % 16) % 16

abbrev pub start_from : ℕ → State → ℕ → ℕ
start_from rest d ready =
    if is_allocating d then next_turn d.number (max ready (rest + free_time_of d.class)) else max ready (rest + free_time_of d.class)

abbrev pub start_by : ℕ → State → Bool → Option ℕ → Option ℕ
start_by rest d true (Some ready) = Some (start_from rest d ready)
start_by rest d true None = None
start_by rest d false ready = None

-- the instant at which a device starts; one off the wire, or with no frame to send, does not
abbrev pub start_of : ℕ → State → Option ℕ
start_of rest d = start_by rest d (is_on_wire d) (ready_of d)

abbrev pub sooner : Option ℕ → Option ℕ → Option ℕ
sooner None u = u
sooner (Some t) None = Some t
sooner (Some t) (Some u) = Some (min t u)

-- the least start instant
abbrev pub least_start : ℕ → List State → Option ℕ
least_start rest [] = None
least_start rest (d ∷ devices) = sooner (start_of rest d) (least_start rest devices)

abbrev pub is_at : ℕ → Option ℕ → Bool
is_at begin None = false
is_at begin (Some t) = t == begin

-- a device contends in the round that begins at its start instant
abbrev pub contends : ℕ → ℕ → State → Bool
contends rest begin d = is_at begin (start_of rest d)

-- the onset of the next pulse
abbrev pub first_onset : List Stretch → Option ℕ
first_onset [] = None
first_onset (p ∷ pulses) = Some p.from

-- So each device starts as soon as it may, and one without a start instant never may.
abbrev pub StartIsLeast : Type 0
StartIsLeast = (rest : ℕ) (d : State) → d.number < 16 → MatchOption (start_of rest d) ((t : ℕ) → MayStart rest d t → ⊥) (λ t. IsStart rest d t)
