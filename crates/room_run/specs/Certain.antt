-- What is certain of a run before its script is known to the end (this profile's own).
use Rattle.std.specs.Prelude.{◌≡◌, ℕ, zero, suc, ◌≤◌, ◌<◌, false, List, [], ◌++◌, All}
use Rattle.line_wave.specs.declared.Stretch.{Stretch}
use Rattle.line_wave.specs.Line.{Line as WaveLine, IsWave, line_of, was_low}
use Rattle.line_reading.specs.Reading.{known_at, reading_of}
use Rattle.line_rounds.specs.declared.Seat.{Seat}
use Rattle.line_rounds.specs.declared.Outcome.{Outcome}
use Rattle.line_rounds.specs.Round.{IsRound, close_in, pulse_pulls}
use Rattle.edid_tree.specs.Node.{Node}
use Rattle.room_net.specs.State.{NetState, first_net}
use Rattle.room_net.specs.Framed.{AreFramed}
use Rattle.room_net.specs.Step.{IsNextRound}
use Rattle.room_script.specs.Script.{AreFramedEvents}
use Rattle.room_script.specs.declared.script.TimedEvent.{TimedEvent}
use Rattle.room_run.specs.declared.run.Reporting.{Reporting}
use Rattle.room_run.specs.declared.run.Totals.{Totals}
use Rattle.room_run.specs.declared.run.Turn.{Turn}
use Rattle.room_run.specs.declared.run.Turn.TheVariants.{Stop, Apply, Round}
use Rattle.room_run.specs.Run.{Config, first_time, start, start_reported, turn_at, turn_of, IsTurn, IsRunText, Leads}

-- ---- what may still come

-- a network that knows of more pulses, after those that it knows already
abbrev pub with_pulses : List Stretch → NetState → NetState
with_pulses later s = record s { pulses = s.pulses ++ later }

-- a place in a run that knows of more events and pulses
abbrev pub with_more : List TimedEvent → List Stretch → Config → Config
with_more events later c = record c { net = with_pulses later c.net; events = c.events ++ events }

-- nothing that comes is for an instant before this one: no event, no pulse, and not the end
pub record ComesFrom (until : ℕ) (events : List TimedEvent) (later : List Stretch) (end : ℕ) : Type 0 where
  pub scheduled : All (λ e. until ≤ e.at) events
  pub begun : All (λ p. until ≤ p.from) later
  pub over : until ≤ end

-- ---- certain turns

-- A turn is over before an instant: an event that is applied before it (which the turn itself says), or a round that has
-- closed before it. At the close itself a pulse would still belong to the round.
abbrev pub IsOverBy : ℕ → Turn → Config → Type 0
IsOverBy until Stop after = ⊥
IsOverBy until (Apply at) after = Unit {0}
IsOverBy until (Round begin) after = after.net.close < until

-- so many turns one after another, of each of which something holds, and their texts one after another
abbrev pub LeadsIf : (Turn → Config → Type 0) → Reporting → ℕ → ℕ → Config → List ℕ → Config → Type 0
LeadsIf Holds reporting until zero c text d = (text ≡ []) × (d ≡ c)
LeadsIf Holds reporting until (suc turns) c text d =
    (mid : Config) × (reported : List ℕ) × (rest : List ℕ) × IsTurn reporting until c reported mid × Holds (turn_at until c) mid
    × LeadsIf Holds reporting until turns mid rest d × (text ≡ reported ++ rest)

-- each of them over before this instant
abbrev pub LeadsBy : Reporting → ℕ → ℕ → Config → List ℕ → Config → Type 0
LeadsBy reporting until = LeadsIf (IsOverBy until) reporting until

-- ---- all that is certain

-- What comes next is not over before an instant: nothing comes before it, or a round that closes then or later.
abbrev pub IsHeldBy : ℕ → NetState → Turn → Type 0
IsHeldBy until net Stop = Unit {0}
IsHeldBy until net (Apply at) = ⊥
IsHeldBy until net (Round begin) = (outcome : Outcome) × (after : NetState) × IsWave outcome.wave × IsNextRound net begin outcome after × (until ≤ after.close)

abbrev pub IsHeld : ℕ → Config → Type 0
IsHeld until c = IsHeldBy until c.net (turn_at until c)

-- all turns from one place on that are over before an instant, and what they report
pub record AllBefore (reporting : Reporting) (until : ℕ) (c : Config) (text : List ℕ) (d : Config) : Type 0 where
  pub turns : ℕ
  pub leads : LeadsBy reporting until turns c text d
  pub held : IsHeld until d

-- no turn of which something holds comes after a place
abbrev pub NoTurn : (Turn → Config → Type 0) → Reporting → ℕ → Config → Type 0
NoTurn Holds reporting until c = (line : List ℕ) (d : Config) → IsTurn reporting until c line d → Holds (turn_at until c) d → ⊥

abbrev pub NoneAfterHeld : Type 0
NoneAfterHeld = (reporting : Reporting) (until : ℕ) (c : Config) → IsHeld until c → NoTurn (IsOverBy until) reporting until c

-- ---- the laws

-- a pulse that begins once a round is over, and its line high, pulls nothing in it
abbrev pub LatePulsesDoNotPull : Type 0
LatePulsesDoNotPull = (begin : ℕ) (low : WaveLine) (rest until t : ℕ) (p : Stretch) → ((u : ℕ) → rest ≤ u → low u ≡ false) → rest < until
    → (reading_of low begin).until < until → until ≤ p.from → pulse_pulls begin (known_at t (reading_of low begin)).ended (was_low low t) t p ≡ false

-- so the round is the same with it,
abbrev pub RoundsStay : Type 0
RoundsStay = (seats : List Seat) (begin until : ℕ) (pulses later : List Stretch) (o : Outcome) → ((u : ℕ) → o.rest ≤ u → line_of o.wave u ≡ false)
    → close_in o < until → All (λ p. until ≤ p.from) later → IsRound seats begin pulses o → IsRound seats begin (pulses ++ later) o

-- and so is the turn that it is
abbrev pub RoundTurnsStay : Type 0
RoundTurnsStay = (until end b : ℕ) (s : NetState) (xs events : List TimedEvent) (later : List Stretch) → turn_of until s (first_time xs) ≡ Round b → ComesFrom until events later end
    → turn_of end (with_pulses later s) (first_time (xs ++ events)) ≡ Round b

-- The turns that are over before an instant are turns of each run that may still come of what is known, whatever comes for
-- that instant or later: they report the same, and lead to the same place.
abbrev pub TurnsAreCertain : Type 0
TurnsAreCertain = (reporting : Reporting) (until end turns : ℕ) (c d : Config) (text : List ℕ) (events : List TimedEvent) (later : List Stretch)
    → IsWave c.net.pulses → AreFramed c.net → AreFramedEvents c.events → ComesFrom until events later end
    → LeadsBy reporting until turns c text d → Leads reporting end turns (with_more events later c) text (with_more events later d)

-- So they are over before each later instant too, with whatever has come by then.
abbrev pub TurnsStayCertain : Type 0
TurnsStayCertain = (reporting : Reporting) (until on turns : ℕ) (c d : Config) (text : List ℕ) (events : List TimedEvent) (later : List Stretch)
    → IsWave c.net.pulses → AreFramed c.net → AreFramedEvents c.events → ComesFrom until events later on
    → LeadsBy reporting until turns c text d → LeadsBy reporting on turns (with_more events later c) text (with_more events later d)

-- What is reported of a run by them is the front of what every such run reports in the end.
abbrev pub ReportedIsFront : Type 0
ReportedIsFront = (reporting : Reporting) (tree : List Node) (pulses later : List Stretch) (known events : List TimedEvent) (until end turns : ℕ) (d : Config)
    (body whole : List ℕ) (totals : Totals) → IsWave pulses → AreFramedEvents known → ComesFrom until events later end
    → LeadsBy reporting until turns (start (first_net tree pulses) known) body d
    → IsRunText reporting end (start (first_net tree (pulses ++ later)) (known ++ events)) whole totals
    → (more : List ℕ) × (whole ≡ (start_reported reporting (first_net tree pulses) ++ body) ++ more)

-- All turns that are over before an instant tell one text, and lead to one place.
abbrev pub AllBeforeIsOne : Type 0
AllBeforeIsOne = (reporting : Reporting) (until : ℕ) (c d e : Config) (text other : List ℕ) → AllBefore reporting until c text d → AllBefore reporting until c other e → (text ≡ other) × (d ≡ e)
