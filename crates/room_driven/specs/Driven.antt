-- A run's line, and below it who drives it (own): the dump has a wire for the line, one for each device, and one for the pulses
-- (IEEE 1364-2005, 18).
use Rattle.std.specs.Prelude.{◌≡◌, ℕ, zero, suc, ◌+◌, ◌-◌, max, List, [], ◌∷◌, ◌++◌, map}
use Rattle.line_wave.specs.declared.Stretch.{Stretch}
use Rattle.line_wave.specs.Line.{IsWave}
use Rattle.line_rounds.specs.declared.Seat.{Seat}
use Rattle.line_rounds.specs.declared.Outcome.{Outcome}
use Rattle.capture_wires.specs.Wires.{head, wires_text}
use Rattle.room_drives.specs.Drives.{drives_of}
use Rattle.device_core.specs.State.{State}
use Rattle.edid_tree.specs.Node.{Node}
use Rattle.room_net.specs.State.{first_net}
use Rattle.room_net.specs.Step.{seats_of}
use Rattle.capture_vcd.specs.Text.{last}
use Rattle.capture_forms.specs.declared.form.CaptureForm.TheVariants.{Vcd}
use Rattle.room_run.specs.declared.run.Reporting.TheVariants.{Line}
use Rattle.room_run.specs.declared.run.Totals.{Totals}
use Rattle.room_run.specs.declared.run.Turn.{Turn}
use Rattle.room_run.specs.declared.run.Turn.TheVariants.{Stop, Apply, Round}
use Rattle.room_script.specs.declared.script.TimedEvent.{TimedEvent}
use Rattle.room_run.specs.Run.{Config, start, turn_at, IsEventTurn, IsRoundTurn}
use Rattle.room_run.specs.Happening.{Happening, OfEvent, OfRound}

-- the names of the devices' wires
abbrev pub names_of : List State → List (List ℕ)
names_of devices = map (λ d. d.name) devices

-- a round: its line and its drives, from its begin up to where the line is high for good
abbrev pub round_drives : List Seat → ℕ → List Stretch → Outcome → List ℕ
round_drives seats begin pulses o = wires_text (o.wave ∷ drives_of seats begin pulses o) begin (o.rest + 1 - begin)

-- ---- one turn of the run's line, and what is reported of its drives: of an event nothing, of a round its drives

abbrev pub IsDrivenBy : Turn → Config → List ℕ → List ℕ → Config → Type 0
IsDrivenBy Stop c line text d = ⊥
IsDrivenBy (Apply at) c line text d = IsEventTurn (Line Vcd) at c.events c line d × (text ≡ [])
IsDrivenBy (Round begin) c line text d =
    (turn : IsRoundTurn (Line Vcd) begin c.net c.totals line d.net d.totals) × (d.events ≡ c.events) × (text ≡ round_drives (seats_of c.net begin) begin c.net.pulses turn.outcome)

abbrev pub IsDrivenTurn : ℕ → Config → List ℕ → List ℕ → Config → Type 0
IsDrivenTurn end c line text d = IsDrivenBy (turn_at end c) c line text d

-- ---- the whole run

-- one turn after another, with the text of the line and the text of the drives
abbrev pub Drives : ℕ → ℕ → Config → List ℕ → List ℕ → Config → Type 0
Drives end zero c line text d = (line ≡ []) × (text ≡ []) × (d ≡ c)
Drives end (suc turns) c line text d =
    (mid : Config) × (reported : List ℕ) × (rest : List ℕ) × (driven : List ℕ) × (left : List ℕ)
    × IsDrivenTurn end c reported driven mid × Drives end turns mid rest left d × (line ≡ reported ++ rest) × (text ≡ driven ++ left)

-- after the head: the drives of the turns up to where the run stops, and the end, which is not before the last close
pub record IsDrivenFrom (end : ℕ) (c : Config) (text : List ℕ) (totals : Totals) : Type 0 where
  pub turns : ℕ
  pub at_end : Config
  pub line : List ℕ
  pub body : List ℕ
  pub drives : Drives end turns c line body at_end
  pub stops : turn_at end at_end ≡ Stop
  pub whole : text ≡ body ++ last (max end at_end.net.close)
  pub counts : totals ≡ at_end.totals

pub record IsDriven (end : ℕ) (c : Config) (text : List ℕ) (totals : Totals) : Type 0 where
  pub rest : List ℕ
  pub run : IsDrivenFrom end c rest totals
  pub whole : text ≡ head (names_of c.net.devices) ++ rest

-- each run has such a text
abbrev pub RunsHaveDrives : Type 0
RunsHaveDrives = (tree : List Node) (pulses : List Stretch) (events : List TimedEvent) (end : ℕ) → IsWave pulses
    → (text : List ℕ) × (totals : Totals) × IsDriven end (start (first_net tree pulses) events) text totals

-- ---- what hears of a run

-- of an event nothing, of a round its drives
abbrev pub drives_of_turn : Happening → List ℕ
drives_of_turn (OfEvent at e before) = []
drives_of_turn (OfRound begin before o) = round_drives (seats_of before begin) begin before.pulses o
