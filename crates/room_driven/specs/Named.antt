-- The same dump with two wires of text more, which name what one sees (own): what is read in each round, and which bit of it is on
-- the line.
use Rattle.std.specs.Prelude.{◌≡◌, ℕ, ◌+◌, ◌-◌, max, List, ◌∷◌, ◌++◌, [], length}
use Rattle.std.specs.List.{flat_map}
use Rattle.line_wave.specs.declared.Stretch.{Stretch}
use Rattle.line_rounds.specs.declared.Outcome.{Outcome}
use Rattle.capture_wires.specs.Wires.{closing, closing_with, opening, variables, wires_text}
use Rattle.room_drives.specs.Drives.{drives_of}
use Rattle.room_named.specs.Names.{named_opening, named_round, named_values}
use Rattle.room_net.specs.Step.{seats_of}
use Rattle.capture_vcd.specs.Text.{last}
use Rattle.room_run.specs.declared.run.Totals.{Totals}
use Rattle.room_run.specs.declared.run.Turn.TheVariants.{Stop}
use Rattle.room_run.specs.Run.{Config, turn_at}
use Rattle.room_run.specs.Happening.{Happening, OfEvent, OfRound, Goes}
use Rattle.room_driven.specs.Driven.{names_of, IsDriven}
use Rattle.room_driven.specs.declared.wires.Wires.{Wires}
use Rattle.room_driven.specs.declared.wires.Wires.TheVariants.{Plain, Named}

-- ---- by which wires there are

abbrev pub opening_of : Wires → List ℕ
opening_of Plain = opening
opening_of Named = named_opening

abbrev pub closing_of : Wires → ℕ → List ℕ
closing_of Plain count = closing count
closing_of Named count = closing_with named_values count

abbrev pub head_of : Wires → List (List ℕ) → List ℕ
head_of wires names = opening_of wires ++ (variables 1 names ++ closing_of wires (length names))

-- a round with these drives
abbrev pub round_of : Wires → List (List Stretch) → ℕ → Outcome → List ℕ
round_of Plain drives begin o = wires_text (o.wave ∷ drives) begin (o.rest + 1 - begin)
round_of Named drives begin o = named_round o.wave drives o.reading begin o.rest

-- of an event nothing, of a round its drives
abbrev pub wires_of_turn : Wires → Happening → List ℕ
wires_of_turn wires (OfEvent at e before) = []
wires_of_turn wires (OfRound begin before o) = round_of wires (drives_of (seats_of before begin) begin before.pulses o) begin o

-- ---- the whole run

-- the head, what was said of each turn up to where the run stops, and the end, which is not before the last close
pub record IsNamed (end : ℕ) (c : Config) (text : List ℕ) (totals : Totals) : Type 0 where
  pub happened : List Happening
  pub at_end : Config
  pub goes : Goes end c happened at_end
  pub stops : turn_at end at_end ≡ Stop
  pub whole : text ≡ head_of Named (names_of c.net.devices) ++ (flat_map (wires_of_turn Named) happened ++ last (max end at_end.net.close))
  pub counts : totals ≡ at_end.totals

abbrev pub IsDump : Wires → ℕ → Config → List ℕ → Totals → Type 0
IsDump Plain = IsDriven
IsDump Named = IsNamed
