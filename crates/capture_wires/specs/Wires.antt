-- A dump of several wires (IEEE 1364-2005, 18): the CEC line first, below it a wire for each device, and one for the pulses.
-- Which wires there are, their identifiers and their names are this program's own.
use Rattle.std.specs.Prelude.{ℕ, ◌+◌, ◌==◌, ◌||◌, Bool, if◌then◌else◌, List, [], ◌∷◌, ◌++◌, length, codes}
use Rattle.std.specs.Fmt.{decimal}
use Rattle.std.specs.List.{concat, flat_map, list_any, range_with_len}
use Rattle.line_wave.specs.declared.Stretch.{Stretch}
use Rattle.line_wave.specs.Line.{Line, line_of, is_fall, is_rise}

-- ---- the definitions (18.2.3)

-- wire 0 is the line, and has the identifier that it has in a dump of one wire; the others are a, b and so on
abbrev pub id_of : ℕ → ℕ
id_of number = if number == 0 then 33 else number + 96

-- a wire of one bit
abbrev pub variable : ℕ → List ℕ → List ℕ
variable number name = concat (codes "$var wire 1 " ∷ (id_of number ∷ []) ∷ codes " " ∷ name ∷ codes " $end\n" ∷ [])

abbrev pub variables : ℕ → List (List ℕ) → List ℕ
variables number [] = []
variables number (name ∷ names) = variable number name ++ variables (number + 1) names

-- the line, up to the devices, which stand in a scope of their own: a device may have any name
abbrev pub opening : List ℕ
opening = codes "$version hdminet $end\n$timescale 1 us $end\n$scope module hdmi $end\n$var wire 1 ! CEC $end\n$scope module devices $end\n"

-- each wire is high at first
abbrev pub high_at_first : ℕ → List ℕ
high_at_first number = 49 ∷ id_of number ∷ 10 ∷ []

-- after so many devices: the pulses, the first values of further wires, and the first level of each wire
abbrev pub closing_with : List ℕ → ℕ → List ℕ
closing_with values count =
    codes "$upscope $end\n"
    ++ (variable (count + 1) (codes "pulses")
    ++ (codes "$upscope $end\n$enddefinitions $end\n#0\n$dumpvars\n"
    ++ (values
    ++ (flat_map high_at_first (range_with_len 0 (count + 2))
    ++ codes "$end\n"))))

abbrev pub closing : ℕ → List ℕ
closing count = closing_with [] count

abbrev pub head : List (List ℕ) → List ℕ
head names = opening ++ (variables 1 names ++ closing (length names))

-- ---- the changes (18.2.1), in order of time

-- the wire falls or rises in microsecond t
abbrev pub turns : Line → ℕ → Bool
turns low t = is_fall low t || is_rise low t

-- 0 as the wire falls, 1 as it rises
abbrev pub change_text : ℕ → ℕ → List Stretch → List ℕ
change_text t number wire =
    if turns (line_of wire) t then (if line_of wire t then 48 else 49) ∷ id_of number ∷ 10 ∷ [] else []

-- of wires from this number on
abbrev pub changes_from : ℕ → ℕ → List (List Stretch) → List ℕ
changes_from t number [] = []
changes_from t number (wire ∷ wires) = change_text t number wire ++ changes_from t (number + 1) wires

-- an instant at which some wire changes: its time, and then each wire that does
abbrev pub instant_text : List (List Stretch) → ℕ → List ℕ
instant_text wires t =
    if list_any (λ wire. turns (line_of wire) t) wires then concat (codes "#" ∷ decimal t ∷ codes "\n" ∷ []) ++ changes_from t 0 wires else []

-- the wires in so many microseconds from `from` on
abbrev pub wires_text : List (List Stretch) → ℕ → ℕ → List ℕ
wires_text wires from count = flat_map (instant_text wires) (range_with_len from count)
