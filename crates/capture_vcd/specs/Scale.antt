-- Units of time in a dump (IEEE 1364-2005, 18.2.1, $timescale): a tick is 1, 10 or 100 units.
use Rattle.std.specs.Prelude.{ℕ, ◌+◌, ◌-◌, ◌*◌, ◌/◌, ◌^◌, ◌==◌, nat_le, if◌then◌else◌, List, drop, slice_index, codes, Option, Some, None}
use Rattle.std.specs.Str.{bytes_eq}
use Rattle.line_wave.specs.Bounds.{latest_instant}
use Rattle.text_core.specs.Number.{number_of}
use Rattle.capture_vcd.specs.declared.scale.Unit.{Unit as UnitOf}
use Rattle.capture_vcd.specs.declared.scale.Unit.TheVariants.{Second, Millisecond, Microsecond, Nanosecond, Picosecond, Femtosecond}
use Rattle.capture_vcd.specs.declared.scale.Count.{Count}
use Rattle.capture_vcd.specs.declared.scale.Count.TheVariants.{One, Ten, Hundred}
use Rattle.capture_vcd.specs.declared.scale.Scale.{Scale}

abbrev pub unit_of : List ℕ → Option UnitOf
unit_of word =
    if bytes_eq word (codes "us") then Some Microsecond
    else if bytes_eq word (codes "ns") then Some Nanosecond
    else if bytes_eq word (codes "ps") then Some Picosecond
    else if bytes_eq word (codes "fs") then Some Femtosecond
    else if bytes_eq word (codes "ms") then Some Millisecond
    else if bytes_eq word (codes "s") then Some Second
    else None

-- 1, 10 or 100, and what stands after it
abbrev pub counted_word : List ℕ → Option (Count × List ℕ)
counted_word word =
    if slice_index word 0 == 49
    then (if slice_index word 1 == 48 then (if slice_index word 2 == 48 then Some (Hundred, drop 3 word) else Some (Ten, drop 2 word)) else Some (One, drop 1 word))
    else None

abbrev pub count_times : Count → ℕ → ℕ
count_times One n = n
count_times Ten n = n * 10
count_times Hundred n = n * 100

-- microseconds, rounded up: the line of the bus in a microsecond is that at its first instant (own)
abbrev pub of_unit : UnitOf → ℕ → ℕ
of_unit Second n = n * 1000000
of_unit Millisecond n = n * 1000
of_unit Microsecond n = n
of_unit Nanosecond n = (n + 999) / 1000
of_unit Picosecond n = (n + 999999) / 1000000
of_unit Femtosecond n = (n + 999999999) / 1000000000

abbrev pub micros : Scale → ℕ → ℕ
micros scale tick = of_unit scale.unit (count_times scale.count tick)

-- within the limit of a capture; a number that does not fit 64 bits is past it
abbrev pub within : Scale → Option ℕ → Option ℕ
within scale None = None
within scale (Some tick) =
    if tick == 2 ^ 64 - 1 then None
    else if nat_le (micros scale tick) latest_instant then Some (micros scale tick) else None

abbrev pub instant_of : Scale → List ℕ → Option ℕ
instant_of scale word = within scale (number_of word)
