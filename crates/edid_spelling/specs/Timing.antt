-- A detailed timing by its video code (CTA-861-G), its monitor timing's identifier (VESA DMT 1.13), or a formula of VESA.
use Rattle.std.specs.Prelude.{ℕ, ◌+◌, nat_le, if◌then◌else◌, List, [], ◌∷◌, Option, Some, None, Result, Ok, Err, codes, unwrap_or, option_and_then}
use Rattle.std.specs.Str.{bytes_eq}
use Rattle.text_core.specs.Hex.{hex_byte}
use Rattle.text_core.specs.Number.{number_of}
use Rattle.edid_spelling.specs.Rows.{first_of, others_of}
use Rattle.edid_modes.specs.Formulas.{timing_by as mode_timing}
use Rattle.edid_modes.specs.Tables.{code_timing, monitor_timing}
use Rattle.edid_modes.specs.declared.formula.Formula.{Formula}
use Rattle.edid_modes.specs.declared.formula.Formula.TheVariants.{Coordinated, Generalized, Reduced}
use Rattle.edid_modes.specs.declared.mode.Mode.{Mode}
use Rattle.edid_modes.specs.declared.mode.ModeFault.{ModeFault}
use Rattle.edid_modes.specs.declared.mode.ModeFault.TheVariants.{Height, Rate, Width}
use Rattle.edid_modes.specs.declared.timing.ModeTiming.{ModeTiming}
use Rattle.edid_spelling.specs.declared.timing.Sides.{Sides}

-- the format of a code in digits
abbrev pub format_named : List ℕ → Option ModeTiming
format_named word = option_and_then code_timing (number_of word)

-- the monitor timing of an identifier, two hex digits
abbrev pub monitor_named : List ℕ → Option ModeTiming
monitor_named word = option_and_then monitor_timing (hex_byte word)

-- ---- the image

-- a side in mm
abbrev pub side_in : Option ℕ → Option ℕ
side_in None = None
side_in (Some side) = if nat_le side 4095 then Some side else None

abbrev pub side_of : List ℕ → Option ℕ
side_of word = side_in (number_of word)

abbrev pub sides_by : ℕ → Option ℕ → Option ℕ → List (List ℕ) → Result Sides ℕ
sides_by first None down more = Err first
sides_by first (Some across) None more = Err (first + 1)
sides_by first (Some across) (Some down) [] = Ok (record { across = across; down = down })
sides_by first (Some across) (Some down) (word ∷ more) = Err (first + 2)

-- two sides, or none, which are 0; or the number of the word at fault, of which the first has a number
abbrev pub sizes_of : ℕ → List (List ℕ) → Result Sides ℕ
sizes_of first [] = Ok (record { across = 0; down = 0 })
sizes_of first (word ∷ words) = sides_by first (side_of word) (side_of (first_of words)) (others_of words)

-- ---- the timing

pub record Timed : Type 0 where
  pub numbers : List ℕ
  pub flags : ℕ

-- the numbers of the line, without borders
abbrev pub numbers_of : ModeTiming → Sides → List ℕ
numbers_of f s =
    f.clock ∷ f.width ∷ f.horizontal_blanking ∷ f.height ∷ f.vertical_blanking ∷ f.horizontal_offset ∷ f.horizontal_sync
    ∷ f.vertical_offset ∷ f.vertical_sync ∷ s.across ∷ s.down ∷ 0 ∷ 0 ∷ []

abbrev pub timed_by : ModeTiming → Result Sides ℕ → Result Timed ℕ
timed_by f (Err number) = Err number
timed_by f (Ok sides) = Ok (record { numbers = numbers_of f sides; flags = f.flags })

-- a number of a table, which has the number 2, and sides
abbrev pub numbered_by : Option ModeTiming → List (List ℕ) → Result Timed ℕ
numbered_by None words = Err 2
numbered_by (Some f) words = timed_by f (sizes_of 3 words)

abbrev pub vic_of : List (List ℕ) → Result Timed ℕ
vic_of words = numbered_by (format_named (first_of words)) (others_of words)

abbrev pub dmt_of : List (List ℕ) → Result Timed ℕ
dmt_of words = numbered_by (monitor_named (first_of words)) (others_of words)

-- ---- a formula, a mode of three words, and sides

abbrev pub formula_named : List ℕ → Option Formula
formula_named word =
    if bytes_eq word (codes "cvt") then Some Coordinated
    else if bytes_eq word (codes "cvt-rb") then Some Reduced
    else if bytes_eq word (codes "gtf") then Some Generalized
    else None

-- what is no number is 0, which no mode has
abbrev pub value_of : List ℕ → ℕ
value_of word = unwrap_or (number_of word) 0

abbrev pub mode_in : List (List ℕ) → Mode
mode_in words = record {
  width = value_of (first_of words);
  height = value_of (first_of (others_of words));
  rate = value_of (first_of (others_of (others_of words)));
}

-- the number of the word with a number of a mode
abbrev pub fault_place : ModeFault → ℕ
fault_place Width = 2
fault_place Height = 3
fault_place Rate = 4

abbrev pub mode_timed : Result ModeTiming ModeFault → List (List ℕ) → Result Timed ℕ
mode_timed (Err fault) words = Err (fault_place fault)
mode_timed (Ok f) words = timed_by f (sizes_of 5 words)

abbrev pub timing_by : Formula → List (List ℕ) → Result Timed ℕ
timing_by formula words = mode_timed (mode_timing formula (mode_in words)) (others_of (others_of (others_of words)))

abbrev pub by_formula : Option Formula → List (List ℕ) → Result Timed ℕ
by_formula None words = Err 0
by_formula (Some formula) words = timing_by formula words

-- the words of a line, of which the first has the number 1 and is `vic`, `dmt` or the name of a formula; without it the line stays as it is
abbrev pub timing_of : List (List ℕ) → Result Timed ℕ
timing_of words =
    if bytes_eq (first_of words) (codes "vic") then vic_of (others_of words)
    else if bytes_eq (first_of words) (codes "dmt") then dmt_of (others_of words)
    else by_formula (formula_named (first_of words)) (others_of words)
