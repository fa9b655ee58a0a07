-- Quotients of thousandths in decimals, as many as are significant (own).
use Rattle.std.specs.Prelude.{ℕ, ◌*◌, ◌/◌, ◌==◌, Bool, nat_le, if◌then◌else◌, List, ◌++◌, codes}
use Rattle.meaning_words.specs.Notes.{digit, thousandths}
use Rattle.meaning_words.specs.Rates.{nearest}

-- to the nearest, it has three digits of a unit that so often goes into a thousandth
abbrev pub has_three : ℕ → ℕ → ℕ → Bool
has_three unit number by = nat_le 100 (nearest (unit * number) by)

-- The unit that a quotient is told in: a thousandth where it has three digits in tenths of it, else a tenth, a hundredth or a thousandth of
-- it, so that two digits are told, as far as it has two.
abbrev pub figure_unit : ℕ → ℕ → ℕ
figure_unit number by = if has_three 10 number by then 1 else if has_three 100 number by then 10 else if has_three 1000 number by then 100 else 1000

-- two digits after the decimal point and zeros
abbrev pub two_digits : List ℕ → ℕ → List ℕ
two_digits zeros n = zeros ++ (digit (n / 10) ++ digit n)

-- so many of a unit
abbrev pub unit_text : ℕ → ℕ → List ℕ
unit_text unit n =
    if unit == 1 then thousandths n
    else if unit == 10 then two_digits (codes "0.00") n
    else if unit == 100 then two_digits (codes "0.000") n
    else two_digits (codes "0.0000") n

unfoldable pub figure : ℕ → ℕ → List ℕ
figure number by = if number == 0 then codes "0" else unit_text (figure_unit number by) (nearest (figure_unit number by * number) by)

-- a least luminance
abbrev pub down_to : ℕ → ℕ → List ℕ
down_to number by = codes ", down to " ++ (figure number by ++ codes " cd/m2")
