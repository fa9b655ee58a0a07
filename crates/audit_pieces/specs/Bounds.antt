-- The bounds of the wide reading, in microseconds. They are this profile's own, each in the middle of times of the standard, so that
-- what is nearly right is read, and its widths are judged by themselves.
use Rattle.std.specs.Prelude.{ℕ}

-- A stretch is long from the middle of the longest low of a bit, 1,700 (CEC 5.2.2), and the shortest one of a start bit, 3,500
-- (CEC 5.2.1). The low drive of CEC 7.4, 3,360 at least, is long too.
abbrev pub long_from : ℕ
long_from = 2600

-- Two stretches belong together where the second falls less than this after the first: the longest start bit lasts 4,700
-- (CEC 5.2.1), and the shortest signal free time is 7,200 (CEC 9.1).
abbrev pub apart_from : ℕ
apart_from = 6000

-- what a bit's and a start bit's whole may be shorter or longer by, and still be read
abbrev pub widest_margin : ℕ
widest_margin = 400

-- A bit lasts 2,050 at least (CEC 5.2.2). One that is shorter by the widest margin still lasts past the next one's sample.
abbrev pub shortest_bit : ℕ
shortest_bit = 1650

-- A start bit lasts 4,300 to 4,700 (CEC 5.2.1), and the widest margin less or more.
abbrev pub shortest_start : ℕ
shortest_start = 3900

abbrev pub longest_start : ℕ
longest_start = 5100

-- a bit lasts so long nominally (CEC 5.2.2)
abbrev pub bit_period : ℕ
bit_period = 2400
