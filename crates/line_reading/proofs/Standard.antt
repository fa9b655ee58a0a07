-- The windows that there are.
use Rattle.std.proofs.Common.{ℕ, ◌≤◌, arith}
use Rattle.line_reading.specs.Windows.{AreWindows, standard, wider}

pub standard_are : AreWindows standard
standard_are = record { low = omega arith; total = omega arith; bit = omega arith; risen = omega arith; sampled = omega arith; brief = omega arith; longer = omega arith }

pub wider_are : (margin : ℕ) → margin ≤ 300 → AreWindows (wider margin)
wider_are margin h = record { low = omega arith; total = omega arith; bit = omega arith; risen = omega arith; sampled = omega arith; brief = omega arith; longer = omega arith }
