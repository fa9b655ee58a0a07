-- The decimals of microseconds are read as they were.
use Rattle.std.proofs.Common.{◌≡◌, ℕ, ◌+◌, ◌*◌, ◌/◌, ◌%◌, ◌<◌, true, Some, refl, ap, arith}
use Rattle.std.specs.List.{list_all}
use Rattle.std.specs.Char.{is_ascii_digit}
use Rattle.std.proofs.lemmas.Bool.Decides.{nat_tests}
use Rattle.capture_core.specs.Seconds.{decimals_of, nine, nine_digits}

digit_ok : (d : ℕ) → d < 10 → is_ascii_digit (48 + d) ≡ true
digit_ok d h = grind (arith, nat_tests)

nine_ok : (n : ℕ) → n < 1000000 → nine (nine_digits n) ≡ n * 1000
nine_ok n h = omega arith

all_ok : (n : ℕ) → list_all is_ascii_digit (nine_digits n) ≡ true
all_ok n =
    rw (
      digit_ok (n / 100000 % 10) (omega arith),
      digit_ok (n / 10000 % 10) (omega arith),
      digit_ok (n / 1000 % 10) (omega arith),
      digit_ok (n / 100 % 10) (omega arith),
      digit_ok (n / 10 % 10) (omega arith),
      digit_ok (n % 10) (omega arith),
    ) refl

pub decimals_again : (n : ℕ) → n < 1000000 → decimals_of (nine_digits n) ≡ Some (n * 1000)
decimals_again n h = rw (all_ok n) (ap Some (nine_ok n h))
