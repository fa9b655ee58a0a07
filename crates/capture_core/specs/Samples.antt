-- What is reported of a line, instant by instant (own).
use Rattle.std.specs.Prelude.{ℕ, ◌+◌, ◌*◌, ◌/◌, Bool, nat_le, if◌then◌else◌, List, [], ◌∷◌}

-- from an instant on the line has a level
pub record Sample : Type 0 where
  pub at : ℕ
  pub low : Bool

-- the level in microsecond u: that of the last sample at u or before it
abbrev pub level_in : Bool → List Sample → ℕ → Bool
level_in is_low [] u = is_low
level_in is_low (s ∷ ss) u = level_in (if nat_le s.at u then s.low else is_low) ss u

-- the same where times are nanoseconds from a start: from a time on the line is low or not
pub record Level : Type 0 where
  pub since : ℕ
  pub low : Bool

-- the last level that is not after the first instant of microsecond u counts
abbrev pub level_of : Bool → List Level → ℕ → Bool
level_of is_low [] u = is_low
level_of is_low (l ∷ ls) u = level_of (if nat_le l.since (u * 1000) then l.low else is_low) ls u

-- nanoseconds in microseconds, rounded up
abbrev pub rounded : ℕ → ℕ
rounded since = (since + 999) / 1000

-- levels in nanoseconds as samples in microseconds
abbrev pub samples_of : List Level → List Sample
samples_of [] = []
samples_of (l ∷ ls) = record { at = rounded l.since; low = l.low } ∷ samples_of ls
