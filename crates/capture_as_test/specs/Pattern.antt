-- The pattern that a frame meets (own).
use Rattle.std.specs.Prelude.{ℕ, ◌-◌, ◌==◌, nat_le, Bool, if◌then◌else◌, codes, length, filter, take, List, []}
use Rattle.std.specs.List.{position_or_len}
use Rattle.capture_as_test.specs.declared.pattern.Pattern.{Pattern}
use Rattle.capture_frames.specs.Frames.{FrameLine}

-- a pattern in its parts
pub record PatternText : Type 0 where
  pub text : List ℕ
  pub gap : List ℕ
  pub verdict : List ℕ

abbrev pub pattern_as : Pattern → PatternText
pattern_as p = record { text = p.text.now; gap = p.gap.now; verdict = p.verdict.now }

-- the `*` of a text
abbrev pub stars : List ℕ → ℕ
stars text = length (filter (λ b. b == 42) text)

-- what stands before the space and the quote with which a text in quotes begins
abbrev pub before_quote : List ℕ → List ℕ
before_quote text = take (position_or_len (λ b. b == 34) text - 1) text

-- a pattern has at most four `*`: a name with more is left out, and the verdict after it
abbrev pub pattern_of : FrameLine → PatternText
pattern_of f =
    if nat_le (stars f.text) 4
    then record { text = f.text; gap = codes " "; verdict = f.verdict }
    else record { text = before_quote f.text; gap = []; verdict = [] }
