-- Events that were lost (v4l-utils, `--store-pin`): the next event's code has 65,536 added.
use Rattle.std.specs.Prelude.{ℕ, ◌+◌, ◌++◌, ◌&&◌, Bool, false, nat_le, if◌then◌else◌, List, [], ◌∷◌, drop, Option, Some, None}
use Rattle.text_core.specs.Lines.{is_skipped}
use Rattle.text_core.specs.Number.{number_of}
use Rattle.capture_core.specs.Seconds.{dot_in}

abbrev pub is_lost_code : Option ℕ → Bool
is_lost_code None = false
is_lost_code (Some code) = nat_le 65536 code && nat_le code 65541

-- the code stands eleven bytes after the dot
abbrev pub is_lost : List ℕ → Bool
is_lost line = if is_skipped line then false else is_lost_code (number_of (drop 11 (drop (dot_in line) line)))

-- the numbers of such lines
abbrev pub lost_in : ℕ → List (List ℕ) → List ℕ
lost_in number [] = []
lost_in number (line ∷ lines) = (if is_lost line then number ∷ [] else []) ++ lost_in (number + 1) lines
