-- What is odd about an EDID without an HDMI block, and about the text of one (own).
use Rattle.std.specs.Prelude.{ℕ, ◌+◌, ◌-◌, ◌==◌, Bool, ◌&&◌, not, nat_lt, if◌then◌else◌, List, [], ◌∷◌, length, slice_index, Option, Some, None}
use Rattle.edid_cta.specs.declared.raw.Ext.{Ext}
use Rattle.rules_contents.specs.Extensions.{overruns}

-- each line of a text ends with a line feed, the last one too
abbrev pub lacks_line_feed : List ℕ → Bool
lacks_line_feed text = nat_lt 0 (length text) && not (slice_index text (length text - 1) == 10)

-- the first of some extensions, numbered from a number on, that overruns
abbrev pub overrun_from : ℕ → List Ext → Option ℕ
overrun_from number [] = None
overrun_from number (x ∷ xs) = if overruns x then Some number else overrun_from (number + 1) xs
