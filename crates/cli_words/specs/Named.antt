-- Values that stand in no choice: the name of a wire, and an InfoFrame (own).
use Rattle.std.specs.Prelude.{ℕ, List, [], ◌∷◌, Bool, ◌||◌, Option, Some, None, if◌then◌else◌, codes, take, drop}
use Rattle.std.specs.Option.{option_or}
use Rattle.std.specs.Str.{bytes_eq}

-- such a value follows it
abbrev pub is_naming : List ℕ → Bool
is_naming word = bytes_eq word (codes "--signal") || bytes_eq word (codes "--infoframe")

-- such a value that stands in its flag's word, as `--signal=NAME`
abbrev pub joined_name : List ℕ → Option (List ℕ)
joined_name word =
    if bytes_eq (take 9 word) (codes "--signal=") then Some (drop 9 word)
    else if bytes_eq (take 12 word) (codes "--infoframe=") then Some (drop 12 word)
    else None

-- the name of a wire, or an InfoFrame in hex: what stands after the first of these flags, as a word of its own or in the same word
abbrev pub named_in : List (List ℕ) → Option (List ℕ)
named_in [] = None
named_in (word ∷ []) = joined_name word
named_in (word ∷ name ∷ words) = if is_naming word then Some name else option_or (joined_name word) (named_in (name ∷ words))
