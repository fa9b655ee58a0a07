-- A remark at the end of a line of a list, as C, C++, Python and shells have them (own).
use Rattle.std.specs.Prelude.{ℕ, ◌+◌, ◌==◌, ◌&&◌, ◌||◌, Bool, true, false, if◌then◌else◌, List, [], ◌∷◌, length, take, drop, slice_index, codes, Option, Some, None}
use Rattle.std.specs.List.{list_all}
use Rattle.std.specs.Str.{bytes_eq}
use Rattle.edid_dump.specs.Digits.{is_between, listed}

-- whether a text begins with another one
abbrev pub begins : List ℕ → List ℕ → Bool
begins front text = bytes_eq (take (length front) text) front

-- a remark begins here: `#`, `//` or `/*`
abbrev pub is_remark : List ℕ → Bool
is_remark rest = (slice_index rest 0 == 35) || (begins (codes "//") rest || begins (codes "/*") rest)

-- the place of the first remark, of a rest of a line and where that stands
abbrev pub remark_at : ℕ → List ℕ → Option ℕ
remark_at place [] = None
remark_at place (x ∷ rest) = if is_remark (x ∷ rest) then Some place else remark_at (place + 1) rest

-- what stands after the first `*/`
abbrev pub after_close : List ℕ → Option (List ℕ)
after_close [] = None
after_close (x ∷ rest) = if (x == 42) && (slice_index rest 0 == 47) then Some (drop 1 rest) else after_close rest

abbrev pub are_signs : Option (List ℕ) → Bool
are_signs None = false
are_signs (Some rest) = list_all is_between rest

-- nothing stands after a remark, but signs after its `*/`
abbrev pub is_last : List ℕ → Bool
is_last remark = if begins (codes "/*") remark then are_signs (after_close (drop 2 remark)) else true

-- a remark stands beside bytes: a line of a remark alone is other text
abbrev pub some_bytes : Option (List ℕ) → Option (List ℕ)
some_bytes None = None
some_bytes (Some []) = None
some_bytes (Some (b ∷ bytes)) = Some (b ∷ bytes)

abbrev pub some_count : Option ℕ → Option ℕ
some_count None = None
some_count (Some count) = if count == 0 then None else Some count

abbrev pub code_before : Option ℕ → List ℕ → Option (List ℕ)
code_before None text = listed text
code_before (Some place) text = if is_last (drop place text) then some_bytes (listed (take place text)) else None

-- the bytes of a list, perhaps with a remark after them
abbrev pub code_bytes : List ℕ → Option (List ℕ)
code_bytes text = code_before (remark_at 0 text) text
