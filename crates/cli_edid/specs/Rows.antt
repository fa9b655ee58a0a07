-- The rows of the table by which the EDIDs of a display and of a receiver are made one, as `video=keep,audio=own` (own).
use Rattle.std.specs.Prelude.{ℕ, zero, suc, ◌==◌, nat_lt, List, length, Option, Some, None, if◌then◌else◌, codes, option_and_then}
use Rattle.std.specs.List.{after_first, before_first, position_or_len}
use Rattle.std.specs.Option.{option_map}
use Rattle.std.specs.Str.{bytes_eq}
use Rattle.edid_merge.specs.declared.table.Bits.{Bits}
use Rattle.edid_merge.specs.declared.table.Bits.TheVariants as bits
use Rattle.edid_merge.specs.declared.table.Formats.{Formats}
use Rattle.edid_merge.specs.declared.table.Formats.TheVariants as formats
use Rattle.edid_merge.specs.declared.table.Numbers.{Numbers}
use Rattle.edid_merge.specs.declared.table.Numbers.TheVariants as numbers
use Rattle.edid_merge.specs.declared.table.Table.{Table}
use Rattle.edid_merge.specs.declared.table.Whose.{Whose}
use Rattle.edid_merge.specs.declared.table.Whose.TheVariants as whose
use Rattle.cli_choice.specs.Joined.{joined}

abbrev pub whose_of : List ℕ → Option Whose
whose_of word = if bytes_eq word (codes "keep") then Some whose.Keep else if bytes_eq word (codes "own") then Some whose.Own else None

-- whose video blocks they are, and what of them stays
abbrev pub videos_of : List ℕ → Option (Whose × Formats)
videos_of word =
    if bytes_eq word (codes "keep") then Some (whose.Keep, formats.All)
    else if bytes_eq word (codes "own") then Some (whose.Own, formats.All)
    else if bytes_eq word (codes "link") then Some (whose.Keep, formats.Carried)
    else None

abbrev pub bits_of : List ℕ → Option Bits
bits_of word =
    if bytes_eq word (codes "keep") then Some bits.Keep
    else if bytes_eq word (codes "own") then Some bits.Own
    else if bytes_eq word (codes "and") then Some bits.And
    else None

abbrev pub numbers_of : List ℕ → Option Numbers
numbers_of word =
    if bytes_eq word (codes "keep") then Some numbers.Keep
    else if bytes_eq word (codes "own") then Some numbers.Own
    else if bytes_eq word (codes "least") then Some numbers.Least
    else None

abbrev pub with_row : Table → List ℕ → List ℕ → Option Table
with_row table name word =
    if bytes_eq name (codes "product") then option_map (λ row. record table { product = row }) (whose_of word)
    else if bytes_eq name (codes "video") then option_map (λ row. record table { video = row.0; formats = row.1 }) (videos_of word)
    else if bytes_eq name (codes "audio") then option_map (λ row. record table { audio = row }) (whose_of word)
    else if bytes_eq name (codes "speakers") then option_map (λ row. record table { speakers = row }) (bits_of word)
    else if bytes_eq name (codes "hdmi") then option_map (λ row. record table { hdmi = row }) (numbers_of word)
    else if bytes_eq name (codes "forum") then option_map (λ row. record table { forum = row }) (numbers_of word)
    else if bytes_eq name (codes "capability") then option_map (λ row. record table { capability = row }) (bits_of word)
    else if bytes_eq name (codes "colorimetry") then option_map (λ row. record table { colorimetry = row }) (bits_of word)
    else if bytes_eq name (codes "hdr") then option_map (λ row. record table { hdr = row }) (bits_of word)
    else if bytes_eq name (codes "maker-video") then option_map (λ row. record table { maker_video = row }) (whose_of word)
    else if bytes_eq name (codes "maker-audio") then option_map (λ row. record table { maker_audio = row }) (whose_of word)
    else if bytes_eq name (codes "other") then option_map (λ row. record table { other = row }) (whose_of word)
    else None

abbrev pub with_row_by : Table → Option (List ℕ × List ℕ) → Option Table
with_row_by table None = None
with_row_by table (Some parts) = with_row table parts.0 parts.1

abbrev pub with_row_in : Table → List ℕ → Option Table
with_row_in table text = with_row_by table (joined text)

-- what stands before the first comma (44) of a text, and what stands after it, where it has one
abbrev pub parted : List ℕ → Option (List ℕ × List ℕ)
parted text =
    if nat_lt (position_or_len (λ b. b == 44) text) (length text) then Some (before_first (λ b. b == 44) text, after_first (λ b. b == 44) text)
    else None

-- a table with the row before a comma, and with the others as they are read
abbrev pub with_rows : (Table → List ℕ → Option Table) → Table → List ℕ → Option (List ℕ × List ℕ) → Option Table
with_rows others table text None = with_row_in table text
with_rows others table text (Some parts) = option_and_then (λ more. others more parts.1) (with_row_in table parts.0)

-- with the rows of a text, of which there are so many more than one at most
abbrev pub rows_within : ℕ → Table → List ℕ → Option Table
rows_within zero table text = with_row_in table text
rows_within (suc most) table text = with_rows (rows_within most) table text (parted text)

-- there are twelve kinds
unfoldable pub rows_of : Table → List ℕ → Option Table
rows_of table text = rows_within 11 table text
