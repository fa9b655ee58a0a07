-- The formats that a display takes in YCbCr 4:2:0 too (the capability map: CTA-861-G, section 7.5.11), and in it alone (section 7.5.10).
use Rattle.std.specs.Prelude.{ℕ, ◌+◌, ◌-◌, ◌/◌, ◌%◌, ◌==◌, Bool, false, ◌&&◌, ◌||◌, nat_lt, if◌then◌else◌, List, [], ◌∷◌, length, slice_index, drop, Option, Some, None}
use Rattle.std.specs.List.{list_any}
use Rattle.edid_cta.specs.declared.block.DataBlock.{DataBlock}
use Rattle.rules_values.specs.VideoCodes.{code_of}
use Rattle.rules_contents.specs.Contents.{has_extended_tag}
use Rattle.rules_rates.specs.Paces.{pace_of}
use Rattle.rules_rates.specs.declared.pace.Pace.{Pace}

-- ---- the map: bit k of its bytes, the lowest of the first byte first, is for code k of the video blocks

-- of a bit by its place in a byte
abbrev pub weight : ℕ → ℕ
weight place =
    if place == 0 then 1
    else if place == 1 then 2
    else if place == 2 then 4
    else if place == 3 then 8
    else if place == 4 then 16
    else if place == 5 then 32
    else if place == 6 then 64
    else 128

-- a bit is set for a place after so many codes
abbrev pub marks_past : ℕ → List ℕ → Bool
marks_past count [] = false
marks_past count (byte ∷ bytes) = (nat_lt count 8 && nat_lt 0 (byte / weight count)) || marks_past (count - 8) bytes

abbrev pub has_past : ℕ → DataBlock → Bool
has_past count b = has_extended_tag 0x0f b && marks_past count (drop 1 b.payload.items)

-- ---- formats that no link carries in 4:2:0

-- HDMI 2.1 has 4:2:0 for formats whose clock is at least 590 MHz (section 7.1)
abbrev pub is_slower : Option Pace → Bool
is_slower None = false
is_slower (Some p) = nat_lt p.clock 590000

abbrev pub is_slow : ℕ → Bool
is_slow code = is_slower (pace_of code)

abbrev pub is_marked : List ℕ → ℕ → Bool
is_marked bytes place = nat_lt (place / 8) (length bytes) && (slice_index bytes (place / 8) / weight (place % 8) % 2 == 1)

-- one of the codes, which stand from this place on, is marked and slow
abbrev pub marks_slow : List ℕ → ℕ → List ℕ → Bool
marks_slow bytes place [] = false
marks_slow bytes place (code ∷ codes) = (is_marked bytes place && is_slow code) || marks_slow bytes (place + 1) codes

abbrev pub has_slow : List ℕ → DataBlock → Bool
has_slow codes b =
    (has_extended_tag 0x0f b && marks_slow (drop 1 b.payload.items) 0 codes) ||
    (has_extended_tag 0x0e b && list_any (λ svd. is_slow (code_of svd)) (drop 1 b.payload.items))
