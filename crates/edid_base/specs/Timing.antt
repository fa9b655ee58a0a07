-- The 18 bytes of a detailed timing descriptor (E-EDID Release A, section 3.10.2).
use Rattle.std.specs.Prelude.{ℕ, ◌+◌, ◌*◌, ◌/◌, ◌%◌, List, [], ◌∷◌}
use Rattle.edid_base.specs.declared.timing.Timing.{Timing}

abbrev pub low : ℕ → ℕ
low n = n % 256

abbrev pub high : ℕ → ℕ
high n = n / 256

-- two numbers of twelve bits: the low bytes, then both high nibbles
abbrev pub nibbles : ℕ → ℕ → ℕ
nibbles a b = high a * 16 + high b

abbrev pub timing_bytes : Timing → List ℕ
timing_bytes t =
    low t.clock ∷ high t.clock ∷
    low t.horizontal_active ∷ low t.horizontal_blanking ∷ nibbles t.horizontal_active t.horizontal_blanking ∷
    low t.vertical_active ∷ low t.vertical_blanking ∷ nibbles t.vertical_active t.vertical_blanking ∷
    low t.horizontal_sync_offset ∷ low t.horizontal_sync_width ∷
    (t.vertical_sync_offset % 16 * 16 + t.vertical_sync_width % 16) ∷
    (high t.horizontal_sync_offset * 64 + high t.horizontal_sync_width * 16 + t.vertical_sync_offset / 16 * 4 + t.vertical_sync_width / 16) ∷
    low t.width ∷ low t.height ∷ nibbles t.width t.height ∷
    t.horizontal_border ∷ t.vertical_border ∷ t.flags ∷ []

-- clock; active and blanking, horizontally and vertically; sync offset and width, in the same way; millimetres; borders (own: the order in a text)
abbrev pub timing_numbers : Timing → List ℕ
timing_numbers t =
    t.clock ∷ t.horizontal_active ∷ t.horizontal_blanking ∷ t.vertical_active ∷ t.vertical_blanking ∷
    t.horizontal_sync_offset ∷ t.horizontal_sync_width ∷ t.vertical_sync_offset ∷ t.vertical_sync_width ∷
    t.width ∷ t.height ∷ t.horizontal_border ∷ t.vertical_border ∷ []
