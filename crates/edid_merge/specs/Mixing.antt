-- One block of two, byte by byte: which bytes are flags and which are numbers is of CTA-861-G, section 7.5, of HDMI 1.4, section
-- 8.3.2, and of HDMI 2.1, section 10.3.2. What a receiver passes on of them is this profile's own.
use Rattle.std.specs.Prelude.{ℕ, ◌+◌, ◌*◌, ◌/◌, ◌%◌, ◌==◌, if◌then◌else◌, List, [], ◌∷◌, drop, min, replicate, slice_index}
use Rattle.std.specs.Int.Bits.{bit_and}
use Rattle.edid_merge.specs.declared.mixing.Way.{Way}
use Rattle.edid_merge.specs.declared.mixing.Way.TheVariants.{Display, Receiver, Both, Lesser, Passed, Flags, Rates}

-- Flags have a top bit of the receiver's own, and the others where both have them; rates are two numbers of four bits, of which the
-- higher is one and the lower four flags.
abbrev pub mixed_byte : Way → ℕ → ℕ → ℕ
mixed_byte Display display own = display
mixed_byte Receiver display own = own
mixed_byte Both display own = bit_and display own
mixed_byte Lesser display own = min display own
mixed_byte Passed display own = if own == 0 then 0 else display
mixed_byte Flags display own = own / 128 * 128 + bit_and (display % 128) (own % 128)
mixed_byte Rates display own = min (display / 16) (own / 16) * 16 + bit_and (display % 16) (own % 16)

-- as long as the display's, whose bytes stay after those that a way is for; what the receiver's lacks is 0
abbrev pub mixed : List Way → List ℕ → List ℕ → List ℕ
mixed [] display own = display
mixed (way ∷ ways) [] own = []
mixed (way ∷ ways) (byte ∷ display) own = mixed_byte way byte (slice_index own 0) ∷ mixed ways display (drop 1 own)

-- flags, as many bytes as a data block has at most
abbrev pub speakers_ways : List Way
speakers_ways = replicate 31 Both

-- a tag, and flags
abbrev pub capability_ways : List Way
capability_ways = Display ∷ Both ∷ []

-- a tag, and two bytes of flags: of static metadata luminances follow, which stay
abbrev pub colours_ways : List Way
colours_ways = Display ∷ Both ∷ Both ∷ []

-- the identifier, the address, the flags of AI and deep colour, the greatest clock
abbrev pub hdmi_ways : List Way
hdmi_ways = Display ∷ Display ∷ Display ∷ Receiver ∷ Receiver ∷ Flags ∷ Lesser ∷ []

-- the identifier and the version, the greatest clock, flags, the greatest fixed rate and flags, flags; variable refresh and
-- compression
abbrev pub forum_ways : List Way
forum_ways =
    Display ∷ Display ∷ Display ∷ Display ∷ Lesser ∷ Both ∷ Rates ∷ Both ∷ Passed ∷ Passed ∷ Passed ∷ Passed ∷ Passed ∷ []
