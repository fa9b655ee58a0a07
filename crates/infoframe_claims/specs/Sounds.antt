-- Which audio a display takes: the short audio descriptors of its audio data blocks (CTA-861-H, section 7.5.2), of three bytes each, and
-- basic audio (section 7.5, bit 6 of the flags).
use Rattle.std.specs.Prelude.{ℕ, ◌-◌, ◌/◌, ◌%◌, ◌==◌, ◌&&◌, ◌||◌, nat_le, nat_lt, Bool, false, not, List, [], ◌∷◌}
use Rattle.infoframe_claims.specs.Bits.{has_bit}
use Rattle.infoframe_claims.specs.Claims.{tells_coding}
use Rattle.infoframe_claims.specs.declared.claim.Claim.{Claim}
use Rattle.infoframe_claims.specs.declared.claim.Claim.TheVariants.{Coding, Channels, Rate, Size}
use Rattle.infoframe_claims.specs.declared.claim.Sound.{Sound}
use Rattle.infoframe_claims.specs.declared.sounds.Format.{Format}

-- the format of a descriptor, and its extension where the format is 15
abbrev pub coding_of : Format → ℕ
coding_of f = f.first / 8 % 16

abbrev pub extension_of : Format → ℕ
extension_of f = f.third / 8

-- any coding, where the InfoFrame leaves it to the stream
abbrev pub takes_coding : Sound → Format → Bool
takes_coding s f = not (tells_coding s) || ((coding_of f == s.coding) && (nat_lt s.coding 15 || (extension_of f == s.extension)))

-- Channels less one: bits 2 to 0 of the first byte. A top bit of the first two is of eight channels and more (linear PCM 3D, table 37a);
-- the formats of extension 11 and 12 tell none.
abbrev pub tells_no_channels : Format → Bool
tells_no_channels f = (coding_of f == 15) && ((extension_of f == 11) || (extension_of f == 12))

abbrev pub takes_channels : Sound → Format → Bool
takes_channels s f = nat_le s.channels (f.first % 8) || nat_le 128 f.first || nat_le 128 f.second || tells_no_channels f

-- a bit each for 32, 44.1, 48, 88.2, 96, 176.4 and 192 kHz, the codes 1 to 7 of SF
abbrev pub takes_rate : Sound → Format → Bool
takes_rate s f = (s.rate == 0) || has_bit f.second (s.rate - 1)

-- a bit each for 16, 20 and 24 bits, the codes 1 to 3 of SS; linear PCM alone tells it, also as 3D
abbrev pub is_pcm : Format → Bool
is_pcm f = (coding_of f == 1) || ((coding_of f == 15) && (extension_of f == 13))

abbrev pub takes_size : Sound → Format → Bool
takes_size s f = (s.size == 0) || not (is_pcm f) || has_bit f.third (s.size - 1)

-- a claim is met by one descriptor, as far as it goes: the coding; so many channels of it; these at a rate; these in a size
abbrev pub takes : Claim → Format → Bool
takes (Coding s) f = takes_coding s f
takes (Channels s) f = takes_coding s f && takes_channels s f
takes (Rate s) f = takes_coding s f && (takes_channels s f && takes_rate s f)
takes (Size s) f = takes_coding s f && (takes_channels s f && (takes_rate s f && takes_size s f))
takes _ f = false

abbrev pub some_take : Claim → List ℕ → Bool
some_take claim [] = false
some_take claim (first ∷ []) = false
some_take claim (first ∷ second ∷ []) = false
some_take claim (first ∷ second ∷ third ∷ more) = takes claim (record { first = first; second = second; third = third }) || some_take claim more

-- basic audio is two channels of linear PCM at 32, 44.1 and 48 kHz in 16 bits
abbrev pub basic_audio : Format
basic_audio = record { first = 9; second = 7; third = 1 }
