-- Video formats by their codes (CTA-861-G, table 3).
use Rattle.std.specs.Prelude.{ℕ, ◌==◌, Bool, true, false, if◌then◌else◌, List, [], ◌∷◌, Option, Some, None}
use Rattle.meaning_words.specs.declared.formats.VideoFormat.{VideoFormat}
use Rattle.meaning_words.specs.declared.formats.Aspect.{Aspect}
use Rattle.meaning_words.specs.declared.formats.Aspect.TheVariants.{FourThirds, SixteenNinths, SixtyFourTwentySevenths, Cinema}

abbrev pub row : ℕ → ℕ → ℕ → Bool → ℕ → Aspect → VideoFormat
row code width height interlaced rate aspect = record { code = code; width = width; height = height; interlaced = interlaced; rate = rate; aspect = aspect }

-- code, width, height, interlaced, rate in Hz, aspect
abbrev pub formats : List VideoFormat
formats =
    row 1 640 480 false 60 FourThirds ∷
    row 2 720 480 false 60 FourThirds ∷
    row 3 720 480 false 60 SixteenNinths ∷
    row 4 1280 720 false 60 SixteenNinths ∷
    row 5 1920 1080 true 60 SixteenNinths ∷
    row 6 1440 480 true 60 FourThirds ∷
    row 7 1440 480 true 60 SixteenNinths ∷
    row 8 1440 240 false 60 FourThirds ∷
    row 9 1440 240 false 60 SixteenNinths ∷
    row 10 2880 480 true 60 FourThirds ∷
    row 11 2880 480 true 60 SixteenNinths ∷
    row 12 2880 240 false 60 FourThirds ∷
    row 13 2880 240 false 60 SixteenNinths ∷
    row 14 1440 480 false 60 FourThirds ∷
    row 15 1440 480 false 60 SixteenNinths ∷
    row 16 1920 1080 false 60 SixteenNinths ∷
    row 17 720 576 false 50 FourThirds ∷
    row 18 720 576 false 50 SixteenNinths ∷
    row 19 1280 720 false 50 SixteenNinths ∷
    row 20 1920 1080 true 50 SixteenNinths ∷
    row 21 1440 576 true 50 FourThirds ∷
    row 22 1440 576 true 50 SixteenNinths ∷
    row 23 1440 288 false 50 FourThirds ∷
    row 24 1440 288 false 50 SixteenNinths ∷
    row 25 2880 576 true 50 FourThirds ∷
    row 26 2880 576 true 50 SixteenNinths ∷
    row 27 2880 288 false 50 FourThirds ∷
    row 28 2880 288 false 50 SixteenNinths ∷
    row 29 1440 576 false 50 FourThirds ∷
    row 30 1440 576 false 50 SixteenNinths ∷
    row 31 1920 1080 false 50 SixteenNinths ∷
    row 32 1920 1080 false 24 SixteenNinths ∷
    row 33 1920 1080 false 25 SixteenNinths ∷
    row 34 1920 1080 false 30 SixteenNinths ∷
    row 35 2880 480 false 60 FourThirds ∷
    row 36 2880 480 false 60 SixteenNinths ∷
    row 37 2880 576 false 50 FourThirds ∷
    row 38 2880 576 false 50 SixteenNinths ∷
    row 39 1920 1080 true 50 SixteenNinths ∷
    row 40 1920 1080 true 100 SixteenNinths ∷
    row 41 1280 720 false 100 SixteenNinths ∷
    row 42 720 576 false 100 FourThirds ∷
    row 43 720 576 false 100 SixteenNinths ∷
    row 44 1440 576 true 100 FourThirds ∷
    row 45 1440 576 true 100 SixteenNinths ∷
    row 46 1920 1080 true 120 SixteenNinths ∷
    row 47 1280 720 false 120 SixteenNinths ∷
    row 48 720 480 false 120 FourThirds ∷
    row 49 720 480 false 120 SixteenNinths ∷
    row 50 1440 480 true 120 FourThirds ∷
    row 51 1440 480 true 120 SixteenNinths ∷
    row 52 720 576 false 200 FourThirds ∷
    row 53 720 576 false 200 SixteenNinths ∷
    row 54 1440 576 true 200 FourThirds ∷
    row 55 1440 576 true 200 SixteenNinths ∷
    row 56 720 480 false 240 FourThirds ∷
    row 57 720 480 false 240 SixteenNinths ∷
    row 58 1440 480 true 240 FourThirds ∷
    row 59 1440 480 true 240 SixteenNinths ∷
    row 60 1280 720 false 24 SixteenNinths ∷
    row 61 1280 720 false 25 SixteenNinths ∷
    row 62 1280 720 false 30 SixteenNinths ∷
    row 63 1920 1080 false 120 SixteenNinths ∷
    row 64 1920 1080 false 100 SixteenNinths ∷
    row 65 1280 720 false 24 SixtyFourTwentySevenths ∷
    row 66 1280 720 false 25 SixtyFourTwentySevenths ∷
    row 67 1280 720 false 30 SixtyFourTwentySevenths ∷
    row 68 1280 720 false 50 SixtyFourTwentySevenths ∷
    row 69 1280 720 false 60 SixtyFourTwentySevenths ∷
    row 70 1280 720 false 100 SixtyFourTwentySevenths ∷
    row 71 1280 720 false 120 SixtyFourTwentySevenths ∷
    row 72 1920 1080 false 24 SixtyFourTwentySevenths ∷
    row 73 1920 1080 false 25 SixtyFourTwentySevenths ∷
    row 74 1920 1080 false 30 SixtyFourTwentySevenths ∷
    row 75 1920 1080 false 50 SixtyFourTwentySevenths ∷
    row 76 1920 1080 false 60 SixtyFourTwentySevenths ∷
    row 77 1920 1080 false 100 SixtyFourTwentySevenths ∷
    row 78 1920 1080 false 120 SixtyFourTwentySevenths ∷
    row 79 1680 720 false 24 SixtyFourTwentySevenths ∷
    row 80 1680 720 false 25 SixtyFourTwentySevenths ∷
    row 81 1680 720 false 30 SixtyFourTwentySevenths ∷
    row 82 1680 720 false 50 SixtyFourTwentySevenths ∷
    row 83 1680 720 false 60 SixtyFourTwentySevenths ∷
    row 84 1680 720 false 100 SixtyFourTwentySevenths ∷
    row 85 1680 720 false 120 SixtyFourTwentySevenths ∷
    row 86 2560 1080 false 24 SixtyFourTwentySevenths ∷
    row 87 2560 1080 false 25 SixtyFourTwentySevenths ∷
    row 88 2560 1080 false 30 SixtyFourTwentySevenths ∷
    row 89 2560 1080 false 50 SixtyFourTwentySevenths ∷
    row 90 2560 1080 false 60 SixtyFourTwentySevenths ∷
    row 91 2560 1080 false 100 SixtyFourTwentySevenths ∷
    row 92 2560 1080 false 120 SixtyFourTwentySevenths ∷
    row 93 3840 2160 false 24 SixteenNinths ∷
    row 94 3840 2160 false 25 SixteenNinths ∷
    row 95 3840 2160 false 30 SixteenNinths ∷
    row 96 3840 2160 false 50 SixteenNinths ∷
    row 97 3840 2160 false 60 SixteenNinths ∷
    row 98 4096 2160 false 24 Cinema ∷
    row 99 4096 2160 false 25 Cinema ∷
    row 100 4096 2160 false 30 Cinema ∷
    row 101 4096 2160 false 50 Cinema ∷
    row 102 4096 2160 false 60 Cinema ∷
    row 103 3840 2160 false 24 SixtyFourTwentySevenths ∷
    row 104 3840 2160 false 25 SixtyFourTwentySevenths ∷
    row 105 3840 2160 false 30 SixtyFourTwentySevenths ∷
    row 106 3840 2160 false 50 SixtyFourTwentySevenths ∷
    row 107 3840 2160 false 60 SixtyFourTwentySevenths ∷
    row 108 1280 720 false 48 SixteenNinths ∷
    row 109 1280 720 false 48 SixtyFourTwentySevenths ∷
    row 110 1680 720 false 48 SixtyFourTwentySevenths ∷
    row 111 1920 1080 false 48 SixteenNinths ∷
    row 112 1920 1080 false 48 SixtyFourTwentySevenths ∷
    row 113 2560 1080 false 48 SixtyFourTwentySevenths ∷
    row 114 3840 2160 false 48 SixteenNinths ∷
    row 115 4096 2160 false 48 Cinema ∷
    row 116 3840 2160 false 48 SixtyFourTwentySevenths ∷
    row 117 3840 2160 false 100 SixteenNinths ∷
    row 118 3840 2160 false 120 SixteenNinths ∷
    row 119 3840 2160 false 100 SixtyFourTwentySevenths ∷
    row 120 3840 2160 false 120 SixtyFourTwentySevenths ∷
    row 121 5120 2160 false 24 SixtyFourTwentySevenths ∷
    row 122 5120 2160 false 25 SixtyFourTwentySevenths ∷
    row 123 5120 2160 false 30 SixtyFourTwentySevenths ∷
    row 124 5120 2160 false 48 SixtyFourTwentySevenths ∷
    row 125 5120 2160 false 50 SixtyFourTwentySevenths ∷
    row 126 5120 2160 false 60 SixtyFourTwentySevenths ∷
    row 127 5120 2160 false 100 SixtyFourTwentySevenths ∷
    row 193 5120 2160 false 120 SixtyFourTwentySevenths ∷
    row 194 7680 4320 false 24 SixteenNinths ∷
    row 195 7680 4320 false 25 SixteenNinths ∷
    row 196 7680 4320 false 30 SixteenNinths ∷
    row 197 7680 4320 false 48 SixteenNinths ∷
    row 198 7680 4320 false 50 SixteenNinths ∷
    row 199 7680 4320 false 60 SixteenNinths ∷
    row 200 7680 4320 false 100 SixteenNinths ∷
    row 201 7680 4320 false 120 SixteenNinths ∷
    row 202 7680 4320 false 24 SixtyFourTwentySevenths ∷
    row 203 7680 4320 false 25 SixtyFourTwentySevenths ∷
    row 204 7680 4320 false 30 SixtyFourTwentySevenths ∷
    row 205 7680 4320 false 48 SixtyFourTwentySevenths ∷
    row 206 7680 4320 false 50 SixtyFourTwentySevenths ∷
    row 207 7680 4320 false 60 SixtyFourTwentySevenths ∷
    row 208 7680 4320 false 100 SixtyFourTwentySevenths ∷
    row 209 7680 4320 false 120 SixtyFourTwentySevenths ∷
    row 210 10240 4320 false 24 SixtyFourTwentySevenths ∷
    row 211 10240 4320 false 25 SixtyFourTwentySevenths ∷
    row 212 10240 4320 false 30 SixtyFourTwentySevenths ∷
    row 213 10240 4320 false 48 SixtyFourTwentySevenths ∷
    row 214 10240 4320 false 50 SixtyFourTwentySevenths ∷
    row 215 10240 4320 false 60 SixtyFourTwentySevenths ∷
    row 216 10240 4320 false 100 SixtyFourTwentySevenths ∷
    row 217 10240 4320 false 120 SixtyFourTwentySevenths ∷
    row 218 4096 2160 false 100 Cinema ∷
    row 219 4096 2160 false 120 Cinema ∷ []

-- the first of a list with this code
abbrev pub find_code : List VideoFormat → ℕ → Option VideoFormat
find_code [] code = None
find_code (f ∷ fs) code = if f.code == code then Some f else find_code fs code

unfoldable pub format_of : ℕ → Option VideoFormat
format_of code = find_code formats code
