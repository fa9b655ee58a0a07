-- The data blocks of DisplayID 2.1 (section 4), by the bytes of their payloads.
use Rattle.std.specs.Prelude.{ℕ, List, [], ◌∷◌, codes}
use Rattle.meaning_fields.specs.Fields.{Row, row, word, words, number, above, hex, share}
use Rattle.meaning_displayid.specs.Timings.{front_text}
use Rattle.meaning_displayid.specs.Forms.{Form, Say, named, fields, bits, text, bytes, light, floor, gamma, block, list}

-- product identification (section 4.1), after the maker
abbrev pub product_rows : List Row
product_rows =
    row 3 2 1 65536 (number (codes ", code ") 1 0 []) ∷
    row 5 4 1 4294967296 (above (codes ", serial number ") 1 []) ∷
    row 9 1 1 256 (above (codes ", week ") 1 []) ∷
    row 10 1 1 256 (number (codes " of ") 1 2000 []) ∷ []

abbrev pub product_says : List Say
product_says = named (codes ", product") ∷ bytes (codes " of maker ") 0 3 ∷ fields product_rows ∷ text (codes ", ") 12 116 ∷ []

-- product identification
unfoldable pub product : Form
product = block 12 [] product_says 128

-- a size in tenths of 1 mm
abbrev pub tenth_rows : List Row
tenth_rows =
    row 0 2 1 65536 (number (codes ", ") 1 0 (codes " x ")) ∷
    row 2 2 1 65536 (number [] 1 0 (codes " in tenths of 1 mm")) ∷ []

-- a size in millimetres
abbrev pub millimetre_rows : List Row
millimetre_rows =
    row 0 2 1 65536 (number (codes ", ") 1 0 (codes " x ")) ∷
    row 2 2 1 65536 (number [] 1 0 (codes " mm")) ∷ []

-- display parameters (section 4.2)
abbrev pub parameter_rows : List Row
parameter_rows =
    row 4 2 1 65536 (number (codes ", ") 1 0 (codes "x")) ∷
    row 6 2 1 65536 (number [] 1 0 (codes " pixels")) ∷
    row 8 1 1 8 (words [] (codes ", left to right, top to bottom" ∷ codes ", right to left, top to bottom" ∷ codes ", top to bottom, right to left" ∷ codes ", bottom to top, right to left" ∷ codes ", right to left, bottom to top" ∷ codes ", left to right, bottom to top" ∷ codes ", bottom to top, left to right" ∷ codes ", top to bottom, left to right" ∷ [])) ∷
    row 8 1 8 4 (words (codes ", luminances ") (codes ", luminances guaranteed" ∷ codes ", luminances for guidance" ∷ [])) ∷
    row 8 1 32 2 (word (codes ", reserved bit 5")) ∷
    row 8 1 64 2 (words [] (codes ", CIE 1931" ∷ codes ", CIE 1976" ∷ [])) ∷
    row 8 1 128 2 (words [] (codes ", speakers" ∷ codes ", no speakers" ∷ [])) ∷
    row 27 1 1 8 (words (codes ", depth ") ([] ∷ codes ", 8 bits a colour" ∷ codes ", 10 bits a colour" ∷ codes ", 12 bits a colour" ∷ codes ", 14 bits a colour" ∷ codes ", 16 bits a colour" ∷ [])) ∷
    row 27 1 8 2 (word (codes ", reserved bit 3")) ∷
    row 27 1 16 8 (words (codes ", technology ") ([] ∷ codes ", LCD" ∷ codes ", OLED" ∷ [])) ∷
    row 27 1 128 2 (word (codes ", dark theme preferred")) ∷ []

-- the chromaticities of its primaries and of its white, in units of 2^-12
abbrev pub primary_rows : List Row
primary_rows =
    row 9 2 1 4096 (share (codes ", primary 1 ") 0 4096) ∷
    row 10 2 16 4096 (share (codes " ") 0 4096) ∷
    row 12 2 1 4096 (share (codes ", primary 2 ") 0 4096) ∷
    row 13 2 16 4096 (share (codes " ") 0 4096) ∷
    row 15 2 1 4096 (share (codes ", primary 3 ") 0 4096) ∷
    row 16 2 16 4096 (share (codes " ") 0 4096) ∷
    row 18 2 1 4096 (share (codes ", white ") 0 4096) ∷
    row 19 2 16 4096 (share (codes " ") 0 4096) ∷ []

abbrev pub tenth_says : List Say
tenth_says = named (codes ", parameters") ∷ fields tenth_rows ∷ fields parameter_rows ∷ []

abbrev pub millimetre_says : List Say
millimetre_says = named (codes ", parameters") ∷ fields millimetre_rows ∷ fields parameter_rows ∷ []

abbrev pub primary_says : List Say
primary_says = fields primary_rows ∷ []

abbrev pub light_says : List Say
light_says = light (codes ", full coverage up to ") 21 ∷ light (codes ", 10% coverage up to ") 23 ∷ floor 25 ∷ gamma 28 ∷ []

-- display parameters, with a size in tenths of 1 mm
unfoldable pub parameters : Form
parameters = block 29 (tenth_says ∷ primary_says ∷ []) light_says 29

-- display parameters, with a size in millimetres
unfoldable pub parameters_in_mm : Form
parameters_in_mm = block 29 (millimetre_says ∷ primary_says ∷ []) light_says 29

-- timings of 20 bytes (section 4.3)
abbrev pub timing_rows : List Row
timing_rows =
    row 6 2 1 65536 (number (codes ", h blanking ") 1 1 []) ∷
    row 8 2 1 32768 (number (codes ", offset ") 1 1 []) ∷
    row 10 2 1 65536 (number (codes ", width ") 1 1 []) ∷
    row 9 1 128 2 (words [] (codes ", -h" ∷ codes ", +h" ∷ [])) ∷
    row 14 2 1 65536 (number (codes ", v blanking ") 1 1 []) ∷
    row 16 2 1 32768 (number (codes ", offset ") 1 1 []) ∷
    row 18 2 1 65536 (number (codes ", width ") 1 1 []) ∷
    row 17 1 128 2 (words [] (codes ", -v" ∷ codes ", +v" ∷ [])) ∷
    row 3 1 128 2 (word (codes ", preferred")) ∷
    row 3 1 32 4 (words (codes ", stereo ") ([] ∷ codes ", stereo" ∷ codes ", stereo by the user" ∷ [])) ∷
    row 3 1 16 2 (word (codes ", interlaced")) ∷
    row 3 1 1 16 (words (codes ", aspect ") (codes ", 1:1" ∷ codes ", 5:4" ∷ codes ", 4:3" ∷ codes ", 15:9" ∷ codes ", 16:9" ∷ codes ", 16:10" ∷ codes ", 64:27" ∷ codes ", 256:135" ∷ [] ∷ [])) ∷ []

-- the same from revision 2 on
abbrev pub timing_420_rows : List Row
timing_420_rows =
    row 6 2 1 65536 (number (codes ", h blanking ") 1 1 []) ∷
    row 8 2 1 32768 (number (codes ", offset ") 1 1 []) ∷
    row 10 2 1 65536 (number (codes ", width ") 1 1 []) ∷
    row 9 1 128 2 (words [] (codes ", -h" ∷ codes ", +h" ∷ [])) ∷
    row 14 2 1 65536 (number (codes ", v blanking ") 1 1 []) ∷
    row 16 2 1 32768 (number (codes ", offset ") 1 1 []) ∷
    row 18 2 1 65536 (number (codes ", width ") 1 1 []) ∷
    row 17 1 128 2 (words [] (codes ", -v" ∷ codes ", +v" ∷ [])) ∷
    row 3 1 128 2 (word (codes ", also in YCbCr 4:2:0")) ∷
    row 3 1 32 4 (words (codes ", stereo ") ([] ∷ codes ", stereo" ∷ codes ", stereo by the user" ∷ [])) ∷
    row 3 1 16 2 (word (codes ", interlaced")) ∷
    row 3 1 1 16 (words (codes ", aspect ") (codes ", 1:1" ∷ codes ", 5:4" ∷ codes ", 4:3" ∷ codes ", 15:9" ∷ codes ", 16:9" ∷ codes ", 16:10" ∷ codes ", 64:27" ∷ codes ", 256:135" ∷ [] ∷ [])) ∷ []

abbrev pub timing_says : List Say
timing_says = named (codes ", ") ∷ front_text 1 ∷ fields timing_rows ∷ []

abbrev pub timing_420_says : List Say
timing_420_says = named (codes ", ") ∷ front_text 1 ∷ fields timing_420_rows ∷ []

-- timings of type VII, of so many bytes more
unfoldable pub timings_vii : ℕ → Form
timings_vii extra = list [] [] 0 20 extra 0 timing_says 20

-- timings of type VII from revision 2 on
unfoldable pub timings_vii_420 : ℕ → Form
timings_vii_420 extra = list [] [] 0 20 extra 0 timing_420_says 20

-- timings of six bytes (section 4.3.3)
abbrev pub type_9_rows : List Row
type_9_rows =
    row 1 2 1 65536 (number (codes ", ") 1 1 (codes "x")) ∷
    row 3 2 1 65536 (number [] 1 1 []) ∷
    row 5 1 1 256 (number (codes " at ") 1 1 (codes " Hz")) ∷
    row 0 1 1 8 (words (codes ", formula ") (codes ", CVT" ∷ codes ", CVT with reduced blanking" ∷ codes ", CVT with reduced blanking of version 2" ∷ [])) ∷
    row 0 1 16 2 (word (codes ", also at 1000/1001 of it")) ∷
    row 0 1 32 4 (words (codes ", stereo ") ([] ∷ codes ", stereo" ∷ codes ", stereo by the user" ∷ [])) ∷
    row 0 1 8 2 (hex (codes ", reserved bits ") 8) ∷
    row 0 1 128 2 (hex (codes ", reserved bits ") 128) ∷ []

abbrev pub type_9_says : List Say
type_9_says = fields type_9_rows ∷ []

-- timings of type IX
unfoldable pub timings_ix : Form
timings_ix = list [] [] 0 6 0 0 type_9_says 6

-- timings of six bytes (section 4.3.4)
abbrev pub type_10_rows : List Row
type_10_rows =
    row 1 2 1 65536 (number (codes ", ") 1 1 (codes "x")) ∷
    row 3 2 1 65536 (number [] 1 1 []) ∷
    row 5 1 1 256 (number (codes " at ") 1 1 (codes " Hz")) ∷
    row 0 1 1 8 (words (codes ", formula ") (codes ", CVT" ∷ codes ", CVT with reduced blanking" ∷ codes ", CVT with reduced blanking of version 2" ∷ codes ", CVT with reduced blanking of version 3" ∷ [])) ∷
    row 0 1 8 2 (word (codes ", early vertical sync")) ∷
    row 0 1 16 2 (word (codes ", also at 1000/1001, or in version 3 160 pixels of blanking")) ∷
    row 0 1 32 4 (words (codes ", stereo ") ([] ∷ codes ", stereo" ∷ codes ", stereo by the user" ∷ [])) ∷
    row 0 1 128 2 (word (codes ", also in YCbCr 4:2:0")) ∷ []

-- the same of seven bytes or more
abbrev pub long_type_10_rows : List Row
long_type_10_rows =
    row 1 2 1 65536 (number (codes ", ") 1 1 (codes "x")) ∷
    row 3 2 1 65536 (number [] 1 1 []) ∷
    row 5 2 1 1024 (number (codes " at ") 1 1 (codes " Hz")) ∷
    row 0 1 1 8 (words (codes ", formula ") (codes ", CVT" ∷ codes ", CVT with reduced blanking" ∷ codes ", CVT with reduced blanking of version 2" ∷ codes ", CVT with reduced blanking of version 3" ∷ [])) ∷
    row 0 1 8 2 (word (codes ", early vertical sync")) ∷
    row 0 1 16 2 (word (codes ", also at 1000/1001, or in version 3 160 pixels of blanking")) ∷
    row 0 1 32 4 (words (codes ", stereo ") ([] ∷ codes ", stereo" ∷ codes ", stereo by the user" ∷ [])) ∷
    row 0 1 128 2 (word (codes ", also in YCbCr 4:2:0")) ∷
    row 6 1 4 8 (above (codes ", horizontal blanking step ") 1 []) ∷
    row 6 1 32 8 (above (codes ", ") 35 (codes " us more vertical blanking")) ∷ []

abbrev pub type_10_says : List Say
type_10_says = fields type_10_rows ∷ []

abbrev pub long_type_10_says : List Say
long_type_10_says = fields long_type_10_rows ∷ []

-- timings of type X
unfoldable pub timings_x : Form
timings_x = list [] [] 0 6 0 0 type_10_says 6

-- timings of type X, of so many bytes more
unfoldable pub long_timings_x : ℕ → Form
long_timings_x extra = list [] [] 0 6 extra 0 long_type_10_says 7

-- limits of dynamic timings (section 4.4)
abbrev pub limit_rows : List Row
limit_rows =
    row 0 3 1 16777216 (number (codes ", ") 1 1 (codes " to ")) ∷
    row 3 3 1 16777216 (number [] 1 1 (codes " kHz")) ∷
    row 6 1 1 256 (number (codes ", ") 1 0 (codes " to ")) ∷
    row 7 1 1 256 (number [] 1 0 (codes " Hz")) ∷
    row 8 1 128 2 (word (codes ", seamless")) ∷
    row 8 1 1 128 (hex (codes ", reserved bits ") 1) ∷ []

-- the same from revision 1 on, with a greatest rate of ten bits
abbrev pub long_limit_rows : List Row
long_limit_rows =
    row 0 3 1 16777216 (number (codes ", ") 1 1 (codes " to ")) ∷
    row 3 3 1 16777216 (number [] 1 1 (codes " kHz")) ∷
    row 6 1 1 256 (number (codes ", ") 1 0 (codes " to ")) ∷
    row 7 2 1 1024 (number [] 1 0 (codes " Hz")) ∷
    row 8 1 128 2 (word (codes ", seamless")) ∷
    row 8 1 4 32 (hex (codes ", reserved bits ") 4) ∷ []

abbrev pub limit_says : List Say
limit_says = named (codes ", dynamic range limits") ∷ fields limit_rows ∷ []

abbrev pub long_limit_says : List Say
long_limit_says = named (codes ", dynamic range limits") ∷ fields long_limit_rows ∷ []

-- limits of dynamic timings
unfoldable pub limits : Form
limits = block 9 [] limit_says 9

-- limits of dynamic timings from revision 1 on
unfoldable pub long_limits : Form
long_limits = block 9 [] long_limit_says 9

-- depths of RGB and of YCbCr 4:4:4 (section 4.6)
abbrev pub depths : List (List ℕ)
depths = codes " 6" ∷ codes " 8" ∷ codes " 10" ∷ codes " 12" ∷ codes " 14" ∷ codes " 16" ∷ []

-- depths of YCbCr 4:2:2 and 4:2:0
abbrev pub fewer_depths : List (List ℕ)
fewer_depths = codes " 8" ∷ codes " 10" ∷ codes " 12" ∷ codes " 14" ∷ codes " 16" ∷ []

-- rates of audio
abbrev pub rates : List (List ℕ)
rates = codes " bit 0" ∷ codes " bit 1" ∷ codes " bit 2" ∷ codes " bit 3" ∷ codes " bit 4" ∷ codes " 48" ∷ codes " 44.1" ∷ codes " 32" ∷ []

-- colour spaces with their transfer functions
abbrev pub spaces : List (List ℕ)
spaces = codes " sRGB" ∷ codes " BT.601" ∷ codes " BT.709/BT.1886" ∷ codes " Adobe RGB" ∷ codes " DCI-P3" ∷ codes " BT.2020" ∷ codes " BT.2020/ST 2084" ∷ []

-- the least clock of YCbCr 4:2:0
abbrev pub least_420_rows : List Row
least_420_rows =
    row 4 1 1 256 (above (codes ", 4:2:0 from ") 74250 (codes " kHz")) ∷ []

-- further ones
abbrev pub more_space_rows : List Row
more_space_rows =
    row 7 1 1 256 (hex (codes ", reserved byte ") 1) ∷
    row 8 1 1 8 (above (codes ", ") 1 (codes " further combinations")) ∷
    row 8 1 8 32 (hex (codes ", reserved bits ") 8) ∷ []

-- a colour space and a transfer function
abbrev pub combination_rows : List Row
combination_rows =
    row 0 1 16 16 (words (codes ", colour space ") (codes ", undefined" ∷ codes ", sRGB" ∷ codes ", BT.601" ∷ codes ", BT.709" ∷ codes ", Adobe RGB" ∷ codes ", DCI-P3" ∷ codes ", BT.2020" ∷ codes ", custom" ∷ [])) ∷
    row 0 1 1 16 (words (codes " with transfer function ") (codes " with undefined" ∷ codes " with sRGB" ∷ codes " with BT.601" ∷ codes " with BT.1886" ∷ codes " with Adobe RGB" ∷ codes " with DCI-P3" ∷ codes " with BT.2020" ∷ codes " with a gamma function" ∷ codes " with ST 2084" ∷ codes " with hybrid log-gamma" ∷ codes " with custom" ∷ [])) ∷ []

abbrev pub rgb_says : List Say
rgb_says = named (codes ", interface features") ∷ bits (codes ", RGB") 0 depths (codes " bits") ∷ bits (codes ", YCbCr 4:4:4") 1 depths (codes " bits") ∷ []

abbrev pub ycc_says : List Say
ycc_says = bits (codes ", YCbCr 4:2:2") 2 fewer_depths (codes " bits") ∷ bits (codes ", YCbCr 4:2:0") 3 fewer_depths (codes " bits") ∷ fields least_420_rows ∷ []

abbrev pub space_says : List Say
space_says = bits (codes ", audio at") 5 rates (codes " kHz") ∷ bits (codes ", colours") 6 spaces [] ∷ fields more_space_rows ∷ []

abbrev pub combination_says : List Say
combination_says = fields combination_rows ∷ []

-- interface features
unfoldable pub features : Form
features = list (rgb_says ∷ ycc_says ∷ []) space_says 9 1 0 0 combination_says 1

-- the topology of tiles (section 4.8)
abbrev pub tile_rows : List Row
tile_rows =
    row 0 1 128 2 (word (codes ", in one enclosure")) ∷
    row 0 1 64 2 (word (codes ", with bezels")) ∷
    row 0 1 32 2 (hex (codes ", reserved bits ") 32) ∷
    row 0 1 8 4 (words (codes ", some alone ") ([] ∷ codes ", some alone at their place" ∷ [])) ∷
    row 0 1 1 8 (words (codes ", one alone ") ([] ∷ codes ", one alone at its place" ∷ codes ", one alone scaled" ∷ codes ", one alone cloned" ∷ [])) ∷
    row 1 1 16 16 (number (codes ", ") 1 1 (codes " across")) ∷
    row 1 1 1 16 (number (codes ", ") 1 1 (codes " down")) ∷
    row 2 1 16 16 (number (codes ", column ") 1 1 []) ∷
    row 2 1 1 16 (number (codes ", row ") 1 1 []) ∷
    row 3 1 1 256 (hex (codes ", high bits ") 1) ∷
    row 4 2 1 65536 (number (codes ", ") 1 1 (codes "x")) ∷
    row 6 2 1 65536 (number [] 1 1 (codes " pixels")) ∷ []

-- their bezels, in tenths of so many pixels
abbrev pub bezel_rows : List Row
bezel_rows =
    row 8 1 1 256 (above (codes ", bezels times ") 1 []) ∷
    row 9 1 1 256 (above (codes ", top ") 1 []) ∷
    row 10 1 1 256 (above (codes ", bottom ") 1 []) ∷
    row 11 1 1 256 (above (codes ", right ") 1 []) ∷
    row 12 1 1 256 (above (codes ", left ") 1 []) ∷ []

-- the tiled product
abbrev pub tiled_rows : List Row
tiled_rows =
    row 16 2 1 65536 (number (codes ", code ") 1 0 []) ∷
    row 18 4 1 4294967296 (above (codes ", serial number ") 1 []) ∷ []

abbrev pub all_tile_says : List Say
all_tile_says = named (codes ", tiles") ∷ fields tile_rows ∷ fields bezel_rows ∷ []

abbrev pub tiled_says : List Say
tiled_says = named (codes ", of the product") ∷ bytes (codes " of maker ") 13 3 ∷ fields tiled_rows ∷ []

-- the topology of tiles
unfoldable pub tiles : Form
tiles = block 22 (all_tile_says ∷ []) tiled_says 22

abbrev pub container_says : List Say
container_says = named (codes ", container") ∷ bytes (codes " ") 0 16 ∷ []

-- the container (section 4.9)
unfoldable pub container : Form
container = block 16 [] container_says 16

-- ranges of Adaptive-Sync of six bytes (section 4.10)
abbrev pub sync_rows : List Row
sync_rows =
    row 2 1 1 256 (number (codes ", ") 1 0 (codes " to ")) ∷
    row 3 2 1 1024 (number [] 1 1 (codes " Hz")) ∷
    row 0 1 1 2 (word (codes ", native to the panel")) ∷
    row 0 1 4 4 (words (codes ", v-total ") (codes ", fixed average v-total" ∷ codes ", fixed average and adaptive v-total" ∷ [])) ∷
    row 0 1 16 2 (word (codes ", seamless")) ∷
    row 1 1 1 256 (above (codes ", a frame at most ") 250 (codes " us longer")) ∷
    row 0 1 2 2 (word (codes ", no jitter by longer frames")) ∷
    row 5 1 1 256 (above (codes ", a frame at most ") 250 (codes " us shorter")) ∷
    row 0 1 32 2 (word (codes ", no jitter by shorter frames")) ∷
    row 0 1 64 4 (hex (codes ", reserved bits ") 64) ∷
    row 4 1 4 64 (hex (codes ", reserved bits ") 4) ∷ []

abbrev pub sync_name : List Say
sync_name = named (codes ", Adaptive-Sync") ∷ []

abbrev pub sync_says : List Say
sync_says = fields sync_rows ∷ []

-- adaptive-Sync, of ranges of so many bytes more
unfoldable pub adaptive_sync : ℕ → Form
adaptive_sync extra = list [] sync_name 0 6 extra 0 sync_says 6

abbrev pub vendor_says : List Say
vendor_says = named (codes ", of maker") ∷ bytes (codes " ") 0 3 ∷ []

-- a block of a maker (section 4.11)
unfoldable pub vendor : Form
vendor = block 3 [] vendor_says 3

-- a block of VESA
abbrev pub vesa_rows : List Row
vesa_rows =
    row 3 1 1 8 (words (codes ", structure ") (codes ", eDP" ∷ codes ", DisplayPort" ∷ [])) ∷
    row 3 1 8 16 (hex (codes ", reserved bits ") 8) ∷
    row 3 1 128 2 (words [] (codes ", sRGB by default" ∷ codes ", native colours by default" ∷ [])) ∷
    row 4 1 1 16 (above (codes ", ") 1 (codes " pixels overlap")) ∷
    row 4 1 16 2 (word (codes ", reserved bit 4")) ∷
    row 4 1 32 4 (words (codes ", streams ") ([] ∷ codes ", two streams" ∷ codes ", four streams" ∷ [])) ∷
    row 4 1 128 2 (word (codes ", reserved bit 7")) ∷ []

abbrev pub vesa_says : List Say
vesa_says = named (codes ", of VESA") ∷ fields vesa_rows ∷ []

-- a block of VESA
unfoldable pub vesa : Form
vesa = block 5 [] vesa_says 5
