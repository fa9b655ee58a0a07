-- The data blocks of DisplayID 1.3 (section 4), by the bytes of their payloads.
use Rattle.std.specs.Prelude.{ℕ, List, [], ◌∷◌, codes}
use Rattle.meaning_fields.specs.Fields.{Row, row, word, words, number, above, hex, share}
use Rattle.meaning_displayid.specs.Timings.{front_text}
use Rattle.meaning_displayid.specs.Forms.{Form, Say, named, fields, bits, text, bytes, block, list}

-- product identification (section 4.1), after the maker
abbrev pub product_rows : List Row
product_rows =
    row 3 2 1 65536 (number (codes ", code ") 1 0 []) ∷
    row 5 4 1 4294967296 (above (codes ", serial number ") 1 []) ∷
    row 9 1 1 256 (above (codes ", week ") 1 []) ∷
    row 10 1 1 256 (number (codes " of ") 1 2000 []) ∷ []

abbrev pub product_says : List Say
product_says = named (codes ", product") ∷ text (codes " of ") 0 3 ∷ fields product_rows ∷ text (codes ", ") 12 116 ∷ []

-- product identification
unfoldable pub product : Form
product = block 12 [] product_says 128

-- display parameters (section 4.2)
abbrev pub parameter_rows : List Row
parameter_rows =
    row 0 2 1 65536 (number (codes ", ") 1 0 (codes " x ")) ∷
    row 2 2 1 65536 (number [] 1 0 (codes " in tenths of 1 mm")) ∷
    row 4 2 1 65536 (number (codes ", ") 1 0 (codes "x")) ∷
    row 6 2 1 65536 (number [] 1 0 (codes " pixels")) ∷
    row 8 1 128 2 (word (codes ", audio")) ∷
    row 8 1 64 2 (word (codes ", separate audio")) ∷
    row 8 1 32 2 (word (codes ", audio override")) ∷
    row 8 1 16 2 (word (codes ", power management")) ∷
    row 8 1 8 2 (word (codes ", fixed timing")) ∷
    row 8 1 4 2 (word (codes ", fixed format")) ∷
    row 8 1 2 2 (word (codes ", AI")) ∷
    row 8 1 1 2 (word (codes ", deinterlacing")) ∷
    row 9 1 1 256 (number (codes ", gamma code ") 1 0 []) ∷
    row 10 1 1 256 (share (codes ", aspect ") 100 100) ∷
    row 11 1 1 16 (number (codes ", native ") 1 1 (codes " bits a colour")) ∷
    row 11 1 16 16 (number (codes ", overall ") 1 1 (codes " bits a colour")) ∷ []

abbrev pub parameter_says : List Say
parameter_says = named (codes ", parameters") ∷ fields parameter_rows ∷ []

-- display parameters
unfoldable pub parameters : Form
parameters = block 12 [] parameter_says 12

-- colour characteristics (section 4.3)
abbrev pub colour_rows : List Row
colour_rows =
    row 0 1 128 2 (words [] (codes ", spatial" ∷ codes ", temporal" ∷ [])) ∷
    row 0 1 16 8 (number (codes ", ") 1 0 (codes " primaries")) ∷
    row 0 1 1 16 (number (codes ", ") 1 0 (codes " white points")) ∷ []

-- a colour space in the place of primaries
abbrev pub space_rows : List Row
space_rows =
    row 1 1 1 256 (words (codes ", colour space ") (codes ", sRGB" ∷ codes ", BT.601" ∷ codes ", BT.709" ∷ codes ", Adobe RGB" ∷ codes ", DCI-P3" ∷ codes ", NTSC" ∷ codes ", EBU" ∷ codes ", Adobe Wide Gamut RGB" ∷ codes ", DICOM" ∷ [])) ∷ []

-- a chromaticity, in units of 2^-12
abbrev pub point_rows : List Row
point_rows =
    row 0 2 1 4096 (share (codes ", ") 0 4096) ∷
    row 1 2 16 4096 (share (codes " ") 0 4096) ∷ []

abbrev pub colour_says : List Say
colour_says = named (codes ", colours") ∷ fields colour_rows ∷ []

abbrev pub space_says : List Say
space_says = named (codes ", colours") ∷ fields colour_rows ∷ fields space_rows ∷ []

abbrev pub point_says : List Say
point_says = fields point_rows ∷ []

-- colour characteristics
unfoldable pub colours : Form
colours = list [] colour_says 1 3 0 0 point_says 3

-- colour characteristics of a colour space
unfoldable pub space : Form
space = list [] space_says 2 3 0 0 point_says 3

-- timings of 20 bytes (section 4.4.1)
abbrev pub timing_rows : List Row
timing_rows =
    row 6 2 1 65536 (number (codes ", h blanking ") 1 1 []) ∷
    row 8 2 1 32768 (number (codes ", offset ") 1 1 []) ∷
    row 10 2 1 65536 (number (codes ", width ") 1 1 []) ∷
    row 9 1 128 2 (words [] (codes ", -h" ∷ codes ", +h" ∷ [])) ∷
    row 14 2 1 65536 (number (codes ", v blanking ") 1 1 []) ∷
    row 16 2 1 32768 (number (codes ", offset ") 1 1 []) ∷
    row 18 2 1 65536 (number (codes ", width ") 1 1 []) ∷
    row 17 1 128 2 (words [] (codes ", -v" ∷ codes ", +v" ∷ [])) ∷
    row 3 1 128 2 (word (codes ", preferred")) ∷
    row 3 1 32 4 (words (codes ", stereo ") ([] ∷ codes ", stereo" ∷ codes ", stereo by the user" ∷ [])) ∷
    row 3 1 16 2 (word (codes ", interlaced")) ∷
    row 3 1 1 16 (words (codes ", aspect ") (codes ", 1:1" ∷ codes ", 5:4" ∷ codes ", 4:3" ∷ codes ", 15:9" ∷ codes ", 16:9" ∷ codes ", 16:10" ∷ codes ", 64:27" ∷ codes ", 256:135" ∷ [] ∷ [])) ∷ []

abbrev pub timing_says : List Say
timing_says = named (codes ", ") ∷ front_text 10 ∷ fields timing_rows ∷ []

-- timings of type I
unfoldable pub timings_i : Form
timings_i = list [] [] 0 20 0 0 timing_says 20

-- timings of 11 bytes (section 4.4.2)
abbrev pub type_2_rows : List Row
type_2_rows =
    row 4 2 1 512 (number (codes ", ") 8 8 (codes "x")) ∷
    row 7 2 1 4096 (number [] 1 1 []) ∷
    row 0 3 1 16777216 (number (codes ", ") 10 10 (codes " kHz")) ∷
    row 5 1 2 128 (number (codes ", h blanking ") 8 8 []) ∷
    row 6 1 16 16 (number (codes ", offset ") 8 8 []) ∷
    row 6 1 1 16 (number (codes ", width ") 8 8 []) ∷
    row 3 1 8 2 (words [] (codes ", -h" ∷ codes ", +h" ∷ [])) ∷
    row 9 1 1 256 (number (codes ", v blanking ") 1 1 []) ∷
    row 10 1 16 16 (number (codes ", offset ") 1 1 []) ∷
    row 10 1 1 16 (number (codes ", width ") 1 1 []) ∷
    row 3 1 4 2 (words [] (codes ", -v" ∷ codes ", +v" ∷ [])) ∷
    row 3 1 128 2 (word (codes ", preferred")) ∷
    row 3 1 32 4 (words (codes ", stereo ") ([] ∷ codes ", stereo" ∷ codes ", stereo by the user" ∷ [])) ∷
    row 3 1 16 2 (word (codes ", interlaced")) ∷ []

abbrev pub type_2_says : List Say
type_2_says = fields type_2_rows ∷ []

-- timings of type II
unfoldable pub timings_ii : Form
timings_ii = list [] [] 0 11 0 0 type_2_says 11

-- timings of three bytes (section 4.4.3)
abbrev pub type_3_rows : List Row
type_3_rows =
    row 1 1 1 256 (number (codes ", ") 8 8 (codes " pixels a line")) ∷
    row 2 1 1 128 (number (codes " at ") 1 1 (codes " Hz")) ∷
    row 0 1 16 8 (words (codes ", formula ") (codes ", CVT" ∷ codes ", CVT with reduced blanking" ∷ [])) ∷
    row 0 1 1 16 (words (codes ", aspect ") (codes ", 1:1" ∷ codes ", 5:4" ∷ codes ", 4:3" ∷ codes ", 15:9" ∷ codes ", 16:9" ∷ codes ", 16:10" ∷ codes ", 64:27" ∷ codes ", 256:135" ∷ [] ∷ [])) ∷
    row 2 1 128 2 (word (codes ", interlaced")) ∷
    row 0 1 128 2 (word (codes ", preferred")) ∷ []

abbrev pub type_3_says : List Say
type_3_says = fields type_3_rows ∷ []

-- timings of type III
unfoldable pub timings_iii : Form
timings_iii = list [] [] 0 3 0 0 type_3_says 3

-- a code of a byte
abbrev pub dmt_rows : List Row
dmt_rows =
    row 0 1 1 256 (hex (codes ", DMT ") 1) ∷ []

abbrev pub dmt_says : List Say
dmt_says = fields dmt_rows ∷ []

-- timings by DMT codes (section 4.4.4)
unfoldable pub dmt_codes : Form
dmt_codes = list [] [] 0 1 0 0 dmt_says 1

-- a code of a byte
abbrev pub vic_rows : List Row
vic_rows =
    row 0 1 1 256 (number (codes ", VIC ") 1 0 []) ∷ []

abbrev pub vic_says : List Say
vic_says = fields vic_rows ∷ []

-- timings by video codes (section 4.4.4)
unfoldable pub vic_codes : Form
vic_codes = list [] [] 0 1 0 0 vic_says 1

-- a code of a byte
abbrev pub hdmi_vic_rows : List Row
hdmi_vic_rows =
    row 0 1 1 256 (number (codes ", HDMI VIC ") 1 0 []) ∷ []

abbrev pub hdmi_vic_says : List Say
hdmi_vic_says = fields hdmi_vic_rows ∷ []

-- timings by HDMI's video codes (section 4.4.4)
unfoldable pub hdmi_vic_codes : Form
hdmi_vic_codes = list [] [] 0 1 0 0 hdmi_vic_says 1

-- range limits (section 4.5)
abbrev pub limit_rows : List Row
limit_rows =
    row 0 3 1 16777216 (number (codes ", ") 10 10 (codes " to ")) ∷
    row 3 3 1 16777216 (number [] 10 10 (codes " kHz")) ∷
    row 6 1 1 256 (number (codes ", lines at ") 1 0 (codes " to ")) ∷
    row 7 1 1 256 (number [] 1 0 (codes " kHz")) ∷
    row 8 2 1 65536 (number (codes ", blanking of ") 1 0 (codes " pixels")) ∷
    row 10 1 1 256 (number (codes ", ") 1 0 (codes " to ")) ∷
    row 11 1 1 256 (number [] 1 0 (codes " Hz")) ∷
    row 12 2 1 65536 (number (codes ", blanking of ") 1 0 (codes " lines")) ∷
    row 14 1 128 2 (word (codes ", interlaced")) ∷
    row 14 1 64 2 (word (codes ", CVT")) ∷
    row 14 1 32 2 (word (codes ", CVT with reduced blanking")) ∷
    row 14 1 16 2 (word (codes ", discrete frequencies")) ∷
    row 14 1 1 16 (hex (codes ", reserved bits ") 1) ∷ []

abbrev pub limit_says : List Say
limit_says = named (codes ", range limits") ∷ fields limit_rows ∷ []

-- range limits
unfoldable pub limits : Form
limits = block 15 [] limit_says 15

abbrev pub serial_says : List Say
serial_says = named (codes ", serial number: ") ∷ text [] 0 128 ∷ []

-- a serial number (section 4.6)
unfoldable pub serial : Form
serial = block 1 [] serial_says 128

abbrev pub string_says : List Say
string_says = named (codes ", text: ") ∷ text [] 0 128 ∷ []

-- a text (section 4.7)
unfoldable pub string : Form
string = block 1 [] string_says 128

-- the display device (section 4.8)
abbrev pub device_rows : List Row
device_rows =
    row 0 1 16 16 (words (codes ", technology ") (codes ", CRT" ∷ codes ", LCD" ∷ codes ", plasma" ∷ codes ", electroluminescent" ∷ codes ", inorganic LED" ∷ codes ", organic LED" ∷ codes ", field emission" ∷ codes ", electrophoretic" ∷ codes ", electrochromic" ∷ codes ", electromechanical" ∷ codes ", electrowetting" ∷ [] ∷ [] ∷ [] ∷ [] ∷ codes ", other technology" ∷ [])) ∷
    row 0 1 1 16 (above (codes ", kind ") 1 []) ∷
    row 1 1 16 16 (words (codes ", operation ") (codes ", reflective, ambient light" ∷ codes ", reflective, ambient light or its own" ∷ codes ", reflective, its own light" ∷ codes ", transmissive, ambient light" ∷ codes ", transmissive, ambient light or its own" ∷ codes ", transmissive, its own light" ∷ codes ", emissive" ∷ codes ", transflective, backlight off by default" ∷ codes ", transflective, backlight on by default" ∷ codes ", transparent, ambient light" ∷ codes ", transparent, emissive" ∷ codes ", projection by reflection" ∷ codes ", projection by transmission" ∷ codes ", projection by emission" ∷ [])) ∷
    row 1 1 8 2 (word (codes ", backlight can be switched")) ∷
    row 1 1 4 2 (word (codes ", backlight can be dimmed")) ∷
    row 1 1 1 4 (hex (codes ", reserved bits ") 1) ∷
    row 2 2 1 65536 (number (codes ", ") 1 1 (codes "x")) ∷
    row 4 2 1 65536 (number [] 1 1 (codes " pixels")) ∷
    row 6 1 1 256 (share (codes ", aspect ") 100 100) ∷
    row 7 1 64 4 (words [] (codes ", landscape" ∷ codes ", portrait" ∷ codes ", not fixed" ∷ codes ", orientation undefined" ∷ [])) ∷
    row 7 1 16 4 (words [] ([] ∷ codes ", turns clockwise" ∷ codes ", turns counterclockwise" ∷ codes ", turns both ways" ∷ [])) ∷
    row 7 1 4 4 (words [] (codes ", first pixel upper left" ∷ codes ", first pixel upper right" ∷ codes ", first pixel lower left" ∷ codes ", first pixel lower right" ∷ [])) ∷
    row 7 1 1 4 (words (codes ", scan ") ([] ∷ codes ", fast scan on the long axis" ∷ codes ", fast scan on the short axis" ∷ [])) ∷ []

-- its pixels
abbrev pub pixel_rows : List Row
pixel_rows =
    row 8 1 1 256 (words (codes ", layout ") (codes ", layout undefined" ∷ codes ", RGB vertical stripes" ∷ codes ", RGB horizontal stripes" ∷ codes ", vertical stripes by primaries" ∷ codes ", horizontal stripes by primaries" ∷ codes ", quads with red top left" ∷ codes ", quads with red bottom left" ∷ codes ", delta" ∷ codes ", mosaic" ∷ codes ", quads of RGB and 1 more" ∷ codes ", fives of RGB and 2 more" ∷ codes ", sixes of RGB and 3 more" ∷ codes ", PenTile" ∷ [])) ∷
    row 9 1 1 256 (number (codes ", pitch ") 1 0 (codes " x ")) ∷
    row 10 1 1 256 (number [] 1 0 (codes " hundredths of 1 mm")) ∷
    row 11 1 1 16 (number (codes ", ") 1 0 (codes " bits a colour")) ∷
    row 11 1 16 16 (hex (codes ", reserved bits ") 16) ∷
    row 12 1 128 2 (words [] (codes ", black to white" ∷ codes ", white to black" ∷ [])) ∷
    row 12 1 1 128 (number (codes " in ") 1 0 (codes " ms")) ∷ []

abbrev pub device_says : List Say
device_says = named (codes ", display device") ∷ fields device_rows ∷ []

abbrev pub pixel_says : List Say
pixel_says = fields pixel_rows ∷ []

-- the display device
unfoldable pub device : Form
device = block 13 (device_says ∷ []) pixel_says 13

-- power sequencing (section 4.9)
abbrev pub power_rows : List Row
power_rows =
    row 0 1 16 16 (number (codes ", T1 from ") 1 0 (codes " tenths of 1 ms")) ∷
    row 0 1 1 16 (number (codes " to ") 2 0 (codes " ms")) ∷
    row 1 1 1 64 (number (codes ", T2 up to ") 2 0 (codes " ms")) ∷
    row 2 1 1 64 (number (codes ", T3 up to ") 2 0 (codes " ms")) ∷
    row 3 1 1 128 (number (codes ", T4 from ") 10 0 (codes " ms")) ∷
    row 4 1 1 64 (number (codes ", T5 from ") 10 0 (codes " ms")) ∷
    row 5 1 1 64 (number (codes ", T6 from ") 10 0 (codes " ms")) ∷ []

abbrev pub power_says : List Say
power_says = named (codes ", power sequencing") ∷ fields power_rows ∷ []

-- power sequencing
unfoldable pub power : Form
power = block 6 [] power_says 6

-- transfer characteristics (section 4.10)
abbrev pub curve_rows : List Row
curve_rows =
    row 0 1 128 2 (word (codes ", the first curve is white")) ∷
    row 0 1 64 2 (word (codes ", a curve for each primary")) ∷
    row 0 1 32 2 (word (codes ", curves of four parameters")) ∷
    row 0 1 1 32 (hex (codes ", reserved bits ") 1) ∷ []

abbrev pub curve_says : List Say
curve_says = named (codes ", transfer characteristics") ∷ fields curve_rows ∷ []

-- transfer characteristics
unfoldable pub curves : Form
curves = block 1 [] curve_says 1

-- the display interface (section 4.11)
abbrev pub interface_rows : List Row
interface_rows =
    row 0 1 16 16 (words (codes ", interface ") (codes ", analog" ∷ codes ", LVDS" ∷ codes ", TMDS" ∷ codes ", RSDS" ∷ codes ", DVI-D" ∷ codes ", DVI-I analog" ∷ codes ", DVI-I digital" ∷ codes ", HDMI-A" ∷ codes ", HDMI-B" ∷ codes ", MDDI" ∷ codes ", DisplayPort" ∷ codes ", a proprietary interface" ∷ [])) ∷
    row 0 1 1 16 (number (codes ", links ") 1 0 []) ∷
    row 1 1 16 16 (number (codes ", version ") 1 0 []) ∷
    row 1 1 1 16 (number (codes ".") 1 0 []) ∷ []

-- its protection of content, and how its clock spreads
abbrev pub protection_rows : List Row
protection_rows =
    row 5 1 1 16 (words (codes ", protection ") ([] ∷ codes ", HDCP" ∷ codes ", DTCP" ∷ codes ", DPCP" ∷ [])) ∷
    row 6 1 16 16 (above (codes " ") 1 []) ∷
    row 6 1 1 16 (above (codes ".") 1 []) ∷
    row 7 1 64 4 (words (codes ", spread ") ([] ∷ codes ", down spread" ∷ codes ", centre spread" ∷ [])) ∷
    row 7 1 1 16 (above (codes " ") 1 (codes " tenths of 1 percent")) ∷ []

-- depths of RGB and of YCbCr 4:4:4
abbrev pub depths : List (List ℕ)
depths = codes " 6" ∷ codes " 8" ∷ codes " 10" ∷ codes " 12" ∷ codes " 14" ∷ codes " 16" ∷ []

-- depths of YCbCr 4:2:2 and 4:2:0
abbrev pub fewer_depths : List (List ℕ)
fewer_depths = codes " 8" ∷ codes " 10" ∷ codes " 12" ∷ codes " 14" ∷ codes " 16" ∷ []

abbrev pub interface_says : List Say
interface_says = named (codes ", display interface") ∷ fields interface_rows ∷ []

abbrev pub depth_says : List Say
depth_says = fields protection_rows ∷ bits (codes ", RGB") 2 depths (codes " bits") ∷ bits (codes ", YCbCr 4:4:4") 3 depths (codes " bits") ∷ []

abbrev pub depth_422_says : List Say
depth_422_says = bits (codes ", YCbCr 4:2:2") 4 fewer_depths (codes " bits") ∷ []

-- the first bytes of the display interface
unfoldable pub short_interface : Form
short_interface = block 3 [] interface_says 2

-- the display interface
unfoldable pub interface : Form
interface = block 10 (interface_says ∷ depth_says ∷ []) depth_422_says 8

-- the stereo interface (section 4.12)
abbrev pub stereo_rows : List Row
stereo_rows =
    row 1 1 1 256 (words (codes ", method ") (codes ", field sequential" ∷ codes ", side by side" ∷ codes ", pixels interleaved" ∷ codes ", dual interface" ∷ codes ", multi-view" ∷ codes ", stacked frames" ∷ [])) ∷ []

abbrev pub stereo_says : List Say
stereo_says = named (codes ", stereo interface") ∷ fields stereo_rows ∷ []

-- the stereo interface
unfoldable pub stereo : Form
stereo = block 2 [] stereo_says 2

-- timings of seven bytes (section 4.4.5)
abbrev pub type_5_rows : List Row
type_5_rows =
    row 2 2 1 65536 (number (codes ", ") 1 1 (codes "x")) ∷
    row 4 2 1 65536 (number [] 1 1 []) ∷
    row 6 1 1 256 (number (codes " at ") 1 1 (codes " Hz")) ∷
    row 0 1 1 4 (words (codes ", formula ") (codes ", CVT with reduced blanking of version 2" ∷ codes ", custom reduced blanking" ∷ [])) ∷
    row 0 1 16 2 (word (codes ", also at 1000/1001 of it")) ∷
    row 0 1 32 4 (words (codes ", stereo ") ([] ∷ codes ", stereo" ∷ codes ", stereo by the user" ∷ [])) ∷
    row 0 1 128 2 (word (codes ", preferred")) ∷ []

abbrev pub type_5_says : List Say
type_5_says = fields type_5_rows ∷ []

-- timings of type V
unfoldable pub timings_v : Form
timings_v = list [] [] 0 7 0 0 type_5_says 7

-- timings of 14 or 17 bytes (section 4.4.6)
abbrev pub type_6_rows : List Row
type_6_rows =
    row 3 2 1 16384 (number (codes ", ") 1 1 (codes "x")) ∷
    row 5 2 1 16384 (number [] 1 1 []) ∷
    row 0 3 1 4194304 (number (codes ", ") 1 1 (codes " kHz")) ∷
    row 7 1 1 256 (number (codes ", h blanking low ") 1 0 []) ∷
    row 8 1 1 256 (number (codes ", offset low ") 1 0 []) ∷
    row 9 1 1 256 (hex (codes ", high bits ") 1) ∷
    row 10 1 1 256 (number (codes ", width ") 1 1 []) ∷
    row 4 1 128 2 (words [] (codes ", -h" ∷ codes ", +h" ∷ [])) ∷
    row 11 1 1 256 (number (codes ", v blanking ") 1 1 []) ∷
    row 12 1 1 256 (number (codes ", offset ") 1 1 []) ∷
    row 13 1 1 16 (number (codes ", width ") 1 1 []) ∷
    row 6 1 128 2 (words [] (codes ", -v" ∷ codes ", +v" ∷ [])) ∷
    row 2 1 128 2 (word (codes ", preferred")) ∷
    row 13 1 32 4 (words (codes ", stereo ") ([] ∷ codes ", stereo" ∷ codes ", stereo by the user" ∷ [])) ∷
    row 13 1 128 2 (word (codes ", interlaced")) ∷ []

abbrev pub type_6_says : List Say
type_6_says = fields type_6_rows ∷ []

-- timings of type VI
unfoldable pub timings_vi : Form
timings_vi = list [] [] 0 14 0 3 type_6_says 14

-- the topology of tiles (section 4.13)
abbrev pub tile_rows : List Row
tile_rows =
    row 0 1 128 2 (word (codes ", in one enclosure")) ∷
    row 0 1 64 2 (word (codes ", with bezels")) ∷
    row 0 1 32 2 (hex (codes ", reserved bits ") 32) ∷
    row 0 1 8 4 (words (codes ", some alone ") ([] ∷ codes ", some alone at their place" ∷ [])) ∷
    row 0 1 1 8 (words (codes ", one alone ") ([] ∷ codes ", one alone at its place" ∷ codes ", one alone scaled" ∷ codes ", one alone cloned" ∷ [])) ∷
    row 1 1 16 16 (number (codes ", ") 1 1 (codes " across")) ∷
    row 1 1 1 16 (number (codes ", ") 1 1 (codes " down")) ∷
    row 2 1 16 16 (number (codes ", column ") 1 1 []) ∷
    row 2 1 1 16 (number (codes ", row ") 1 1 []) ∷
    row 3 1 1 256 (hex (codes ", high bits ") 1) ∷
    row 4 2 1 65536 (number (codes ", ") 1 1 (codes "x")) ∷
    row 6 2 1 65536 (number [] 1 1 (codes " pixels")) ∷ []

-- their bezels, in tenths of so many pixels, and the product
abbrev pub bezel_rows : List Row
bezel_rows =
    row 8 1 1 256 (above (codes ", bezels times ") 1 []) ∷
    row 9 1 1 256 (above (codes ", top ") 1 []) ∷
    row 10 1 1 256 (above (codes ", bottom ") 1 []) ∷
    row 11 1 1 256 (above (codes ", right ") 1 []) ∷
    row 12 1 1 256 (above (codes ", left ") 1 []) ∷ []

-- the tiled product
abbrev pub tiled_rows : List Row
tiled_rows =
    row 16 2 1 65536 (number (codes ", code ") 1 0 []) ∷
    row 18 4 1 4294967296 (above (codes ", serial number ") 1 []) ∷ []

abbrev pub tile_says : List Say
tile_says = named (codes ", tiles") ∷ fields tile_rows ∷ []

abbrev pub all_tile_says : List Say
all_tile_says = named (codes ", tiles") ∷ fields tile_rows ∷ fields bezel_rows ∷ []

abbrev pub tiled_says : List Say
tiled_says = named (codes ", of the product") ∷ text (codes " of ") 13 3 ∷ fields tiled_rows ∷ []

-- the first bytes of the topology of tiles
unfoldable pub short_tiles : Form
short_tiles = block 13 [] tile_says 8

-- the topology of tiles
unfoldable pub tiles : Form
tiles = block 22 (all_tile_says ∷ []) tiled_says 22
