-- An HDMI block in words (HDMI 1.4, section 8.3.2): after the physical address a word for each flag and each value of its bytes.
use Rattle.std.specs.Prelude.{ℕ, ◌+◌, ◌*◌, ◌/◌, ◌%◌, ◌==◌, ◌&&◌, ◌||◌, nat_le, Bool, true, false, if◌then◌else◌, List, [], ◌∷◌, ◌++◌, codes, Option, Some, None, Result, Ok, Err}
use Rattle.std.specs.Option.{is_some}
use Rattle.std.specs.Str.{bytes_eq}
use Rattle.text_core.specs.Number.{number_of}
use Rattle.edid_spelling.specs.Rows.{first_of, others_of}
use Rattle.edid_spelling.specs.declared.hdmi.Delays.{Delays}
use Rattle.edid_spelling.specs.declared.hdmi.Flag.{Flag as FlagValue}
use Rattle.edid_spelling.specs.declared.hdmi.Flag.TheVariants.{Ai, Deep30, Deep36, Deep48, Deep444, DualLink, Graphics, Photo, Cinema, Game, Stereo, Format1, Format2, Format3, Format4}
use Rattle.edid_spelling.specs.declared.hdmi.HdmiRow.{HdmiRow as CodeRow}
use Rattle.edid_spelling.specs.declared.hdmi.Said.{Said}
use Rattle.edid_spelling.specs.declared.hdmi.HdmiWord.{HdmiWord}
use Rattle.edid_spelling.specs.declared.hdmi.HdmiWord.TheVariants.{Flag, Clock, Latency}
use Rattle.edid_spelling.specs.declared.hdmi.Scan.{Scan}
use Rattle.edid_spelling.specs.declared.hdmi.Scan.TheVariants.{Progressive, Interlaced}

-- ---- the words

-- a word, and what it says
pub record HdmiRow : Type 0 where
  pub word : List ℕ
  pub says : HdmiWord

abbrev pub hdmi_row : List ℕ → HdmiWord → HdmiRow
hdmi_row word says = record { word = word; says = says }

-- the same of the code
abbrev pub hdmi_row_in_code : CodeRow → HdmiRow
hdmi_row_in_code r = hdmi_row r.word.now r.says

-- the words in the order in which they stand
unfoldable pub hdmi_rows : List HdmiRow
hdmi_rows =
    hdmi_row (codes "ai") (Flag Ai) ∷
    hdmi_row (codes "30-bit") (Flag Deep30) ∷
    hdmi_row (codes "36-bit") (Flag Deep36) ∷
    hdmi_row (codes "48-bit") (Flag Deep48) ∷
    hdmi_row (codes "y444") (Flag Deep444) ∷
    hdmi_row (codes "dvi-dual") (Flag DualLink) ∷
    hdmi_row (codes "tmds") Clock ∷
    hdmi_row (codes "graphics-content") (Flag Graphics) ∷
    hdmi_row (codes "photo-content") (Flag Photo) ∷
    hdmi_row (codes "cinema-content") (Flag Cinema) ∷
    hdmi_row (codes "game-content") (Flag Game) ∷
    hdmi_row (codes "latency") (Latency Progressive) ∷
    hdmi_row (codes "interlaced-latency") (Latency Interlaced) ∷
    hdmi_row (codes "3d-present") (Flag Stereo) ∷
    hdmi_row (codes "vic-1") (Flag Format1) ∷
    hdmi_row (codes "vic-2") (Flag Format2) ∷
    hdmi_row (codes "vic-3") (Flag Format3) ∷
    hdmi_row (codes "vic-4") (Flag Format4) ∷ []

abbrev pub with_flag : FlagValue → Said → Said
with_flag Ai s = record s { supports_ai = true }
with_flag Deep30 s = record s { deep_30 = true }
with_flag Deep36 s = record s { deep_36 = true }
with_flag Deep48 s = record s { deep_48 = true }
with_flag Deep444 s = record s { deep_444 = true }
with_flag DualLink s = record s { dual_link = true }
with_flag Graphics s = record s { graphics = true }
with_flag Photo s = record s { photo = true }
with_flag Cinema s = record s { cinema = true }
with_flag Game s = record s { game = true }
with_flag Stereo s = record s { stereo = true }
with_flag Format1 s = record s { format_1 = true }
with_flag Format2 s = record s { format_2 = true }
with_flag Format3 s = record s { format_3 = true }
with_flag Format4 s = record s { format_4 = true }

-- no words
abbrev pub nothing : Said
nothing = record {
  supports_ai = false;
  deep_30 = false;
  deep_36 = false;
  deep_48 = false;
  deep_444 = false;
  dual_link = false;
  max_clock = 0;
  graphics = false;
  photo = false;
  cinema = false;
  game = false;
  latencies = None;
  interlaced_latencies = None;
  stereo = false;
  format_1 = false;
  format_2 = false;
  format_3 = false;
  format_4 = false;
}

-- ---- the values after a word

-- a multiple of 5 MHz, 5 to 1275
abbrev pub clock_of : Option ℕ → Option ℕ
clock_of None = None
clock_of (Some clock) = if (clock % 5 == 0) && nat_le 1 clock && nat_le clock 1275 then Some (clock / 5) else None

-- an even number of ms, at most 500: half of it, and 1
abbrev pub time_byte : Option ℕ → Option ℕ
time_byte None = None
time_byte (Some time) = if (time % 2 == 0) && nat_le time 500 then Some (time / 2 + 1) else None

-- 0: not known; 255: there is no video, or no sound
abbrev pub delay_of : List ℕ → Option ℕ
delay_of word =
    if bytes_eq word (codes "unknown") then Some 0
    else if bytes_eq word (codes "none") then Some 255
    else time_byte (number_of word)

abbrev pub delays_by : Option ℕ → Option ℕ → Result Delays ℕ
delays_by None audio = Err 0
delays_by (Some video) None = Err 1
delays_by (Some video) (Some audio) = Ok (record { video = video; audio = audio })

-- of video and of its sound, or which of the words is at fault
abbrev pub delays_of : List ℕ → List ℕ → Result Delays ℕ
delays_of video audio = delays_by (delay_of video) (delay_of audio)

-- the latencies of this video
abbrev pub with_delays : Scan → Delays → Said → Said
with_delays Progressive delays s = record s { latencies = Some delays }
with_delays Interlaced delays s = record s { interlaced_latencies = Some delays }

-- ---- all words

abbrev pub after_clock : ℕ → Option ℕ → (ℕ → Result Said ℕ) → Result Said ℕ
after_clock number None on = Err (number + 1)
after_clock number (Some clock) on = on clock

abbrev pub after_delays : ℕ → Result Delays ℕ → (Delays → Result Said ℕ) → Result Said ℕ
after_delays number (Err word) on = Err (number + 1 + word)
after_delays number (Ok delays) on = on delays

-- A row's word with this number, and those after it, of which the rows' values are taken off: what on says of the others.
abbrev pub said_by_row : HdmiWord → Said → ℕ → List (List ℕ) → (Said → ℕ → List (List ℕ) → Result Said ℕ) → Result Said ℕ
said_by_row (Flag flag) s number words on = on (with_flag flag s) (number + 1) words
said_by_row Clock s number words on =
    after_clock number (clock_of (number_of (first_of words))) (λ clock. on (record s { max_clock = clock }) (number + 2) (others_of words))
said_by_row (Latency scan) s number words on =
    after_delays number (delays_of (first_of words) (first_of (others_of words))) (λ d. on (with_delays scan d s) (number + 3) (others_of (others_of words)))

-- What these words say beside what is said, in the order of the rows, or the number of the word at fault; the first has this number.
abbrev pub said_from : List HdmiRow → Said → ℕ → List (List ℕ) → Result Said ℕ
said_from rows s number [] = Ok s
said_from [] s number (word ∷ words) = Err number
said_from (r ∷ rows) s number (word ∷ words) =
    if bytes_eq word r.word then said_by_row r.says s number words (λ t n rest. said_from rows t n rest) else said_from rows s number (word ∷ words)

-- ---- the bytes

abbrev pub weight : Bool → ℕ → ℕ
weight is_set amount = if is_set then amount else 0

-- byte 6
abbrev pub capabilities : Said → ℕ
capabilities s = weight s.supports_ai 128 + weight s.deep_48 64 + weight s.deep_36 32 + weight s.deep_30 16 + weight s.deep_444 8 + weight s.dual_link 1

abbrev pub has_video : Said → Bool
has_video s = s.stereo || s.format_1 || s.format_2 || s.format_3 || s.format_4

-- byte 8: the types of content, and which of the bytes after it are there
abbrev pub contents : Said → ℕ
contents s = weight s.game 8 + weight s.cinema 4 + weight s.photo 2 + weight s.graphics 1

abbrev pub presence : Said → ℕ
presence s = weight (is_some s.latencies) 128 + weight (is_some s.interlaced_latencies) 64 + weight (has_video s) 32 + contents s

-- bytes 6 to 8, without those at the end that are 0, but for byte 6
abbrev pub head_bytes : ℕ → ℕ → ℕ → List ℕ
head_bytes first clock presence =
    if presence == 0 then (if clock == 0 then first ∷ [] else first ∷ clock ∷ []) else first ∷ clock ∷ presence ∷ []

abbrev pub delay_bytes : Option Delays → List ℕ
delay_bytes None = []
delay_bytes (Some d) = d.video ∷ d.audio ∷ []

-- HDMI's own codes
abbrev pub format_bytes : Bool → ℕ → List ℕ
format_bytes is_set format = if is_set then format ∷ [] else []

abbrev pub formats_of : Said → List ℕ
formats_of s = format_bytes s.format_1 1 ++ (format_bytes s.format_2 2 ++ (format_bytes s.format_3 3 ++ format_bytes s.format_4 4))

abbrev pub format_count : Said → ℕ
format_count s = weight s.format_1 1 + weight s.format_2 1 + weight s.format_3 1 + weight s.format_4 1

-- 3D_present; HDMI_VIC_LEN and no byte of 3D; the codes
abbrev pub video_bytes : Said → List ℕ
video_bytes s = if has_video s then weight s.stereo 128 ∷ 32 * format_count s ∷ formats_of s else []

-- what stands after the physical address
abbrev pub hdmi_bytes : Said → List ℕ
hdmi_bytes s = head_bytes (capabilities s) s.max_clock (presence s) ++ (delay_bytes s.latencies ++ (delay_bytes s.interlaced_latencies ++ video_bytes s))

abbrev pub bytes_said : Result Said ℕ → Result (List ℕ) ℕ
bytes_said (Ok s) = Ok (hdmi_bytes s)
bytes_said (Err number) = Err number

-- The bytes of the words after the address, of which the first has the number 2, or the number of the word at fault.
abbrev pub hdmi_of : List (List ℕ) → Result (List ℕ) ℕ
hdmi_of words = bytes_said (said_from hdmi_rows nothing 2 words)
