-- What the words of payloads name, as the bytes are read (own).
use Rattle.std.specs.Prelude.{ℕ, ◌+◌, ◌-◌, ◌==◌, Bool, if◌then◌else◌, List, [], ◌∷◌, length, take, Option, Some, None}
use Rattle.std.specs.Int.{bit_at}
use Rattle.edid_layout.specs.HdmiBlock.{delay_of, listed_codes}
use Rattle.edid_layout.specs.declared.hdmi_block.HdmiBlock.{HdmiBlock}
use Rattle.edid_layout.specs.declared.hdmi_block.HdmiVideo.{HdmiVideo}
use Rattle.edid_layout.specs.declared.hdmi_block.Latencies.{Latencies}
use Rattle.edid_spelling.specs.Hdmi.{contents, format_count, has_video, weight}
use Rattle.edid_spelling.specs.Rows.{Row}
use Rattle.edid_spelling.specs.Video.{is_marked}
use Rattle.edid_spelling.specs.declared.hdmi.Delays.{Delays}
use Rattle.edid_spelling.specs.declared.hdmi.Said.{Said}

-- a code in decimal, without its `*`
abbrev pub digits_of : List ℕ → List ℕ
digits_of word = if is_marked word then take (length word - 1) word else word

abbrev pub named_delays : Option Delays → Option Latencies
named_delays None = None
named_delays (Some d) = Some (record { video = delay_of d.video; audio = delay_of d.audio })

-- so many of HDMI's own codes, and nothing of 3D but that it is there
abbrev pub video_named : Bool → ℕ → HdmiVideo
video_named stereo count = record { has_stereo = stereo; multi = 0; image_size = 0; reserved = 0; codes = count; stereo = 0 }

abbrev pub named_video : Bool → Bool → ℕ → Option HdmiVideo
named_video is_there stereo count = if is_there then Some (video_named stereo count) else None

abbrev pub named_block : Said → HdmiBlock
named_block s = record {
  supports_ai = s.supports_ai;
  deep_colours = weight s.deep_48 4 + weight s.deep_36 2 + weight s.deep_30 1;
  has_deep_444 = s.deep_444;
  reserved = 0;
  has_dual_link = s.dual_link;
  max_clock = s.max_clock;
  contents = contents s;
  latencies = named_delays s.latencies;
  interlaced_latencies = named_delays s.interlaced_latencies;
  video = named_video (has_video s) s.stereo (format_count s);
}

-- HDMI's own codes, of the bytes from the video formats on
abbrev pub named_codes : Said → List ℕ → List ℕ
named_codes s bytes = if has_video s then listed_codes (video_named s.stereo (format_count s)) bytes else []

-- ---- speakers

-- the words of the rows whose bits are set, from the row of this bit on
abbrev pub words_set : ℕ → List Row → ℕ → List (List ℕ)
words_set place [] bits = []
words_set place (r ∷ rows) bits = if bit_at bits place == 1 then r.word ∷ words_set (place + 1) rows bits else words_set (place + 1) rows bits
