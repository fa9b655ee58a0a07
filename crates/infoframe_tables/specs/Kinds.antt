-- What an InfoFrame is by its bytes (CTA-861-H, section 6), and which of its bytes are its own.
use Rattle.std.specs.Prelude.{ℕ, ◌+◌, ◌-◌, ◌*◌, ◌%◌, ◌==◌, Bool, if◌then◌else◌, List, codes, length, slice_index, take}
use Rattle.edid_base.specs.Check.{check_of}
use Rattle.infoframe_tables.specs.declared.kinds.FrameKind.{FrameKind}
use Rattle.infoframe_tables.specs.declared.kinds.FrameKind.TheVariants.{Avi, Audio, Hdr, Hdmi, Forum, Vendor, Other}

-- a byte of the packet: HB0, HB1 and HB2 of its header, then PB0, PB1 and so on (HDMI 1.4b, section 5.3.5); one past the end is 0
abbrev pub type_of : List ℕ → ℕ
type_of frame = slice_index frame 0

abbrev pub version_of : List ℕ → ℕ
version_of frame = slice_index frame 1

-- PB0, PB1 and so on
abbrev pub packet_byte : List ℕ → ℕ → ℕ
packet_byte frame place = slice_index frame (3 + place)

-- how many data bytes there are after the checksum, by the low five bits of HB2
abbrev pub length_of : List ℕ → ℕ
length_of frame = slice_index frame 2 % 32

-- the identifier of a vendor, its lowest byte first
abbrev pub vendor_of : List ℕ → ℕ
vendor_of frame = packet_byte frame 1 + packet_byte frame 2 * 256 + packet_byte frame 3 * 65536

-- that of HDMI is 00-0C-03, that of the HDMI Forum C4-5D-D8
abbrev pub vendor_kind : ℕ → FrameKind
vendor_kind vendor = if vendor == 0x000c03 then Hdmi else if vendor == 0xc45dd8 then Forum else Vendor

-- the types of InfoFrames have bit 7 set in a packet of HDMI
abbrev pub kind_by : ℕ → ℕ → FrameKind
kind_by type vendor =
    if type == 0x81 then vendor_kind vendor
    else if type == 0x82 then Avi
    else if type == 0x84 then Audio
    else if type == 0x87 then Hdr
    else Other

abbrev pub kind_of : List ℕ → FrameKind
kind_of frame = kind_by (type_of frame) (vendor_of frame)

-- its word in the lines (own)
abbrev pub kind_word : FrameKind → List ℕ
kind_word Avi = codes "avi"
kind_word Audio = codes "audio"
kind_word Hdr = codes "hdr"
kind_word Hdmi = codes "hdmi"
kind_word Forum = codes "hdmi-forum"
kind_word Vendor = codes "vendor"
kind_word Other = codes "other"

-- ---- the bytes that its length counts

abbrev pub own_bytes : List ℕ → List ℕ
own_bytes frame = take (4 + length_of frame) frame

-- how many of them are missing, and how many follow them
abbrev pub missing_of : List ℕ → ℕ
missing_of frame = 4 + length_of frame - length frame

abbrev pub beyond_of : List ℕ → ℕ
beyond_of frame = length frame - (4 + length_of frame)

-- the checksum that makes the sum of its bytes 0 modulo 256 (CTA-861-H, section 6; HDMI 1.4b, section 5.3.5)
abbrev pub checksum_due : List ℕ → ℕ
checksum_due frame = (slice_index frame 3 + check_of (own_bytes frame)) % 256

abbrev pub is_summed : List ℕ → Bool
is_summed frame = slice_index frame 3 == checksum_due frame
