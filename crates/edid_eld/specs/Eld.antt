-- EDID-like data: its parts, and the bytes that they make (High Definition Audio 1.0a, 7.3.3.34.1, ELD memory structure; include/drm/drm_eld.h of Linux has the same offsets).
use Rattle.std.specs.Prelude.{ℕ, ◌+◌, ◌-◌, ◌*◌, ◌/◌, ◌%◌, Bool, List, [], ◌∷◌, ◌++◌, length, replicate}
use Rattle.edid_eld.specs.Codes.{bit, connection_number, version_number}
use Rattle.edid_eld.specs.declared.codes.Connection.{Connection}
use Rattle.edid_eld.specs.declared.codes.EldVersion.{EldVersion}
use Rattle.edid_eld.specs.declared.eld.Eld.{Eld}

-- what an ELD says; `audio` is its short audio descriptors, three bytes each
pub record Parts : Type 0 where
  pub version : EldVersion
  pub cta_version : ℕ
  pub connection : Connection
  pub ai : Bool
  pub hdcp : Bool
  pub delay : ℕ
  pub speakers : ℕ
  pub port : List ℕ
  pub maker : List ℕ
  pub product : ℕ
  pub name : List ℕ
  pub audio : List ℕ

abbrev pub parts_of : Eld → Parts
parts_of e =
    record {
      version = e.version;
      cta_version = e.cta_version;
      connection = e.connection;
      ai = e.ai;
      hdcp = e.hdcp;
      delay = e.delay;
      speakers = e.speakers;
      port = e.port;
      maker = e.maker;
      product = e.product;
      name = e.name.items;
      audio = e.audio.items;
    }

-- ---- the bytes

-- the baseline block without padding: sixteen bytes, the name, and the descriptors
abbrev pub block_len : Parts → ℕ
block_len p = 16 + length p.name + length p.audio

-- the same in units of four bytes, the last of which may be padded
abbrev pub block_units : Parts → ℕ
block_units p = (block_len p + 3) / 4

-- ELD_Ver in the top five bits; Baseline_ELD_Len; two reserved bytes
abbrev pub header_bytes : Parts → List ℕ
header_bytes p = (version_number p.version * 8) ∷ 0 ∷ block_units p ∷ 0 ∷ []

-- CEA_EDID_Ver and MNL
abbrev pub name_byte : Parts → ℕ
name_byte p = p.cta_version * 32 + length p.name

-- SAD_Count, Conn_Type, Support_AI and HDCP
abbrev pub audio_byte : Parts → ℕ
audio_byte p = length p.audio / 3 * 16 + connection_number p.connection * 4 + bit p.ai * 2 + bit p.hdcp

-- these, Aud_Synch_Delay in units of 2 ms, the speaker allocation, Port_ID, the manufacturer's name and product code as in an EDID
abbrev pub fixed_bytes : Parts → List ℕ
fixed_bytes p = name_byte p ∷ audio_byte p ∷ p.delay ∷ p.speakers ∷ (p.port ++ (p.maker ++ ((p.product % 256) ∷ (p.product / 256) ∷ [])))

-- THE bytes of an ELD: the header, and the baseline block with the name and the descriptors, padded to units of four bytes
abbrev pub eld_bytes : Parts → List ℕ
eld_bytes p = header_bytes p ++ (fixed_bytes p ++ (p.name ++ (p.audio ++ replicate (4 * block_units p - block_len p) 0)))
