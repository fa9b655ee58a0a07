-- What the bytes of an ELD say, each part at its offset (High Definition Audio 1.0a, 7.3.3.34.1), and when bytes are no ELD. The order of refusals is own.
use Rattle.std.specs.Prelude.{◌≡◌, ℕ, ◌+◌, ◌*◌, ◌/◌, ◌%◌, ◌==◌, Bool, ◌||◌, not, nat_lt, List, length, get_or, take, drop, Option, Some, None, if◌then◌else◌}
use Rattle.edid_eld.specs.Eld.{Parts, eld_bytes}
use Rattle.edid_eld.specs.declared.codes.Connection.{Connection}
use Rattle.edid_eld.specs.declared.codes.Connection.TheVariants.{Hdmi, DisplayPort, Reserved2, Reserved3}
use Rattle.edid_eld.specs.declared.codes.EldVersion.{EldVersion}
use Rattle.edid_eld.specs.declared.codes.EldVersion.TheVariants.{Cta861D, Partial}
use Rattle.edid_eld.specs.declared.reading.EldError.{EldError}
use Rattle.edid_eld.specs.declared.reading.EldError.TheVariants.{Short, Version, Cut, Name, Parts as NoRoom}

abbrev pub byte : List ℕ → ℕ → ℕ
byte b i = get_or b i 0

-- ELD_Ver: 2 is CEA-861-D and below, 31 an ELD that is filled in part
abbrev pub version_at : ℕ → EldVersion
version_at n = if n == 31 then Partial else Cta861D

abbrev pub is_version : ℕ → Bool
is_version n = (n == 2) || (n == 31)

abbrev pub connection_at : ℕ → Connection
connection_at n = if n == 0 then Hdmi else (if n == 1 then DisplayPort else (if n == 2 then Reserved2 else Reserved3))

-- MNL, and the bytes of SAD_Count descriptors
abbrev pub name_len : List ℕ → ℕ
name_len b = byte b 4 % 32

abbrev pub audio_len : List ℕ → ℕ
audio_len b = 3 * (byte b 5 / 16)

-- what the bytes say
abbrev pub parts_at : List ℕ → Parts
parts_at b =
    record {
      version = version_at (byte b 0 / 8);
      cta_version = byte b 4 / 32;
      connection = connection_at (byte b 5 / 4 % 4);
      ai = byte b 5 / 2 % 2 == 1;
      hdcp = byte b 5 % 2 == 1;
      delay = byte b 6;
      speakers = byte b 7;
      port = take 8 (drop 8 b);
      maker = take 2 (drop 16 b);
      product = byte b 18 + 256 * byte b 19;
      name = take (name_len b) (drop 20 b);
      audio = take (audio_len b) (drop (20 + name_len b) b);
    }

-- the header, and the baseline block as long as it says
abbrev pub stated_len : List ℕ → ℕ
stated_len b = 4 + 4 * byte b 2

-- why bytes are no ELD: the first of these that applies
abbrev pub refusal : List ℕ → Option EldError
refusal b =
    if nat_lt (length b) 20 then Some Short
    else (if not (is_version (byte b 0 / 8)) then Some Version
    else (if nat_lt (length b) (stated_len b) then Some Cut
    else (if nat_lt 16 (name_len b) then Some Name
    else (if nat_lt (stated_len b) (20 + name_len b + audio_len b) then Some NoRoom else None))))

-- the bytes of these parts are an ELD, and say these parts
abbrev pub IsReadBack : Parts → Type 0
IsReadBack p = (refusal (eld_bytes p) ≡ None) × (parts_at (eld_bytes p) ≡ p)
