-- The devices at logical addresses, in words (HDMI 1.4, CEC 10.2, table 5; the words for those without a name are own).
use Rattle.std.specs.Prelude.{ℕ, ◌/◌, ◌%◌, ◌==◌, if◌then◌else◌, List, codes}

unfoldable pub address_name : ℕ → List ℕ
address_name address =
    if address == 0 then codes "TV" else (
    if address == 1 then codes "Recording Device 1" else (
    if address == 2 then codes "Recording Device 2" else (
    if address == 3 then codes "Tuner 1" else (
    if address == 4 then codes "Playback Device 1" else (
    if address == 5 then codes "Audio System" else (
    if address == 6 then codes "Tuner 2" else (
    if address == 7 then codes "Tuner 3" else (
    if address == 8 then codes "Playback Device 2" else (
    if address == 9 then codes "Recording Device 3" else (
    if address == 10 then codes "Tuner 4" else (
    if address == 11 then codes "Playback Device 3" else (
    if address == 12 then codes "the reserved address 12" else (
    if address == 13 then codes "the reserved address 13" else (
    if address == 14 then codes "Specific Use" else (
    codes "an unregistered device")))))))))))))))

-- who sends a frame of this header: the upper four bits
abbrev pub sender : ℕ → List ℕ
sender header = address_name (header / 16)

-- to whom it goes: the lower four bits, of which 15 is a broadcast
abbrev pub receiver : ℕ → List ℕ
receiver header = if header % 16 == 15 then codes "all devices" else address_name (header % 16)
