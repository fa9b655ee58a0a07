-- How the bytes of a row stand in its text (own).
use Rattle.std.specs.Prelude.{ℕ, ◌==◌, not, Bool, List, take, position, Option}
use Rattle.std.specs.Char.{is_ascii_hexdigit}
use Rattle.edid_dump.specs.declared.digits.Column.TheVariants.{Absent}
use Rattle.edid_dump.specs.declared.readings.Ending.{Ending}
use Rattle.edid_dump.specs.declared.readings.Ending.TheVariants.{Sixteen, Tag, Other}
use Rattle.edid_dump.specs.declared.readings.Reading.{Reading}
use Rattle.edid_dump.specs.declared.readings.Reading.TheVariants.{InPairs, UpTo, InCode, InWords, InRecord}
use Rattle.edid_dump.specs.Digits.{pairs}
use Rattle.edid_dump.specs.Records.{record_data}
use Rattle.edid_dump.specs.Remarks.{code_bytes}
use Rattle.edid_dump.specs.Spelled.{spelled, up_to}

abbrev pub is_other : ℕ → Bool
is_other b = not (is_ascii_hexdigit b)

-- the pairs of a text: sixteen of them one blank apart; those before `<`, or before what is no digit
abbrev pub shown : Ending → List ℕ → List ℕ
shown Sixteen text = take 47 text
shown Tag text = up_to (position (λ b. b == 60) text) text
shown Other text = up_to (position is_other text) text

-- the bytes of a text
abbrev pub read_by : Reading → List ℕ → Option (List ℕ)
read_by (InPairs column) text = pairs column text
read_by (UpTo ending) text = pairs Absent (shown ending text)
read_by InCode text = code_bytes text
read_by (InWords spelling) text = spelled spelling text
read_by InRecord text = record_data text
