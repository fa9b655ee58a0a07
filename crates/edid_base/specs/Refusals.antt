-- When 128 bytes are no base block, and why: the first reason. The header, checksum, revision and maker are those of E-EDID Release A, sections 3.3, 3.11, 3.5 and 3.4.1; the order, and that no other revision is taken, are own.
use Rattle.std.specs.Prelude.{ℕ, ◌%◌, ◌==◌, Bool, ◌&&◌, ◌||◌, not, Option, Some, None, List, slice_index, sum, if◌then◌else◌}
use Rattle.edid_base.specs.Header.{has_header}
use Rattle.edid_base.specs.Letters.{has_letters}
use Rattle.edid_base.specs.declared.base.BaseError.{BaseError}
use Rattle.edid_base.specs.declared.base.BaseError.TheVariants.{Header, Checksum, Revision, Maker}

abbrev pub has_revision : List ℕ → Bool
has_revision b = (slice_index b 18 == 1) && ((slice_index b 19 == 3) || (slice_index b 19 == 4))

abbrev pub refusal : List ℕ → Option BaseError
refusal b =
    if not (has_header b) then Some Header else (
    if not (sum b % 256 == 0) then Some Checksum else (
    if not (has_revision b) then Some Revision else (
    if not (has_letters (slice_index b 8) (slice_index b 9)) then Some Maker else None)))
