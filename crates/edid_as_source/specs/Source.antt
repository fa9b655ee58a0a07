-- An EDID as a source takes it: what Linux (drm_edid) reads of one that the strict reader refuses, as an EDID that it takes.
use Rattle.std.specs.Prelude.{ℕ, ◌+◌, ◌*◌, ◌/◌, ◌%◌, ◌==◌, not, nat_lt, Option, Some, None, Result, Ok, Err, if◌then◌else◌, List, ◌++◌, length, take, drop, slice_index, sum}
use Rattle.edid_base.specs.Header.{header}
use Rattle.edid_base.specs.declared.base.BaseError.{BaseError}
use Rattle.edid_base.specs.declared.base.BaseError.TheVariants.{Header, Checksum, Revision}
use Rattle.edid_core.specs.declared.bytes.EdidError.{EdidError}
use Rattle.edid_core.specs.declared.bytes.EdidError.TheVariants.{Length, Count, Base}
use Rattle.edid_as_source.specs.Count.{extension_count}
use Rattle.edid_as_source.specs.Extensions.{blocks_taken, overridden}
use Rattle.edid_as_source.specs.Front.{mended_block, right_places}

-- the first reason why no source takes a base block: three bytes or more of its header are wrong; with the header mended its
-- checksum is; its version is not 1
abbrev pub base_refusal : List ℕ → Option BaseError
base_refusal bytes =
    if nat_lt (right_places bytes header) 6 then Some Header
    else if not (sum (header ++ take 120 (drop 8 bytes)) % 256 == 0) then Some Checksum
    else if not (slice_index bytes 18 == 1) then Some Revision
    else None

-- extensions that are counted are missing
abbrev pub count_refusal : List ℕ → Option EdidError
count_refusal bytes = if nat_lt (length bytes) (128 * extension_count bytes + 128) then Some Count else None

abbrev pub refusal_after : List ℕ → Option BaseError → Option EdidError
refusal_after bytes (Some cause) = Some (Base cause)
refusal_after bytes None = count_refusal bytes

-- the first reason why no source takes bytes: there is no block
abbrev pub refusal : List ℕ → Option EdidError
refusal bytes = if nat_lt (length bytes) 128 then Some Length else refusal_after bytes (base_refusal bytes)

-- the extensions that are counted and taken, three at most, and the base block and the override that count them
abbrev pub with_extensions : List ℕ → List ℕ → List ℕ
with_extensions bytes taken = mended_block bytes (length taken / 128) ++ overridden (length taken / 128) taken

abbrev pub source_bytes : List ℕ → List ℕ
source_bytes bytes = with_extensions bytes (blocks_taken 3 (extension_count bytes) (drop 128 bytes))

abbrev pub source_by : List ℕ → Option EdidError → Result (List ℕ) EdidError
source_by bytes (Some cause) = Err cause
source_by bytes None = Ok (source_bytes bytes)

-- the bytes of an EDID that the strict reader takes, or why no source takes them
abbrev pub as_source : List ℕ → Result (List ℕ) EdidError
as_source bytes = source_by bytes (refusal bytes)
