-- An EDID has a first segment.
use Rattle.std.proofs.Common.{◌≡◌, ℕ, ◌<◌, true, nat_lt, List, length, arith}
use borrow.Author.Tests.{tests}
use Rattle.edid_core.specs.Bytes.{edid_bytes, has_length}
use Rattle.edid_core.specs.declared.edid.Edid.{Edid}
use Rattle.edid_core.proofs.Lengths.{counted}
use Rattle.edid_core.proofs.OneEdid.{length_fits}
use Rattle.edid_ddc.specs.Bus.{has_segment}

pub edid_length : (e : Edid) → has_length (edid_bytes e) ≡ true
edid_length e = length_fits e

pub first_segment : (bytes : List ℕ) → has_length bytes ≡ true → has_segment bytes 0 ≡ true
first_segment bytes h =
    let c = counted bytes h in
    let len = c.len in
    let least = c.least in
    let some : 0 < length bytes = omega arith in
    let t : nat_lt 0 (length bytes) ≡ true = grind (arith, tests) in t
