use Rattle.std.proofs.Common.{◌≡◌, ℕ, ◌∷◌, ◌+◌, ◌-◌, get_or, drop, ap, ◌∙◌, arith, refl, flat_map}
use Rattle.std.specs.Int.{w16, w32, to_le_bytes}
use Rattle.edid_base.proofs.PartLemmas.{block_is, header_is, accepted_header, accepted_sum, two_bytes, four_bytes}
use Rattle.edid_base.proofs.Bytes.{are_bytes-cells, are_bytes-cell, are_bytes-take, are_bytes-drop}
use Rattle.edid_base.specs.Bytes.{are_bytes}
use Rattle.edid_base.specs.Chroma.{chroma_bytes}
use Rattle.edid_base.specs.Descriptor.{descriptor_bytes}
use Rattle.edid_base.specs.Maker.{maker_bytes}
use Rattle.edid_base.specs.Revisions.{revision_bytes}
use Rattle.edid_base.specs.Standard.{standard_bytes}
use Rattle.edid_base.proofs.base.Base.read.Goals as goal

pub returns-clause-read : goal.returns-clause-read
returns-clause-read c =
    let bytes = c.args.bytes.now in
    let ok = c.in_ok-revision.ensures in
    let fits = c.fits-bytes in
    let year : c.from.result + 1990 - 1990 ≡ get_or bytes 17 0 = omega (arith, c.from.ensures) in
    let product = two_bytes c.from_le_bytes.result (get_or bytes 10 0) (get_or bytes 11 0) (fits 10) (fits 11) c.from_le_bytes.ensures in
    let serial = four_bytes c.from_le_bytes-2.result (get_or bytes 12 0) (get_or bytes 13 0) (get_or bytes 14 0) (get_or bytes 15 0)
    (fits 12) (fits 13) (fits 14) (fits 15) c.from_le_bytes-2.ensures in
    block_is bytes (maker_bytes c.in_ok-revision.maker) (to_le_bytes w16 c.from_le_bytes.result) (to_le_bytes w32 c.from_le_bytes-2.result)
    (revision_bytes c.in_ok-revision.revision) (chroma_bytes c.read.result) c.part-2.result (flat_map standard_bytes c.read_all.result)
    (flat_map descriptor_bytes c.read_descriptors.result) _ _ _ _ _ _ _ _ c.told-bytes (header_is bytes (accepted_header bytes ok.0))
    ok.1 product serial refl year ok.2 refl refl refl refl refl
    (c.read.ensures ∙ c.part.ensures) c.part-2.ensures (c.read_all.ensures ∙ c.part-3.ensures) (c.read_descriptors.ensures ∙ c.part-4.ensures) refl (fits 127) (accepted_sum bytes ok.0)

pub invariant_of-result-clause-bytes_fit : goal.invariant_of-result-clause-bytes_fit
invariant_of-result-clause-bytes_fit c =
    let bytes = c.args.bytes.now in
    let fits = c.fits-bytes in
    let established = ap are_bytes c.part-2.ensures ∙ are_bytes-take 3 (drop 35 bytes) (are_bytes-drop 35 bytes (are_bytes-cells bytes fits)) in
    let e = c.part-2.result in
    let at = λ (k : ℕ). get_or bytes k 0 in
    let a = are_bytes-cell bytes e 126 fits established in
    let b = are_bytes-cell bytes (at 126 ∷ e) 24 fits a in
    let d = are_bytes-cell bytes (at 24 ∷ at 126 ∷ e) 23 fits b in
    let f = are_bytes-cell bytes (at 23 ∷ at 24 ∷ at 126 ∷ e) 22 fits d in
    let g = are_bytes-cell bytes (at 22 ∷ at 23 ∷ at 24 ∷ at 126 ∷ e) 21 fits f in
    let h = are_bytes-cell bytes (at 21 ∷ at 22 ∷ at 23 ∷ at 24 ∷ at 126 ∷ e) 20 fits g in
    are_bytes-cell bytes (at 20 ∷ at 21 ∷ at 22 ∷ at 23 ∷ at 24 ∷ at 126 ∷ e) 16 fits h
