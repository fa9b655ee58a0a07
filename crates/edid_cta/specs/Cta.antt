-- The bytes of a CTA extension of version 3 (CTA-861, 7.5): the data block collection and detailed timing descriptors.
use Rattle.std.specs.Prelude.{ℕ, ◌+◌, Bool, ◌||◌, not, nat_lt, List, ◌∷◌, ◌++◌, length, flat_map}
use Rattle.edid_base.specs.Forms.{is_timing}
use Rattle.edid_base.specs.Timing.{timing_bytes}
use Rattle.edid_base.specs.declared.timing.Timing.{Timing}
use Rattle.edid_cta.specs.Block.{block_bytes}
use Rattle.edid_cta.specs.declared.block.DataBlock.{DataBlock}

-- no timing stands in front
abbrev pub is_tail : List ℕ → Bool
is_tail bytes = nat_lt (length bytes) 18 || not (is_timing bytes)

-- flags, data blocks up to the place that the third byte names, timings, and what is left
abbrev pub cta_front : ℕ → List DataBlock → List Timing → List ℕ → List ℕ
cta_front flags blocks timings tail =
    2 ∷ 3 ∷ (length (flat_map block_bytes blocks) + 4) ∷ flags ∷ (flat_map block_bytes blocks ++ (flat_map timing_bytes timings ++ tail))

-- a third byte of 0: neither data blocks nor timings
abbrev pub bare_front : ℕ → List ℕ → List ℕ
bare_front flags tail = 2 ∷ 3 ∷ 0 ∷ flags ∷ tail
