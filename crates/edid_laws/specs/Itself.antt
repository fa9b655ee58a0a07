-- What a receiver answers with to a display that has its own EDID (own): that EDID, but that its data blocks stand kind by kind, and
-- zeros after its timings.
use Rattle.std.specs.Prelude.{◌≡◌, ℕ, ◌+◌, ◌≤◌, Bool, true, false, List, [], ◌∷◌, ◌++◌, length, filter, flat_map}
use Rattle.std.specs.List.Sorted.{IsPermutation}
use Rattle.edid_base.specs.Check.{block_with_checksum}
use Rattle.edid_base.specs.Timing.{timing_bytes}
use Rattle.edid_base.specs.declared.timing.Timing.{Timing}
use Rattle.edid_core.specs.declared.edid.Edid.{Edid as EdidValue}
use Rattle.edid_cta.specs.Block.{block_bytes}
use Rattle.edid_cta.specs.Ext.{ext_bytes}
use Rattle.edid_cta.specs.declared.block.DataBlock.{DataBlock}
use Rattle.edid_merge.specs.Merge.{HasRoom, IsMerged, cta_blocks, cta_flags, cta_timings, with_cta, with_zeros}
use Rattle.edid_merge.specs.Subjects.{is_of}
use Rattle.edid_merge.specs.declared.subject.Subject.{Subject}
use Rattle.edid_merge.specs.declared.subject.Subject.TheVariants.{Video, Audio, Speakers, Hdmi, Forum, Capability, Colorimetry, Hdr, MakerVideo, MakerAudio, Override, Other}
use Rattle.edid_merge.specs.declared.table.Bits.{Bits}
use Rattle.edid_merge.specs.declared.table.Bits.TheVariants as bits
use Rattle.edid_merge.specs.declared.table.Numbers.{Numbers}
use Rattle.edid_merge.specs.declared.table.Numbers.TheVariants as numbers
use Rattle.edid_merge.specs.declared.table.Table.{Table}

-- ---- data blocks kind by kind

abbrev pub kinds : List Subject
kinds = Video ∷ Audio ∷ Speakers ∷ Hdmi ∷ Forum ∷ Capability ∷ Colorimetry ∷ Hdr ∷ MakerVideo ∷ MakerAudio ∷ Other ∷ []

-- those of each kind in their order
abbrev pub by_kinds : List Subject → List DataBlock → List DataBlock
by_kinds subjects bs = flat_map (λ s. filter (is_of s) bs) subjects

-- ---- what is not doubled and not dropped

abbrev pub joins_bits : Bits → Bool
joins_bits bits.Keep = false
joins_bits bits.Own = false
joins_bits bits.And = true

abbrev pub joins_numbers : Numbers → Bool
joins_numbers numbers.Keep = false
joins_numbers numbers.Own = false
joins_numbers numbers.Least = true

-- a row that makes one block of the first of each
abbrev pub joins : Table → Subject → Bool
joins t Speakers = joins_bits t.speakers
joins t Hdmi = joins_numbers t.hdmi
joins t Forum = joins_numbers t.forum
joins t Capability = joins_bits t.capability
joins t Colorimetry = joins_bits t.colorimetry
joins t Hdr = joins_bits t.hdr
joins t Video = false
joins t Audio = false
joins t MakerVideo = false
joins t MakerAudio = false
joins t Override = false
joins t Other = false

-- one block at most of each kind with such a row, and no override of the count of extensions
pub record IsSingle (t : Table) (bs : List DataBlock) : Type 0 where
  pub once : (s : Subject) → joins t s ≡ true → length (filter (is_of s) bs) ≤ 1
  pub counted : filter (is_of Override) bs ≡ []

-- ---- the answer

abbrev pub plain_cta : ℕ → List DataBlock → List Timing → List ℕ
plain_cta flags bs ts =
    block_with_checksum (2 ∷ 3 ∷ (length (flat_map block_bytes bs) + 4) ∷ flags ∷ with_zeros (flat_map block_bytes bs ++ flat_map timing_bytes ts))

-- the same base block; the same data blocks in another order, the same flags, all timings, and the other extensions
pub record IsItself (e merged : EdidValue) : Type 0 where
  pub base : merged.base ≡ e.base
  pub blocks : IsPermutation (cta_blocks e.extensions.items) (by_kinds kinds (cta_blocks e.extensions.items))
  pub extensions : flat_map ext_bytes merged.extensions.items
      ≡ with_cta (plain_cta (cta_flags e.extensions.items) (by_kinds kinds (cta_blocks e.extensions.items)) (cta_timings e.extensions.items)) e.extensions.items

abbrev pub MergesToItself : Type 0
MergesToItself = (t : Table) (e : EdidValue) → IsSingle t (cta_blocks e.extensions.items) → HasRoom t e e × ((merged : EdidValue) → IsMerged t e e merged → IsItself e merged)
