-- What a table has for the data blocks of each kind.
use Rattle.std.specs.Prelude.{◌≡◌, ℕ, Bool, true, false, List, [], filter, flat_map, map}
use Rattle.edid_cta.specs.Block.{block_bytes}
use Rattle.edid_cta.specs.declared.block.DataBlock.{DataBlock}
use Rattle.edid_merge.specs.Blocks.{blocks_of, by_bits, by_numbers, by_whose, merged_blocks}
use Rattle.edid_merge.specs.Mixing.{speakers_ways, capability_ways, colours_ways, hdmi_ways, forum_ways}
use Rattle.edid_merge.specs.Subjects.{is_of}
use Rattle.edid_merge.specs.declared.subject.Subject.{Subject}
use Rattle.edid_merge.specs.declared.subject.Subject.TheVariants.{Video, Audio, Speakers, Hdmi, Forum, Capability, Colorimetry, Hdr, MakerVideo, MakerAudio, Override, Other}
use Rattle.edid_merge.specs.declared.table.Bits.{Bits}
use Rattle.edid_merge.specs.declared.table.Bits.TheVariants as bits
use Rattle.edid_merge.specs.declared.table.Numbers.{Numbers}
use Rattle.edid_merge.specs.declared.table.Numbers.TheVariants as numbers
use Rattle.edid_merge.specs.declared.table.Table.{Table}
use Rattle.edid_merge.specs.declared.table.Whose.{Whose}
use Rattle.edid_merge.specs.declared.table.Whose.TheVariants as whose

abbrev pub by_row : Table → Subject → List DataBlock → List DataBlock → List ℕ
by_row t Video display own = by_whose t.video Video display own
by_row t Audio display own = by_whose t.audio Audio display own
by_row t Speakers display own = by_bits t.speakers speakers_ways Speakers display own
by_row t Hdmi display own = by_numbers t.hdmi hdmi_ways Hdmi display own
by_row t Forum display own = by_numbers t.forum forum_ways Forum display own
by_row t Capability display own = by_bits t.capability capability_ways Capability display own
by_row t Colorimetry display own = by_bits t.colorimetry colours_ways Colorimetry display own
by_row t Hdr display own = by_bits t.hdr colours_ways Hdr display own
by_row t MakerVideo display own = by_whose t.maker_video MakerVideo display own
by_row t MakerAudio display own = by_whose t.maker_audio MakerAudio display own
by_row t Override display own = []
by_row t Other display own = by_whose t.other Other display own

-- Whatever data blocks the bytes of the answer spell, those of each kind are the ones that its row has.
abbrev pub ObeyTheirRows : Type 0
ObeyTheirRows = (t : Table) (display own blocks : List DataBlock) → flat_map block_bytes blocks ≡ merged_blocks t display own
    → (subject : Subject) → blocks_of subject blocks ≡ by_row t subject display own

-- ---- rows that take the receiver's own

abbrev pub is_own : Whose → Bool
is_own whose.Keep = false
is_own whose.Own = true

abbrev pub are_own_bits : Bits → Bool
are_own_bits bits.Keep = false
are_own_bits bits.Own = true
are_own_bits bits.And = false

abbrev pub are_own_numbers : Numbers → Bool
are_own_numbers numbers.Keep = false
are_own_numbers numbers.Own = true
are_own_numbers numbers.Least = false

abbrev pub takes_own : Table → Subject → Bool
takes_own t Video = is_own t.video
takes_own t Audio = is_own t.audio
takes_own t Speakers = are_own_bits t.speakers
takes_own t Hdmi = are_own_numbers t.hdmi
takes_own t Forum = are_own_numbers t.forum
takes_own t Capability = are_own_bits t.capability
takes_own t Colorimetry = are_own_bits t.colorimetry
takes_own t Hdr = are_own_bits t.hdr
takes_own t MakerVideo = is_own t.maker_video
takes_own t MakerAudio = is_own t.maker_audio
takes_own t Override = false
takes_own t Other = is_own t.other

-- Of such a kind the blocks of the answer are the receiver's, each as often as it has it, in their order.
abbrev pub OwnBlocksStandOnce : Type 0
OwnBlocksStandOnce = (t : Table) (display own blocks : List DataBlock) → flat_map block_bytes blocks ≡ merged_blocks t display own
    → (subject : Subject) → takes_own t subject ≡ true → map block_bytes (filter (is_of subject) blocks) ≡ map block_bytes (filter (is_of subject) own)
