-- The data blocks that a receiver answers with (own), of the display's and of its own, one kind after another.
use Rattle.std.specs.Prelude.{ℕ, ◌+◌, ◌*◌, List, [], ◌∷◌, ◌++◌, length, Option, Some, flat_map, filter, find}
use Rattle.edid_cta.specs.Block.{block_bytes, kind_number}
use Rattle.edid_cta.specs.declared.block.DataBlock.{DataBlock}
use Rattle.edid_merge.specs.Mixing.{mixed, speakers_ways, capability_ways, colours_ways, hdmi_ways, forum_ways}
use Rattle.edid_merge.specs.Subjects.{is_of}
use Rattle.edid_merge.specs.declared.mixing.Way.{Way}
use Rattle.edid_merge.specs.declared.subject.Subject.{Subject}
use Rattle.edid_merge.specs.declared.subject.Subject.TheVariants.{Video, Audio, Speakers, Hdmi, Forum, Capability, Colorimetry, Hdr, MakerVideo, MakerAudio, Other}
use Rattle.edid_merge.specs.declared.table.Whose.{Whose}
use Rattle.edid_merge.specs.declared.table.Whose.TheVariants as whose
use Rattle.edid_merge.specs.declared.table.Bits.{Bits}
use Rattle.edid_merge.specs.declared.table.Bits.TheVariants as bits
use Rattle.edid_merge.specs.declared.table.Numbers.{Numbers}
use Rattle.edid_merge.specs.declared.table.Numbers.TheVariants as numbers
use Rattle.edid_merge.specs.declared.table.Table.{Table}

-- the blocks of one kind
abbrev pub blocks_of : Subject → List DataBlock → List ℕ
blocks_of subject blocks = flat_map block_bytes (filter (is_of subject) blocks)

-- the first blocks of a kind as one, where both have one
abbrev pub both_of : List Way → Option DataBlock → Option DataBlock → List ℕ
both_of ways (Some display) (Some own) =
    (kind_number display.kind * 32 + length display.payload.items) ∷ mixed ways display.payload.items own.payload.items
both_of ways display own = []

abbrev pub one_of : List Way → Subject → List DataBlock → List DataBlock → List ℕ
one_of ways subject display own = both_of ways (find (is_of subject) display) (find (is_of subject) own)

abbrev pub by_whose : Whose → Subject → List DataBlock → List DataBlock → List ℕ
by_whose whose.Keep subject display own = blocks_of subject display
by_whose whose.Own subject display own = blocks_of subject own

abbrev pub by_bits : Bits → List Way → Subject → List DataBlock → List DataBlock → List ℕ
by_bits bits.Keep ways subject display own = blocks_of subject display
by_bits bits.Own ways subject display own = blocks_of subject own
by_bits bits.And ways subject display own = one_of ways subject display own

abbrev pub by_numbers : Numbers → List Way → Subject → List DataBlock → List DataBlock → List ℕ
by_numbers numbers.Keep ways subject display own = blocks_of subject display
by_numbers numbers.Own ways subject display own = blocks_of subject own
by_numbers numbers.Least ways subject display own = one_of ways subject display own

-- sound and pictures
abbrev pub main_blocks : Table → List DataBlock → List DataBlock → List ℕ
main_blocks t display own =
    by_whose t.video Video display own ++ (by_whose t.audio Audio display own ++ by_bits t.speakers speakers_ways Speakers display own)

-- the link
abbrev pub link_blocks : Table → List DataBlock → List DataBlock → List ℕ
link_blocks t display own = by_numbers t.hdmi hdmi_ways Hdmi display own ++ by_numbers t.forum forum_ways Forum display own

-- colours
abbrev pub colour_blocks : Table → List DataBlock → List DataBlock → List ℕ
colour_blocks t display own =
    by_bits t.capability capability_ways Capability display own
    ++ (by_bits t.colorimetry colours_ways Colorimetry display own ++ by_bits t.hdr colours_ways Hdr display own)

-- what makers have added, and what is not known
abbrev pub further_blocks : Table → List DataBlock → List DataBlock → List ℕ
further_blocks t display own =
    by_whose t.maker_video MakerVideo display own ++ (by_whose t.maker_audio MakerAudio display own ++ by_whose t.other Other display own)

-- An override of the count of extensions is of the EDID that it stands in alone.
unfoldable pub merged_blocks : Table → List DataBlock → List DataBlock → List ℕ
merged_blocks t display own =
    main_blocks t display own ++ (link_blocks t display own ++ (colour_blocks t display own ++ further_blocks t display own))
