-- What an extended block and a vendor block mean, of all bytes after the block's header (CTA-861-G, table 56).
use Rattle.std.specs.Prelude.{ℕ, ◌==◌, if◌then◌else◌, List, [], ◌++◌, codes, drop, length, slice_index}
use Rattle.meaning_words.specs.Videos.{video_meanings}
use Rattle.meaning_displayid.specs.Sections.{timing_block}
use Rattle.meaning_extended.specs.Titles.{is_timing_block, maker_meanings, tag_meanings, title_lines}
use Rattle.meaning_extended.specs.Colours.{capability_meanings, colour_meanings, hdr_meanings}
use Rattle.meaning_extended.specs.Videos.{preference_meanings, map_meanings}
use Rattle.edid_layout.specs.ForumBlock.{identifier}
use Rattle.meaning_extended.specs.Makers.{maker_name, named_meanings, tag_name, labelled_meanings}
use Rattle.meaning_extended.specs.Forum.{forum_meanings, sink_meanings}
use Rattle.meaning_extended.specs.Counts.{count_meanings}
use Rattle.meaning_extended.specs.Dolby.{dolby_meanings}
use Rattle.meaning_extended.specs.Vendors.{plus_meanings, sound_meanings, soft_meanings}
use Rattle.meaning_extended.specs.Sync.{sync_meanings}

-- video and audio of a maker (CTA-861-G, sections 7.5.7 and 7.5.8)
abbrev pub vendor_video : List ℕ → List (List ℕ)
vendor_video p =
    if identifier p == 0x00d046 then dolby_meanings (drop 3 p) else if identifier p == 0x90848b then plus_meanings (drop 3 p) else maker_meanings (codes ", video of maker ") p

abbrev pub vendor_audio : List ℕ → List (List ℕ)
vendor_audio p = if identifier p == 0x00d046 then sound_meanings (drop 3 p) else maker_meanings (codes ", audio of maker ") p

-- a block whose bytes are not read
abbrev pub named_block : ℕ → List ℕ → List (List ℕ)
named_block tag p = if length (tag_name tag) == 0 then tag_meanings tag p else labelled_meanings (tag_name tag) p

-- DisplayID's timings, and others
abbrev pub other_meanings : ℕ → List ℕ → List (List ℕ)
other_meanings tag p = if is_timing_block tag then timing_block tag p else named_block tag p

-- by the extended tag, and the video codes of the EDID
unfoldable pub tagged_meanings : List ℕ → ℕ → List ℕ → List (List ℕ)
tagged_meanings svds tag p =
    if tag == 0x00 then capability_meanings p
    else if tag == 0x01 then vendor_video p
    else if tag == 0x05 then colour_meanings p
    else if tag == 0x06 then hdr_meanings p
    else if tag == 0x0d then preference_meanings p
    else if tag == 0x0e then video_meanings p
    else if tag == 0x0f then map_meanings svds p
    else if tag == 0x11 then vendor_audio p
    else if tag == 0x78 then count_meanings p
    else if tag == 0x79 then sink_meanings p
    else other_meanings tag p

abbrev pub titled_meanings : List ℕ → ℕ → List ℕ → List (List ℕ)
titled_meanings svds tag p = title_lines tag ++ tagged_meanings svds tag p

abbrev pub extended_meanings : List ℕ → List ℕ → List (List ℕ)
extended_meanings svds p = if length p == 0 then [] else titled_meanings svds (slice_index p 0) (drop 1 p)

abbrev pub named_vendor : List ℕ → List (List ℕ)
named_vendor p = if length (maker_name (identifier p)) == 0 then maker_meanings (codes ", maker ") p else named_meanings (maker_name (identifier p)) p

-- by the identifier, of which C4-5D-D8 is the HDMI Forum's
abbrev pub vendor_meanings : List ℕ → List (List ℕ)
vendor_meanings p =
    if identifier p == 0xc45dd8 then forum_meanings (drop 3 p)
    else if identifier p == 0x00001a then sync_meanings (drop 3 p)
    else if identifier p == 0xca125c then soft_meanings (drop 3 p)
    else named_vendor p
