-- What a data block tells of (CTA-861-G, section 7.5; HDMI 1.4, section 8.3.2; HDMI 2.1, section 10.3): each block of one thing.
use Rattle.std.specs.Prelude.{ℕ, ◌==◌, Bool, ◌&&◌, ◌||◌, nat_le, if◌then◌else◌, List, length, slice_index}
use Rattle.edid_cta.specs.Hdmi.{has_identifier}
use Rattle.edid_cta.specs.declared.block.DataBlock.{DataBlock}
use Rattle.edid_cta.specs.declared.block.BlockKind.{BlockKind}
use Rattle.edid_cta.specs.declared.block.BlockKind.TheVariants as tags
use Rattle.edid_merge.specs.declared.subject.Subject.{Subject}
use Rattle.edid_merge.specs.declared.subject.Subject.TheVariants.{Video, Audio, Speakers, Hdmi, Forum, Capability, Colorimetry, Hdr, MakerVideo, MakerAudio, Override, Other}

abbrev pub subject_number : Subject → ℕ
subject_number Video = 0
subject_number Audio = 1
subject_number Speakers = 2
subject_number Hdmi = 3
subject_number Forum = 4
subject_number Capability = 5
subject_number Colorimetry = 6
subject_number Hdr = 7
subject_number MakerVideo = 8
subject_number MakerAudio = 9
subject_number Override = 10
subject_number Other = 11

-- by an extended tag: video capability 0, colorimetry 5, static metadata 6; a maker's video 1 and dynamic metadata 7; formats in
-- 4:2:0, 14 and 15; a maker's audio 17 and the other blocks of audio; the override of the count of extensions, 78
abbrev pub extended_subject : ℕ → Subject
extended_subject tag =
    if tag == 0 then Capability
    else if (tag == 1) || (tag == 7) then MakerVideo
    else if tag == 5 then Colorimetry
    else if tag == 6 then Hdr
    else if (tag == 14) || (tag == 15) then Video
    else if nat_le 17 tag && nat_le tag 20 then MakerAudio
    else if tag == 0x78 then Override
    else Other

-- the identifier of the HDMI Forum, C4-5D-D8, its lowest byte first
abbrev pub is_forum : List ℕ → Bool
is_forum payload =
    nat_le 3 (length payload) && (slice_index payload 0 == 0xd8) && (slice_index payload 1 == 0x5d) && (slice_index payload 2 == 0xc4)

abbrev pub vendor_subject : List ℕ → Subject
vendor_subject payload = if has_identifier payload then Hdmi else if is_forum payload then Forum else Other

abbrev pub tag_subject : List ℕ → Subject
tag_subject payload = if length payload == 0 then Other else extended_subject (slice_index payload 0)

abbrev pub subject_by : BlockKind → List ℕ → Subject
subject_by tags.Video payload = Video
subject_by tags.Audio payload = Audio
subject_by tags.Speakers payload = Speakers
subject_by tags.Vendor payload = vendor_subject payload
subject_by tags.Extended payload = tag_subject payload
subject_by tags.Tag0 payload = Other
subject_by tags.Tag5 payload = Other
subject_by tags.Tag6 payload = Other

abbrev pub subject_of : DataBlock → Subject
subject_of b = subject_by b.kind b.payload.items

abbrev pub is_of : Subject → DataBlock → Bool
is_of subject b = subject_number (subject_of b) == subject_number subject
