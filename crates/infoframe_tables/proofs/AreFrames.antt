-- Each table passes the check of tables.
use Rattle.std.proofs.Common.{◌≡◌, List, true, refl, subst, sym}
use Rattle.edid_fields.specs.Fields.{is_table, is_tiled}
use Rattle.edid_fields.specs.Forms.{Part}
use Rattle.infoframe_tables.specs.Tables.{frame_parts, avi_parts, audio_parts, hdr_parts, hdmi_parts, forum_parts, vendor_parts, other_parts}
use Rattle.infoframe_tables.specs.declared.kinds.FrameKind.{FrameKind}
use Rattle.infoframe_tables.specs.declared.kinds.FrameKind.TheVariants.{Avi, Audio, Hdr, Hdmi, Forum, Vendor, Other}

pub are_tables : (k : FrameKind) → is_table (frame_parts k) ≡ true
unfolding is_tiled avi_parts audio_parts hdr_parts hdmi_parts forum_parts vendor_parts other_parts
are_tables Avi = refl
are_tables Audio = refl
are_tables Hdr = refl
are_tables Hdmi = refl
are_tables Forum = refl
are_tables Vendor = refl
are_tables Other = refl

-- what the code has is one too
pub is_one : (k : FrameKind) (parts : List Part) → parts ≡ frame_parts k → is_table parts ≡ true
is_one k parts same = subst (λ x. is_table x ≡ true) (sym same) (are_tables k)
