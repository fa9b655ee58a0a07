-- Each table passes the check of tables.
use Rattle.std.proofs.Common.{◌≡◌, List, true, refl, subst, sym}
use Rattle.edid_fields.specs.Fields.{is_table, is_tiled}
use Rattle.edid_fields.specs.Forms.{Part}
use Rattle.edid_tables.specs.Frames.{frame_parts, head_parts, identifier_parts, extended_parts, payload_parts, no_parts}
use Rattle.edid_tables.specs.declared.frames.Frame.{Frame}
use Rattle.edid_tables.specs.declared.frames.Frame.TheVariants.{Head, Identifier, Extended, Payload, Nothing}

pub are_tables : (f : Frame) → is_table (frame_parts f) ≡ true
unfolding is_tiled head_parts identifier_parts extended_parts payload_parts no_parts
are_tables Head = refl
are_tables Identifier = refl
are_tables Extended = refl
are_tables Payload = refl
are_tables Nothing = refl

-- what the code has is one too
pub is_one : (f : Frame) (parts : List Part) → parts ≡ frame_parts f → is_table parts ≡ true
is_one f parts same = subst (λ x. is_table x ≡ true) (sym same) (are_tables f)
