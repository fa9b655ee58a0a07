-- The tables, as they stand in the code.
use Rattle.std.specs.Prelude.{List}
use Rattle.edid_fields.specs.Forms.{Part, table_in_constant}
use Rattle.edid_tables.specs.declared.heads.TheConstants.{HEAD, IDENTIFIER, EXTENDED, PAYLOAD, NOTHING}
use Rattle.edid_tables.specs.declared.frames.Frame.{Frame}
use Rattle.edid_tables.specs.declared.frames.Frame.TheVariants.{Head, Identifier, Extended, Payload, Nothing}

unfoldable pub head_parts : List Part
head_parts = table_in_constant HEAD

unfoldable pub identifier_parts : List Part
identifier_parts = table_in_constant IDENTIFIER

unfoldable pub extended_parts : List Part
extended_parts = table_in_constant EXTENDED

unfoldable pub payload_parts : List Part
payload_parts = table_in_constant PAYLOAD

unfoldable pub no_parts : List Part
no_parts = table_in_constant NOTHING

abbrev pub frame_parts : Frame → List Part
frame_parts Head = head_parts
frame_parts Identifier = identifier_parts
frame_parts Extended = extended_parts
frame_parts Payload = payload_parts
frame_parts Nothing = no_parts
