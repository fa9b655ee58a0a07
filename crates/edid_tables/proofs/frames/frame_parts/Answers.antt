use Rattle.edid_fields.specs.Forms.{table_in_code}
use Rattle.edid_tables.proofs.AreFrames.{is_one}
use Rattle.edid_tables.specs.declared.frames.Frame.TheVariants.{Head, Identifier, Extended, Payload, Nothing}
use Rattle.edid_tables.proofs.frames.frame_parts.Goals as goal

pub returns-in-Head-clause-table : goal.returns-in-Head-clause-table
returns-in-Head-clause-table c = is_one Head (table_in_code c.head_parts.result.now) c.head_parts.ensures

pub returns-in-Identifier-clause-table : goal.returns-in-Identifier-clause-table
returns-in-Identifier-clause-table c = is_one Identifier (table_in_code c.identifier_parts.result.now) c.identifier_parts.ensures

pub returns-in-Extended-clause-table : goal.returns-in-Extended-clause-table
returns-in-Extended-clause-table c = is_one Extended (table_in_code c.extended_parts.result.now) c.extended_parts.ensures

pub returns-in-Payload-clause-table : goal.returns-in-Payload-clause-table
returns-in-Payload-clause-table c = is_one Payload (table_in_code c.payload_parts.result.now) c.payload_parts.ensures

pub returns-in-Nothing-clause-table : goal.returns-in-Nothing-clause-table
returns-in-Nothing-clause-table c = is_one Nothing (table_in_code c.no_parts.result.now) c.no_parts.ensures
