-- The objects of a trace, and its lines (own).
use Rattle.std.specs.Prelude.{◌≡◌, ℕ, Bool, List, ◌++◌}
use Rattle.std.specs.List.{flat_map}
use Rattle.record_core.specs.Cells.{PlainCell}
use Rattle.record_core.specs.Records.{line_of, object_of}
use Rattle.room_trace.specs.Room.{heads_in, room_if}
use Rattle.room_run.specs.declared.run.Totals.{Totals}
use Rattle.room_run.specs.Emulate.{AreObjectsOf, IsTraceOf}

-- a text of lines and a text of objects that are those of the same records, each a kind and its cells, in order
pub record AreOfRecords (lines objects : List ℕ) : Type 0 where
  pub records : List (List ℕ × List PlainCell)
  pub lines_are : lines ≡ flat_map (λ r. line_of r.1) records
  pub objects_are : objects ≡ flat_map (λ r. object_of r.0 r.1) records

-- After those of the room, where they are asked for, the objects that are written are those of the lines of the trace, one for one: from
-- each its line is read back (`lines_are_read_back` of record_core).
abbrev pub ObjectsAreOfTheTrace : Type 0
ObjectsAreOfTheTrace = (with_room : Bool) (topology script text : List ℕ) (totals : Totals) → AreObjectsOf with_room topology script text totals
    → (trace : List ℕ) × (objects : List ℕ) × IsTraceOf topology script trace totals × AreOfRecords trace objects × (text ≡ heads_in (room_if with_room topology script) ++ objects)
