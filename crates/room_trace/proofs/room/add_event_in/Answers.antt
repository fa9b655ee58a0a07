use Rattle.std.proofs.Common.{List, Option, codes, subst, sym, ℕ, ◌++◌}
use Rattle.text_core.specs.Adds.{Adds}
use Rattle.record_core.specs.Records.{object_of}
use Rattle.room_trace.specs.Records.{event_cells}
use Rattle.room_trace.specs.Room.{Room, event_object, said_cells}
use Rattle.room_trace.proofs.room.add_event_in.Goals as goal

pub returns-in-Some-clause-added : goal.returns-in-Some-clause-added
returns-in-Some-clause-added g c =
    subst (λ (room : Option Room). Adds c.args.out.now c.add_said.new.out (event_object room c.args.at c.args.line c.args.refused)) (sym c.in-Some.is)
    (subst (λ (text : List ℕ). Adds c.args.out.now c.add_said.new.out (object_of (codes "event") (event_cells c.args.at c.args.line c.args.refused ++ said_cells text)))
    c.line_at.ensures.line c.add_said.ensures)
