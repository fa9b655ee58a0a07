use Rattle.std.proofs.Common.{List, subst, subst₂, codes, ℕ, ◌++◌}
use Rattle.text_core.specs.Adds.{Adds}
use Rattle.record_core.specs.Records.{object_of}
use Rattle.room_trace.specs.Records.{event_cells}
use Rattle.room_trace.specs.Room.{said_of, second, word}
use Rattle.room_trace.proofs.room.add_said.Goals as goal

pub returns : goal.returns
returns g c =
    let event = event_cells c.args.at c.args.line c.args.refused in
    subst (λ (said : List ℕ). Adds c.args.out.now c.add_said_of.new.out (object_of (codes "event") (event ++ said_of (word said) (second said) said))) c.said_in-said.ensures
    (subst₂ (λ (verb device : List ℕ). Adds c.args.out.now c.add_said_of.new.out (object_of (codes "event") (event ++ said_of verb device c.said_in-said.result.now)))
    c.word.ensures c.second.ensures c.add_said_of.ensures)
