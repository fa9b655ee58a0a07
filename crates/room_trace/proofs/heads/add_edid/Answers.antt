use Rattle.std.proofs.Common.{List, codes, subst, ℕ}
use Rattle.text_core.specs.Adds.{Adds}
use Rattle.record_core.specs.Records.{object_of}
use Rattle.room_trace.specs.Room.{edid_of}
use Rattle.room_trace.proofs.heads.add_edid.Goals as goal

pub returns : goal.returns
returns g c =
    subst (λ (bytes : List ℕ). Adds c.args.out.now c.add_edid_of.new.out (object_of (codes "edid") (edid_of c.args.line.now bytes))) c.second.ensures c.add_edid_of.ensures
