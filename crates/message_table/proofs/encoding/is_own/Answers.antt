use Rattle.std.proofs.Common.{◌≡◌, Bool, true, false, List, ℕ, Option, Some, None, option_copied, option_map, is_none, not, is_some, refl}
use denote.Bor.{Bor}
use Rattle.message_table.specs.Table.{Row, row_of}
use Rattle.message_table.proofs.encoding.is_own.Goals as goal

unnamed : (r : Option (Bor (List ℕ))) (o : Option Row) (b : Bool) → option_copied r ≡ option_map (λ r. r.name) o → is_some r ≡ not b → b ≡ is_none o
unnamed None None true e h = refl
unnamed None None false e h = cc
unnamed None (Some x) b e h = cc
unnamed (Some x) None b e h = cc
unnamed (Some x) (Some y) true e h = cc
unnamed (Some x) (Some y) false e h = refl

pub returns-in-Unknown : goal.returns-in-Unknown
returns-in-Unknown c =
    rw c.in-Unknown.is (unnamed c.name.result (row_of c.in-Unknown.opcode) c.is_none.result c.name.ensures.value c.is_none.ensures)
