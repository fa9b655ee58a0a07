use Rattle.std.proofs.Common.{◌≡◌, ◌<◌, ℕ, List, false, length, get_or, subst}
use Rattle.edid_tree.specs.Node.{Node}
use Rattle.edid_tree.specs.Path.{is_on_wire}
use Rattle.room_run.proofs.turn.take_event.Goals as goal

pub returns-clause-heard : goal.returns-clause-heard
returns-clause-heard g c = c.event.ensures c.args.net.now (record {
  after_is = c.apply_counted-refused.ensures.net;
  refused_is = c.apply_counted-refused.ensures.fault;
  was_is = subst (λ (tree : List Node). (k : ℕ) → k < length tree → get_or c.on_wire-was.result k false ≡ is_on_wire tree k) c.tree.ensures c.on_wire-was.ensures;
})
