use Rattle.std.proofs.Common.{◌≡◌, ◌∙◌, ◌++◌, ℕ, List, ap}
use Rattle.std.proofs.lemmas.List.{take_rest}
use Rattle.edid_merge.proofs.More.{fitting_more}
use Rattle.edid_merge.proofs.extension.+add_fitting.Goals as goal

pub returns-then-room-ge18-clause-items : goal.returns-then-room-ge18-clause-items
returns-then-room-ge18-clause-items t c =
    fitting_more c.args.room c.args.timings.now c.timing-item.result _ c.args.body.now.items c.append.new.block.items c.add_fitting.new.body.items
    c.in-len1-up.len_at_least c.timing-item.is c.if-room-ge18.true (c.append.ensures.items ∙ ap (λ (x : List ℕ). c.args.body.now.items ++ x) c.write.ensures)
    (rw take_rest at c.add_fitting.ensures.items)
