use Rattle.std.proofs.Common.{◌≡◌, ◌∙◌, ◌++◌, ℕ, List, ap}
use Rattle.std.proofs.lemmas.List.{take_rest}
use Rattle.edid_merge.proofs.More.{timings_more}
use Rattle.edid_merge.proofs.speakers.+add_timings.Goals as goal

pub returns : goal.returns
returns t c =
    timings_more c.args.timings.now c.timing-item.result _ c.args.out.now.items c.append.new.block.items c.add_timings.new.out.items
    c.in-len1-up.len_at_least c.timing-item.is (c.append.ensures.items ∙ ap (λ (x : List ℕ). c.args.out.now.items ++ x) c.write.ensures)
    (rw take_rest at c.add_timings.ensures)
