use Rattle.std.proofs.Common.{◌≡◌, ℕ, ◌&&◌, ◌||◌, List, length, map}
use Rattle.std.specs.List.{list_any}
use Rattle.expect_text.specs.Names.{meets}
use Rattle.expect_run.specs.Groups.{is_sought}
use Rattle.expect_run.specs.Kept.{watch_as}
use Rattle.expect_run.proofs.watch.patterns_of.Given as goal

-- the patterns of those before, and of those that are left
abbrev pub invariant-watches : goal.invariant-watches
invariant-watches l = (reported : List ℕ)
    → (list_any (λ text. meets text.now reported) l.texts.items || list_any (λ watch. is_sought l.timeless watch && meets watch.pattern reported) (map watch_as l.rest))
    ≡ list_any (λ watch. is_sought l.timeless watch && meets watch.pattern reported) (map watch_as l.watches)

abbrev pub decreases-watches : goal.decreases-watches
decreases-watches l = length l.rest
