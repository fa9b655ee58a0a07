use Rattle.std.proofs.Common.{◌≡◌, ◌&&◌, ℕ, List, true, false, map, ap, ◌∙◌}
use Rattle.std.specs.List.{list_any}
use Rattle.expect_text.specs.Names.{meets}
use Rattle.expect_run.specs.Kept.{Watch, watch_as, watches_by, watches_of}
use Rattle.expect_run.specs.Groups.{is_sought}
use Rattle.expect_run.specs.declared.watch.Watch.{Watch as WatchRead}
use Rattle.expect_run.proofs.needs.Needs.new.Goals as goal

pub invariant_of-result : goal.invariant_of-result
invariant_of-result c =
    let script = c.args.script.now in
    let are : map watch_as c.in_ok-watches.watches.items ≡ watches_of script =
    c.in_ok-watches.ensures ∙ ap (λ (t : List ℕ). watches_by t c.in_ok-times.times.script.now) c.in_ok-labels.ensures ∙ ap (watches_by script) c.in_ok-times.ensures in
    record {
      named_are = c.in_ok-named.ensures;
      times_are = c.in_ok-times.ensures;
      groups_are = c.in_ok-groups.ensures ∙ ap (map watch_as) c.deref.ensures.value ∙ are;
      texts_are = λ reported. c.in_ok-texts.ensures reported
          ∙ ap (λ (ws : List WatchRead). list_any (λ (watch : Watch). is_sought false watch && meets watch.pattern reported) (map watch_as ws)) c.deref-2.ensures.value
          ∙ ap (list_any (λ (watch : Watch). is_sought false watch && meets watch.pattern reported)) are;
      timeless_are = λ reported. c.in_ok-timeless.ensures reported
          ∙ ap (λ (ws : List WatchRead). list_any (λ (watch : Watch). is_sought true watch && meets watch.pattern reported) (map watch_as ws)) c.deref-3.ensures.value
          ∙ ap (list_any (λ (watch : Watch). is_sought true watch && meets watch.pattern reported)) are;
    }
