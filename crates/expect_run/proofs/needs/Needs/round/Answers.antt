use Rattle.std.proofs.Common.{◌≡◌, ◌&&◌, ◌||◌, ℕ, List, true, false, map, sym, ap, ◌∙◌}
use Rattle.std.specs.List.{flat_map, list_any}
use denote.Ref.{Bor}
use Rattle.expect_text.specs.Names.{meets}
use Rattle.expect_judge.specs.Told.{round_as}
use Rattle.expect_run.specs.Kept.{Watch, watch_as, watches_of}
use Rattle.expect_run.specs.Groups.{is_known_met, is_sought}
use Rattle.expect_run.specs.declared.group.Group.{Group}
use Rattle.expect_run.proofs.Watching.{met_so, none_met}
use Rattle.expect_run.proofs.needs.Needs.round.Goals as goal

pub returns-then-fits_any-2 : goal.returns-then-fits_any-2
returns-then-fits_any-2 c =
    let r = round_as c.args.round.now in
    let watches = watches_of c.args.self.now.script.now in
    let so : list_any (λ (watch : Watch). is_sought true watch && meets watch.pattern r.reported) watches ≡ true =
    sym (c.args.self.now.timeless_are r.reported) ∙ ap (list_any (λ (text : Bor (List ℕ)). meets text.now r.reported)) (sym c.deref-then-fits_any.ensures.value)
    ∙ sym c.fits_any-then-fits_any.ensures ∙ c.if-fits_any-2.true in
    c.if-fits_any-2.true ∙ sym (ap (λ b. b || list_any (is_known_met r) watches) so) ∙ met_so watches r

pub returns-else-fits_any-2 : goal.returns-else-fits_any-2
returns-else-fits_any-2 c =
    let r = round_as c.args.round.now in
    let watches = watches_of c.args.self.now.script.now in
    let none : list_any (λ (watch : Watch). is_sought true watch && meets watch.pattern r.reported) watches ≡ false =
    sym (c.args.self.now.timeless_are r.reported) ∙ ap (list_any (λ (text : Bor (List ℕ)). meets text.now r.reported)) (sym c.deref-then-fits_any.ensures.value)
    ∙ sym c.fits_any-then-fits_any.ensures ∙ c.if-fits_any-2.false in
    c.is_any_met.ensures
    ∙ ap (λ (groups : List Group). list_any (is_known_met r) (flat_map (λ (group : Group). map watch_as group.watches.items) groups)) c.deref-else-fits_any-2.ensures.value
    ∙ ap (list_any (is_known_met r)) c.args.self.now.groups_are ∙ sym (ap (λ b. b || list_any (is_known_met r) watches) none) ∙ met_so watches r

pub returns-else-fits_any : goal.returns-else-fits_any
returns-else-fits_any c =
    let r = round_as c.args.round.now in
    let watches = watches_of c.args.self.now.script.now in
    let none : list_any (λ (watch : Watch). is_sought false watch && meets watch.pattern r.reported) watches ≡ false =
    sym (c.args.self.now.texts_are r.reported) ∙ ap (list_any (λ (text : Bor (List ℕ)). meets text.now r.reported)) (sym c.deref.ensures.value) ∙ sym c.fits_any.ensures ∙ c.if-fits_any.false in
    c.if-fits_any.false ∙ sym (none_met watches r none)
