use Rattle.std.proofs.Common.{ℕ, List, OnOk, subst}
use Rattle.rules_check.specs.declared.rule.Origin.{Origin}
use Rattle.program_edids.specs.Edids.{Shows, ShowsOwn, origin_of}
use Rattle.cli_choice.specs.declared.choice.View.TheVariants.{Findings}
use Rattle.program_edids.proofs.ShownLemmas.{on_ok}
use Rattle.program_edids.proofs.SoundLemmas.{own_rules}
use Rattle.program_edids.proofs.edid.Blocks.write_rules.Goals as goal

pub returns : goal.returns
returns g c =
    let old = g.W.Sink.contents c.args.out.now in
    let new = g.W.Sink.contents c.write_own_rules.new.out in
    let given = c.in_ok-given.given.items in
    let O : Origin → Type 0 = λ o. OnOk c.write_own_rules.result (ShowsOwn o c.args.form c.as_slice.result.now old new) in
    let P : List ℕ → Type 0 = λ b. OnOk c.write_own_rules.result (ShowsOwn (origin_of c.args.place) c.args.form b old new) in
    on_ok c.write_own_rules.result (ShowsOwn (origin_of c.args.place) c.args.form given old new) (Shows (Findings c.args.place c.args.form) c.args.self.bytes.now old new)
    (own_rules c.args.place c.args.form c.args.self.bytes.now given old new c.in_ok-given.ensures)
    (subst P c.as_slice.ensures.value (subst O c.origin_of.ensures c.write_own_rules.ensures))
