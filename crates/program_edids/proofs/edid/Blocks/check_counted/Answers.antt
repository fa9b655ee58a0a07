use Rattle.std.proofs.Common.{ℕ, List, OnOk, subst}
use Rattle.rules_check.specs.declared.rule.Origin.{Origin}
use Rattle.program_edids.specs.Edids.{ShowsCounted, ShowsJudged, origin_of}
use Rattle.cli_choice.specs.declared.choice.View.TheVariants.{Findings}
use Rattle.program_edids.proofs.ShownLemmas.{on_ok}
use Rattle.program_edids.proofs.SoundLemmas.{counted_rules}
use Rattle.program_edids.proofs.edid.Blocks.check_counted.Goals as goal

pub returns : goal.returns
returns g c =
    let old = g.W.Sink.contents c.args.out.now in
    let new = g.W.Sink.contents c.write_counted_rules.new.out in
    let given = c.in_ok-given.given.items in
    let O : Origin → Type 0 = λ o. OnOk c.write_counted_rules.result (ShowsJudged o c.args.form c.args.count c.args.self.bytes.now c.as_slice.result.now old new) in
    let P : List ℕ → Type 0 = λ b. OnOk c.write_counted_rules.result (ShowsJudged (origin_of c.args.place) c.args.form c.args.count c.args.self.bytes.now b old new) in
    on_ok c.write_counted_rules.result (ShowsJudged (origin_of c.args.place) c.args.form c.args.count c.args.self.bytes.now given old new) (ShowsCounted c.args.count (Findings c.args.place c.args.form) c.args.self.bytes.now old new)
    (counted_rules c.args.count c.args.place c.args.form c.args.self.bytes.now given old new c.in_ok-given.ensures)
    (subst P c.as_slice.ensures.value (subst O c.origin_of.ensures c.write_counted_rules.ensures))
