use Rattle.std.proofs.Common.{◌++◌}
use Rattle.text_core.proofs.Adding.{then}
use Rattle.audit_contents.specs.Texts.{contents_text}
use Rattle.audit_report.specs.Texts.{answers_text, counts_text, free_times_text}
use Rattle.audit_report.proofs.texts.add_others.Goals as goal

pub returns : goal.returns
returns g c =
    let form = c.args.form in
    let r = c.args.row.now in
    let who = c.args.who in
    let said = contents_text form who c.args.contents.now in
    let counts = counts_text form who r.remarks in
    let last = c.add_contents.new.out in
    then c.args.out.now c.add_free_times.new.out last (free_times_text form who r.free) (answers_text form who r ++ (counts ++ said)) c.add_free_times.ensures
    (then c.add_free_times.new.out c.add_answers.new.out last (answers_text form who r) (counts ++ said) c.add_answers.ensures
    (then c.add_answers.new.out c.add_counts.new.out last counts said c.add_counts.ensures c.add_contents.ensures))
