use Rattle.std.proofs.Common.{◌++◌}
use Rattle.text_core.proofs.Adding.{then}
use Rattle.audit_report.specs.Texts.{frames_text, head_text, others_text, own_text}
use Rattle.audit_report.proofs.texts.add_row_lines.Goals as goal

pub returns : goal.returns
returns g c =
    let r = c.args.row.now in
    let form = c.args.form in
    let who = c.args.who in
    let said = c.args.contents.now in
    then c.args.out.now c.add_head.new.out c.add_others.new.out (head_text form who) (frames_text form who r ++ (own_text form who r ++ others_text form said who r)) c.add_head.ensures
    (then c.add_head.new.out c.add_frames.new.out c.add_others.new.out (frames_text form who r) (own_text form who r ++ others_text form said who r) c.add_frames.ensures
    (then c.add_frames.new.out c.add_own.new.out c.add_others.new.out (own_text form who r) (others_text form said who r) c.add_own.ensures c.add_others.ensures))
