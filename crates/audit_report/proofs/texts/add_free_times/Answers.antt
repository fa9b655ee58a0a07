use Rattle.std.proofs.Common.{◌++◌}
use Rattle.text_core.proofs.Adding.{then}
use Rattle.line_frames.specs.declared.free_time.FreeTime.TheVariants.{Retry, NewInitiator, PresentInitiator}
use Rattle.audit_report.specs.Texts.{free_text}
use Rattle.audit_report.proofs.texts.add_free_times.Goals as goal

pub returns : goal.returns
returns g c =
    let t = c.args.free in
    let text = free_text c.args.form c.args.who in
    then c.args.out.now c.add_free.new.out c.add_free-3.new.out (text Retry t.retry) (text NewInitiator t.new_initiator ++ text PresentInitiator t.present_initiator) c.add_free.ensures
    (then c.add_free.new.out c.add_free-2.new.out c.add_free-3.new.out (text NewInitiator t.new_initiator) (text PresentInitiator t.present_initiator) c.add_free-2.ensures c.add_free-3.ensures)
