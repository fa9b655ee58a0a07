use Rattle.std.proofs.Common.{ℕ, List, ap, sym, ◌∙◌}
use Rattle.line_reading.specs.Reports.{listed_as}
use Rattle.audit_remarks.specs.Frames.{delivered_frame}
use Rattle.audit_remarks.specs.Header.{initiator_of}
use Rattle.audit_contents.specs.Contents.{after_frame, forget, is_own_poll}
use Rattle.audit_contents.proofs.Choosing.{the_other}
use Rattle.audit_contents.proofs.contents.Contents.note.Goals as goal

pub returns : goal.returns
returns c =
    let x = listed_as c.args.reading.now in
    let before = c.args.self.now in
    let polls = rw c.deref.ensures.0 at c.is_own_poll.ensures in
    the_other (is_own_poll x.reported.bits) (forget (initiator_of x.reported.bits) before) (after_frame x.begin (delivered_frame x) before) c.note_frame.new.self
    (sym polls ∙ c.if-is_own_poll.false)
    (c.note_frame.ensures ∙ ap (λ (f : List ℕ). after_frame x.begin f before) (c.deref-2.ensures.0 ∙ c.delivered_frame.ensures))
