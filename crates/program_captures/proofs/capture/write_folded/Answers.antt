use Rattle.std.proofs.Common.{◌≡◌, ◌++◌, List, ap, rules}
use Rattle.text_core.specs.Adds.{Adds}
use Rattle.text_core.proofs.Adding.{text_ended}
use Rattle.text_core.proofs.Counting.{all_of}
use Rattle.audit_notes.specs.Folded.{closed, folded, folded_after, held_as}
use Rattle.audit_notes.specs.Hearing.{both_by}
use Rattle.audit_notes.specs.Lines.{AuditLine, lines_text}
use Rattle.audit_notes.proofs.Groups.{folding as law}
use Rattle.program_captures.proofs.CaptureLemmas.{along, put_as}
use Rattle.program_captures.proofs.capture.write_folded.Goals as goal

pub returns-in-Ok : goal.returns-in-Ok
returns-in-Ok g c =
    let heard = c.hear_report.ensures in
    let folding = c.hear_report.new.hearer.hearer in
    let run = held_as folding.run in
    let done = heard.2.0.0 in
    let first = along c.new-folding.ensures.hearer (λ w. (folding.hearer.form ≡ w.form) × Adds w.out folding.hearer.out (lines_text w.form done)) heard.2.0.1 in
    let told = along c.new-folding.ensures.none (λ r. (rest : List AuditLine) → folded_after (held_as r) (heard.0 ++ rest) ≡ done ++ folded_after run rest) heard.2.0.2 in
    let text = lines_text c.args.written (done ++ closed run) in
    let both = both_by c.args.written folding.hearer.form c.finish-writer.result.form c.new-text.result folding.hearer.out c.finish-writer.result.out done (closed run) first c.finish-writer.ensures in
    let whole = all_of _ _ _ _ text _ _ c.in-Ok.is
    (text_ended g.W.Sink.contents g.W.Sink.is_stuck c.args.out.now _ c.into_sink-below.result.now _ c.into_sink-below.result.ghost_name c.new-text.result c.finish-writer.result.out text c.written-done.result
    c.new-text.ensures both.1 c.written-done.ensures.text
    c.into_sink-below.ensures.loan c.into_sink-below.ensures.known c.into_sink-below.ensures.stuck (search rules)) in
    (heard.0, heard.1, put_as _ _ text (lines_text c.args.written (folded heard.0)) (ap (lines_text c.args.written) (law.ended heard.0 done run told)) whole.0, heard.2.1)
