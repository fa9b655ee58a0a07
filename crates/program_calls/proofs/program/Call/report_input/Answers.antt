use Rattle.std.proofs.Common.{◌∙◌, ap, is_ok, map, string_bytes, subst}
use Rattle.program_captures.specs.Captures.{name_of}
use Rattle.cli_words.specs.Named.{named_in}
use Rattle.program_calls.specs.Done.{IsDone}
use Rattle.program_calls.specs.Reports.{report_kind}
use Rattle.program_calls.proofs.ReportLemmas.{all_held, nested, ok_of}
use Rattle.program_calls.proofs.program.Call.report_input.Goals as goal

pub returns-in-Ok : goal.returns-in-Ok
returns-in-Ok g c zero =
    let written = ok_of c.perform-done.result c.in-Ok.told c.in-Ok.is c.perform-done.ensures in
    nested (report_kind c.args.self.asked.choice) (IsDone c.args.self.asked.choice (name_of (named_in (map string_bytes c.args.self.words.now)))) c.args.input.now c.args.name.now written.0
    c.bytes.result.now c.bytes-2.result.now c.report_kind.result c.is_ok.result c.args.number _ _ _
    (subst (λ n. IsDone c.args.self.asked.choice n c.args.input.now written.0) c.signal_of-signal.ensures written.1) c.report_kind.ensures
    (all_held _ _ c.bytes.result.now written.0 c.new-held.ensures.contents c.bytes.ensures.contents written.2)
    (all_held _ _ c.bytes-2.result.now written.0 c.new-held.ensures.contents c.bytes-2.ensures.contents written.2)
    (c.is_ok.ensures.value ∙ ap is_ok c.in-Ok.is) c.in_ok-write_nested.ensures c.in_ok-write_result.ensures
