use Rattle.std.specs.List.{flat_map}
use Rattle.text_core.specs.Lines.{lines_of}
use Rattle.program_calls.proofs.ReportLemmas.{in_order, written}
use Rattle.program_calls.specs.Reports.{nested_line}
use Rattle.program_calls.proofs.reports.write_nested_lines.Goals as goal

pub returns : goal.returns
returns g c =
    written _ _ _ _ (flat_map nested_line (lines_of c.args.report.now)) c.write_lines.result
    (c.write_lines.ensures (flat_map nested_line (lines_of c.args.report.now)) (in_order nested_line (lines_of c.args.report.now)))
