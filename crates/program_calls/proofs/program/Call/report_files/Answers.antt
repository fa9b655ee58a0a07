use Rattle.std.proofs.Common.{length, map, refl, string_bytes, sym}
use Rattle.std.proofs.lemmas.List.{length-map}
use Rattle.program_captures.specs.Captures.{name_of}
use Rattle.cli_words.specs.Named.{named_in}
use Rattle.program_calls.specs.Done.{IsDone}
use Rattle.program_calls.specs.Reports.{report_kind}
use Rattle.program_calls.proofs.ReportLemmas.{reports}
use Rattle.program_calls.proofs.program.Call.report_files.Goals as goal

pub returns : goal.returns
returns g c zero =
    reports (report_kind c.args.self.asked.choice) (IsDone c.args.self.asked.choice (name_of (named_in (map string_bytes c.args.self.words.now)))) (g.F.Opens.held c.args.files.now) (length c.args.names.now)
    (map string_bytes c.args.names.now) _ _ _ _ _ (sym (length-map c.args.names.now string_bytes)) refl c.in_ok-put_all.ensures.ok (c.in_ok-status.ensures zero) c.in_ok-write_plan.ensures
