use Rattle.std.proofs.Common.{map, string_bytes, sym}
use Rattle.std.proofs.lemmas.List.{take_rest}
use Rattle.program_captures.specs.Captures.{name_of}
use Rattle.cli_words.specs.Named.{named_in}
use Rattle.program_calls.specs.Done.{IsDone}
use Rattle.program_calls.specs.Reports.{report_kind}
use Rattle.program_calls.proofs.ReportLemmas.{more_nested}
use Rattle.program_calls.proofs.program.Call.+report_each.Goals as goal

pub returns-in_ok-rest-in-len1-up : goal.returns-in_ok-rest-in-len1-up
returns-in_ok-rest-in-len1-up g t c zero =
    let both = c.greater.ensures zero in
    more_nested string_bytes (report_kind c.args.self.asked.choice) (IsDone c.args.self.asked.choice (name_of (named_in (map string_bytes c.args.self.words.now)))) (g.F.Opens.held c.args.files.now) c.args.count
    c.saturating_sub-number.result c.name-item.result _ c.args.names.now _ c.as_str.result.now _ _ _ c.in-len1-up.len_at_least c.name-item.is (take_rest c.args.names.now 1)
    c.as_str.ensures.value c.saturating_sub-number.ensures (c.in_ok-first-in-len1-up.ensures both.0) (c.in_ok-rest-in-len1-up.ensures both.1)
