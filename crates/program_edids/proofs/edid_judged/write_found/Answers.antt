use Rattle.std.proofs.Common.{◌≡◌, ◌∙◌, ap, false, refl, sym}
use Rattle.rules_check.specs.Findings.{findings}
use Rattle.rules_check.specs.Text.{some_failure}
use Rattle.rules_records.specs.Records.{findings_record}
use Rattle.program_edids.specs.Edids.{ShowsFound}
use Rattle.program_edids.proofs.ShownLemmas.{on_ok}
use Rattle.program_edids.proofs.edid_judged.write_found.Goals as goal

pub returns : goal.returns
returns g c =
    let base = c.args.base.now in
    let extensions = c.args.extensions.now in
    let same : c.as_slice.result.now ≡ findings c.args.origin base extensions = c.as_slice.ensures.value ∙ c.check-found.ensures in
    let written = rw same at c.in_ok-write_findings.ensures in
    let fails : c.has_failure.result ≡ some_failure (findings c.args.origin base extensions) =
    c.has_failure.ensures ∙ ap some_failure (c.as_slice-2.ensures.value ∙ c.check-found.ensures) in
    on_ok c.unless_failed.result (c.has_failure.result ≡ false) (ShowsFound c.args.origin c.args.form base extensions (g.W.Sink.contents c.args.out.now) (g.W.Sink.contents c.write_findings.new.out))
    (λ no. (findings_record c.args.form (findings c.args.origin base extensions), (refl, sym fails ∙ no), written.0)) c.unless_failed.ensures
