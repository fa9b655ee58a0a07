use Rattle.std.proofs.Common.{rules, ◌≡◌, length, ap, ◌∙◌}
use Rattle.edid_core.specs.Bytes.{edid_bytes}
use Rattle.edid_core.specs.declared.edid.Edid.{Edid}
use Rattle.rules_check.specs.Findings.{findings}
use Rattle.rules_check.specs.Text.{some_failure}
use Rattle.rules_check.specs.declared.rule.Origin.TheVariants.{Display}
use Rattle.conversion_calls.proofs.edid_findings.edid_to_findings.Goals as goal

pub returns-in-Ok-write_findings-clause-answers : goal.returns-in-Ok-write_findings-clause-answers
returns-in-Ok-write_findings-clause-answers g c =
    let counted : c.in-Ok.base.extensions ≡ length c.read_parts.new.extensions.items = search rules in
    let edid : Edid = record { base = c.in-Ok.base; extensions = c.read_parts.new.extensions; counted = counted; few = c.read_parts.ensures.few } in
    let spelled : edid_bytes edid ≡ c.args.bytes.now = search rules in
    let same : c.as_slice-in-Ok.result.now ≡ findings Display c.in-Ok.base c.read_parts.new.extensions.items =
    c.as_slice-in-Ok.ensures.value ∙ c.check-found.ensures ∙ ap (λ xs. findings Display c.in-Ok.base xs) c.as_slice.ensures.value in
    let written = rw same at c.in-Ok-write_findings.ensures in
    let whole : c.as_slice-in-Ok-write_findings.result.now ≡ findings Display c.in-Ok.base c.read_parts.new.extensions.items =
    c.as_slice-in-Ok-write_findings.ensures.value ∙ c.check-found.ensures ∙ ap (λ xs. findings Display c.in-Ok.base xs) c.as_slice.ensures.value in
    let fails : c.has_failure.result ≡ some_failure (findings Display c.in-Ok.base c.read_parts.new.extensions.items) = c.has_failure.ensures ∙ ap some_failure whole in
    (edid, spelled, written.0, written.1, fails)

pub returns-in-Err-write_findings-clause-answers : goal.returns-in-Err-write_findings-clause-answers
returns-in-Err-write_findings-clause-answers g c =
    let counted : c.in-Ok.base.extensions ≡ length c.read_parts.new.extensions.items = search rules in
    let edid : Edid = record { base = c.in-Ok.base; extensions = c.read_parts.new.extensions; counted = counted; few = c.read_parts.ensures.few } in
    let spelled : edid_bytes edid ≡ c.args.bytes.now = search rules in
    let same : c.as_slice-in-Ok.result.now ≡ findings Display c.in-Ok.base c.read_parts.new.extensions.items =
    c.as_slice-in-Ok.ensures.value ∙ c.check-found.ensures ∙ ap (λ xs. findings Display c.in-Ok.base xs) c.as_slice.ensures.value in
    let written = rw same at c.in-Err-write_findings.ensures in
    (edid, spelled, written)
