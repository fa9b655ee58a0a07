use Rattle.std.proofs.Common.{◌∙◌, sym}
use Rattle.program_captures.specs.Captures.{is_strict}
use Rattle.program_captures.proofs.CaptureLemmas.{no_remark}
use Rattle.program_captures.proofs.capture.without_remark.Goals as goal

pub returns : goal.returns
returns c = λ strict. no_remark (is_strict c.args.report) c.args.remarked (sym c.fails.ensures ∙ c.if-fails.false) strict
