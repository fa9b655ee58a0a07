use Rattle.std.proofs.Common.{refl}
use Rattle.capture_verdict.specs.Texts.{verdict_text}
use Rattle.program_captures.proofs.summary.write_verdict.Goals as goal

pub returns : goal.returns
returns g c =
    (verdict_text c.args.written c.in_ok-verdict.verdict, (c.in_ok-verdict.verdict, c.in_ok-verdict.ensures.verdict, refl), c.in_ok-put_verdict.ensures)
