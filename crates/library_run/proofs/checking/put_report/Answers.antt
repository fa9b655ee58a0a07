use Rattle.std.proofs.Common.{rules}
use Rattle.library_run.proofs.Refusals.{no_refusal, not_checked}
use Rattle.library_run.proofs.checking.put_report.Goals as goal

pub returns-in-Ok : goal.returns-in-Ok
returns-in-Ok c = (search rules, λ more. absurd (no_refusal c.bytes.result.now c.args.room.now c.put.new.room c.put.result c.put.ensures more))

pub returns : goal.returns
returns c = (λ little. absurd (not_checked c.in-Err.error c.check_refused.result c.check_refused.ensures little), search rules)
