use Rattle.library_run.proofs.Refusals.{no_refusal, not_run}
use Rattle.library_run.proofs.run.put_edges.Goals as goal

pub returns-in-Ok-clause-refused : goal.returns-in-Ok-clause-refused
returns-in-Ok-clause-refused c = λ more. absurd (no_refusal c.bytes.result.now c.args.room.now c.put.new.room c.put.result c.put.ensures more)

pub returns-clause-done : goal.returns-clause-done
returns-clause-done c = λ little. absurd (not_run c.in-Err.error c.run_refused.result c.run_refused.ensures little)
