use Rattle.library_run.proofs.Refusals.{no_refusal, not_watched}
use Rattle.library_run.proofs.watching.put_readings.Goals as goal

pub returns-in-Ok-clause-refused : goal.returns-in-Ok-clause-refused
returns-in-Ok-clause-refused c = λ more. absurd (no_refusal c.bytes.result.now c.args.room.now c.put.new.room c.put.result c.put.ensures more)

pub returns-clause-done : goal.returns-clause-done
returns-clause-done c = λ little. absurd (not_watched c.in-Err.error c.watch_refused.result c.watch_refused.ensures little)
